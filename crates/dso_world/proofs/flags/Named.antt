-- What is chosen by a seed, from what a chooser keeps.
use Rattle.std.proofs.Common.{ℕ, suc, ◌+◌, ◌≡◌, sym, ◌∙◌, ap, Bool, Option, Some, None, List, arith}
use Rattle.dso_world.specs.ChosenSlot.{lot, seed_after}
use Rattle.dso_world.specs.Flags.{Row, chosen_place, nth_set, set_count}
use Rattle.dso_world.proofs.flags.NthSet.{not_there}

-- nothing, where no flag is set
pub none_named : (row : Row) (seed count : ℕ) → count ≡ set_count row.flags → count ≡ 0 → None ≡ chosen_place (Some seed) row
none_named row seed count is none = sym (not_there (lot (seed_after (suc row.entries) seed) (set_count row.flags)) row.flags (omega (arith, is, none)))

-- the flag that the seed names, moved on so often
pub named : (row : Row) (slice : List Bool) (seed from moves now count number : ℕ) (place : Option ℕ) → place ≡ nth_set number slice → slice ≡ row.flags
    → number ≡ lot now count → now ≡ seed_after moves from → from ≡ seed → moves ≡ row.entries + 1 → count ≡ set_count row.flags → place ≡ chosen_place (Some seed) row
named row slice seed from moves now count number place is of names reached its often counts =
    let one_more : moves ≡ suc row.entries = omega (arith, often) in
    is ∙ ap (nth_set number) of ∙ ap (λ n. nth_set n row.flags) (names ∙ ap (λ n. lot now n) counts ∙ ap (λ x. lot x (set_count row.flags)) (reached ∙ ap (λ n. seed_after n from) one_more ∙ ap (seed_after (suc row.entries)) its))

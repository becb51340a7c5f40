-- What a torn write leaves may also be left by a longer one.
use Rattle.std.proofs.Common.{◌≡◌, ℕ, ◌+◌, ◌-◌, ◌≤◌, List, drop, sym, ◌∙◌, ap, arith}
use Rattle.std.proofs.lemmas.List.{drop-drop}
use Rattle.dso_keep.specs.Disk.{Torn}

pub torn_wider : (at few many : ℕ) (old left : List ℕ) → few ≤ many → Torn at few old left → Torn at many old left
torn_wider at few many old left le torn = record {
  before = torn.before;
  behind = further left ∙ ap (λ (l : List ℕ). drop (many - few) l) torn.behind ∙ sym (further old);
  no_shorter = torn.no_shorter;
  no_longer = omega (arith, le, torn.no_longer);
}
  where
    further : (l : List ℕ) → drop (at + many) l ≡ drop (many - few) (drop (at + few) l)
    further l = sym (drop-drop (many - few) (at + few) l ∙ ap (λ (n : ℕ). drop n l) (omega (arith, le)))

-- What a small journal weighs is small.
use Rattle.std.specs.List.{list_all}
use Rattle.std.proofs.Common.{arith, ℕ, ◌≡◌, ◌<◌, ◌^◌, refl, Bool, true, false, ◌&&◌, List, [], ◌∷◌, length, sum_by}
use Rattle.std.proofs.lemmas.Bool.{eqb-true}
use Rattle.std.proofs.lemmas.List.Sums.{sum_by-cons}
use Rattle.dso_base.specs.declared.journal.Entry.{Entry}
use Rattle.dso_base.specs.declared.journal.Journal.{Journal}
use Rattle.dso_base.specs.declared.journal.Sent.{Sent}
use Rattle.dso_base.specs.Weight.{sent_values_of, entry_weight_of, weight_of}
use Rattle.heap_cases.specs.SmallJournals.{IsSmall, sends_nothing}

-- both of two tests that hold together hold
both : (a b : Bool) → (a && b) ≡ true → (a ≡ true) × (b ≡ true)
both true true e = (refl, refl)
both true false e = absurd (cc e)
both false b e = absurd (cc e)

-- no message has no values
no_values : (sent : List Sent) → length sent ≡ 0 → sum_by sent_values_of sent ≡ 0
no_values [] e = refl
no_values (s ∷ sent) e = omega (arith, e)

-- entries that send nothing weigh one each
weight_of_all : (es : List Entry) → list_all sends_nothing es ≡ true → sum_by entry_weight_of es ≡ length es
weight_of_all [] none = refl
weight_of_all (e ∷ es) none =
    let parts = both (sends_nothing e) (list_all sends_nothing es) none in
    omega (arith, sum_by-cons entry_weight_of e es, no_values e.sent (eqb-true (length e.sent) 0 parts.0), weight_of_all es parts.1)

-- their weight fits
pub weight_fits : (journal : Journal) → IsSmall journal.entries → weight_of journal < 2 ^ 64
weight_fits journal small = omega (arith, small.few, weight_of_all journal.entries small.silent)

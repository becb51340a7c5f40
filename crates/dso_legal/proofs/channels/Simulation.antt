-- What is so of each message where it comes, in a weaker form.
use Rattle.std.proofs.Common.{List, [], ◌∷◌}
use Rattle.dso_legal.specs.Agreement.{EachMay}

-- what is so of each message where it comes, weakened
pub each_implies : {M S : Type 0} (may may_too : M → S → Type 0) (step : M → S → S) → ((m : M) (s : S) → may m s → may_too m s) → (ms : List M) (s : S) → EachMay may step ms s → EachMay may_too step ms s
each_implies may may_too step imply [] s h = tt
each_implies may may_too step imply (m ∷ ms) s h = (imply m s h.0, each_implies may may_too step imply ms (step m s) h.1)

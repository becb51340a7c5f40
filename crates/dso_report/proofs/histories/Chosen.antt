-- What holds after a write, where it holds of the old and of the new.
use Rattle.std.proofs.Common.{Bool, true, false, cond, Some, None}
use Rattle.dso_lookup.specs.Maps.{or_old}

-- it holds of the value that a test chooses: the new one, or else the old one
pub chosen : {A : Type 0} (P : A → Type 0) (b : Bool) (new old : A) → P new → P old → P (or_old (cond b (Some new) None) old)
chosen P true new old there was = there
chosen P false new old there was = was

-- it holds of the value that two tests choose: the first new one, or else the second, or else the old one
pub chosen_of_two : {A : Type 0} (P : A → Type 0) (a b : Bool) (first second old : A) → P first → P second → P old → P (or_old (cond a (Some first) (cond b (Some second) None)) old)
chosen_of_two P true b first second old one two was = one
chosen_of_two P false true first second old one two was = two
chosen_of_two P false false first second old one two was = was

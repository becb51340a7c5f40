-- How a run goes on by its collections. Entries stand with the newest first.
use Rattle.std.specs.Prelude.{ℕ, ◌≡◌, ◌<◌, ◌*◌, ◌%◌, ◌↔◌, ◌++◌, Bool, true, false, eqb, Option, Some, None}
use Rattle.std.specs.Prelude.{List, length}
use Rattle.dso_base.specs.declared.journal.Entry.{Entry}
use Rattle.dso_class.specs.declared.program.Program.{Program}
use Rattle.dso_world.specs.declared.world.World.{World}
use Rattle.dso_world.specs.Collections.{IsGarbageThen, Sweeps}
use Rattle.dso_world.specs.WorldStands.{IsSweptIn, entries_in}
use Rattle.dso_run.specs.Swept.{AreSoMany}

-- whether a collection is due after the entries, where one is made after n of them each
abbrev pub is_due : ℕ → List Entry → Bool
is_due n es = eqb (length es % n) 0

-- a collection is made where it is due, and swept so many objects; else nothing is done
abbrev pub CollectsIf : Bool → Program → ℕ → World → World → Type 0
CollectsIf true p count old new = Sweeps p count old new
CollectsIf false p count old new = (count ≡ 0) × (new ≡ old)

-- so where a collection is made after so many entries each, if any is
abbrev pub Collects : Program → Option ℕ → ℕ → World → World → Type 0
Collects p None count old new = (count ≡ 0) × (new ≡ old)
Collects p (Some n) count old new = CollectsIf (is_due n (entries_in old)) p count old new

-- Swept so far, with a collection after n entries each: the last was after as many of the world's first entries as
-- are the greatest multiple of n, or there was none yet; what was swept is what is garbage after those, and so many.
pub record SweptSoFar (p : Program) (n count : ℕ) (world : World) : Type 0 where
  pub times : ℕ
  pub later : List Entry
  pub first : List Entry
  pub whole : entries_in world ≡ later ++ first
  pub multiple : length first ≡ times * n
  pub few : length later < n
  pub swept : (o : ℕ) → IsSweptIn p world o ↔ IsGarbageThen p first o
  pub counted : AreSoMany (IsGarbageThen p first) count

-- so where a collection is made after so many entries each; where none is made nothing is counted
abbrev pub CountsSoFar : Program → Option ℕ → ℕ → World → Type 0
CountsSoFar p None count world = count ≡ 0
CountsSoFar p (Some n) count world = SweptSoFar p n count world

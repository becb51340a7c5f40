-- What the collections of a run swept: how many objects, and what is told of that. Entries stand with the newest first.
use Rattle.std.specs.Fmt.{decimal}
use Rattle.std.specs.List.{IsDistinct}
use Rattle.std.specs.Prelude.{ℕ, ◌≡◌, ◌↔◌, ◌++◌, eqb, Option, Some, None, List, length, codes, reverse}
use Rattle.dso_base.specs.declared.journal.Entry.{Entry}
use Rattle.dso_class.specs.declared.program.Program.{Program}
use Rattle.dso_gc.specs.Garbage.{IsIn}
use Rattle.dso_legal.specs.Collection.{IsSwept}
use Rattle.dso_machine.specs.Frames.{frames_after}
use Rattle.dso_machine.specs.Next.{next_request}
use Rattle.dso_world.specs.WorldSteps.{settings_of}

-- There are so many of these objects: a list has exactly them, each once, and is of this length.
pub record AreSoMany (IsOne : ℕ → Type 0) (count : ℕ) : Type 0 where
  pub objects : List ℕ
  pub different : IsDistinct eqb objects
  pub many : length objects ≡ count
  pub exact : (o : ℕ) → IsIn objects o ↔ IsOne o

-- So many different objects are garbage after n, 2n, 3n .. entries of the journal, whose first entry stands first.
abbrev pub IsSweptCount : Program → ℕ → List Entry → ℕ → Type 0
IsSweptCount p n journal count =
    AreSoMany (IsSwept (settings_of p) (next_request p.code) (frames_after p.code) n (reverse journal)) count

-- so many objects were swept in a run, by collections after so many entries each; of one without any nothing is said
abbrev pub CountsSwept : Program → Option ℕ → List Entry → ℕ → Type 0
CountsSwept p None journal count = Unit {0}
CountsSwept p (Some n) journal count = IsSweptCount p n journal count

-- the line that tells how many objects were swept
abbrev pub swept_line : ℕ → List ℕ
swept_line count = codes "swept " ++ (decimal count ++ codes "\n")

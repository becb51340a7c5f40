-- Maps from keys to rows of values.
use Rattle.std.specs.Prelude.{Bool, List, [], ◌∷◌, ◌++◌, if◌then◌else◌, Option, Some, None}
use Rattle.std.specs.declared.cmp.Ordering.{Ordering}
use Rattle.std.specs.BTreeMap.{BTreeMap, get}

-- the row that stands there, the empty one where none does
abbrev pub row_there : {V : Type 0} → Option (List V) → List V
row_there None = []
row_there (Some row) = row

-- the row of a key
abbrev pub row_of : {K V : Type 0} → (K → K → Ordering) → BTreeMap K (List V) → K → List V
row_of cmp rows key = row_there (get cmp rows key)

-- a row with one more value at its end, where it is longer
abbrev pub longer : {V : Type 0} → Bool → List V → V → List V
longer is row value = if is then row ++ value ∷ [] else row

-- a row, the empty one where it was taken out
abbrev pub unless : {V : Type 0} → Bool → List V → List V
unless taken row = if taken then [] else row

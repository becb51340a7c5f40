-- Maps of rows seen as functions from pairs of keys.
use Rattle.std.specs.Prelude.{Bool, ◌&&◌, Option, Some, None}
use Rattle.std.specs.declared.cmp.Ordering.{Ordering}
use Rattle.std.specs.BTreeMap.{BTreeMap, get, is_at}

-- the value at a key of a row, if there is such a row
abbrev pub in_row : {K V : Type 0} → (K → K → Ordering) → Option (BTreeMap K V) → K → Option V
in_row cmp None key = None
in_row cmp (Some row) key = get cmp row key

-- a map of rows as a function: the value at each pair of keys
abbrev pub look_in : {J K V : Type 0} → (J → J → Ordering) → (K → K → Ordering) → BTreeMap J (BTreeMap K V) → J × K
    → Option V
look_in outer inner m key = in_row inner (get outer m key.0) key.1

-- the key is this pair
abbrev pub is_at_pair : {J K : Type 0} → (J → J → Ordering) → (K → K → Ordering) → J → K → J × K → Bool
is_at_pair outer inner j k key = is_at (outer j) key.0 && is_at (inner k) key.1

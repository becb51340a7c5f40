-- Maps of lists, which keep the newest value last, seen as functions to lists that have it first.
use Rattle.std.specs.Prelude.{Option, Some, None, List, [], reverse}
use Rattle.std.specs.declared.cmp.Ordering.{Ordering}
use Rattle.std.specs.BTreeMap.{BTreeMap}
use Rattle.dso_lookup.specs.Maps.{look}

-- a list that keeps the newest last, the newest first, none where there is no list
abbrev pub newest_first : {A : Type 0} → Option (List A) → List A
newest_first None = []
newest_first (Some items) = reverse items

-- a map of lists that keep the newest last, as a function to lists that have it first
abbrev pub lists_of : {K A : Type 0} → (K → K → Ordering) → BTreeMap K (List A) → K → List A
lists_of cmp map key = newest_first (look cmp map key)

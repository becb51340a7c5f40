-- The order in which the graph's objects are numbered: breadth first, from the roots.
use Rattle.std.specs.Prelude.{ℕ, zero, suc, ◌≡◌, eqb, Option, Some, None, List, [], ◌∷◌, ◌++◌, if◌then◌else◌, length}
use Rattle.std.specs.Prelude.{slice_get}
use Rattle.std.specs.List.{fold, list_any}
use Rattle.dso_base.specs.declared.value.Value.{Value}
use Rattle.dso_base.specs.declared.value.Value.TheVariants as value
use Rattle.dso_plain.specs.State.{PlainState, size_of}
use Rattle.dso_report.specs.declared.maps.MapEntry.{MapEntry}
use Rattle.dso_report.specs.MapEntries.{is_map_there, map_entries}

-- how many fields or elements an object has
abbrev pub fields_of : PlainState → ℕ → ℕ
fields_of s o = size_of (s.objects o)

-- an object comes last where the order does not have it yet
abbrev pub add_object : List ℕ → ℕ → List ℕ
add_object order o = if list_any (eqb o) order then order else order ++ o ∷ []

-- the object that a field's value names, if it names one, is added
abbrev pub add_named : List ℕ → Option Value → List ℕ
add_named order (Some (value.Ref o)) = add_object order o
add_named order v = order

-- the objects that the first n fields of an object name are added, by the order of the fields
abbrev pub add_fields : PlainState → ℕ → ℕ → List ℕ → List ℕ
add_fields s o zero order = order
add_fields s o (suc n) order = add_named (add_fields s o n order) (s.heap (o, n))

-- the objects of a map's entries are added, by the order of the entries
abbrev pub add_entries : List MapEntry → List ℕ → List ℕ
add_entries entries order = fold (λ objects entry. add_object objects entry.object) order entries

-- the objects that an object shows are added: those of a map's entries, and those that the fields of another name
abbrev pub add_shown : PlainState → ℕ → List ℕ → List ℕ
add_shown s o order = if is_map_there (s.objects o) then add_entries (map_entries s o) order else add_fields s o
    (fields_of s o) order

-- the objects that an object shows are added; nothing, where there is no object to visit
abbrev pub visit : PlainState → Option ℕ → List ℕ → List ℕ
visit s None order = order
visit s (Some o) order = add_shown s o order

-- The order after n visits: the roots' objects come first, and then the objects of the order are visited, one by one.
abbrev pub visited : PlainState → ℕ → List ℕ
visited s zero = add_fields s 0 (fields_of s 0) []
visited s (suc n) = visit s (slice_get (visited s n) n) (visited s n)

-- The order of all objects that can be reached: after as many visits as it has objects there is no other.
abbrev pub IsOrder : PlainState → List ℕ → Type 0
IsOrder s order = order ≡ visited s (length order)

-- What holds of each object that a field names holds of each object of the graph's order.
use Rattle.std.proofs.Common.{◌≡◌, ℕ, zero, suc, Bool, true, false, cond, ◌++◌, Option, Some, None, List, [], ◌∷◌, length, slice_get, refl, sym, subst, All}
use Rattle.std.specs.List.{list_any}
use Rattle.std.specs.Prelude.{eqb}
use Rattle.std.proofs.lemmas.List.Elements.{All-head, All-nil, All-push, All-tail}
use Rattle.dso_base.specs.declared.value.Value.{Value}
use Rattle.dso_base.specs.declared.value.Value.TheVariants as value
use Rattle.dso_map.specs.Fields.{slots, place_of}
use Rattle.dso_map.specs.Fields.MapField.{Held}
use Rattle.dso_plain.specs.State.{PlainState}
use Rattle.dso_report.specs.declared.maps.MapEntry.{MapEntry}
use Rattle.dso_report.specs.MapEntries.{is_map_there, map_entries}
use Rattle.dso_report.specs.Numbering.{IsOrder, add_entries, add_fields, add_named, add_object, visit, visited, fields_of}
use Rattle.dso_report.proofs.entries.OfSlots.{OfObject, entries_hold}

module _ (P : ℕ → Type 0) where
  -- where it holds of each object of an order it still does once another is added of which it holds
  object_holds : (b : Bool) (order : List ℕ) (o : ℕ) → All P order → P o → All P (cond b order (order ++ o ∷ []))
  object_holds true order o each holds = each
  object_holds false order o each holds = All-push P order o each holds

  -- where it holds of each object of an order it still does once the object of a field is added
  named_holds : (order : List ℕ) (held : Option Value) → All P order → ((named : ℕ) → held ≡ Some (value.Ref named) → P named) → All P (add_named order held)
  named_holds order (Some (value.Ref o)) each holds = object_holds (list_any (eqb o) order) order o each (holds o refl)
  named_holds order held each holds = each

  -- where it holds of each object of an order it still does once the objects of some entries are added
  added_hold : (entries : List MapEntry) (order : List ℕ) → All (OfObject P) entries → All P order → All P (add_entries entries order)
  added_hold [] order all each = each
  added_hold (entry ∷ entries) order all each =
      added_hold entries (add_object order entry.object) (All-tail (OfObject P) entry entries all)
      (object_holds (list_any (eqb entry.object) order) order entry.object each (All-head (OfObject P) entry entries all))

  module _ (s : PlainState) (holds : (o f named : ℕ) → s.heap (o, f) ≡ Some (value.Ref named) → P named) where
    -- where it holds of each object of an order it still does once the objects of some fields are added
    fields_hold : (o n : ℕ) (order : List ℕ) → All P order → All P (add_fields s o n order)
    fields_hold o zero order each = each
    fields_hold o (suc n) order each = named_holds (add_fields s o n order) (s.heap (o, n)) (fields_hold o n order each) (holds o n)

    -- where it holds of each object of an order it still does once the objects that an object shows are added
    shown_hold : (o : ℕ) (b : Bool) (order : List ℕ) → All P order → All P (cond b (add_entries (map_entries s o) order) (add_fields s o (fields_of s o) order))
    shown_hold o true order each = added_hold (map_entries s o) order (entries_hold (OfObject P) s o slots (λ slot named within. holds o (place_of (Held slot)) named)) each
    shown_hold o false order each = fields_hold o (fields_of s o) order each

    -- where it holds of each object of an order it still does once an object is visited
    visit_holds : (found : Option ℕ) (order : List ℕ) → All P order → All P (visit s found order)
    visit_holds None order each = each
    visit_holds (Some o) order each = shown_hold o (is_map_there (s.objects o)) order each

    -- it holds of each object that some visits have found
    visits_hold : (n : ℕ) → All P (visited s n)
    visits_hold zero = fields_hold 0 (fields_of s 0) [] (All-nil P)
    visits_hold (suc n) = visit_holds (slice_get (visited s n) n) (visited s n) (visits_hold n)

    -- it holds of each object of the graph's order
    pub all_named : (order : List ℕ) → IsOrder s order → All P order
    all_named order is = subst (All P) (sym is) (visits_hold (length order))

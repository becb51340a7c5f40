-- The order of the graph's objects has each object that a field of object 0 or of an object of the order names, and of
-- a map each that a slot holds.
use Rattle.std.proofs.Common.{◌≡◌, inl, inr, ℕ, zero, suc, Bool, true, false, true≢false, cond, ◌<◌, ◌++◌, Option, Some, None, List, [], ◌∷◌, length, slice_get, refl, sym, ap, ◌∙◌, subst, arith, Contains}
use Rattle.std.specs.List.{list_any, slice_index_or}
use Rattle.std.specs.Prelude.{eqb}
use Rattle.std.proofs.lemmas.Bool.{cases_eq, eqb-true}
use Rattle.std.proofs.lemmas.List.Elements.{Contains-push}
use Rattle.std.proofs.lemmas.Map.Views.{Contains-from_any}
use Rattle.std.proofs.lemmas.Option.{none-some, same_Some, slice_get-get_or, slice_get_within}
use Rattle.dso_base.specs.declared.value.Value.TheVariants as value
use Rattle.dso_map.specs.Fields.{slots, place_of}
use Rattle.dso_map.specs.Fields.MapField.{Key, Held}
use Rattle.dso_plain.specs.State.{PlainState, HasField}
use Rattle.dso_report.specs.declared.maps.MapEntry.{MapEntry}
use Rattle.dso_report.specs.Held.{number_in}
use Rattle.dso_report.specs.MapEntries.{is_map_there, map_entries}
use Rattle.dso_report.specs.Numbering.{IsOrder, add_object, add_entries, add_fields, add_named, visit, visited, fields_of}
use Rattle.dso_report.specs.WholeState.{IsClosedOrder}
use Rattle.dso_report.proofs.entries.OfSlots.{slot_there}
use Rattle.dso_report.proofs.ordering.GoesOn.{GoesOn, entries_go_on, named_goes_on, same_place, stays_in, visit_goes_on}

-- an object that is added is there
added_there : (b : Bool) (order : List ℕ) (o : ℕ) → list_any (eqb o) order ≡ b → Contains (cond b order (order ++ o ∷ [])) o
added_there true order o found = Contains-from_any eqb-true o order found
added_there false order o found = Contains-push order o

-- ---- what an object shows is there once it is added

-- an object is there once a field that names it was added
fields_there : (s : PlainState) (o n f named : ℕ) (order : List ℕ) → f < n → s.heap (o, f) ≡ Some (value.Ref named) → Contains (add_fields s o n order) named
fields_there s o zero f named order below holds = absurd (omega (arith, below))
fields_there s o (suc n) f named order below holds =
    let before = add_fields s o n order in
    elim (cases_eq f n) [
      | inl last ↦
          let here : s.heap (o, n) ≡ Some (value.Ref named) = ap (λ at. s.heap (o, at)) (sym last) ∙ holds in
          subst (λ held. Contains (add_named before held) named) (sym here) (added_there (list_any (eqb named) before) before named refl)
      | inr earlier ↦ stays_in before (add_named before (s.heap (o, n))) named (named_goes_on before (s.heap (o, n))) (fields_there s o n f named order (omega (arith, below, earlier)) holds)
    ]

-- the object of an entry is there once the entries were added
entries_there : (entries : List MapEntry) (k : ℕ) (order : List ℕ) (entry : MapEntry) → k < length entries → slice_index_or entries k entry ≡ entry → Contains (add_entries entries order) entry.object
entries_there [] k order entry within is = absurd (omega (arith, within))
entries_there (first ∷ rest) zero order entry within is =
    let next = add_object order first.object in
    let there : Contains next first.object = added_there (list_any (eqb first.object) order) order first.object refl in
    stays_in next (add_entries rest next) entry.object (entries_go_on rest next) (subst (λ (e : MapEntry). Contains next e.object) is there)
entries_there (first ∷ rest) (suc k) order entry within is = entries_there rest k (add_object order first.object) entry (omega (arith, within)) is

-- ---- what an object shows, in an order

-- the order has all that an object shows: what a map's slots hold, or what the fields of another name
record HasShown (s : PlainState) (order : List ℕ) (o : ℕ) : Type 0 where
  fields : (f named : ℕ) → is_map_there (s.objects o) ≡ false → HasField o f s → s.heap (o, f) ≡ Some (value.Ref named) → Contains order named
  held : (slot named : ℕ) → is_map_there (s.objects o) ≡ true → slot < slots → s.heap (o, place_of (Held slot)) ≡ Some (value.Ref named) → Contains order named

-- an order that goes on still has all that an object shows
still_has_shown : (s : PlainState) (a b : List ℕ) (o : ℕ) → GoesOn a b → HasShown s a o → HasShown s b o
still_has_shown s a b o on had = record {
  fields = λ f named other has holds. stays_in a b named on (had.fields f named other has holds);
  held = λ slot named map within holds. stays_in a b named on (had.held slot named map within holds);
}

-- what is added of an object is all that it shows
shown_there : (s : PlainState) (o : ℕ) (b : Bool) (order : List ℕ) → is_map_there (s.objects o) ≡ b → HasShown s (cond b (add_entries (map_entries s o) order) (add_fields s o (fields_of s o) order)) o
shown_there s o true order is = record {
  fields = λ f named other has holds. absurd (true≢false (sym is ∙ other));
  held = λ slot named map within holds.
      let entry : MapEntry = record { key = number_in (s.heap (o, place_of (Key slot))); object = named } in
      let there = slot_there s o slots slot named within holds in
      entries_there (map_entries s o) there.0 order entry there.1 there.2;
}
shown_there s o false order is = record {
  fields = λ f named other has holds. fields_there s o (fields_of s o) f named order has holds;
  held = λ slot named map within holds. absurd (true≢false (sym map ∙ is));
}

-- after an object's visit the order has all that it shows
visit_has_shown : (s : PlainState) (o : ℕ) (order : List ℕ) → HasShown s (visit s (Some o) order) o
visit_has_shown s o order = shown_there s o (is_map_there (s.objects o)) order refl

-- ---- visit by visit

-- the order has all that the roots name, and all that its first n objects show
record IsVisited (s : PlainState) (n : ℕ) (order : List ℕ) : Type 0 where
  roots : (f named : ℕ) → HasField 0 f s → s.heap (0, f) ≡ Some (value.Ref named) → Contains order named
  objects : (k o : ℕ) → k < n → slice_get order k ≡ Some o → HasShown s order o

-- once one object more is visited, the order has all that it shows, too
one_visit_more : (s : PlainState) (n : ℕ) (order : List ℕ) (found : Option ℕ) → slice_get order n ≡ found → IsVisited s n order → IsVisited s (suc n) (visit s found order)
one_visit_more s n order None is before = record {
  roots = before.roots;
  objects = λ k o within stands. elim (cases_eq k n) [
    | inl last ↦ absurd (none-some o (sym is ∙ ap (slice_get order) (sym last) ∙ stands))
    | inr earlier ↦ before.objects k o (omega (arith, within, earlier)) stands
  ];
}
one_visit_more s n order (Some visited) is before =
    let next = visit s (Some visited) order in
    let on = visit_goes_on s (Some visited) order in
    record {
      roots = λ f named has holds. stays_in order next named on (before.roots f named has holds);
      objects = λ k o within stands.
          let stood : slice_get order k ≡ Some o = sym (same_place order next k on (omega (arith, within, slice_get_within order n visited is))) ∙ stands in
          elim (cases_eq k n) [
            | inl last ↦ subst (HasShown s next) (same_Some visited o (sym is ∙ ap (slice_get order) (sym last) ∙ stood)) (visit_has_shown s visited order)
            | inr earlier ↦ still_has_shown s order next o on (before.objects k o (omega (arith, within, earlier)) stood)
          ];
    }

-- after n visits the order has all that the roots name, and all that its first n objects show
all_visited : (s : PlainState) (n : ℕ) → IsVisited s n (visited s n)
all_visited s zero = record {
  roots = λ f named has holds. fields_there s 0 (fields_of s 0) f named [] has holds;
  objects = λ k o within stands. absurd (omega (arith, within));
}
all_visited s (suc n) = one_visit_more s n (visited s n) (slice_get (visited s n) n) refl (all_visited s n)

-- the order has each object that is shown
pub orders_are_closed : (s : PlainState) (order : List ℕ) → IsOrder s order → IsClosedOrder s order
orders_are_closed s order is =
    let all : IsVisited s (length order) order = subst (IsVisited s (length order)) (sym is) (all_visited s (length order)) in
    let shown : (o : ℕ) → Contains order o → HasShown s order o = λ o there. all.objects there.0 o there.1 (slice_get-get_or order there.0 o there.1 ∙ ap Some there.2) in
    record {
      roots = all.roots;
      fields = λ o f named there. (shown o there).fields f named;
      held = λ o slot named there. (shown o there).held slot named;
    }

-- An order of the graph's objects goes on at its end alone: nothing is taken out, and no object moves.
use Rattle.std.proofs.Common.{◌≡◌, ℕ, zero, suc, Bool, true, false, cond, ◌<◌, ◌≤◌, ◌++◌, Option, Some, None, List, [], ◌∷◌, length, slice_get, refl, sym, ap, ◌∙◌, subst, arith, append_assoc, append-nil, Contains}
use Rattle.std.specs.List.{list_any}
use Rattle.std.specs.Prelude.{eqb}
use Rattle.std.proofs.lemmas.List.{length-append}
use Rattle.std.proofs.lemmas.List.Elements.{Contains-append_left}
use Rattle.dso_base.specs.declared.value.Value.{Value}
use Rattle.dso_base.specs.declared.value.Value.TheVariants as value
use Rattle.dso_plain.specs.State.{PlainState}
use Rattle.dso_report.specs.declared.maps.MapEntry.{MapEntry}
use Rattle.dso_report.specs.MapEntries.{is_map_there, map_entries}
use Rattle.dso_report.specs.Numbering.{add_named, add_object, add_entries, add_fields, visit, fields_of}

-- the one order is the other with more at its end
pub record GoesOn (before after : List ℕ) : Type 0 where
  pub rest : List ℕ
  pub is : after ≡ before ++ rest

-- an order goes on as itself
goes_on_itself : (order : List ℕ) → GoesOn order order
goes_on_itself order = record { rest = []; is = sym (append-nil order) }

-- what goes on twice goes on
goes_on_twice : (a b c : List ℕ) → GoesOn a b → GoesOn b c → GoesOn a c
goes_on_twice a b c one other = record {
  rest = one.rest ++ other.rest;
  is = other.is ∙ ap (λ front. front ++ other.rest) one.is ∙ append_assoc a one.rest other.rest;
}

-- an order that goes on gets no shorter
pub no_shorter : (a b : List ℕ) → GoesOn a b → length a ≤ length b
no_shorter a b on = omega (arith, ap length on.is, length-append a on.rest)

-- an object stays in an order that goes on
pub stays_in : (a b : List ℕ) (o : ℕ) → GoesOn a b → Contains a o → Contains b o
stays_in a b o on there = subst (λ order. Contains order o) (sym on.is) (Contains-append_left a on.rest o there)

-- what stands in the front of a list
front_stays : (xs ys : List ℕ) (k : ℕ) → k < length xs → slice_get (xs ++ ys) k ≡ slice_get xs k
front_stays [] ys k within = absurd (omega (arith, within))
front_stays (x ∷ xs) ys zero within = refl
front_stays (x ∷ xs) ys (suc k) within = front_stays xs ys k (omega (arith, within))

-- an object stays at its place in an order that goes on
pub same_place : (a b : List ℕ) (k : ℕ) → GoesOn a b → k < length a → slice_get b k ≡ slice_get a k
same_place a b k on within = ap (λ order. slice_get order k) on.is ∙ front_stays a on.rest k within

-- where an object is added the order goes on
object_goes_on : (b : Bool) (order : List ℕ) (o : ℕ) → GoesOn order (cond b order (order ++ o ∷ []))
object_goes_on true order o = goes_on_itself order
object_goes_on false order o = record { rest = o ∷ []; is = refl }

-- where the object of a field is added the order goes on
pub named_goes_on : (order : List ℕ) (held : Option Value) → GoesOn order (add_named order held)
named_goes_on order (Some (value.Ref o)) = object_goes_on (list_any (eqb o) order) order o
named_goes_on order held = goes_on_itself order

-- where the objects of some fields are added the order goes on
pub fields_go_on : (s : PlainState) (o n : ℕ) (order : List ℕ) → GoesOn order (add_fields s o n order)
fields_go_on s o zero order = goes_on_itself order
fields_go_on s o (suc n) order =
    let before = add_fields s o n order in
    let held = s.heap (o, n) in
    goes_on_twice order before (add_named before held) (fields_go_on s o n order) (named_goes_on before held)

-- where the objects of some entries of a map are added the order goes on
pub entries_go_on : (entries : List MapEntry) (order : List ℕ) → GoesOn order (add_entries entries order)
entries_go_on [] order = goes_on_itself order
entries_go_on (entry ∷ entries) order =
    let next = add_object order entry.object in
    goes_on_twice order next (add_entries entries next) (object_goes_on (list_any (eqb entry.object) order) order entry.object) (entries_go_on entries next)

-- where the objects that an object shows are added the order goes on
pub shown_goes_on : (s : PlainState) (o : ℕ) (b : Bool) (order : List ℕ) → GoesOn order (cond b (add_entries (map_entries s o) order) (add_fields s o (fields_of s o) order))
shown_goes_on s o true order = entries_go_on (map_entries s o) order
shown_goes_on s o false order = fields_go_on s o (fields_of s o) order

-- where an object is visited the order goes on
pub visit_goes_on : (s : PlainState) (found : Option ℕ) (order : List ℕ) → GoesOn order (visit s found order)
visit_goes_on s None order = goes_on_itself order
visit_goes_on s (Some o) order = shown_goes_on s o (is_map_there (s.objects o)) order

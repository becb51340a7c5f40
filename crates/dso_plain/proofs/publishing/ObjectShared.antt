-- One object made shared in the tables.
use Rattle.std.proofs.Common.{ℕ, ◌≡◌, refl, sym, ◌∙◌, ap, Bool, true, false, cond, eqb, ltb, ◌&&◌, is_some, Option, Some, None, List, [], arith}
use Rattle.std.proofs.lemmas.Bool.{le-ltb}
use Rattle.std.proofs.Math.Path.{fun_ext}
use Rattle.std.specs.Ordering.{nat_cmp}
use Rattle.std.specs.Option.{option_map}
use Rattle.std.specs.BTreeMap.{is_at}
use Rattle.dso_base.specs.declared.value.Value.{Value}
use Rattle.dso_plain.specs.declared.tables.Object as table
use Rattle.dso_plain.specs.declared.tables.HeapTables.{HeapTables}
use Rattle.dso_lookup.specs.Maps.{writes, or_old, written, look}
use Rattle.dso_plain.specs.State.{PlainState, size_of}
use Rattle.dso_plain.specs.After.{shared, present}
use Rattle.dso_plain.specs.Publishing.{with_shared, HasItsFields}
use Rattle.dso_plain.specs.HeapTables.{object_of, field_order, pasts_of, is_below, state_of}
use Rattle.dso_plain.proofs.keys.SameKeys.{same_number}
use Rattle.dso_lookup.proofs.Tests.{number_at}
use Rattle.dso_plain.proofs.keys.Writes.{through, at_key}

-- a value that is not there
not_there : (v : Option Value) → is_some v ≡ false → present v ≡ []
not_there None e = refl
not_there (Some v) e = absurd (cc e)

module _ (o size : ℕ) (heap : ℕ × ℕ → Option Value) (old : ℕ × ℕ → List Value) (unpublished : (f : ℕ) → ltb f size ≡ false → old (o, f) ≡ []) (fields : (f : ℕ) → is_some (heap (o, f)) ≡ ltb f size) where
  -- pasts that begin at all fields that there are begin at all
  all_fields : written (writes (is_below o size) (λ key. present (heap key))) old ≡ written (writes (λ key. eqb key.0 o) (λ key. present (heap key))) old
  all_fields = fun_ext (λ key. by key (eqb key.0 o) (ltb key.1 size) refl refl)
    where
      by : (key : ℕ × ℕ) (a b : Bool) → eqb key.0 o ≡ a → ltb key.1 size ≡ b → or_old (cond (a && b) (Some (present (heap key))) None) (old key) ≡ or_old (cond a (Some (present (heap key))) None) (old key)
      by key true true d e = refl
      by key true false d e =
          let same : key ≡ (o, key.1) = λ i. (same_number key.0 o d i, key.1) in
          let none : is_some (heap key) ≡ false = ap (λ k. is_some (heap k)) same ∙ (fields key.1 ∙ e) in
          ap old same ∙ (unpublished key.1 e ∙ sym (not_there (heap key) none))
      by key false b d e = refl

-- the objects with this one shared
shared_object : (o : ℕ) (private changed : table.Object) (old new : ℕ → Option table.Object) → old o ≡ Some private → Some (object_of changed) ≡ shared (Some (object_of private)) → new ≡ written (writes (is_at (nat_cmp o)) (λ _. Some changed)) old → (λ x. option_map object_of (new x)) ≡ written (writes (λ x. eqb x o) (λ x. shared (option_map object_of (old x)))) (λ x. option_map object_of (old x))
shared_object o private changed old new there is puts = through (λ v. option_map object_of v) (is_at (nat_cmp o)) (λ x. eqb x o) (Some changed) old new (number_at o) puts ∙ (ap (λ v. written (writes (λ x. eqb x o) (λ _. v)) (λ x. option_map object_of (old x))) (is ∙ ap (λ v. shared (option_map object_of v)) (sym there)) ∙ at_key (λ x. eqb x o) o (λ x. shared (option_map object_of (old x))) (λ x. option_map object_of (old x)) (λ key e. same_number key o e))

-- the tables with one object more shared
pub object_shared : (o : ℕ) (private changed : table.Object) (old : HeapTables) (objects : ℕ → Option table.Object) (pasts : ℕ × ℕ → List Value) → look nat_cmp old.objects o ≡ Some private → Some (object_of changed) ≡ shared (Some (object_of private)) → objects ≡ written (writes (is_at (nat_cmp o)) (λ _. Some changed)) (look nat_cmp old.objects) → ((f : ℕ) → ltb f private.size ≡ false → pasts_of old.past (o, f) ≡ []) → ((f : ℕ) → is_some (look field_order old.heap (o, f)) ≡ ltb f private.size) → pasts ≡ written (writes (is_below o private.size) (λ key. present (look field_order old.heap key))) (pasts_of old.past) → record (state_of old) { objects = λ x. option_map object_of (objects x); past = pasts } ≡ with_shared (λ x. eqb x o) (state_of old)
object_shared o private changed old objects pasts there is puts unpublished fields opens =
    let first = shared_object o private changed (look nat_cmp old.objects) objects there is puts in
    let second = opens ∙ all_fields o private.size (look field_order old.heap) (pasts_of old.past) unpublished fields in
    λ i. record (state_of old) { objects = first i; past = second i }

-- an object that is not there is shared as it is
pub absent_shared : (o : ℕ) (old : HeapTables) → None ≡ look nat_cmp old.objects o → HasItsFields o (state_of old) → state_of old ≡ with_shared (λ x. eqb x o) (state_of old)
absent_shared o old none h =
    let objects = fun_ext (λ x. object x (eqb x o) refl) in
    let pasts = fun_ext (λ (key : ℕ × ℕ). past key (eqb key.0 o) refl) in
    λ i. record (state_of old) { objects = objects i; past = pasts i }
  where
    s : PlainState
    s = state_of old

    object : (x : ℕ) (b : Bool) → eqb x o ≡ b → s.objects x ≡ or_old (cond b (Some (shared (s.objects x))) None) (s.objects x)
    object x false e = refl
    object x true e =
        let gone : s.objects x ≡ None = ap (λ y. s.objects y) (same_number x o e) ∙ ap (λ y. option_map object_of y) (sym none) in
        gone ∙ sym (ap (λ y. shared y) gone)

    size : size_of (s.objects o) ≡ 0
    size = ap (λ y. size_of (option_map object_of y)) (sym none)

    past : (key : ℕ × ℕ) (b : Bool) → eqb key.0 o ≡ b → s.past key ≡ or_old (cond b (Some (present (s.heap key))) None) (s.past key)
    past key false e = refl
    past key true e =
        let same : key ≡ (o, key.1) = λ i. (same_number key.0 o e i, key.1) in
        let out : ltb key.1 (size_of (s.objects o)) ≡ false = ap (λ n. ltb key.1 n) size ∙ le-ltb key.1 0 (omega arith) in
        ap (λ k. s.past k) same ∙ (h.no_other_past key.1 out ∙ sym (ap (λ k. present (s.heap k)) same ∙ not_there (s.heap (o, key.1)) (h.values key.1 ∙ out)))

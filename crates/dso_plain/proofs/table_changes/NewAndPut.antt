-- New objects and puts in the tables.
use Rattle.std.proofs.Common.{ℕ, ◌≡◌, refl, ◌∙◌, ap, Bool, true, false, cond, eqb, ltb, ◌&&◌, is_some, Option, Some, None, List, ◌∷◌, length, arith}
use Rattle.std.proofs.Math.Path.{fun_ext}
use Rattle.std.proofs.lemmas.Bool.{le-ltb}
use Rattle.std.specs.Ordering.{nat_cmp}
use Rattle.std.specs.Option.{option_map, unwrap_or}
use Rattle.std.specs.BTreeMap.{is_at}
use Rattle.dso_base.specs.declared.lock.ThreadId.{ThreadId}
use Rattle.dso_base.specs.declared.shape.Shape.{Shape}
use Rattle.dso_base.specs.declared.value.ClassId.{ClassId}
use Rattle.dso_base.specs.declared.value.Value.{Value}
use Rattle.dso_base.specs.Shape.{kind_of}
use Rattle.dso_base.specs.Following.{is_thread}
use Rattle.dso_plain.specs.declared.tables.Object as table
use Rattle.dso_plain.specs.declared.tables.HeapTables.{HeapTables}
use Rattle.dso_plain.specs.KeyTests.{is_field, is_view}
use Rattle.dso_lookup.specs.Maps.{writes, or_old, written, look}
use Rattle.dso_plain.specs.State.{PlainState, IsShared, is_shared, size_of}
use Rattle.dso_base.specs.Block.{opening_value}
use Rattle.dso_plain.specs.After.{apply, made_new, put, published, present, opening_field}
use Rattle.dso_plain.specs.StepInvariants.{PastInvariant}
use Rattle.dso_plain.specs.Publishing.{with_shared}
use Rattle.dso_lookup.specs.Orders.{thread_order}
use Rattle.dso_plain.specs.HeapTables.{field_order, view_order, object_of, pasts_of, is_below, state_of}
use Rattle.dso_lookup.specs.Lists.{lists_of}
use Rattle.dso_plain.proofs.keys.SameKeys.{same_number}
use Rattle.dso_plain.proofs.independence.WritesGuarded.{published_private, private_unshared}
use Rattle.dso_plain.proofs.keys.TableOrders.{thread_at, field_at, view_at}
use Rattle.dso_lookup.proofs.Tests.{number_at}
use Rattle.dso_plain.proofs.independence.LeavesOthers.{differ}
use Rattle.dso_plain.proofs.keys.Writes.{through, renamed}

no_value : (v : Option Value) → is_some v ≡ false → v ≡ None
no_value None e = refl
no_value (Some v) e = absurd (cc e)

module _ (shape : Shape) (t : ThreadId) (class : ClassId) (n o : ℕ) (old : HeapTables) (kept : PastInvariant (state_of old)) (absent : (state_of old).objects o ≡ None) where
  -- an object that is not there has no fields
  no_field : (f : ℕ) → (state_of old).heap (o, f) ≡ None
  no_field f = no_value ((state_of old).heap (o, f)) (kept.fields o f ∙ (ap (λ x. ltb f (size_of x)) absent ∙ le-ltb f 0 (omega arith)))

  all_fields : written (writes (is_below o n) (λ key. Some (opening_value (kind_of shape class key.1)))) (look field_order old.heap) ≡ written (writes (λ key. eqb key.0 o) (λ key. opening_field shape class n key.1)) (state_of old).heap
  all_fields = fun_ext (λ key. by key (eqb key.0 o) (ltb key.1 n) refl)
    where
      by : (key : ℕ × ℕ) (a b : Bool) → eqb key.0 o ≡ a → or_old (cond (a && b) (Some (Some (opening_value (kind_of shape class key.1)))) None) (look field_order old.heap key) ≡ or_old (cond a (Some (cond b (Some (opening_value (kind_of shape class key.1))) None)) None) (look field_order old.heap key)
      by key true true e = refl
      by key true false e =
          let same : key ≡ (o, key.1) = λ i. (same_number key.0 o e i, key.1) in
          ap (λ k. look field_order old.heap k) same ∙ no_field key.1
      by key false b e = refl

  pub object_made : (objects : ℕ → Option table.Object) (made : ThreadId → List ℕ) (heap : ℕ × ℕ → Option Value) → objects ≡ written (writes (is_at (nat_cmp o)) (λ _. Some (record { class = class; size = n; owner = Some t }))) (look nat_cmp old.objects) → made ≡ written (writes (is_at (thread_order t)) (λ _. o ∷ lists_of thread_order old.made t)) (lists_of thread_order old.made) → heap ≡ written (writes (is_below o n) (λ key. Some (opening_value (kind_of shape class key.1)))) (look field_order old.heap) → record (state_of old) { objects = λ x. option_map object_of (objects x); made = made; heap = heap } ≡ apply (made_new shape t class n o (state_of old)) (state_of old)
  object_made objects made heap puts lists makes =
      let first = through (λ x. option_map object_of x) (is_at (nat_cmp o)) (λ x. eqb x o) (Some (record { class = class; size = n; owner = Some t })) (look nat_cmp old.objects) objects (number_at o) puts in
      let second = renamed (is_at (thread_order t)) (is_thread t) (o ∷ lists_of thread_order old.made t) (lists_of thread_order old.made) made (thread_at t) lists in
      let third = makes ∙ all_fields in
      λ i. record (state_of old) { objects = first i; made = second i; heap = third i }

-- a put into a private object
pub own_put : (t : ThreadId) (o f : ℕ) (v : Value) (old : HeapTables) (heap : ℕ × ℕ → Option Value) → heap ≡ written (writes (is_at (field_order (o, f))) (λ _. Some v)) (look field_order old.heap) → record (state_of old) { heap = heap } ≡ apply (put t o f v false (state_of old)) (state_of old)
own_put t o f v old heap puts =
    let e = renamed (is_at (field_order (o, f))) (is_field o f) (Some v) (look field_order old.heap) heap (field_at o f) puts in
    λ i. record (state_of old) { heap = e i }

module _ (t : ThreadId) (o f : ℕ) (v : Value) (s n : PlainState) (common : IsShared o s) (is : n ≡ with_shared (published t v s) s) where
  -- a shared object is not published
  not_published : published t v s o ≡ false
  not_published = by (published t v s o) refl
    where
      by : (b : Bool) → published t v s o ≡ b → b ≡ false
      by true e = differ (is_shared (s.objects o)) (private_unshared t (s.objects o) (published_private t v s o e)) common
      by false e = refl

  same_past : n.past (o, f) ≡ s.past (o, f)
  same_past = ap (λ r. r.past (o, f)) is ∙ ap (λ b. or_old (cond b (Some (present (s.heap (o, f)))) None) (s.past (o, f))) not_published

  one_write : (past : ℕ × ℕ → List Value) → past ≡ written (writes (is_field o f) (λ _. v ∷ n.past (o, f))) n.past → past ≡ written (λ key. cond (is_field o f key) (Some (v ∷ s.past (o, f))) (writes (λ key. published t v s key.0) (λ key. present (s.heap key)) key)) s.past
  one_write past pushes = pushes ∙ (ap (λ xs. written (writes (is_field o f) (λ _. v ∷ xs)) n.past) same_past ∙ fun_ext (λ key. ap (λ r. or_old (cond (is_field o f key) (Some (v ∷ s.past (o, f))) None) (r.past key)) is ∙ by key (is_field o f key) (published t v s key.0)))
    where
      by : (key : ℕ × ℕ) (a b : Bool) → or_old (cond a (Some (v ∷ s.past (o, f))) None) (or_old (cond b (Some (present (s.heap key))) None) (s.past key)) ≡ or_old (cond a (Some (v ∷ s.past (o, f))) (cond b (Some (present (s.heap key))) None)) (s.past key)
      by key true b = refl
      by key false true = refl
      by key false false = refl

-- a put into a shared object
pub shared_put : (t : ThreadId) (o f : ℕ) (v : Value) (place : ℕ) (old mid : HeapTables) (past : ℕ × ℕ → List Value) (heap : ℕ × ℕ → Option Value) (seen : ThreadId × ℕ × ℕ → Option ℕ) → IsShared o (state_of old) → place ≡ length ((state_of old).past (o, f)) → state_of mid ≡ with_shared (published t v (state_of old)) (state_of old) → past ≡ written (writes (is_at (field_order (o, f))) (λ _. v ∷ pasts_of mid.past (o, f))) (pasts_of mid.past) → heap ≡ written (writes (is_at (field_order (o, f))) (λ _. Some v)) (look field_order mid.heap) → seen ≡ written (writes (is_at (view_order (t, o, f))) (λ _. Some place)) (look view_order mid.seen) → record (state_of mid) { past = past; heap = heap; seen = λ key. unwrap_or (seen key) 0 } ≡ apply (put t o f v true (state_of old)) (state_of old)
shared_put t o f v place old mid past heap seen common size is pushes puts sees =
    let first = one_write t o f v (state_of old) (state_of mid) common is past (renamed (is_at (field_order (o, f))) (is_field o f) (v ∷ pasts_of mid.past (o, f)) (pasts_of mid.past) past (field_at o f) pushes) in
    let second = renamed (is_at (field_order (o, f))) (is_field o f) (Some v) (look field_order mid.heap) heap (field_at o f) puts ∙ ap (λ r. written (writes (is_field o f) (λ _. Some v)) r.heap) is in
    let third = through (λ x. unwrap_or x 0) (is_at (view_order (t, o, f))) (is_view t o f) (Some place) (look view_order mid.seen) seen (view_at t o f) sees ∙ (ap (λ r. written (writes (is_view t o f) (λ _. place)) r.seen) is ∙ ap (λ k. written (writes (is_view t o f) (λ _. k)) (state_of old).seen) size) in
    λ i. record (is i) { past = first i; heap = second i; seen = third i }

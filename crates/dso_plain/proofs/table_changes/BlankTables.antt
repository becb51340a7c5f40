-- Empty tables stand for the state in which nothing is there, and with object 0 added for the opening state.
use Rattle.std.proofs.Common.{ℕ, ◌≡◌, refl, sym, ◌∙◌, ap, subst, Bool, true, false, cond, eqb, ◌&&◌, ◌||◌, is_some, Option, Some, None, List, [], ◌∷◌, arith}
use Rattle.std.proofs.lemmas.Bool.{le-ltb}
use Rattle.std.proofs.Math.Path.{fun_ext}
use Rattle.std.specs.Option.{option_map, unwrap_or}
use Rattle.std.specs.Ordering.{nat_cmp}
use Rattle.std.specs.Map.{lookup}
use Rattle.std.specs.BTreeMap.{BTreeMap, is_at}
use Rattle.std.specs.declared.cmp.Ordering.{Ordering}
use Rattle.dso_base.specs.declared.shape.Shape.{Shape}
use Rattle.dso_base.specs.declared.value.ClassId.TheVariants as class
use Rattle.dso_base.specs.declared.value.Value.{Value}
use Rattle.dso_base.specs.declared.value.Value.TheVariants as value
use Rattle.dso_plain.specs.declared.tables.Object as table
use Rattle.dso_plain.specs.declared.tables.HeapTables.{HeapTables}
use Rattle.dso_lookup.specs.Maps.{writes, or_old, written, look}
use Rattle.dso_lookup.specs.Rows.{in_row, look_in}
use Rattle.dso_plain.specs.State.{opening, roots_object}
use Rattle.dso_plain.specs.After.{present}
use Rattle.dso_plain.specs.StepInvariants.{PastInvariant, MonitorInvariant}
use Rattle.dso_plain.specs.TableInvariants.{IndexesAgree, TablesInvariant}
use Rattle.dso_lookup.specs.Orders.{lock_order, thread_order}
use Rattle.dso_plain.specs.HeapTables.{field_order, view_order, object_of, hold_of, pasts_of, either, state_of, is_below, blank, IsBlank}
use Rattle.dso_lookup.specs.Lists.{newest_first}
use Rattle.dso_lookup.proofs.Tests.{number_at}
use Rattle.dso_plain.proofs.keys.Writes.{through}

-- in a map with no entries nothing is found
nothing_found : {K V : Type 0} (cmp : K → K → Ordering) (m : BTreeMap K V) → m.entries ≡ [] → look cmp m ≡ (λ _. None)
nothing_found cmp m e = fun_ext (λ key. ap (λ es. lookup (is_at (cmp key)) es) e)

no_row : {J K V : Type 0} (outer : J → J → Ordering) (inner : K → K → Ordering) (m : BTreeMap J (BTreeMap K V)) → m.entries ≡ [] → look_in outer inner m ≡ (λ _. None)
no_row {J} {K} {V} outer inner m e = fun_ext (λ key. ap (λ f. in_row inner (f key.0) key.1) (nothing_found outer m e))

-- the state of empty tables
pub blank_state : (tables : HeapTables) → IsBlank tables → state_of tables ≡ blank
blank_state tables b =
    let objects = nothing_found nat_cmp tables.objects b.objects in
    let made = nothing_found thread_order tables.made b.made in
    let heap = nothing_found field_order tables.heap b.heap in
    let past = nothing_found field_order tables.past b.past in
    let seen = nothing_found view_order tables.seen b.seen in
    let holds = no_row lock_order thread_order tables.holds b.holds in
    let waits = no_row lock_order thread_order tables.waits b.waits in
    let marked = no_row lock_order thread_order tables.marked b.marked in
    let output = nothing_found thread_order tables.output b.output in
    let ended = nothing_found thread_order tables.ended b.ended in
    let lost = nothing_found nat_cmp tables.lost b.lost in
    let unguarded = b.unguarded in
    λ i. record {
      objects = λ o. option_map object_of (objects i o);
      made = λ t. newest_first (made i t);
      heap = heap i;
      past = λ key. newest_first (past i key);
      seen = λ key. unwrap_or (seen i key) 0;
      monitors = λ key. option_map hold_of (holds i key);
      asleep = λ key. either (waits i key) (marked i key);
      marked = λ key. is_some (marked i key);
      output = λ t. newest_first (output i t);
      ended = ended i;
      lost = λ c. unwrap_or (lost i c) false;
      unguarded = unguarded i;
    }

-- nothing is kept where nothing is there
blank_past : PastInvariant blank
blank_past = record {
  newest_is_heap = λ o f e. refl;
  none_before = λ o f e. refl;
  within = λ t o f. omega arith;
  fields = λ o f. sym (le-ltb f 0 (omega arith));
  private_listed = λ t o e. absurd (cc e);
}

blank_monitors : MonitorInvariant blank
blank_monitors = record {
  compatible = λ l t w x ne e. tt;
  counted = λ l t hold e. absurd (cc e);
  counted_waits = λ l t count e. absurd (cc e);
  only_waiters = λ l t e. absurd (cc e);
  out = λ l t e. (refl, refl);
}

-- empty tables agree
blank_agrees : (tables : HeapTables) → IsBlank tables → IndexesAgree tables
blank_agrees tables b =
    let is = blank_state tables b in
    record {
      held = λ l t. ap (λ f. is_some (f (t, l))) (no_row thread_order lock_order tables.held b.held) ∙ sym (ap (λ s. is_some (s.monitors (l, t))) is);
      waiting = λ l t. ap (λ f. is_some (f (t, l))) (no_row thread_order lock_order tables.waiting b.waiting) ∙ sym (ap (λ s. is_some (s.asleep (l, t))) is);
      apart = λ l t. ap (λ f. is_some (f (l, t)) && is_some (look_in lock_order thread_order tables.marked (l, t))) (no_row lock_order thread_order tables.waits b.waits);
      listed = λ l t e. absurd (cc (sym (ap (λ s. is_some (s.monitors (l, t)) || is_some (s.asleep (l, t))) is) ∙ e));
    }

-- empty tables keep what is kept
pub blank_keeps : (tables : HeapTables) → IsBlank tables → TablesInvariant tables
blank_keeps tables b = record {
  past = subst (λ s. PastInvariant s) (sym (blank_state tables b)) blank_past;
  monitors = subst (λ s. MonitorInvariant s) (sym (blank_state tables b)) blank_monitors;
  agrees = blank_agrees tables b;
}

-- object 0 of the tables
abbrev pub table_roots : Shape → table.Object
table_roots shape = record { class = class.Roots; size = shape.roots; owner = None }

module _ (shape : Shape) (b : HeapTables) (is : IsBlank b) (objects : ℕ → Option table.Object) (heap : ℕ × ℕ → Option Value) (pasts : ℕ × ℕ → List Value) where
  opened_objects : objects ≡ written (writes (is_at (nat_cmp 0)) (λ _. Some (table_roots shape))) (look nat_cmp b.objects) → (λ o. option_map object_of (objects o)) ≡ (opening shape).objects
  opened_objects puts = through (λ x. option_map object_of x) (is_at (nat_cmp 0)) (λ x. eqb x 0) (Some (table_roots shape)) (look nat_cmp b.objects) objects (number_at 0) puts ∙ (ap (λ f. written (writes (λ x. eqb x 0) (λ _. Some (roots_object shape))) (λ x. option_map object_of (f x))) (nothing_found nat_cmp b.objects is.objects) ∙ fun_ext (λ x. by (eqb x 0)))
    where
      by : (c : Bool) → or_old (cond c (Some (Some (roots_object shape))) None) None ≡ cond c (Some (roots_object shape)) None
      by true = refl
      by false = refl

  opened_heap : heap ≡ written (writes (is_below 0 shape.roots) (λ key. Some value.Null)) (look field_order b.heap) → heap ≡ (opening shape).heap
  opened_heap makes = makes ∙ (ap (λ f. written (writes (is_below 0 shape.roots) (λ key. Some value.Null)) f) (nothing_found field_order b.heap is.heap) ∙ fun_ext (λ key. by (is_below 0 shape.roots key)))
    where
      by : (c : Bool) → or_old (cond c (Some (Some value.Null)) None) None ≡ cond c (Some value.Null) None
      by true = refl
      by false = refl

  opened_pasts : heap ≡ (opening shape).heap → pasts ≡ written (writes (is_below 0 shape.roots) (λ key. present (heap key))) (pasts_of b.past) → pasts ≡ (opening shape).past
  opened_pasts is_heap opens = opens ∙ (ap (λ f. written (writes (is_below 0 shape.roots) (λ key. present (f key))) (pasts_of b.past)) is_heap ∙ (ap (λ f. written (writes (is_below 0 shape.roots) (λ key. present ((opening shape).heap key))) (λ key. newest_first (f key))) (nothing_found field_order b.past is.past) ∙ fun_ext (λ key. by (is_below 0 shape.roots key))))
    where
      by : (c : Bool) → or_old (cond c (Some (present (cond c (Some value.Null) None))) None) [] ≡ cond c (value.Null ∷ []) []
      by true = refl
      by false = refl

  -- empty tables with object 0 added stand for the opening state
  pub opened : objects ≡ written (writes (is_at (nat_cmp 0)) (λ _. Some (table_roots shape))) (look nat_cmp b.objects) → heap ≡ written (writes (is_below 0 shape.roots) (λ key. Some value.Null)) (look field_order b.heap) → pasts ≡ written (writes (is_below 0 shape.roots) (λ key. present (heap key))) (pasts_of b.past) → record (state_of b) { objects = λ o. option_map object_of (objects o); heap = heap; past = pasts } ≡ opening shape
  opened puts makes opens =
      let first = opened_objects puts in
      let second = opened_heap makes in
      let third = opened_pasts second opens in
      let blank = blank_state b is in
      λ i. record (blank i) { objects = first i; heap = second i; past = third i }

-- The threads of a lost client leave the tables one by one.
use Rattle.std.proofs.Common.{ℕ, ◌≡◌, ◌⊎◌, inl, inr, refl, sym, ◌∙◌, ap, Bool, true, false, cond, eqb, ◌&&◌, ◌||◌, is_some, Option, Some, None}
use Rattle.std.proofs.lemmas.Bool.{or_cases}
use Rattle.std.proofs.Math.Path.{fun_ext}
use Rattle.std.specs.Option.{unwrap_or}
use Rattle.std.specs.Ordering.{nat_cmp}
use Rattle.std.specs.BTreeMap.{BTreeMap, is_at}
use Rattle.dso_base.specs.declared.lock.LockName.{LockName}
use Rattle.dso_base.specs.declared.lock.ThreadId.{ThreadId}
use Rattle.dso_base.specs.Following.{is_thread}
use Rattle.dso_plain.specs.declared.tables.HeapTables.{HeapTables}
use Rattle.dso_lookup.specs.Maps.{writes, or_old, written, look}
use Rattle.dso_lookup.specs.Rows.{look_in, in_row}
use Rattle.dso_plain.specs.State.{PlainState}
use Rattle.dso_plain.specs.After.{apply, loses}
use Rattle.dso_plain.specs.TableInvariants.{IndexesAgree}
use Rattle.dso_plain.specs.Changes.{without, Mirrors, ClearsRow}
use Rattle.dso_lookup.specs.Orders.{lock_order, thread_order}
use Rattle.dso_plain.specs.HeapTables.{either, state_of}
use Rattle.dso_plain.proofs.keys.SameKeys.{same_number, same_thread}
use Rattle.dso_lookup.proofs.Tests.{both, number_at}
use Rattle.dso_plain.proofs.keys.TableOrders.{thread_at}
use Rattle.dso_plain.proofs.keys.Writes.{through}

-- leaving one after the other is leaving together
without_both : (p q : ThreadId → Bool) (s : PlainState) → without p (without q s) ≡ without (λ u. p u || q u) s
without_both p q s =
    let monitors = fun_ext (λ (key : LockName × ThreadId). twice (p key.1) (q key.1) None (s.monitors key)) in
    let asleep = fun_ext (λ (key : LockName × ThreadId). twice (p key.1) (q key.1) None (s.asleep key)) in
    let marked = fun_ext (λ (key : LockName × ThreadId). twice (p key.1) (q key.1) false (s.marked key)) in
    λ i. record s { monitors = monitors i; asleep = asleep i; marked = marked i }
  where
    twice : {V : Type 0} (a b : Bool) (v x : V) → or_old (cond a (Some v) None) (or_old (cond b (Some v) None) x) ≡ or_old (cond (a || b) (Some v) None) x
    twice true b v x = refl
    twice false b v x = refl

-- How far it has come: the threads of the row that are the client's have left, or they are still to be looked at.
pub record ClearsSoFar (client : ℕ) (row rest : ThreadId → Option (Unit {0})) (old new : HeapTables) : Type 0 where
  pub marks : ThreadId → Bool
  pub is : state_of new ≡ without marks (state_of old)
  pub only : (u : ThreadId) → marks u ≡ true → eqb u.client client ≡ true
  pub all : (u : ThreadId) → is_some (row u) ≡ true → eqb u.client client ≡ true → (marks u ≡ true) ⊎ (is_some (rest u) ≡ true)
  pub mirrors : Mirrors new
  pub threads : new.threads ≡ old.threads

pub clears_first : (client : ℕ) (row : ThreadId → Option (Unit {0})) (old : HeapTables) → Mirrors old → ClearsSoFar client row row old old
clears_first client row old m = record { marks = λ _. false; is = refl; only = λ u e. absurd (cc e); all = λ u e c. inr e; mirrors = m; threads = refl }

left_of : (a b : Bool) → a ≡ true → (a || b) ≡ true
left_of true b e = refl
left_of false b e = absurd (cc e)

right_of : (a b : Bool) → b ≡ true → (a || b) ≡ true
right_of true b e = refl
right_of false b e = e

pub clears_next : (client : ℕ) (row rest rest' : ThreadId → Option (Unit {0})) (old mid new : HeapTables) (t : ThreadId) → ClearsSoFar client row rest old mid → rest' ≡ written (writes (is_at (thread_order t)) (λ _. None)) rest → state_of new ≡ without (λ u. eqb t.client client && is_thread t u) (state_of mid) → Mirrors new → new.threads ≡ mid.threads → ClearsSoFar client row rest' old new
clears_next client row rest rest' old mid new t so pops is mirrors threads = record {
  marks = λ u. (eqb t.client client && is_thread t u) || so.marks u;
  is = is ∙ (ap (λ s. without (λ u. eqb t.client client && is_thread t u) s) so.is ∙ without_both (λ u. eqb t.client client && is_thread t u) so.marks (state_of old));
  only = λ u e. elim (or_cases (eqb t.client client && is_thread t u) (so.marks u) e) [
    | inl h ↦ let k = both (eqb t.client client) (is_thread t u) h in ap (λ x. eqb x.client client) (same_thread t u k.1) ∙ k.0
    | inr h ↦ so.only u h
  ];
  all = λ u e c. by u c (so.all u e c) (is_thread t u) refl;
  mirrors = mirrors;
  threads = threads ∙ so.threads;
}
  where
    remains : (u : ThreadId) (b : Bool) → is_thread t u ≡ b → b ≡ false → rest' u ≡ rest u
    remains u true e f = absurd (cc f)
    remains u false e f = ap (λ g. g u) pops ∙ ap (λ b. or_old (cond b (Some None) None) (rest u)) (thread_at t u ∙ e)

    by : (u : ThreadId) → eqb u.client client ≡ true → (so.marks u ≡ true) ⊎ (is_some (rest u) ≡ true) → (b : Bool) → is_thread t u ≡ b → (((eqb t.client client && is_thread t u) || so.marks u) ≡ true) ⊎ (is_some (rest' u) ≡ true)
    by u c (inl m) b e = inl (right_of (eqb t.client client && is_thread t u) (so.marks u) m)
    by u c (inr h) true e =
        let own : eqb t.client client ≡ true = ap (λ x. eqb x.client client) (sym (same_thread t u e)) ∙ c in
        inl (left_of (eqb t.client client && is_thread t u) (so.marks u) (λ i. own i && e i))
    by u c (inr h) false e = inr (ap (λ x. is_some x) (remains u false e refl) ∙ h)

pub clears_last : (client : ℕ) (row rest : ThreadId → Option (Unit {0})) (old new : HeapTables) → ClearsSoFar client row rest old new → rest ≡ (λ _. None) → ClearsRow client row old new
clears_last client row rest old new so none = record {
  marks = so.marks;
  is = so.is;
  only = so.only;
  all = λ u e c. elim (so.all u e c) [
    | inl m ↦ m
    | inr h ↦ absurd (cc (sym (ap (λ f. is_some (f u)) none) ∙ h))
  ];
  mirrors = so.mirrors;
  threads = so.threads;
}

-- a client with its threads' row taken out, whose threads have left, is lost
module _ (client : ℕ) (old : HeapTables) (agrees : IndexesAgree old) (threads : BTreeMap ℕ (BTreeMap ThreadId (Unit {0}))) (row : BTreeMap ThreadId (Unit {0})) (mid : HeapTables) (lost : ℕ → Option Bool) (was : (u : ThreadId) → look thread_order row u ≡ in_row thread_order (look nat_cmp old.threads client) u) (gone : look nat_cmp threads ≡ written (writes (is_at (nat_cmp client)) (λ _. None)) (look nat_cmp old.threads)) (clears : ClearsRow client (look thread_order row) (record old { threads = threads }) mid) (loss : lost ≡ written (writes (is_at (nat_cmp client)) (λ _. Some true)) (look nat_cmp mid.lost)) where
  -- a thread of the client that has a part in a lock is in the row
  in_row_if : (l : LockName) (u : ThreadId) → eqb u.client client ≡ true → (is_some ((state_of old).monitors (l, u)) || is_some ((state_of old).asleep (l, u))) ≡ true → is_some (look thread_order row u) ≡ true
  in_row_if l u c e = ap (λ x. is_some x) (was u) ∙ (ap (λ k. is_some (in_row thread_order (look nat_cmp old.threads k) u)) (sym (same_number u.client client c)) ∙ agrees.listed l u e)

  none_of : {A : Type 0} (x : Option A) → is_some x ≡ false → x ≡ None
  none_of None e = refl
  none_of (Some x) e = absurd (cc e)

  no_mark : (l : LockName) (u : ThreadId) → eqb u.client client ≡ true → clears.marks u ≡ false → (is_some ((state_of old).monitors (l, u)) || is_some ((state_of old).asleep (l, u))) ≡ false
  no_mark l u c m = by (is_some ((state_of old).monitors (l, u)) || is_some ((state_of old).asleep (l, u))) refl
    where
      by : (b : Bool) → (is_some ((state_of old).monitors (l, u)) || is_some ((state_of old).asleep (l, u))) ≡ b → b ≡ false
      by true e = absurd (cc (sym m ∙ clears.all u (in_row_if l u c e) c))
      by false e = refl

  neither : (a b : Bool) → (a || b) ≡ false → (a ≡ false) × (b ≡ false)
  neither false false e = (refl, refl)
  neither true b e = absurd (cc e)
  neither false true e = absurd (cc e)

  unmarked : (x y : Option ℕ) → is_some (either x y) ≡ false → is_some y ≡ false
  unmarked None y e = e
  unmarked (Some x) y e = absurd (cc e)

  one : {V : Type 0} (f : LockName × ThreadId → V) (v : V) → ((l : LockName) (u : ThreadId) → eqb u.client client ≡ true → clears.marks u ≡ false → f (l, u) ≡ v) → written (writes (λ key. clears.marks key.1) (λ _. v)) f ≡ written (writes (λ key. eqb key.1.client client) (λ _. v)) f
  one f v same = fun_ext (λ key. by key (clears.marks key.1) (eqb key.1.client client) refl refl)
    where
      by : (key : LockName × ThreadId) (a b : Bool) → clears.marks key.1 ≡ a → eqb key.1.client client ≡ b → or_old (cond a (Some v) None) (f key) ≡ or_old (cond b (Some v) None) (f key)
      by key true true d e = refl
      by key true false d e = absurd (cc (sym e ∙ clears.only key.1 d))
      by key false true d e = same key.0 key.1 e d
      by key false false d e = refl

  all_left : without clears.marks (state_of old) ≡ without (λ u. eqb u.client client) (state_of old)
  all_left =
      let monitors = one (state_of old).monitors None (λ l u c m. none_of ((state_of old).monitors (l, u)) (neither (is_some ((state_of old).monitors (l, u))) (is_some ((state_of old).asleep (l, u))) (no_mark l u c m)).0) in
      let asleep = one (state_of old).asleep None (λ l u c m. none_of ((state_of old).asleep (l, u)) (neither (is_some ((state_of old).monitors (l, u))) (is_some ((state_of old).asleep (l, u))) (no_mark l u c m)).1) in
      let marked = one (state_of old).marked false (λ l u c m. unmarked (look_in lock_order thread_order old.waits (l, u)) (look_in lock_order thread_order old.marked (l, u)) (neither (is_some ((state_of old).monitors (l, u))) (is_some ((state_of old).asleep (l, u))) (no_mark l u c m)).1) in
      λ i. record (state_of old) { monitors = monitors i; asleep = asleep i; marked = marked i }

  state_is : state_of mid ≡ without (λ u. eqb u.client client) (state_of old)
  state_is = clears.is ∙ all_left

  pub lose_state : record (state_of mid) { lost = λ c. unwrap_or (lost c) false } ≡ apply (loses client) (state_of old)
  lose_state =
      let losses = through (λ x. unwrap_or x false) (is_at (nat_cmp client)) (λ c. eqb c client) (Some true) (look nat_cmp mid.lost) lost (number_at client) loss ∙ ap (λ s. written (writes (λ c. eqb c client) (λ _. true)) s.lost) state_is in
      λ i. record (state_is i) { lost = losses i }

  still_listed : (l : LockName) (u : ThreadId) → (is_some ((state_of mid).monitors (l, u)) || is_some ((state_of mid).asleep (l, u))) ≡ true → is_some (look_in nat_cmp thread_order mid.threads (u.client, u)) ≡ true
  still_listed l u e = by (eqb u.client client) refl (ap (λ s. is_some (s.monitors (l, u)) || is_some (s.asleep (l, u))) (sym state_is) ∙ e)
    where
      by : (b : Bool) → eqb u.client client ≡ b → (is_some (or_old (cond b (Some None) None) ((state_of old).monitors (l, u))) || is_some (or_old (cond b (Some None) None) ((state_of old).asleep (l, u)))) ≡ true → is_some (look_in nat_cmp thread_order mid.threads (u.client, u)) ≡ true
      by true d h = absurd (cc h)
      by false d h = ap (λ m. is_some (look_in nat_cmp thread_order m (u.client, u))) clears.threads ∙ (ap (λ f. is_some (in_row thread_order (f u.client) u)) gone ∙ (ap (λ b. is_some (in_row thread_order (or_old (cond b (Some None) None) (look nat_cmp old.threads u.client)) u)) (number_at client u.client ∙ d) ∙ agrees.listed l u h))

  pub lose_agrees : IndexesAgree mid
  lose_agrees = record { held = clears.mirrors.held; waiting = clears.mirrors.waiting; apart = clears.mirrors.apart; listed = still_listed }

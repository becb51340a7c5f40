-- What a thread has in hand tells what its block made of the state.
use Rattle.std.proofs.Common.{ℕ, ◌+◌, ◌<◌, ◌≤◌, ◌≡◌, inl, inr, refl, sym, ◌∙◌, ap, subst, Bool, true, false, cond, not, eqb, ◌&&◌, is_some, Option, Some, None, List, [], ◌∷◌, length, arith}
use Rattle.std.specs.Prelude.{filter}
use Rattle.dso_base.specs.declared.lock.LockName.{LockName}
use Rattle.dso_base.specs.declared.lock.ThreadId.{ThreadId}
use Rattle.dso_base.specs.declared.record.Body.{Body}
use Rattle.dso_base.specs.declared.record.Set.{Set}
use Rattle.dso_base.specs.declared.request.Event.{Event}
use Rattle.dso_base.specs.declared.request.Event.TheVariants.{Act, Lost}
use Rattle.dso_base.specs.declared.request.Reply.{Reply}
use Rattle.dso_base.specs.declared.request.Reply.TheVariants.{Done, Made, Val}
use Rattle.dso_base.specs.declared.request.Request.{Request}
use Rattle.dso_base.specs.declared.request.Request.TheVariants.{New, Look, Get, Put, Enter, Exit, Wait, Tick, Timeout, Resume, Notify, NotifyAll, Print, End, Pause, Settle}
use Rattle.dso_base.specs.declared.shape.Shape.{Shape}
use Rattle.dso_base.specs.declared.value.Value.{Value}
use Rattle.dso_base.specs.Block as block
use Rattle.dso_base.specs.Block.{Work, body_in, insert_bodies, start, with_value, insert_set, is_published, publish, is_field_before, work_by, work_after, worked}
use Rattle.dso_lookup.specs.Maps.{or_old}
use Rattle.dso_plain.specs.State.{PlainState, IsPrivate, IsShared, opening, is_shared, size_of, hold_on_guard}
use Rattle.dso_plain.specs.Possible.{IsOf, MayButMarks, AnswersRequest, AnswersPut}
use Rattle.dso_plain.specs.After.{after, apply, change_of, read, read_shared, put, published, present, notifies}
use Rattle.dso_plain.specs.After as plain
use Rattle.dso_plain.specs.History.{RunsButMarks, end_of, last_state}
use Rattle.dso_plain.specs.StepInvariants.{PastInvariant}
use Rattle.dso_plain.specs.Touches.{AreActsOf}
use Rattle.dso_plain.proofs.independence.WritesGuarded.{published_private, private_unshared}
use Rattle.dso_plain.proofs.keys.SameKeys.{same_number}
use Rattle.dso_plain.proofs.invariants.PastsHold.{opening_kept}
use Rattle.dso_plain.proofs.invariants.PastsHold.{event_kept, run_kept}
use Rattle.dso_plain.proofs.independence.LeavesOthers.{private_or_shared, absent_private, absent_shared}
use Rattle.dso_legal.specs.OwnObjects.{count_bodies, count_in_hand}
use Rattle.dso_legal.specs.Works.{HasBody, ArePrivates, TellsWork, WorksTell}
use Rattle.dso_legal.proofs.objects.BodyCounts.{count_act}
use Rattle.dso_legal.proofs.objects.FoundBodies.{found_is, none_counts}
use Rattle.dso_legal.proofs.leases.LeaseSteps.{if_true, unless_true}
use Rattle.dso_legal.proofs.ids.Making.{IsNew}
use Rattle.dso_legal.proofs.records.Rising.{WorkRises, work_rises}
use Rattle.dso_legal.proofs.objects.SamePublished.{AreOwn, same_published}
use Rattle.dso_legal.proofs.objects.TellsState.{IsBodyOf, Told, size_is, told_new, told_put_private}
use Rattle.dso_legal.proofs.objects.TellsPublished.{told_put_new, told_put_old, told_published}

-- the work tells what became of the state's parts
abbrev pub Tells : ThreadId → Work → PlainState → PlainState → Type 0
Tells t work before s = Told t work.privates work.news work.sets before s.objects s.heap s.past

-- What holds in each state of a block: the work tells it, has each object once and rising sets, and pasts are kept.
pub record Goes (t : ThreadId) (work : Work) (before s : PlainState) : Type 0 where
  pub tells : Tells t work before s
  pub few : (o : ℕ) → count_in_hand o work ≤ 1
  pub rises : WorkRises work
  pub kept : PastInvariant s

-- the first of two that are one at most
few_left : (a b : ℕ) → a + b ≤ 1 → a ≤ 1
few_left a b le = omega (arith, le)

-- and the second
few_right : (a b : ℕ) → a + b ≤ 1 → b ≤ 1
few_right a b le = omega (arith, le)

-- none and none are none
no_sum : (a b : ℕ) → a ≡ 0 → b ≡ 0 → a + b ≡ 0
no_sum a b e f = omega (arith, e, f)

-- one and none are one
one_alone : (n : ℕ) → n ≡ 0 → 1 + n ≤ 1
one_alone n e = omega (arith, e)

-- none more are no more
none_before : (n : ℕ) → n ≤ 1 → 0 + n ≤ 1
none_before n le = omega (arith, le)

module _ (shape : Shape) (t : ThreadId) (work : Work) (before s : PlainState) (goes : Goes t work before s) where
  -- the bodies are those of the thread's objects
  are_own : AreOwn t work.privates s
  are_own = record {
    listed = λ o e. goes.kept.private_listed t o e;
    each = λ o body e. let it = goes.tells.each o body e in (it.0, size_is body.class (length body.values) (s.objects o) it.1.class, it.1.values);
    all = goes.tells.all;
  }

  -- after a put into a shared object, and publishing what it names
  publishing : (o f : ℕ) (v : Value) (news : List Body) (sets : List Set) (heap : ℕ × ℕ → Option Value)
      → Told t work.privates news sets before s.objects heap (λ key. or_old (cond (eqb key.0 o && eqb key.1 f) (Some (v ∷ s.past (o, f))) None) (s.past key))
      → Told t (filter (λ body. not (is_published work.privates v body.object)) work.privates) (insert_bodies (filter (λ body. is_published work.privates v body.object) work.privates) news) sets before
      (λ p. or_old (cond (published t v s p) (Some (plain.shared (s.objects p))) None) (s.objects p)) heap
      (λ key. or_old (cond (eqb key.0 o && eqb key.1 f) (Some (v ∷ s.past (o, f))) (cond (published t v s key.0) (Some (present (s.heap key))) None)) (s.past key))
  publishing o f v news sets heap told = told_published t work.privates news sets before s.objects heap
      (λ key. or_old (cond (eqb key.0 o && eqb key.1 f) (Some (v ∷ s.past (o, f))) None) (s.past key))
      (λ key. or_old (cond (eqb key.0 o && eqb key.1 f) (Some (v ∷ s.past (o, f))) (cond (published t v s key.0) (Some (present (s.heap key))) None)) (s.past key))
      told (is_published work.privates v) (published t v s) (same_published t work.privates s are_own v) (published_private t v s)
      (λ p. few_left (count_bodies p work.privates) (count_bodies p work.news) (goes.few p))
      (λ p g e. ap (λ c. or_old (cond (eqb p o && eqb g f) (Some (v ∷ s.past (o, f))) (cond c (Some (present (s.heap (p, g)))) None)) (s.past (p, g))) e)

  module _ (o f : ℕ) (v : Value) (has : f < size_of (s.objects o)) where
    -- into a private object
    put_private : IsPrivate t o s → Tells t (block.put o f v work) before (apply (put t o f v (is_shared (s.objects o)) s) s)
    put_private own = subst (λ w. Tells t w before (apply (put t o f v (is_shared (s.objects o)) s) s)) (sym (if_true (is_some (body_in o work.privates)) _ _ (goes.tells.all o own)))
        (subst (λ b. Tells t (record work { privates = with_value o f v work.privates }) before (apply (put t o f v b s) s)) (sym (private_unshared t (s.objects o) own))
        (told_put_private t work.privates work.news work.sets before s.objects s.heap s.past goes.tells o f v has own))

    -- a shared object is none of the private ones
    not_private : IsShared o s → is_some (body_in o work.privates) ≡ false
    not_private common = by (body_in o work.privates) refl
      where
        by : (body : Option Body) → body_in o work.privates ≡ body → is_some body ≡ false
        by None is = refl
        by (Some body) is = private_or_shared t (s.objects o) (goes.tells.each o body is).0 common

    -- into a shared object, by whether it was published in the block
    put_common : (b : Bool) → is_some (body_in o work.news) ≡ b → IsShared o s
        → Tells t (publish v (cond b (record work { news = with_value o f v work.news }) (record work { sets = insert_set (record { object = o; field = f; value = v }) work.sets }))) before (apply (put t o f v true s) s)
    put_common true new common = publishing o f v (with_value o f v work.news) work.sets _ (told_put_new t work.privates work.news work.sets before s.objects s.heap s.past goes.tells o f v has common new)
    put_common false old common = publishing o f v work.news (insert_set (record { object = o; field = f; value = v }) work.sets) _ (told_put_old t work.privates work.news work.sets before s.objects s.heap s.past goes.tells o f v has common old goes.rises.sets)

    -- into a shared object
    put_shared : IsShared o s → Tells t (block.put o f v work) before (apply (put t o f v (is_shared (s.objects o)) s) s)
    put_shared common = subst (λ w. Tells t w before (apply (put t o f v (is_shared (s.objects o)) s) s)) (sym (unless_true (is_some (body_in o work.privates)) _ _ (not_private common)))
        (subst (λ b. Tells t (publish v (block.put_shared o f v work)) before (apply (put t o f v b s) s)) (sym common) (put_common (is_some (body_in o work.news)) refl common))

  -- a put
  put_tells : (o f : ℕ) (v : Value) → AnswersPut shape t o f Done s → Tells t (block.put o f v work) before (apply (put t o f v (is_shared (s.objects o)) s) s)
  put_tells o f v a = elim a.1 [
    | inl own ↦ put_private o f v a.0 own
    | inr h ↦ put_shared o f v a.0 h.0
  ]

  -- a read changes none of it
  read_tells : (o f : ℕ) (b : Bool) → Tells t work before (apply (read shape t o f b s) s)
  read_tells o f false = goes.tells
  read_tells o f true = by (hold_on_guard shape t o f s)
    where
      by : (hold : _) → Tells t work before (apply (read_shared t o f hold s) s)
      by None = goes.tells
      by (Some hold) = goes.tells

  -- nor does a notification
  notify_tells : (l : LockName) (woken : Option ThreadId) → Tells t work before (apply (notifies l woken) s)
  notify_tells l None = goes.tells
  notify_tells l (Some w) = goes.tells

  -- what an act makes of the work tells what it made of the state
  act_tells : (request : Request) (reply : Reply) (woken : Option ThreadId) → AnswersRequest shape t request reply s → Tells t (work_by shape request reply woken work) before (apply (change_of shape t request reply woken s) s)
  act_tells (New class n) (Made o) woken a = told_new t work.privates work.news work.sets before s.objects s.heap s.past goes.tells shape class n o a.1
  act_tells (Put o f v) Done woken a = put_tells o f v a
  act_tells (Get o f) (Val v) woken a = read_tells o f (is_shared (s.objects o))
  act_tells (Notify l) Done woken a = notify_tells l woken
  act_tells (NotifyAll l) Done woken a = goes.tells
  act_tells (Print v) Done woken a = goes.tells
  act_tells (Enter l level) Done woken a = goes.tells
  act_tells (Exit l) Done woken a = goes.tells
  act_tells (Wait l) Done woken a = goes.tells
  act_tells (Timeout l) Done woken a = goes.tells
  act_tells (Resume l) Done woken a = goes.tells
  act_tells (End fault) Done woken a = goes.tells
  act_tells request reply woken a = goes.tells

  -- an object that isn't there has no body in hand
  none_in_hand : (o : ℕ) → s.objects o ≡ None → count_in_hand o work ≡ 0
  none_in_hand o absent = no_sum (count_bodies o work.privates) (count_bodies o work.news) (none_counts o work.privates (privates (body_in o work.privates) refl)) (none_counts o work.news (news (body_in o work.news) refl))
    where
      privates : (body : Option Body) → body_in o work.privates ≡ body → body ≡ None
      privates None is = refl
      privates (Some body) is = absent_private t (s.objects o) absent (goes.tells.each o body is).0

      news : (body : Option Body) → body_in o work.news ≡ body → body ≡ None
      news None is = refl
      news (Some body) is = absent_shared (s.objects o) absent (goes.tells.news o body is).0

  -- only a new object's request is answered by one
  only_new : (request : Request) (o : ℕ) → AnswersRequest shape t request (Made o) s → IsNew request × (s.objects o ≡ None)
  only_new (New class n) o a = (tt, a.1)
  only_new (Look x) o a = absurd a
  only_new (Get x f) o a = absurd a
  only_new (Put x f v) o a = absurd a.1
  only_new (Enter l level) o a = absurd a
  only_new (Exit l) o a = absurd a
  only_new (Wait l) o a = absurd a
  only_new (Tick l) o a = absurd a
  only_new (Timeout l) o a = absurd a
  only_new (Resume l) o a = absurd a
  only_new (Notify l) o a = absurd a
  only_new (NotifyAll l) o a = absurd a
  only_new (Print v) o a = absurd a
  only_new (End fault) o a = absurd a
  only_new Pause o a = absurd a
  only_new Settle o a = absurd a

  -- a new object is in hand once
  few_new : (o p : ℕ) (b : Bool) → eqb o p ≡ b → s.objects o ≡ None → cond b 1 0 + count_in_hand p work ≤ 1
  few_new o p true e absent = one_alone (count_in_hand p work) (subst (λ n. count_in_hand n work ≡ 0) (same_number o p e) (none_in_hand o absent))
  few_new o p false e absent = none_before (count_in_hand p work) (goes.few p)

  -- after an act each object is in hand once at most
  few_act : (request : Request) (reply : Reply) (woken : Option ThreadId) → AnswersRequest shape t request reply s → (p : ℕ) → count_in_hand p (work_by shape request reply woken work) ≤ 1
  few_act request (Made o) woken a p =
      let it = only_new request o a in
      subst (λ n. n ≤ 1) (sym (count_act p shape request (Made o) woken work (λ x e. it.0))) (few_new o p (eqb o p) refl it.1)
  few_act request reply woken a p = subst (λ n. n ≤ 1) (sym (count_act p shape request reply woken work (λ x e. absurd (cc e)))) (none_before (count_in_hand p work) (goes.few p))

  -- An act of the thread goes on.
  pub act_goes : (request : Request) (reply : Reply) (woken : Option ThreadId) → MayButMarks shape (Act t request reply woken) s → Goes t (work_by shape request reply woken work) before (after shape (Act t request reply woken) s)
  act_goes request reply woken may = record {
    tells = act_tells request reply woken may.answers;
    few = few_act request reply woken may.answers;
    rises = work_rises shape (Act t request reply woken ∷ []) work goes.rises;
    kept = event_kept shape (Act t request reply woken) s may goes.kept;
  }

-- Acts of the thread go on, one after the other.
pub acts_go : (shape : Shape) (t : ThreadId) (events : List Event) (work : Work) (before s : PlainState) → AreActsOf t events → RunsButMarks shape events s → Goes t work before s → Goes t (worked shape events work) before (end_of shape events s)
acts_go shape t [] work before s acts runs goes = goes
acts_go shape t (Lost client ∷ events) work before s acts runs goes = absurd acts.0
acts_go shape t (Act u request reply woken ∷ events) work before s acts runs goes =
    acts_go shape t events (work_by shape request reply woken work) before (after shape (Act u request reply woken) s) acts.1 runs.1
    (subst (λ w. Goes t (work_by shape request reply woken work) before (after shape (Act w request reply woken) s)) (sym acts.0)
    (act_goes shape t work before s goes request reply woken (subst (λ w. MayButMarks shape (Act w request reply woken) s) acts.0 runs.0)))

-- a body that is told is one that the state has
has_body : (o : ℕ) (body : Body) (s : PlainState) → body.object ≡ o → IsBodyOf body (s.objects o) (λ f. s.heap (o, f)) → HasBody body s
has_body o body s its h = record {
  class = subst (λ n. IsOf body.class (length body.values) (s.objects n)) (sym its) h.class;
  values = λ f. ap (λ n. s.heap (n, f)) its ∙ h.values f;
}

-- and one that the state has is told
body_is : (o : ℕ) (body : Body) (s : PlainState) → body.object ≡ o → HasBody body s → IsBodyOf body (s.objects o) (λ f. s.heap (o, f))
body_is o body s its h = record {
  class = subst (λ n. IsOf body.class (length body.values) (s.objects n)) its h.class;
  values = λ f. ap (λ n. s.heap (n, f)) (sym its) ∙ h.values f;
}

-- with no sets, no news
no_more : (n : ℕ) → n ≤ 1 → n + 0 ≤ 1
no_more n le = omega (arith, le)

-- At the start the private objects alone are in hand.
pub start_goes : (t : ThreadId) (privates : List Body) (s : PlainState) → PastInvariant s → ArePrivates t privates s → Goes t (start privates) s s
start_goes t privates s kept own = record {
  tells = record {
    each = λ o body e. let it = own.each o body e in (it.0, body_is o body s (found_is o privates body e) it.1);
    all = own.all;
    news = λ o body e. absurd (cc e);
    shared = λ o e. inl e;
    left_object = λ o e. refl;
    left_heap = λ o f e. refl;
    left_past = λ o f e none. refl;
    sets = λ o f. inl refl;
  };
  few = λ o. no_more (count_bodies o privates) (own.once o);
  rises = record { news = tt; sets = tt };
  kept = kept;
}

-- What goes on is what is to be told.
pub told_work : (t : ThreadId) (work : Work) (before s : PlainState) → Goes t work before s → TellsWork t work before s
told_work t work before s goes = record {
  privates = record {
    once = λ o. few_left (count_bodies o work.privates) (count_bodies o work.news) (goes.few o);
    each = λ o body e. let it = goes.tells.each o body e in (it.0, has_body o body s (found_is o work.privates body e) it.1);
    all = goes.tells.all;
  };
  once = λ o. few_right (count_bodies o work.privates) (count_bodies o work.news) (goes.few o);
  news = λ o body e. let it = goes.tells.news o body e in (it.0, has_body o body s (found_is o work.news body e) it.1, it.2);
  shared = goes.tells.shared;
  left = λ o e. record { object = goes.tells.left_object o e; heap = λ f. goes.tells.left_heap o f e; past = λ f none. goes.tells.left_past o f e none };
  sets = goes.tells.sets;
}

-- the pasts are kept in the last state of a history
pub history_kept : (shape : Shape) (h : List Event) → RunsButMarks shape h (opening shape) → PastInvariant (last_state shape h)
history_kept shape h runs = run_kept shape h (opening shape) runs (opening_kept shape)

-- The work of a block from any state in which pasts are kept.
pub works_tell_from : (shape : Shape) (t : ThreadId) (privates : List Body) (events : List Event) (s : PlainState) → PastInvariant s → ArePrivates t privates s → AreActsOf t events → RunsButMarks shape events s
    → TellsWork t (worked shape events (start privates)) s (end_of shape events s)
works_tell_from shape t privates events s kept own acts runs =
    told_work t (worked shape events (start privates)) s (end_of shape events s) (acts_go shape t events (start privates) s s acts runs (start_goes t privates s kept own))

-- What a thread has in hand tells what its block made of the state.
pub works_tell : WorksTell
works_tell shape t privates events h reached own acts runs = works_tell_from shape t privates events (last_state shape h) (history_kept shape h reached) own acts runs

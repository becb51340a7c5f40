-- The private objects of a thread: what others do leaves them, and its own blocks leave those that it has in hand after them.
use Rattle.std.specs.List.{list_any, AllByRecursion}
use Rattle.std.proofs.Common.{ℕ, ◌≤◌, ◌≡◌, ◌≢◌, refl, sym, ◌∙◌, ap, subst, Bool, true, false, cond, not, eqb, ◌||◌, is_some, Option, Some, None, List, [], ◌∷◌, ◌++◌, length, arith}
use Rattle.std.specs.Prelude.{filter}
use Rattle.dso_base.specs.declared.lock.ThreadId.{ThreadId}
use Rattle.dso_base.specs.declared.record.Body.{Body}
use Rattle.dso_base.specs.declared.request.Event.{Event}
use Rattle.dso_base.specs.declared.request.Event.TheVariants.{Act, Lost}
use Rattle.dso_base.specs.declared.request.Reply.{Reply}
use Rattle.dso_base.specs.declared.request.Reply.TheVariants.{Done, Made}
use Rattle.dso_base.specs.declared.request.Request.{Request}
use Rattle.dso_base.specs.declared.request.Request.TheVariants.{New, Put, Print, Notify, NotifyAll}
use Rattle.dso_base.specs.declared.shape.Shape.{Shape}
use Rattle.dso_base.specs.declared.value.Value.{Value}
use Rattle.dso_base.specs.Block.{Work, body_in, start, with_value, is_published, insert_set, publish, put_shared, put, opening_body, work_by, work_after, worked}
use Rattle.dso_base.specs.Following.{is_thread}
use Rattle.dso_plain.specs.State.{PlainState, opening, roots_object, is_private_to, IsPrivate}
use Rattle.dso_plain.specs.Possible.{IsOf}
use Rattle.dso_plain.specs.After.{after}
use Rattle.dso_plain.specs.History.{RunsButMarks, end_of, last_state, is_act_of, events_of}
use Rattle.dso_plain.specs.StepInvariants.{PastInvariant}
use Rattle.dso_plain.specs.Own.{LeavesOwn}
use Rattle.dso_plain.specs.Touches.{AreActsOf, AreActsOfOthers}
use Rattle.dso_plain.proofs.keys.SameKeys.{same_thread, thread_self}
use Rattle.dso_plain.proofs.histories.LegalGoesOn.{events_in_parts}
use Rattle.dso_plain.proofs.independence.LeftAlone.{leaves_own}
use Rattle.dso_plain.proofs.invariants.PastsHold.{opening_kept}
use Rattle.dso_plain.proofs.invariants.PastsHold.{event_kept}
use Rattle.dso_legal.specs.PendingBlocks.{joined, no_locks, locks_through, privates_by, privates_through}
use Rattle.dso_legal.specs.Works.{HasBody, ArePrivates, HaveLocks}
use Rattle.dso_legal.proofs.objects.FoundBodies.{found_is}
use Rattle.dso_legal.proofs.leases.LeaseSteps.{no_both}
use Rattle.dso_legal.proofs.blocks.LocksOfEvents.{NoLossOf, locks_of_spared, events_of_own}
use Rattle.dso_legal.proofs.objects.WorksTell.{works_tell_from}

module _ (t : ThreadId) (bodies : List Body) (s r : PlainState) (left : LeavesOwn t s r) where
  -- a private object's body is still that of the object
  body_left : (o : ℕ) (body : Body) → body.object ≡ o → IsPrivate t o s → HasBody body s → HasBody body r
  body_left o body its own h =
      let mine : IsPrivate t body.object s = subst (λ n. IsPrivate t n s) (sym its) own in
      record { class = subst (IsOf body.class (length body.values)) (sym (left.objects body.object mine)) h.class; values = λ f. left.heap body.object f mine ∙ h.values f }

  -- where the thread's own parts are left, so are its private objects
  pub privates_where_left : ArePrivates t bodies s → ArePrivates t bodies r
  privates_where_left own = record {
    once = own.once;
    each = λ o body e. let it = own.each o body e in (left.mine o ∙ it.0, body_left o body (found_is o bodies body e) it.0 it.1);
    all = λ o e. own.all o (sym (left.mine o) ∙ e);
  }

-- Other threads leave a thread's private objects.
pub privates_left : (shape : Shape) (t : ThreadId) (bodies : List Body) (events : List Event) (s : PlainState) → ArePrivates t bodies s → AreActsOfOthers t events → RunsButMarks shape events s → ArePrivates t bodies (end_of shape events s)
privates_left shape t bodies events s own others runs = privates_where_left t bodies s (end_of shape events s) (leaves_own shape t events s runs others) own

-- A loss leaves every thread's private objects.
pub privates_lost : (shape : Shape) (t : ThreadId) (bodies : List Body) (client : ℕ) (s : PlainState) → ArePrivates t bodies s → ArePrivates t bodies (after shape (Lost client) s)
privates_lost shape t bodies client s own = record {
  once = own.once;
  each = λ o body e. let it = own.each o body e in (it.0, record { class = it.1.class; values = it.1.values });
  all = own.all;
}

-- At first nothing is private.
pub privates_at_first : (shape : Shape) (t : ThreadId) → ArePrivates t [] (opening shape)
privates_at_first shape t = record { once = λ o. none; each = λ o body e. absurd (cc e); all = λ o e. absurd (nobody (eqb o 0) e) }
  where
    none : 0 ≤ 1
    none = omega arith

    nobody : (b : Bool) → is_private_to t (cond b (Some (roots_object shape)) None) ≡ true → ⊥
    nobody true e = absurd (cc e)
    nobody false e = absurd (cc e)

-- what a put leaves of the private objects
abbrev privates_put : ℕ → ℕ → Value → List Body → List Body
privates_put o f v privates = cond (is_some (body_in o privates)) (with_value o f v privates) (filter (λ body. not (is_published privates v body.object)) privates)

-- a put into a shared object leaves them
shared_privates : (o f : ℕ) (v : Value) (work : Work) → (put_shared o f v work).privates ≡ work.privates
shared_privates o f v work = by (is_some (body_in o work.news))
  where
    by : (b : Bool) → (cond b (record work { news = with_value o f v work.news }) (record work { sets = insert_set (record { object = o; field = f; value = v }) work.sets })).privates ≡ work.privates
    by true = refl
    by false = refl

-- what a put leaves
put_privates : (o f : ℕ) (v : Value) (work : Work) → (put o f v work).privates ≡ privates_put o f v work.privates
put_privates o f v work = by (is_some (body_in o work.privates))
  where
    by : (b : Bool) → (cond b (record work { privates = with_value o f v work.privates }) (publish v (put_shared o f v work))).privates
        ≡ cond b (with_value o f v work.privates) (filter (λ body. not (is_published work.privates v body.object)) work.privates)
    by true = refl
    by false = ap (λ (privates : List Body). filter (λ body. not (is_published privates v body.object)) privates) (shared_privates o f v work)

-- what an act makes of the private objects depends on them alone
act_privates : (shape : Shape) (request : Request) (reply : Reply) (woken : Option ThreadId) (work other : Work) → work.privates ≡ other.privates → (work_by shape request reply woken work).privates ≡ (work_by shape request reply woken other).privates
act_privates shape (New class n) (Made o) woken work other e = ap (λ privates. opening_body shape class n o ∷ privates) e
act_privates shape (Put o f v) Done woken work other e = put_privates o f v work ∙ ap (privates_put o f v) e ∙ sym (put_privates o f v other)
act_privates shape (Print v) Done woken work other e = e
act_privates shape (Notify l) Done woken work other e = e
act_privates shape (NotifyAll l) Done woken work other e = e
act_privates shape request reply woken work other e = e

-- and so do those after any events
pub same_privates : (shape : Shape) (events : List Event) (work other : Work) → work.privates ≡ other.privates → (worked shape events work).privates ≡ (worked shape events other).privates
same_privates shape [] work other e = e
same_privates shape (Act t request reply woken ∷ events) work other e = same_privates shape events (work_by shape request reply woken work) (work_by shape request reply woken other) (act_privates shape request reply woken work other e)
same_privates shape (Lost client ∷ events) work other e = same_privates shape events work other e

-- the work of two lists of events in order
pub worked_parts : (shape : Shape) (first second : List Event) (work : Work) → worked shape (first ++ second) work ≡ worked shape second (worked shape first work)
worked_parts shape [] second work = refl
worked_parts shape (event ∷ first) second work = worked_parts shape first second (work_after shape event work)

-- so the private objects after the second are those that it leaves of those after the first
pub privates_parts : (shape : Shape) (first second : List Event) (privates : List Body) → (worked shape (first ++ second) (start privates)).privates ≡ (worked shape second (start (worked shape first (start privates)).privates)).privates
privates_parts shape first second privates = ap (λ (work : Work). work.privates) (worked_parts shape first second (start privates))
    ∙ same_privates shape second (worked shape first (start privates)) (start (worked shape first (start privates)).privates) refl

-- One event after another: whatever happens, the thread's private objects are those that its own events leave.
pub privates_of_events : (shape : Shape) (t : ThreadId) (privates : List Body) (events : List Event) (s : PlainState) → PastInvariant s → ArePrivates t privates s → RunsButMarks shape events s
    → ArePrivates t (worked shape (events_of t events) (start privates)).privates (end_of shape events s)
privates_of_events shape t privates [] s kept own runs = own
privates_of_events shape t privates (Lost client ∷ events) s kept own runs = privates_of_events shape t privates events (after shape (Lost client) s) (event_kept shape (Lost client) s runs.0 kept) (privates_lost shape t privates client s own) runs.1
privates_of_events shape t privates (Act u request reply woken ∷ events) s kept own runs =
    by (is_thread t u) refl (λ privates own. privates_of_events shape t privates events (after shape (Act u request reply woken) s) (event_kept shape (Act u request reply woken) s runs.0 kept) own runs.1)
  where
    other : is_thread t u ≡ false → u ≢ t
    other e same = no_both (is_thread t u) (subst (λ w. is_thread t w ≡ true) (sym same) (thread_self t)) e

    by : (b : Bool) → is_thread t u ≡ b
        → ((privates : List Body) → ArePrivates t privates (after shape (Act u request reply woken) s) → ArePrivates t (worked shape (events_of t events) (start privates)).privates (end_of shape events (after shape (Act u request reply woken) s)))
        → ArePrivates t (worked shape (cond b (Act u request reply woken ∷ events_of t events) (events_of t events)) (start privates)).privates (end_of shape events (after shape (Act u request reply woken) s))
    by true e later = subst (λ left. ArePrivates t left (end_of shape events (after shape (Act u request reply woken) s)))
        (sym (privates_parts shape (Act u request reply woken ∷ []) (events_of t events) privates))
        (later (work_by shape request reply woken (start privates)).privates
        (works_tell_from shape t privates (Act u request reply woken ∷ []) s kept own (same_thread t u e, tt) (runs.0, tt)).privates)
    by false e later = later privates (privates_left shape t privates (Act u request reply woken ∷ []) s own (other e, tt) (runs.0, tt))

-- After a history the thread's private objects are those that its events leave.
pub privates_of_history : (shape : Shape) (t : ThreadId) (h : List Event) → RunsButMarks shape h (opening shape) → ArePrivates t (worked shape (events_of t h) (start [])).privates (last_state shape h)
privates_of_history shape t h runs = privates_of_events shape t [] h (opening shape) (opening_kept shape) (privates_at_first shape t) runs

-- And its locks, where its client is not lost, are those that its events make.
pub locks_of_history : (shape : Shape) (t : ThreadId) (h : List Event) → NoLossOf t.client h → RunsButMarks shape h (opening shape) → HaveLocks t (locks_through t (events_of t h) no_locks) (last_state shape h)
locks_of_history shape t h spared runs = locks_of_spared shape t no_locks h (opening shape) spared runs (record { holds = λ l. refl; waits = λ l. refl })

-- each block is of one thread
abbrev pub AreBlocks : List (List Event) → Type 0
AreBlocks blocks = AllByRecursion (λ block. (u : ThreadId) × AreActsOf u block) blocks

-- a block of another thread has no act of this one
no_act : (t u : ThreadId) (block : List Event) → is_thread t u ≡ false → AreActsOf u block → (list_any (is_act_of t) block ≡ false) × (events_of t block ≡ [])
no_act t u [] other acts = (refl, refl)
no_act t u (Lost client ∷ block) other acts = absurd acts.0
no_act t u (Act w request reply woken ∷ block) other acts =
    let later = no_act t u block other acts.1 in
    let isnt : is_thread t w ≡ false = subst (λ v. is_thread t v ≡ false) (sym acts.0) other in
    (ap (λ b. b || list_any (is_act_of t) block) isnt ∙ later.0, ap (λ b. cond b (Act w request reply woken ∷ events_of t block) (events_of t block)) isnt ∙ later.1)

-- what a block leaves of a thread's private objects is what the thread's events in it leave
privates_by_events : (shape : Shape) (t u : ThreadId) (block : List Event) (privates : List Body) → AreActsOf u block → privates_by shape t block privates ≡ (worked shape (events_of t block) (start privates)).privates
privates_by_events shape t u block privates acts = by (is_thread t u) refl
  where
    own : (block : List Event) → AreActsOf t block → privates_by shape t block privates ≡ (worked shape block (start privates)).privates
    own [] acts = refl
    own (Lost client ∷ block) acts = absurd acts.0
    own (Act w request reply woken ∷ block) acts = ap (λ b. cond (b || list_any (is_act_of t) block) (worked shape (Act w request reply woken ∷ block) (start privates)).privates privates) (subst (λ v. is_thread t v ≡ true) (sym acts.0) (thread_self t))

    by : (b : Bool) → is_thread t u ≡ b → privates_by shape t block privates ≡ (worked shape (events_of t block) (start privates)).privates
    by true e =
        let mine : AreActsOf t block = subst (λ v. AreActsOf v block) (same_thread t u e) acts in
        own block mine ∙ ap (λ events. (worked shape events (start privates)).privates) (sym (events_of_own t block mine))
    by false e =
        let none = no_act t u block e acts in
        ap (λ b. cond b (worked shape block (start privates)).privates privates) none.0 ∙ ap (λ events. (worked shape events (start privates)).privates) (sym none.1)

-- What blocks leave of a thread's private objects is what the thread's events in them leave.
pub privates_through_events : (shape : Shape) (t : ThreadId) (blocks : List (List Event)) (privates : List Body) → AreBlocks blocks → privates_through shape t blocks privates ≡ (worked shape (events_of t (joined blocks)) (start privates)).privates
privates_through_events shape t [] privates are = refl
privates_through_events shape t (block ∷ blocks) privates are =
    privates_through_events shape t blocks (privates_by shape t block privates) are.1
    ∙ ap (λ left. (worked shape (events_of t (joined blocks)) (start left)).privates) (privates_by_events shape t are.0.0 block privates are.0.1)
    ∙ sym (privates_parts shape (events_of t block) (events_of t (joined blocks)) privates)
    ∙ ap (λ events. (worked shape events (start privates)).privates) (sym (events_in_parts t block (joined blocks)))

-- What an event of another thread leaves alone, of what a client's entries tell of a thread.
use Rattle.std.proofs.Common.{◌≡◌, refl, ◌∙◌, ap, Bool, true, false, cond, ◌&&◌, ◌||◌, is_some, Option, Some, None, List, ◌∷◌}
use Rattle.dso_base.specs.declared.journal.Entry.{Entry}
use Rattle.dso_base.specs.declared.journal.Input.{Input}
use Rattle.dso_base.specs.declared.journal.Input.TheVariants as input
use Rattle.dso_base.specs.declared.lock.LockName.{LockName}
use Rattle.dso_base.specs.declared.lock.LockName.TheVariants.{Mon, Name}
use Rattle.dso_base.specs.declared.lock.ThreadId.{ThreadId}
use Rattle.dso_base.specs.declared.message.Down.TheVariants as down
use Rattle.dso_base.specs.declared.request.Event.{Event}
use Rattle.dso_base.specs.declared.request.Event.TheVariants.{Act, Lost}
use Rattle.dso_base.specs.declared.request.Reply.{Reply}
use Rattle.dso_base.specs.declared.request.Reply.TheVariants.{Done}
use Rattle.dso_base.specs.declared.request.Request.{Request}
use Rattle.dso_base.specs.declared.request.Request.TheVariants.{Wait, Timeout, Notify, NotifyAll}
use Rattle.dso_base.specs.declared.shape.Shape.{Shape}
use Rattle.dso_base.specs.Block.{start, body_in, worked}
use Rattle.dso_base.specs.Following.{is_thread}
use Rattle.dso_plain.specs.History.{is_act_of}
use Rattle.dso_law.specs.Entries.{by_event, by_taken_down, add_event, events_in}
use Rattle.dso_law.specs.Threads.{locks_after, locks_of, hold_of, hold_in, block_after, open_block, privates_after, privates_before, work_of, is_local}
use Rattle.dso_law.specs.ClientWaiters.{marked_by_taken, marked_by_act, marked_by_event, is_marked, is_listed, is_woken}

-- the event is none, or of another thread
abbrev pub IsOthers : ThreadId → Option Event → Type 0
IsOthers t None = Unit {0}
IsOthers t (Some event) = is_act_of t event ≡ false

-- a test that fails leaves what was there
unless_true : {X : Type 0} (b : Bool) (x y : X) → b ≡ false → cond b x y ≡ y
unless_true true x y e = absurd (cc e)
unless_true false x y e = refl

-- one of two tests holds
or_true : (a b : Bool) → b ≡ true → (a || b) ≡ true
or_true true b is = refl
or_true false b is = is

module _ (t : ThreadId) where
  -- a reading of the thread's own events
  left_alone : {X : Type 0} (f : Event → X → X) (event : Option Event) (x : X) → IsOthers t event → by_event (λ event x. cond (is_act_of t event) (f event x) x) event x ≡ x
  left_alone f None x others = refl
  left_alone f (Some event) x others = unless_true (is_act_of t event) (f event x) x others

  events_by : (event : Option Event) (events : List Event) → IsOthers t event → by_event (add_event t) event events ≡ events
  events_by None events others = refl
  events_by (Some event) events others = unless_true (is_act_of t event) _ events others

  locks_by_event : (event : Option Event) (locks : _) → IsOthers t event → by_event (locks_after t) event locks ≡ locks
  locks_by_event None locks others = refl
  locks_by_event (Some (Act thread request reply woken)) locks others = unless_true (is_thread t thread) _ locks others
  locks_by_event (Some (Lost client)) locks others = refl

  module _ (e : Entry) (es : List Entry) (others : IsOthers t e.event) where
    pub same_events : events_in t (e ∷ es) ≡ events_in t es
    same_events = events_by e.event (events_in t es) others

    pub same_hold : (l : LockName) → hold_of t l (e ∷ es) ≡ hold_of t l es
    same_hold l = ap (λ locks. hold_in l locks.holds) (locks_by_event e.event (locks_of t es) others)

    pub same_work : (shape : Shape) → work_of shape t (e ∷ es) ≡ work_of shape t es
    same_work shape = ap (λ block. worked shape block (start (privates_before shape t (e ∷ es)))) (left_alone (λ event block. block_after event (locks_of t es) block) e.event (open_block t es) others)
        ∙ ap (λ privates. worked shape (open_block t es) (start privates)) (left_alone (λ event privates. privates_after shape event (locks_of t es) (open_block t es) privates) e.event (privates_before shape t es) others)

    pub same_local : (shape : Shape) (l : LockName) → is_local shape t l (e ∷ es) ≡ is_local shape t l es
    same_local shape (Mon o) = ap (λ work. is_some (body_in o work.privates)) (same_work shape)
    same_local shape (Name n) = refl

  -- ---- a mark stays

  mark_taken : (i : Input) (b : Bool) → b ≡ true → by_taken_down (marked_by_taken t) i b ≡ true
  mark_taken (input.TookDown (down.Wake l u)) b is = or_true (is_thread t u) b is
  mark_taken (input.TookDown m) b is = is
  mark_taken i b is = is

  mark_acted : (es : List Entry) (u : ThreadId) (request : Request) (reply : Reply) (woken : Option ThreadId) (b : Bool) → is_thread t u ≡ false → b ≡ true → marked_by_act t es u request reply woken b ≡ true
  mark_acted es u (Wait l) Done woken b other is = unless_true (is_thread t u) false b other ∙ is
  mark_acted es u (Timeout l) Done woken b other is = or_true (is_thread t u && is_listed t l es) b is
  mark_acted es u (Notify l) Done woken b other is = or_true (is_woken t woken) b is
  mark_acted es u (NotifyAll l) Done woken b other is = or_true (is_listed t l es) b is
  mark_acted es u request reply woken b other is = is

  mark_by : (es : List Entry) (event : Option Event) (b : Bool) → IsOthers t event → b ≡ true → by_event (marked_by_event t es) event b ≡ true
  mark_by es None b others is = is
  mark_by es (Some (Act u request reply woken)) b others is = mark_acted es u request reply woken b others is
  mark_by es (Some (Lost client)) b others is = is

  pub mark_stays : (e : Entry) (es : List Entry) → IsOthers t e.event → is_marked t es ≡ true → is_marked t (e ∷ es) ≡ true
  mark_stays e es others is = mark_by es e.event (by_taken_down (marked_by_taken t) e.input (is_marked t es)) others (mark_taken e.input (is_marked t es) is)

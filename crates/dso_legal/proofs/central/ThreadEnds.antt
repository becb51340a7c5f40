-- A thread goes on until its end, and a client is connected where no event loses it.
use Rattle.std.specs.List.{list_any}
use Rattle.std.proofs.Common.{ℕ, ◌≡◌, ◌≢◌, ◌⊎◌, inl, inr, refl, sym, ◌∙◌, ap, subst, Bool, true, false, cond, ◌&&◌, ◌||◌, Option, Some, None, List, [], ◌∷◌}
use Rattle.std.proofs.lemmas.Bool.{and_from}
use Rattle.dso_base.specs.declared.lock.ThreadId.{ThreadId}
use Rattle.dso_base.specs.declared.request.Event.{Event}
use Rattle.dso_base.specs.declared.request.Event.TheVariants.{Act, Lost}
use Rattle.dso_base.specs.declared.request.Fault.{Fault}
use Rattle.dso_base.specs.declared.request.Reply.{Reply}
use Rattle.dso_base.specs.declared.request.Reply.TheVariants.{Done, Made, Val}
use Rattle.dso_base.specs.declared.request.Request.{Request}
use Rattle.dso_base.specs.declared.request.Request.TheVariants.{New, Get, Put, Enter, Exit, Wait, Timeout, Resume, Notify, NotifyAll, Print, End}
use Rattle.dso_base.specs.declared.shape.Shape.{Shape}
use Rattle.dso_base.specs.declared.value.Value.{Value}
use Rattle.dso_base.specs.Following.{is_thread}
use Rattle.dso_lookup.specs.Maps.{or_old}
use Rattle.dso_plain.specs.State.{Hold, PlainState, opening, is_shared, hold_on_guard}
use Rattle.dso_plain.specs.After.{apply, after, change_of, read, read_shared, put, notifies}
use Rattle.dso_plain.specs.History.{RunsButMarks, end_of, last_state, events_of, is_act_of}
use Rattle.dso_plain.proofs.independence.RunsSwap.{quiet_act}
use Rattle.dso_plain.proofs.keys.SameKeys.{same_thread, thread_self}
use Rattle.dso_law.specs.Threads.{ends_thread}
use Rattle.dso_legal.proofs.blocks.LocksOfEvents.{NoLossOf}

-- the thread has not ended, or the event is its end
abbrev pub WasOrEnds : ThreadId → Event → PlainState → Type 0
WasOrEnds t e s = (s.ended t ≢ None) ⊎ ((is_act_of t e && ends_thread e) ≡ true)

module _ (shape : Shape) (t u : ThreadId) (s : PlainState) where
  -- no put ends a thread
  put_goes : (o f : ℕ) (v : Value) (b : Bool) → (apply (put u o f v b s) s).ended t ≢ None → s.ended t ≢ None
  put_goes o f v true there = there
  put_goes o f v false there = there

  -- nor does a read
  read_shared_goes : (o f : ℕ) (hold : Option Hold) → (apply (read_shared u o f hold s) s).ended t ≢ None → s.ended t ≢ None
  read_shared_goes o f None there = there
  read_shared_goes o f (Some hold) there = there

  read_goes : (o f : ℕ) (b : Bool) → (apply (read shape u o f b s) s).ended t ≢ None → s.ended t ≢ None
  read_goes o f true there = read_shared_goes o f (hold_on_guard shape u o f s) there
  read_goes o f false there = there

  -- nor does a notification
  notify_goes : (l : _) (woken : Option ThreadId) → (apply (notifies l woken) s).ended t ≢ None → s.ended t ≢ None
  notify_goes l None there = there
  notify_goes l (Some w) there = there

  -- an end ends its thread alone
  end_ends : (fault : Option Fault) (b : Bool) → is_thread u t ≡ b → or_old (cond b (Some (Some fault)) None) (s.ended t) ≢ None → (s.ended t ≢ None) ⊎ ((is_thread t u && true) ≡ true)
  end_ends fault true is there = inr (and_from (is_thread t u) true (subst (λ x. is_thread x u ≡ true) (sym (same_thread u t is)) (thread_self u)) refl)
  end_ends fault false is there = inl there

  -- a thread that has ended after an act had ended before it, or the act is its end
  act_ends : (request : Request) (reply : Reply) (woken : Option ThreadId) → (apply (change_of shape u request reply woken s) s).ended t ≢ None → WasOrEnds t (Act u request reply woken) s
  act_ends (New class n) (Made o) woken there = inl there
  act_ends (Get o f) (Val v) woken there = inl (read_goes o f (is_shared (s.objects o)) there)
  act_ends (Put o f v) Done woken there = inl (put_goes o f v (is_shared (s.objects o)) there)
  act_ends (Enter l level) Done woken there = inl there
  act_ends (Exit l) Done woken there = inl there
  act_ends (Wait l) Done woken there = inl there
  act_ends (Timeout l) Done woken there = inl there
  act_ends (Resume l) Done woken there = inl there
  act_ends (Notify l) Done woken there = inl (notify_goes l woken there)
  act_ends (NotifyAll l) Done woken there = inl there
  act_ends (Print v) Done woken there = inl there
  act_ends (End fault) Done woken there = end_ends fault (is_thread u t) refl there
  act_ends request reply woken there = inl there

-- a thread that has ended after an event had ended before it, or the event ends it
event_ends : (shape : Shape) (t : ThreadId) (e : Event) (s : PlainState) → (after shape e s).ended t ≢ None → WasOrEnds t e s
event_ends shape t (Act u request reply woken) s there = act_ends shape t u s request reply woken there
event_ends shape t (Lost client) s there = inl there

-- an end among a thread's events
end_first : (t : ThreadId) (e : Event) (es : List Event) → (is_act_of t e && ends_thread e) ≡ true → list_any ends_thread (events_of t (e ∷ es)) ≡ true
end_first t e es h = by (is_act_of t e) h
  where
    by : (b : Bool) → (b && ends_thread e) ≡ true → list_any ends_thread (cond b (e ∷ events_of t es) (events_of t es)) ≡ true
    by true f = ap (λ x. x || list_any ends_thread (events_of t es)) f
    by false f = absurd (cc f)

end_later : (t : ThreadId) (e : Event) (es : List Event) → list_any ends_thread (events_of t es) ≡ true → list_any ends_thread (events_of t (e ∷ es)) ≡ true
end_later t e es h = by (is_act_of t e) (ends_thread e)
  where
    or_true : (b : Bool) → (b || list_any ends_thread (events_of t es)) ≡ true
    or_true true = refl
    or_true false = h

    by : (a b : Bool) → list_any ends_thread (cond a (e ∷ events_of t es) (events_of t es)) ≡ true
    by true b = or_true (ends_thread e)
    by false b = h

-- a thread that has ended after a run had ended before it, or its end is one of its events
pub ended_in : (shape : Shape) (t : ThreadId) (es : List Event) (s : PlainState) → (end_of shape es s).ended t ≢ None → (s.ended t ≢ None) ⊎ (list_any ends_thread (events_of t es) ≡ true)
ended_in shape t [] s there = inl there
ended_in shape t (e ∷ es) s there = elim (ended_in shape t es (after shape e s) there) [
  | inl before ↦ elim (event_ends shape t e s before) [
    | inl earlier ↦ inl earlier
    | inr now ↦ inr (end_first t e es now)
  ]
  | inr later ↦ inr (end_later t e es later)
]

-- Ended: a thread that has ended in a history's last state has its end among its events.
pub ended_by_events : (shape : Shape) (h : List Event) (t : ThreadId) → (last_state shape h).ended t ≢ None → list_any ends_thread (events_of t h) ≡ true
ended_by_events shape h t there = elim (ended_in shape t h (opening shape) there) [
  | inl first ↦ absurd (first refl)
  | inr ends ↦ ends
]

-- Going: a thread without an end among its events has not ended.
pub goes_on : (shape : Shape) (h : List Event) (t : ThreadId) → list_any ends_thread (events_of t h) ≡ false → (last_state shape h).ended t ≡ None
goes_on shape h t without = by ((last_state shape h).ended t) refl
  where
    by : (ended : Option (Option Fault)) → (last_state shape h).ended t ≡ ended → (last_state shape h).ended t ≡ None
    by None is = is
    by (Some fault) is = absurd (cc (sym without ∙ ended_by_events shape h t (λ none. absurd (cc (sym none ∙ is)))))

-- a run without a loss of the client leaves whether it is lost
loses_not : (shape : Shape) (c : ℕ) (es : List Event) (s : PlainState) → RunsButMarks shape es s → NoLossOf c es → (end_of shape es s).lost c ≡ s.lost c
loses_not shape c [] s m none = refl
loses_not shape c (Act t request reply woken ∷ es) s m none = loses_not shape c es (after shape (Act t request reply woken) s) m.1 none ∙ (quiet_act shape t request reply woken s m.0).lost c
loses_not shape c (Lost client ∷ es) s m none = loses_not shape c es (after shape (Lost client) s) m.1 none.1 ∙ ap (λ b. or_old (cond b (Some true) None) (s.lost c)) none.0

-- Connected: after a history without a loss of the client, it is connected.
pub connected : (shape : Shape) (h : List Event) (c : ℕ) → RunsButMarks shape h (opening shape) → NoLossOf c h → (last_state shape h).lost c ≡ false
connected shape h c m none = loses_not shape c h (opening shape) m none

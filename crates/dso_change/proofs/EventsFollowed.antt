-- Events of which each New makes an object that isn't in hand, one after the other.
use Rattle.std.proofs.Common.{ℕ, zero, suc, ◌<◌, ◌≡◌, refl, arith, length, get_or, Option, List, [], ◌∷◌, take}
use Rattle.dso_base.specs.declared.lock.ThreadId.{ThreadId}
use Rattle.dso_base.specs.declared.request.Event.{Event}
use Rattle.dso_base.specs.declared.request.Event.TheVariants.{Act, Lost}
use Rattle.dso_base.specs.declared.request.Reply.{Reply}
use Rattle.dso_base.specs.declared.request.Reply.TheVariants.{Done, Made, Seen, Val, Local, Refused}
use Rattle.dso_base.specs.declared.request.Request.{Request}
use Rattle.dso_base.specs.declared.request.Request.TheVariants.{New, Look, Get, Put, Enter, Exit, Wait, Tick, Timeout, Resume, Notify, NotifyAll, Print, End, Pause, Settle}
use Rattle.dso_base.specs.declared.shape.Shape.{Shape}
use Rattle.dso_base.specs.Block.{Work, opening_body, work_by, work_after, worked}
use Rattle.dso_change.specs.Events.{IsNew, IsNewIn, MakesNew}
use Rattle.dso_change.specs.Hands.{IsOnce}
use Rattle.dso_change.proofs.OnceInHand.{once_put, once_made}

module _ (shape : Shape) where
  -- after an act each object is in hand once
  once_by : (request : Request) (reply : Reply) (woken : Option ThreadId) (work : Work) → IsOnce work → IsNewIn request reply work → IsOnce (work_by shape request reply woken work)
  once_by (New class n) (Made o) woken work once new = once_made (opening_body shape class n o) work once new.0 new.1
  once_by (New class n) Done woken work once new = once
  once_by (New class n) (Seen c m) woken work once new = once
  once_by (New class n) (Val v) woken work once new = once
  once_by (New class n) Local woken work once new = once
  once_by (New class n) (Refused fault) woken work once new = once
  once_by (Look o) reply woken work once new = once
  once_by (Get o f) reply woken work once new = once
  once_by (Put o f v) Done woken work once new = once_put o f v work once
  once_by (Put o f v) (Made m) woken work once new = once
  once_by (Put o f v) (Seen c m) woken work once new = once
  once_by (Put o f v) (Val x) woken work once new = once
  once_by (Put o f v) Local woken work once new = once
  once_by (Put o f v) (Refused fault) woken work once new = once
  once_by (Enter l level) reply woken work once new = once
  once_by (Exit l) reply woken work once new = once
  once_by (Wait l) reply woken work once new = once
  once_by (Tick l) reply woken work once new = once
  once_by (Timeout l) reply woken work once new = once
  once_by (Resume l) reply woken work once new = once
  once_by (Notify l) Done woken work once new = record { privates = once.privates; apart = once.apart; news = once.news }
  once_by (Notify l) (Made m) woken work once new = once
  once_by (Notify l) (Seen c m) woken work once new = once
  once_by (Notify l) (Val x) woken work once new = once
  once_by (Notify l) Local woken work once new = once
  once_by (Notify l) (Refused fault) woken work once new = once
  once_by (NotifyAll l) Done woken work once new = record { privates = once.privates; apart = once.apart; news = once.news }
  once_by (NotifyAll l) (Made m) woken work once new = once
  once_by (NotifyAll l) (Seen c m) woken work once new = once
  once_by (NotifyAll l) (Val x) woken work once new = once
  once_by (NotifyAll l) Local woken work once new = once
  once_by (NotifyAll l) (Refused fault) woken work once new = once
  once_by (Print v) Done woken work once new = record { privates = once.privates; apart = once.apart; news = once.news }
  once_by (Print v) (Made m) woken work once new = once
  once_by (Print v) (Seen c m) woken work once new = once
  once_by (Print v) (Val x) woken work once new = once
  once_by (Print v) Local woken work once new = once
  once_by (Print v) (Refused fault) woken work once new = once
  once_by (End fault) reply woken work once new = once
  once_by Pause reply woken work once new = once
  once_by Settle reply woken work once new = once

  -- after an event
  once_after : (event : Event) (work : Work) → IsOnce work → IsNew event work → IsOnce (work_after shape event work)
  once_after (Act t request reply woken) work once new = once_by request reply woken work once new
  once_after (Lost client) work once new = once

  -- and after the first of several
  pub once_worked : (events : List Event) (work : Work) (i : ℕ) → IsOnce work → MakesNew shape events work → IsOnce (worked shape (take i events) work)
  once_worked events work zero once new = once
  once_worked [] work (suc i) once new = once
  once_worked (event ∷ events) work (suc i) once new = once_worked events (work_after shape event work) i (once_after event work once new.0) new.1

  -- what the next one makes is not in hand
  pub new_next : (events : List Event) (work : Work) (i : ℕ) (d : Event) → i < length events → MakesNew shape events work → IsNew (get_or events i d) (worked shape (take i events) work)
  new_next [] work i d within new = absurd (omega arith)
  new_next (event ∷ events) work zero d within new = new.0
  new_next (event ∷ events) work (suc i) d within new = new_next events (work_after shape event work) i d (omega arith) new.1

  -- the work after one more
  pub worked_next : (events : List Event) (work : Work) (i : ℕ) (d : Event) → i < length events → worked shape (take (suc i) events) work ≡ work_after shape (get_or events i d) (worked shape (take i events) work)
  worked_next [] work i d within = absurd (omega arith)
  worked_next (event ∷ events) work zero d within = refl
  worked_next (event ∷ events) work (suc i) d within = worked_next events (work_after shape event work) i d (omega arith)

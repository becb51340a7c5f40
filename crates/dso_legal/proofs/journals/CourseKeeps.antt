-- What a request of a course must keep to, in parts; and that a thread was told of what it made.
use Rattle.std.specs.List.{list_any}
use Rattle.std.specs.Prelude.{ℕ, eqb, ◌||◌}
use Rattle.std.proofs.Common.{◌≡◌, refl, subst, Bool, true, false, Option, None, List}
use Rattle.dso_base.specs.declared.lock.ThreadId.{ThreadId}
use Rattle.dso_base.specs.declared.record.Ending.{Ending}
use Rattle.dso_base.specs.declared.request.Event.{Event}
use Rattle.dso_base.specs.declared.request.Request.{Request}
use Rattle.dso_base.specs.declared.request.Request.TheVariants.{Timeout}
use Rattle.dso_base.specs.declared.shape.Shape.{Shape}
use Rattle.dso_plain.proofs.keys.SameKeys.{number_self}
use Rattle.dso_law.specs.FitsDown.{IsWaitingOn}
use Rattle.dso_law.specs.Threads.{Locks, ends_thread}
use Rattle.dso_legal.specs.PendingBlocks.{no_locks, locks_through}
use Rattle.dso_legal.specs.SoundProgram.{NamesOnlyTold, KeepsLocks, MakesOnly, IsOfWaiter, latest_ending, TimesOutOnce, KeepsTo}

-- what is so of a step, and of all behind it
abbrev pub step : {Now Later : Type 0} → Now → Later → Now × Later
step now later = (now, later)

-- a thread that doesn't wait never times out
never_times_out : (request : Request) (locks : Locks) (latest : Option Ending) → locks.waiting ≡ None → KeepsLocks request locks → TimesOutOnce request latest
never_times_out (Timeout l) locks latest awake waits = absurd (subst (λ waiting. IsWaitingOn l waiting) awake waits)
never_times_out request locks latest awake keeps = tt

-- a thread that hasn't ended and doesn't wait keeps to it where it names what it was told, keeps its locks and makes what it can
pub keeps : {shape : Shape} {t : ThreadId} {events : List Event} {request : Request} → list_any ends_thread events ≡ false → (locks_through t events no_locks).waiting ≡ None → NamesOnlyTold request events
    → KeepsLocks request (locks_through t events no_locks) → MakesOnly shape request → KeepsTo shape t events request
keeps {t = t} {events = events} {request = request} goes awake names locks makes = record { goes = goes; names = names; locks = locks; makes = makes; waits = λ waits. absurd (waits awake); times_out_once = never_times_out request (locks_through t events no_locks) (latest_ending t events no_locks None) awake locks }

-- a thread that waits keeps to it where it does what a waiting thread does, and times out once
pub keeps_waiting : {shape : Shape} {t : ThreadId} {events : List Event} {request : Request} → list_any ends_thread events ≡ false → IsOfWaiter request → NamesOnlyTold request events
    → KeepsLocks request (locks_through t events no_locks) → MakesOnly shape request → TimesOutOnce request (latest_ending t events no_locks None) → KeepsTo shape t events request
keeps_waiting goes waiter names locks makes once = record { goes = goes; names = names; locks = locks; makes = makes; waits = λ waits. waiter; times_out_once = once }

-- what was told later was told
told_later : (earlier later : Bool) → later ≡ true → (earlier || later) ≡ true
told_later true later e = refl
told_later false later e = e

-- an object that was made just now was told
told_now : (o : ℕ) (later : Bool) → (eqb o o || later) ≡ true
told_now o later = rw (number_self o) refl

-- the object that the thread made first was told
pub told_first : (o : ℕ) (roots later : Bool) → (roots || (eqb o o || later)) ≡ true
told_first o roots later = told_later roots (eqb o o || later) (told_now o later)

-- and the one that it made second
pub told_second : (o : ℕ) (roots first later : Bool) → (roots || (first || (eqb o o || later))) ≡ true
told_second o roots first later = told_later roots (first || (eqb o o || later)) (told_later first (eqb o o || later) (told_now o later))

-- What the central law asks of a journal is met by journals of finished runs, each with a program that asks what the
-- run's scripts do, goes by the replies, and is sound.
use Rattle.std.specs.Prelude.{pos, cond, Option, None, List, [], ◌∷◌}
use Rattle.dso_base.specs.declared.journal.Entry.{Entry}
use Rattle.dso_base.specs.declared.lock.Level.TheVariants.{Read, Write}
use Rattle.dso_base.specs.declared.lock.LockName.TheVariants.{Mon, Name}
use Rattle.dso_base.specs.declared.lock.ThreadId.{ThreadId}
use Rattle.dso_base.specs.declared.request.Event.{Event}
use Rattle.dso_base.specs.declared.request.Request.{Request}
use Rattle.dso_base.specs.declared.request.Request.TheVariants as request
use Rattle.dso_base.specs.declared.value.ClassId.TheVariants.{Plain}
use Rattle.dso_base.specs.declared.value.Value.TheVariants as value
use Rattle.dso_law.specs.Settings.{Settings}
use Rattle.dso_legal.specs.WithoutWaits.{WithoutWaits}
use Rattle.dso_legal.specs.Lawful.{IsLawful}
use Rattle.dso_legal.specs.SoundProgram.{AsksSoundly}
use Rattle.dso_legal.specs.examples.Courses.{Course, Stops, Makes, Looks, Reads, Ticks, TimesOut, Does, program_of}
use Rattle.dso_legal.specs.examples.Words.{thread}
use Rattle.dso_legal.specs.examples.Counter as counter
use Rattle.dso_legal.specs.examples.Recall as recall
use Rattle.dso_legal.specs.examples.Flush as flush
use Rattle.dso_legal.specs.examples.LostClient as lost
use Rattle.dso_legal.specs.examples.LostWaiters as lost_waiters
use Rattle.dso_legal.specs.examples.SettledThenLost as settled_then_lost
use Rattle.dso_legal.specs.examples.CrossedTimeout as crossed
use Rattle.dso_legal.specs.examples.Settling as settling
use Rattle.dso_legal.specs.examples.TimedOutHere as here
use Rattle.dso_legal.specs.examples.TimedOutThere as there

-- all that the central law asks of a cluster's settings, its program and its journal
pub record MeetsPremises (p : Settings) (next : ThreadId → List Event → Option Request) (es : List Entry) : Type 0 where
  pub sound : AsksSoundly p.shape next
  pub lawful : IsLawful p next es

-- and what its clause on journals without waits asks besides
pub record MeetsCalmly (p : Settings) (next : ThreadId → List Event → Option Request) (es : List Entry) : Type 0 where
  pub premises : MeetsPremises p next es
  pub calm : WithoutWaits es

-- a thread makes an object, puts it into the root, and adds to its counter under its monitor
abbrev pub counter_courses : List (ThreadId × Course)
counter_courses = (
  thread 1 1,
  Makes (Plain 0) 1 (λ o.
      Does (request.Enter (Name 0) Write) (
      Reads 0 0 (
      Does (request.Put 0 0 (value.Ref o)) (
      Does (request.Exit (Name 0)) (
      Does (request.Enter (Name 0) Read) (
      Reads 0 0 (
      Does (request.Exit (Name 0)) (
      Looks o (
      Does (request.Enter (Mon o) Write) (
      Looks o (
      Reads o 0 (
      Looks o (
      Does (request.Put o 0 (value.Long (pos 1))) (
      Looks o (
      Reads o 0 (
      Does (request.Print (value.Long (pos 1))) (
      Does (request.Exit (Mon o)) (
      Does (request.End None) Stops)))))))))))))))))),
) ∷ []

-- two threads make an object each; one puts its own into the root
abbrev pub recall_courses : List (ThreadId × Course)
recall_courses = (
  thread 1 1,
  Makes (Plain 0) 1 (λ o.
      Looks o (
      Does (request.Put o 0 (value.Long (pos 1))) (
      Does (request.Enter (Name 0) Write) (
      Reads 0 0 (
      Does (request.Put 0 0 (value.Ref o)) (
      Does (request.Exit (Name 0)) (
      Does (request.End None) Stops))))))),
) ∷ (
  thread 2 1,
  Makes (Plain 0) 1 (λ o.
      Looks o (
      Does (request.Put o 0 (value.Long (pos 2))) (
      Does (request.Enter (Name 0) Write) (
      Reads 0 0 (
      Does (request.Exit (Name 0)) (
      Does (request.End None) Stops)))))),
) ∷ []

-- a thread makes two objects, puts the second into the first and the first into the root, and reads both again
abbrev pub flush_courses : List (ThreadId × Course)
flush_courses = (
  thread 1 1,
  Makes (Plain 0) 1 (λ first.
      Makes (Plain 0) 1 (λ second.
      Looks first (
      Does (request.Put first 0 (value.Ref second)) (
      Does (request.Enter (Name 0) Write) (
      Reads 0 0 (
      Does (request.Put 0 0 (value.Ref first)) (
      Does (request.Exit (Name 0)) (
      Looks first (
      Reads first 0 (
      Looks second (
      Reads second 0 (
      Does (request.Print value.Null) (
      Does (request.End None) Stops))))))))))))),
) ∷ []

-- a thread enters a lock, leaves it, and settles
abbrev pub settling_courses : List (ThreadId × Course)
settling_courses = (
  thread 1 1,
  Does (request.Enter (Name 0) Write) (
      Does (request.Exit (Name 0)) (
      Does request.Settle (
      Does (request.End None) Stops))),
) ∷ []

-- a thread that waited goes on and leaves the lock
abbrev pub goes_on : Course
goes_on = Does (request.Resume (Name 0)) (
    Does (request.Exit (Name 0)) (
    Does (request.End None) Stops))

-- it goes on where its tick told that it was woken, else does the rest
abbrev pub ticks_then : Course → Course
ticks_then rest = Ticks (Name 0) (λ woken. cond woken goes_on rest)

-- a thread waits for two ticks, and then times out
abbrev pub two_ticks_courses : List (ThreadId × Course)
two_ticks_courses = (
  thread 1 1,
  Does (request.Enter (Name 0) Write) (
      Does (request.Wait (Name 0)) (
      ticks_then (
      ticks_then (
      TimesOut (Name 0) goes_on)))),
) ∷ []

-- a thread waits for a tick, and then times out
abbrev pub one_tick : Course
one_tick =
    Does (request.Enter (Name 0) Write) (
    Does (request.Wait (Name 0)) (
    ticks_then (
    TimesOut (Name 0) goes_on)))

-- and a thread of another client enters the lock and leaves it
abbrev pub passing_courses : List (ThreadId × Course)
passing_courses = (thread 1 1, one_tick) ∷ (
  thread 2 1,
  Does (request.Enter (Name 0) Write) (
      Does (request.Exit (Name 0)) (
      Does (request.End None) Stops)),
) ∷ []

-- or notifies in between
abbrev pub notifying_courses : List (ThreadId × Course)
notifying_courses = (thread 1 1, one_tick) ∷ (
  thread 2 1,
  Does (request.Enter (Name 0) Write) (
      Does (request.Notify (Name 0)) (
      Does (request.Exit (Name 0)) (
      Does (request.End None) Stops))),
) ∷ []

-- a thread makes an object and puts it into the root
abbrev pub puts_root : Course
puts_root = Makes (Plain 0) 1 (λ o.
    Does (request.Enter (Name 0) Write) (
    Reads 0 0 (
    Does (request.Put 0 0 (value.Ref o)) (
    Does (request.Exit (Name 0)) (
    Does (request.End None) Stops)))))

-- two threads do so
abbrev pub two_puts_courses : List (ThreadId × Course)
two_puts_courses = (thread 1 1, puts_root) ∷ (thread 2 1, puts_root) ∷ []

-- a thread waits until it is woken
abbrev pub waits_on : Course
waits_on = Does (request.Enter (Name 0) Write) (
    Does (request.Wait (Name 0)) goes_on)

-- two threads do so, and one of another client notifies
abbrev pub two_waits_courses : List (ThreadId × Course)
two_waits_courses = (thread 1 1, waits_on) ∷ (
  thread 2 1,
  Does (request.Enter (Name 0) Write) (
      Does (request.Notify (Name 0)) (
      Does (request.Exit (Name 0)) (
      Does (request.End None) Stops))),
) ∷ (thread 3 1, waits_on) ∷ []

-- a thread settles between two sections, and one of another client has one
abbrev pub two_sections_courses : List (ThreadId × Course)
two_sections_courses = (
  thread 1 1,
  Does (request.Enter (Name 0) Write) (
      Does (request.Exit (Name 0)) (
      Does request.Settle (
      Does (request.Enter (Name 0) Write) (
      Does (request.Exit (Name 0)) (
      Does (request.End None) Stops))))),
) ∷ (
  thread 2 1,
  Does (request.Enter (Name 0) Write) (
      Does (request.Exit (Name 0)) (
      Does (request.End None) Stops)),
) ∷ []

-- the counter's journal meets them
abbrev pub CounterMeets : Type 0
CounterMeets = MeetsCalmly counter.settings (program_of counter_courses) counter.entries

-- so does that of two clients that pass a lock on
abbrev pub RecallMeets : Type 0
RecallMeets = MeetsCalmly recall.settings (program_of recall_courses) recall.entries

-- so does that of a client that flushes
abbrev pub FlushMeets : Type 0
FlushMeets = MeetsCalmly flush.settings (program_of flush_courses) flush.entries

-- so does that of a thread that settles
abbrev pub SettlingMeets : Type 0
SettlingMeets = MeetsCalmly settling.settings (program_of settling_courses) settling.entries

-- so does that of a thread that times out in its client's list
abbrev pub TimedOutHereMeets : Type 0
TimedOutHereMeets = MeetsPremises here.settings (program_of two_ticks_courses) here.entries

-- so does that of one that times out in the server's list
abbrev pub TimedOutThereMeets : Type 0
TimedOutThereMeets = MeetsPremises there.settings (program_of passing_courses) there.entries

-- so does that of one whose timeout crosses a notification
abbrev pub CrossedTimeoutMeets : Type 0
CrossedTimeoutMeets = MeetsPremises crossed.settings (program_of notifying_courses) crossed.entries

-- so does that of a client that is lost in the middle of a section
abbrev pub LostClientMeets : Type 0
LostClientMeets = MeetsCalmly lost.settings (program_of two_puts_courses) lost.entries

-- so does that of one that is lost while its thread stands first in the server's list
abbrev pub LostWaitersMeets : Type 0
LostWaitersMeets = MeetsPremises lost_waiters.settings (program_of two_waits_courses) lost_waiters.entries

-- so does that of one that is lost after its thread settled
abbrev pub SettledThenLostMeets : Type 0
SettledThenLostMeets = MeetsCalmly settled_then_lost.settings
    (program_of two_sections_courses) settled_then_lost.entries

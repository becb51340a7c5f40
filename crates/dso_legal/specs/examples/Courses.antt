-- Programs that go by the replies to them: what a thread asks, and how it goes on.
use Rattle.std.specs.Prelude.{ℕ, suc, Bool, true, cond, Option, Some, None, List, [], ◌∷◌}
use Rattle.dso_base.specs.declared.lock.LockName.{LockName}
use Rattle.dso_base.specs.declared.lock.ThreadId.{ThreadId}
use Rattle.dso_base.specs.declared.request.Event.{Event}
use Rattle.dso_base.specs.declared.request.Event.TheVariants.{Act, Lost}
use Rattle.dso_base.specs.declared.request.Reply.{Reply}
use Rattle.dso_base.specs.declared.request.Reply.TheVariants.{Done, Made, Seen, Val}
use Rattle.dso_base.specs.declared.request.Request.{Request}
use Rattle.dso_base.specs.declared.request.Request.TheVariants.{New, Look, Get, Tick, Timeout}
use Rattle.dso_base.specs.declared.value.ClassId.{ClassId}
use Rattle.dso_base.specs.declared.value.Value.TheVariants as value
use Rattle.dso_base.specs.Following.{is_thread}

-- what a thread does: it asks no more, or it makes an object and goes on with it, looks at an object, reads a field,
-- ticks and goes on by whether it was woken, times out in time or too late, or asks what is to be done, and goes on
pub data Course : Type 0 where
  Stops : Course
  Makes : ClassId → ℕ → (ℕ → Course) → Course
  Looks : ℕ → Course → Course
  Reads : ℕ → ℕ → Course → Course
  Ticks : LockName → (Bool → Course) → Course
  TimesOut : LockName → Course → Course
  Does : Request → Course → Course

-- what it asks first
abbrev pub asked_first : Course → Option Request
asked_first Stops = None
asked_first (Makes class n rest) = Some (New class n)
asked_first (Looks o rest) = Some (Look o)
asked_first (Reads o f rest) = Some (Get o f)
asked_first (Ticks l rest) = Some (Tick l)
asked_first (TimesOut l rest) = Some (Timeout l)
asked_first (Does request rest) = Some request

-- how it goes on after a reply: it asks no more where the reply isn't the one that it goes on from, or object 0 was
-- made
abbrev pub after_reply : Course → Reply → Course
after_reply (Makes class n rest) (Made (suc o)) = rest (suc o)
after_reply (Looks o rest) (Seen class n) = rest
after_reply (Reads o f rest) (Val v) = rest
after_reply (Ticks l rest) (Val (value.Bool woken)) = rest woken
after_reply (TimesOut l rest) Done = rest
after_reply (TimesOut l rest) (Val (value.Bool true)) = rest
after_reply (Does request rest) Done = rest
after_reply course reply = Stops

-- what the thread asks after its events; after what is no event of its own, nothing
abbrev pub asks_after : ThreadId → Course → List Event → Option Request
asks_after t course [] = asked_first course
asks_after t course (Act thread request reply woken ∷ events) = cond (is_thread t thread)
    (asks_after t (after_reply course reply) events) None
asks_after t course (Lost client ∷ events) = None

-- the course of a thread; one that has none asks nothing
abbrev pub course_of : ThreadId → List (ThreadId × Course) → Course
course_of t [] = Stops
course_of t (course ∷ courses) = cond (is_thread t course.0) course.1 (course_of t courses)

-- the program in which the threads have these courses
abbrev pub program_of : List (ThreadId × Course) → ThreadId → List Event → Option Request
program_of courses t events = asks_after t (course_of t courses) events

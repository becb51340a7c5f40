-- A program of courses is sound where each course, by the replies that it goes on from, keeps to what is asked of a program.
use Rattle.std.specs.Prelude.{ℕ, suc}
use Rattle.std.proofs.Common.{◌≡◌, refl, sym, ◌∙◌, ap, subst, Bool, true, false, cond, Option, Some, None, List, [], ◌∷◌, ◌++◌}
use Rattle.std.proofs.lemmas.List.{append_assoc, append-nil}
use Rattle.dso_base.specs.declared.lock.ThreadId.{ThreadId}
use Rattle.dso_base.specs.declared.request.Event.{Event}
use Rattle.dso_base.specs.declared.request.Event.TheVariants.{Act, Lost}
use Rattle.dso_base.specs.declared.request.Reply.{Reply}
use Rattle.dso_base.specs.declared.request.Reply.TheVariants.{Done, Made, Seen, Val}
use Rattle.dso_base.specs.declared.request.Request.{Request}
use Rattle.dso_base.specs.declared.request.Request.TheVariants.{New, Look, Get, Tick, Timeout}
use Rattle.dso_base.specs.declared.shape.Shape.{Shape}
use Rattle.dso_base.specs.declared.value.ClassId.{ClassId}
use Rattle.dso_base.specs.declared.value.Value.{Value}
use Rattle.dso_base.specs.declared.value.Value.TheVariants as value
use Rattle.dso_base.specs.Following.{is_thread, FollowsFrom, Listed}
use Rattle.dso_plain.proofs.keys.SameKeys.{same_thread, thread_self}
use Rattle.dso_plain.specs.SameActs.{AreSameActs}
use Rattle.dso_legal.specs.SoundProgram.{KeepsTo, AsksSoundly}
use Rattle.dso_legal.specs.examples.Courses.{Course, Stops, Makes, Looks, Reads, Ticks, TimesOut, Does, asked_first, after_reply, asks_after, course_of, program_of}

-- what is asked is the same
same_request : (asked request : Request) → Some asked ≡ Some request → asked ≡ request
same_request asked request e = cc e

-- nothing is asked where something is
nothing_asked : {A : Type 0} (request : Request) → None ≡ Some request → A
nothing_asked {A} request e = absurd (cc e)

-- where it asks after a test, the test was passed
was_passed : (b : Bool) (asks : Option Request) (request : Request) → cond b asks None ≡ Some request → b ≡ true
was_passed true asks request e = refl
was_passed false asks request e = nothing_asked request e

module _ (shape : Shape) where
  -- after these events of the thread, the course keeps to what is asked of a program, and so on after each reply that it goes on from
  abbrev pub StaysSound : ThreadId → List Event → Course → Type 0
  StaysSound t before Stops = Unit {0}
  StaysSound t before (Makes class n rest) = KeepsTo shape t before (New class n) × ((o : ℕ) (woken : Option ThreadId) → StaysSound t (before ++ Act t (New class n) (Made (suc o)) woken ∷ []) (rest (suc o)))
  StaysSound t before (Looks o rest) = KeepsTo shape t before (Look o) × ((class : ClassId) (n : ℕ) (woken : Option ThreadId) → StaysSound t (before ++ Act t (Look o) (Seen class n) woken ∷ []) rest)
  StaysSound t before (Reads o f rest) = KeepsTo shape t before (Get o f) × ((v : Value) (woken : Option ThreadId) → StaysSound t (before ++ Act t (Get o f) (Val v) woken ∷ []) rest)
  StaysSound t before (Ticks l rest) = KeepsTo shape t before (Tick l) × ((told : Bool) (woken : Option ThreadId) → StaysSound t (before ++ Act t (Tick l) (Val (value.Bool told)) woken ∷ []) (rest told))
  StaysSound t before (TimesOut l rest) = KeepsTo shape t before (Timeout l) × (((woken : Option ThreadId) → StaysSound t (before ++ Act t (Timeout l) Done woken ∷ []) rest)
      × ((woken : Option ThreadId) → StaysSound t (before ++ Act t (Timeout l) (Val (value.Bool true)) woken ∷ []) rest))
  StaysSound t before (Does request rest) = KeepsTo shape t before request × ((woken : Option ThreadId) → StaysSound t (before ++ Act t request Done woken ∷ []) rest)

  -- what it asks first keeps to it
  keeps_first : (t : ThreadId) (before : List Event) (course : Course) (request : Request) → StaysSound t before course → asked_first course ≡ Some request → KeepsTo shape t before request
  keeps_first t before Stops request s e = nothing_asked request e
  keeps_first t before (Makes class n rest) request s e = subst (λ asked. KeepsTo shape t before asked) (same_request (New class n) request e) s.0
  keeps_first t before (Looks o rest) request s e = subst (λ asked. KeepsTo shape t before asked) (same_request (Look o) request e) s.0
  keeps_first t before (Reads o f rest) request s e = subst (λ asked. KeepsTo shape t before asked) (same_request (Get o f) request e) s.0
  keeps_first t before (Ticks l rest) request s e = subst (λ asked. KeepsTo shape t before asked) (same_request (Tick l) request e) s.0
  keeps_first t before (TimesOut l rest) request s e = subst (λ asked. KeepsTo shape t before asked) (same_request (Timeout l) request e) s.0
  keeps_first t before (Does asked rest) request s e = subst (λ asked. KeepsTo shape t before asked) (same_request asked request e) s.0

  -- after the first event it stays sound
  stays_sound : (t : ThreadId) (before : List Event) (course : Course) (request : Request) (reply : Reply) (woken : Option ThreadId) → StaysSound t before course → asked_first course ≡ Some request → StaysSound t (before ++ Act t request reply woken ∷ []) (after_reply course reply)
  stays_sound t before Stops request reply woken s e = nothing_asked request e
  stays_sound t before (Makes class n rest) request (Made (suc o)) woken s e = subst (λ asked. StaysSound t (before ++ Act t asked (Made (suc o)) woken ∷ []) (rest (suc o))) (same_request (New class n) request e) (s.1 o woken)
  stays_sound t before (Looks o rest) request (Seen class n) woken s e = subst (λ asked. StaysSound t (before ++ Act t asked (Seen class n) woken ∷ []) rest) (same_request (Look o) request e) (s.1 class n woken)
  stays_sound t before (Reads o f rest) request (Val v) woken s e = subst (λ asked. StaysSound t (before ++ Act t asked (Val v) woken ∷ []) rest) (same_request (Get o f) request e) (s.1 v woken)
  stays_sound t before (Ticks l rest) request (Val (value.Bool told)) woken s e = subst (λ asked. StaysSound t (before ++ Act t asked (Val (value.Bool told)) woken ∷ []) (rest told)) (same_request (Tick l) request e) (s.1 told woken)
  stays_sound t before (TimesOut l rest) request Done woken s e = subst (λ asked. StaysSound t (before ++ Act t asked Done woken ∷ []) rest) (same_request (Timeout l) request e) (s.1.0 woken)
  stays_sound t before (TimesOut l rest) request (Val (value.Bool true)) woken s e = subst (λ asked. StaysSound t (before ++ Act t asked (Val (value.Bool true)) woken ∷ []) rest) (same_request (Timeout l) request e) (s.1.1 woken)
  stays_sound t before (Does asked rest) request Done woken s e = subst (λ asked. StaysSound t (before ++ Act t asked Done woken ∷ []) rest) (same_request asked request e) (s.1 woken)
  stays_sound t before course request reply woken s e = tt

  module _ (next : ThreadId → List Event → Option Request) (t : ThreadId) where
    -- from where the thread stands
    sound_from : (course : Course) (before events : List Event) (last : Request) → StaysSound t before course → ((more : List Event) → next t (before ++ more) ≡ asks_after t course more) → FollowsFrom next (Listed next) t before events → next t (before ++ events) ≡ Some last → KeepsTo shape t (before ++ events) last
    sound_from course before [] last s whole h asks = subst (λ events. KeepsTo shape t events last) (sym (append-nil before)) (keeps_first t before course last s (sym (whole []) ∙ asks))
    sound_from course before (Lost client ∷ events) last s whole h asks = absurd h.0
    sound_from course before (Act u request reply woken ∷ events) last s whole h asks = subst (λ es. KeepsTo shape t es last) (sym moved) (sound_from (after_reply course reply) (before ++ own ∷ []) events last goes asks_on (subst (λ e. FollowsFrom next (Listed next) t (before ++ e ∷ []) events) same h.1) (ap (λ es. next t es) (sym moved) ∙ asks))
      where
        own : Event
        own = Act t request reply woken

        -- the event is the thread's own
        same : Act u request reply woken ≡ own
        same = ap (λ thread. Act thread request reply woken) (same_thread t u (was_passed (is_thread t u) (asks_after t (after_reply course reply) events) last (sym (whole (Act u request reply woken ∷ events)) ∙ asks)))

        moved : before ++ Act u request reply woken ∷ events ≡ (before ++ own ∷ []) ++ events
        moved = ap (λ e. before ++ e ∷ events) same ∙ sym (append_assoc before (own ∷ []) events)

        goes : StaysSound t (before ++ own ∷ []) (after_reply course reply)
        goes = stays_sound t before course request reply woken s (sym (whole []) ∙ (ap (λ es. next t es) (append-nil before) ∙ h.0.0))

        asks_on : (more : List Event) → next t ((before ++ own ∷ []) ++ more) ≡ asks_after t (after_reply course reply) more
        asks_on more = ap (λ es. next t es) (append_assoc before (own ∷ []) more) ∙ (whole (own ∷ more) ∙ ap (λ b. cond b (asks_after t (after_reply course reply) more) None) (thread_self t))

  -- each thread's course keeps to it from the start
  abbrev pub AllSound : List (ThreadId × Course) → Type 0
  AllSound [] = Unit {0}
  AllSound (course ∷ courses) = StaysSound course.0 [] course.1 × AllSound courses

  -- the course that a thread has is one of them
  its_course : (t : ThreadId) (courses : List (ThreadId × Course)) → AllSound courses → StaysSound t [] (course_of t courses)
  its_course t [] all = tt
  its_course t (course ∷ courses) all = by (its_course t courses all.1) (is_thread t course.0) refl
    where
      by : StaysSound t [] (course_of t courses) → (b : Bool) → is_thread t course.0 ≡ b → StaysSound t [] (cond b course.1 (course_of t courses))
      by others true e = subst (λ u. StaysSound u [] course.1) (same_thread t course.0 e) all.0
      by others false e = others

  -- a course goes by the replies alone
  by_replies : (t : ThreadId) (course : Course) (events same : List Event) → AreSameActs events same → asks_after t course same ≡ asks_after t course events
  by_replies t course [] [] are = refl
  by_replies t course [] (e ∷ same) are = absurd are
  by_replies t course (e ∷ events) [] are = absurd are
  by_replies t course (Act u request reply woken ∷ events) (Act u' request' reply' woken' ∷ same) are =
      ap (λ w. cond (is_thread t w) (asks_after t (after_reply course reply') same) None) are.0.0
      ∙ ap (λ r. cond (is_thread t u) (asks_after t (after_reply course r) same) None) are.0.2
      ∙ ap (λ asks. cond (is_thread t u) asks None) (by_replies t (after_reply course reply) events same are.1)
  by_replies t course (Act u request reply woken ∷ events) (Lost client ∷ same) are = absurd are.0
  by_replies t course (Lost client ∷ events) (e ∷ same) are = absurd are.0

  -- The program of the courses is sound.
  pub sound_program : (courses : List (ThreadId × Course)) → AllSound courses → AsksSoundly shape (program_of courses)
  sound_program courses all = record {
    keeps = λ t events request acts untold held follows asks. sound_from (program_of courses) t (course_of t courses) [] events request (its_course t courses all) (λ more. refl) follows asks;
    goes_by_replies = λ t events same are. by_replies t (course_of t courses) events same are;
  }

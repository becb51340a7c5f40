-- That ten of the example journals meet the premises of the central law, each with a program of courses that go by the replies.
use Rattle.std.specs.List.{list_any}
use Rattle.std.specs.Prelude.{ℕ, suc, ◌≢◌, not, map}
use Rattle.std.proofs.Common.{◌≡◌, refl, sym, ◌∙◌, ap, subst, Bool, true, false, cond, ◌||◌, Option, Some, None, List, [], ◌∷◌, ◌++◌}
use Rattle.dso_base.specs.declared.lock.Level.TheVariants.{Write}
use Rattle.dso_base.specs.declared.lock.LockName.TheVariants.{Mon, Name}
use Rattle.dso_base.specs.declared.lock.ThreadId.{ThreadId}
use Rattle.dso_base.specs.declared.request.Event.{Event}
use Rattle.dso_base.specs.declared.request.Event.TheVariants.{Act}
use Rattle.dso_base.specs.declared.request.Reply.TheVariants.{Done, Val}
use Rattle.dso_base.specs.declared.request.Request.TheVariants.{Exit, Tick, Resume}
use Rattle.dso_base.specs.declared.shape.Shape.{Shape}
use Rattle.dso_base.specs.declared.value.Value.TheVariants as value
use Rattle.dso_plain.specs.After.{exited}
use Rattle.dso_plain.proofs.keys.SameKeys.{number_self}
use Rattle.dso_law.specs.Settings.{Settings, clients_of}
use Rattle.dso_law.specs.FitsDown.{IsWaitingOn}
use Rattle.dso_law.specs.Threads.{Held, Locks, hold_in, with_hold, locks_after, ends_thread}
use Rattle.dso_legal.specs.PendingBlocks.{no_locks, locks_through}
use Rattle.dso_base.specs.declared.journal.Entry.{Entry}
use Rattle.dso_legal.specs.examples.Courses.{Course, program_of, course_of}
use Rattle.dso_legal.specs.examples.Premises.{MeetsPremises, MeetsCalmly, goes_on, ticks_then, one_tick, counter_courses, recall_courses, flush_courses, settling_courses, two_ticks_courses, passing_courses, notifying_courses, puts_root, two_puts_courses, waits_on, two_waits_courses, two_sections_courses, CounterMeets, RecallMeets, FlushMeets, SettlingMeets, TimedOutHereMeets, TimedOutThereMeets, CrossedTimeoutMeets, LostClientMeets, LostWaitersMeets, SettledThenLostMeets}
use Rattle.dso_legal.specs.examples.Counter as counter
use Rattle.dso_legal.specs.examples.Flush as flush
use Rattle.dso_legal.specs.examples.LostClient as lost
use Rattle.dso_legal.specs.examples.LostWaiters as lost_waiters
use Rattle.dso_legal.specs.examples.Recall as recall
use Rattle.dso_legal.specs.examples.SettledThenLost as settled_then_lost
use Rattle.dso_legal.specs.examples.CrossedTimeout as crossed
use Rattle.dso_legal.specs.examples.Settling as settling
use Rattle.dso_legal.specs.examples.TimedOutHere as here
use Rattle.dso_legal.specs.examples.TimedOutThere as there
use Rattle.dso_legal.specs.examples.Words.{thread}
use Rattle.dso_legal.proofs.journals.Checks.{each, counts_rejoins, without_waits}
use Rattle.dso_legal.proofs.journals.CourseKeeps.{step, keeps, keeps_waiting, told_first, told_second}
use Rattle.dso_legal.proofs.journals.Facts.{is_there, not_zero}
use Rattle.dso_legal.proofs.journals.Replay.{replayed, lawful_by_replay}
use Rattle.dso_legal.proofs.blocks.SameLocks.{locks_one_more}
use Rattle.dso_legal.proofs.waiting.ServerWaiters.{any_append}
use Rattle.dso_legal.proofs.journals.SoundCourses.{StaysSound, AllSound, sound_program}

-- the lock of an object's monitor, as a thread holds it that entered it once
abbrev entered_once : ℕ → Held
entered_once o = record { lock = Mon o; hold = record { level = Write; count = 1 } }

-- it is held
is_held : (o : ℕ) → hold_in (Mon o) (entered_once o ∷ []) ≢ None
is_held o = rw (number_self o) (λ e. cc)

-- a thread that leaves it holds none
is_left : (o : ℕ) → with_hold (Mon o) (exited (hold_in (Mon o) (entered_once o ∷ []))) (entered_once o ∷ []) ≡ []
is_left o = (λ i. with_hold (Mon o) (exited (cond (number_self o i) (Some (entered_once o).hold) None)) (entered_once o ∷ [])) ∙ (λ i. cond (not (number_self o i)) (entered_once o ∷ []) [])

-- the course of the counter's thread
counter_sound : StaysSound counter.settings.shape (thread 1 1) [] (course_of (thread 1 1) counter_courses)
counter_sound =
    step (keeps refl refl tt tt refl) (λ o w.
    step (keeps refl refl tt tt tt) (λ w.
    step (keeps refl refl refl tt tt) (λ v w.
    step (keeps refl refl (refl, (not_zero, told_first (suc o) _ _)) tt tt) (λ w.
    step (keeps refl refl tt (is_there _ refl) tt) (λ w.
    step (keeps refl refl tt tt tt) (λ w.
    step (keeps refl refl refl tt tt) (λ v w.
    step (keeps refl refl tt (is_there _ refl) tt) (λ w.
    step (keeps refl refl (told_first (suc o) _ _) tt tt) (λ class n w.
    step (keeps refl refl (not_zero, told_first (suc o) _ _) tt tt) (λ w.
    step (keeps refl refl (told_first (suc o) _ _) tt tt) (λ class n w.
    step (keeps refl refl (told_first (suc o) _ _) tt tt) (λ v w.
    step (keeps refl refl (told_first (suc o) _ _) tt tt) (λ class n w.
    step (keeps refl refl (told_first (suc o) _ _, tt) tt tt) (λ w.
    step (keeps refl refl (told_first (suc o) _ _) tt tt) (λ class n w.
    step (keeps refl refl (told_first (suc o) _ _) tt tt) (λ v w.
    step (keeps refl refl tt tt tt) (λ w.
    step (keeps refl refl tt (is_held (suc o)) tt) (λ w.
    step (keeps refl refl tt (is_left (suc o)) tt) (λ w. tt)))))))))))))))))))

-- the courses of the two threads that pass a lock on
first_sound : StaysSound recall.settings.shape (thread 1 1) [] (course_of (thread 1 1) recall_courses)
first_sound =
    step (keeps refl refl tt tt refl) (λ o w.
    step (keeps refl refl (told_first (suc o) _ _) tt tt) (λ class n w.
    step (keeps refl refl (told_first (suc o) _ _, tt) tt tt) (λ w.
    step (keeps refl refl tt tt tt) (λ w.
    step (keeps refl refl refl tt tt) (λ v w.
    step (keeps refl refl (refl, (not_zero, told_first (suc o) _ _)) tt tt) (λ w.
    step (keeps refl refl tt (is_there _ refl) tt) (λ w.
    step (keeps refl refl tt refl tt) (λ w. tt))))))))

second_sound : StaysSound recall.settings.shape (thread 2 1) [] (course_of (thread 2 1) recall_courses)
second_sound =
    step (keeps refl refl tt tt refl) (λ o w.
    step (keeps refl refl (told_first (suc o) _ _) tt tt) (λ class n w.
    step (keeps refl refl (told_first (suc o) _ _, tt) tt tt) (λ w.
    step (keeps refl refl tt tt tt) (λ w.
    step (keeps refl refl refl tt tt) (λ v w.
    step (keeps refl refl tt (is_there _ refl) tt) (λ w.
    step (keeps refl refl tt refl tt) (λ w. tt)))))))

-- the course of the thread whose client flushes
flush_sound : StaysSound flush.settings.shape (thread 1 1) [] (course_of (thread 1 1) flush_courses)
flush_sound =
    step (keeps refl refl tt tt refl) (λ first w.
    step (keeps refl refl tt tt refl) (λ second w.
    step (keeps refl refl (told_first (suc first) _ _) tt tt) (λ class n w.
    step (keeps refl refl (told_first (suc first) _ _, (not_zero, told_second (suc second) _ _ _)) tt tt) (λ w.
    step (keeps refl refl tt tt tt) (λ w.
    step (keeps refl refl refl tt tt) (λ v w.
    step (keeps refl refl (refl, (not_zero, told_first (suc first) _ _)) tt tt) (λ w.
    step (keeps refl refl tt (is_there _ refl) tt) (λ w.
    step (keeps refl refl (told_first (suc first) _ _) tt tt) (λ class n w.
    step (keeps refl refl (told_first (suc first) _ _) tt tt) (λ v w.
    step (keeps refl refl (told_second (suc second) _ _ _) tt tt) (λ class n w.
    step (keeps refl refl (told_second (suc second) _ _ _) tt tt) (λ v w.
    step (keeps refl refl tt tt tt) (λ w.
    step (keeps refl refl tt refl tt) (λ w. tt))))))))))))))

-- the course of the thread that settles
settling_sound : StaysSound settling.settings.shape (thread 1 1) [] (course_of (thread 1 1) settling_courses)
settling_sound =
    step (keeps refl refl tt tt tt) (λ w.
    step (keeps refl refl tt (is_there _ refl) tt) (λ w.
    step (keeps refl refl tt tt tt) (λ w.
    step (keeps refl refl tt refl tt) (λ w. tt))))

-- a thread that waits on lock 0, which it held once
abbrev waits_once : Locks
waits_once = record { holds = []; waiting = Some (record { lock = Name 0; count = 1 }) }

-- it goes on, and has the lock again
abbrev holds_once : Locks
holds_once = record { holds = record { lock = Name 0; hold = record { level = Write; count = 1 } } ∷ []; waiting = None }

-- one more act of the first thread: it hasn't ended,
still_goes : (before : List Event) (event : Event) → list_any ends_thread before ≡ false → ends_thread event ≡ false → list_any ends_thread (before ++ event ∷ []) ≡ false
still_goes before event goes last = any_append ends_thread before (event ∷ []) ∙ ap (λ b. b || (ends_thread event || false)) goes ∙ ap (λ b. b || false) last

-- and has these locks
one_more : (before : List Event) (event : Event) (locks now : Locks) → locks_through (thread 1 1) before no_locks ≡ locks → locks_after (thread 1 1) event locks ≡ now → locks_through (thread 1 1) (before ++ event ∷ []) no_locks ≡ now
one_more before event locks now is then = locks_one_more (thread 1 1) before event no_locks ∙ ap (locks_after (thread 1 1) event) is ∙ then

module _ (shape : Shape) where
  -- the course of a thread that goes on after its wait
  goes_on_sound : (before : List Event) → list_any ends_thread before ≡ false → locks_through (thread 1 1) before no_locks ≡ waits_once → StaysSound shape (thread 1 1) before goes_on
  goes_on_sound before goes is =
      step (keeps_waiting goes tt tt (subst (λ (x : Locks). IsWaitingOn (Name 0) x.waiting) (sym is) refl) tt tt) (λ w.
      let resumes : Event = Act (thread 1 1) (Resume (Name 0)) Done w in
      let goes_2 = still_goes before resumes goes refl in
      let is_2 : locks_through (thread 1 1) (before ++ resumes ∷ []) no_locks ≡ holds_once = one_more before resumes waits_once holds_once is refl in
      step (keeps goes_2 (ap (λ (x : Locks). x.waiting) is_2) tt (λ none. cc (sym (ap (λ (x : Locks). hold_in (Name 0) x.holds) is_2) ∙ none)) tt) (λ w.
      let exits : Event = Act (thread 1 1) (Exit (Name 0)) Done w in
      let goes_3 = still_goes (before ++ resumes ∷ []) exits goes_2 refl in
      let is_3 : locks_through (thread 1 1) ((before ++ resumes ∷ []) ++ exits ∷ []) no_locks ≡ no_locks = one_more (before ++ resumes ∷ []) exits holds_once no_locks is_2 refl in
      step (keeps goes_3 (ap (λ (x : Locks). x.waiting) is_3) tt (ap (λ (x : Locks). x.holds) is_3) tt) (λ w. tt)))

  -- after a tick
  ticked_sound : (before : List Event) (rest : Course) → list_any ends_thread before ≡ false → locks_through (thread 1 1) before no_locks ≡ waits_once
      → ((told : Bool) (w : Option ThreadId) → StaysSound shape (thread 1 1) (before ++ Act (thread 1 1) (Tick (Name 0)) (Val (value.Bool told)) w ∷ []) rest) → StaysSound shape (thread 1 1) before (ticks_then rest)
  ticked_sound before rest goes is later =
      step (keeps_waiting goes tt tt (subst (λ (x : Locks). IsWaitingOn (Name 0) x.waiting) (sym is) refl) tt tt) (λ told w. by told w)
    where
      by : (told : Bool) (w : Option ThreadId) → StaysSound shape (thread 1 1) (before ++ Act (thread 1 1) (Tick (Name 0)) (Val (value.Bool told)) w ∷ []) (cond told goes_on rest)
      by true w = goes_on_sound (before ++ Act (thread 1 1) (Tick (Name 0)) (Val (value.Bool true)) w ∷ []) (still_goes before (Act (thread 1 1) (Tick (Name 0)) (Val (value.Bool true)) w) goes refl)
          (one_more before (Act (thread 1 1) (Tick (Name 0)) (Val (value.Bool true)) w) waits_once waits_once is refl)
      by false w = later false w

-- the courses of threads that time out
two_ticks_sound : StaysSound here.settings.shape (thread 1 1) [] (course_of (thread 1 1) two_ticks_courses)
two_ticks_sound =
    step (keeps refl refl tt tt tt) (λ w.
    step (keeps refl refl tt tt tt) (λ w.
    ticked_sound here.settings.shape _ _ refl refl (λ told w.
    ticked_sound here.settings.shape _ _ refl refl (λ told w.
    step (keeps_waiting refl tt tt refl tt refl)
    ((λ w. goes_on_sound here.settings.shape _ refl refl), λ w. goes_on_sound here.settings.shape _ refl refl)))))

one_tick_sound : (shape : Shape) → StaysSound shape (thread 1 1) [] one_tick
one_tick_sound shape =
    step (keeps refl refl tt tt tt) (λ w.
    step (keeps refl refl tt tt tt) (λ w.
    ticked_sound shape _ _ refl refl (λ told w.
    step (keeps_waiting refl tt tt refl tt refl)
    ((λ w. goes_on_sound shape _ refl refl), λ w. goes_on_sound shape _ refl refl))))

-- and of those that pass the lock on, or notify
passing_sound : StaysSound there.settings.shape (thread 2 1) [] (course_of (thread 2 1) passing_courses)
passing_sound =
    step (keeps refl refl tt tt tt) (λ w.
    step (keeps refl refl tt (is_there _ refl) tt) (λ w.
    step (keeps refl refl tt refl tt) (λ w. tt)))

notifying_sound : StaysSound crossed.settings.shape (thread 2 1) [] (course_of (thread 2 1) notifying_courses)
notifying_sound =
    step (keeps refl refl tt tt tt) (λ w.
    step (keeps refl refl tt tt tt) (λ w.
    step (keeps refl refl tt (is_there _ refl) tt) (λ w.
    step (keeps refl refl tt refl tt) (λ w. tt))))

-- the courses of two threads that put what they make into the root
first_puts_sound : StaysSound lost.settings.shape (thread 1 1) [] puts_root
first_puts_sound =
    step (keeps refl refl tt tt refl) (λ o w.
    step (keeps refl refl tt tt tt) (λ w.
    step (keeps refl refl refl tt tt) (λ v w.
    step (keeps refl refl (refl, (not_zero, told_first (suc o) _ _)) tt tt) (λ w.
    step (keeps refl refl tt (is_there _ refl) tt) (λ w.
    step (keeps refl refl tt refl tt) (λ w. tt))))))

second_puts_sound : StaysSound lost.settings.shape (thread 2 1) [] puts_root
second_puts_sound =
    step (keeps refl refl tt tt refl) (λ o w.
    step (keeps refl refl tt tt tt) (λ w.
    step (keeps refl refl refl tt tt) (λ v w.
    step (keeps refl refl (refl, (not_zero, told_first (suc o) _ _)) tt tt) (λ w.
    step (keeps refl refl tt (is_there _ refl) tt) (λ w.
    step (keeps refl refl tt refl tt) (λ w. tt))))))

-- of two that wait until they are woken,
first_waits_sound : StaysSound lost_waiters.settings.shape (thread 1 1) [] waits_on
first_waits_sound =
    step (keeps refl refl tt tt tt) (λ w.
    step (keeps refl refl tt tt tt) (λ w.
    step (keeps_waiting refl tt tt refl tt tt) (λ w.
    step (keeps refl refl tt (is_there _ refl) tt) (λ w.
    step (keeps refl refl tt refl tt) (λ w. tt)))))

third_waits_sound : StaysSound lost_waiters.settings.shape (thread 3 1) [] waits_on
third_waits_sound =
    step (keeps refl refl tt tt tt) (λ w.
    step (keeps refl refl tt tt tt) (λ w.
    step (keeps_waiting refl tt tt refl tt tt) (λ w.
    step (keeps refl refl tt (is_there _ refl) tt) (λ w.
    step (keeps refl refl tt refl tt) (λ w. tt)))))

-- and of one that settles between two sections
two_sections_sound : StaysSound settled_then_lost.settings.shape (thread 1 1) [] (course_of (thread 1 1) two_sections_courses)
two_sections_sound =
    step (keeps refl refl tt tt tt) (λ w.
    step (keeps refl refl tt (is_there _ refl) tt) (λ w.
    step (keeps refl refl tt tt tt) (λ w.
    step (keeps refl refl tt tt tt) (λ w.
    step (keeps refl refl tt (is_there _ refl) tt) (λ w.
    step (keeps refl refl tt refl tt) (λ w. tt))))))

-- A journal meets the premises where its courses are sound; the rest is computed.
meets : (p : Settings) (courses : List (ThreadId × Course)) (es : List Entry) → AllSound p.shape courses → replayed p (program_of courses) es ≡ map Some es
    → (each (counts_rejoins es) (clients_of p)).passes ≡ true → MeetsPremises p (program_of courses) es
meets p courses es sound same counted = record {
  sound = sound_program p.shape courses sound;
  lawful = lawful_by_replay p (program_of courses) es same counted;
}

-- and calmly where it has no waits
meets_calmly : (p : Settings) (courses : List (ThreadId × Course)) (es : List Entry) → AllSound p.shape courses → replayed p (program_of courses) es ≡ map Some es
    → (each (counts_rejoins es) (clients_of p)).passes ≡ true → (without_waits es).passes ≡ true → MeetsCalmly p (program_of courses) es
meets_calmly p courses es sound same counted calm = record { premises = meets p courses es sound same counted; calm = (without_waits es).holds calm }

pub counter_meets : CounterMeets
counter_meets = meets_calmly counter.settings counter_courses counter.entries (counter_sound, tt) refl refl refl

pub recall_meets : RecallMeets
recall_meets = meets_calmly recall.settings recall_courses recall.entries (first_sound, (second_sound, tt)) refl refl refl

pub flush_meets : FlushMeets
flush_meets = meets_calmly flush.settings flush_courses flush.entries (flush_sound, tt) refl refl refl

pub settling_meets : SettlingMeets
settling_meets = meets_calmly settling.settings settling_courses settling.entries (settling_sound, tt) refl refl refl

pub timed_out_here_meets : TimedOutHereMeets
timed_out_here_meets = meets here.settings two_ticks_courses here.entries (two_ticks_sound, tt) refl refl

pub timed_out_there_meets : TimedOutThereMeets
timed_out_there_meets = meets there.settings passing_courses there.entries (one_tick_sound there.settings.shape, (passing_sound, tt)) refl refl

pub crossed_timeout_meets : CrossedTimeoutMeets
crossed_timeout_meets = meets crossed.settings notifying_courses crossed.entries (one_tick_sound crossed.settings.shape, (notifying_sound, tt)) refl refl

pub lost_client_meets : LostClientMeets
lost_client_meets = meets_calmly lost.settings two_puts_courses lost.entries (first_puts_sound, (second_puts_sound, tt)) refl refl refl

pub lost_waiters_meets : LostWaitersMeets
lost_waiters_meets = meets lost_waiters.settings two_waits_courses lost_waiters.entries (first_waits_sound, (notifying_sound, (third_waits_sound, tt))) refl refl

pub settled_then_lost_meets : SettledThenLostMeets
settled_then_lost_meets = meets_calmly settled_then_lost.settings two_sections_courses settled_then_lost.entries (two_sections_sound, (passing_sound, tt)) refl refl refl

-- Fewer topics are touched in a lawful journal of a sound program: a thread that is marked awaits at most the lock of
-- its notification, and a field that is set had a value before. So what an entry touches goes by the entry, by which
-- lease the acting thread closes before and after it, and by whose record is acknowledged. Entries stand with the
-- newest first.
use Rattle.std.specs.List.{list_any}
use Rattle.std.specs.Prelude.{ℕ, ◌≡◌, Bool, true, false, eqb, ltb, ◌&&◌, ◌||◌, is_some, Option, Some, None, List, []}
use Rattle.std.specs.Prelude.{◌∷◌, ◌++◌, flat_map}
use Rattle.dso_base.specs.declared.journal.Entry.{Entry}
use Rattle.dso_base.specs.declared.journal.Input.{Input}
use Rattle.dso_base.specs.declared.journal.Input.TheVariants as input
use Rattle.dso_base.specs.declared.journal.Node.TheVariants.{Client}
use Rattle.dso_base.specs.declared.lock.LockName.{LockName}
use Rattle.dso_base.specs.declared.lock.ThreadId.{ThreadId}
use Rattle.dso_base.specs.declared.message.Down.TheVariants as down
use Rattle.dso_base.specs.declared.request.Event.{Event}
use Rattle.dso_base.specs.declared.request.Event.TheVariants.{Act, Lost}
use Rattle.dso_base.specs.declared.request.Reply.{Reply}
use Rattle.dso_base.specs.declared.request.Reply.TheVariants.{Done}
use Rattle.dso_base.specs.declared.request.Request.{Request}
use Rattle.dso_base.specs.declared.request.Request.TheVariants.{Notify, NotifyAll}
use Rattle.dso_base.specs.declared.value.ClassId.{ClassId}
use Rattle.dso_law.specs.Settings.{Settings}
use Rattle.dso_law.specs.Entries.{entries_of}
use Rattle.dso_law.specs.Threads.{locks_of}
use Rattle.dso_law.specs.Copies.{is_resident, copy_of, class_held}
use Rattle.dso_law.specs.ClientWaiters.{is_listed}
use Rattle.dso_law.specs.FitsDown.{IsWaitingOn}
use Rattle.dso_law.specs.ClientStep.{ClientStep, may_act}
use Rattle.dso_legal.specs.Lawful.{next_after, AllFollow}
use Rattle.dso_legal.specs.Slots.{Acts, is_open}
use Rattle.dso_legal.specs.SoundProgram.{IsOfWaiter, KeepsLocks, AsksSoundly, GivesKnownTexts}
use Rattle.dso_legal.specs.WithinShape.{StaysWithinShape}
use Rattle.dso_open_law.specs.TouchedThreads.{Topic, OfLock, is_topic, topic, acts, made_topics, sent_topics}
use Rattle.dso_open_law.specs.TouchedThreads.{closed_topics, input_topics, done_topics}
use Rattle.dso_open_law.specs.OthersMayAct.{OnlyActorsGoOn}

module _ (before after : ThreadId → Option Request) (es : List Entry) where
  -- what the entry's input touches: a waking the lock that the thread waits on
  abbrev pub few_taken : Input → List Topic
  few_taken (input.TookDown (down.Wake l t)) = OfLock l ∷ []
  few_taken i = input_topics before after es i

  -- what an act touches by what it does: a notification that may mark threads its lock
  abbrev pub few_done : ThreadId → Request → Reply → Option ThreadId → List Topic
  few_done t (Notify l) Done None = []
  few_done t (Notify l) Done (Some u) = OfLock l ∷ []
  few_done t (NotifyAll l) Done woken = OfLock l ∷ []
  few_done t request reply woken = done_topics before after es t request reply woken

  -- what the entry's event touches
  abbrev pub few_acted : Option Event → List Topic
  few_acted None = []
  few_acted (Some (Act t request reply woken)) = made_topics es reply ++ few_done t request reply woken
      ++ closed_topics before after es (before t) ++ closed_topics before after es (after t)
  few_acted (Some (Lost client)) = []

  -- the topics that the entry touches
  abbrev pub few_topics : Entry → List Topic
  few_topics e = few_taken e.input ++ few_acted e.event ++ flat_map sent_topics e.sent

  -- the thread acts, or what its next request is about is one of them
  abbrev pub is_of_few : Entry → ThreadId → Option Request → Bool
  is_of_few e t request = acts t e.event || list_any (is_topic (topic t request)) (few_topics e)

-- whether there is a class of a size above the field
abbrev pub is_field_of : ℕ → Option (ClassId × ℕ) → Bool
is_field_of f None = false
is_field_of f (Some class) = ltb f class.1

-- what a client's entries tell of its waiters: who is in its list of a lock is one of its threads and waits on the
-- lock; and who waits asks only what waiters ask, of that lock. The next request of each thread is an argument.
pub record WaitersAreKnown (c : ℕ) (next : ThreadId → Option Request) (es : List Entry) : Type 0 where
  pub listed : (t : ThreadId) (l : LockName) → is_listed t l es ≡ true
      → (t.client ≡ c) × IsWaitingOn l (locks_of t es).waiting
  pub asks : (t : ThreadId) (l : LockName) (request : Request) → t.client ≡ c
      → IsWaitingOn l (locks_of t es).waiting → next t ≡ Some request
      → IsOfWaiter request × KeepsLocks request (locks_of t es)

-- what they tell of its copies: a copy has a value of each field below its size, and of no other
abbrev pub CopiesAreWhole : List Entry → Type 0
CopiesAreWhole es = (o f : ℕ) → is_some (copy_of o f es) ≡ (is_resident o es && is_field_of f (class_held o es))

-- Few may act otherwise: where the client rule allows the entry, the waiters are known and copies are whole, a thread
-- of the client that isn't one of these may act after it exactly where it might before.
abbrev pub FewActOtherwise : Type 0
FewActOtherwise = (p : Settings) (c : ℕ) (before after : ThreadId → Option Request) (e : Entry) (es : List Entry)
    (t : ThreadId)
    → OnlyActorsGoOn c before after e → ClientStep p c before after e es
    → WaitersAreKnown c before es → CopiesAreWhole es → CopiesAreWhole (e ∷ es)
    → eqb t.client c ≡ true → is_of_few before after es e t (before t) ≡ false
    → may_act p c after t (e ∷ es) ≡ may_act p c before t es

-- Known waiters and whole copies: so they are in a lawful journal of a sound program.
abbrev pub WaitersAndCopiesAreSo : Type 0
WaitersAndCopiesAreSo = (p : Settings) (next : ThreadId → List Event → Option Request)
    → AsksSoundly p.shape next → GivesKnownTexts p.shape next → StaysWithinShape p.shape next
    → (es : List Entry) → AllFollow p next es
    → (c : ℕ) → WaitersAreKnown c (next_after next es) (entries_of (Client c) es)
    × CopiesAreWhole (entries_of (Client c) es)

-- Few are touched: in a lawful journal of a sound program, the slot of a thread that isn't one of these is open with an
-- entry of its client exactly where it was open before.
abbrev pub FewAreTouched : Type 0
FewAreTouched = (p : Settings) (next : ThreadId → List Event → Option Request)
    → AsksSoundly p.shape next → GivesKnownTexts p.shape next → StaysWithinShape p.shape next
    → (e : Entry) (es : List Entry) → AllFollow p next (e ∷ es)
    → (t : ThreadId) → e.node ≡ Client t.client
    → is_of_few (next_after next es) (next_after next (e ∷ es)) (entries_of (Client t.client) es) e t
    (next_after next es t) ≡ false
    → is_open p next (e ∷ es) (Acts t) ≡ is_open p next es (Acts t)

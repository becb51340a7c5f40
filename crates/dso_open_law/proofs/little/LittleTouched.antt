-- What acts of a run touch: one that ends no block what its event does, a light one its thread alone, an entry its lock.
use Rattle.std.specs.List.{list_any}
use Rattle.std.proofs.Common.{ℕ, ◌≡◌, refl, sym, ◌∙◌, ap, Bool, true, false, cond, ◌&&◌, ◌||◌, is_some, Option, Some, None, List, [], ◌∷◌, ◌++◌, filter}
use Rattle.std.proofs.lemmas.Bool.{or_from}
use Rattle.dso_base.specs.declared.journal.Entry.{Entry}
use Rattle.dso_base.specs.declared.journal.Input.{Input}
use Rattle.dso_base.specs.declared.journal.Input.TheVariants as input
use Rattle.dso_base.specs.declared.lock.Level.{Level}
use Rattle.dso_base.specs.declared.lock.Level.TheVariants.{Read, Write}
use Rattle.dso_base.specs.declared.lock.LockName.{LockName}
use Rattle.dso_base.specs.declared.lock.ThreadId.{ThreadId}
use Rattle.dso_base.specs.declared.record.Ending.{Ending}
use Rattle.dso_base.specs.declared.request.Event.{Event}
use Rattle.dso_base.specs.declared.request.Event.TheVariants.{Act, Lost}
use Rattle.dso_base.specs.declared.request.Reply.{Reply}
use Rattle.dso_base.specs.declared.request.Reply.TheVariants.{Done, Made}
use Rattle.dso_base.specs.declared.request.Request.{Request}
use Rattle.dso_base.specs.declared.request.Request.TheVariants.{New, Enter, Exit, Wait, Timeout, Resume, Notify, NotifyAll, End}
use Rattle.dso_law.specs.Settings.{Settings}
use Rattle.dso_law.specs.Leases.{is_entered}
use Rattle.dso_law.specs.Threads.{Locks, hold_of, locks_of, ending_by}
use Rattle.dso_law.specs.RequestNeeds.{Need, unmet}
use Rattle.dso_law.specs.Replies.{woken_by, reply_of}
use Rattle.dso_law.specs.ClientStep.{Does, DoesOrAsks, ActsOn, ClientStepOn}
use Rattle.dso_law.specs.ClientRun.{ClientRun, next_in}
use Rattle.dso_law.proofs.runs.MakesNext.{IsNew, only_new}
use Rattle.dso_law.proofs.runs.Others.{same_events}
use Rattle.dso_law.proofs.runs.Quiet.{nothing_is_due}
use Rattle.dso_open_law.specs.TouchedThreads.{Topic, OfLock, topic, is_topic, awaited, acts, made_topics, set_objects, is_of_read, closed_topics, done_topics, event_topics, touched_topics}
use Rattle.dso_open_law.specs.OthersMayAct.{OnlyActorsGoOn}
use Rattle.dso_open_law.specs.TouchesLittle.{is_light, ActsTouchWhatTheyDo, LightActsTouchNone, EntriesTouchTheirLock}
use Rattle.dso_open_law.proofs.readings.Untouched.{IsSpared, spared_filter}
use Rattle.dso_open_law.proofs.threads.Acting.{others_event}
use Rattle.dso_open_law.proofs.little.Returning.{both_spared, act_touches}

-- ---- who does what an entry with an event does

-- the entry is that of a thread whose next request it answers
record HasDone (p : Settings) (c : ℕ) (before after : ThreadId → Option Request) (e : Entry) (es : List Entry) : Type 0 where
  index : ℕ
  thread : ThreadId
  request : Request
  acted : e.input ≡ input.Act index
  asked : before thread ≡ Some request
  does : Does p c thread request before after e es

module _ (p : Settings) (c : ℕ) (before after : ThreadId → Option Request) (e : Entry) (es : List Entry) (event : Event) (is : e.event ≡ Some event) where
  no_event : {P : Type 0} → e.event ≡ None → P
  no_event none = absurd (cc (sym is ∙ none))

  done_by : (index : ℕ) (t : ThreadId) (request : Request) → e.input ≡ input.Act index → before t ≡ Some request → (need : Option Need) → DoesOrAsks p c t request need before after e es → HasDone p c before after e es
  done_by index t request acted asked None does = record { index = index; thread = t; request = request; acted = acted; asked = asked; does = does }
  done_by index t request acted asked (Some need) asks = no_event asks.event

  done_on : (index : ℕ) (t : ThreadId) → e.input ≡ input.Act index → (request : Option Request) → before t ≡ request → ActsOn p c t request before after e es → HasDone p c before after e es
  done_on index t acted None asked h = absurd h
  done_on index t acted (Some request) asked h = done_by index t request acted asked (unmet p c before t request es) h

  done_step : (i : Input) → e.input ≡ i → ClientStepOn p c i before after e es → HasDone p c before after e es
  done_step (input.Act index) acted h = done_on index (record { client = c; index = index }) acted (before (record { client = c; index = index })) refl h.acts
  done_step (input.TookDown m) acted h = no_event h.event
  done_step (input.Flush o) acted h = no_event h.event
  done_step (input.Rejoin d) acted h = no_event h.event
  done_step i acted h = absurd h

-- ---- light requests, and entries

-- no light request makes an object
light_makes_none : (request : Request) → is_light request ≡ true → IsNew request → ⊥
light_makes_none (New class n) light new = cc light
light_makes_none request light new = new

-- none ends a block
light_ends_none : (request : Request) (reply : Reply) (locks : Locks) → is_light request ≡ true → ending_by request reply locks ≡ None
light_ends_none (Exit l) reply locks light = absurd (cc light)
light_ends_none (Wait l) reply locks light = absurd (cc light)
light_ends_none (Timeout l) reply locks light = absurd (cc light)
light_ends_none (End fault) reply locks light = absurd (cc light)
light_ends_none request reply locks light = refl

-- none awaits a lock at Write
light_awaits_none : (request : Request) → is_light request ≡ true → awaited (Some request) ≡ []
light_awaits_none (Enter l level) light = absurd (cc light)
light_awaits_none (Resume l) light = absurd (cc light)
light_awaits_none request light = refl

-- nothing is made by another reply
made_none : (es : List Entry) (reply : Reply) → ((o : ℕ) → reply ≡ Made o → ⊥) → made_topics es reply ≡ []
made_none es (Made o) never = absurd (never o refl)
made_none es reply never = refl

module _ (before after : ThreadId → Option Request) (es : List Entry) where
  -- none changes a lock
  light_does_none : (t : ThreadId) (request : Request) (reply : Reply) (woken : Option ThreadId) → is_light request ≡ true → done_topics before after es t request reply woken ≡ []
  light_does_none t (Enter l level) reply woken light = absurd (cc light)
  light_does_none t (Exit l) reply woken light = absurd (cc light)
  light_does_none t (Wait l) reply woken light = absurd (cc light)
  light_does_none t (Resume l) reply woken light = absurd (cc light)
  light_does_none t (Notify l) reply woken light = absurd (cc light)
  light_does_none t (NotifyAll l) reply woken light = absurd (cc light)
  light_does_none t request reply woken light = refl

  module _ (about : Topic) (l : LockName) (other : is_topic about (OfLock l) ≡ false) where
    one_lock : IsSpared about (OfLock l ∷ [])
    one_lock = or_from (is_topic about (OfLock l)) false other refl

    -- an entry changes its lock alone
    enter_does : (t : ThreadId) (level : Level) (reply : Reply) (woken : Option ThreadId) → IsSpared about (done_topics before after es t (Enter l level) reply woken)
    enter_does t level Done woken = by (is_some (hold_of t l es) && is_entered l es)
      where
        by : (b : Bool) → IsSpared about (cond b [] (OfLock l ∷ []))
        by true = refl
        by false = one_lock
    enter_does t level reply woken = refl

    enter_closes : (level : Level) → IsSpared about (closed_topics before after es (Some (Enter l level)))
    enter_closes Read = refl
    enter_closes Write = spared_filter about (is_of_read before after es) (OfLock l ∷ []) one_lock

-- one of two tests, where the other fails
first_alone : (a b : Bool) → b ≡ false → (a || b) ≡ a
first_alone true b fails = refl
first_alone false b fails = fails

-- nothing is among nothing
spared_by : (about : Topic) (topics : List Topic) → topics ≡ [] → IsSpared about topics
spared_by about topics none = ap (list_any (is_topic about)) none

-- ---- the three laws

module _ (p : Settings) (c : ℕ) (next : ThreadId → List Event → Option Request) (e : Entry) (es : List Entry) (run : ClientRun p c next (e ∷ es))
    (t : ThreadId) (request : Request) (reply : Reply) (woken : Option ThreadId) (is : e.event ≡ Some (Act t request reply woken)) where
  abbrev before : ThreadId → Option Request
  before = next_in next es

  abbrev after : ThreadId → Option Request
  after = next_in next (e ∷ es)

  only_actors : OnlyActorsGoOn c before after e
  only_actors u own other = ap (next u) (same_events u e es (others_event u e.event other))

  -- the thread's act, by the client rule
  its_act : HasDone p c before after e es
  its_act = done_step p c before after e es (Act t request reply woken) is e.input refl run.1

  -- whether an event ends a block of its thread
  abbrev ends : Event → Option Ending
  ends (Act u asked told who) = ending_by asked told (locks_of u es)
  ends (Lost client) = None

  touches_what_it_does : (about : Topic) → ending_by request reply (locks_of t es) ≡ None → IsSpared about (event_topics before after es e.event) → IsSpared about (touched_topics before after es e ++ set_objects e)
  touches_what_it_does about ends_none none =
      let h = its_act in
      let same : Act h.thread h.request h.does.reply (woken_by h.request h.does.reply es) ≡ Act t request reply woken = cc (sym h.does.event ∙ is) in
      act_touches p c before after e es only_actors (nothing_is_due p c next es run.0) h.index h.acted about none h.thread h.request h.does (ap ends same ∙ ends_none)

  -- the thread awaited what its request awaits
  was_asked : before t ≡ Some request
  was_asked =
      let h = its_act in
      let thread : h.thread ≡ t = cc (sym h.does.event ∙ is) in
      let asked : h.request ≡ request = cc (sym h.does.event ∙ is) in
      ap before (sym thread) ∙ h.asked ∙ ap Some asked

  was_answered : reply_of p t request es ≡ Some reply
  was_answered =
      let h = its_act in
      let thread : h.thread ≡ t = cc (sym h.does.event ∙ is) in
      let asked : h.request ≡ request = cc (sym h.does.event ∙ is) in
      let told : h.does.reply ≡ reply = cc (sym h.does.event ∙ is) in
      (λ i. reply_of p (sym thread i) (sym asked i) es) ∙ h.does.answered ∙ ap Some told

  -- an object is made only by a New
  makes_none : (IsNew request → ⊥) → made_topics es reply ≡ []
  makes_none not_new = made_none es reply (λ o made. not_new (only_new p t request es o (was_answered ∙ ap Some made)))

  module _ (closes_none : closed_topics before after es (after t) ≡ []) where
    light_touches_none : is_light request ≡ true → (about : Topic) → IsSpared about (touched_topics before after es e ++ set_objects e)
    light_touches_none light about = touches_what_it_does about (light_ends_none request reply (locks_of t es) light)
        (spared_by about (event_topics before after es e.event) (ap (event_topics before after es) is ∙ nothing))
      where
        nothing : event_topics before after es (Some (Act t request reply woken)) ≡ []
        nothing = λ i. makes_none (light_makes_none request light) i ++ light_does_none before after es t request reply woken light i ++ (ap (closed_topics before after es) was_asked ∙ ap (filter (is_of_read before after es)) (light_awaits_none request light)) i ++ closes_none i

-- An act that ends no block touches what it does.
pub acts_touch_what_they_do : ActsTouchWhatTheyDo
acts_touch_what_they_do p c next e es t request reply woken about run is ends_none none = touches_what_it_does p c next e es run t request reply woken is about ends_none none

-- A light act touches its thread alone.
pub light_acts_touch_none : LightActsTouchNone
light_acts_touch_none p c next e es t request reply woken run is light closes_none u asks =
    first_alone (acts u e.event) (list_any (is_topic (topic u asks)) (touched_topics (next_in next es) (next_in next (e ∷ es)) es e ++ set_objects e))
    (light_touches_none p c next e es run t request reply woken is closes_none light (topic u asks))

-- An entry touches its lock.
pub entries_touch_their_lock : EntriesTouchTheirLock
entries_touch_their_lock p c next e es t l level reply woken run is closes_none u asks other =
    let before : ThreadId → Option Request = next_in next es in
    let after : ThreadId → Option Request = next_in next (e ∷ es) in
    let about : Topic = topic u asks in
    let made : IsSpared about (made_topics es reply) = spared_by about (made_topics es reply) (makes_none p c next e es run t (Enter l level) reply woken is (λ new. new)) in
    let closed_before : IsSpared about (closed_topics before after es (before t)) =
    ap (λ request. list_any (is_topic about) (closed_topics before after es request)) (was_asked p c next e es run t (Enter l level) reply woken is) ∙ enter_closes before after es about l other level in
    let does : IsSpared about (event_topics before after es (Some (Act t (Enter l level) reply woken))) =
    both_spared about (made_topics es reply ++ done_topics before after es t (Enter l level) reply woken ++ closed_topics before after es (before t)) (closed_topics before after es (after t))
    (both_spared about (made_topics es reply ++ done_topics before after es t (Enter l level) reply woken) (closed_topics before after es (before t))
    (both_spared about (made_topics es reply) (done_topics before after es t (Enter l level) reply woken) made (enter_does before after es about l other t level reply woken)) closed_before)
    (spared_by about (closed_topics before after es (after t)) closes_none) in
    first_alone (acts u e.event) (list_any (is_topic about) (touched_topics before after es e ++ set_objects e))
    (touches_what_it_does p c next e es run t (Enter l level) reply woken is about refl (ap (λ event. list_any (is_topic about) (event_topics before after es event)) is ∙ does))

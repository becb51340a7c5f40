-- What a thread names after an entry is known: it named it before, or the entry's event does.
use Rattle.std.proofs.Common.{ℕ, ◌≡◌, ◌⊎◌, inl, inr, refl, sym, ◌∙◌, ap, subst, Bool, true, false, cond}
use Rattle.std.proofs.Common.{Option, Some, None, List, [], ◌∷◌, ◌++◌}
use Rattle.std.specs.Prelude.{Contains}
use Rattle.dso_base.specs.declared.journal.Entry.{Entry}
use Rattle.dso_base.specs.declared.journal.Node.TheVariants.{Client}
use Rattle.dso_base.specs.declared.lock.ThreadId.{ThreadId}
use Rattle.dso_base.specs.declared.record.Ending.{Ending}
use Rattle.dso_base.specs.declared.request.Event.{Event}
use Rattle.dso_base.specs.declared.request.Event.TheVariants.{Act}
use Rattle.dso_base.specs.declared.request.Reply.{Reply}
use Rattle.dso_base.specs.declared.request.Request.{Request}
use Rattle.dso_base.specs.declared.value.Value.{Value}
use Rattle.dso_base.specs.Block.{work_after}
use Rattle.dso_base.specs.Following.{is_thread}
use Rattle.dso_base.specs.Naming.{request_names, reply_names, work_names}
use Rattle.dso_machine.specs.Frames.{holds_then, KeepsFrames}
use Rattle.dso_plain.proofs.keys.SameKeys.{same_thread, thread_self}
use Rattle.dso_law.specs.Settings.{Settings, threads_of}
use Rattle.dso_law.specs.Entries.{entries_of, by_event, add_event, events_in}
use Rattle.dso_law.specs.Laws.{WorkAfter}
use Rattle.dso_law.specs.Replies.{woken_by}
use Rattle.dso_law.specs.Threads.{ending_of, locks_of, work_of}
use Rattle.dso_law.proofs.client.WorkByEntry.{work_goes_on}
use Rattle.dso_legal.specs.Collection.{thread_holds, thread_names}
use Rattle.dso_legal.proofs.blocks.Histories.{client_of_thread}
use Rattle.dso_legal.proofs.channels.AfterEntry.{own_turn}
use Rattle.dso_legal.proofs.fitting.NamesInHand.{left_so, right_so, either_so}
use Rattle.dso_legal.proofs.objects.OwnObjects.{IsOthers, work_alone}
use Rattle.dso_gc_law.proofs.Known.{IsKnown, IsOfKept, ThreadsAreKnown}
use Rattle.dso_gc_law.proofs.threads.EventNames.{ActOf, what_it_does, request_reached, reply_known}
use Rattle.dso_gc_law.proofs.threads.Hand.{HandTells, start_tells, act_tells}
use Rattle.dso_gc_law.proofs.threads.Starts.{one_passes, zero_live, threads_live}

-- ---- by a client's entries

-- What follows where an object is object 0, and where the event names it.
module _ (p : Settings) (next : ThreadId → List Event → Option Request) (frames : ThreadId → List Event → List Value)
    (o : ℕ) (K : Type 0) (e : Entry) (own : List Entry) where
  -- K follows where the thread names it,
  abbrev Holds : ThreadId → List Entry → Type 0
  Holds t its = thread_holds p next frames t its o ≡ true → K

  -- where its frames or its next request do,
  abbrev FramesHold : ThreadId → List Event → Type 0
  FramesHold t events = holds_then next frames t events o ≡ true → K

  -- which is a part of it, as what it has in hand is
  in_frames : (t : ThreadId) → Holds t own → FramesHold t (events_in t own)
  in_frames t h names =
      h (left_so (holds_then next frames t (events_in t own) o) (work_names (work_of p.shape t own) o) names)

  in_hand : (t : ThreadId) → Holds t own → HandTells o K (work_of p.shape t own)
  in_hand t h names =
      h (right_so (holds_then next frames t (events_in t own) o) (work_names (work_of p.shape t own) o) names)

  -- and both are the whole
  either_holds : (t : ThreadId) → FramesHold t (events_in t (e ∷ own)) → HandTells o K (work_of p.shape t (e ∷ own))
      → Holds t (e ∷ own)
  either_holds t by_frames by_hand = either_so (holds_then next frames t (events_in t (e ∷ own)) o)
      (work_names (work_of p.shape t (e ∷ own)) o) by_frames by_hand

  -- an entry without an event leaves the thread what it names
  pub quiet_holds : e.event ≡ None → (t : ThreadId) → Holds t own → Holds t (e ∷ own)
  quiet_holds none t h = either_holds t
      (subst (λ event. FramesHold t (by_event (add_event t) event (events_in t own))) (sym none) (in_frames t h))
      (subst (HandTells o K) (sym (work_alone p.shape t e own (subst (IsOthers t) (sym none) tt))) (in_hand t h))

  -- an act: what its thread names then it named before, or the event does
  module _ (keeps : KeepsFrames next frames) (zero_tells : o ≡ 0 → K) (u : ThreadId) (request : Request) (reply : Reply)
      (woken : Option ThreadId) (is : e.event ≡ Some (Act u request reply woken))
      (asked : request_names request o ≡ true → K) (told : reply_names reply o ≡ true → K) where
    abbrev event : Event
    event = Act u request reply woken

    -- its frames with its next request,
    frames_more : (t : ThreadId) → FramesHold t (events_in t own) → FramesHold t (events_in t own ++ event ∷ [])
    frames_more t h names = elim (keeps t (events_in t own) u request reply woken o names) [
      | inl first ↦ zero_tells first
      | inr held ↦ either_so (holds_then next frames t (events_in t own) o) (reply_names reply o) h told held
    ]

    -- those of any thread,
    frames_then : (t : ThreadId) → FramesHold t (events_in t own) → FramesHold t (events_in t (e ∷ own))
    frames_then t h = subst (λ event. FramesHold t (by_event (add_event t) event (events_in t own))) (sym is)
        (by (is_thread t u))
      where
        by : (b : Bool) → FramesHold t (cond b (events_in t own ++ event ∷ []) (events_in t own))
        by true = frames_more t h
        by false = h

    -- what the thread that acts has in hand,
    goes : WorkAfter p.shape u event e own
    goes = work_goes_on p.shape u event e own (record { event_is = is; its = thread_self u })

    hand_with : HandTells o K (work_of p.shape u own)
        → HandTells o K (work_after p.shape event (work_of p.shape u own))
    hand_with h = act_tells o K p.shape request reply woken (work_of p.shape u own) asked told h

    own_hand : (ending : Option Ending) → ending_of event (locks_of u own) ≡ ending
        → HandTells o K (work_of p.shape u own) → HandTells o K (work_of p.shape u (e ∷ own))
    own_hand None none h = subst (HandTells o K) (sym (goes.goes_on none)) (hand_with h)
    own_hand (Some ending) some h = subst (HandTells o K) (sym (goes.ends (λ none. never (sym some ∙ none))))
        (start_tells o K (work_after p.shape event (work_of p.shape u own)) (hand_with h))
      where
        never : Some ending ≡ None → ⊥
        never same = cc same

    -- and what any thread has
    hand_then : (t : ThreadId) → HandTells o K (work_of p.shape t own) → HandTells o K (work_of p.shape t (e ∷ own))
    hand_then t h = by (is_thread t u) refl
      where
        by : (b : Bool) → is_thread t u ≡ b → HandTells o K (work_of p.shape t (e ∷ own))
        by true same = subst (λ w. HandTells o K (work_of p.shape w (e ∷ own))) (same_thread t u same)
            (own_hand (ending_of event (locks_of u own)) refl
            (subst (λ w. HandTells o K (work_of p.shape w own)) (sym (same_thread t u same)) h))
        by false other = subst (HandTells o K) (sym (work_alone p.shape t e own (subst (IsOthers t) (sym is) other))) h

    -- So of any thread.
    pub act_holds : (t : ThreadId) → Holds t own → Holds t (e ∷ own)
    act_holds t h = either_holds t (frames_then t (in_frames t h)) (hand_then t (in_hand t h))

-- ---- in a journal

-- a thread of a client is one of the client's
pub client_of : (p : Settings) (c : ℕ) (t : ThreadId) → Contains (threads_of p c) t → t.client ≡ c
client_of p c t there = client_of_thread p c t (one_passes (is_thread t) (threads_of p c) t there (thread_self t))

module _ (p : Settings) (next : ThreadId → List Event → Option Request) (frames : ThreadId → List Event → List Value)
    (kept : ℕ → Bool) (keeps : KeepsFrames next frames) where
  -- what a thread of the client names after the entry is known, where what it named before is
  pub thread_known : (c : ℕ) (e : Entry) (es : List Entry) → IsOfKept p next frames kept c e es → (t : ThreadId)
      → t.client ≡ c → (o : ℕ) → (thread_names p next frames t es o ≡ true → IsKnown p next frames kept es o)
      → thread_names p next frames t (e ∷ es) o ≡ true → IsKnown p next frames kept es o
  thread_known c e es it t its o before names = by (what_it_does p next frames kept c e es it)
      (subst (λ entries. thread_holds p next frames t entries o ≡ true) entries_now names)
    where
      K : Type 0
      K = IsKnown p next frames kept es o

      mine : List Entry
      mine = entries_of (Client c) es

      entries_now : entries_of (Client t.client) (e ∷ es) ≡ e ∷ mine
      entries_now = ap (λ n. entries_of (Client n) (e ∷ es)) its ∙ (own_turn c e es it.node).own

      held : thread_holds p next frames t mine o ≡ true → K
      held = subst (λ n. thread_holds p next frames t (entries_of (Client n) es) o ≡ true → K) its before

      by : (e.event ≡ None) ⊎ ActOf p next frames kept c e es it → thread_holds p next frames t (e ∷ mine) o ≡ true → K
      by (inl none) = quiet_holds p next frames o K e mine none t held
      by (inr act) = act_holds p next frames o K e mine keeps
          (λ zero_is. inl (zero_live p next frames kept es o zero_is))
          act.thread act.request act.reply (woken_by act.request act.reply mine) act.event
          (λ names. inl (request_reached p next frames kept c e es it act o names))
          (reply_known p next frames kept c e es it act o) t held

  -- What the client's threads name after it is known.
  pub threads_are_known : ThreadsAreKnown p next frames kept
  threads_are_known c e es it t there o names = thread_known c e es it t (client_of p c t there) o (λ before.
      inl (threads_live p next frames kept c es o it.counts
      (one_passes (λ t. thread_names p next frames t es o) (threads_of p c) t there before))) names

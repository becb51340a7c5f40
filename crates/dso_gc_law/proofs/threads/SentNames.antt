-- What a client's messages name is known: a record names what was in hand and what the event names; what is asked for,
-- what the thread's next request names; a lease given back is of a lock that the entry touches.
use Rattle.std.specs.List.{list_any}
use Rattle.std.specs.Option.{option_map_or}
use Rattle.std.proofs.Common.{ℕ, ◌≡◌, inl, inr, refl, sym, ◌∙◌, ap, subst, Bool, true, false, ◌||◌}
use Rattle.std.proofs.Common.{Option, Some, None, List, [], ◌∷◌, ◌++◌, map}
use Rattle.std.proofs.lemmas.List.Folds.{list_any-append}
use Rattle.dso_base.specs.declared.journal.Entry.{Entry}
use Rattle.dso_base.specs.declared.journal.Input.{Input}
use Rattle.dso_base.specs.declared.journal.Input.TheVariants as input
use Rattle.dso_base.specs.declared.journal.Node.TheVariants.{Client}
use Rattle.dso_base.specs.declared.journal.Sent.{Sent}
use Rattle.dso_base.specs.declared.journal.Sent.TheVariants.{ToServer}
use Rattle.dso_base.specs.declared.lock.ThreadId.{ThreadId}
use Rattle.dso_base.specs.declared.message.Up.{Up}
use Rattle.dso_base.specs.declared.request.Event.{Event}
use Rattle.dso_base.specs.declared.request.Event.TheVariants.{Act}
use Rattle.dso_base.specs.declared.request.Reply.{Reply}
use Rattle.dso_base.specs.declared.request.Request.{Request}
use Rattle.dso_base.specs.declared.value.Value.{Value}
use Rattle.dso_base.specs.Block.{has_reference}
use Rattle.dso_base.specs.Following.{is_thread}
use Rattle.dso_base.specs.Naming.{request_names, reply_names, event_names, work_names, up_names}
use Rattle.dso_machine.specs.Frames.{holds_then, KeepsFrames}
use Rattle.dso_law.specs.Settings.{Settings}
use Rattle.dso_law.specs.Entries.{entries_of, unsent, events_in}
use Rattle.dso_law.specs.ClientRun.{ClientRun, next_in}
use Rattle.dso_law.specs.ClientStep.{Asks, Does, DoesOrAsks, ActsOn, ClientStepOn, asks_again, commits, returns}
use Rattle.dso_law.specs.Replies.{woken_by}
use Rattle.dso_law.specs.RequestNeeds.{Need, unmet}
use Rattle.dso_law.specs.Threads.{work_of}
use Rattle.dso_legal.specs.Collection.{thread_holds, thread_names, IsLive}
use Rattle.dso_legal.proofs.channels.AfterEntry.{own_turn}
use Rattle.dso_legal.proofs.fitting.NamesInHand.{left_so, right_so, either_so}
use Rattle.dso_legal.proofs.runs.ClientsRun.{runs}
use Rattle.dso_gc_law.specs.Garbage.{sent_names}
use Rattle.dso_gc_law.proofs.Known.{IsKnown, IsOfKept, ClientSendsKnown}
use Rattle.dso_gc_law.proofs.threads.Asking.{again_names, asked_names, commit_tells}
use Rattle.dso_gc_law.proofs.threads.EventNames.{event_is_known}
use Rattle.dso_gc_law.proofs.threads.Hand.{HandTells, act_tells}
use Rattle.dso_gc_law.proofs.threads.Returned.{taken_names, IsTouched, ReturnsNamed}
use Rattle.dso_gc_law.proofs.threads.Starts.{taken_live, thread_live}
use Rattle.dso_gc_law.proofs.threads.ThreadNames.{client_of, thread_known, threads_are_known}

-- ---- messages

module _ (o : ℕ) where
  -- a message of the list names the object
  abbrev Names : List Up → Type 0
  Names ms = list_any (λ m. up_names m o) ms ≡ true

  -- what is sent to the server names what the messages do
  sent_so : (ms : List Up) → list_any (λ m. sent_names m o) (map ToServer ms) ≡ list_any (λ m. up_names m o) ms
  sent_so [] = refl
  sent_so (m ∷ ms) = ap (λ b. up_names m o || b) (sent_so ms)

  sent_messages : (sent : List Sent) (ms : List Up) → sent ≡ map ToServer ms
      → list_any (λ m. sent_names m o) sent ≡ true → Names ms
  sent_messages sent ms is names =
      sym (sent_so ms) ∙ subst (λ sent. list_any (λ m. sent_names m o) sent ≡ true) is names

  -- messages in two parts
  in_two : {K : Type 0} (a b : List Up) → (Names a → K) → (Names b → K) → Names (a ++ b) → K
  in_two a b h k names = either_so (list_any (λ m. up_names m o) a) (list_any (λ m. up_names m o) b) h k
      (sym (list_any-append (λ m. up_names m o) a b) ∙ names)

  -- one message
  in_one : {K : Type 0} (m : Up) → (up_names m o ≡ true → K) → Names (m ∷ []) → K
  in_one m h = either_so (up_names m o) false h (λ never. absurd (cc never))

-- ---- an entry

module _ (p : Settings) (next : ThreadId → List Event → Option Request) (frames : ThreadId → List Event → List Value)
    (kept : ℕ → Bool) (keeps : KeepsFrames next frames) (returned : ReturnsNamed) (c : ℕ) (e : Entry) (es : List Entry)
    (it : IsOfKept p next frames kept c e es) (o : ℕ) where
  abbrev K : Type 0
  K = IsKnown p next frames kept es o

  -- the client's entries
  abbrev mine : List Entry
  mine = entries_of (Client c) es

  -- what threads ask for next, before the entry and after it
  abbrev before : ThreadId → Option Request
  before = next_in next mine

  abbrev later : ThreadId → Option Request
  later = next_in next (e ∷ mine)

  -- a thread of the client
  abbrev thread : ℕ → ThreadId
  thread i = record { client = c; index = i }

  -- the client's run
  run : ClientRun p c next (e ∷ mine)
  run = subst (ClientRun p c next) (own_turn c e es it.node).own (runs p next c (e ∷ es) it.follow)

  -- what the event names
  event_known : option_map_or (λ event. event_names event o) e.event false ≡ true → K
  event_known = event_is_known p next frames kept c e es it o

  module _ (i : ℕ) (request : Request) (reply : Reply) (woken : Option ThreadId)
      (is : e.event ≡ Some (Act (thread i) request reply woken)) where
    -- so of an act's, by its request and its reply
    act_known : (request_names request o || reply_names reply o) ≡ true → K
    act_known names =
        event_known (subst (λ at. option_map_or (λ event. event_names event o) at false ≡ true) (sym is) names)

    request_known : request_names request o ≡ true → K
    request_known names = act_known (left_so (request_names request o) (reply_names reply o) names)

    reply_known : reply_names reply o ≡ true → K
    reply_known names = act_known (right_so (request_names request o) (reply_names reply o) names)

  -- ---- of a thread of the client

  -- what its next request names after the entry the thread names then
  later_named : (t : ThreadId) → t.client ≡ c → option_map_or (λ r. request_names r o) (later t) false ≡ true
      → thread_names p next frames t (e ∷ es) o ≡ true
  later_named t its asked = subst (λ entries. thread_holds p next frames t entries o ≡ true) (sym entries_now)
      (left_so (holds_then next frames t (events_in t (e ∷ mine)) o) (work_names (work_of p.shape t (e ∷ mine)) o)
      (right_so (has_reference o (frames t (events_in t (e ∷ mine))))
      (option_map_or (λ r. request_names r o) (later t) false) asked))
    where
      entries_now : entries_of (Client t.client) (e ∷ es) ≡ e ∷ mine
      entries_now = ap (λ n. entries_of (Client n) (e ∷ es)) its ∙ (own_turn c e es it.node).own

  module _ (i : ℕ) (among : list_any (is_thread (thread i)) p.threads ≡ true) where
    -- what it names before the entry
    thread_reached : thread_names p next frames (thread i) es o ≡ true → IsLive p next frames kept es o
    thread_reached = thread_live p next frames kept c es o (thread i) it.counts among refl

    -- so what it has in hand
    hand_known : HandTells o K (work_of p.shape (thread i) mine)
    hand_known names = inl (thread_reached (right_so (holds_then next frames (thread i) (events_in (thread i) mine) o)
        (work_names (work_of p.shape (thread i) mine) o) names))

    -- so what its next request names, before the entry
    before_known : (request : Request) → before (thread i) ≡ Some request → request_names request o ≡ true → K
    before_known request asks names =
        let asked : option_map_or (λ r. request_names r o) (before (thread i)) false ≡ true =
        subst (λ at. option_map_or (λ r. request_names r o) at false ≡ true) (sym asks) names in
        inl (thread_reached (left_so (holds_then next frames (thread i) (events_in (thread i) mine) o)
        (work_names (work_of p.shape (thread i) mine) o)
        (right_so (has_reference o (frames (thread i) (events_in (thread i) mine)))
        (option_map_or (λ r. request_names r o) (before (thread i)) false) asked)))

    -- or after it
    later_known : option_map_or (λ r. request_names r o) (later (thread i)) false ≡ true → K
    later_known asked = thread_known p next frames kept keeps c e es it (thread i) refl o
        (λ names. inl (thread_reached names)) (later_named (thread i) refl asked)

  -- ---- what is given back

  -- the message taken
  taken_known : (i : Input) → e.input ≡ i → taken_names i o ≡ true → K
  taken_known (input.TookDown m) took names = inl (taken_live p next frames kept c e es it m took o names)
  taken_known other took names = absurd (cc names)

  -- whatever touches the object
  touched_known : IsTouched p c later e o → K
  touched_known (inl named) = event_known named
  touched_known (inr (inl taken)) = taken_known e.input refl taken
  touched_known (inr (inr asks)) = threads_are_known p next frames kept keeps c e es it asks.0 asks.1 o
      (later_named asks.0 (client_of p c asks.0 asks.1) asks.2)

  -- and so what is given back
  returns_known : Names o (returns p c later (unsent e ∷ mine)) → K
  returns_known names = touched_known (returned p c next e mine run o names)

  -- ---- what the entry sends

  -- where it has an event,
  does_known : (i : ℕ) → list_any (is_thread (thread i)) p.threads ≡ true → (request : Request)
      → Does p c (thread i) request before later e mine → list_any (λ m. sent_names m o) e.sent ≡ true → K
  does_known i among request does names = in_two o (record_part ++ returns_part) again
      (in_two o record_part returns_part of_record returns_known)
      (λ names. later_known i among (again_names o p c before later (later (thread i)) (unsent e ∷ mine) mine names))
      (sent_messages o e.sent (record_part ++ returns_part ++ again) does.sends names)
    where
      woken : Option ThreadId
      woken = woken_by request does.reply mine

      record_part : List Up
      record_part = commits p (thread i) (Act (thread i) request does.reply woken) mine

      returns_part : List Up
      returns_part = returns p c later (unsent e ∷ mine)

      again : List Up
      again = asks_again p c before later (later (thread i)) (unsent e ∷ mine) mine

      asked : request_names request o ≡ true → K
      asked = request_known i request does.reply woken does.event

      of_record : Names o record_part → K
      of_record = commit_tells o K p (thread i) request does.reply woken mine
          (act_tells o K p.shape request does.reply woken (work_of p.shape (thread i) mine) asked
          (reply_known i request does.reply woken does.event) (hand_known i among))
          asked

  -- where it asks,
  asks_known : (i : ℕ) → list_any (is_thread (thread i)) p.threads ≡ true → (request : Request)
      → before (thread i) ≡ Some request → (need : Need) → unmet p c before (thread i) request mine ≡ Some need
      → Asks p c need later e mine
      → list_any (λ m. sent_names m o) e.sent ≡ true → K
  asks_known i among request asks need lacks step names =
      in_two o (returns p c later (unsent e ∷ mine)) (step.message ∷ []) returns_known
      (in_one o step.message (λ is. before_known i among request asks
      (asked_names o p c before (thread i) mine request need step.message lacks step.asked is)))
      (sent_messages o e.sent (returns p c later (unsent e ∷ mine) ++ step.message ∷ []) step.sends names)

  -- in either case,
  acts_known : (i : ℕ) → list_any (is_thread (thread i)) p.threads ≡ true → (request : Option Request)
      → before (thread i) ≡ request → ActsOn p c (thread i) request before later e mine
      → list_any (λ m. sent_names m o) e.sent ≡ true → K
  acts_known i among None asks step = absurd step
  acts_known i among (Some request) asks step = by (unmet p c before (thread i) request mine) refl step
    where
      by : (need : Option Need) → unmet p c before (thread i) request mine ≡ need
          → DoesOrAsks p c (thread i) request need before later e mine → list_any (λ m. sent_names m o) e.sent ≡ true
          → K
      by None met does = does_known i among request does
      by (Some need) lacks step = asks_known i among request asks need lacks step

  -- and whatever it takes in
  step_known : (i : Input) → ClientStepOn p c i before later e mine → list_any (λ m. sent_names m o) e.sent ≡ true → K
  step_known (input.Act i) step names = acts_known i step.its (before (thread i)) refl step.acts names
  step_known (input.TookDown m) step names =
      returns_known (sent_messages o e.sent (returns p c later (unsent e ∷ mine)) step.sends names)
  step_known (input.Flush x) step names =
      absurd (none (subst (λ sent. list_any (λ m. sent_names m o) sent ≡ true) step.sends names))
    where
      none : false ≡ true → ⊥
      none is = cc is
  step_known (input.Rejoin d) step names =
      absurd (none (subst (λ sent. list_any (λ m. sent_names m o) sent ≡ true) step.sends names))
    where
      none : false ≡ true → ⊥
      none is = cc is
  step_known other step names = absurd step

  -- So of all that it sends.
  pub sends_known : list_any (λ m. sent_names m o) e.sent ≡ true → K
  sends_known = step_known e.input run.1

module _ (p : Settings) (next : ThreadId → List Event → Option Request) (frames : ThreadId → List Event → List Value)
    (kept : ℕ → Bool) (keeps : KeepsFrames next frames) (returned : ReturnsNamed) where
  -- What the client's messages name is known.
  pub client_sends_known : ClientSendsKnown p next frames kept
  client_sends_known c e es it o = sends_known p next frames kept keeps returned c e es it o

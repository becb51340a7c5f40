-- A client's acts are of its own threads and wake none but these: its events, its open blocks and its ended blocks. So they are
-- apart from any other client.
use Rattle.std.specs.List.{AllByRecursion}
use Rattle.std.proofs.Common.{ℕ, ◌≡◌, ◌≢◌, inl, inr, refl, sym, ◌∙◌, subst, Bool, true, false, cond, eqb, Option, Some, None, List, [], ◌∷◌}
use Rattle.dso_base.specs.Block.{choice_of}
use Rattle.dso_base.specs.declared.journal.Entry.{Entry}
use Rattle.dso_base.specs.declared.journal.Node.{Node}
use Rattle.dso_base.specs.declared.journal.Node.TheVariants.{Server, Client}
use Rattle.dso_base.specs.declared.lock.ThreadId.{ThreadId}
use Rattle.dso_base.specs.declared.request.Event.{Event}
use Rattle.dso_base.specs.declared.request.Event.TheVariants.{Act, Lost}
use Rattle.dso_base.specs.declared.request.Request.{Request}
use Rattle.dso_plain.specs.Loss.{IsApartFrom, AreApartFrom}
use Rattle.dso_plain.proofs.keys.SameKeys.{same_number}
use Rattle.dso_law.specs.Settings.{Settings}
use Rattle.dso_law.specs.Entries.{entries_of}
use Rattle.dso_law.specs.FitsUp.{FitsChoice}
use Rattle.dso_law.specs.Replies.{woken_by}
use Rattle.dso_law.specs.Threads.{open_block}
use Rattle.dso_legal.specs.Committed.{ended_blocks}
use Rattle.dso_legal.specs.Lawful.{next_after, ClientFollows, NodeFollows, AllFollow}
use Rattle.dso_legal.specs.PendingBlocks.{pending, handed_in}
use Rattle.dso_legal.proofs.blocks.EachEvent.{IfEvent, EachOwn, each_follows, each_dropped, each_open, each_ended}
use Rattle.dso_legal.proofs.blocks.Histories.{client_of_thread}
use Rattle.dso_legal.proofs.blocks.OwnActs.{next_act}
use Rattle.dso_legal.proofs.fitting.ThreadsOwn.{woken_its, own_threads}
use Rattle.dso_legal.proofs.records.BothEnds.{client_with}

-- nobody is woken, or a thread of the client
abbrev pub WakesOwn : ℕ → Option ThreadId → Type 0
WakesOwn c None = Unit {0}
WakesOwn c (Some w) = w.client ≡ c

-- the event is an act of a thread of the client, and wakes none but these
abbrev pub StaysWithin : ℕ → Event → Type 0
StaysWithin c (Act t request reply woken) = (t.client ≡ c) × WakesOwn c woken
StaysWithin c (Lost client) = ⊥

-- what stays within one client is apart from another
event_apart : (c d : ℕ) → c ≢ d → (event : Event) → StaysWithin c event → IsApartFrom d event
event_apart c d other (Act t request reply None) within = ((λ same. other (sym within.0 ∙ same)), tt)
event_apart c d other (Act t request reply (Some w)) within = ((λ same. other (sym within.0 ∙ same)), (λ same. other (sym within.1 ∙ same)))
event_apart c d other (Lost client) within = absurd within

-- So are events that stay within it.
pub events_apart : (c d : ℕ) → c ≢ d → (events : List Event) → AllByRecursion (StaysWithin c) events → AreApartFrom d events
events_apart c d other [] within = tt
events_apart c d other (event ∷ events) within = (event_apart c d other event within.0, events_apart c d other events within.1)

module _ (p : Settings) (next : ThreadId → List Event → Option Request) (c : ℕ) where
  -- whom a client's act wakes, as its record would name it
  wakes_own : (woken : Option ThreadId) → FitsChoice p c (choice_of woken) → WakesOwn c woken
  wakes_own None fits = tt
  wakes_own (Some w) fits = client_of_thread p c w fits

  event_within : (e : Entry) (es : List Entry) → AllFollow p next es → ClientFollows p next c e es → IfEvent (StaysWithin c) e.event
  event_within e es follow rule = elim (next_act p c (next_after next es) (next_after next (e ∷ es)) e (entries_of (Client c) es) rule.step) [
    | inl none ↦ subst (IfEvent (StaysWithin c)) (sym none) tt
    | inr it ↦ subst (IfEvent (StaysWithin c)) (sym it.event)
        (it.its, wakes_own (woken_by it.request it.reply (entries_of (Client c) es)) (woken_its p c it.request it.reply (entries_of (Client c) es) (own_threads p next c es follow).lists))
  ]

  within_at : (node : Node) (e : Entry) (es : List Entry) → AllFollow p next es → NodeFollows p next node e es → EachOwn (StaysWithin c) (entries_of (Client c) es) → EachOwn (StaysWithin c) (client_with c node e es)
  within_at Server e es follow rule before = before
  within_at (Client d) e es follow rule before = by (eqb c d) refl
    where
      by : (b : Bool) → eqb c d ≡ b → EachOwn (StaysWithin c) (cond b (e ∷ entries_of (Client c) es) (entries_of (Client c) es))
      by true same = (event_within e es follow (subst (λ n. ClientFollows p next n e es) (sym (same_number c d same)) rule), before)
      by false other = before

  -- Each event of the client stays within it,
  pub each_within : (es : List Entry) → AllFollow p next es → EachOwn (StaysWithin c) (entries_of (Client c) es)
  each_within [] follow = tt
  each_within (e ∷ es) follow = within_at e.node e es follow.0 follow.1.rule (each_within es follow.0)

  -- so its open blocks and its pending ones are apart from another client.
  module _ (es : List Entry) (follow : AllFollow p next es) (d : ℕ) (other : c ≢ d) where
    pub open_apart_from : (t : ThreadId) → AreApartFrom d (open_block t (entries_of (Client c) es))
    open_apart_from t = events_apart c d other (open_block t (entries_of (Client c) es)) (each_open (StaysWithin c) t (entries_of (Client c) es) (each_within es follow))

    pub pending_apart_from : AllByRecursion (AreApartFrom d) (pending c es)
    pending_apart_from = each_follows (AllByRecursion (StaysWithin c)) (AreApartFrom d) (events_apart c d other) (pending c es)
        (each_dropped (AllByRecursion (StaysWithin c)) (handed_in c es) (ended_blocks (entries_of (Client c) es)) (each_ended (StaysWithin c) (entries_of (Client c) es) (each_within es follow)))

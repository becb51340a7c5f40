-- What a client does is of its own threads: its events, its open blocks and its records.
use Rattle.std.specs.List.{AllByRecursion}
use Rattle.std.proofs.Common.{ℕ, ◌≡◌, ◌⊎◌, inl, inr, refl, sym, ◌∙◌, ap, subst, Bool, true, false, cond, eqb, Option, Some, None, List, [], ◌∷◌, ◌++◌}
use Rattle.std.proofs.lemmas.List.{append-nil}
use Rattle.dso_base.specs.declared.journal.Entry.{Entry}
use Rattle.dso_base.specs.declared.journal.Node.{Node}
use Rattle.dso_base.specs.declared.journal.Node.TheVariants.{Server, Client}
use Rattle.dso_base.specs.declared.lock.ThreadId.{ThreadId}
use Rattle.dso_base.specs.declared.record.Txn.{Txn}
use Rattle.dso_base.specs.declared.request.Event.{Event}
use Rattle.dso_base.specs.declared.request.Event.TheVariants.{Act, Lost}
use Rattle.dso_base.specs.declared.request.Request.{Request}
use Rattle.dso_base.specs.Following.{is_thread}
use Rattle.dso_plain.specs.History.{is_act_of}
use Rattle.dso_plain.proofs.keys.SameKeys.{same_number, number_self, same_thread}
use Rattle.dso_law.specs.Settings.{Settings}
use Rattle.dso_law.specs.Entries.{entries_of, by_event, events_in}
use Rattle.dso_law.specs.Channels.{up_in_flight}
use Rattle.dso_law.specs.ServerReadings.{is_lost}
use Rattle.dso_legal.specs.Agreement.{messages}
use Rattle.dso_legal.specs.Lawful.{next_after, ClientFollows, NodeFollows, AllFollow}
use Rattle.dso_legal.specs.PendingBlocks.{handed_in, records_in, records_sent}
use Rattle.dso_legal.proofs.records.ClientRecords.{EndsNone, EndsBlock, record_ended, records_more, client_ends}
use Rattle.dso_legal.proofs.records.BothEnds.{client_with}
use Rattle.dso_legal.proofs.records.HandedIn.{hands_in}
use Rattle.dso_legal.proofs.leases.LeaseSteps.{no_both}
use Rattle.dso_legal.proofs.blocks.EachEvent.{each_both, each_dropped}
use Rattle.dso_legal.proofs.blocks.OwnActs.{IsNextAct, next_act}

-- the event, if there is one, is an act of a thread of the client
abbrev pub IsOwnEvent : ℕ → Option Event → Type 0
IsOwnEvent c None = Unit {0}
IsOwnEvent c (Some (Act thread request reply woken)) = thread.client ≡ c
IsOwnEvent c (Some (Lost client)) = ⊥

-- so is each of the entries
abbrev pub AreOwnEvents : ℕ → List Entry → Type 0
AreOwnEvents c own = AllByRecursion (λ e. IsOwnEvent c e.event) own

-- the record is of a thread of the client
abbrev pub IsRecordOfClient : ℕ → Txn → Type 0
IsRecordOfClient c txn = txn.thread.client ≡ c

-- a thread of another client isn't the one that acts
not_acting : (c : ℕ) (t thread : ThreadId) → eqb c t.client ≡ false → thread.client ≡ c → is_thread t thread ≡ false
not_acting c t thread other its = by (is_thread t thread) refl
  where
    by : (b : Bool) → is_thread t thread ≡ b → b ≡ false
    by true is = no_both (eqb c t.client) (subst (λ n. eqb c n ≡ true) (sym its ∙ ap (λ (t : ThreadId). t.client) (same_thread t thread is)) (number_self c)) other
    by false is = refl

-- an act of the client leaves what is of another's thread
leaves_other : {X : Type 0} (c : ℕ) (t : ThreadId) (f : Event → X → X) (event : Option Event) (x : X) → eqb c t.client ≡ false → IsOwnEvent c event
    → by_event (λ event x. cond (is_act_of t event) (f event x) x) event x ≡ x
leaves_other c t f None x other its = refl
leaves_other c t f (Some (Act thread request reply woken)) x other its = ap (λ b. cond b (f (Act thread request reply woken) x) x) (not_acting c t thread other its)
leaves_other c t f (Some (Lost client)) x other its = absurd its

-- and no events.
pub no_events_in : (c : ℕ) (t : ThreadId) (own : List Entry) → eqb c t.client ≡ false → AreOwnEvents c own → events_in t own ≡ []
no_events_in c t [] other its = refl
no_events_in c t (e ∷ own) other its = leaves_other c t (λ event events. events ++ event ∷ []) e.event (events_in t own) other its.0 ∙ no_events_in c t own other its.1

module _ (p : Settings) (next : ThreadId → List Event → Option Request) (c : ℕ) where
  -- the event of an entry of the client
  own_event : (e : Entry) (es : List Entry) → ClientFollows p next c e es → IsOwnEvent c e.event
  own_event e es follows = by (next_act p c (next_after next es) (next_after next (e ∷ es)) e (entries_of (Client c) es) follows.step)
    where
      by : (e.event ≡ None) ⊎ IsNextAct p c (next_after next es) e (entries_of (Client c) es) → IsOwnEvent c e.event
      by (inl none) = subst (IsOwnEvent c) (sym none) tt
      by (inr it) = subst (IsOwnEvent c) (sym it.event) it.its

  -- the events and records of the client's entries
  pub record IsOfClient (own : List Entry) : Type 0 where
    pub events : AreOwnEvents c own
    pub records : AllByRecursion (IsRecordOfClient c) (records_sent own)

  its_thread : (own : List Entry) (e : Entry) (it : EndsBlock p e own) → IsOwnEvent c e.event → it.thread.client ≡ c
  its_thread own e it its = subst (IsOwnEvent c) it.event its

  records_after : (e : Entry) (es : List Entry) → IsOwnEvent c e.event → EndsNone e (entries_of (Client c) es) ⊎ EndsBlock p e (entries_of (Client c) es) → AllByRecursion (IsRecordOfClient c) (records_sent (entries_of (Client c) es))
      → AllByRecursion (IsRecordOfClient c) (records_sent (e ∷ entries_of (Client c) es))
  records_after e es its (inl none) each =
      subst (AllByRecursion (IsRecordOfClient c)) (sym (records_more e (entries_of (Client c) es) ∙ ap (λ txns. records_sent (entries_of (Client c) es) ++ txns) none.sent ∙ append-nil (records_sent (entries_of (Client c) es)))) each
  records_after e es its (inr it) each =
      subst (AllByRecursion (IsRecordOfClient c)) (sym (records_more e (entries_of (Client c) es) ∙ ap (λ txns. records_sent (entries_of (Client c) es) ++ txns) it.sent))
      (each_both (IsRecordOfClient c) (records_sent (entries_of (Client c) es)) (record_ended it ∷ []) each (its_thread (entries_of (Client c) es) e it its, tt))

  of_client_at : (node : Node) (e : Entry) (es : List Entry) → NodeFollows p next node e es → IsOfClient (entries_of (Client c) es) → IsOfClient (client_with c node e es)
  of_client_at Server e es rule before = before
  of_client_at (Client d) e es rule before = by (eqb c d) refl
    where
      by : (b : Bool) → eqb c d ≡ b → IsOfClient (cond b (e ∷ entries_of (Client c) es) (entries_of (Client c) es))
      by true is =
          let mine : ClientFollows p next c e es = subst (λ n. ClientFollows p next n e es) (sym (same_number c d is)) rule in
          let its = own_event e es mine in
          record { events = (its, before.events); records = records_after e es its (client_ends p next c e es mine) before.records }
      by false is = before

  -- All events and records of a client are of its own threads.
  pub of_client : (es : List Entry) → AllFollow p next es → IsOfClient (entries_of (Client c) es)
  of_client [] follow = record { events = tt; records = tt }
  of_client (e ∷ es) follow = of_client_at e.node e es follow.1.rule (of_client es follow.0)

  -- So are the records in flight.
  pub way_of_client : (es : List Entry) → AllFollow p next es → is_lost c (entries_of Server es) ≡ false → AllByRecursion (IsRecordOfClient c) (records_in (messages (up_in_flight c es)))
  way_of_client es follow alive = subst (AllByRecursion (IsRecordOfClient c)) (sym (hands_in p next c es follow alive).in_flight)
      (each_dropped (IsRecordOfClient c) (handed_in c es) (records_sent (entries_of (Client c) es)) (of_client es follow).records)

-- What stands once more messages of locks were sent in the entry of an act: returns and requests leave all but the locks alone.
use Rattle.std.specs.List.{list_any}
use Rattle.std.proofs.Common.{◌≡◌, ◌≤◌, ℕ, refl, sym, ◌∙◌, ap, subst, false, cond, eqb, ◌&&◌, ◌||◌, Option, List, [], ◌∷◌, ◌++◌, map}
use Rattle.dso_base.specs.declared.journal.Sent.TheVariants.{ToServer}
use Rattle.dso_base.specs.declared.lock.ThreadId.{ThreadId}
use Rattle.dso_base.specs.declared.message.Up.{Up}
use Rattle.dso_base.specs.declared.message.Up.TheVariants as up
use Rattle.dso_base.specs.declared.record.Txn.{Txn}
use Rattle.dso_base.specs.declared.request.Request.{Request}
use Rattle.dso_law.specs.Entries.{by_sent_up}
use Rattle.dso_law.specs.ChangeMarks.{mark_by_sent, change_mark}
use Rattle.dso_law.specs.ClientStep.{faults, wants_object}
use Rattle.dso_law.specs.Copies.{asked_by_sent, is_object_asked}
use Rattle.dso_law.specs.HeldBody.{body_by_sent, held_body}
use Rattle.dso_law.specs.Records.{batch_asked_by_sent, is_batch_asked, records_by_sent, records, unacked_by_sent, unacked}
use Rattle.dso_law.specs.ResidentCount.{Presence, presence_by_sent, presence}
use Rattle.dso_law.proofs.runs.Said.{LeavesLocks}
use Rattle.dso_table.specs.declared.tables.ObjectTables.{ObjectTables}
use Rattle.dso_table.specs.ObjectTables.{state_in}
use Rattle.dso_client.specs.declared.answered.Answered.{Answered}
use Rattle.dso_client.specs.declared.client_state.ClientState.{ClientState}
use Rattle.dso_client.specs.declared.sequences.Sequences.{Sequences}
use Rattle.dso_client.specs.declared.lock_state.LockState.{LockState}
use Rattle.dso_client.specs.declared.thread_context.ThreadContext.{ThreadContext}
use Rattle.dso_client.specs.StateStands.{ClientPartsStand}
use Rattle.dso_client.specs.SequencesStand.{SequencesStand}
use Rattle.dso_client.specs.ActEffects.{acting}
use Rattle.dso_client.specs.LockStateStands.{LockStateStands}
use Rattle.dso_client.specs.RunPoints.{RunPoint}
use Rattle.dso_client.specs.ContextStands.{ContextStands, last_by_sent, last_record}
use Rattle.dso_client.specs.TableStands.{TableStands}
use Rattle.dso_client.proofs.contexts.AtStart.{all_as}

-- these are returns and requests
abbrev pub AreOfLocks : List Up → Type 0
AreOfLocks [] = Unit {0}
AreOfLocks (up.Request l level ∷ ms) = AreOfLocks ms
AreOfLocks (up.Return l threads ∷ ms) = AreOfLocks ms
AreOfLocks (m ∷ ms) = ⊥

-- two parts, one after the other
pub in_parts : {S : Type 0} (step : Up → S → S) (a b : List Up) (s : S) → by_sent_up step (map ToServer (a ++ b)) s ≡ by_sent_up step (map ToServer b) (by_sent_up step (map ToServer a) s)
in_parts step [] b s = refl
in_parts step (m ∷ a) b s = in_parts step a b (step m s)

leaves_all : {S : Type 0} (step : Up → S → S) → LeavesLocks step → (ms : List Up) → AreOfLocks ms → (s : S) → by_sent_up step (map ToServer ms) s ≡ s
leaves_all step leaves [] of_locks s = refl
leaves_all step leaves (up.Request l level ∷ ms) of_locks s = ap (by_sent_up step (map ToServer ms)) (leaves.request l level s) ∙ leaves_all step leaves ms of_locks s
leaves_all step leaves (up.Return l threads ∷ ms) of_locks s = ap (by_sent_up step (map ToServer ms)) (leaves.return_of l threads s) ∙ leaves_all step leaves ms of_locks s
leaves_all step leaves (m ∷ ms) of_locks s = absurd of_locks

-- they ask for no object
no_fault : (o : ℕ) (ms : List Up) → AreOfLocks ms → list_any (faults o) (map ToServer ms) ≡ false
no_fault o [] of_locks = refl
no_fault o (up.Request l level ∷ ms) of_locks = no_fault o ms of_locks
no_fault o (up.Return l threads ∷ ms) of_locks = no_fault o ms of_locks
no_fault o (m ∷ ms) of_locks = absurd of_locks

same_faults : (o : ℕ) (sent ms : List Up) → AreOfLocks ms → list_any (faults o) (map ToServer (sent ++ ms)) ≡ list_any (faults o) (map ToServer sent)
same_faults o [] ms of_locks = no_fault o ms of_locks
same_faults o (m ∷ sent) ms of_locks = ap (λ b. faults o (ToServer m) || b) (same_faults o sent ms of_locks)

module _ (clock : ℕ) (act : Answered) (next : ThreadId → Option Request) (at : RunPoint) (sent ms : List Up) (of_locks : AreOfLocks ms) where
  abbrev before : RunPoint
  before = acting clock act sent next at

  abbrev after : RunPoint
  after = acting clock act (sent ++ ms) next at

  left : {S : Type 0} (step : Up → S → S) → LeavesLocks step → (s : S) → by_sent_up step (map ToServer sent) s ≡ by_sent_up step (map ToServer (sent ++ ms)) s
  left step leaves s = sym (in_parts step sent ms s ∙ leaves_all step leaves ms of_locks (by_sent_up step (map ToServer sent) s))

  context_on : (context : ThreadContext) → ContextStands before context → ContextStands after context
  context_on context h = record {
    next = h.next;
    work = h.work;
    seen = h.seen;
    waiting = h.waiting;
    marked = h.marked;
    last = h.last ∙ left (last_by_sent context.id) (record { request = λ l level s. refl; return_of = λ l threads s. refl }) (last_record context.id at.entries);
  }

  table_on : (table : ObjectTables) → TableStands before table → TableStands after table
  table_on table h = record {
    bodies = λ o. h.bodies o ∙ left (body_by_sent o) (record { request = λ l level s. refl; return_of = λ l threads s. refl }) (held_body o at.entries);
    asked = λ o. h.asked o ∙ left (asked_by_sent o) (record { request = λ l level s. refl; return_of = λ l threads s. refl }) (is_object_asked o at.entries);
    marks = λ o. h.marks o ∙ left (mark_by_sent o) (record { request = λ l level s. refl; return_of = λ l threads s. refl }) (change_mark o at.entries);
    opened = h.opened;
    wanted = λ t o. h.wanted t o ∙ ap (λ asks. eqb t.client at.client && cond (eqb act.thread.index t.index) asks (wants_object o t.index at.entries)) (sym (same_faults o sent ms of_locks));
    room = h.room;
    count = h.count ∙ ap (λ (s : Presence). s.count) (left presence_by_sent (record { request = λ l level s. refl; return_of = λ l threads s. refl }) (presence at.entries));
    acked = subst (λ n. (state_in table).acked ≤ n) (left records_by_sent (record { request = λ l level s. refl; return_of = λ l threads s. refl }) (records at.entries)) h.acked;
    order = h.order;
  }

  sequences_on : (sequences : Sequences) → SequencesStand before sequences → SequencesStand after sequences
  sequences_on sequences h = record {
    ids = h.ids;
    bounded = h.bounded;
    end = h.end;
    asking = h.asking ∙ left batch_asked_by_sent (record { request = λ l level s. refl; return_of = λ l threads s. refl }) (is_batch_asked at.entries);
    records = h.records ∙ left records_by_sent (record { request = λ l level s. refl; return_of = λ l threads s. refl }) (records at.entries);
    unacked = λ n. h.unacked n ∙ ap (list_any (λ (txn : Txn). eqb txn.seq n)) (left unacked_by_sent (record { request = λ l level s. refl; return_of = λ l threads s. refl }) (unacked at.entries));
  }

  pub parts_on : (old : ClientState) (lock_state : LockState) → ClientPartsStand before old → LockStateStands after lock_state → ClientPartsStand after (record old { lock_state = lock_state })
  parts_on old lock_state h stands = record {
    number = h.number;
    places = h.places;
    numbered = h.numbered;
    contexts = all_as (ContextStands before) (ContextStands after) context_on old.contexts.items h.contexts;
    table = table_on old.table h.table;
    lock_state = stands;
    sequences = sequences_on old.sequences h.sequences;
  }

-- The numbers of a client's records that aren't acknowledged are consecutive, up to its latest one.
use Rattle.std.proofs.Common.{ℕ, suc, ◌+◌, ◌≤◌, ◌≡◌, refl, sym, ◌∙◌, ap, subst, Bool, true, false, ◌||◌, is_some, Option, Some, None, List, [], ◌∷◌, ◌++◌, length, map, arith}
use Rattle.dso_base.specs.declared.journal.Entry.{Entry}
use Rattle.dso_base.specs.declared.journal.Input.{Input}
use Rattle.dso_base.specs.declared.journal.Input.TheVariants as input
use Rattle.dso_base.specs.declared.journal.Sent.TheVariants.{ToServer}
use Rattle.dso_base.specs.declared.lock.ThreadId.{ThreadId}
use Rattle.dso_base.specs.declared.message.Down.{Down}
use Rattle.dso_base.specs.declared.message.Down.TheVariants as down
use Rattle.dso_base.specs.declared.message.Up.{Up}
use Rattle.dso_base.specs.declared.message.Up.TheVariants as up
use Rattle.dso_base.specs.declared.record.Ending.{Ending}
use Rattle.dso_base.specs.declared.record.Txn.{Txn}
use Rattle.dso_base.specs.declared.request.Event.{Event}
use Rattle.dso_base.specs.declared.request.Event.TheVariants.{Act}
use Rattle.dso_base.specs.declared.request.Request.{Request}
use Rattle.dso_law.specs.Settings.{Settings}
use Rattle.dso_law.specs.Entries.{by_taken_down, by_sent_up}
use Rattle.dso_law.specs.Threads.{locks_of, ending_of}
use Rattle.dso_law.specs.Copies.{is_object_asked}
use Rattle.dso_law.specs.Leases.{leased, is_asked_for}
use Rattle.dso_law.specs.Records.{is_batch_asked, records, records_by_sent, unacked, unacked_by_taken, unacked_by_sent}
use Rattle.dso_law.specs.RequestNeeds.{Need, NeedsId, NeedsObject, NeedsClass, NeedsMark, NeedsLease, NeedsOthersOut, NeedsAck, unless_asked, unmet, ask_for}
use Rattle.dso_law.specs.Replies.{woken_by}
use Rattle.dso_law.specs.FitsDown.{FitsAck, FitsDown}
use Rattle.dso_law.specs.ChangeMarks.{RiseAbove, AcksFirst}
use Rattle.dso_law.specs.ClientStep.{record_of, DoesOrAsks, ActsOn, ClientStepOn}
use Rattle.dso_law.specs.ClientRun.{next_in}
use Rattle.dso_law.specs.RunLaws.{NumberedFrom, AreNumbered, RecordsAreNumbered, RecordsAreAckedInOrder}
use Rattle.dso_law.proofs.runs.Said.{LeavesLocks, said_does, said_asks, said_taken}

-- one more number at the end
numbered_more : (k n : ℕ) (txns : List Txn) (txn : Txn) → NumberedFrom k txns → k + length txns ≡ n → txn.seq ≡ suc n → NumberedFrom k (txns ++ txn ∷ [])
numbered_more k n [] txn from whole is = (let none : k ≡ n = omega (arith, whole) in is ∙ ap suc (sym none), tt)
numbered_more k n (first ∷ txns) txn from whole is = (from.0, numbered_more (suc k) n txns txn from.1 (omega (arith, whole)) is)

longer : (txns : List Txn) (txn : Txn) → length (txns ++ txn ∷ []) ≡ suc (length txns)
longer [] txn = refl
longer (first ∷ txns) txn = ap suc (longer txns txn)

one_more : (txns : List Txn) (n : ℕ) (txn : Txn) → txn.seq ≡ suc n → AreNumbered txns n → AreNumbered (txns ++ txn ∷ []) (suc n)
one_more txns n txn is h = record {
  acked = h.acked;
  numbers = numbered_more h.acked n txns txn h.numbers h.whole is;
  whole = let whole = h.whole in let size = longer txns txn in omega (arith, whole, size);
}

-- numbers that go on from one rise above each lesser one
from_rises : (n k : ℕ) (txns : List Txn) → n ≤ k → NumberedFrom k txns → RiseAbove n txns
from_rises n k [] most from = tt
from_rises n k (txn ∷ txns) most from = (let is = from.0 in omega (arith, most, is), from_rises txn.seq (suc k) txns (let is = from.0 in omega (arith, is)) from.1)

-- the first is acknowledged
first_acked : (txn : Txn) (txns : List Txn) (n : ℕ) → AreNumbered (txn ∷ txns) n → AreNumbered txns n
first_acked txn txns n h = record { acked = suc h.acked; numbers = h.numbers.1; whole = let whole = h.whole in omega (arith, whole) }

acked : (seq : ℕ) (txns : List Txn) (n : ℕ) → FitsAck seq txns → AreNumbered txns n → AreNumbered (unacked_by_taken (down.Ack seq) txns) n
acked seq [] n fits h = absurd fits
acked seq (txn ∷ txns) n fits h = first_acked txn txns n h

-- it is of the first, and those behind it have greater numbers
acks_first : (seq : ℕ) (txns : List Txn) (n : ℕ) → FitsAck seq txns → AreNumbered txns n → AcksFirst (input.TookDown (down.Ack seq)) txns
acks_first seq [] n fits h = absurd fits
acks_first seq (txn ∷ txns) n fits h = (fits, from_rises seq (suc h.acked) txns (let is = h.numbers.0 in omega (arith, fits, is)) h.numbers.1)

-- messages of locks are no records
unacked_leaves : LeavesLocks unacked_by_sent
unacked_leaves = record { request = λ l level s. refl; return_of = λ l threads s. refl }

records_leave : LeavesLocks records_by_sent
records_leave = record { request = λ l level s. refl; return_of = λ l threads s. refl }

-- and neither is what is asked
module _ (txns : List Txn) (n : ℕ) where
  abbrev LeftBy : Up → Type 0
  LeftBy m = (unacked_by_sent m txns ≡ txns) × (records_by_sent m n ≡ n)

  left_if : (b : Bool) (x m : Up) → LeftBy x → unless_asked b x ≡ Some m → LeftBy m
  left_if true x m left asked = absurd (cc asked)
  left_if false x m left asked = let same : x ≡ m = cc asked in subst LeftBy same left

  ask_left : (need : Need) (es : List Entry) (m : Up) → ask_for need es ≡ Some m → LeftBy m
  ask_left NeedsId es m asked = left_if (is_batch_asked es) up.IdAsk m (refl, refl) asked
  ask_left (NeedsObject o) es m asked = left_if (is_object_asked o es) (up.Fault o) m (refl, refl) asked
  ask_left (NeedsLease l level) es m asked = left_if (is_some (leased l es) || is_asked_for l es) (up.Request l level) m (refl, refl) asked
  ask_left (NeedsClass o) es m asked = absurd (cc asked)
  ask_left (NeedsMark l) es m asked = absurd (cc asked)
  ask_left (NeedsOthersOut l) es m asked = absurd (cc asked)
  ask_left NeedsAck es m asked = absurd (cc asked)

-- the record that ends here has the next number
recorded : (p : Settings) (t : ThreadId) (event : Event) (ending : Option Ending) (es : List Entry) → AreNumbered (unacked es) (records es)
    → AreNumbered (by_sent_up unacked_by_sent (map ToServer (record_of p t event ending es)) (unacked es)) (by_sent_up records_by_sent (map ToServer (record_of p t event ending es)) (records es))
recorded p t event None es h = h
recorded p t event (Some ending) es h = one_more (unacked es) (records es) _ refl h

module _ (p : Settings) (c : ℕ) (before later : ThreadId → Option Request) (e : Entry) (es : List Entry) where
  -- by the messages that it sends
  abbrev After : Input → Type 0
  After i = AreNumbered (by_sent_up unacked_by_sent e.sent (by_taken_down unacked_by_taken i (unacked es))) (by_sent_up records_by_sent e.sent (records es))

  numbered_by : (txns : List Txn) (n : ℕ) (i : Input) → by_sent_up unacked_by_sent e.sent (by_taken_down unacked_by_taken i (unacked es)) ≡ txns → by_sent_up records_by_sent e.sent (records es) ≡ n → AreNumbered txns n → After i
  numbered_by txns n i same_txns same_n h = subst (λ txns. AreNumbered txns (by_sent_up records_by_sent e.sent (records es))) (sym same_txns) (subst (AreNumbered txns) (sym same_n) h)

  numbered_need : (index : ℕ) (t : ThreadId) (request : Request) (need : Option Need) → DoesOrAsks p c t request need before later e es → AreNumbered (unacked es) (records es) → After (input.Act index)
  numbered_need index t request None does h = numbered_by _ _ (input.Act index)
      (said_does unacked_by_sent unacked_leaves p c before later e es t request does (unacked es)) (said_does records_by_sent records_leave p c before later e es t request does (records es))
      (recorded p t (Act t request does.reply (woken_by request does.reply es)) (ending_of (Act t request does.reply (woken_by request does.reply es)) (locks_of t es)) es h)
  numbered_need index t request (Some need) asks h =
      let left = ask_left (unacked es) (records es) need es asks.message asks.asked in
      numbered_by (unacked es) (records es) (input.Act index)
      (said_asks unacked_by_sent unacked_leaves p c before later e es need asks (unacked es) ∙ left.0) (said_asks records_by_sent records_leave p c before later e es need asks (records es) ∙ left.1) h

  numbered_acts : (index : ℕ) (t : ThreadId) (request : Option Request) → ActsOn p c t request before later e es → AreNumbered (unacked es) (records es) → After (input.Act index)
  numbered_acts index t None step h = absurd step
  numbered_acts index t (Some request) step h = numbered_need index t request (unmet p c before t request es) step h

  numbered_told : (m : Down) → FitsDown p c m es → AreNumbered (unacked es) (records es) → AreNumbered (unacked_by_taken m (unacked es)) (records es)
  numbered_told (down.Ack seq) fits h = acked seq (unacked es) (records es) fits h
  numbered_told m fits h = h

  numbered_step : (i : Input) → ClientStepOn p c i before later e es → AreNumbered (unacked es) (records es) → After i
  numbered_step (input.Act index) step h = numbered_acts index (record { client = c; index = index }) (before (record { client = c; index = index })) step.acts h
  numbered_step (input.TookDown m) step h = numbered_by _ _ (input.TookDown m) (said_taken unacked_by_sent unacked_leaves p c before later e es step.sends (unacked_by_taken m (unacked es)))
      (said_taken records_by_sent records_leave p c before later e es step.sends (records es)) (numbered_told m step.fits h)
  numbered_step (input.Flush o) step h = numbered_by (unacked es) (records es) (input.Flush o) (ap (λ out. by_sent_up unacked_by_sent out (unacked es)) step.sends) (ap (λ out. by_sent_up records_by_sent out (records es)) step.sends) h
  numbered_step (input.Rejoin d) step h = numbered_by (unacked es) (records es) (input.Rejoin d) (ap (λ out. by_sent_up unacked_by_sent out (unacked es)) step.sends) (ap (λ out. by_sent_up records_by_sent out (records es)) step.sends) h
  numbered_step i step h = absurd step

  acks_by : (i : Input) → ClientStepOn p c i before later e es → AreNumbered (unacked es) (records es) → AcksFirst i (unacked es)
  acks_by (input.TookDown (down.Ack seq)) step h = acks_first seq (unacked es) (records es) step.fits h
  acks_by (input.TookDown m) step h = tt
  acks_by i step h = tt

pub records_are_numbered : RecordsAreNumbered
records_are_numbered p c next [] run = record { acked = 0; numbers = tt; whole = refl }
records_are_numbered p c next (e ∷ es) run = numbered_step p c (next_in next es) (next_in next (e ∷ es)) e es e.input run.1 (records_are_numbered p c next es run.0)

pub records_are_acked_in_order : RecordsAreAckedInOrder
records_are_acked_in_order p c next [] run = tt
records_are_acked_in_order p c next (e ∷ es) run = (records_are_acked_in_order p c next es run.0, acks_by p c (next_in next es) (next_in next (e ∷ es)) e es e.input run.1 (records_are_numbered p c next es run.0))

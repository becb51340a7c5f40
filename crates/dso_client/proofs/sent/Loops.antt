-- The table as a record is sent, in the order in which the client goes over its parts.
use Rattle.std.specs.List.{list_any}
use Rattle.std.proofs.Common.{◌≡◌, ℕ, zero, suc, ◌+◌, ◌<◌, ◌≤◌, refl, sym, ap, arith, subst, Bool, true, false, eqb, ◌||◌, Option, Some, List, [], ◌∷◌, length, take, get_or}
use Rattle.std.proofs.lemmas.List.{take_more, take_all}
use Rattle.dso_base.specs.declared.lock.ThreadId.{ThreadId}
use Rattle.dso_base.specs.declared.message.Up.TheVariants.{Commit}
use Rattle.dso_base.specs.declared.record.Body.{Body}
use Rattle.dso_base.specs.declared.record.Set.{Set}
use Rattle.dso_base.specs.declared.record.Txn.{Txn}
use Rattle.dso_base.specs.declared.request.Request.{Request}
use Rattle.dso_change.specs.Hands.{has_field}
use Rattle.dso_plain.proofs.keys.SameKeys.{number_self}
use Rattle.dso_law.specs.Records.{records}
use Rattle.dso_table.specs.declared.tables.ObjectTables.{ObjectTables}
use Rattle.dso_table.specs.States.{State, body_of, put, set}
use Rattle.dso_table.specs.ObjectTables.{state_in}
use Rattle.dso_client.specs.declared.answered.Answered.{Answered}
use Rattle.dso_client.specs.SentRecords.{MaySend}
use Rattle.dso_client.specs.ActEffects.{acting}
use Rattle.dso_client.specs.RunPoints.{RunPoint}
use Rattle.dso_client.specs.TableStands.{TableStands}
use Rattle.dso_client.proofs.sent.Objects.{sent, body_sent, set_sent}

-- one of a list passes the test
any_at : {X : Type 0} (test : X → Bool) (xs : List X) (i : ℕ) (none : X) → i < length xs → test (get_or xs i none) ≡ true → list_any test xs ≡ true
any_at test [] i none less e = absurd (omega (arith, less))
any_at test (x ∷ xs) zero none less e = ap (λ b. b || list_any test xs) e
any_at test (x ∷ xs) (suc i) none less e = by (test x) (any_at test xs i none (omega (arith, less)) e)
  where
    by : (b : Bool) → list_any test xs ≡ true → (b || list_any test xs) ≡ true
    by true rest = refl
    by false rest = rest

-- the table stands once these parts of the record were sent, and acknowledges no number of it
pub record StandsSent (clock : ℕ) (act : Answered) (next : ThreadId → Option Request) (at : RunPoint) (txn : Txn) (news : List Body) (sets : List Set) (table : ObjectTables) : Type 0 where
  pub stands : TableStands (sent clock act next at txn news sets) table
  pub acked : (state_in table).acked ≤ records at.entries

-- so far so many objects and sets of the record were sent
abbrev pub IsSoFar : Txn → ℕ → ℕ → ObjectTables → ObjectTables → Type 0
IsSoFar txn n m old new = (clock : ℕ) (act : Answered) (next : ThreadId → Option Request) (at : RunPoint) → TableStands (acting clock act [] next at) old → MaySend at txn
    → StandsSent clock act next at txn (take n txn.news) (take m txn.sets) new

-- the number of the record wasn't acknowledged
unacked_so_far : (acked n seq : ℕ) → acked ≤ n → seq ≡ suc n → acked < seq
unacked_so_far acked n seq few next = omega (arith, few, next)

-- one more object
pub body_so_far : (txn : Txn) (i : ℕ) (none : Body) (old mid new : ObjectTables) → i < length txn.news → IsSoFar txn i 0 old mid
    → state_in new ≡ put (get_or txn.news i none) (Some txn.seq) (state_in mid) → IsSoFar txn (i + 1) 0 old new
body_so_far txn i none old mid new less before is clock act next at h may =
    let it = before clock act next at h may in
    let later = unacked_so_far (state_in mid).acked (records at.entries) txn.seq it.acked may.next in
    subst (λ news. StandsSent clock act next at txn news [] new) (sym (take_more txn.news i none less)) (record {
      stands = body_sent clock act next at txn mid later (take i txn.news) (get_or txn.news i none) new it.stands is;
      acked = subst (λ n. n ≤ records at.entries) (sym (ap (λ (s : State). s.acked) is)) it.acked;
    })

-- one more set
pub set_so_far : (txn : Txn) (n i : ℕ) (none : Set) (old mid new : ObjectTables) → i < length txn.sets → IsSoFar txn n i old mid
    → (let change = get_or txn.sets i none in has_field change.field (body_of ((state_in mid).standing change.object)) ≡ true → state_in new ≡ set change (Some txn.seq) (state_in mid))
    → (let change = get_or txn.sets i none in (copy : Body) → body_of ((state_in mid).standing change.object) ≡ Some copy → has_field change.field (Some copy) ≡ false
    → state_in new ≡ put copy (Some txn.seq) (state_in mid))
    → IsSoFar txn n (i + 1) old new
set_so_far txn n i none old mid new less before writes marks clock act next at h may =
    let it = before clock act next at h may in
    let later = unacked_so_far (state_in mid).acked (records at.entries) txn.seq it.acked may.next in
    let change = get_or txn.sets i none in
    let resident = may.resident change.object (any_at (λ set. eqb set.object change.object) txn.sets i none less (number_self change.object)) in
    let one = set_sent clock act next at txn mid later (take n txn.news) (take i txn.sets) change new it.stands resident writes marks in
    subst (λ sets. StandsSent clock act next at txn (take n txn.news) sets new) (sym (take_more txn.sets i none less)) (record {
      stands = one.0;
      acked = subst (λ n. n ≤ records at.entries) (sym one.1) it.acked;
    })

-- all of it
pub all_so_far : (txn : Txn) (old new : ObjectTables) → IsSoFar txn (length txn.news) (length txn.sets) old new
    → (clock : ℕ) (act : Answered) (next : ThreadId → Option Request) (at : RunPoint) → TableStands (acting clock act [] next at) old → MaySend at txn
    → TableStands (acting clock act (Commit txn ∷ []) next at) new
all_so_far txn old new all clock act next at h may =
    let it = (all clock act next at h may).stands in
    subst (λ news. TableStands (sent clock act next at txn news txn.sets) new) (take_all (length txn.news) txn.news (omega arith))
    (subst (λ sets. TableStands (sent clock act next at txn (take (length txn.news) txn.news) sets) new) (take_all (length txn.sets) txn.sets (omega arith)) it)

-- What a client's entries keep in a run.
use Rattle.std.specs.List.{list_any}
use Rattle.std.specs.Prelude.{◌≡◌, ℕ, ◌≤◌, ◌<◌, ◌^◌, eqb, false, true, not, is_some, Some, None, [], length}
use Rattle.std.specs.Option.{IfSome, option_map_or}
use Rattle.dso_base.specs.declared.lock.LockName.{LockName}
use Rattle.dso_base.specs.declared.lock.ThreadId.{ThreadId}
use Rattle.dso_base.specs.declared.record.Body.{Body}
use Rattle.dso_base.specs.Following.{is_thread}
use Rattle.dso_change.specs.Hands.{IsOnce}
use Rattle.dso_law.specs.Settings.{threads_of}
use Rattle.dso_law.specs.Threads.{own, open_block, hold_of, locks_of, work_of}
use Rattle.dso_law.specs.Copies.{copy_of, is_resident}
use Rattle.dso_law.specs.HeldBody.{held_body}
use Rattle.dso_law.specs.Leases.{leased, is_asked_for}
use Rattle.dso_law.specs.Records.{records, unacked, is_settled}
use Rattle.dso_law.specs.RunLaws.{AreNumbered}
use Rattle.dso_law.specs.ClientStep.{wants_object}
use Rattle.dso_client.specs.RunPoints.{RunPoint}
use Rattle.dso_client.specs.ContextStands.{last_record}

-- a thread that isn't one of the client's holds nothing
abbrev pub AreOwnHolds : RunPoint → Type 0
AreOwnHolds at = (t : ThreadId) → list_any (is_thread t) (threads_of at.settings at.client) ≡ false
    → (locks_of t at.entries).holds ≡ []

-- A lock that is leased isn't asked for; the records that aren't acknowledged have consecutive numbers up to the last
-- one; a thread is settled where its last record is acknowledged; a thread that isn't one of the client's has no open
-- block, doesn't wait, wants nothing and holds nothing; who holds a lock entered it once at least, and who waits is to
-- have a lock again that it entered so; what a thread has in hand it has once; what its open block sets is resident.
pub record RunFacts (at : RunPoint) : Type 0 where
  pub apart : (l : LockName) → is_some (leased l at.entries) ≡ true → is_asked_for l at.entries ≡ false
  pub settled : (t : ThreadId)
      → is_settled t at.entries
      ≡ not (option_map_or (λ n. list_any (λ txn. eqb txn.seq n) (unacked at.entries))
      (last_record t at.entries) false)
  pub numbered : AreNumbered (unacked at.entries) (records at.entries)
  pub strangers : (t : ThreadId) → list_any (is_thread t) (threads_of at.settings at.client) ≡ false
      → open_block t at.entries ≡ []
  pub waitless : (t : ThreadId) → list_any (is_thread t) (threads_of at.settings at.client) ≡ false
      → (locks_of t at.entries).waiting ≡ None
  pub unwanted : (t : ThreadId) (o : ℕ) → list_any (is_thread t) (threads_of at.settings at.client) ≡ false
      → eqb t.client at.client ≡ true → wants_object o t.index at.entries ≡ false
  pub holdless : AreOwnHolds at
  pub counted : (t : ThreadId) (l : LockName) → IfSome (hold_of t l at.entries) (λ hold. 1 ≤ hold.count)
  pub owed : (t : ThreadId) → IfSome (locks_of t at.entries).waiting (λ waiting. 1 ≤ waiting.count)
  pub once : (t : ThreadId) → IsOnce (work_of at.settings.shape t at.entries)
  pub changed : (t : ThreadId) (o : ℕ)
      → list_any (λ set. eqb set.object o) (work_of at.settings.shape t at.entries).sets ≡ true
      → is_resident o at.entries ≡ true

-- Sizes: a field past the size of a copy has no value, and sizes are told in 32 bits.
pub record SizesAreKept (at : RunPoint) : Type 0 where
  pub fields : (o f : ℕ) (body : Body) → held_body o at.entries ≡ Some body → length body.values ≤ f
      → copy_of o f at.entries ≡ None
  pub copies : (o : ℕ) (body : Body) → held_body o at.entries ≡ Some body → length body.values < 2 ^ 32
  pub own : (t : ThreadId) (o : ℕ) (body : Body) → own at.settings.shape t o at.entries ≡ Some body
      → length body.values < 2 ^ 32

-- Once an act was answered, no lease is to be given back but of the lock that it left, of the one that its thread next
-- wants at Write, or of one that a thread wants so that it may have marked.
use Rattle.std.specs.List.{list_any}
use Rattle.std.proofs.Common.{◌≡◌, ℕ, refl, sym, ◌∙◌, ap, Bool, true, false, cond, not, ◌&&◌, ◌||◌, is_some, Option, Some, None, List, []}
use Rattle.std.specs.Prelude.{is_none}
use Rattle.std.proofs.Math.Path.{fun_ext}
use Rattle.dso_base.specs.declared.lock.Level.{Level}
use Rattle.dso_base.specs.declared.lock.Level.TheVariants.{Read, Write}
use Rattle.dso_base.specs.declared.lock.LockName.{LockName}
use Rattle.dso_base.specs.declared.lock.ThreadId.{ThreadId}
use Rattle.dso_base.specs.declared.record.Txn.{Txn}
use Rattle.dso_base.specs.declared.request.Reply.{Reply}
use Rattle.dso_base.specs.declared.request.Reply.TheVariants.{Done}
use Rattle.dso_base.specs.declared.request.Request.{Request}
use Rattle.dso_base.specs.declared.request.Request.TheVariants.{Enter, Exit, Wait, Resume}
use Rattle.dso_base.specs.Following.{is_thread}
use Rattle.dso_plain.specs.After.{entered, exited}
use Rattle.dso_plain.specs.KeyTests.{is_lock}
use Rattle.dso_plain.specs.State.{Hold}
use Rattle.dso_plain.proofs.keys.SameKeys.{same_thread, thread_self}
use Rattle.dso_law.proofs.client.ClientLaws.{lock_either_way, holds_after}
use Rattle.dso_law.specs.ClientWaiters.{is_marked}
use Rattle.dso_law.specs.Closing.{wants_write, is_read, awaits_write, is_free}
use Rattle.dso_law.specs.Leases.{enters, leased, is_entered, is_recalled}
use Rattle.dso_law.specs.Settings.{threads_of}
use Rattle.dso_law.specs.Threads.{Held, Waiting, Locks, hold_in, hold_of, locks_by, locks_of, resumed, with_hold}
use Rattle.dso_client.specs.declared.answered.Answered.{Answered}
use Rattle.dso_client.specs.ActEffects.{acting}
use Rattle.dso_client.specs.RunPoints.{RunPoint}
use Rattle.dso_client.specs.RunFacts.{AreOwnHolds}
use Rattle.dso_client.specs.LeaseReturns.{AreNextOfOthers, OnlyThese, is_due_at, is_of, is_wanted_by, is_wanted_by_marked}
use Rattle.dso_client.specs.LeaseReturns.{left_lock, may_mark, record_sent, wanted_lock}
use Rattle.dso_client.proofs.acts.SameMarks.{marked_same}
use Rattle.dso_client.proofs.due.AmongThreads.{any_at, any_less, any_neither}

-- who wants a lock at Write, names it
wants_named : (k : LockName) (marked : Bool) (request : Option Request) → wants_write k marked request ≡ true → is_of k (wanted_lock request) ≡ true
wants_named k marked None h = absurd (cc h)
wants_named k marked (Some (Enter l Read)) h = absurd (cc h)
wants_named k marked (Some (Enter l Write)) h = h
wants_named k marked (Some (Resume l)) h = first (is_lock k l) marked h
  where
    first : (a b : Bool) → (a && b) ≡ true → a ≡ true
    first true b h = refl
    first false b h = absurd (cc h)
wants_named k marked (Some request) h = absurd (cc h)

-- another lock is held as it was
other : (l k : LockName) (hold : Option Hold) (holds : List Held) → is_lock k l ≡ false → hold_in k (with_hold l hold holds) ≡ hold_in k holds
other l k hold holds differ = holds_after l k hold holds ∙ ap (λ b. cond b hold (hold_in k holds)) (lock_either_way l k ∙ differ)

other_resumed : (l k : LockName) (waiting : Option Waiting) (locks : Locks) → is_lock k l ≡ false → hold_in k (resumed l waiting locks).holds ≡ hold_in k locks.holds
other_resumed l k None locks differ = refl
other_resumed l k (Some waiting) locks differ = other l k (Some (record { level = Write; count = waiting.count })) locks.holds differ

-- so where an act neither enters the lock nor leaves it
held_same : (k : LockName) (request : Request) (reply : Reply) (locks : Locks) → is_of k (left_lock request) ≡ false → enters k request reply ≡ false
    → hold_in k (locks_by request reply locks).holds ≡ hold_in k locks.holds
held_same k (Enter l level) Done locks left enters_not = other l k (entered level (hold_in l locks.holds)) locks.holds enters_not
held_same k (Exit l) Done locks left enters_not = other l k (exited (hold_in l locks.holds)) locks.holds left
held_same k (Wait l) Done locks left enters_not = other l k None locks.holds left
held_same k (Resume l) Done locks left enters_not = other_resumed l k locks.waiting locks left
held_same k request reply locks left enters_not = refl

there_entered : (level : Level) (before : Option Hold) → is_none (entered level before) ≡ false
there_entered level None = refl
there_entered level (Some hold) = refl

-- who enters a lock holds it
held_entered : (k : LockName) (request : Request) (reply : Reply) (locks : Locks) → is_of k (left_lock request) ≡ false → enters k request reply ≡ true
    → is_none (hold_in k (locks_by request reply locks).holds) ≡ false
held_entered k (Enter l level) Done locks left e = ap is_none (holds_after l k (entered level (hold_in l locks.holds)) locks.holds
    ∙ ap (λ b. cond b (entered level (hold_in l locks.holds)) (hold_in k locks.holds)) (lock_either_way l k ∙ e)) ∙ there_entered level (hold_in l locks.holds)
held_entered k (Resume l) Done locks left e = absurd (cc (sym left ∙ e))
held_entered k request reply locks left e = absurd (cc e)

-- what wasn't due isn't where nothing of it changed but that fewer await it
not_due : (lease recalled read awaits was_awaited was_entered free : Bool) → (was_awaited ≡ false → awaits ≡ false)
    → (lease && ((recalled || (read && was_awaited)) && (was_entered && free))) ≡ false
    → (lease && ((recalled || (read && awaits)) && (was_entered && free))) ≡ false
not_due false recalled read awaits was_awaited was_entered free fewer quiet = refl
not_due true true read awaits was_awaited was_entered free fewer quiet = quiet
not_due true false false awaits was_awaited was_entered free fewer quiet = refl
not_due true false true true true was_entered free fewer quiet = quiet
not_due true false true true false was_entered free fewer quiet = absurd (cc (fewer refl))
not_due true false true false was_awaited was_entered free fewer quiet = refl

-- what isn't free isn't due
held_not_due : (lease closing entered free : Bool) → free ≡ false → (lease && (closing && (entered && free))) ≡ false
held_not_due false closing entered free e = refl
held_not_due true false entered free e = refl
held_not_due true true false free e = refl
held_not_due true true true free e = e

module _ (clock : ℕ) (act : Answered) (next : ThreadId → Option Request) (at : RunPoint) where
  abbrev pub then : RunPoint
  then = acting clock act [] next at

  module _ (its : list_any (is_thread act.thread) (threads_of at.settings at.client) ≡ true)
      (quiet : (l : LockName) → is_due_at at l ≡ false) (others : AreNextOfOthers act.thread at.next next) (k : LockName)
      (left : is_of k (left_lock act.request) ≡ false) (unwanted : is_wanted_by then k act.thread ≡ false)
      (unmarked : list_any (is_wanted_by_marked then act k) (threads_of at.settings at.client) ≡ false) where
    -- a thread awaits the lock then
    abbrev awaits : ThreadId → Bool
    awaits = awaits_write at.settings at.client next k then.entries

    -- or did so before
    abbrev awaited : ThreadId → Bool
    awaited = awaits_write at.settings at.client at.next k at.entries

    abbrev threads : List ThreadId
    threads = threads_of at.settings at.client

    second : (a b : Bool) → (a && b) ≡ true → b ≡ true
    second true b h = h
    second false b h = absurd (cc h)

    -- who awaits it then, next wants it
    wants : (t : ThreadId) → awaits t ≡ true → is_wanted_by then k t ≡ true
    wants t h = wants_named k (is_marked t then.entries) (next t)
        (second (is_none (hold_of t k then.entries)) (wants_write k (is_marked t then.entries) (next t)) h)

    behind : (a b : Bool) → b ≡ true → (a || b) ≡ true
    behind true b h = refl
    behind false b h = h

    hold_same : enters k act.request act.reply ≡ false → (t : ThreadId) → hold_of t k then.entries ≡ hold_of t k at.entries
    hold_same enters_not t = by (is_thread t act.thread)
      where
        by : (b : Bool) → hold_in k (cond b (locks_by act.request act.reply (locks_of t at.entries)) (locks_of t at.entries)).holds ≡ hold_of t k at.entries
        by true = held_same k act.request act.reply (locks_of t at.entries) left enters_not
        by false = refl

    -- who awaits it then awaited it before, or the act may have marked it
    awaited_or : enters k act.request act.reply ≡ false → (t : ThreadId) → awaits t ≡ true
        → (awaited t || is_wanted_by_marked then act k t) ≡ true
    awaited_or enters_not t h = by (is_thread t act.thread) refl (may_mark act t) refl
      where
        as_before : is_thread t act.thread ≡ false → may_mark act t ≡ false → awaits t ≡ awaited t
        as_before other unmarked =
            let hold = hold_same enters_not t in
            let mark = marked_same t act.thread at.entries act.request act.reply act.woken (is_marked t at.entries) other unmarked in
            λ i. is_none (hold i) && wants_write k (mark i) (others t other i)

        by : (a : Bool) → is_thread t act.thread ≡ a → (b : Bool) → may_mark act t ≡ b
            → (awaited t || (b && is_wanted_by then k t)) ≡ true
        by true e b f = absurd (cc (sym unwanted ∙ (ap (is_wanted_by then k) (same_thread t act.thread e) ∙ wants t h)))
        by false e true f = behind (awaited t) (is_wanted_by then k t) (wants t h)
        by false e false f = ap (λ b. b || false) (sym (as_before e f) ∙ h)

    fewer : enters k act.request act.reply ≡ false → list_any awaited threads ≡ false → list_any awaits threads ≡ false
    fewer enters_not none = any_less awaits (λ t. awaited t || is_wanted_by_marked then act k t) (awaited_or enters_not) threads
        (any_neither awaited (is_wanted_by_marked then act k) threads none unmarked)

    -- the act doesn't enter the lock
    apart : enters k act.request act.reply ≡ false → is_due_at then k ≡ false
    apart enters_not =
        let lease = is_some (leased k at.entries) in
        let recalled = is_recalled k at.entries in
        let read = is_read (leased k at.entries) in
        let entered = is_entered k at.entries in
        let free = is_free at.settings at.client at.next k at.entries in
        let closes = recalled || (read && list_any awaits threads) in
        ap (λ free. lease && (closes && ((enters k act.request act.reply || entered) && free))) free_same
        ∙ (ap (λ now. lease && (closes && ((now || entered) && free))) enters_not
        ∙ not_due lease recalled read (list_any awaits threads) (list_any awaited threads) entered free (fewer enters_not) (quiet k))
      where
        free_same : is_free at.settings at.client next k then.entries ≡ is_free at.settings at.client at.next k at.entries
        free_same = ap (λ test. not (list_any test (threads_of at.settings at.client)))
            (fun_ext (λ t. ap (λ hold. not (is_none hold)) (hold_same enters_not t)))

    -- or it does: then its thread holds it
    entered_now : enters k act.request act.reply ≡ true → is_due_at then k ≡ false
    entered_now e = held_not_due (is_some (leased k then.entries)) _ (is_entered k then.entries) (is_free at.settings at.client next k then.entries)
        (ap not (any_at act.thread (λ t. not (is_none (hold_of t k then.entries))) (threads_of at.settings at.client) its
        (ap not (ap (λ b. is_none (hold_in k (cond b (locks_by act.request act.reply (locks_of act.thread at.entries)) (locks_of act.thread at.entries)).holds)) (thread_self act.thread)
        ∙ held_entered k act.request act.reply (locks_of act.thread at.entries) left e))))

    pub elsewhere : is_due_at then k ≡ false
    elsewhere = by (enters k act.request act.reply) refl
      where
        by : (b : Bool) → enters k act.request act.reply ≡ b → is_due_at then k ≡ false
        by true e = entered_now e
        by false e = apart e

  -- a record that is sent makes no difference
  pub due_same : (txn : Option Txn) (k : LockName) → is_due_at (acting clock act (record_sent txn) next at) k ≡ is_due_at then k
  due_same None k = refl
  due_same (Some txn) k = refl

  pub only_these : list_any (is_thread act.thread) (threads_of at.settings at.client) ≡ true
      → ((l : LockName) → is_due_at at l ≡ false) → AreNextOfOthers act.thread at.next next → (txn : Option Txn)
      → OnlyThese (acting clock act (record_sent txn) next at) act
  only_these its quiet others txn k is = by (is_of k (left_lock act.request)) refl (is_wanted_by then k act.thread) refl
      (list_any (is_wanted_by_marked then act k) (threads_of at.settings at.client)) refl
    where
      by : (a : Bool) → is_of k (left_lock act.request) ≡ a → (b : Bool) → is_wanted_by then k act.thread ≡ b
          → (c : Bool) → list_any (is_wanted_by_marked then act k) (threads_of at.settings at.client) ≡ c
          → (a || (b || c)) ≡ true
      by true e b f c g = refl
      by false e true f c g = refl
      by false e false f true g = refl
      by false e false f false g = absurd (cc (sym is ∙ (due_same txn k ∙ elsewhere its quiet others k e f g)))

-- a thread that isn't one of the client's holds nothing still
pub own_acted : (clock : ℕ) (act : Answered) (next : ThreadId → Option Request) (at : RunPoint) (txn : Option Txn) → list_any (is_thread act.thread) (threads_of at.settings at.client) ≡ true
    → AreOwnHolds at → AreOwnHolds (acting clock act (record_sent txn) next at)
own_acted clock act next at txn its own t stranger = by (is_thread t act.thread) refl
  where
    by : (b : Bool) → is_thread t act.thread ≡ b → (cond b (locks_by act.request act.reply (locks_of t at.entries)) (locks_of t at.entries)).holds ≡ []
    by true same = absurd (cc (sym stranger ∙ (ap (λ u. list_any (is_thread u) (threads_of at.settings at.client)) (sym (same_thread t act.thread same)) ∙ its)))
    by false other = own t stranger

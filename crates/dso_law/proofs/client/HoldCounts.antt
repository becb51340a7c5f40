-- A lock is held no more often than its thread's client has entries.
use Rattle.std.proofs.Common.{ℕ, suc, ◌-◌, ◌^◌, ◌<◌, ◌≤◌, ◌≡◌, sym, subst, Bool, true, false, cond, eqb, Option, Some, None, List, [], ◌∷◌, length, take, reverse, arith}
use Rattle.std.proofs.lemmas.List.{length-take, length-reverse}
use Rattle.dso_base.specs.declared.journal.Entry.{Entry}
use Rattle.dso_base.specs.declared.journal.Node.{Node}
use Rattle.dso_base.specs.declared.lock.Level.{Level}
use Rattle.dso_base.specs.declared.lock.Level.TheVariants.{Write}
use Rattle.dso_base.specs.declared.lock.LockName.{LockName}
use Rattle.dso_base.specs.declared.lock.ThreadId.{ThreadId}
use Rattle.dso_base.specs.declared.request.Event.{Event}
use Rattle.dso_base.specs.declared.request.Event.TheVariants.{Act, Lost}
use Rattle.dso_base.specs.declared.request.Reply.{Reply}
use Rattle.dso_base.specs.declared.request.Reply.TheVariants.{Done}
use Rattle.dso_base.specs.declared.request.Request.{Request}
use Rattle.dso_base.specs.declared.request.Request.TheVariants.{Enter, Exit, Wait, Resume}
use Rattle.dso_plain.specs.KeyTests.{is_lock}
use Rattle.dso_plain.specs.State.{Hold}
use Rattle.dso_plain.specs.After.{entered, exited, count_of}
use Rattle.dso_plain.specs.History.{is_act_of}
use Rattle.dso_law.specs.Entries.{is_node, entries_of, by_event}
use Rattle.dso_law.specs.Threads.{Held, Waiting, Locks, hold_in, with_hold, resumed, locks_by, locks_after, locks_of}
use Rattle.dso_law.proofs.client.ClientLaws.{holds_after}

-- one more entry of any lock is counted in 64 bits
abbrev pub CountsFit : Locks → Type 0
CountsFit locks = (l : LockName) → count_of (hold_in l locks.holds) < 2 ^ 64 - 1

-- the count of the hold that is to be had again
abbrev waiting_count : Option Waiting → ℕ
waiting_count None = 0
waiting_count (Some waiting) = waiting.count

-- no lock is held more often than that
record UpTo (n : ℕ) (locks : Locks) : Type 0 where
  held : (l : LockName) → count_of (hold_in l locks.holds) ≤ n
  waiting : waiting_count locks.waiting ≤ n

-- what is up to n is up to one more
later : (n : ℕ) (locks : Locks) → UpTo n locks → UpTo (suc n) locks
later n locks u = record { held = λ l. let h = u.held l in omega arith; waiting = let h = u.waiting in omega arith }

count_entered : (n : ℕ) (level : Level) (before : Option Hold) → count_of before ≤ n → count_of (entered level before) ≤ suc n
count_entered n level None h = omega arith
count_entered n level (Some hold) h = omega arith

count_exited : (n : ℕ) (before : Option Hold) → count_of before ≤ n → count_of (exited before) ≤ suc n
count_exited n None h = omega arith
count_exited n (Some hold) h = by (eqb hold.count 1)
  where
    by : (b : Bool) → count_of (cond b None (Some (record { level = hold.level; count = hold.count - 1 }))) ≤ suc n
    by true = omega arith
    by false = omega arith

-- the count of a lock after the hold of one is changed
count_with : (n : ℕ) (l k : LockName) (hold : Option Hold) (holds : List Held) → count_of hold ≤ suc n → count_of (hold_in k holds) ≤ n → count_of (hold_in k (with_hold l hold holds)) ≤ suc n
count_with n l k hold holds h g = rw (holds_after l k hold holds) (by (is_lock l k))
  where
    by : (b : Bool) → count_of (cond b hold (hold_in k holds)) ≤ suc n
    by true = h
    by false = omega arith

up_resumed : (n : ℕ) (l : LockName) (waiting : Option Waiting) (locks : Locks) → UpTo n locks → waiting_count waiting ≤ n → UpTo (suc n) (resumed l waiting locks)
up_resumed n l None locks u h = later n locks u
up_resumed n l (Some waiting) locks u h = record {
  held = λ k. count_with n l k (Some (record { level = Write; count = waiting.count })) locks.holds (omega arith) (u.held k);
  waiting = omega arith;
}

up_by : (n : ℕ) (request : Request) (reply : Reply) (locks : Locks) → UpTo n locks → UpTo (suc n) (locks_by request reply locks)
up_by n (Enter l level) Done locks u = record {
  held = λ k. count_with n l k (entered level (hold_in l locks.holds)) locks.holds (count_entered n level (hold_in l locks.holds) (u.held l)) (u.held k);
  waiting = let h = u.waiting in omega arith;
}
up_by n (Exit l) Done locks u = record {
  held = λ k. count_with n l k (exited (hold_in l locks.holds)) locks.holds (count_exited n (hold_in l locks.holds) (u.held l)) (u.held k);
  waiting = let h = u.waiting in omega arith;
}
up_by n (Wait l) Done locks u = record {
  held = λ k. count_with n l k None locks.holds (omega arith) (u.held k);
  waiting = let h = u.held l in omega arith;
}
up_by n (Resume l) Done locks u = up_resumed n l locks.waiting locks u u.waiting
up_by n request reply locks u = later n locks u

up_cond : (n : ℕ) (b : Bool) (after before : Locks) → UpTo (suc n) after → UpTo (suc n) before → UpTo (suc n) (cond b after before)
up_cond n true after before u v = u
up_cond n false after before u v = v

up_after : (n : ℕ) (t : ThreadId) (event : Event) (locks : Locks) → UpTo n locks → UpTo (suc n) (locks_after t event locks)
up_after n t (Act thread request reply woken) locks u = up_cond n (is_act_of t (Act thread request reply woken)) (locks_by request reply locks) locks (up_by n request reply locks u) (later n locks u)
up_after n t (Lost client) locks u = later n locks u

up_event : (n : ℕ) (t : ThreadId) (o : Option Event) (locks : Locks) → UpTo n locks → UpTo (suc n) (by_event (locks_after t) o locks)
up_event n t None locks u = later n locks u
up_event n t (Some event) locks u = up_after n t event locks u

up_to_entries : (t : ThreadId) (es : List Entry) → UpTo (length es) (locks_of t es)
up_to_entries t [] = record { held = λ l. omega arith; waiting = omega arith }
up_to_entries t (e ∷ es) = up_event (length es) t e.event (locks_of t es) (up_to_entries t es)

-- a node has no more entries than there are
few_entries : (node : Node) (es : List Entry) → length (entries_of node es) ≤ length es
few_entries node [] = omega arith
few_entries node (e ∷ es) = by (is_node node e.node) (few_entries node es)
  where
    by : (b : Bool) → length (entries_of node es) ≤ length es → length (cond b (e ∷ entries_of node es) (entries_of node es)) ≤ suc (length es)
    by true h = omega arith
    by false h = omega arith

pub counts_fit : (t : ThreadId) (node : Node) (entries : List Entry) (i : ℕ) (locks : Locks) → locks ≡ locks_of t (entries_of node (reverse (take i entries)))
    → i < length entries → length entries < 2 ^ 64 → CountsFit locks
counts_fit t node entries i locks e less short = λ l.
    let es = entries_of node (reverse (take i entries)) in
    let most : count_of (hold_in l (locks_of t es).holds) ≤ length es = (up_to_entries t es).held l in
    let few = few_entries node (reverse (take i entries)) in
    let n : length (reverse (take i entries)) ≡ length (take i entries) = length-reverse (take i entries) in
    let m = length-take i entries in
    let fits : count_of (hold_in l (locks_of t es).holds) < 2 ^ 64 - 1 = omega arith in
    subst (λ x. count_of (hold_in l x.holds) < 2 ^ 64 - 1) (sym e) fits

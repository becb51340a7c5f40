-- Messages sent one after the other, and what one of them makes of a lock.
use Rattle.std.proofs.Common.{ℕ, ◌+◌, ◌<◌, ◌≡◌, refl, sym, ◌∙◌, ap, subst, arith, false, cond, eqb, Some, List, [], ◌∷◌, ◌++◌, take, get_or, suc, length, append_assoc}
use Rattle.std.proofs.Math.Path.{fun_ext}
use Rattle.std.proofs.Math.Seq.{take-suc}
use Rattle.std.proofs.lemmas.List.{map-append, append-nil}
use Rattle.std.proofs.lemmas.List.Sums.{fold-append}
use Rattle.std.specs.BTreeMap.{BTreeMap, get, is_at}
use Rattle.std.specs.BTreeSet.{BTreeSet, contains}
use Rattle.std.specs.Ordering.{nat_cmp}
use Rattle.dso_base.specs.declared.journal.Sent.{Sent}
use Rattle.dso_base.specs.declared.lock.Level.{Level}
use Rattle.dso_base.specs.declared.lock.LockName.{LockName}
use Rattle.dso_base.specs.declared.message.Down.{Down}
use Rattle.dso_base.specs.declared.message.Down.TheVariants as down
use Rattle.dso_law.specs.Entries.{by_sent_down, one_sent_down}
use Rattle.dso_law.specs.Granting.{Waiter, to_each, without_client}
use Rattle.dso_law.proofs.client.TimedOut.{lock_self}
use Rattle.dso_locks.specs.declared.lock.Lock.{Lock}
use Rattle.dso_locks.specs.Locks.{LockState, told_to}
use Rattle.dso_locks.specs.Serving.{state_in, Sends}
use Rattle.dso_lookup.proofs.Tests.{number_at}

-- nothing is sent
pub sends_none : (l : LockName) (s : LockState) (before : List Sent) → Sends l [] s s before before
sends_none l s before = record { sent = sym (append-nil before); stands = refl }

-- more messages are sent behind others
pub sends_more : (l : LockName) (first more : List Sent) (old mid new : LockState) (before so_far after : List Sent) → Sends l first old mid before so_far → Sends l more mid new so_far after → Sends l (first ++ more) old new before after
sends_more l first more old mid new before so_far after a b = record {
  sent = b.sent ∙ (ap (λ xs. xs ++ more) a.sent ∙ append_assoc before first more);
  stands = b.stands ∙ (ap (λ s. by_sent_down (told_to l) more s) a.stands ∙ sym (fold-append (one_sent_down (told_to l)) old first more));
}

-- the messages to the clients so far, with the one to the next
pub to_next : (m : Down) (clients : List ℕ) (i : ℕ) → i < length clients → to_each m (take (suc i) clients) ≡ to_each m (take i clients) ++ to_each m (get_or clients i 0 ∷ [])
to_next m clients i less = ap (λ cs. to_each m cs) (take-suc clients i 0 less) ∙ map-append _ (take i clients) (get_or clients i 0 ∷ [])

-- the leases and recalls once a grant is in the tables
pub granted_state : (lock : Lock) (c : ℕ) (level : Level) (leases : BTreeMap ℕ Level) (recalled : BTreeSet ℕ) (queue : List Waiter)
    → ((d : ℕ) → get nat_cmp leases d ≡ cond (is_at (nat_cmp c) d) (Some level) (get nat_cmp lock.leases d))
    → ((d : ℕ) → contains nat_cmp recalled d ≡ cond (is_at (nat_cmp c) d) false (contains nat_cmp lock.recalled d))
    → queue ≡ without_client c lock.queue
    → state_in (record { name = lock.name; leases = leases; recalled = recalled; queue = queue }) ≡ told_to lock.name c (down.Grant lock.name level) (state_in lock)
granted_state lock c level leases recalled queue leased called rest =
    let e : (λ d. get nat_cmp leases d) ≡ (λ d. cond (eqb d c) (Some level) (get nat_cmp lock.leases d)) = fun_ext (λ d. leased d ∙ ap (λ b. cond b (Some level) (get nat_cmp lock.leases d)) (number_at c d)) in
    let f : (λ d. contains nat_cmp recalled d) ≡ (λ d. cond (eqb d c) false (contains nat_cmp lock.recalled d)) = fun_ext (λ d. called d ∙ ap (λ b. cond b false (contains nat_cmp lock.recalled d)) (number_at c d)) in
    rw (lock_self lock.name) (λ i. record { leases = record { lease = e i; recalled = f i }; queue = rest i })

-- one client more is recalled
pub recalled_next : (l k : LockName) (clients : List ℕ) (i : ℕ) (old mid new : LockState) (before so_far after : List Sent) → i < length clients → k ≡ l
    → Sends l (to_each (down.Recall l) (take i clients)) old mid before so_far → Sends k (to_each (down.Recall k) (get_or clients i 0 ∷ [])) mid new so_far after
    → Sends l (to_each (down.Recall l) (take (i + 1) clients)) old new before after
recalled_next l k clients i old mid new before so_far after less same a b =
    let more : suc i ≡ i + 1 = omega arith in
    let here : Sends l (to_each (down.Recall l) (get_or clients i 0 ∷ [])) mid new so_far after = subst (λ x. Sends x (to_each (down.Recall x) (get_or clients i 0 ∷ [])) mid new so_far after) same b in
    let all : to_each (down.Recall l) (take i clients) ++ to_each (down.Recall l) (get_or clients i 0 ∷ []) ≡ to_each (down.Recall l) (take (i + 1) clients) = sym (to_next (down.Recall l) clients i less) ∙ ap (λ n. to_each (down.Recall l) (take n clients)) more in
    subst (λ xs. Sends l xs old new before after) all (sends_more l (to_each (down.Recall l) (take i clients)) (to_each (down.Recall l) (get_or clients i 0 ∷ [])) old mid new before so_far after a here)

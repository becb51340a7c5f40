-- The lists of waiters in their table: one list is changed, or each of them.
use Rattle.std.proofs.Common.{ℕ, ◌+◌, ◌<◌, ◌≤◌, ◌≡◌, refl, sym, ◌∙◌, ap, Bool, true, false, cond, eqb, Option, Some, None, List, [], ◌++◌, length, take, get_or}
use Rattle.std.proofs.Math.Path.{fun_ext}
use Rattle.std.specs.BTreeMap.{BTreeMap, is_at}
use Rattle.std.proofs.lemmas.List.{take_all}
use Rattle.std.proofs.lemmas.List.Sums.{fold_more}
use Rattle.std.specs.Map.{lookup}
use Rattle.std.specs.Option.{unwrap_or}
use Rattle.std.specs.Ordering.{nat_cmp}
use Rattle.dso_base.specs.declared.journal.Input.{Input}
use Rattle.dso_base.specs.declared.journal.Sent.{Sent}
use Rattle.dso_base.specs.declared.journal.Input.TheVariants.{TookUp, Lose}
use Rattle.dso_base.specs.declared.lock.LockName.{LockName}
use Rattle.dso_base.specs.declared.lock.ThreadId.{ThreadId}
use Rattle.dso_base.specs.declared.message.Up.TheVariants.{Return}
use Rattle.dso_plain.specs.KeyTests.{is_lock}
use Rattle.dso_lookup.specs.Maps.{writes, or_old, written, look}
use Rattle.dso_lookup.specs.Orders.{lock_order}
use Rattle.dso_plain.proofs.keys.SameKeys.{same_lock}
use Rattle.dso_plain.proofs.keys.TableOrders.{lock_at}
use Rattle.dso_lookup.proofs.Tests.{number_at}
use Rattle.dso_law.specs.Entries.{one_sent_down, by_sent_down}
use Rattle.dso_law.specs.ServerReadings.{loses}
use Rattle.dso_law.specs.ServerWaiters.{without_client, waiters_by, waiters_by_sent}
use Rattle.dso_legal.specs.Committed.{or_empty}
use Rattle.dso_legal.specs.JournalPass.{ServerState, is_of_lost, list_after, server_state_after}
use Rattle.dso_legal.specs.JournalPassTables.{waiters_in}
use Rattle.dso_legal.proofs.journal_pass.Tables.{row_changed, lock_turned}

-- a list that is taken out, changed and put back
pub list_changed : (lock : LockName) (f : List ThreadId → List ThreadId) (old mid new : BTreeMap LockName (List ThreadId)) (list : List ThreadId)
    → look lock_order mid ≡ written (writes (is_at (lock_order lock)) (λ _. None)) (look lock_order old) → look lock_order new ≡ written (writes (is_at (lock_order lock)) (λ _. Some list)) (look lock_order mid) → list ≡ f (waiters_in old lock)
    → waiters_in new ≡ (λ l. cond (is_lock l lock) (f (waiters_in old l)) (waiters_in old l))
list_changed lock f old mid new list gone puts e = row_changed lock_order or_empty lock (λ l. is_lock l lock) old mid new list (f (waiters_in old lock)) (λ l. lock_at lock l ∙ lock_turned lock l) gone puts e ∙ fun_ext (λ l. by l (is_lock l lock) refl)
  where
    by : (l : LockName) (b : Bool) → is_lock l lock ≡ b → or_old (cond b (Some (f (waiters_in old lock))) None) (waiters_in old l) ≡ cond b (f (waiters_in old l)) (waiters_in old l)
    by l true h = ap (λ k. f (waiters_in old k)) (same_lock l lock h)
    by l false h = refl

-- a list of those that are still to be looked at, else as it is
abbrev still_or : ℕ → Option (List ThreadId) → List ThreadId → List ThreadId
still_or c None list = list
still_or c (Some before) list = without_client c before

-- the lists while those of a lost client leave one after the other
abbrev pub leaving : ℕ → BTreeMap LockName (List ThreadId) → BTreeMap LockName (List ThreadId) → LockName → List ThreadId
leaving c rest new l = still_or c (look lock_order rest l) (waiters_in new l)

-- one more list is looked at
pub leaves_next : (c : ℕ) (rest rest' new new' : BTreeMap LockName (List ThreadId)) (lock : LockName) (list left : List ThreadId) → Some list ≡ look lock_order rest lock → left ≡ without_client c list
    → look lock_order rest' ≡ written (writes (is_at (lock_order lock)) (λ _. None)) (look lock_order rest) → look lock_order new' ≡ written (writes (is_at (lock_order lock)) (λ _. Some left)) (look lock_order new)
    → leaving c rest' new' ≡ leaving c rest new
leaves_next c rest rest' new new' lock list left found is pops puts = fun_ext (λ l. ap (λ f. still_or c (f l) (waiters_in new' l)) pops
    ∙ (ap (λ f. still_or c (or_old (cond (is_at (lock_order lock) l) (Some None) None) (look lock_order rest l)) (or_empty (f l))) puts ∙ by l (is_at (lock_order lock) l) refl))
  where
    by : (l : LockName) (b : Bool) → is_at (lock_order lock) l ≡ b → still_or c (or_old (cond b (Some None) None) (look lock_order rest l)) (or_empty (or_old (cond b (Some (Some left)) None) (look lock_order new l))) ≡ leaving c rest new l
    by l true h = is ∙ (ap (λ x. still_or c x (waiters_in new l)) found ∙ ap (λ k. still_or c (look lock_order rest k) (waiters_in new l)) (sym (same_lock lock l (sym (lock_at lock l) ∙ h))))
    by l false h = refl

-- at first all are still to be looked at
pub leaves_first : (c : ℕ) (old : BTreeMap LockName (List ThreadId)) (new : BTreeMap LockName (List ThreadId)) → look lock_order new ≡ (λ _. None) → leaving c old new ≡ (λ l. without_client c (waiters_in old l))
leaves_first c old new empty = fun_ext (λ l. ap (λ f. still_or c (look lock_order old l) (or_empty (f l))) empty ∙ by (look lock_order old l))
  where
    by : (o : Option (List ThreadId)) → still_or c o [] ≡ without_client c (or_empty o)
    by None = refl
    by (Some list) = refl

-- at last none is
pub leaves_last : (c : ℕ) (rest new : BTreeMap LockName (List ThreadId)) → look lock_order rest ≡ (λ _. None) → waiters_in new ≡ leaving c rest new
leaves_last c rest new empty = fun_ext (λ l. ap (λ f. still_or c (f l) (waiters_in new l)) (sym empty))

-- nothing is found in an empty table
pub nothing_in : (table : BTreeMap LockName (List ThreadId)) → table.entries ≡ [] → look lock_order table ≡ (λ _. None)
nothing_in table e = λ i key. lookup (is_at (lock_order key)) (e i)

-- the lists after a return
pub heard_return : (c : ℕ) (lock : LockName) (slice threads : List ThreadId) (lost : BTreeMap ℕ Bool) (old new : BTreeMap LockName (List ThreadId)) → slice ≡ threads
    → waiters_in new ≡ (λ l. cond (is_lock l lock) (waiters_in old l ++ slice) (waiters_in old l))
    → let after : ServerState = record { lost = λ d. unwrap_or (look nat_cmp lost d) false; waiters = waiters_in new } in
    let before : ServerState = record { lost = λ d. unwrap_or (look nat_cmp lost d) false; waiters = λ l. waiters_by l (TookUp c (Return lock threads)) (waiters_in old l) } in
    after ≡ before
heard_return c lock slice threads lost old new same e =
    let waiters = e ∙ ap (λ ts. λ l. cond (is_lock l lock) (waiters_in old l ++ ts) (waiters_in old l)) same in
    λ i. record { lost = λ d. unwrap_or (look nat_cmp lost d) false; waiters = waiters i }

-- the lists after a loss
pub heard_loss : (c : ℕ) (lost lost' : BTreeMap ℕ Bool) (old new : BTreeMap LockName (List ThreadId)) → look nat_cmp lost' ≡ written (writes (is_at (nat_cmp c)) (λ _. Some true)) (look nat_cmp lost) → waiters_in new ≡ (λ l. without_client c (waiters_in old l))
    → let after : ServerState = record { lost = λ d. unwrap_or (look nat_cmp lost' d) false; waiters = waiters_in new } in
    let before : ServerState = record { lost = λ d. cond (loses d (Lose c)) true (unwrap_or (look nat_cmp lost d) false); waiters = λ l. waiters_by l (Lose c) (waiters_in old l) } in
    after ≡ before
heard_loss c lost lost' old new puts e =
    let losses = fun_ext (λ d. ap (λ f. unwrap_or (f d) false) puts ∙ (ap (λ b. unwrap_or (or_old (cond b (Some (Some true)) None) (look nat_cmp lost d)) false) (number_at c d) ∙ by d (eqb d c))) in
    λ i. record { lost = losses i; waiters = e i }
  where
    by : (d : ℕ) (b : Bool) → unwrap_or (or_old (cond b (Some (Some true)) None) (look nat_cmp lost d)) false ≡ cond b true (unwrap_or (look nat_cmp lost d) false)
    by d true = refl
    by d false = refl

-- the lists after one more message
pub told_more : (sent : List Sent) (i : ℕ) (x : Sent) (old mid new : LockName → List ThreadId) → i < length sent → x ≡ get_or sent i x → mid ≡ (λ l. by_sent_down (waiters_by_sent l) (take i sent) (old l)) → new ≡ (λ l. one_sent_down (waiters_by_sent l) (mid l) x)
    → new ≡ (λ l. by_sent_down (waiters_by_sent l) (take (i + 1) sent) (old l))
told_more sent i x old mid new less item before step = step ∙ fun_ext (λ l. ap (λ f. one_sent_down (waiters_by_sent l) (f l) x) before ∙ (ap (λ y. one_sent_down (waiters_by_sent l) (by_sent_down (waiters_by_sent l) (take i sent) (old l)) y) item ∙ sym (fold_more (one_sent_down (waiters_by_sent l)) (old l) sent i x less)))

-- the lists after all messages
pub told_all : (sent : List Sent) (i : ℕ) (old new : LockName → List ThreadId) → length sent ≤ i → new ≡ (λ l. by_sent_down (waiters_by_sent l) (take i sent) (old l)) → new ≡ (λ l. by_sent_down (waiters_by_sent l) sent (old l))
told_all sent i old new past h = h ∙ ap (λ xs. λ l. by_sent_down (waiters_by_sent l) xs (old l)) (take_all i sent past)

-- the lists after an entry, whose input comes first and then what it sends
pub entry_heard : (input : Input) (sent : List Sent) (before heard last : ServerState) → is_of_lost input before.lost ≡ false
    → heard ≡ record { lost = λ c. cond (loses c input) true (before.lost c); waiters = λ l. waiters_by l input (before.waiters l) }
    → last.lost ≡ heard.lost → last.waiters ≡ (λ l. by_sent_down (waiters_by_sent l) sent (heard.waiters l)) → last ≡ server_state_after input sent before
entry_heard input sent before heard last is hears same tells =
    let waiters = fun_ext (λ l. ap (λ f. f l) tells ∙ (ap (λ (lists : ServerState). by_sent_down (waiters_by_sent l) sent (lists.waiters l)) hears ∙ sym (ap (λ b. cond b (before.waiters l) (list_after l input sent (before.waiters l))) is))) in
    let losses = same ∙ ap (λ (lists : ServerState). lists.lost) hears in
    λ i. record { lost = losses i; waiters = waiters i }

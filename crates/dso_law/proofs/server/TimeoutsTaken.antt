-- Behind the record of a timeout its thread isn't in the server's list.
use Rattle.std.specs.List.{list_any}
use Rattle.std.proofs.Common.{ℕ, ◌≡◌, refl, sym, ◌∙◌, ap, subst, Bool, true, false, cond, not, ◌||◌, List, [], ◌∷◌, ◌++◌, filter}
use Rattle.std.proofs.lemmas.List.Sums.{fold-append}
use Rattle.dso_base.specs.declared.journal.Entry.{Entry}
use Rattle.dso_base.specs.declared.journal.Sent.{Sent}
use Rattle.dso_base.specs.declared.journal.Sent.TheVariants.{ToServer, ToClient}
use Rattle.dso_base.specs.declared.lock.LockName.{LockName}
use Rattle.dso_base.specs.declared.lock.ThreadId.{ThreadId}
use Rattle.dso_base.specs.declared.message.Down.TheVariants as down
use Rattle.dso_base.specs.declared.record.Choice.{Choice}
use Rattle.dso_base.specs.declared.record.Choice.TheVariants.{Here, There, All}
use Rattle.dso_base.specs.declared.record.Ending.{Ending}
use Rattle.dso_base.specs.declared.record.Ending.TheVariants as ending
use Rattle.dso_base.specs.declared.record.Note.{Note}
use Rattle.dso_base.specs.declared.record.Txn.{Txn}
use Rattle.dso_base.specs.Following.{is_thread}
use Rattle.dso_plain.specs.KeyTests.{is_lock}
use Rattle.dso_plain.proofs.keys.SameKeys.{same_thread, same_lock}
use Rattle.dso_law.specs.Settings.{Settings}
use Rattle.dso_law.specs.Entries.{unsent, one_sent_down, by_sent_down}
use Rattle.dso_law.specs.ClientWaiters.{without}
use Rattle.dso_law.specs.ServerWaiters.{waiters_by, waiters_by_sent, waiters_of, waiters_woken, waiters_left, lists_after, wake_each, wakes, lists_noted, wakes_timed_out}
use Rattle.dso_law.specs.ServerStep.{changes_of}
use Rattle.dso_law.specs.Laws.{TakesRecord}
use Rattle.dso_law.proofs.client.TimedOut.{Absent, lock_self, absent_without}

-- who isn't in a list isn't in a part of it
absent_kept : (t : ThreadId) (keeps : ThreadId → Bool) (list : List ThreadId) → Absent t list → Absent t (filter keeps list)
absent_kept t keeps [] absent = refl
absent_kept t keeps (u ∷ list) absent = by (keeps u) (is_thread t u) refl absent (absent_kept t keeps list)
  where
    by : (kept its : Bool) → is_thread t u ≡ its → (its || list_any (is_thread t) list) ≡ false → (Absent t list → Absent t (filter keeps list)) → Absent t (cond kept (u ∷ filter keeps list) (filter keeps list))
    by kept true e none rest = absurd (cc none)
    by true false e none rest = ap (λ b. b || list_any (is_thread t) (filter keeps list)) e ∙ rest none
    by false false e none rest = rest none

-- nor after one of its threads is woken, of this lock or of another
absent_woken : (t u : ThreadId) (b : Bool) (list : List ThreadId) → Absent t list → Absent t (cond b (without u list) list)
absent_woken t u true list absent = absent_kept t (λ w. not (is_thread u w)) list absent
absent_woken t u false list absent = absent

-- the list of lock l, once these messages are sent
abbrev told : LockName → List Sent → List ThreadId → List ThreadId
told l sent list = by_sent_down (waiters_by_sent l) sent list

-- messages that are sent bring nobody into the list
absent_told : (t : ThreadId) (l : LockName) (sent : List Sent) (list : List ThreadId) → Absent t list → Absent t (told l sent list)
absent_told t l [] list absent = absent
absent_told t l (ToServer m ∷ sent) list absent = absent_told t l sent list absent
absent_told t l (ToClient c (down.Wake k u) ∷ sent) list absent = absent_told t l sent (cond (is_lock l k) (without u list) list) (absent_woken t u (is_lock l k) list absent)
absent_told t l (ToClient c m ∷ sent) list absent = absent_told t l sent list absent

-- messages one behind the other
told_parts : (l : LockName) (first second : List Sent) (list : List ThreadId) → told l (first ++ second) list ≡ told l second (told l first list)
told_parts l first second list = fold-append (one_sent_down (waiters_by_sent l)) list first second

-- who is in the list is in the other one
abbrev IsWithin : ThreadId → List ThreadId → List ThreadId → Type 0
IsWithin t list other = Absent t other → Absent t list

-- a list without a thread is within the other list without its first, where that is the thread
first_out : (t u : ThreadId) (list rest : List ThreadId) → IsWithin t list (u ∷ rest) → IsWithin t (without u list) rest
first_out t u list rest within absent = by (is_thread t u) refl
  where
    by : (its : Bool) → is_thread t u ≡ its → Absent t (without u list)
    by true e = subst (λ w. Absent t (without w list)) (sym (same_thread t u e)) (absent_without t list)
    by false e = absent_kept t (λ w. not (is_thread u w)) list (within (ap (λ b. b || list_any (is_thread t) rest) e ∙ absent))

-- a wake of its own lock takes the thread out
told_wake : (l : LockName) (u : ThreadId) (list : List ThreadId) → told l (wake_each l (u ∷ [])) list ≡ without u list
told_wake l u list = ap (λ b. cond b (without u list) list) (lock_self l)

-- a wake of all of a list leaves nobody within it
all_out : (t : ThreadId) (l : LockName) (woken list : List ThreadId) → IsWithin t list woken → Absent t (told l (wake_each l woken) list)
all_out t l [] list within = within refl
all_out t l (u ∷ woken) list within = subst (λ left. Absent t (told l (wake_each l woken) left)) (sym (told_wake l u list)) (all_out t l woken (without u list) (first_out t u list woken within))

-- whom a choice leaves, and whom the wakes of those it wakes leave
chosen_within : (t : ThreadId) (l : LockName) (choice : Choice) (list other : List ThreadId) → IsWithin t list other → IsWithin t (told l (wake_each l (waiters_woken choice other)) list) (waiters_left choice other)
chosen_within t l There list [] within = within
chosen_within t l There list (u ∷ rest) within = λ absent. subst (Absent t) (sym (told_wake l u list)) (first_out t u list rest within absent)
chosen_within t l All list other within = λ absent. all_out t l other list within
chosen_within t l (Here w) list other within = within

-- the notification of a lock, of this one or of another
noted_within : (t : ThreadId) (l k : LockName) (choice : Choice) (list : List ThreadId) (lists : LockName → List ThreadId) (b : Bool) → is_lock k l ≡ b
    → IsWithin t list (lists l) → IsWithin t (told l (wake_each k (waiters_woken choice (lists k))) list) (cond b (waiters_left choice (lists l)) (lists l))
noted_within t l k choice list lists true e within =
    subst (λ n. IsWithin t (told l (wake_each n (waiters_woken choice (lists n))) list) (waiters_left choice (lists l))) (same_lock k l e) (chosen_within t l choice list (lists l) within)
noted_within t l k choice list lists false e within = λ absent. absent_told t l (wake_each k (waiters_woken choice (lists k))) list (within absent)

-- who is in the list behind the wakes of notifications is in the list that they leave
all_noted_within : (t : ThreadId) (l : LockName) (notes : List Note) (list : List ThreadId) (lists : LockName → List ThreadId) → IsWithin t list (lists l)
    → IsWithin t (told l (wakes notes lists) list) (lists_noted notes lists l)
all_noted_within t l [] list lists within = within
all_noted_within t l (note ∷ notes) list lists within = λ absent.
    let woken = wake_each note.lock (waiters_woken note.choice (lists note.lock)) in
    let after_it = lists_after note.lock note.choice lists in
    let step = noted_within t l note.lock note.choice list lists (is_lock note.lock l) refl within in
    subst (Absent t) (sym (told_parts l woken (wakes notes after_it) list)) (all_noted_within t l notes (told l woken list) after_it step absent)

-- a thread that is left is woken, so it isn't in the list once the wake is sent
out_at_last : (t : ThreadId) (l : LockName) (listed : Bool) (list : List ThreadId) → (listed ≡ false → Absent t list) → Absent t (told l (cond listed (wake_each l (t ∷ [])) []) list)
out_at_last t l true list left = subst (Absent t) (sym (told_wake l t list)) (absent_without t list)
out_at_last t l false list left = left refl

-- so behind all that is sent for the record
out_of : (t : ThreadId) (l : LockName) (told_first : List Sent) (notes : List Note) (list : List ThreadId) (lists : LockName → List ThreadId) → list ≡ lists l
    → Absent t (told l (told_first ++ (wakes notes lists ++ wakes_timed_out t (ending.Timeout l) (lists_noted notes lists))) list)
out_of t l told_first notes list lists is =
    let before = told l told_first list in
    let within : IsWithin t before (lists l) = λ absent. absent_told t l told_first list (subst (Absent t) (sym is) absent) in
    let behind = out_at_last t l (list_any (is_thread t) (lists_noted notes lists l)) (told l (wakes notes lists) before) (all_noted_within t l notes before lists within) in
    let last = wakes_timed_out t (ending.Timeout l) (lists_noted notes lists) in
    subst (Absent t) (sym (told_parts l told_first (wakes notes lists ++ last) list ∙ told_parts l (wakes notes lists) last before)) behind

-- Behind the record of its timeout a thread isn't in the server's list of the lock.
pub out_at_server : (p : Settings) (c : ℕ) (txn : Txn) (l : LockName) (e : Entry) (es : List Entry) → TakesRecord p c txn e es → txn.ending ≡ ending.Timeout l
    → Absent txn.thread (waiters_of l (e ∷ es))
out_at_server p c txn l e es takes ends =
    let list = waiters_by l e.input (waiters_of l es) in
    let lists : LockName → List ThreadId = λ k. waiters_of k (unsent e ∷ es) in
    let first : List Sent = ToClient c (down.Ack txn.seq) ∷ changes_of p c txn (unsent e ∷ es) in
    let out = out_of txn.thread l first txn.notes list lists refl in
    let sends = subst (λ (last : Ending). Absent txn.thread (told l (first ++ (wakes txn.notes lists ++ wakes_timed_out txn.thread last (lists_noted txn.notes lists))) list)) (sym ends) out in
    subst (λ sent. Absent txn.thread (told l sent list)) (sym takes.heard.sends) sends

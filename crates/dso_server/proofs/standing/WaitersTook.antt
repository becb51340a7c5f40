-- The waiters after one more entry.
use Rattle.std.proofs.Common.{ℕ, ◌≡◌, refl, sym, ◌∙◌, ap, subst, Bool, true, false, cond, not, eqb, ◌||◌, List, [], ◌∷◌, ◌++◌, filter}
use Rattle.std.proofs.Math.Path.{fun_ext}
use Rattle.std.proofs.lemmas.List.Sums.{fold-append}
use Rattle.std.specs.BTreeMap.{BTreeMap}
use Rattle.std.specs.List.{AllByRecursion, list_any}
use Rattle.dso_base.specs.declared.journal.Entry.{Entry}
use Rattle.dso_base.specs.declared.journal.Sent.{Sent}
use Rattle.dso_base.specs.declared.lock.LockName.{LockName}
use Rattle.dso_base.specs.declared.lock.ThreadId.{ThreadId}
use Rattle.dso_base.specs.declared.message.Up.{Up}
use Rattle.dso_base.specs.declared.message.Up.TheVariants as up
use Rattle.dso_base.specs.declared.record.Choice.{Choice}
use Rattle.dso_base.specs.declared.record.Choice.TheVariants.{All, Here, There}
use Rattle.dso_base.specs.declared.record.Ending.{Ending}
use Rattle.dso_base.specs.declared.record.Ending.TheVariants as ending
use Rattle.dso_base.specs.declared.record.Note.{Note}
use Rattle.dso_base.specs.declared.record.Txn.{Txn}
use Rattle.dso_base.specs.Following.{is_thread}
use Rattle.dso_law.specs.ClientWaiters.{without}
use Rattle.dso_law.specs.Entries.{by_sent_down, one_sent_down}
use Rattle.dso_law.specs.FitsUp.{AreDistinct}
use Rattle.dso_law.specs.ServerWaiters.{lists_after, lists_noted, waiters_by_message, waiters_by_sent, waiters_left, waiters_of, waiters_woken, wake_each, wakes, wakes_of, wakes_timed_out, without_client}
use Rattle.dso_law.proofs.client.ClientLaws.{lock_either_way}
use Rattle.dso_law.proofs.client.TimedOut.{lock_self}
use Rattle.dso_plain.proofs.keys.SameKeys.{same_lock, thread_self}
use Rattle.dso_plain.specs.KeyTests.{is_lock}
use Rattle.dso_server.proofs.lists.Lists.{any_append}
use Rattle.dso_server.proofs.standing.Quiet.{OffWaiters, waiters_stay}
use Rattle.dso_server.proofs.lists.ThreadTables.{thread_either_way}
use Rattle.dso_server.specs.Sending.{lost, took}
use Rattle.dso_server.specs.ServerStands.{WaitersStand}
use Rattle.dso_server.specs.Waiters.{lists_in, lists_returned, lists_timed_out, lists_without, lists_woken}

-- the list of lock l, once these messages are sent
abbrev told : LockName → List Sent → List ThreadId → List ThreadId
told l sent list = by_sent_down (waiters_by_sent l) sent list

told_parts : (l : LockName) (first second : List Sent) (list : List ThreadId) → told l (first ++ second) list ≡ told l second (told l first list)
told_parts l first second list = fold-append (one_sent_down (waiters_by_sent l)) list first second

-- a list without a thread that isn't in it
without_absent : (t : ThreadId) (list : List ThreadId) → list_any (is_thread t) list ≡ false → without t list ≡ list
without_absent t [] absent = refl
without_absent t (u ∷ list) absent = by (is_thread t u) absent (without_absent t list)
  where
    by : (b : Bool) → (b || list_any (is_thread t) list) ≡ false → (list_any (is_thread t) list ≡ false → without t list ≡ list) → cond (not b) (u ∷ without t list) (without t list) ≡ u ∷ list
    by true absent rest = absurd (cc absent)
    by false absent rest = ap (λ xs. u ∷ xs) (rest absent)

-- a list without its first
without_first : (t : ThreadId) (rest : List ThreadId) → list_any (is_thread t) rest ≡ false → without t (t ∷ rest) ≡ rest
without_first t rest absent = ap (λ b. cond (not b) (t ∷ without t rest) (without t rest)) (thread_self t) ∙ without_absent t rest absent

-- a wake of its own lock takes the thread out
told_wake : (l : LockName) (t : ThreadId) (list : List ThreadId) → told l (wake_each l (t ∷ [])) list ≡ without t list
told_wake l t list = ap (λ b. cond b (without t list) list) (lock_self l)

-- the wakes of a whole list leave nobody in it
all_woken : (l : LockName) (list : List ThreadId) → AreDistinct list → told l (wake_each l list) list ≡ []
all_woken l [] once = refl
all_woken l (t ∷ list) once = ap (told l (wake_each l list)) (told_wake l t (t ∷ list) ∙ without_first t list once.0) ∙ all_woken l list once.1

-- the wakes of another lock
woken_apart : (l k : LockName) (threads list : List ThreadId) → is_lock l k ≡ false → told l (wake_each k threads) list ≡ list
woken_apart l k [] list apart = refl
woken_apart l k (t ∷ threads) list apart = ap (λ b. told l (wake_each k threads) (cond b (without t list) list)) apart ∙ woken_apart l k threads list apart

-- whom a choice leaves
chosen : (l : LockName) (choice : Choice) (list : List ThreadId) → AreDistinct list → told l (wake_each l (waiters_woken choice list)) list ≡ waiters_left choice list
chosen l There [] once = refl
chosen l There (t ∷ list) once = told_wake l t (t ∷ list) ∙ without_first t list once.0
chosen l All list once = all_woken l list once
chosen l (Here t) list once = refl

-- a notification of one lock
noted : (l : LockName) (note : Note) (lists : LockName → List ThreadId) → AreDistinct (lists l) → told l (wake_each note.lock (waiters_woken note.choice (lists note.lock))) (lists l) ≡ lists_after note.lock note.choice lists l
noted l note lists once = by (is_lock note.lock l) refl
  where
    by : (b : Bool) → is_lock note.lock l ≡ b → told l (wake_each note.lock (waiters_woken note.choice (lists note.lock))) (lists l) ≡ cond b (waiters_left note.choice (lists l)) (lists l)
    by true e = subst (λ n. told l (wake_each n (waiters_woken note.choice (lists n))) (lists l) ≡ waiters_left note.choice (lists l)) (same_lock note.lock l e) (chosen l note.choice (lists l) once)
    by false e = woken_apart l note.lock (waiters_woken note.choice (lists note.lock)) (lists l) (lock_either_way l note.lock ∙ e)

-- who isn't in a list isn't in a part of it
absent_kept : (t : ThreadId) (keeps : ThreadId → Bool) (list : List ThreadId) → list_any (is_thread t) list ≡ false → list_any (is_thread t) (filter keeps list) ≡ false
absent_kept t keeps [] absent = refl
absent_kept t keeps (u ∷ list) absent = by (keeps u) (is_thread t u) refl absent (absent_kept t keeps list)
  where
    by : (kept its : Bool) → is_thread t u ≡ its → (its || list_any (is_thread t) list) ≡ false → (list_any (is_thread t) list ≡ false → list_any (is_thread t) (filter keeps list) ≡ false) → list_any (is_thread t) (cond kept (u ∷ filter keeps list) (filter keeps list)) ≡ false
    by kept true e none rest = absurd (cc none)
    by true false e none rest = ap (λ b. b || list_any (is_thread t) (filter keeps list)) e ∙ rest none
    by false false e none rest = rest none

-- a part of a list in which each stands once
distinct_kept : (keeps : ThreadId → Bool) (list : List ThreadId) → AreDistinct list → AreDistinct (filter keeps list)
distinct_kept keeps [] once = tt
distinct_kept keeps (t ∷ list) once = by (keeps t) (distinct_kept keeps list once.1)
  where
    by : (kept : Bool) → AreDistinct (filter keeps list) → AreDistinct (cond kept (t ∷ filter keeps list) (filter keeps list))
    by true rest = (absent_kept t keeps list once.0, rest)
    by false rest = rest

-- what a choice leaves
distinct_left : (choice : Choice) (list : List ThreadId) → AreDistinct list → AreDistinct (waiters_left choice list)
distinct_left There [] once = tt
distinct_left There (t ∷ list) once = once.1
distinct_left All list once = tt
distinct_left (Here t) list once = once

distinct_at : (b : Bool) (new old : List ThreadId) → AreDistinct new → AreDistinct old → AreDistinct (cond b new old)
distinct_at true new old n o = n
distinct_at false new old n o = o

distinct_noted : (notes : List Note) (lists : LockName → List ThreadId) → ((l : LockName) → AreDistinct (lists l)) → (l : LockName) → AreDistinct (lists_noted notes lists l)
distinct_noted [] lists once = once
distinct_noted (note ∷ notes) lists once = distinct_noted notes (lists_after note.lock note.choice lists) (λ l. distinct_at (is_lock note.lock l) (waiters_left note.choice (lists l)) (lists l) (distinct_left note.choice (lists l) (once l)) (once l))

distinct_timed_out : (t : ThreadId) (e : Ending) (lists : LockName → List ThreadId) → ((l : LockName) → AreDistinct (lists l)) → (l : LockName) → AreDistinct (lists_timed_out t e lists l)
distinct_timed_out t (ending.Timeout k) lists once = λ l. distinct_at (is_lock k l) (without t (lists l)) (lists l) (distinct_kept (λ u. not (is_thread t u)) (lists l) (once l)) (once l)
distinct_timed_out t (ending.Exit k) lists once = once
distinct_timed_out t (ending.Wait k) lists once = once
distinct_timed_out t (ending.End fault) lists once = once

-- the wakes of notifications leave what these do
all_noted : (l : LockName) (notes : List Note) (lists : LockName → List ThreadId) → ((k : LockName) → AreDistinct (lists k)) → told l (wakes notes lists) (lists l) ≡ lists_noted notes lists l
all_noted l [] lists once = refl
all_noted l (note ∷ notes) lists once =
    let after_it = lists_after note.lock note.choice lists in
    told_parts l (wake_each note.lock (waiters_woken note.choice (lists note.lock))) (wakes notes after_it) (lists l)
    ∙ (ap (told l (wakes notes after_it)) (noted l note lists (once l))
    ∙ all_noted l notes after_it (λ k. distinct_at (is_lock note.lock k) (waiters_left note.choice (lists k)) (lists k) (distinct_left note.choice (lists k) (once k)) (once k)))

-- and so does the wake of a timeout
timed_out : (l : LockName) (t : ThreadId) (e : Ending) (lists : LockName → List ThreadId) → told l (wakes_timed_out t e lists) (lists l) ≡ lists_timed_out t e lists l
timed_out l t (ending.Exit k) lists = refl
timed_out l t (ending.Wait k) lists = refl
timed_out l t (ending.End fault) lists = refl
timed_out l t (ending.Timeout k) lists = by (list_any (is_thread t) (lists k)) refl
  where
    gone : (b : Bool) → is_lock k l ≡ b → list_any (is_thread t) (lists k) ≡ false → lists l ≡ cond b (without t (lists l)) (lists l)
    gone true e absent = sym (without_absent t (lists l) (ap (λ n. list_any (is_thread t) (lists n)) (same_lock k l e) ∙ absent))
    gone false e absent = refl

    by : (listed : Bool) → list_any (is_thread t) (lists k) ≡ listed → told l (cond listed (wake_each k (t ∷ [])) []) (lists l) ≡ cond (is_lock k l) (without t (lists l)) (lists l)
    by true e = ap (λ b. cond b (without t (lists l)) (lists l)) (lock_either_way l k)
    by false e = gone (is_lock k l) refl e

-- all that a record wakes
all_wakes : (l : LockName) (txn : Txn) (lists : LockName → List ThreadId) → ((k : LockName) → AreDistinct (lists k)) → told l (wakes_of txn lists) (lists l) ≡ lists_woken txn lists l
all_wakes l txn lists once = told_parts l (wakes txn.notes lists) (wakes_timed_out txn.thread txn.ending (lists_noted txn.notes lists)) (lists l)
    ∙ (ap (told l (wakes_timed_out txn.thread txn.ending (lists_noted txn.notes lists))) (all_noted l txn.notes lists once) ∙ timed_out l txn.thread txn.ending (lists_noted txn.notes lists))

-- a message that is nothing to waiters
pub waiters_same : (waiters : BTreeMap LockName (List ThreadId)) (clock c : ℕ) (m : Up) (sent : List Sent) (es : List Entry) → ((l : LockName) (list : List ThreadId) → waiters_by_message l m list ≡ list)
    → AllByRecursion OffWaiters sent → WaitersStand waiters es → WaitersStand waiters (took clock c m sent ∷ es)
waiters_same waiters clock c m sent es heard off s = record {
  lists = s.lists ∙ fun_ext (λ l. sym (waiters_stay l sent (waiters_by_message l m (waiters_of l es)) off ∙ heard l (waiters_of l es)));
  once = s.once;
}

-- a record that wakes some, behind messages that are nothing to waiters
pub waiters_woken_by : (old new : BTreeMap LockName (List ThreadId)) (clock c : ℕ) (txn : Txn) (first sent : List Sent) (es : List Entry) → lists_in new ≡ lists_woken txn (lists_in old)
    → AllByRecursion OffWaiters first → sent ≡ first ++ wakes_of txn (lists_in old) → WaitersStand old es → WaitersStand new (took clock c (up.Commit txn) sent ∷ es)
waiters_woken_by old new clock c txn first sent es put off is s = record {
  lists = put ∙ fun_ext (λ l. sym (one l));
  once = λ l. subst (λ f. AreDistinct (f l)) (sym put) (distinct_timed_out txn.thread txn.ending (lists_noted txn.notes (lists_in old)) (distinct_noted txn.notes (lists_in old) s.once) l);
}
  where
    one : (l : LockName) → told l sent (waiters_of l es) ≡ lists_woken txn (lists_in old) l
    one l = ap (λ xs. told l xs (waiters_of l es)) is ∙ (ap (λ f. told l (first ++ wakes_of txn (lists_in old)) (f l)) (sym s.lists)
        ∙ (told_parts l first (wakes_of txn (lists_in old)) (lists_in old l) ∙ (ap (told l (wakes_of txn (lists_in old))) (waiters_stay l first (lists_in old l) off) ∙ all_wakes l txn (lists_in old) s.once)))

-- a thread that others aren't isn't one of them
none_of : (t : ThreadId) (threads : List ThreadId) → AllByRecursion (λ u. is_thread u t ≡ false) threads → list_any (is_thread t) threads ≡ false
none_of t [] all = refl
none_of t (u ∷ threads) all = ap (λ b. b || list_any (is_thread t) threads) (thread_either_way t u ∙ all.0) ∙ none_of t threads all.1

-- the first isn't any of those that aren't in the list, and these aren't in the rest
apart_first : (t : ThreadId) (list threads : List ThreadId) → AllByRecursion (λ u. list_any (is_thread u) (t ∷ list) ≡ false) threads → AllByRecursion (λ u. is_thread u t ≡ false) threads × AllByRecursion (λ u. list_any (is_thread u) list ≡ false) threads
apart_first t list [] all = (tt, tt)
apart_first t list (u ∷ threads) all =
    let rest = apart_first t list threads all.1 in
    ((left (is_thread u t) (list_any (is_thread u) list) all.0, rest.0), (right (is_thread u t) (list_any (is_thread u) list) all.0, rest.1))
  where
    left : (a b : Bool) → (a || b) ≡ false → a ≡ false
    left true b e = e
    left false b e = refl

    right : (a b : Bool) → (a || b) ≡ false → b ≡ false
    right true b e = absurd (cc e)
    right false b e = e

-- new threads behind a list
distinct_append : (list threads : List ThreadId) → AreDistinct list → AreDistinct threads → AllByRecursion (λ u. list_any (is_thread u) list ≡ false) threads → AreDistinct (list ++ threads)
distinct_append [] threads once new apart = new
distinct_append (t ∷ list) threads once new apart =
    let parts = apart_first t list threads apart in
    (any_append (is_thread t) list threads ∙ (ap (λ b. b || list_any (is_thread t) threads) once.0 ∙ none_of t threads parts.0), distinct_append list threads once.1 new parts.1)

-- a return brings its threads, behind which news of the lock are nothing to waiters
pub waiters_returned : (old new : BTreeMap LockName (List ThreadId)) (clock c : ℕ) (lock : LockName) (threads : List ThreadId) (sent : List Sent) (es : List Entry) → lists_in new ≡ lists_returned lock threads (lists_in old)
    → AllByRecursion OffWaiters sent → AreDistinct threads → AllByRecursion (λ u. list_any (is_thread u) (waiters_of lock es) ≡ false) threads → WaitersStand old es → WaitersStand new (took clock c (up.Return lock threads) sent ∷ es)
waiters_returned old new clock c lock threads sent es put off once apart s = record {
  lists = put ∙ fun_ext (λ l. sym (waiters_stay l sent (cond (is_lock l lock) (waiters_of l es ++ threads) (waiters_of l es)) off ∙ (ap (λ b. cond b (waiters_of l es ++ threads) (waiters_of l es)) (lock_either_way l lock)
      ∙ ap (λ f. cond (is_lock lock l) (f l ++ threads) (f l)) (sym s.lists))));
  once = λ l. subst (λ f. AreDistinct (f l)) (sym put) (by l (is_lock lock l) refl);
}
  where
    by : (l : LockName) (b : Bool) → is_lock lock l ≡ b → AreDistinct (cond b (lists_in old l ++ threads) (lists_in old l))
    by l true e = subst (λ k. AreDistinct (lists_in old k ++ threads)) (sym (same_lock lock l e)) (distinct_append (lists_in old lock) threads (s.once lock) once (subst (λ f. AllByRecursion (λ u. list_any (is_thread u) (f lock) ≡ false) threads) (sym s.lists) apart))
    by l false e = s.once l

-- the threads of a lost client leave, behind which news of locks are nothing to waiters
pub waiters_lost : (old new : BTreeMap LockName (List ThreadId)) (clock c : ℕ) (sent : List Sent) (es : List Entry) → lists_in new ≡ lists_without c (lists_in old) → AllByRecursion OffWaiters sent
    → WaitersStand old es → WaitersStand new (lost clock c sent ∷ es)
waiters_lost old new clock c sent es put off s = record {
  lists = put ∙ (ap (λ f. lists_without c f) s.lists ∙ fun_ext (λ l. sym (waiters_stay l sent (without_client c (waiters_of l es)) off)));
  once = λ l. subst (λ f. AreDistinct (f l)) (sym put) (distinct_kept (λ t. not (eqb t.client c)) (lists_in old l) (s.once l));
}

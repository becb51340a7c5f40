-- What a done timeout leaves at the client of its thread.
use Rattle.std.specs.List.{list_any}
use Rattle.std.proofs.Common.{◌≡◌, sym, ◌∙◌, ap, subst, Bool, true, false, cond, not, ◌&&◌, ◌||◌, refl, List, [], ◌∷◌}
use Rattle.std.proofs.lemmas.Map.Views.{any-filter_same}
use Rattle.dso_base.specs.declared.journal.Entry.{Entry}
use Rattle.dso_base.specs.declared.journal.Sent.{Sent}
use Rattle.dso_base.specs.declared.journal.Sent.TheVariants.{ToServer, ToClient}
use Rattle.dso_base.specs.declared.lock.LockName.{LockName}
use Rattle.dso_base.specs.declared.lock.LockName.TheVariants.{Mon, Name}
use Rattle.dso_base.specs.declared.lock.ThreadId.{ThreadId}
use Rattle.dso_base.specs.declared.message.Up.TheVariants as up
use Rattle.dso_base.specs.Following.{is_thread}
use Rattle.dso_plain.specs.KeyTests.{is_lock}
use Rattle.dso_plain.proofs.keys.SameKeys.{number_self, thread_self}
use Rattle.dso_law.specs.Entries.{by_taken_down, by_sent_up, by_event}
use Rattle.dso_law.specs.ClientWaiters.{without, list_by_taken, list_by_sent, list_by_event, client_list, marked_by_taken, is_listed, marked_by_event, is_marked}
use Rattle.dso_law.specs.Laws.{TimesOut, IsOut}

-- the thread isn't in the list
abbrev pub Absent : ThreadId → List ThreadId → Type 0
Absent t list = list_any (is_thread t) list ≡ false

-- a lock is itself
pub lock_self : (l : LockName) → is_lock l l ≡ true
lock_self (Mon o) = number_self o
lock_self (Name n) = number_self n

-- a thread that is taken out isn't there
pub absent_without : (t : ThreadId) (list : List ThreadId) → Absent t (without t list)
absent_without t list = any-filter_same (is_thread t) (λ u. not (is_thread t u)) false (λ u e. ap not e) list

-- who isn't there isn't there once the list is empty or as it was
absent_or_empty : (t : ThreadId) (b : Bool) (list : List ThreadId) → Absent t list → Absent t (cond b [] list)
absent_or_empty t true list absent = refl
absent_or_empty t false list absent = absent

-- messages that are sent bring nobody into the client's list
absent_sent : (t : ThreadId) (l : LockName) (sent : List Sent) (list : List ThreadId) → Absent t list → Absent t (by_sent_up (list_by_sent l) sent list)
absent_sent t l [] list absent = absent
absent_sent t l (ToServer (up.Return k threads) ∷ sent) list absent = absent_sent t l sent (cond (is_lock l k) [] list) (absent_or_empty t (is_lock l k) list absent)
absent_sent t l (ToServer m ∷ sent) list absent = absent_sent t l sent list absent
absent_sent t l (ToClient c m ∷ sent) list absent = absent_sent t l sent list absent

-- the list as the event finds it
abbrev found : LockName → Entry → List Entry → List ThreadId
found l e es = by_taken_down (list_by_taken l) e.input (client_list l es)

unlisted : (t : ThreadId) (l : LockName) (e : Entry) (es : List Entry) → TimesOut t l e → is_listed t l (e ∷ es) ≡ false
unlisted t l e es out =
    let gone : Absent t (cond (is_lock l l) (without t (found l e es)) (found l e es)) = subst (λ b. Absent t (cond b (without t (found l e es)) (found l e es))) (sym (lock_self l)) (absent_without t (found l e es)) in
    absent_sent t l e.sent (by_event (list_by_event l) e.event (found l e es)) (subst (λ event. Absent t (by_event (list_by_event l) event (found l e es))) (sym out.done) gone)

marked : (t : ThreadId) (l : LockName) (e : Entry) (es : List Entry) → TimesOut t l e → is_listed t l es ≡ true → is_marked t (e ∷ es) ≡ true
marked t l e es out listed =
    let before = by_taken_down (marked_by_taken t) e.input (is_marked t es) in
    ap (λ event. by_event (marked_by_event t es) event before) out.done ∙ (ap (λ b. (b && is_listed t l es) || before) (thread_self t) ∙ ap (λ b. b || before) listed)

-- A thread whose timeout is done is in its client's list no more, and is marked where it stood there.
pub is_out : (t : ThreadId) (l : LockName) (e : Entry) (es : List Entry) → TimesOut t l e → IsOut t l e es
is_out t l e es out = record { unlisted = unlisted t l e es out; marked = marked t l e es out }

-- Who awaits a lock at Write after an entry that doesn't touch it: whoever did before. So its lease is closing, and
-- admits threads, exactly where it did.
use Rattle.std.specs.List.{list_any}
use Rattle.std.proofs.Common.{ℕ, ◌≡◌, refl, sym, ◌∙◌, ap, subst, Bool, true, false, cond, not, eqb, ◌&&◌, ◌||◌, Option, Some, None, List, [], ◌∷◌, flat_map}
use Rattle.std.specs.Prelude.{is_none}
use Rattle.std.proofs.lemmas.Bool.{cond-false, and_left}
use Rattle.dso_base.specs.declared.journal.Entry.{Entry}
use Rattle.dso_base.specs.declared.journal.Input.{Input}
use Rattle.dso_base.specs.declared.journal.Input.TheVariants as input
use Rattle.dso_base.specs.declared.lock.Level.TheVariants.{Read, Write}
use Rattle.dso_base.specs.declared.lock.LockName.{LockName}
use Rattle.dso_base.specs.declared.lock.ThreadId.{ThreadId}
use Rattle.dso_base.specs.declared.message.Down.{Down}
use Rattle.dso_base.specs.declared.message.Down.TheVariants as down
use Rattle.dso_base.specs.declared.request.Event.{Event}
use Rattle.dso_base.specs.declared.request.Event.TheVariants.{Act, Lost}
use Rattle.dso_base.specs.declared.request.Reply.{Reply}
use Rattle.dso_base.specs.declared.request.Reply.TheVariants.{Done}
use Rattle.dso_base.specs.declared.request.Request.{Request}
use Rattle.dso_base.specs.declared.request.Request.TheVariants.{Enter, Wait, Timeout, Resume, Notify, NotifyAll}
use Rattle.dso_base.specs.Following.{is_thread}
use Rattle.dso_plain.specs.KeyTests.{is_lock}
use Rattle.dso_plain.proofs.keys.SameKeys.{same_lock, same_thread}
use Rattle.dso_law.specs.Settings.{Settings, threads_of}
use Rattle.dso_law.specs.Entries.{by_taken_down, by_event}
use Rattle.dso_law.specs.Threads.{hold_of}
use Rattle.dso_law.specs.Leases.{leased, is_entered, is_recalled}
use Rattle.dso_law.specs.ClientWaiters.{client_list, is_woken, marked_by_taken, is_listed, marked_by_act, marked_by_event, is_marked}
use Rattle.dso_law.specs.Closing.{wants_write, is_read, awaits_write, is_closing, admits}
use Rattle.dso_law.proofs.runs.OwnRequests.{same_any}
use Rattle.dso_open_law.specs.TouchedThreads.{Topic, OfLock, is_topic, awaited, acts, closed_topics, down_topics, input_topics, woken_topics, done_topics, event_topics}
use Rattle.dso_open_law.specs.OthersMayAct.{OnlyActorsGoOn}
use Rattle.dso_open_law.proofs.readings.Untouched.{IsSpared, spared_one, spared_parts, Spares, act_spares}
use Rattle.dso_open_law.proofs.readings.Locks.{lease_stays, entered_stays, recall_stays}
use Rattle.dso_open_law.proofs.readings.Holds.{held_stays}

module _ (l : LockName) where
  -- who awaits another lock doesn't want this one, marked or not
  pub unwanted : (marked : Bool) (request : Option Request) → IsSpared (OfLock l) (awaited request) → wants_write l marked request ≡ false
  unwanted marked None none = refl
  unwanted marked (Some (Enter k Read)) none = refl
  unwanted marked (Some (Enter k Write)) none = spared_one (OfLock l) (OfLock k) none
  unwanted marked (Some (Resume k)) none = and_left (is_lock l k) marked (spared_one (OfLock l) (OfLock k) none)
  unwanted marked (Some request) none = refl

  -- a mark that is set makes no difference to who awaits another lock
  with_mark : (request : Option Request) (mark b : Bool) → (mark ≡ true → IsSpared (OfLock l) (awaited request)) → wants_write l (mark || b) request ≡ wants_write l b request
  with_mark request true b elsewhere = unwanted true request (elsewhere refl) ∙ sym (unwanted b request (elsewhere refl))
  with_mark request false b elsewhere = refl

-- what is touched by none of a list's threads isn't by one of them
spared_by_all : (topic : Topic) (f : ThreadId → List Topic) (t : ThreadId) (threads : List ThreadId) → IsSpared topic (flat_map f threads) → list_any (is_thread t) threads ≡ true → IsSpared topic (f t)
spared_by_all topic f t [] none there = absurd (cc there)
spared_by_all topic f t (u ∷ threads) none there =
    let h = spared_parts topic (f u) (flat_map f threads) none in
    by (is_thread t u) refl h.0 (spared_by_all topic f t threads h.1) there
  where
    by : (b : Bool) → is_thread t u ≡ b → IsSpared topic (f u) → (list_any (is_thread t) threads ≡ true → IsSpared topic (f t)) → (b || list_any (is_thread t) threads) ≡ true → IsSpared topic (f t)
    by true is first later there = subst (λ n. IsSpared topic (f n)) (same_thread t u is) first
    by false is first later there = later there

module _ (before after : ThreadId → Option Request) (es : List Entry) (l : LockName) (t : ThreadId) where
  -- whether the thread wants the lock with its request after the entry, marked or not
  abbrev wish : Bool → Bool
  wish b = wants_write l b (after t)

  mark_of : (u : ThreadId) (b : Bool) → IsSpared (OfLock l) (awaited (after u)) → wish (is_thread t u || b) ≡ wish b
  mark_of u b none = with_mark l (after t) (is_thread t u) b (λ is. subst (λ n. IsSpared (OfLock l) (awaited (after n))) (same_thread t u is) none)

  mark_taken : (m : Down) (b : Bool) → IsSpared (OfLock l) (down_topics before after es m) → wish (marked_by_taken t m b) ≡ wish b
  mark_taken (down.Wake k u) b none = mark_of u b none
  mark_taken m b none = refl

  mark_input : (i : Input) (b : Bool) → IsSpared (OfLock l) (input_topics before after es i) → wish (by_taken_down (marked_by_taken t) i b) ≡ wish b
  mark_input (input.TookDown m) b none = mark_taken m b none
  mark_input i b none = refl

  mark_woken : (woken : Option ThreadId) (b : Bool) → IsSpared (OfLock l) (woken_topics before after es woken) → wish (is_woken t woken || b) ≡ wish b
  mark_woken None b none = refl
  mark_woken (Some u) b none = mark_of u b none

  -- an act of another thread
  mark_acted : (u : ThreadId) (request : Request) (reply : Reply) (woken : Option ThreadId) (b : Bool) → is_thread t u ≡ false → IsSpared (OfLock l) (done_topics before after es u request reply woken)
      → wish (marked_by_act t es u request reply woken b) ≡ wish b
  mark_acted u (Wait k) Done woken b other none = ap wish (cond-false (is_thread t u) false b other)
  mark_acted u (Timeout k) Done woken b other none = ap (λ mark. wish (mark || b)) (and_left (is_thread t u) (is_listed t k es) other)
  mark_acted u (Notify k) Done woken b other none = mark_woken woken b none
  mark_acted u (NotifyAll k) Done woken b other none = with_mark l (after t) (is_listed t k es) b (spared_by_all (OfLock l) (λ n. awaited (after n)) t (client_list k es) none)
  mark_acted u request reply woken b other none = refl

  mark_event : (event : Option Event) (b : Bool) → acts t event ≡ false → IsSpared (OfLock l) (event_topics before after es event) → wish (by_event (marked_by_event t es) event b) ≡ wish b
  mark_event None b other none = refl
  mark_event (Some (Act u request reply woken)) b other none = mark_acted u request reply woken b other (act_spares before after es (OfLock l) u request reply woken none).does
  mark_event (Some (Lost client)) b other none = refl

  -- A thread that doesn't act wants the lock with its request where it wanted it: it is marked only where it awaits
  -- another lock, or none.
  pub wish_stays : (e : Entry) → Spares before after es (OfLock l) e → acts t e.event ≡ false → wish (is_marked t (e ∷ es)) ≡ wish (is_marked t es)
  wish_stays e spares other = mark_event e.event (by_taken_down (marked_by_taken t) e.input (is_marked t es)) other spares.done ∙ mark_input e.input (is_marked t es) spares.taken

  -- a lock that isn't closed is another, where the lease is of level Read
  another : is_read (leased l es) ≡ true → (k : LockName) (b : Bool) → is_lock l k ≡ b → IsSpared (OfLock l) (cond (is_read (leased k es)) (OfLock k ∷ []) []) → is_lock l k ≡ false
  another read k false other none = other
  another read k true same none = spared_one (OfLock l) (OfLock k)
      (ap (λ x. list_any (is_topic (OfLock l)) (cond x (OfLock k ∷ []) [])) (sym (ap (λ n. is_read (leased n es)) (same_lock l k same) ∙ read)) ∙ none)

  -- who closes another lease, or none, doesn't want this lock
  unclosed : is_read (leased l es) ≡ true → (marked : Bool) (request : Option Request) → IsSpared (OfLock l) (closed_topics before after es request) → wants_write l marked request ≡ false
  unclosed read marked None none = refl
  unclosed read marked (Some (Enter k Read)) none = refl
  unclosed read marked (Some (Enter k Write)) none = another read k (is_lock l k) refl none
  unclosed read marked (Some (Resume k)) none = and_left (is_lock l k) marked (another read k (is_lock l k) refl none)
  unclosed read marked (Some request) none = refl

  -- A thread that acts wants another lock before and after, or none, where the lease is of level Read.
  pub actor_unwanted : is_read (leased l es) ≡ true → (event : Option Event) (was is : Bool) → acts t event ≡ true → IsSpared (OfLock l) (event_topics before after es event)
      → (wants_write l is (after t) ≡ false) × (wants_write l was (before t) ≡ false)
  actor_unwanted read None was is its none = absurd (cc its)
  actor_unwanted read (Some (Lost client)) was is its none = absurd (cc its)
  actor_unwanted read (Some (Act u request reply woken)) was is its none =
      let spares = act_spares before after es (OfLock l) u request reply woken none in
      let same : u ≡ t = same_thread t u its in (
        unclosed read is (after t) (subst (λ n. IsSpared (OfLock l) (closed_topics before after es (after n))) same spares.closed_after),
        unclosed read was (before t) (subst (λ n. IsSpared (OfLock l) (closed_topics before after es (before n))) same spares.closed_before),
      )

module _ (p : Settings) (c : ℕ) (before after : ThreadId → Option Request) (es : List Entry) (l : LockName) (e : Entry)
    (goes : OnlyActorsGoOn c before after e) (spares : Spares before after es (OfLock l) e) where
  -- where the lease is of level Read
  module _ (read : is_read (leased l es) ≡ true) where
    wants_stays : (t : ThreadId) → eqb t.client c ≡ true → wants_write l (is_marked t (e ∷ es)) (after t) ≡ wants_write l (is_marked t es) (before t)
    wants_stays t own = by (acts t e.event) refl
      where
        by : (b : Bool) → acts t e.event ≡ b → wants_write l (is_marked t (e ∷ es)) (after t) ≡ wants_write l (is_marked t es) (before t)
        by true its =
            let h = actor_unwanted before after es l t read e.event (is_marked t es) (is_marked t (e ∷ es)) its spares.done in
            h.0 ∙ sym h.1
        by false other = wish_stays before after es l t e spares other ∙ ap (wants_write l (is_marked t es)) (goes t own other)

    awaits_stays : (t : ThreadId) → eqb t.client c ≡ true → awaits_write p c after l (e ∷ es) t ≡ awaits_write p c before l es t
    awaits_stays t own = ap (λ none. none && wants_write l (is_marked t (e ∷ es)) (after t)) (held_stays before after es l e spares t)
        ∙ ap (λ wants. is_none (hold_of t l es) && wants) (wants_stays t own)

  pub closing_stays : is_closing p c after l (e ∷ es) ≡ is_closing p c before l es
  closing_stays = ap (λ recalled. recalled || (is_read (leased l (e ∷ es)) && list_any (awaits_write p c after l (e ∷ es)) (threads_of p c))) (recall_stays before after es l e spares)
      ∙ ap (λ lease. is_recalled l es || (is_read lease && list_any (awaits_write p c after l (e ∷ es)) (threads_of p c))) (lease_stays before after es l e spares)
      ∙ by (is_read (leased l es)) refl
    where
      by : (b : Bool) → is_read (leased l es) ≡ b → (is_recalled l es || (b && list_any (awaits_write p c after l (e ∷ es)) (threads_of p c))) ≡ (is_recalled l es || (b && list_any (awaits_write p c before l es) (threads_of p c)))
      by true read = ap (λ wanted. is_recalled l es || wanted) (same_any c (awaits_write p c after l (e ∷ es)) (awaits_write p c before l es) (awaits_stays read) p.threads)
      by false other = refl

  pub admits_stays : admits p c after l (e ∷ es) ≡ admits p c before l es
  admits_stays = ap (λ closing. not closing || not (is_entered l (e ∷ es))) closing_stays ∙ ap (λ entered. not (is_closing p c before l es) || not entered) (entered_stays before after es l e spares)

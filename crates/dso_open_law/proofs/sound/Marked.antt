-- Where a client's waiters are known, a thread that an entry marks awaits no other lock than that at which it is marked; so
-- what few topics leave out isn't touched.
use Rattle.std.specs.List.{list_any}
use Rattle.std.proofs.Common.{ℕ, ◌≡◌, inl, inr, refl, sym, ◌∙◌, ap, subst, Bool, true, false, eqb, ◌||◌, Option, Some, None, List, [], ◌∷◌, ◌++◌, flat_map}
use Rattle.std.proofs.lemmas.Bool.{or_from}
use Rattle.dso_base.specs.declared.journal.Entry.{Entry}
use Rattle.dso_base.specs.declared.journal.Input.{Input}
use Rattle.dso_base.specs.declared.journal.Input.TheVariants as input
use Rattle.dso_base.specs.declared.lock.Level.TheVariants.{Write}
use Rattle.dso_base.specs.declared.lock.LockName.{LockName}
use Rattle.dso_base.specs.declared.lock.ThreadId.{ThreadId}
use Rattle.dso_base.specs.declared.message.Down.TheVariants as down
use Rattle.dso_base.specs.declared.request.Event.TheVariants.{Act}
use Rattle.dso_base.specs.declared.request.Reply.{Reply}
use Rattle.dso_base.specs.declared.request.Reply.TheVariants.{Done}
use Rattle.dso_base.specs.declared.request.Request.{Request}
use Rattle.dso_base.specs.declared.request.Request.TheVariants.{Enter, Resume, Notify, NotifyAll}
use Rattle.dso_base.specs.Following.{is_thread}
use Rattle.dso_plain.proofs.keys.SameKeys.{number_self, same_lock, same_thread, thread_self}
use Rattle.dso_law.specs.Settings.{Settings}
use Rattle.dso_law.specs.Threads.{locks_of}
use Rattle.dso_law.specs.ClientWaiters.{client_list}
use Rattle.dso_law.specs.FitsDown.{IsWaitingOn, FitsWake}
use Rattle.dso_law.specs.Replies.{first_of_list, woken_by}
use Rattle.dso_law.specs.ClientStep.{ClientStep, ClientStepOn}
use Rattle.dso_legal.specs.SoundProgram.{IsOfWaiter, KeepsLocks}
use Rattle.dso_legal.proofs.blocks.OwnActs.{next_act}
use Rattle.dso_legal.proofs.waiting.ActedView.{waits_on_one}
use Rattle.dso_open_law.specs.TouchedThreads.{Topic, OfLock, is_topic, awaited, acts, made_topics, sent_topics, closed_topics, input_topics, woken_topics, done_topics, event_topics, touched_topics}
use Rattle.dso_open_law.specs.FewTouched.{few_taken, few_done, few_acted, few_topics, WaitersAreKnown}
use Rattle.dso_open_law.specs.OthersMayAct.{OnlyActorsGoOn}
use Rattle.dso_open_law.proofs.readings.Untouched.{IsSpared, spared_parts, spared_one}
use Rattle.dso_open_law.proofs.little.Returning.{both_spared}

-- a request awaits no other lock at Write
abbrev pub AwaitsAtMost : LockName → Option Request → Type 0
AwaitsAtMost l request = (about : Topic) → is_topic about (OfLock l) ≡ false → IsSpared about (awaited request)

-- where none of a list's threads touches a topic, the list doesn't
none_touches : (about : Topic) (f : ThreadId → List Topic) (threads : List ThreadId) → ((t : ThreadId) → list_any (is_thread t) threads ≡ true → IsSpared about (f t)) → IsSpared about (flat_map f threads)
none_touches about f [] none = refl
none_touches about f (t ∷ threads) none = both_spared about (f t) (flat_map f threads) (none t (ap (λ b. b || list_any (is_thread t) threads) (thread_self t)))
    (none_touches about f threads (λ u there. none u (behind (is_thread u t) (list_any (is_thread u) threads) there)))
  where
    behind : (a b : Bool) → b ≡ true → (a || b) ≡ true
    behind true b is = refl
    behind false b is = is

-- the first of a list is in it
first_listed : (threads : List ThreadId) (t : ThreadId) → first_of_list threads ≡ Some t → list_any (is_thread t) threads ≡ true
first_listed [] t is = absurd (cc is)
first_listed (u ∷ threads) t is =
    let same : u ≡ t = cc is in
    ap (λ b. b || list_any (is_thread t) threads) (subst (λ x. is_thread t x ≡ true) (sym same) (thread_self t))

module _ (p : Settings) (c : ℕ) (before after : ThreadId → Option Request) (e : Entry) (own : List Entry) (goes_on : OnlyActorsGoOn c before after e) (step : ClientStep p c before after e own)
    (known : WaitersAreKnown c before own) where
  -- a thread that waits on a lock asks for no other
  waiter_awaits : (t : ThreadId) (l : LockName) → t.client ≡ c → IsWaitingOn l (locks_of t own).waiting → AwaitsAtMost l (before t)
  waiter_awaits t l its waits = by (before t) refl
    where
      asks : (request : Request) → IsOfWaiter request × KeepsLocks request (locks_of t own) → AwaitsAtMost l (Some request)
      asks (Enter k Write) h = absurd h.0
      asks (Resume k) h = λ about other.
          let same : k ≡ l = same_lock l k (waits_on_one l k (locks_of t own).waiting waits h.1) in
          or_from (is_topic about (OfLock k)) false (subst (λ x. is_topic about (OfLock x) ≡ false) (sym same) other) refl
      asks request h = λ about other. refl

      by : (request : Option Request) → before t ≡ request → AwaitsAtMost l request
      by None asked = λ about other. refl
      by (Some request) asked = asks request (known.asks t l request its waits asked)

  -- nor after the entry, where it doesn't act
  still_awaits : (t : ThreadId) (l : LockName) → t.client ≡ c → IsWaitingOn l (locks_of t own).waiting → acts t e.event ≡ false → AwaitsAtMost l (after t)
  still_awaits t l its waits other = subst (AwaitsAtMost l) (sym (goes_on t (subst (λ n. eqb n c ≡ true) (sym its) (number_self c)) other)) (waiter_awaits t l its waits)

  module _ (about : Topic) where
    -- where a thread acts that doesn't wait, who is listed awaits at most the lock
    module _ (a : ThreadId) (request : Request) (reply : Reply) (woken : Option ThreadId) (is_event : e.event ≡ Some (Act a request reply woken)) (asked : before a ≡ Some request) (goes : IsOfWaiter request → ⊥) where
      listed_spared : (l : LockName) (t : ThreadId) → is_topic about (OfLock l) ≡ false → list_any (is_thread t) (client_list l own) ≡ true → IsSpared about (awaited (after t))
      listed_spared l t other listed = by (is_thread t a) refl
        where
          by : (b : Bool) → is_thread t a ≡ b → IsSpared about (awaited (after t))
          by true same =
              let h = known.listed t l listed in
              absurd (goes (known.asks t l request h.0 h.1 (ap before (sym (same_thread t a same)) ∙ asked)).0)
          by false others = let h = known.listed t l listed in still_awaits t l h.0 h.1 (ap (acts t) is_event ∙ others) about other

      woken_spared : (l : LockName) (who : Option ThreadId) → who ≡ first_of_list (client_list l own) → IsSpared about (few_done before after own a (Notify l) Done who) → IsSpared about (woken_topics before after own who)
      woken_spared l None first none = refl
      woken_spared l (Some t) first none = listed_spared l t (spared_one about (OfLock l) none) (first_listed (client_list l own) t (sym first))

      all_spared : (l : LockName) → IsSpared about (OfLock l ∷ []) → IsSpared about (flat_map (λ t. awaited (after t)) (client_list l own))
      all_spared l none = none_touches about (λ t. awaited (after t)) (client_list l own) (λ t listed. listed_spared l t (spared_one about (OfLock l) none) listed)

    done_spared : (a : ThreadId) (request : Request) (reply : Reply) (woken : Option ThreadId) → e.event ≡ Some (Act a request reply woken) → before a ≡ Some request
        → woken ≡ woken_by request reply own → IsSpared about (few_done before after own a request reply woken) → IsSpared about (done_topics before after own a request reply woken)
    done_spared a (Notify l) Done woken is_event asked first none = woken_spared a (Notify l) Done woken is_event asked (λ waits. waits) l woken first none
    done_spared a (NotifyAll l) Done woken is_event asked first none = all_spared a (NotifyAll l) Done woken is_event asked (λ waits. waits) l none
    done_spared a request reply woken is_event asked first none = none

    -- by the entry's act
    act_spared : (a : ThreadId) (request : Request) (reply : Reply) → e.event ≡ Some (Act a request reply (woken_by request reply own)) → before a ≡ Some request
        → IsSpared about (few_acted before after own (Some (Act a request reply (woken_by request reply own)))) → IsSpared about (event_topics before after own (Some (Act a request reply (woken_by request reply own))))
    act_spared a request reply is_event asked none =
        let woken : Option ThreadId = woken_by request reply own in
        let closed : Option Request → List Topic = closed_topics before after own in
        let all = spared_parts about (made_topics own reply ++ few_done before after own a request reply woken ++ closed (before a)) (closed (after a)) none in
        let but_last = spared_parts about (made_topics own reply ++ few_done before after own a request reply woken) (closed (before a)) all.0 in
        let first = spared_parts about (made_topics own reply) (few_done before after own a request reply woken) but_last.0 in
        both_spared about (made_topics own reply ++ done_topics before after own a request reply woken ++ closed (before a)) (closed (after a))
        (both_spared about (made_topics own reply ++ done_topics before after own a request reply woken) (closed (before a))
        (both_spared about (made_topics own reply) (done_topics before after own a request reply woken) first.0 (done_spared a request reply woken is_event asked refl first.1)) but_last.1)
        all.1

    event_spared : IsSpared about (few_acted before after own e.event) → IsSpared about (event_topics before after own e.event)
    event_spared none = elim (next_act p c before after e own step) [
      | inl no_event ↦ ap (λ event. list_any (is_topic about) (event_topics before after own event)) no_event
      | inr it ↦ ap (λ event. list_any (is_topic about) (event_topics before after own event)) it.event
          ∙ act_spared it.thread it.request it.reply it.event it.asked (ap (λ event. list_any (is_topic about) (few_acted before after own event)) (sym it.event) ∙ none)
    ]

    -- by what it takes in
    taken_spared : (i : Input) → ClientStepOn p c i before after e own → IsSpared about (few_taken before after own i) → IsSpared about (input_topics before after own i)
    taken_spared (input.TookDown (down.Wake l t)) taken none =
        let fits : FitsWake c l t own = taken.fits in
        still_awaits t l fits.its fits.waits (ap (acts t) taken.event) about (spared_one about (OfLock l) none)
    taken_spared i taken none = none

    -- What few topics leave out isn't touched.
    pub few_are_all : IsSpared about (few_topics before after own e) → IsSpared about (touched_topics before after own e)
    few_are_all none =
        let all = spared_parts about (few_taken before after own e.input ++ few_acted before after own e.event) (flat_map sent_topics e.sent) none in
        let mine = spared_parts about (few_taken before after own e.input) (few_acted before after own e.event) all.0 in
        both_spared about (input_topics before after own e.input ++ event_topics before after own e.event) (flat_map sent_topics e.sent)
        (both_spared about (input_topics before after own e.input) (event_topics before after own e.event) (taken_spared e.input step mine.0) (event_spared mine.1)) all.1

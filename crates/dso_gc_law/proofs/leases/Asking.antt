-- A thread that wants a lock which its client asked for makes no act until the grant is taken; and a lock is asked
-- for only where a thread wants it.
use Rattle.std.specs.List.{list_any}
use Rattle.std.proofs.Common.{ℕ, ◌≡◌, ◌⊎◌, inl, inr, refl, sym, ap, subst, ◌∙◌, Bool, true, false, cond, not, eqb}
use Rattle.std.proofs.Common.{◌&&◌, ◌||◌, is_some}
use Rattle.std.proofs.Common.{Option, Some, None, List, [], ◌∷◌, ◌++◌, map}
use Rattle.std.proofs.lemmas.List.Folds.{list_any-append}
use Rattle.dso_base.specs.declared.journal.Entry.{Entry}
use Rattle.dso_base.specs.declared.journal.Input.{Input}
use Rattle.dso_base.specs.declared.journal.Input.TheVariants as input
use Rattle.dso_base.specs.declared.journal.Sent.TheVariants.{ToServer}
use Rattle.dso_base.specs.declared.lock.Level.{Level}
use Rattle.dso_base.specs.declared.lock.Level.TheVariants.{Write}
use Rattle.dso_base.specs.declared.lock.LockName.{LockName}
use Rattle.dso_base.specs.declared.lock.ThreadId.{ThreadId}
use Rattle.dso_base.specs.declared.message.Down.TheVariants as down
use Rattle.dso_base.specs.declared.message.Up.{Up}
use Rattle.dso_base.specs.declared.message.Up.TheVariants as up
use Rattle.dso_base.specs.declared.record.Ending.{Ending}
use Rattle.dso_base.specs.declared.request.Event.{Event}
use Rattle.dso_base.specs.declared.request.Event.TheVariants.{Act}
use Rattle.dso_base.specs.declared.request.Request.{Request}
use Rattle.dso_base.specs.declared.request.Request.TheVariants.{New, Look, Get, Put, Enter, Resume, Settle}
use Rattle.dso_base.specs.Following.{is_thread}
use Rattle.dso_plain.specs.KeyTests.{is_lock}
use Rattle.dso_plain.specs.State.{Hold}
use Rattle.dso_plain.proofs.keys.SameKeys.{same_lock, same_thread}
use Rattle.dso_lookup.proofs.Tests.{right_holds}
use Rattle.dso_law.specs.declared.readings.LockStanding.{LockStanding}
use Rattle.dso_law.specs.Settings.{Settings, threads_of}
use Rattle.dso_law.specs.Entries.{unsent, by_sent_up, by_taken_down}
use Rattle.dso_law.specs.Threads.{own, is_local, hold_of, locks_of, ending_of, last_seen}
use Rattle.dso_law.specs.Copies.{is_resident, class_held, is_object_asked}
use Rattle.dso_law.specs.Records.{next_id, is_batch_asked, is_settled}
use Rattle.dso_law.specs.ClientWaiters.{is_marked, client_list}
use Rattle.dso_law.specs.Leases.{standing_up, standing_down, standing, leased, is_asked_for}
use Rattle.dso_law.specs.Closing.{is_closing, admits, due}
use Rattle.dso_law.specs.RequestNeeds.{Need, NeedsId, NeedsObject, NeedsClass, NeedsMark, NeedsLease, NeedsOthersOut}
use Rattle.dso_law.specs.RequestNeeds.{NeedsAck}
use Rattle.dso_law.specs.RequestNeeds.{is_enough, is_in_conflict, is_seen_class, unless, unless_asked, first_unmet}
use Rattle.dso_law.specs.RequestNeeds.{entry_need, unmet, ask_for}
use Rattle.dso_law.specs.Replies.{woken_by}
use Rattle.dso_law.specs.ClientStep.{record_of, commits, returns, asks_again, Does, Asks, DoesOrAsks, ActsOn}
use Rattle.dso_law.specs.ClientStep.{ClientStepOn}
use Rattle.dso_legal.proofs.fitting.NamesInHand.{either_so}
use Rattle.dso_law.proofs.runs.Others.{IsOthers, same_hold, same_local}

-- The thread wants the lock at its client: its next request is to enter it, where it neither is local to the thread
-- nor held by it, or to go on at it.
abbrev pub Wants : Settings → LockName → ThreadId → Option Request → List Entry → Type 0
Wants p l t (Some (Enter k level)) es = (is_lock l k ≡ true)
    × ((is_local p.shape t l es ≡ false) × (hold_of t l es ≡ None))
Wants p l t (Some (Resume k)) es = is_lock l k ≡ true
Wants p l t request es = ⊥

-- ---- who wants what is asked for makes no act

module _ (p : Settings) (c : ℕ) (before later : ThreadId → Option Request) (e : Entry) (es : List Entry)
    (t : ThreadId) (l : LockName)
    (asked : is_asked_for l es ≡ true) (unleased : leased l es ≡ None) where
  -- where there is no lease, an entry needs one
  needs_lease : (level : Level) → entry_need p c before t l level es ≡ Some (NeedsLease l level)
  needs_lease level = ap
      (λ lease. first_unmet (unless (is_enough level lease && admits p c before l es) (NeedsLease l level))
      (unless (not (list_any (is_in_conflict p c before t l level es) (threads_of p c))) (NeedsOthersOut l))) unleased

  -- and it isn't asked for again
  not_again : (request : Request) (level : Level) (need : Option Need) → need ≡ Some (NeedsLease l level)
      → DoesOrAsks p c t request need before later e es → ⊥
  not_again request level need is h =
      let asks = subst (λ need. DoesOrAsks p c t request need before later e es) is h in
      let none : unless_asked (is_some (leased l es) || is_asked_for l es) (up.Request l level) ≡ None =
      ap (λ b. unless_asked b (up.Request l level)) (right_holds (is_some (leased l es)) (is_asked_for l es) asked) in
      cc (sym none ∙ asks.asked)

  -- nor is a mark
  no_mark : (request : Request) (marked : Bool)
      → DoesOrAsks p c t request (first_unmet (unless marked (NeedsMark l)) (entry_need p c before t l Write es))
      before later e es → ⊥
  no_mark request true h = not_again request Write (entry_need p c before t l Write es) (needs_lease Write) h
  no_mark request false h = cc h.asked

  -- so the thread makes no act, whichever request it is
  stuck_by : (request : Option Request) → Wants p l t request es → ActsOn p c t request before later e es → ⊥
  stuck_by None wants h = h
  stuck_by (Some (Enter k level)) wants h =
      let same : k ≡ l = same_lock l k wants.0 in
      let needs : unmet p c before t (Enter l level) es ≡ Some (NeedsLease l level) =
      ap (λ b. cond (b || is_some (hold_of t l es)) None (entry_need p c before t l level es)) wants.1.0
      ∙ ap (λ (hold : Option Hold). cond (is_some hold) None (entry_need p c before t l level es)) wants.1.1
      ∙ needs_lease level in
      not_again (Enter k level) level (unmet p c before t (Enter k level) es)
      (ap (λ k. unmet p c before t (Enter k level) es) same ∙ needs) h
  stuck_by (Some (Resume k)) wants h =
      let same : k ≡ l = same_lock l k wants in
      no_mark (Resume k) (is_marked t es)
      (subst (λ n. DoesOrAsks p c t (Resume k) (unmet p c before t (Resume n) es) before later e es) same h)
  stuck_by (Some request) wants h = wants

-- so it wants the lock still where another thread has the event, or nobody
pub still_wanted : (p : Settings) (l : LockName) (t : ThreadId) (request : Option Request) (e : Entry)
    (es : List Entry) → IsOthers t e.event
    → Wants p l t request es → Wants p l t request (e ∷ es)
still_wanted p l t None e es others wants = wants
still_wanted p l t (Some (Enter k level)) e es others wants =
    (wants.0, (same_local t e es others p.shape l ∙ wants.1.0, same_hold t e es others l ∙ wants.1.1))
still_wanted p l t (Some (Resume k)) e es others wants = wants
still_wanted p l t (Some request) e es others wants = wants

-- ---- what an entry asks for anew

-- the message asks for the lock
abbrev pub asks_lock : LockName → Up → Bool
asks_lock l (up.Request k level) = is_lock l k
asks_lock l m = false

module _ (l : LockName) where
  -- a message to the server makes the lock asked for where it asks for it, and else leaves that
  pub asked_said : (m : Up) (s : LockStanding) → (standing_up l m s).is_asked ≡ (asks_lock l m || s.is_asked)
  asked_said (up.Request k level) s = by (is_lock l k)
    where
      by : (b : Bool) → (cond b (record s { is_asked = true }) s).is_asked ≡ (b || s.is_asked)
      by true = refl
      by false = refl
  asked_said (up.Return k threads) s = by (is_lock l k)
    where
      by : (b : Bool) → (cond b (record s { lease = None }) s).is_asked ≡ s.is_asked
      by true = refl
      by false = refl
  asked_said m s = refl

  -- three tests, in another order
  swapped : (a b d : Bool) → (a || (b || d)) ≡ ((b || a) || d)
  swapped true true d = refl
  swapped true false d = refl
  swapped false true d = refl
  swapped false false d = refl

  -- what messages to the server make of whether the lock is asked for
  asked_sent : (ms : List Up) (s : LockStanding) → (by_sent_up (standing_up l) (map ToServer ms) s).is_asked ≡
      (list_any (asks_lock l) ms || s.is_asked)
  asked_sent [] s = refl
  asked_sent (m ∷ ms) s = asked_sent ms (standing_up l m s) ∙ ap (λ b. list_any (asks_lock l) ms || b) (asked_said m s)
      ∙ swapped (list_any (asks_lock l) ms) (asks_lock l m) s.is_asked

  -- what was taken doesn't ask for it
  pub asked_taken : (i : Input) (s : LockStanding) → (by_taken_down (standing_down l) i s).is_asked ≡ true
      → s.is_asked ≡ true
  asked_taken (input.TookDown (down.Grant k level)) s is = by (is_lock l k) is
    where
      by : (b : Bool) → (cond b (record { lease = Some level; is_asked = false }) s).is_asked ≡ true
          → s.is_asked ≡ true
      by true is = absurd (cc is)
      by false is = is
  asked_taken (input.TookDown m) s is = is
  asked_taken i s is = is

  -- ---- which messages ask for it

  -- a return asks for no lock
  none_given : (list : LockName → List ThreadId) (locks : List LockName)
      → list_any (asks_lock l) (map (λ k. up.Return k (list k)) locks) ≡ false
  none_given list [] = refl
  none_given list (k ∷ locks) = none_given list locks

  -- nor does a record
  none_recorded : (p : Settings) (t : ThreadId) (event : Event) (ending : Option Ending) (es : List Entry)
      → list_any (asks_lock l) (record_of p t event ending es) ≡ false
  none_recorded p t event None es = refl
  none_recorded p t event (Some ending) es = refl

  -- the need is of a lease of the lock
  pub record NeedsIt (need : Option Need) : Type 0 where
    pub name : LockName
    pub level : Level
    pub is : need ≡ Some (NeedsLease name level)
    pub same : is_lock l name ≡ true

  -- what is asked is the message
  unless_is : (b : Bool) (x m : Up) → unless_asked b x ≡ Some m → x ≡ m
  unless_is true x m is = absurd (cc is)
  unless_is false x m is = cc is

  -- a message of another kind asks for no lock
  other_ask : {P : Type 0} (b : Bool) (x m : Up) → asks_lock l x ≡ false → unless_asked b x ≡ Some m
      → asks_lock l m ≡ true → P
  other_ask b x m none asked is = absurd (cc (sym none ∙ ap (asks_lock l) (unless_is b x m asked) ∙ is))

  -- what is asked for a need asks for the lock only where the need is of a lease of it
  lease_needed : (need : Need) (es : List Entry) (m : Up) → ask_for need es ≡ Some m → asks_lock l m ≡ true
      → NeedsIt (Some need)
  lease_needed NeedsId es m asked is = other_ask (is_batch_asked es) up.IdAsk m refl asked is
  lease_needed (NeedsObject o) es m asked is = other_ask (is_object_asked o es) (up.Fault o) m refl asked is
  lease_needed (NeedsLease k level) es m asked is = record {
    name = k;
    level = level;
    is = refl;
    same = ap (asks_lock l) (unless_is (is_some (leased k es) || is_asked_for k es) (up.Request k level) m asked) ∙ is;
  }
  lease_needed (NeedsClass o) es m asked is = absurd (cc asked)
  lease_needed (NeedsMark k) es m asked is = absurd (cc asked)
  lease_needed (NeedsOthersOut k) es m asked is = absurd (cc asked)
  lease_needed NeedsAck es m asked is = absurd (cc asked)

-- ---- the request whose need it is

-- a need that is of no lease
not_lease : {P : Type 0} (b : Bool) (need : Need) (k : LockName) (level : Level) → (need ≡ NeedsLease k level → ⊥)
    → unless b need ≡ Some (NeedsLease k level) → P
not_lease true need k level other is = absurd (cc is)
not_lease false need k level other is =
    let same : need ≡ NeedsLease k level = cc is in
    absurd (other same)

-- of two needs neither of which is of the lease
neither_lease : {P : Type 0} (first second : Option Need) (k : LockName) (level : Level)
    → (first ≡ Some (NeedsLease k level) → P) → (second ≡ Some (NeedsLease k level) → P)
    → first_unmet first second ≡ Some (NeedsLease k level) → P
neither_lease None second k level one other is = other is
neither_lease (Some need) second k level one other is = one is

-- an entry's need is of its own lock
entry_lock : (l k : LockName) (wanted level : Level) (a b : Bool) → first_unmet (unless a (NeedsLease l wanted))
    (unless b (NeedsOthersOut l)) ≡ Some (NeedsLease k level) → l ≡ k
entry_lock l k wanted level true b is = not_lease b (NeedsOthersOut l) k level (λ e. cc e) is
entry_lock l k wanted level false b is = cc is

module _ (p : Settings) (c : ℕ) (before : ThreadId → Option Request) (t : ThreadId) (es : List Entry) (l k : LockName)
    (level : Level) (same : is_lock l k ≡ true) where
  -- the lease that the request needs
  abbrev NeedsThis : Request → Type 0
  NeedsThis request = unmet p c before t request es ≡ Some (NeedsLease k level)

  -- the need of an object, and that of its class, is of no lease
  object_needed : {P : Type 0} (o : ℕ) → unless (is_some (own p.shape t o es) || is_resident o es)
      (NeedsObject o) ≡ Some (NeedsLease k level) → P
  object_needed o is = not_lease (is_some (own p.shape t o es) || is_resident o es) (NeedsObject o) k level
      (λ e. cc e) is

  class_needed : {P : Type 0} (o : ℕ)
      → first_unmet (unless (is_some (own p.shape t o es) || is_resident o es) (NeedsObject o))
      (unless (is_some (own p.shape t o es) || (eqb o 0 || is_seen_class (class_held o es) (last_seen t es)))
      (NeedsClass o)) ≡ Some (NeedsLease k level) → P
  class_needed o is = neither_lease (unless (is_some (own p.shape t o es) || is_resident o es) (NeedsObject o))
      (unless (is_some (own p.shape t o es) || (eqb o 0 || is_seen_class (class_held o es) (last_seen t es)))
      (NeedsClass o)) k level (object_needed o)
      (not_lease (is_some (own p.shape t o es) || (eqb o 0 || is_seen_class (class_held o es) (last_seen t es)))
      (NeedsClass o) k level (λ e. cc e)) is

  -- a hold that isn't there
  no_hold : (hold : Option Hold) → is_some hold ≡ false → hold ≡ None
  no_hold None is = refl
  no_hold (Some hold) is = absurd (cc is)

  -- an entry into the lock, which is neither local nor held
  enter_needed : (j : LockName) (wanted : Level) (a b : Bool) → is_local p.shape t j es ≡ a
      → is_some (hold_of t j es) ≡ b
      → cond (a || b) None (entry_need p c before t j wanted es) ≡ Some (NeedsLease k level)
      → Wants p l t (Some (Enter j wanted)) es
  enter_needed j wanted true b local held is = absurd (cc is)
  enter_needed j wanted false true local held is = absurd (cc is)
  enter_needed j wanted false false local held is =
      let there : j ≡ k = entry_lock j k wanted level (is_enough wanted (leased j es) && admits p c before j es)
      (not (list_any (is_in_conflict p c before t j wanted es) (threads_of p c))) is in
      let one : j ≡ l = there ∙ same_lock l k same in (
        ap (is_lock l) there ∙ same,
        (
          ap (λ n. is_local p.shape t n es) (sym one) ∙ local,
          ap (λ n. hold_of t n es) (sym one)
              ∙ no_hold (hold_of t j es) held,
        ),
      )

  -- a request whose need is of a lease of the lock wants the lock
  pub wants_needed : (request : Request) → NeedsThis request → Wants p l t (Some request) es
  wants_needed (New class n) is = not_lease (is_some (next_id es)) NeedsId k level (λ e. cc e) is
  wants_needed (Look o) is = object_needed o is
  wants_needed (Get o f) is = class_needed o is
  wants_needed (Put o f v) is = class_needed o is
  wants_needed (Enter j wanted) is = enter_needed j wanted (is_local p.shape t j es)
      (is_some (hold_of t j es)) refl refl is
  wants_needed (Resume j) is = by (is_marked t es) is
    where
      by : (marked : Bool) → first_unmet (unless marked (NeedsMark j)) (entry_need p c before t j Write es) ≡ Some
          (NeedsLease k level) → is_lock l j ≡ true
      by true is = ap (is_lock l)
          (entry_lock j k Write level (is_enough Write (leased j es) && admits p c before j es)
          (not (list_any (is_in_conflict p c before t j Write es) (threads_of p c))) is) ∙ same
      by false is = absurd (cc is)
  wants_needed Settle is = not_lease (is_settled t es) NeedsAck k level (λ e. cc e) is
  wants_needed request is = absurd (cc is)

-- ---- an entry that asks anew

-- the thread is one of the client's
pub record IsItsThread (p : Settings) (c : ℕ) (t : ThreadId) : Type 0 where
  pub client : t.client ≡ c
  pub listed : list_any (is_thread t) p.threads ≡ true

module _ (p : Settings) (c : ℕ) (before later : ThreadId → Option Request) (e : Entry) (es : List Entry)
    (l : LockName) where
  -- the entry asks for the need of a thread, which wants the lock, and has no event
  pub record AsksForNeed : Type 0 where
    pub thread : ThreadId
    pub its : IsItsThread p c thread
    pub wants : Wants p l thread (before thread) es
    pub quiet : e.event ≡ None

  -- a thread next enters the lock, whose lease the entry returns
  pub record AsksAgain : Type 0 where
    pub thread : ThreadId
    pub its : IsItsThread p c thread
    pub name : LockName
    pub enters : later thread ≡ Some (Enter name Write)
    pub same : is_lock l name ≡ true
    pub due : list_any (is_lock l) (due p c later (unsent e ∷ es)) ≡ true

  -- the lock was asked for before the entry, or the entry asks for it
  abbrev pub IsAsked : Type 0
  IsAsked = (is_asked_for l es ≡ true) ⊎ (AsksForNeed ⊎ AsksAgain)

  -- by what is sent
  by_messages : (ms : List Up) → e.sent ≡ map ToServer ms → (list_any (asks_lock l) ms ≡ true → IsAsked)
      → is_asked_for l (e ∷ es) ≡ true → IsAsked
  by_messages ms sent new is = either_so (list_any (asks_lock l) ms) (standing l (unsent e ∷ es)).is_asked new
      (λ before. inl (asked_taken l e.input (standing l es) before))
      (sym (asked_sent l ms (standing l (unsent e ∷ es)))
      ∙ sym (ap (λ out. (by_sent_up (standing_up l) out (standing l (unsent e ∷ es))).is_asked) sent) ∙ is)

  -- the leases that it gives back, which ask for nothing
  abbrev back : List Up
  back = returns p c later (unsent e ∷ es)

  none_back : list_any (asks_lock l) back ≡ false
  none_back = none_given l (λ k. client_list k (unsent e ∷ es)) (due p c later (unsent e ∷ es))

  -- none of the first two parts asks for it
  in_third : (a b d : List Up) → list_any (asks_lock l) a ≡ false → list_any (asks_lock l) b ≡ false
      → list_any (asks_lock l) (a ++ b ++ d) ≡ list_any (asks_lock l) d
  in_third a b d none_a none_b = list_any-append (asks_lock l) (a ++ b) d
      ∙ ap (λ t. t || list_any (asks_lock l) d) (list_any-append (asks_lock l) a b
      ∙ ap (λ t. t || list_any (asks_lock l) b) none_a ∙ none_b)

  module _ (t : ThreadId) (its : IsItsThread p c t) where
    -- a lock that is given back and asked for again
    again_if : (k : LockName) (closing there : Bool) → list_any (is_lock k) (due p c later (unsent e ∷ es)) ≡ there
        → later t ≡ Some (Enter k Write)
        → list_any (asks_lock l) (cond (closing && there) (up.Request k Write ∷ []) []) ≡ true → AsksAgain
    again_if k true true there next is =
        let same : is_lock l k ≡ true = either_so (is_lock l k) false (λ is. is) (λ never. absurd (cc never)) is in
        record {
          thread = t;
          its = its;
          name = k;
          enters = next;
          same = same;
          due = ap (λ n. list_any (is_lock n) (due p c later (unsent e ∷ es))) (sym (same_lock l k same)) ∙ there;
        }
    again_if k true false there next is = absurd (cc is)
    again_if k false there b next is = absurd (cc is)

    -- what is asked for again
    again_asked : (request : Option Request) → later t ≡ request
        → list_any (asks_lock l) (asks_again p c before later request (unsent e ∷ es) es) ≡ true → AsksAgain
    again_asked (Some (Enter k Write)) next is = again_if k (not (is_closing p c before k es))
        (list_any (is_lock k) (due p c later (unsent e ∷ es))) refl next is
    again_asked request next is = absurd (cc is)

    -- an act that is done asks again only
    does_ask : (request : Request) → Does p c t request before later e es → is_asked_for l (e ∷ es) ≡ true → IsAsked
    does_ask request does =
        let event : Event = Act t request does.reply (woken_by request does.reply es) in
        let again : List Up = asks_again p c before later (later t) (unsent e ∷ es) es in
        by_messages (commits p t event es ++ back ++ again) does.sends (λ is. inr (inr (again_asked (later t) refl
        (sym (in_third (commits p t event es) back again
        (none_recorded l p t event (ending_of event (locks_of t es)) es) none_back) ∙ is))))

    -- one that isn't asks for its need
    asks_ask : (request : Request) (need : Need) → before t ≡ Some request → unmet p c before t request es ≡ Some need
        → Asks p c need later e es → is_asked_for l (e ∷ es) ≡ true → IsAsked
    asks_ask request need next is asks = by_messages (back ++ asks.message ∷ []) asks.sends (λ said.
        let mine : asks_lock l asks.message ≡ true = either_so (asks_lock l asks.message) false (λ is. is)
        (λ never. absurd (cc never)) (sym (in_third [] back (asks.message ∷ []) refl none_back) ∙ said) in
        let it : NeedsIt l (Some need) = lease_needed l need es asks.message asks.asked mine in
        inr (inl (record {
          thread = t;
          its = its;
          wants = subst (λ r. Wants p l t r es) (sym next)
              (wants_needed p c before t es l it.name it.level it.same request (is ∙ it.is));
          quiet = asks.event;
        })))

    -- by the need
    by_need : (request : Request) (need : Option Need) → before t ≡ Some request
        → unmet p c before t request es ≡ need → DoesOrAsks p c t request need before later e es
        → is_asked_for l (e ∷ es) ≡ true → IsAsked
    by_need request None next is h = does_ask request h
    by_need request (Some need) next is h = asks_ask request need next is h

    -- by the thread's request
    acts_ask : (request : Option Request) → before t ≡ request → ActsOn p c t request before later e es
        → is_asked_for l (e ∷ es) ≡ true → IsAsked
    acts_ask None next h = absurd h
    acts_ask (Some request) next h = by_need request (unmet p c before t request es) next refl h

  -- by what the entry takes in
  step_asks : (i : Input) → ClientStepOn p c i before later e es → is_asked_for l (e ∷ es) ≡ true
      → IsAsked
  step_asks (input.Act index) step = acts_ask (record { client = c; index = index })
      (record { client = refl; listed = step.its })
      (before (record { client = c; index = index })) refl step.acts
  step_asks (input.TookDown m) step = by_messages back step.sends (λ is. absurd (cc (sym none_back ∙ is)))
  step_asks (input.Flush o) step = by_messages (up.Flushed o ∷ []) step.sends (λ never. absurd (cc never))
  step_asks (input.Rejoin d) step = by_messages [] step.sends (λ never. absurd (cc never))
  step_asks other step = absurd step

  -- a lock that is asked for after an entry was so before it, or the entry asks for it
  pub what_is_asked : ClientStepOn p c e.input before later e es → is_asked_for l (e ∷ es) ≡ true → IsAsked
  what_is_asked step = step_asks e.input step

  -- ---- who acts

  -- who wants a lock that is asked for and not leased has no event
  pub others_event : (t : ThreadId) → t.client ≡ c → is_asked_for l es ≡ true → leased l es ≡ None
      → Wants p l t (before t) es → (i : Input) → ClientStepOn p c i before later e es → IsOthers t e.event
  others_event t its asked none wants (input.Act index) step = by (is_thread t actor) refl
    where
      actor : ThreadId
      actor = record { client = c; index = index }

      acted : is_thread t actor ≡ false → (request : Option Request) → ActsOn p c actor request before later e es
          → IsOthers t e.event
      acted other None h = absurd h
      acted other (Some request) h = by_need (unmet p c before actor request es) h
        where
          by_need : (need : Option Need) → DoesOrAsks p c actor request need before later e es → IsOthers t e.event
          by_need None does = subst (IsOthers t) (sym does.event) other
          by_need (Some need) asks = subst (IsOthers t) (sym asks.event) tt

      by : (b : Bool) → is_thread t actor ≡ b → IsOthers t e.event
      by true same = absurd (stuck_by p c before later e es actor l asked none (before actor)
          (subst (λ u. Wants p l u (before u) es) (sym (same_thread t actor same)) wants) step.acts)
      by false other = acted other (before actor) step.acts
  others_event t its asked none wants (input.TookDown m) step = subst (IsOthers t) (sym step.event) tt
  others_event t its asked none wants (input.Flush o) step = subst (IsOthers t) (sym step.event) tt
  others_event t its asked none wants (input.Rejoin d) step = subst (IsOthers t) (sym step.event) tt
  others_event t its asked none wants i step = absurd step

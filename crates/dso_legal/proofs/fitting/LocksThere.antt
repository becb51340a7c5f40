-- Each lock that a client asks for is there, as its request comes.
use Rattle.std.specs.List.{list_any, AllByRecursion}
use Rattle.std.proofs.Common.{ℕ, ◌≡◌, ◌⊎◌, inl, inr, refl, sym, ◌∙◌, ap, subst, Bool, true, false, cond, not, eqb, ◌&&◌, ◌||◌, is_some, Option, Some, None, List, [], ◌∷◌, ◌++◌, map, drop}
use Rattle.dso_base.specs.declared.journal.Entry.{Entry}
use Rattle.dso_base.specs.declared.journal.Input.{Input}
use Rattle.dso_base.specs.declared.journal.Input.TheVariants as input
use Rattle.dso_base.specs.declared.journal.Node.{Node}
use Rattle.dso_base.specs.declared.journal.Node.TheVariants.{Server, Client}
use Rattle.dso_base.specs.declared.lock.Level.{Level}
use Rattle.dso_base.specs.declared.lock.Level.TheVariants.{Write}
use Rattle.dso_base.specs.declared.lock.LockName.{LockName}
use Rattle.dso_base.specs.declared.lock.LockName.TheVariants.{Mon, Name}
use Rattle.dso_base.specs.declared.lock.ThreadId.{ThreadId}
use Rattle.dso_base.specs.declared.message.Up.{Up}
use Rattle.dso_base.specs.declared.message.Up.TheVariants as up
use Rattle.dso_base.specs.declared.record.Ending.{Ending}
use Rattle.dso_base.specs.declared.request.Event.{Event}
use Rattle.dso_base.specs.declared.request.Event.TheVariants.{Act}
use Rattle.dso_base.specs.declared.request.Request.{Request}
use Rattle.dso_base.specs.declared.request.Request.TheVariants.{New, Look, Get, Put, Enter, Resume, Settle}
use Rattle.dso_base.specs.declared.value.ClassId.{ClassId}
use Rattle.dso_plain.specs.KeyTests.{is_lock}
use Rattle.dso_plain.proofs.keys.SameKeys.{same_number}
use Rattle.dso_law.specs.Settings.{Settings, threads_of}
use Rattle.dso_law.specs.Entries.{entries_of, by_event, unsent}
use Rattle.dso_law.specs.Channels.{up_in_flight, takes_up}
use Rattle.dso_law.specs.ClientStep.{record_of, commits, returns, asks_again, DoesOrAsks, ActsOn, ClientStepOn}
use Rattle.dso_law.specs.ClientWaiters.{client_list, is_marked}
use Rattle.dso_law.specs.Closing.{is_closing, admits, due}
use Rattle.dso_law.specs.Copies.{is_object_asked, is_resident, class_held}
use Rattle.dso_law.specs.FitsUp.{IsLock}
use Rattle.dso_law.specs.FitsDown.{IsWaitingOn}
use Rattle.dso_law.specs.Leases.{leased, is_asked_for}
use Rattle.dso_law.specs.Records.{next_id, is_batch_asked, is_settled}
use Rattle.dso_law.specs.Replies.{woken_by}
use Rattle.dso_law.specs.RequestNeeds.{Need, NeedsId, NeedsObject, NeedsClass, NeedsMark, NeedsLease, NeedsOthersOut, NeedsAck, is_enough, unless, first_unmet, is_seen_class, is_in_conflict, unmet, ask_for}
use Rattle.dso_law.specs.ServerReadings.{counted, batches_given}
use Rattle.dso_law.specs.Threads.{Waiting, last_seen, own, is_local, locks_of, hold_of, ending_of, locks_after}
use Rattle.dso_legal.specs.Agreement.{messages}
use Rattle.dso_legal.specs.ClassesKept.{class_made}
use Rattle.dso_legal.specs.Lawful.{next_after, ClientFollows, NodeFollows, AllFollow}
use Rattle.dso_legal.specs.LocksThere.{LocksAreThere}
use Rattle.dso_legal.specs.SoundProgram.{AsksSoundly, GivesKnownTexts}
use Rattle.dso_legal.specs.WithinShape.{StaysWithinShape}
use Rattle.dso_legal.proofs.blocks.OwnActs.{IsNextAct, next_act}
use Rattle.dso_legal.proofs.channels.AfterEntry.{OwnTurn, ServerTurn, own_turn, other_turn, server_turn}
use Rattle.dso_legal.proofs.channels.InFlight.{said_of, said_all}
use Rattle.dso_legal.proofs.leases.ClientLeases.{ask_is}
use Rattle.dso_legal.proofs.ids.GivenOnce.{in_turn}
use Rattle.dso_legal.proofs.ids.MadeOnce.{made_once}
use Rattle.dso_legal.proofs.fitting.InHand.{each_of_two, each_so}
use Rattle.dso_legal.proofs.fitting.ClassesMade.{class_known, given_from_one}
use Rattle.dso_legal.proofs.fitting.Carried.{first_of, rest_of}
use Rattle.dso_legal.proofs.fitting.ValuesFit.{given_out}
use Rattle.dso_legal.proofs.fitting.LocksMade.{WaitIs, LocksAre, locks_more, LockMade, lock_still, entered_made, resumed_waits, act_locks}

-- a need that is no lease's is none of a lease
not_lease : (b : Bool) (need : Need) (k : LockName) (level : Level) → (need ≡ NeedsLease k level → ⊥) → unless b need ≡ Some (NeedsLease k level) → ⊥
not_lease true need k level other is = cc is
not_lease false need k level other is =
    let same : need ≡ NeedsLease k level = cc is in
    other same

neither_lease : (first second : Option Need) (k : LockName) (level : Level) → (first ≡ Some (NeedsLease k level) → ⊥) → (second ≡ Some (NeedsLease k level) → ⊥) → first_unmet first second ≡ Some (NeedsLease k level) → ⊥
neither_lease None second k level one other is = other is
neither_lease (Some need) second k level one other is = one is

-- the lock of an entry's need is the one that is entered
entry_lock : (l k : LockName) (wanted level : Level) (a b : Bool) → first_unmet (unless a (NeedsLease l wanted)) (unless b (NeedsOthersOut l)) ≡ Some (NeedsLease k level) → l ≡ k
entry_lock l k wanted level true b is = absurd (not_lease b (NeedsOthersOut l) k level (λ e. cc e) is)
entry_lock l k wanted level false b is = cc is

-- the thread enters the lock, or goes on at it
abbrev IsAbout : LockName → Request → Type 0
IsAbout k (Enter l level) = l ≡ k
IsAbout k (Resume l) = l ≡ k
IsAbout k request = ⊥

module _ (p : Settings) (c : ℕ) (before : ThreadId → Option Request) (t : ThreadId) (own_entries : List Entry) where
  about : (request : Request) (k : LockName) (level : Level) → unmet p c before t request own_entries ≡ Some (NeedsLease k level) → IsAbout k request
  about (New class n) k level is = not_lease (is_some (next_id own_entries)) NeedsId k level (λ e. cc e) is
  about (Look o) k level is = not_lease (is_some (own p.shape t o own_entries) || is_resident o own_entries) (NeedsObject o) k level (λ e. cc e) is
  about (Get o f) k level is = neither_lease (unless (is_some (own p.shape t o own_entries) || is_resident o own_entries) (NeedsObject o)) _ k level
      (not_lease (is_some (own p.shape t o own_entries) || is_resident o own_entries) (NeedsObject o) k level (λ e. cc e))
      (not_lease (is_some (own p.shape t o own_entries) || (eqb o 0 || is_seen_class (class_held o own_entries) (last_seen t own_entries))) (NeedsClass o) k level (λ e. cc e)) is
  about (Put o f v) k level is = neither_lease (unless (is_some (own p.shape t o own_entries) || is_resident o own_entries) (NeedsObject o)) _ k level
      (not_lease (is_some (own p.shape t o own_entries) || is_resident o own_entries) (NeedsObject o) k level (λ e. cc e))
      (not_lease (is_some (own p.shape t o own_entries) || (eqb o 0 || is_seen_class (class_held o own_entries) (last_seen t own_entries))) (NeedsClass o) k level (λ e. cc e)) is
  about (Enter l wanted) k level is = by (is_local p.shape t l own_entries || is_some (hold_of t l own_entries)) is
    where
      a : Bool
      a = is_enough wanted (leased l own_entries) && admits p c before l own_entries

      b : Bool
      b = not (list_any (is_in_conflict p c before t l wanted own_entries) (threads_of p c))

      by : (inside : Bool) → cond inside None (first_unmet (unless a (NeedsLease l wanted)) (unless b (NeedsOthersOut l))) ≡ Some (NeedsLease k level) → l ≡ k
      by true is = absurd (cc is)
      by false is = entry_lock l k wanted level a b is
  about (Resume l) k level is = by (is_marked t own_entries) is
    where
      a : Bool
      a = is_enough Write (leased l own_entries) && admits p c before l own_entries

      b : Bool
      b = not (list_any (is_in_conflict p c before t l Write own_entries) (threads_of p c))

      by : (marked : Bool) → first_unmet (unless marked (NeedsMark l)) (first_unmet (unless a (NeedsLease l Write)) (unless b (NeedsOthersOut l))) ≡ Some (NeedsLease k level) → l ≡ k
      by true is = entry_lock l k Write level a b is
      by false is = absurd (cc is)
  about Settle k level is = not_lease (is_settled t own_entries) NeedsAck k level (λ e. cc e) is
  about request k level is = cc is

module _ (p : Settings) (next : ThreadId → List Event → Option Request) (sound : AsksSoundly p.shape next) (known : GivesKnownTexts p.shape next) (within : StaysWithinShape p.shape next) where
  -- a request is of a lock that is there
  abbrev RequestMade : List Entry → Up → Type 0
  RequestMade now (up.Request l level) = LockMade p next now l
  RequestMade now m = Unit {0}

  -- the locks of a client's threads are there, and those of its requests in flight
  record ClientLocks (now own_entries : List Entry) (ups : List Up) : Type 0 where
    locks : (t : ThreadId) → LocksAre (LockMade p next now) (locks_of t own_entries)
    asked : AllByRecursion (RequestMade now) ups

  module _ (e : Entry) (es : List Entry) (follow : AllFollow p next (e ∷ es)) where
    abbrev now : List Entry
    now = e ∷ es

    request_still : (m : Up) → RequestMade es m → RequestMade now m
    request_still (up.Request l level) h = lock_still p next e es follow l h
    request_still m h = tt

    still : (own_entries : List Entry) (ups : List Up) → ClientLocks es own_entries ups → ClientLocks now own_entries ups
    still own_entries ups h = record {
      locks = λ t. locks_more (LockMade p next es) (LockMade p next now) (lock_still p next e es follow) (locks_of t own_entries) (h.locks t);
      asked = each_so (RequestMade es) (RequestMade now) request_still ups h.asked;
    }

    module _ (c : ℕ) (have : ClientLocks now (entries_of (Client c) es) (messages (up_in_flight c es))) where
      abbrev mine : List Entry
      mine = entries_of (Client c) es

      returns_made : (list : LockName → List ThreadId) (locks : List LockName) → AllByRecursion (RequestMade now) (map (λ k. up.Return k (list k)) locks)
      returns_made list [] = tt
      returns_made list (l ∷ locks) = (tt, returns_made list locks)

      given : AllByRecursion (RequestMade now) (returns p c (next_after next now) (unsent e ∷ mine))
      given = returns_made (λ k. client_list k (unsent e ∷ mine)) (due p c (next_after next now) (unsent e ∷ mine))

      record_made : (t : ThreadId) (event : Event) (ending : Option Ending) → AllByRecursion (RequestMade now) (record_of p t event ending mine)
      record_made t event None = tt
      record_made t event (Some ending) = (tt, tt)

      again_made : (t : ThreadId) (request : Option Request) → next_after next now t ≡ request → AllByRecursion (RequestMade now) (asks_again p c (next_after next es) (next_after next now) request (unsent e ∷ mine) mine)
      again_made t (Some (Enter l Write)) is = by (not (is_closing p c (next_after next es) l mine) && list_any (is_lock l) (due p c (next_after next now) (unsent e ∷ mine)))
        where
          by : (b : Bool) → AllByRecursion (RequestMade now) (cond b (up.Request l Write ∷ []) [])
          by true = (entered_made p next sound known within now follow t l Write is, tt)
          by false = tt
      again_made t request is = tt

      -- the lock that is waited on
      waited_made : (l : LockName) (waiting : Option Waiting) → IsWaitingOn l waiting → ((w : Waiting) → waiting ≡ Some w → LockMade p next now w.lock) → LockMade p next now l
      waited_made l None is made = absurd is
      waited_made l (Some waiting) is made = subst (LockMade p next now) is (made waiting refl)

      about_made : (t : ThreadId) → t.client ≡ c → (request : Request) (k : LockName) → next_after next es t ≡ Some request → IsAbout k request → LockMade p next now k
      about_made t its (Enter l level) k asked is = subst (LockMade p next now) is (lock_still p next e es follow l (entered_made p next sound known within es follow.0 t l level asked))
      about_made t its (Resume l) k asked is = subst (LockMade p next now) is (waited_made l (locks_of t mine).waiting
          (subst (λ d. IsWaitingOn l (locks_of t (entries_of (Client d) es)).waiting) its (resumed_waits p next sound known within es follow.0 t l asked)) (λ w there. one w (locks_of t mine).waiting (have.locks t).waiting there))
        where
          one : (w : Waiting) (waiting : Option Waiting) → WaitIs (LockMade p next now) waiting → waiting ≡ Some w → LockMade p next now w.lock
          one w None h is = absurd (cc is)
          one w (Some x) h is =
              let same : x ≡ w = cc is in
              subst (λ (y : Waiting). LockMade p next now y.lock) same h
      about_made t its request k asked is = absurd is

      need_made : (t : ThreadId) → t.client ≡ c → (request : Request) → next_after next es t ≡ Some request → (need : Need) → unmet p c (next_after next es) t request mine ≡ Some need → (m : Up) → ask_for need mine ≡ Some m → RequestMade now m
      need_made t its request asked NeedsId is m ask = subst (RequestMade now) (sym (ask_is (is_batch_asked mine) up.IdAsk m ask).0) tt
      need_made t its request asked (NeedsObject o) is m ask = subst (RequestMade now) (sym (ask_is (is_object_asked o mine) (up.Fault o) m ask).0) tt
      need_made t its request asked (NeedsLease k level) is m ask = subst (RequestMade now) (sym (ask_is (is_some (leased k mine) || is_asked_for k mine) (up.Request k level) m ask).0)
          (about_made t its request k asked (about p c (next_after next es) t mine request k level is))
      need_made t its request asked (NeedsClass o) is m ask = absurd (cc ask)
      need_made t its request asked (NeedsMark k) is m ask = absurd (cc ask)
      need_made t its request asked (NeedsOthersOut k) is m ask = absurd (cc ask)
      need_made t its request asked NeedsAck is m ask = absurd (cc ask)

      does_or_asks : (t : ThreadId) → t.client ≡ c → (request : Request) → next_after next es t ≡ Some request → (need : Option Need) → unmet p c (next_after next es) t request mine ≡ need
          → DoesOrAsks p c t request need (next_after next es) (next_after next now) e mine → AllByRecursion (RequestMade now) (said_of e.sent)
      does_or_asks t its request asked None is does =
          let event : Event = Act t request does.reply (woken_by request does.reply mine) in
          let again : List Up = asks_again p c (next_after next es) (next_after next now) (next_after next now t) (unsent e ∷ mine) mine in
          let back : List Up = returns p c (next_after next now) (unsent e ∷ mine) in
          subst (AllByRecursion (RequestMade now)) (sym (ap said_of does.sends ∙ said_all ((commits p t event mine ++ back) ++ again)))
          (each_of_two (RequestMade now) (commits p t event mine ++ back) again
          (each_of_two (RequestMade now) (commits p t event mine) back (record_made t event (ending_of event (locks_of t mine))) given) (again_made t (next_after next now t) refl))
      does_or_asks t its request asked (Some need) is asks =
          let back : List Up = returns p c (next_after next now) (unsent e ∷ mine) in
          subst (AllByRecursion (RequestMade now)) (sym (ap said_of asks.sends ∙ said_all (back ++ asks.message ∷ [])))
          (each_of_two (RequestMade now) back (asks.message ∷ []) given (need_made t its request asked need is asks.message asks.asked, tt))

      acts : (t : ThreadId) → t.client ≡ c → (request : Option Request) → next_after next es t ≡ request → ActsOn p c t request (next_after next es) (next_after next now) e mine → AllByRecursion (RequestMade now) (said_of e.sent)
      acts t its None asked step = absurd step
      acts t its (Some request) asked step = does_or_asks t its request asked (unmet p c (next_after next es) t request mine) refl step

      sent_made : (i : Input) → ClientStepOn p c i (next_after next es) (next_after next now) e mine → AllByRecursion (RequestMade now) (said_of e.sent)
      sent_made (input.Act index) step = acts (record { client = c; index = index }) refl (next_after next es (record { client = c; index = index })) refl step.acts
      sent_made (input.TookDown m) step = subst (AllByRecursion (RequestMade now)) (sym (ap said_of step.sends ∙ said_all (returns p c (next_after next now) (unsent e ∷ mine)))) given
      sent_made (input.Flush o) step = subst (λ sent. AllByRecursion (RequestMade now) (said_of sent)) (sym step.sends) (tt, tt)
      sent_made (input.Rejoin d) step = subst (λ sent. AllByRecursion (RequestMade now) (said_of sent)) (sym step.sends) tt
      sent_made other step = absurd step

      own_locks : e.node ≡ Client c → ClientLocks now (entries_of (Client c) now) (messages (up_in_flight c now))
      own_locks node =
          let turn : OwnTurn c e es = own_turn c e es node in
          let rule : ClientFollows p next c e es = subst (λ n. NodeFollows p next n e es) node follow.1.rule in
          let goes : ClientLocks now (e ∷ mine) (messages (up_in_flight c es) ++ said_of e.sent) = record {
            locks = by (next_act p c (next_after next es) (next_after next now) e mine rule.step);
            asked = each_of_two (RequestMade now) (messages (up_in_flight c es)) (said_of e.sent) have.asked (sent_made e.input rule.step);
          } in
          subst (λ ups. ClientLocks now (entries_of (Client c) now) ups) (sym turn.up) (subst (λ entries. ClientLocks now entries (messages (up_in_flight c es) ++ said_of e.sent)) (sym turn.own) goes)
        where
          by : (e.event ≡ None) ⊎ IsNextAct p c (next_after next es) e (entries_of (Client c) es) → (t : ThreadId) → LocksAre (LockMade p next (e ∷ es)) (locks_of t (e ∷ entries_of (Client c) es))
          by (inl none) t = subst (λ event. LocksAre (LockMade p next (e ∷ es)) (by_event (locks_after t) event (locks_of t (entries_of (Client c) es)))) (sym none) (have.locks t)
          by (inr act) t = act_locks p next sound known within e es follow c act have.locks t

    module _ (c : ℕ) (have : ClientLocks es (entries_of (Client c) es) (messages (up_in_flight c es))) where
      locks_after_node : (node : Node) → e.node ≡ node → ClientLocks now (entries_of (Client c) now) (messages (up_in_flight c now))
      locks_after_node Server is =
          let turn : ServerTurn c e es = server_turn c e es is in
          let had : ClientLocks now (entries_of (Client c) es) (messages (up_in_flight c es)) = still (entries_of (Client c) es) (messages (up_in_flight c es)) have in
          let goes : ClientLocks now (entries_of (Client c) es) (cond (takes_up c e.input) (drop 1 (messages (up_in_flight c es))) (messages (up_in_flight c es))) =
          record { locks = had.locks; asked = rest_of (RequestMade now) (takes_up c e.input) (messages (up_in_flight c es)) had.asked } in
          subst (λ ups. ClientLocks now (entries_of (Client c) now) ups) (sym turn.up)
          (subst (λ entries. ClientLocks now entries (cond (takes_up c e.input) (drop 1 (messages (up_in_flight c es))) (messages (up_in_flight c es)))) (sym turn.own) goes)
      locks_after_node (Client d) is = by (eqb c d) refl
        where
          had : ClientLocks (e ∷ es) (entries_of (Client c) es) (messages (up_in_flight c es))
          had = still (entries_of (Client c) es) (messages (up_in_flight c es)) have

          by : (b : Bool) → eqb c d ≡ b → ClientLocks (e ∷ es) (entries_of (Client c) (e ∷ es)) (messages (up_in_flight c (e ∷ es)))
          by true same = own_locks c had (is ∙ ap Client (sym (same_number c d same)))
          by false other = subst (λ letters. ClientLocks (e ∷ es) (entries_of (Client c) (e ∷ es)) (messages letters)) (sym (other_turn c d e es is other).up)
              (subst (λ entries. ClientLocks (e ∷ es) entries (messages (up_in_flight c es))) (sym (other_turn c d e es is other).own) had)

  all_locks : (es : List Entry) → AllFollow p next es → (c : ℕ) → ClientLocks es (entries_of (Client c) es) (messages (up_in_flight c es))
  all_locks [] follow c = record { locks = λ t. record { holds = tt; waiting = tt }; asked = tt }
  all_locks (e ∷ es) follow c = locks_after_node e es follow c (all_locks es follow.0 c) e.node refl

  -- a lock that is there is one that fits
  lock_fits : (es : List Entry) → AllFollow p next es → (l : LockName) → LockMade p next es l → IsLock p l (counted (entries_of Server es))
  lock_fits es follow (Name n) h = h
  lock_fits es follow (Mon o) h = by (class_made p.shape o es) refl
    where
      by : (class : Option (ClassId × ℕ)) → class_made p.shape o es ≡ class → IsLock p (Mon o) (counted (entries_of Server es))
      by None is = absurd (h.1 is)
      by (Some class) is = elim (class_known p.shape o p next es follow class is) [
        | inl first ↦ absurd (h.0 first.0)
        | inr made ↦
            let mine = (made_once p next es follow).given made.client o made.is in
            (given_from_one made.client o (batches_given (counted (entries_of Server es))) (in_turn p next es follow) mine, given_out made.client o (batches_given (counted (entries_of Server es))) mine)
      ]

pub locks_are_there : LocksAreThere
locks_are_there p next sound known within es follow c l level first =
    lock_fits p next sound known within es follow l
    (first_of (RequestMade p next sound known within es) (up.Request l level) (up_in_flight c es) first (all_locks p next sound known within es follow c).asked)

-- What an entry's messages make of leases: those that it returns are gone, all others stay.
use Rattle.std.specs.List.{list_any}
use Rattle.std.proofs.Common.{ℕ, ◌≡◌, refl, sym, ◌∙◌, ap, Bool, true, false, cond, not, ◌&&◌, ◌||◌, is_some, Option, Some, None, List, [], ◌∷◌, ◌++◌, map}
use Rattle.std.proofs.lemmas.List.Folds.{list_any-append}
use Rattle.dso_base.specs.declared.journal.Entry.{Entry}
use Rattle.dso_base.specs.declared.journal.Sent.TheVariants.{ToServer}
use Rattle.dso_base.specs.declared.lock.Level.TheVariants.{Write}
use Rattle.dso_base.specs.declared.lock.LockName.{LockName}
use Rattle.dso_base.specs.declared.lock.ThreadId.{ThreadId}
use Rattle.dso_base.specs.declared.message.Up.{Up}
use Rattle.dso_base.specs.declared.message.Up.TheVariants as up
use Rattle.dso_base.specs.declared.record.Ending.{Ending}
use Rattle.dso_base.specs.declared.request.Event.{Event}
use Rattle.dso_base.specs.declared.request.Event.TheVariants.{Act}
use Rattle.dso_base.specs.declared.request.Request.{Request}
use Rattle.dso_base.specs.declared.request.Request.TheVariants.{Enter}
use Rattle.dso_plain.specs.KeyTests.{is_lock}
use Rattle.dso_law.specs.declared.readings.LockStanding.{LockStanding}
use Rattle.dso_law.specs.Settings.{Settings}
use Rattle.dso_law.specs.Entries.{unsent, by_sent_up}
use Rattle.dso_law.specs.Threads.{locks_of, ending_of}
use Rattle.dso_law.specs.Copies.{is_object_asked}
use Rattle.dso_law.specs.Records.{is_batch_asked}
use Rattle.dso_law.specs.ClientWaiters.{client_list}
use Rattle.dso_law.specs.Leases.{standing_up, standing, leased, is_asked_for}
use Rattle.dso_law.specs.Closing.{is_closing, due}
use Rattle.dso_law.specs.RequestNeeds.{Need, NeedsId, NeedsObject, NeedsClass, NeedsMark, NeedsLease, NeedsOthersOut, NeedsAck, unless_asked, unmet, ask_for}
use Rattle.dso_law.specs.Replies.{woken_by}
use Rattle.dso_law.specs.ClientStep.{record_of, commits, returns, asks_again, Does, Asks, DoesOrAsks, ActsOn}

-- the message returns the lock
abbrev pub returns_lock : LockName → Up → Bool
returns_lock l (up.Return k threads) = is_lock l k
returns_lock l m = false

module _ (l : LockName) where
  lease_said : (m : Up) (s : LockStanding) → (standing_up l m s).lease ≡ cond (returns_lock l m) None s.lease
  lease_said (up.Request k level) s = by (is_lock l k)
    where
      by : (b : Bool) → (cond b (record s { is_asked = true }) s).lease ≡ s.lease
      by true = refl
      by false = refl
  lease_said (up.Return k threads) s = by (is_lock l k)
    where
      by : (b : Bool) → (cond b (record s { lease = None }) s).lease ≡ cond b None s.lease
      by true = refl
      by false = refl
  lease_said m s = refl

  -- gone by the first message, or by one behind it
  gone_by : {A : Type 0} (first rest : Bool) (x : Option A) → cond rest None (cond first None x) ≡ cond (first || rest) None x
  gone_by true true x = refl
  gone_by true false x = refl
  gone_by false rest x = refl

  -- what messages sent to the server make of the lease
  pub lease_sent : (ms : List Up) (s : LockStanding) → (by_sent_up (standing_up l) (map ToServer ms) s).lease ≡ cond (list_any (returns_lock l) ms) None s.lease
  lease_sent [] s = refl
  lease_sent (m ∷ ms) s = lease_sent ms (standing_up l m s) ∙ ap (cond (list_any (returns_lock l) ms) None) (lease_said m s) ∙ gone_by (returns_lock l m) (list_any (returns_lock l) ms) s.lease

  -- ---- which messages of an entry return the lock

  given_back : (list : LockName → List ThreadId) (locks : List LockName) → list_any (returns_lock l) (map (λ k. up.Return k (list k)) locks) ≡ list_any (is_lock l) locks
  given_back list [] = refl
  given_back list (k ∷ locks) = ap (λ b. is_lock l k || b) (given_back list locks)

  no_record : (p : Settings) (t : ThreadId) (event : Event) (ending : Option Ending) (es : List Entry) → list_any (returns_lock l) (record_of p t event ending es) ≡ false
  no_record p t event None es = refl
  no_record p t event (Some ending) es = refl

  -- what is asked is what the need names
  asked_is : (b : Bool) (x m : Up) → unless_asked b x ≡ Some m → returns_lock l x ≡ false → returns_lock l m ≡ false
  asked_is true x m asked none = absurd (cc asked)
  asked_is false x m asked none = let same : x ≡ m = cc asked in sym (ap (returns_lock l) same) ∙ none

  no_ask : (need : Need) (es : List Entry) (m : Up) → ask_for need es ≡ Some m → returns_lock l m ≡ false
  no_ask NeedsId es m asked = asked_is (is_batch_asked es) up.IdAsk m asked refl
  no_ask (NeedsObject o) es m asked = asked_is (is_object_asked o es) (up.Fault o) m asked refl
  no_ask (NeedsLease k level) es m asked = asked_is (is_some (leased k es) || is_asked_for k es) (up.Request k level) m asked refl
  no_ask (NeedsClass o) es m asked = absurd (cc asked)
  no_ask (NeedsMark k) es m asked = absurd (cc asked)
  no_ask (NeedsOthersOut k) es m asked = absurd (cc asked)
  no_ask NeedsAck es m asked = absurd (cc asked)

  -- the second of three parts tells
  in_middle : (a b d : List Up) → list_any (returns_lock l) a ≡ false → list_any (returns_lock l) d ≡ false → list_any (returns_lock l) (a ++ b ++ d) ≡ list_any (returns_lock l) b
  in_middle a b d none_a none_d = list_any-append (returns_lock l) (a ++ b) d ∙ ap (λ t. t || list_any (returns_lock l) d) (list_any-append (returns_lock l) a b ∙ ap (λ t. t || list_any (returns_lock l) b) none_a)
      ∙ ap (λ t. list_any (returns_lock l) b || t) none_d ∙ or_false (list_any (returns_lock l) b)
    where
      or_false : (t : Bool) → (t || false) ≡ t
      or_false true = refl
      or_false false = refl

module _ (p : Settings) (c : ℕ) (before later : ThreadId → Option Request) (e : Entry) (es : List Entry) where
  -- the leases after the entry are those before it sends, but for those that are due
  abbrev pub ReturnsDue : Type 0
  ReturnsDue = (l : LockName) → leased l (e ∷ es) ≡ cond (list_any (is_lock l) (due p c later (unsent e ∷ es))) None (leased l (unsent e ∷ es))

  -- by what the entry sends
  by_messages : (ms : List Up) → e.sent ≡ map ToServer ms → ((l : LockName) → list_any (returns_lock l) ms ≡ list_any (is_lock l) (due p c later (unsent e ∷ es))) → ReturnsDue
  by_messages ms sent tells l = ap (λ out. (by_sent_up (standing_up l) out (standing l (unsent e ∷ es))).lease) sent ∙ lease_sent l ms (standing l (unsent e ∷ es))
      ∙ ap (λ t. cond t None (leased l (unsent e ∷ es))) (tells l)

  gives_back : (l : LockName) → list_any (returns_lock l) (returns p c later (unsent e ∷ es)) ≡ list_any (is_lock l) (due p c later (unsent e ∷ es))
  gives_back l = given_back l (λ k. client_list k (unsent e ∷ es)) (due p c later (unsent e ∷ es))

  no_again_if : (l k : LockName) (b : Bool) → list_any (returns_lock l) (cond b (up.Request k Write ∷ []) []) ≡ false
  no_again_if l k true = refl
  no_again_if l k false = refl

  no_again : (l : LockName) (request : Option Request) → list_any (returns_lock l) (asks_again p c before later request (unsent e ∷ es) es) ≡ false
  no_again l (Some (Enter k Write)) = no_again_if l k (not (is_closing p c before k es) && list_any (is_lock k) (due p c later (unsent e ∷ es)))
  no_again l request = refl

  does_return : (t : ThreadId) (request : Request) → Does p c t request before later e es → ReturnsDue
  does_return t request does =
      let event : Event = Act t request does.reply (woken_by request does.reply es) in
      let again : List Up = asks_again p c before later (later t) (unsent e ∷ es) es in
      by_messages (commits p t event es ++ returns p c later (unsent e ∷ es) ++ again) does.sends
      (λ l. in_middle l (commits p t event es) (returns p c later (unsent e ∷ es)) again (no_record l p t event (ending_of event (locks_of t es)) es) (no_again l (later t)) ∙ gives_back l)

  asks_return : (need : Need) → Asks p c need later e es → ReturnsDue
  asks_return need asks = by_messages (returns p c later (unsent e ∷ es) ++ asks.message ∷ []) asks.sends
      (λ l. in_middle l [] (returns p c later (unsent e ∷ es)) (asks.message ∷ []) refl (ap (λ t. t || false) (no_ask l need es asks.message asks.asked)) ∙ gives_back l)

  by_need : (t : ThreadId) (request : Request) (need : Option Need) → DoesOrAsks p c t request need before later e es → ReturnsDue
  by_need t request None h = does_return t request h
  by_need t request (Some need) h = asks_return need h

  pub acts_return : (t : ThreadId) (request : Option Request) → ActsOn p c t request before later e es → ReturnsDue
  acts_return t None h = absurd h
  acts_return t (Some request) h = by_need t request (unmet p c before t request es) h

  pub taken_return : e.sent ≡ map ToServer (returns p c later (unsent e ∷ es)) → ReturnsDue
  taken_return sends = by_messages (returns p c later (unsent e ∷ es)) sends gives_back

-- A lock that is leased isn't asked for.
use Rattle.std.specs.List.{list_any}
use Rattle.std.proofs.Common.{◌≡◌, ℕ, refl, sym, ◌∙◌, ap, Bool, true, false, cond, not, ◌&&◌, ◌||◌, is_some, Option, Some, None, List, [], ◌∷◌, ◌++◌, map}
use Rattle.std.proofs.lemmas.List.Folds.{list_any-append}
use Rattle.dso_base.specs.declared.journal.Entry.{Entry}
use Rattle.dso_base.specs.declared.journal.Input.{Input}
use Rattle.dso_base.specs.declared.journal.Input.TheVariants as input
use Rattle.dso_base.specs.declared.journal.Sent.TheVariants.{ToServer}
use Rattle.dso_base.specs.declared.lock.Level.TheVariants.{Write}
use Rattle.dso_base.specs.declared.lock.LockName.{LockName}
use Rattle.dso_base.specs.declared.lock.ThreadId.{ThreadId}
use Rattle.dso_base.specs.declared.message.Down.{Down}
use Rattle.dso_base.specs.declared.message.Down.TheVariants as down
use Rattle.dso_base.specs.declared.message.Up.{Up}
use Rattle.dso_base.specs.declared.message.Up.TheVariants as up
use Rattle.dso_base.specs.declared.record.Ending.{Ending}
use Rattle.dso_base.specs.declared.request.Event.{Event}
use Rattle.dso_base.specs.declared.request.Event.TheVariants.{Act}
use Rattle.dso_base.specs.declared.request.Request.{Request}
use Rattle.dso_base.specs.declared.request.Request.TheVariants.{Enter}
use Rattle.dso_plain.specs.KeyTests.{is_lock}
use Rattle.dso_plain.proofs.keys.SameKeys.{same_lock}
use Rattle.dso_law.specs.declared.readings.LockStanding.{LockStanding}
use Rattle.dso_law.specs.Settings.{Settings}
use Rattle.dso_law.specs.Entries.{unsent, by_sent_up, by_taken_down}
use Rattle.dso_law.specs.Threads.{locks_of, ending_of}
use Rattle.dso_law.specs.Copies.{is_object_asked}
use Rattle.dso_law.specs.Records.{is_batch_asked}
use Rattle.dso_law.specs.ClientWaiters.{client_list}
use Rattle.dso_law.specs.Leases.{standing_up, standing_down, standing, leased, is_asked_for}
use Rattle.dso_law.specs.Closing.{is_closing, due}
use Rattle.dso_law.specs.RequestNeeds.{Need, NeedsId, NeedsObject, NeedsClass, NeedsMark, NeedsLease, NeedsOthersOut, NeedsAck, unless_asked, unmet, ask_for}
use Rattle.dso_law.specs.Replies.{woken_by}
use Rattle.dso_law.specs.ClientStep.{record_of, commits, returns, asks_again, DoesOrAsks, ActsOn, ClientStepOn}
use Rattle.dso_law.specs.ClientRun.{ClientRun, next_in}
use Rattle.dso_law.proofs.runs.Kept.{returns_due}

-- the message requests the lock
abbrev requests_lock : LockName → Up → Bool
requests_lock l (up.Request k level) = is_lock l k
requests_lock l m = false

module _ (l : LockName) where
  asked_said : (m : Up) (s : LockStanding) → (standing_up l m s).is_asked ≡ (requests_lock l m || s.is_asked)
  asked_said (up.Request k level) s = by (is_lock l k)
    where
      by : (b : Bool) → (cond b (record s { is_asked = true }) s).is_asked ≡ (b || s.is_asked)
      by true = refl
      by false = refl
  asked_said (up.Return k threads) s = by (is_lock l k)
    where
      by : (b : Bool) → (cond b (record s { lease = None }) s).is_asked ≡ s.is_asked
      by true = refl
      by false = refl
  asked_said m s = refl

  one_or_rest : (a b s : Bool) → (b || (a || s)) ≡ ((a || b) || s)
  one_or_rest true true s = refl
  one_or_rest true false s = refl
  one_or_rest false b s = refl

  asked_sent : (ms : List Up) (s : LockStanding) → (by_sent_up (standing_up l) (map ToServer ms) s).is_asked ≡ (list_any (requests_lock l) ms || s.is_asked)
  asked_sent [] s = refl
  asked_sent (m ∷ ms) s = asked_sent ms (standing_up l m s) ∙ (ap (λ b. list_any (requests_lock l) ms || b) (asked_said m s) ∙ one_or_rest (requests_lock l m) (list_any (requests_lock l) ms) s.is_asked)

  none_returned : (list : LockName → List ThreadId) (locks : List LockName) → list_any (requests_lock l) (map (λ k. up.Return k (list k)) locks) ≡ false
  none_returned list [] = refl
  none_returned list (k ∷ locks) = none_returned list locks

  no_record : (p : Settings) (t : ThreadId) (event : Event) (ending : Option Ending) (es : List Entry) → list_any (requests_lock l) (record_of p t event ending es) ≡ false
  no_record p t event None es = refl
  no_record p t event (Some ending) es = refl

  -- three parts, of which the first two request nothing
  in_last : (a b d : List Up) → list_any (requests_lock l) a ≡ false → list_any (requests_lock l) b ≡ false → list_any (requests_lock l) (a ++ b ++ d) ≡ list_any (requests_lock l) d
  in_last a b d none_a none_b = list_any-append (requests_lock l) (a ++ b) d
      ∙ (ap (λ t. t || list_any (requests_lock l) d) (list_any-append (requests_lock l) a b)
      ∙ (ap (λ t. (t || list_any (requests_lock l) b) || list_any (requests_lock l) d) none_a ∙ ap (λ t. t || list_any (requests_lock l) d) none_b))

  -- a lease that is there wasn't given back, and was there before the entry sent anything
  not_gone : {A : Type 0} (b : Bool) (x : Option A) → is_some (cond b None x) ≡ true → (b ≡ false) × (is_some x ≡ true)
  not_gone true x e = absurd (cc e)
  not_gone false x e = (refl, e)

  module _ (p : Settings) (c : ℕ) (before later : ThreadId → Option Request) (e : Entry) (es : List Entry)
      (given : leased l (e ∷ es) ≡ cond (list_any (is_lock l) (due p c later (unsent e ∷ es))) None (leased l (unsent e ∷ es)))
      (had : is_some (leased l es) ≡ true → is_asked_for l es ≡ false) where
    -- of an act: the lease was there before
    no_again_if : (k : LockName) (b : Bool) → (b ≡ true → list_any (is_lock k) (due p c later (unsent e ∷ es)) ≡ true) → list_any (is_lock l) (due p c later (unsent e ∷ es)) ≡ false
        → list_any (requests_lock l) (cond b (up.Request k Write ∷ []) []) ≡ false
    no_again_if k false in_due none = refl
    no_again_if k true in_due none = by (is_lock l k) refl
      where
        by : (b : Bool) → is_lock l k ≡ b → (b || false) ≡ false
        by false same = refl
        by true same = absurd (cc (sym (in_due refl) ∙ (ap (λ x. list_any (is_lock x) (due p c later (unsent e ∷ es))) (same_lock l k same) ∙ none)))

    second : (a b : Bool) → (a && b) ≡ true → b ≡ true
    second true b h = h
    second false b h = absurd (cc h)

    no_again : (request : Option Request) → list_any (is_lock l) (due p c later (unsent e ∷ es)) ≡ false → list_any (requests_lock l) (asks_again p c before later request (unsent e ∷ es) es) ≡ false
    no_again (Some (Enter k Write)) none = no_again_if k (not (is_closing p c before k es) && list_any (is_lock k) (due p c later (unsent e ∷ es)))
        (second (not (is_closing p c before k es)) (list_any (is_lock k) (due p c later (unsent e ∷ es)))) none
    no_again request none = refl

    -- what an entry that sends these messages asks for
    by_messages : (ms : List Up) → e.sent ≡ map ToServer ms → list_any (requests_lock l) ms ≡ false → is_asked_for l (unsent e ∷ es) ≡ false → is_asked_for l (e ∷ es) ≡ false
    by_messages ms sent none asked = ap (λ out. (by_sent_up (standing_up l) out (standing l (unsent e ∷ es))).is_asked) sent ∙ (asked_sent ms (standing l (unsent e ∷ es))
        ∙ (ap (λ b. b || is_asked_for l (unsent e ∷ es)) none ∙ asked))

    no_ask_if : (b : Bool) (k : LockName) (x m : Up) → unless_asked b x ≡ Some m → requests_lock l x ≡ is_lock l k → (is_lock l k ≡ true → b ≡ true) → requests_lock l m ≡ false
    no_ask_if true k x m asked same held = absurd (cc asked)
    no_ask_if false k x m asked same held =
        let it : x ≡ m = cc asked in
        sym (ap (requests_lock l) it) ∙ (same ∙ by (is_lock l k) held)
      where
        by : (b : Bool) → (b ≡ true → false ≡ true) → b ≡ false
        by true h = sym (h refl)
        by false h = refl

    plain_ask : (b : Bool) (x m : Up) → unless_asked b x ≡ Some m → requests_lock l x ≡ false → requests_lock l m ≡ false
    plain_ask true x m asked none = absurd (cc asked)
    plain_ask false x m asked none = let it : x ≡ m = cc asked in sym (ap (requests_lock l) it) ∙ none

    left_holds : (a b : Bool) → a ≡ true → (a || b) ≡ true
    left_holds true b h = refl
    left_holds false b h = absurd (cc h)

    no_ask : is_some (leased l es) ≡ true → (need : Need) (m : Up) → ask_for need es ≡ Some m → requests_lock l m ≡ false
    no_ask there NeedsId m asked = plain_ask (is_batch_asked es) up.IdAsk m asked refl
    no_ask there (NeedsObject o) m asked = plain_ask (is_object_asked o es) (up.Fault o) m asked refl
    no_ask there (NeedsLease k level) m asked = no_ask_if (is_some (leased k es) || is_asked_for k es) k (up.Request k level) m asked refl
        (λ same. left_holds (is_some (leased k es)) (is_asked_for k es) (ap (λ x. is_some (leased x es)) (same_lock l k same) ∙ there))
    no_ask there (NeedsClass o) m asked = absurd (cc asked)
    no_ask there (NeedsMark k) m asked = absurd (cc asked)
    no_ask there (NeedsOthersOut k) m asked = absurd (cc asked)
    no_ask there NeedsAck m asked = absurd (cc asked)

    by_need : (index : ℕ) → e.input ≡ input.Act index → (t : ThreadId) (request : Request) (need : Option Need) → DoesOrAsks p c t request need before later e es
        → is_some (leased l (e ∷ es)) ≡ true → is_asked_for l (e ∷ es) ≡ false
    by_need index acts t request need step there =
        let applies = not_gone (list_any (is_lock l) (due p c later (unsent e ∷ es))) (leased l (unsent e ∷ es)) (ap is_some (sym given) ∙ there) in
        let same : standing l (unsent e ∷ es) ≡ standing l es = ap (λ i. by_taken_down (standing_down l) i (standing l es)) acts in
        let held : is_some (leased l es) ≡ true = ap (λ (s : LockStanding). is_some s.lease) (sym same) ∙ applies.1 in
        let asked : is_asked_for l (unsent e ∷ es) ≡ false = ap (λ (s : LockStanding). s.is_asked) same ∙ had held in
        by need step applies.0 held asked
      where
        by : (need : Option Need) → DoesOrAsks p c t request need before later e es → list_any (is_lock l) (due p c later (unsent e ∷ es)) ≡ false → is_some (leased l es) ≡ true
            → is_asked_for l (unsent e ∷ es) ≡ false → is_asked_for l (e ∷ es) ≡ false
        by None does none held asked =
            let event : Event = Act t request does.reply (woken_by request does.reply es) in
            by_messages (commits p t event es ++ returns p c later (unsent e ∷ es) ++ asks_again p c before later (later t) (unsent e ∷ es) es) does.sends
            (in_last (commits p t event es) (returns p c later (unsent e ∷ es)) (asks_again p c before later (later t) (unsent e ∷ es) es)
            (no_record p t event (ending_of event (locks_of t es)) es) (none_returned (λ k. client_list k (unsent e ∷ es)) (due p c later (unsent e ∷ es))) ∙ no_again (later t) none) asked
        by (Some need) asks none held asked = by_messages (returns p c later (unsent e ∷ es) ++ asks.message ∷ []) asks.sends
            (in_last [] (returns p c later (unsent e ∷ es)) (asks.message ∷ []) refl (none_returned (λ k. client_list k (unsent e ∷ es)) (due p c later (unsent e ∷ es)))
            ∙ ap (λ b. b || false) (no_ask held need asks.message asks.asked)) asked

    by_request : (index : ℕ) → e.input ≡ input.Act index → (t : ThreadId) (request : Option Request) → ActsOn p c t request before later e es
        → is_some (leased l (e ∷ es)) ≡ true → is_asked_for l (e ∷ es) ≡ false
    by_request index acts t None step there = absurd step
    by_request index acts t (Some request) step there = by_need index acts t request (unmet p c before t request es) step there

    -- of a message taken
    granted : (m : Down) → is_some (standing_down l m (standing l es)).lease ≡ true → (standing_down l m (standing l es)).is_asked ≡ false
    granted (down.Grant k level) there = by (is_lock l k) there
      where
        by : (b : Bool) → is_some (cond b (record { lease = Some level; is_asked = false }) (standing l es)).lease ≡ true → (cond b (record { lease = Some level; is_asked = false }) (standing l es)).is_asked ≡ false
        by true h = refl
        by false h = had h
    granted m there = had there

    taken : (m : Down) → e.input ≡ input.TookDown m → e.sent ≡ map ToServer (returns p c later (unsent e ∷ es)) → is_some (leased l (e ∷ es)) ≡ true → is_asked_for l (e ∷ es) ≡ false
    taken m takes sends there =
        let applies = not_gone (list_any (is_lock l) (due p c later (unsent e ∷ es))) (leased l (unsent e ∷ es)) (ap is_some (sym given) ∙ there) in
        let same : standing l (unsent e ∷ es) ≡ standing_down l m (standing l es) = ap (λ i. by_taken_down (standing_down l) i (standing l es)) takes in
        by_messages (returns p c later (unsent e ∷ es)) sends (none_returned (λ k. client_list k (unsent e ∷ es)) (due p c later (unsent e ∷ es)))
        (ap (λ (s : LockStanding). s.is_asked) same ∙ granted m (ap (λ (s : LockStanding). is_some s.lease) (sym same) ∙ applies.1))

    silent : (ms : List Up) → e.sent ≡ map ToServer ms → list_any (requests_lock l) ms ≡ false → standing l (unsent e ∷ es) ≡ standing l es
        → is_some (leased l (e ∷ es)) ≡ true → is_asked_for l (e ∷ es) ≡ false
    silent ms sends none same there =
        let applies = not_gone (list_any (is_lock l) (due p c later (unsent e ∷ es))) (leased l (unsent e ∷ es)) (ap is_some (sym given) ∙ there) in
        by_messages ms sends none (ap (λ (s : LockStanding). s.is_asked) same ∙ had (ap (λ (s : LockStanding). is_some s.lease) (sym same) ∙ applies.1))

    by_input : (i : Input) → e.input ≡ i → ClientStepOn p c i before later e es → is_some (leased l (e ∷ es)) ≡ true → is_asked_for l (e ∷ es) ≡ false
    by_input (input.Act index) is step there = by_request index is (record { client = c; index = index }) (before (record { client = c; index = index })) step.acts there
    by_input (input.TookDown m) is step there = taken m is step.sends there
    by_input (input.Flush o) is step there = silent (up.Flushed o ∷ []) step.sends refl (ap (λ i. by_taken_down (standing_down l) i (standing l es)) is) there
    by_input (input.Rejoin d) is step there = silent [] step.sends refl (ap (λ i. by_taken_down (standing_down l) i (standing l es)) is) there
    by_input i is step there = absurd step

  pub leased_unasked : (p : Settings) (c : ℕ) (next : ThreadId → List Event → Option Request) (es : List Entry) → ClientRun p c next es → is_some (leased l es) ≡ true → is_asked_for l es ≡ false
  leased_unasked p c next [] run there = absurd (cc there)
  leased_unasked p c next (e ∷ es) run there = by_input p c (next_in next es) (next_in next (e ∷ es)) e es (returns_due p c next e es run l)
      (leased_unasked p c next es run.0) e.input refl run.1 there

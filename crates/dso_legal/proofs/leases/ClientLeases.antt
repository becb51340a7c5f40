-- What a client's entry says of a lock may come where the lock stands with it.
use Rattle.std.specs.List.{list_any, AllByRecursion}
use Rattle.std.proofs.Common.{ℕ, ◌≡◌, refl, sym, ◌∙◌, ap, subst, Bool, true, false, cond, not, ◌&&◌, ◌||◌, is_some, Option, Some, None, List, [], ◌∷◌, ◌++◌, map}
use Rattle.std.proofs.lemmas.List.{append_assoc}
use Rattle.dso_base.specs.declared.journal.Entry.{Entry}
use Rattle.dso_base.specs.declared.journal.Input.{Input}
use Rattle.dso_base.specs.declared.journal.Input.TheVariants as input
use Rattle.dso_base.specs.declared.journal.Sent.TheVariants.{ToServer}
use Rattle.dso_base.specs.declared.lock.Level.{Level}
use Rattle.dso_base.specs.declared.lock.Level.TheVariants.{Write}
use Rattle.dso_base.specs.declared.lock.LockName.{LockName}
use Rattle.dso_base.specs.declared.lock.ThreadId.{ThreadId}
use Rattle.dso_base.specs.declared.message.Up.{Up}
use Rattle.dso_base.specs.declared.message.Up.TheVariants as up
use Rattle.dso_base.specs.declared.record.Ending.{Ending}
use Rattle.dso_base.specs.declared.request.Event.{Event}
use Rattle.dso_base.specs.declared.request.Event.TheVariants.{Act}
use Rattle.dso_base.specs.declared.request.Request.{Request}
use Rattle.dso_base.specs.declared.request.Request.TheVariants.{Enter}
use Rattle.dso_plain.specs.KeyTests.{is_lock}
use Rattle.dso_plain.proofs.keys.SameKeys.{same_lock}
use Rattle.dso_lookup.proofs.Tests.{both}
use Rattle.dso_law.specs.declared.readings.LockStanding.{LockStanding}
use Rattle.dso_law.specs.Settings.{Settings}
use Rattle.dso_law.specs.Entries.{unsent, by_taken_down}
use Rattle.dso_law.specs.Threads.{locks_of, ending_of}
use Rattle.dso_law.specs.ClientWaiters.{client_list}
use Rattle.dso_law.specs.Leases.{idle, standing_up, standing_down, standing, leased, is_asked_for, granted, leased_locks}
use Rattle.dso_law.specs.Closing.{is_closing, is_lease_due, due}
use Rattle.dso_law.specs.RequestNeeds.{Need, NeedsId, NeedsObject, NeedsClass, NeedsMark, NeedsLease, NeedsOthersOut, NeedsAck, unmet, unless_asked, ask_for}
use Rattle.dso_law.specs.Replies.{woken_by}
use Rattle.dso_law.specs.ClientStep.{record_of, commits, returns, asks_again, Does, Asks, DoesOrAsks, ActsOn, ClientStepOn, ClientStep}
use Rattle.dso_legal.specs.Agreement.{after, EachMay}
use Rattle.dso_legal.specs.Tokens.{IsLeased, MayGoUp}
use Rattle.dso_legal.proofs.channels.Agreement.{AllDeaf, IsDeaf, more_deaf, may_append, after_append}
use Rattle.dso_legal.proofs.journals.Facts.{is_there}
use Rattle.dso_legal.proofs.leases.LeaseSteps.{if_true, other_return, IsPlain, leased_plain, is_idle, plain_taken}
use Rattle.dso_legal.proofs.leases.Locks.{Distinct, rising_distinct, granted_rises, distinct_filter, each_filter, each_passes}
use Rattle.dso_legal.proofs.channels.InFlight.{said_of, said_status, said_all}

-- The messages up may come one after the other where the lock stands so, and leave it plain.
pub record MaySay (l : LockName) (ms : List Up) (s : LockStanding) : Type 0 where
  pub comes : EachMay (MayGoUp l) (standing_up l) ms s
  pub plain : IsPlain (after (standing_up l) ms s)

-- neither test holds
pub neither : (a b : Bool) → (a || b) ≡ false → (a ≡ false) × (b ≡ false)
neither true b e = absurd (cc e)
neither false b e = (refl, e)

-- messages in front of others
say_append : (l : LockName) (xs ys : List Up) (s : LockStanding) → EachMay (MayGoUp l) (standing_up l) xs s → MaySay l ys (after (standing_up l) xs s) → MaySay l (xs ++ ys) s
say_append l xs ys s may later = record {
  comes = may_append (MayGoUp l) (standing_up l) xs ys s may later.comes;
  plain = subst IsPlain (sym (after_append (standing_up l) xs ys s)) later.plain;
}

-- deaf messages in front of others
deaf_first : (l : LockName) (xs ys : List Up) (s : LockStanding) → AllDeaf (MayGoUp l) (standing_up l) xs → MaySay l ys s → MaySay l (xs ++ ys) s
deaf_first l xs ys s deaf later = say_append l xs ys s (deaf.comes s) (subst (MaySay l ys) (sym (deaf.stays s)) later)

-- a return of each of the locks
abbrev each_return : (LockName → List ThreadId) → List LockName → List Up
each_return list locks = map (λ k. up.Return k (list k)) locks

-- the lock without its lease
abbrev without_lease : Bool → LockStanding → LockStanding
without_lease b s = cond b (record s { lease = None }) s

-- returns of other locks are deaf
returns_deaf : (l : LockName) (list : LockName → List ThreadId) (locks : List LockName) → list_any (is_lock l) locks ≡ false → AllDeaf (MayGoUp l) (standing_up l) (each_return list locks)
returns_deaf l list [] e = record { comes = λ s. tt; stays = λ s. refl }
returns_deaf l list (k ∷ locks) e =
    let no = neither (is_lock l k) (list_any (is_lock l) locks) e in
    more_deaf (MayGoUp l) (standing_up l) (up.Return k (list k)) (each_return list locks) (other_return l k (list k) no.0) (returns_deaf l list locks no.1)

-- what returns of distinct locks, each leased, make of how a lock stands
record Returned (l : LockName) (list : LockName → List ThreadId) (locks : List LockName) (s : LockStanding) : Type 0 where
  comes : EachMay (MayGoUp l) (standing_up l) (each_return list locks) s
  status : after (standing_up l) (each_return list locks) s ≡ without_lease (list_any (is_lock l) locks) s

return_one : (b : Bool) (l : LockName) (list : LockName → List ThreadId) (k : LockName) (locks : List LockName) (s : LockStanding) → is_lock l k ≡ b → Distinct (k ∷ locks)
    → (list_any (is_lock l) (k ∷ locks) ≡ true → IsLeased s) → ((list_any (is_lock l) locks ≡ true → IsLeased s) → Returned l list locks s) → Returned l list (k ∷ locks) s
return_one true l list k locks s e distinct leased later =
    let deaf = returns_deaf l list locks (subst (λ j. list_any (is_lock j) locks ≡ false) (same_lock l k e) distinct.0) in
    let here : (is_lock l k || list_any (is_lock l) locks) ≡ true = ap (λ b. b || list_any (is_lock l) locks) e in
    record {
      comes = (λ yes. leased here, deaf.comes (standing_up l (up.Return k (list k)) s));
      status = deaf.stays (standing_up l (up.Return k (list k)) s) ∙ if_true (is_lock l k) (record s { lease = None }) s e
          ∙ sym (if_true (is_lock l k || list_any (is_lock l) locks) (record s { lease = None }) s here);
    }
return_one false l list k locks s e distinct leased later =
    let deaf = other_return l k (list k) e in
    let rest = later (λ yes. leased (ap (λ b. b || list_any (is_lock l) locks) e ∙ yes)) in
    record {
      comes = ((deaf s).0, subst (EachMay (MayGoUp l) (standing_up l) (each_return list locks)) (sym (deaf s).1) rest.comes);
      status = ap (after (standing_up l) (each_return list locks)) (deaf s).1 ∙ rest.status ∙ ap (λ b. without_lease (b || list_any (is_lock l) locks) s) (sym e);
    }

returned : (l : LockName) (list : LockName → List ThreadId) (locks : List LockName) (s : LockStanding) → Distinct locks → (list_any (is_lock l) locks ≡ true → IsLeased s) → Returned l list locks s
returned l list [] s distinct leased = record { comes = tt; status = refl }
returned l list (k ∷ locks) s distinct leased = return_one (is_lock l k) l list k locks s refl distinct leased (returned l list locks s distinct.1)

-- what holds of each lock of a list holds of one that is in it
pub has_is : (P : LockName → Type 0) (l : LockName) (locks : List LockName) → AllByRecursion P locks → list_any (is_lock l) locks ≡ true → P l
has_is P l [] each e = absurd (cc e)
has_is P l (k ∷ locks) each e = by (is_lock l k) refl e (has_is P l locks each.1)
  where
    by : (b : Bool) → is_lock l k ≡ b → (b || list_any (is_lock l) locks) ≡ true → (list_any (is_lock l) locks ≡ true → P l) → P l
    by true f e later = subst P (same_lock l k f) each.0
    by false f e later = later e

-- a plain lock without its lease is plain
plain_without : (b : Bool) (s : LockStanding) → IsPlain s → IsPlain (without_lease b s)
plain_without true s plain = λ e. refl
plain_without false s plain = plain

-- a leased lock without its lease is idle
idle_without : (s : LockStanding) (b : Bool) → IsLeased s → b ≡ true → without_lease b s ≡ idle
idle_without s true leased e = is_idle (record s { lease = None }) refl leased.unasked
idle_without s false leased e = absurd (cc e)

-- an idle lock stays so
idle_still : (s : LockStanding) (b : Bool) → s ≡ idle → without_lease b s ≡ idle
idle_still s true e = ap (λ (s : LockStanding). let r : LockStanding = record s { lease = None } in r) e
idle_still s false e = e

-- a request where the lock is idle
requested : (l k : LockName) (level : Level) (s : LockStanding) → IsPlain s → (is_lock l k ≡ true → s ≡ idle) → MaySay l (up.Request k level ∷ []) s
requested l k level s plain free = record { comes = (free, tt); plain = by (is_lock l k) refl }
  where
    by : (b : Bool) → is_lock l k ≡ b → IsPlain (cond b (record s { is_asked = true }) s)
    by true e = λ _. ap (λ (s : LockStanding). s.lease) (free e)
    by false e = plain

-- what isn't there is None
not_there : {X : Type 0} (o : Option X) → is_some o ≡ false → o ≡ None
not_there None e = refl
not_there (Some x) e = absurd (cc e)

-- what is asked, and that nothing was before
pub ask_is : (b : Bool) (x m : Up) → unless_asked b x ≡ Some m → (m ≡ x) × (b ≡ false)
ask_is true x m e = absurd (cc e)
ask_is false x m e = (cc e, refl)

-- The entries are those of the client, and the entry, without what it sends, stands in front of them.
module _ (p : Settings) (c : ℕ) (l : LockName) (next : ThreadId → Option Request) (es : List Entry) (plain : IsPlain (standing l es)) where
  -- the leases to be given back are leased, each once
  due_distinct : Distinct (due p c next es)
  due_distinct = distinct_filter (λ k. is_lease_due p c next k es) (leased_locks es) (distinct_filter (λ k. is_some (leased k es)) (granted es) (rising_distinct (granted es) (granted_rises es)))

  due_leased : list_any (is_lock l) (due p c next es) ≡ true → IsLeased (standing l es)
  due_leased e = leased_plain (standing l es) plain (is_there (leased l es) (has_is (λ k. is_some (leased k es) ≡ true) l (due p c next es)
      (each_filter (λ k. is_some (leased k es) ≡ true) (λ k. is_lease_due p c next k es) (leased_locks es) (each_passes (λ k. is_some (leased k es)) (granted es))) e))

  -- what the returns make of the lock
  gives_back : Returned l (λ k. client_list k es) (due p c next es) (standing l es)
  gives_back = returned l (λ k. client_list k es) (due p c next es) (standing l es) due_distinct due_leased

  -- the returns, and a message behind them
  pub gives_back_then : (ms : List Up) → ((s : LockStanding) → s ≡ without_lease (list_any (is_lock l) (due p c next es)) (standing l es) → IsPlain s → MaySay l ms s) → MaySay l (returns p c next es ++ ms) (standing l es)
  gives_back_then ms later = say_append l (returns p c next es) ms (standing l es) gives_back.comes
      (later _ gives_back.status (subst IsPlain (sym gives_back.status) (plain_without (list_any (is_lock l) (due p c next es)) (standing l es) plain)))

  -- the returns alone
  pub gives_back_alone : MaySay l (returns p c next es) (standing l es)
  gives_back_alone = record {
    comes = gives_back.comes;
    plain = subst IsPlain (sym gives_back.status) (plain_without (list_any (is_lock l) (due p c next es)) (standing l es) plain);
  }

  -- a request for a lock that was given back
  again_one : (k : LockName) (b : Bool) (s : LockStanding) → s ≡ without_lease (list_any (is_lock l) (due p c next es)) (standing l es) → IsPlain s
      → (b ≡ true → list_any (is_lock k) (due p c next es) ≡ true) → MaySay l (cond b (up.Request k Write ∷ []) []) s
  again_one k false s is plain given = record { comes = tt; plain = plain }
  again_one k true s is plain given = requested l k Write s plain (λ e.
      let mine : list_any (is_lock l) (due p c next es) ≡ true = subst (λ j. list_any (is_lock j) (due p c next es) ≡ true) (same_lock l k e) (given refl) in
      is ∙ idle_without (standing l es) (list_any (is_lock l) (due p c next es)) (due_leased mine) mine)

  -- an ask for another thing than a lease is deaf
  deaf_one : (m x : Up) (s : LockStanding) → IsPlain s → m ≡ x → IsDeaf (MayGoUp l) (standing_up l) x → MaySay l (m ∷ []) s
  deaf_one m x s plain e deaf = subst (λ y. MaySay l (y ∷ []) s) (sym e) (record { comes = ((deaf s).0, tt); plain = subst IsPlain (sym (deaf s).1) plain })

  -- an ask behind the returns, where nothing was asked
  ask_one : (need : Need) (before : List Entry) (m : Up) → standing l before ≡ standing l es → ask_for need before ≡ Some m
      → (s : LockStanding) → s ≡ without_lease (list_any (is_lock l) (due p c next es)) (standing l es) → IsPlain s → MaySay l (m ∷ []) s
  ask_one NeedsId before m same ask s is plain = deaf_one m up.IdAsk s plain (ask_is _ up.IdAsk m ask).0 (λ s. (tt, refl))
  ask_one (NeedsObject o) before m same ask s is plain = deaf_one m (up.Fault o) s plain (ask_is _ (up.Fault o) m ask).0 (λ s. (tt, refl))
  ask_one (NeedsLease k level) before m same ask s is plain =
      let it = ask_is (is_some (leased k before) || is_asked_for k before) (up.Request k level) m ask in
      let no = neither (is_some (leased k before)) (is_asked_for k before) it.1 in
      subst (λ y. MaySay l (y ∷ []) s) (sym it.0) (requested l k level s plain (λ e.
      let free : standing l before ≡ idle = subst (λ j. standing j before ≡ idle) (same_lock l k e) (is_idle (standing k before) (not_there (leased k before) no.0) no.1) in
      is ∙ idle_still (standing l es) (list_any (is_lock l) (due p c next es)) (sym same ∙ free)))
  ask_one (NeedsClass o) before m same ask s is plain = absurd (cc ask)
  ask_one (NeedsMark k) before m same ask s is plain = absurd (cc ask)
  ask_one (NeedsOthersOut k) before m same ask s is plain = absurd (cc ask)
  ask_one NeedsAck before m same ask s is plain = absurd (cc ask)

-- a record alone is deaf
commits_deaf : (p : Settings) (l : LockName) (t : ThreadId) (event : Event) (ending : Option Ending) (es : List Entry) → AllDeaf (MayGoUp l) (standing_up l) (record_of p t event ending es)
commits_deaf p l t event None es = record { comes = λ s. tt; stays = λ s. refl }
commits_deaf p l t event (Some ending) es = record { comes = λ s. (tt, tt); stays = λ s. refl }

module _ (p : Settings) (c : ℕ) (l : LockName) (before after_it : ThreadId → Option Request) (e : Entry) (es : List Entry) where
  -- what the entry makes of the lock before it sends
  abbrev so_far : LockStanding
  so_far = standing l (unsent e ∷ es)

  -- what the entry says may come, and leaves the lock plain
  pub record Says : Type 0 where
    pub comes : EachMay (MayGoUp l) (standing_up l) (said_of e.sent) (by_taken_down (standing_down l) e.input (standing l es))
    pub plain : IsPlain (standing l (e ∷ es))

  -- by the messages that it sends
  says : (ms : List Up) → e.sent ≡ map ToServer ms → MaySay l ms so_far → Says
  says ms sent may =
      let same : said_of e.sent ≡ ms = ap said_of sent ∙ said_all ms in
      record {
        comes = subst (λ ms. EachMay (MayGoUp l) (standing_up l) ms so_far) (sym same) may.comes;
        plain = subst IsPlain (ap (λ ms. after (standing_up l) ms so_far) (sym same) ∙ sym (said_status (standing_up l) e.sent so_far)) may.plain;
      }

  -- a request for one of the locks given back, behind the returns
  again : (request : Option Request) (s : LockStanding) → s ≡ without_lease (list_any (is_lock l) (due p c after_it (unsent e ∷ es))) so_far → IsPlain so_far → IsPlain s
      → MaySay l (asks_again p c before after_it request (unsent e ∷ es) es) s
  again (Some (Enter k Write)) s is plain_so_far plain = again_one p c l after_it (unsent e ∷ es) plain_so_far k
      (not (is_closing p c before k es) && list_any (is_lock k) (due p c after_it (unsent e ∷ es))) s is plain
      (λ yes. (both (not (is_closing p c before k es)) (list_any (is_lock k) (due p c after_it (unsent e ∷ es))) yes).1)
  again request s is plain_so_far plain = record { comes = tt; plain = plain }

  client_does : (t : ThreadId) (request : Request) → IsPlain so_far → Does p c t request before after_it e es → Says
  client_does t request plain does =
      let event : Event = Act t request does.reply (woken_by request does.reply es) in
      says _ does.sends (subst (λ ms. MaySay l ms so_far)
      (sym (append_assoc (commits p t event es) (returns p c after_it (unsent e ∷ es)) (asks_again p c before after_it (after_it t) (unsent e ∷ es) es)))
      (deaf_first l (commits p t event es) _ so_far (commits_deaf p l t event (ending_of event (locks_of t es)) es)
      (gives_back_then p c l after_it (unsent e ∷ es) plain (asks_again p c before after_it (after_it t) (unsent e ∷ es) es)
      (λ s is plain_s. again (after_it t) s is plain plain_s))))

  client_asks : (need : Need) → IsPlain so_far → standing l es ≡ so_far → Asks p c need after_it e es → Says
  client_asks need plain same asks = says _ asks.sends
      (gives_back_then p c l after_it (unsent e ∷ es) plain (asks.message ∷ [])
      (ask_one p c l after_it (unsent e ∷ es) plain need es asks.message same asks.asked))

  does_or_asks : (t : ThreadId) (request : Request) (need : Option Need) → IsPlain so_far → standing l es ≡ so_far → DoesOrAsks p c t request need before after_it e es → Says
  does_or_asks t request None plain same h = client_does t request plain h
  does_or_asks t request (Some need) plain same h = client_asks need plain same h

  acts_on : (t : ThreadId) (request : Option Request) → IsPlain so_far → standing l es ≡ so_far → ActsOn p c t request before after_it e es → Says
  acts_on t None plain same h = absurd h
  acts_on t (Some request) plain same h = does_or_asks t request (unmet p c before t request es) plain same h

  by_input : (input : Input) → e.input ≡ input → IsPlain so_far → ClientStepOn p c input before after_it e es → Says
  by_input (input.Act index) is plain h = acts_on (record { client = c; index = index }) (before (record { client = c; index = index })) plain
      (ap (λ input. by_taken_down (standing_down l) input (standing l es)) (sym is)) h.acts
  by_input (input.TookDown m) is plain h = says (returns p c after_it (unsent e ∷ es)) h.sends (gives_back_alone p c l after_it (unsent e ∷ es) plain)
  by_input (input.Flush o) is plain h = says (up.Flushed o ∷ []) h.sends (record { comes = (tt, tt); plain = plain })
  by_input (input.Rejoin d) is plain h = says [] h.sends (record { comes = tt; plain = plain })
  by_input other is plain h = absurd h

  -- What a client's entry says of a lock may come where the lock stands with it.
  pub client_says : IsPlain (standing l es) → ClientStep p c before after_it e es → Says
  client_says plain h = by_input e.input refl (plain_taken l e.input (standing l es) plain) h

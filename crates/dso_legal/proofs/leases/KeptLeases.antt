-- A client's entry keeps the lease of a lock that one of its threads holds: a grant comes only where there is no lease, and a
-- lease is given back only where no thread holds its lock.
use Rattle.std.specs.List.{list_any, AllByRecursion}
use Rattle.std.proofs.Common.{ℕ, ◌≡◌, ◌≢◌, refl, sym, ◌∙◌, ap, subst, Bool, true, false, cond, not, ◌&&◌, ◌||◌, is_some, Option, Some, None, List, [], ◌∷◌, ◌++◌, map}
use Rattle.std.specs.Prelude.{is_none}
use Rattle.dso_base.specs.declared.journal.Entry.{Entry}
use Rattle.dso_base.specs.declared.journal.Input.{Input}
use Rattle.dso_base.specs.declared.journal.Input.TheVariants as input
use Rattle.dso_base.specs.declared.journal.Sent.TheVariants.{ToServer}
use Rattle.dso_base.specs.declared.lock.Level.{Level}
use Rattle.dso_base.specs.declared.lock.Level.TheVariants.{Write}
use Rattle.dso_base.specs.declared.lock.LockName.{LockName}
use Rattle.dso_base.specs.declared.lock.ThreadId.{ThreadId}
use Rattle.dso_base.specs.declared.message.Down.{Down}
use Rattle.dso_base.specs.declared.message.Down.TheVariants as down
use Rattle.dso_base.specs.declared.message.Up.{Up}
use Rattle.dso_base.specs.declared.message.Up.TheVariants as up
use Rattle.dso_base.specs.declared.record.Ending.{Ending}
use Rattle.dso_base.specs.declared.request.Event.{Event}
use Rattle.dso_base.specs.declared.request.Event.TheVariants.{Act}
use Rattle.dso_base.specs.declared.request.Request.{Request}
use Rattle.dso_base.specs.declared.request.Request.TheVariants.{Enter}
use Rattle.dso_base.specs.Following.{is_thread}
use Rattle.dso_plain.specs.KeyTests.{is_lock}
use Rattle.dso_plain.specs.State.{Hold}
use Rattle.dso_plain.proofs.keys.SameKeys.{same_lock, same_thread}
use Rattle.dso_law.specs.declared.readings.LockStanding.{LockStanding}
use Rattle.dso_law.specs.Settings.{Settings, threads_of}
use Rattle.dso_law.specs.Entries.{unsent, by_taken_down}
use Rattle.dso_law.specs.Threads.{locks_of, hold_of, ending_of}
use Rattle.dso_law.specs.Copies.{is_object_asked}
use Rattle.dso_law.specs.Records.{is_batch_asked}
use Rattle.dso_law.specs.ClientWaiters.{client_list}
use Rattle.dso_law.specs.Leases.{standing_up, standing_down, standing, leased, is_asked_for, since_grant, is_entered, leased_locks}
use Rattle.dso_law.specs.Closing.{is_closing, is_free, is_lease_due, due}
use Rattle.dso_law.specs.RequestNeeds.{Need, NeedsId, NeedsObject, NeedsClass, NeedsMark, NeedsLease, NeedsOthersOut, NeedsAck, unmet, ask_for}
use Rattle.dso_law.specs.Replies.{woken_by}
use Rattle.dso_law.specs.FitsDown.{FitsDown}
use Rattle.dso_law.specs.ClientStep.{record_of, commits, returns, asks_again, Does, Asks, DoesOrAsks, ActsOn, ClientStepOn, ClientStep}
use Rattle.dso_legal.specs.Agreement.{after}
use Rattle.dso_legal.proofs.leases.LeaseSteps.{unless_true, no_both, IsPlain}
use Rattle.dso_legal.proofs.leases.ClientLeases.{neither, has_is, ask_is}
use Rattle.dso_legal.proofs.leases.Locks.{each_passes}
use Rattle.dso_legal.proofs.channels.InFlight.{said_of, said_status, said_all}

-- the message leaves the lease of the lock
abbrev pub LeavesLease : LockName → Up → Type 0
LeavesLease l (up.Return k threads) = is_lock l k ≡ false
LeavesLease l m = Unit {0}

left_one : (l : LockName) (m : Up) (s : LockStanding) → LeavesLease l m → (standing_up l m s).lease ≡ s.lease
left_one l (up.Request k level) s h = by (is_lock l k)
  where
    by : (b : Bool) → (cond b (record s { is_asked = true }) s).lease ≡ s.lease
    by true = refl
    by false = refl
left_one l (up.Return k threads) s h = ap (λ (r : LockStanding). r.lease) (unless_true (is_lock l k) (record s { lease = None }) s h)
left_one l m s h = refl

-- and so do messages that all leave it
lease_left : (l : LockName) (ms : List Up) (s : LockStanding) → AllByRecursion (LeavesLease l) ms → (after (standing_up l) ms s).lease ≡ s.lease
lease_left l [] s h = refl
lease_left l (m ∷ ms) s h = lease_left l ms (standing_up l m s) h.1 ∙ left_one l m s h.0

each_append : {X : Type 0} (P : X → Type 0) (xs ys : List X) → AllByRecursion P xs → AllByRecursion P ys → AllByRecursion P (xs ++ ys)
each_append P [] ys h k = k
each_append P (x ∷ xs) ys h k = (h.0, each_append P xs ys h.1 k)

-- returns of other locks leave it
returns_leave : (l : LockName) (list : LockName → List ThreadId) (locks : List LockName) → list_any (is_lock l) locks ≡ false → AllByRecursion (LeavesLease l) (map (λ k. up.Return k (list k)) locks)
returns_leave l list [] e = tt
returns_leave l list (k ∷ locks) e =
    let no = neither (is_lock l k) (list_any (is_lock l) locks) e in
    (no.0, returns_leave l list locks no.1)

-- and so does a record
record_leaves : (p : Settings) (l : LockName) (t : ThreadId) (event : Event) (ending : Option Ending) (es : List Entry) → AllByRecursion (LeavesLease l) (record_of p t event ending es)
record_leaves p l t event None es = tt
record_leaves p l t event (Some ending) es = (tt, tt)

-- and what is asked for a need
ask_leaves : (l : LockName) (need : Need) (es : List Entry) (m : Up) → ask_for need es ≡ Some m → LeavesLease l m
ask_leaves l NeedsId es m ask = subst (LeavesLease l) (sym (ask_is (is_batch_asked es) up.IdAsk m ask).0) tt
ask_leaves l (NeedsObject o) es m ask = subst (LeavesLease l) (sym (ask_is (is_object_asked o es) (up.Fault o) m ask).0) tt
ask_leaves l (NeedsLease k level) es m ask = subst (LeavesLease l) (sym (ask_is (is_some (leased k es) || is_asked_for k es) (up.Request k level) m ask).0) tt
ask_leaves l (NeedsClass o) es m ask = absurd (cc ask)
ask_leaves l (NeedsMark k) es m ask = absurd (cc ask)
ask_leaves l (NeedsOthersOut k) es m ask = absurd (cc ask)
ask_leaves l NeedsAck es m ask = absurd (cc ask)

-- a thread of a list that passes a test is found
pub found : (t : ThreadId) (test : ThreadId → Bool) (threads : List ThreadId) → test t ≡ true → list_any (is_thread t) threads ≡ true → list_any test threads ≡ true
found t test [] is e = absurd (cc e)
found t test (u ∷ threads) is e = by (is_thread t u) (test u) refl refl e (found t test threads is)
  where
    by : (a b : Bool) → is_thread t u ≡ a → test u ≡ b → (a || list_any (is_thread t) threads) ≡ true → (list_any (is_thread t) threads ≡ true → list_any test threads ≡ true) → (b || list_any test threads) ≡ true
    by a true f g e later = refl
    by true false f g e later = no_both (test t) is (subst (λ v. test v ≡ false) (same_thread t u f) g)
    by false false f g e later = later e

-- where the last of three tests fails, not all hold
last_fails : (a b d : Bool) → d ≡ false → (a && (b && d)) ≡ false
last_fails true true d e = e
last_fails true false d e = refl
last_fails false b d e = refl

-- A lock that a thread of the client holds isn't given back.
module _ (p : Settings) (c : ℕ) (next : ThreadId → Option Request) (t : ThreadId) (l : LockName) (hold : Hold) (es : List Entry) (its : list_any (is_thread t) (threads_of p c) ≡ true) (held : hold_of t l es ≡ Some hold) where
  isnt_free : is_free p c next l es ≡ false
  isnt_free = ap not (found t (λ u. not (is_none (hold_of u l es))) (threads_of p c) (ap (λ (o : Option Hold). not (is_none o)) held) its)

  isnt_due : is_lease_due p c next l es ≡ false
  isnt_due = last_fails (is_closing p c next l es) (is_entered l es) (is_free p c next l es) isnt_free

  isnt_in_due : (b : Bool) → list_any (is_lock l) (due p c next es) ≡ b → b ≡ false
  isnt_in_due true e = no_both (is_lease_due p c next l es) (has_is (λ k. is_lease_due p c next k es ≡ true) l (due p c next es) (each_passes (λ k. is_lease_due p c next k es) (leased_locks es)) e) isnt_due
  isnt_in_due false e = refl

  returns_keep : AllByRecursion (LeavesLease l) (returns p c next es)
  returns_keep = returns_leave l (λ k. client_list k es) (due p c next es) (isnt_in_due (list_any (is_lock l) (due p c next es)) refl)

-- a lock that is granted
abbrev pub with_lease : Level → LockStanding
with_lease level = record { lease = Some level; is_asked = false }

-- what the client takes keeps the lease of a lock, and whether it is entered
abbrev pub TakenKept : LockName → List Entry → Input → Type 0
TakenKept l es i = ((by_taken_down (standing_down l) i (standing l es)).lease ≡ leased l es) × (by_taken_down (since_grant l) i (is_entered l es) ≡ is_entered l es)

-- a grant comes only where there is no lease
took : (p : Settings) (c : ℕ) (l : LockName) (m : Down) (es : List Entry) → IsPlain (standing l es) → leased l es ≢ None → FitsDown p c m es → TakenKept l es (input.TookDown m)
took p c l (down.Grant k level) es plain there fits = by (is_lock l k) refl
  where
    by : (b : Bool) → is_lock l k ≡ b → ((cond b (with_lease level) (standing l es)).lease ≡ leased l es) × (cond b false (is_entered l es) ≡ is_entered l es)
    by true e = absurd (there (plain (subst (λ j. is_asked_for j es ≡ true) (same_lock l k e) fits)))
    by false e = (refl, refl)
took p c l m es plain there fits = (refl, refl)

module _ (p : Settings) (c : ℕ) (before after_it : ThreadId → Option Request) (e : Entry) (es : List Entry) where
  -- the lease of a lock that a thread of the client holds after the entry isn't given back
  abbrev pub SentKept : Type 0
  SentKept = (t : ThreadId) (l : LockName) (hold : Hold) → list_any (is_thread t) (threads_of p c) ≡ true → hold_of t l (e ∷ es) ≡ Some hold → leased l (e ∷ es) ≡ leased l (unsent e ∷ es)

  -- by the messages that it sends
  kept_by : (l : LockName) (ms : List Up) → e.sent ≡ map ToServer ms → AllByRecursion (LeavesLease l) ms → leased l (e ∷ es) ≡ leased l (unsent e ∷ es)
  kept_by l ms sent leave = ap (λ (s : LockStanding). s.lease) (said_status (standing_up l) e.sent (standing l (unsent e ∷ es))
      ∙ ap (λ ms. after (standing_up l) ms (standing l (unsent e ∷ es))) (ap said_of sent ∙ said_all ms))
      ∙ lease_left l ms (standing l (unsent e ∷ es)) leave

  again_if : (l k : LockName) (b : Bool) → AllByRecursion (LeavesLease l) (cond b (up.Request k Write ∷ []) [])
  again_if l k true = (tt, tt)
  again_if l k false = tt

  again_leaves : (l : LockName) (request : Option Request) → AllByRecursion (LeavesLease l) (asks_again p c before after_it request (unsent e ∷ es) es)
  again_leaves l (Some (Enter k Write)) = again_if l k (not (is_closing p c before k es) && list_any (is_lock k) (due p c after_it (unsent e ∷ es)))
  again_leaves l request = tt

  -- what the returns of the entry keep
  given : (t : ThreadId) (l : LockName) (hold : Hold) → list_any (is_thread t) (threads_of p c) ≡ true → hold_of t l (e ∷ es) ≡ Some hold → AllByRecursion (LeavesLease l) (returns p c after_it (unsent e ∷ es))
  given t l hold its held = returns_keep p c after_it t l hold (unsent e ∷ es) its held

  did : (v : ThreadId) (request : Request) → Does p c v request before after_it e es → SentKept
  did v request does t l hold its held =
      let event : Event = Act v request does.reply (woken_by request does.reply es) in
      let again : List Up = asks_again p c before after_it (after_it v) (unsent e ∷ es) es in
      kept_by l (commits p v event es ++ returns p c after_it (unsent e ∷ es) ++ again) does.sends
      (each_append (LeavesLease l) (commits p v event es ++ returns p c after_it (unsent e ∷ es)) again
      (each_append (LeavesLease l) (commits p v event es) (returns p c after_it (unsent e ∷ es)) (record_leaves p l v event (ending_of event (locks_of v es)) es) (given t l hold its held))
      (again_leaves l (after_it v)))

  asked : (need : Need) → Asks p c need after_it e es → SentKept
  asked need asks t l hold its held = kept_by l (returns p c after_it (unsent e ∷ es) ++ asks.message ∷ []) asks.sends
      (each_append (LeavesLease l) (returns p c after_it (unsent e ∷ es)) (asks.message ∷ []) (given t l hold its held) (ask_leaves l need es asks.message asks.asked, tt))

  did_or_asked : (v : ThreadId) (request : Request) (need : Option Need) → DoesOrAsks p c v request need before after_it e es → SentKept
  did_or_asked v request None h = did v request h
  did_or_asked v request (Some need) h = asked need h

  acted : (v : ThreadId) (request : Option Request) → ActsOn p c v request before after_it e es → SentKept
  acted v None h = absurd h
  acted v (Some request) h = did_or_asked v request (unmet p c before v request es) h

  sent_kept : (i : Input) → ClientStepOn p c i before after_it e es → SentKept
  sent_kept (input.Act index) h = acted (record { client = c; index = index }) (before (record { client = c; index = index })) h.acts
  sent_kept (input.TookDown m) h = λ t l hold its held. kept_by l (returns p c after_it (unsent e ∷ es)) h.sends (given t l hold its held)
  sent_kept (input.Flush o) h = λ t l hold its held. kept_by l (up.Flushed o ∷ []) h.sends (tt, tt)
  sent_kept (input.Rejoin d) h = λ t l hold its held. kept_by l [] h.sends tt
  sent_kept other h = absurd h

  taken_kept : (l : LockName) (i : Input) → IsPlain (standing l es) → leased l es ≢ None → ClientStepOn p c i before after_it e es → TakenKept l es i
  taken_kept l (input.TookDown m) plain there h = took p c l m es plain there h.fits
  taken_kept l other plain there h = (refl, refl)

  -- what the entry takes and sends keeps the leases of the locks that are held
  pub record KeepsLeases : Type 0 where
    pub taken : (l : LockName) → leased l es ≢ None → TakenKept l es e.input
    pub sent : SentKept

  pub keeps_leases : ((l : LockName) → IsPlain (standing l es)) → ClientStep p c before after_it e es → KeepsLeases
  keeps_leases plain h = record { taken = λ l there. taken_kept l e.input (plain l) there h; sent = sent_kept e.input h }

-- The lock that an act asks for again.
use Rattle.std.specs.List.{list_any}
use Rattle.std.proofs.Common.{◌≡◌, ℕ, refl, sym, ◌∙◌, ap, subst, Bool, true, false, cond, not, ◌&&◌, ◌||◌, is_some, Option, Some, None, List, [], ◌∷◌, ◌++◌, map, append-nil}
use Rattle.std.specs.Option.{option_map}
use Rattle.dso_base.specs.declared.journal.Entry.{Entry}
use Rattle.dso_base.specs.declared.lock.Level.{Level}
use Rattle.dso_base.specs.declared.lock.Level.TheVariants.{Read, Write}
use Rattle.dso_base.specs.declared.lock.LockName.{LockName}
use Rattle.dso_base.specs.declared.lock.ThreadId.{ThreadId}
use Rattle.dso_base.specs.declared.message.Up.{Up}
use Rattle.dso_base.specs.declared.message.Up.TheVariants as up
use Rattle.dso_base.specs.declared.record.Txn.{Txn}
use Rattle.dso_base.specs.declared.request.Request.{Request}
use Rattle.dso_base.specs.declared.request.Request.TheVariants.{Enter}
use Rattle.dso_hold.specs.Holds.{hold_in}
use Rattle.dso_lease.specs.Leases.{standing_in, with_standing, after_want}
use Rattle.dso_plain.specs.KeyTests.{is_lock}
use Rattle.dso_plain.proofs.keys.SameKeys.{same_lock}
use Rattle.dso_law.specs.declared.readings.LockStanding as law
use Rattle.dso_law.specs.ClientStep.{returns, asks_again}
use Rattle.dso_law.specs.ClientWaiters.{client_list, list_by_act, list_by_sent}
use Rattle.dso_law.specs.Closing.{is_closing, is_lease_due, due}
use Rattle.dso_law.specs.Leases.{standing_up, standing, leased, is_entered, is_recalled, is_asked_for}
use Rattle.dso_client.specs.declared.answered.Answered.{Answered}
use Rattle.dso_client.specs.declared.client_state.ClientState.{ClientState}
use Rattle.dso_client.specs.declared.lock_state.LockState.{LockState}
use Rattle.dso_client.specs.StateStands.{ClientPartsStand}
use Rattle.dso_client.specs.ActEffects.{acting, applied}
use Rattle.dso_client.specs.LockStateStands.{LockStateStands, as_hold, list_at, standing_as}
use Rattle.dso_client.specs.RunPoints.{RunPoint}
use Rattle.dso_client.specs.LeaseReturns.{AsksAgain, asked_again, message_sent, record_sent, returns_lock}
use Rattle.dso_client.specs.RunFacts.{RunFacts}
use Rattle.dso_client.proofs.asked.Locks.{idle, asks_now}
use Rattle.dso_client.proofs.due.Settled.{due_has, standing_returned}
use Rattle.dso_client.proofs.due.Sent.{in_parts, parts_on}
use Rattle.dso_client.proofs.heard.Locks.{at_lock}

-- the locks that are returned by these messages
returned_locks : (l : LockName) (list : LockName → List ThreadId) (locks : List LockName) → list_any (returns_lock l) (map (λ k. up.Return k (list k)) locks) ≡ list_any (is_lock l) locks
returned_locks l list [] = refl
returned_locks l list (k ∷ locks) = ap (λ b. is_lock l k || b) (returned_locks l list locks)

first_of : (a b : Bool) → (a && b) ≡ true → a ≡ true
first_of true b e = refl
first_of false b e = absurd (cc e)

-- a lock that is asked for again was given back
was_returned : (request : Option Request) (closing : Bool) (returned : List Up) (l : LockName) → asked_again request closing returned ≡ Some l → list_any (returns_lock l) returned ≡ true
was_returned None closing returned l e = absurd (cc e)
was_returned (Some (Enter k Read)) closing returned l e = absurd (cc e)
was_returned (Some (Enter k Write)) closing returned l e = by closing (list_any (returns_lock k) returned) refl e
  where
    by : (a b : Bool) → list_any (returns_lock k) returned ≡ b → cond (not a && b) (Some k) None ≡ Some l → list_any (returns_lock l) returned ≡ true
    by true b f e = absurd (cc e)
    by false true f e = let same : k ≡ l = cc e in ap (λ x. list_any (returns_lock x) returned) (sym same) ∙ f
    by false false f e = absurd (cc e)
was_returned (Some request) closing returned l e = absurd (cc e)

module _ (clock : ℕ) (act : Answered) (next : ThreadId → Option Request) (at : RunPoint) where
  abbrev dues : List LockName
  dues = due at.settings at.client next (applied clock act at).entries

  -- a lease that is given back was there before the act
  was_leased : (l : LockName) → list_any (is_lock l) dues ≡ true → is_some (leased l at.entries) ≡ true
  was_leased l there = first_of (is_some (leased l at.entries)) (is_lease_due at.settings at.client next l (applied clock act at).entries) (sym (due_has (acting clock act [] next at) l) ∙ there)

  told_returned : (returned : List Up) → returned ≡ returns at.settings at.client next (applied clock act at).entries → (l : LockName) → list_any (returns_lock l) returned ≡ list_any (is_lock l) dues
  told_returned returned is l = ap (list_any (returns_lock l)) is ∙ returned_locks l (λ k. client_list k (applied clock act at).entries) dues

  abbrev WasClosing : Option Request → Bool → Type 0
  WasClosing request closing = (l : LockName) → request ≡ Some (Enter l Write) → is_some (leased l at.entries) ≡ true → closing ≡ is_closing at.settings at.client at.next l at.entries

  abbrev requested : Option LockName → List Up
  requested lock = message_sent (option_map (λ l. up.Request l Write) lock)

  pub asks_so : (request : Option Request) (closing : Bool) (returned : List Up) → returned ≡ returns at.settings at.client next (applied clock act at).entries → WasClosing request closing
      → requested (asked_again request closing returned) ≡ asks_again at.settings at.client at.next next request (applied clock act at).entries at.entries
  asks_so None closing returned is was = refl
  asks_so (Some (Enter l Read)) closing returned is was = refl
  asks_so (Some (Enter l Write)) closing returned is was = ap (λ b. requested (cond (not closing && b) (Some l) None)) (told_returned returned is l) ∙ by (list_any (is_lock l) dues) refl
    where
      none : (a b : Bool) → requested (cond (not a && false) (Some l) None) ≡ cond (not b && false) (up.Request l Write ∷ []) []
      none true true = refl
      none true false = refl
      none false true = refl
      none false false = refl

      alike : (a : Bool) → requested (cond (not a && true) (Some l) None) ≡ cond (not a && true) (up.Request l Write ∷ []) []
      alike true = refl
      alike false = refl

      by : (b : Bool) → list_any (is_lock l) dues ≡ b → requested (cond (not closing && b) (Some l) None) ≡ cond (not (is_closing at.settings at.client at.next l at.entries) && b) (up.Request l Write ∷ []) []
      by true e = alike closing ∙ ap (λ a. cond (not a && true) (up.Request l Write ∷ []) []) (was l refl (was_leased l e))
      by false e = none closing (is_closing at.settings at.client at.next l at.entries)
  asks_so (Some request) closing returned is was = refl

  abbrev entries_so : List Up → List Entry
  entries_so sent = (acting clock act sent next at).entries

  -- one more request, of a lock that is idle
  lock_state_asked : (sent : List Up) (l : LockName) (level : Level) (old new : LockState) → LockStateStands (acting clock act sent next at) old → leased l (acting clock act sent next at).entries ≡ None
      → is_asked_for l (acting clock act sent next at).entries ≡ false → new.holds ≡ old.holds → new.lists ≡ old.lists
      → standing_in new.leases ≡ with_standing l (Some (after_want level (standing_in old.leases l))) (standing_in old.leases)
      → LockStateStands (acting clock act (sent ++ up.Request l level ∷ []) next at) new
  lock_state_asked sent l level old new h unleased unasked held lists wanted = record {
    holds = λ t x. ap (λ holds. option_map as_hold (hold_in holds (x, t))) held ∙ h.holds t x;
    leases = λ x. ap (λ leases. leases x) wanted ∙ (at_lock l (Some (after_want level (standing_in old.leases l))) (standing_in old.leases) x ∙ (by x (is_lock x l) refl
        ∙ ap (λ (s : law.LockStanding). standing_as s.lease (is_entered x (entries_so sent)) (is_recalled x (entries_so sent)) s.is_asked) (sym (in_parts (standing_up x) sent (up.Request l level ∷ []) (standing x at.entries)))));
    lists = λ x. ap (λ lists. list_at lists x) lists ∙ (h.lists x ∙ sym (in_parts (list_by_sent x) sent (up.Request l level ∷ []) (list_by_act x act.thread act.request act.reply act.woken (client_list x at.entries))));
  }
    where
      was : standing_in old.leases l ≡ None
      was = h.leases l ∙ idle (leased l (entries_so sent)) (is_entered l (entries_so sent)) (is_recalled l (entries_so sent)) (is_asked_for l (entries_so sent)) unleased unasked

      by : (x : LockName) (b : Bool) → is_lock x l ≡ b → cond b (Some (after_want level (standing_in old.leases l))) (standing_in old.leases x)
          ≡ standing_as (cond b (record (standing x (entries_so sent)) { is_asked = true }) (standing x (entries_so sent))).lease (is_entered x (entries_so sent)) (is_recalled x (entries_so sent)) (cond b (record (standing x (entries_so sent)) { is_asked = true }) (standing x (entries_so sent))).is_asked
      by x true e = ap (λ s. Some (after_want level s)) was ∙ asks_now (leased x (entries_so sent)) (is_entered x (entries_so sent)) (is_recalled x (entries_so sent)) (ap (λ k. leased k (entries_so sent)) (sym (same_lock x l e)) ∙ unleased)
      by x false e = h.leases x

  asked_same : (txn : Option Txn) (l : LockName) → is_asked_for l (acting clock act (record_sent txn) next at).entries ≡ is_asked_for l at.entries
  asked_same None l = refl
  asked_same (Some txn) l = refl

  -- a lock that was given back is idle
  gone_now : (txn : Option Txn) (returned : List Up) → returned ≡ returns at.settings at.client next (applied clock act at).entries → (l : LockName) → list_any (is_lock l) dues ≡ true
      → standing l (acting clock act (record_sent txn ++ returned) next at).entries ≡ record (standing l (acting clock act (record_sent txn) next at).entries) { lease = None }
  gone_now txn returned is l there =
      ap (λ r. standing l (acting clock act (record_sent txn ++ r) next at).entries) is
      ∙ (standing_returned clock act next at (record_sent txn) (λ k. client_list k (applied clock act at).entries) dues l
      ∙ ap (λ b. cond b (record (standing l (acting clock act (record_sent txn) next at).entries) { lease = None }) (standing l (acting clock act (record_sent txn) next at).entries)) there)

  pub one_asked : (txn : Option Txn) (request : Option Request) (closing : Bool) (returned : List Up) (l : LockName) (old new : ClientState) → ClientPartsStand (acting clock act (record_sent txn ++ returned) next at) old → RunFacts at
      → returned ≡ returns at.settings at.client next (applied clock act at).entries → request ≡ next act.thread → WasClosing request closing → asked_again request closing returned ≡ Some l
      → new.lock_state.holds ≡ old.lock_state.holds → new.lock_state.lists ≡ old.lock_state.lists
      → standing_in new.lock_state.leases ≡ with_standing l (Some (after_want Write (standing_in old.lock_state.leases l))) (standing_in old.lock_state.leases)
      → new ≡ record old { lock_state = new.lock_state } → AsksAgain clock act (record_sent txn ++ returned) next at (Some (up.Request l Write)) new
  one_asked txn request closing returned l old new h facts is its was again held lists wanted same =
      let there : list_any (is_lock l) dues ≡ true = sym (told_returned returned is l) ∙ was_returned request closing returned l again in
      let gone = gone_now txn returned is l there in
      record {
        asks = sym (ap requested again) ∙ (asks_so request closing returned is was ∙ ap (λ r. asks_again at.settings at.client at.next next r (applied clock act at).entries at.entries) its);
        parts = subst (ClientPartsStand (acting clock act ((record_sent txn ++ returned) ++ up.Request l Write ∷ []) next at)) (sym same)
            (parts_on clock act next at (record_sent txn ++ returned) (up.Request l Write ∷ []) tt old new.lock_state h
            (lock_state_asked (record_sent txn ++ returned) l Write old.lock_state new.lock_state h.lock_state (ap (λ (s : law.LockStanding). s.lease) gone)
            (ap (λ (s : law.LockStanding). s.is_asked) gone ∙ (asked_same txn l ∙ facts.apart l (was_leased l there))) held lists wanted));
      }

  pub none_asked : (txn : Option Txn) (request : Option Request) (closing : Bool) (returned : List Up) (old : ClientState) → ClientPartsStand (acting clock act (record_sent txn ++ returned) next at) old
      → returned ≡ returns at.settings at.client next (applied clock act at).entries → request ≡ next act.thread → WasClosing request closing → asked_again request closing returned ≡ None
      → AsksAgain clock act (record_sent txn ++ returned) next at None old
  none_asked txn request closing returned old h is its was again = record {
    asks = sym (ap requested again) ∙ (asks_so request closing returned is was ∙ ap (λ r. asks_again at.settings at.client at.next next r (applied clock act at).entries at.entries) its);
    parts = subst (λ sent. ClientPartsStand (acting clock act sent next at) old) (sym (append-nil (record_sent txn ++ returned))) h;
  }

-- Leases that were given back, one after the other.
use Rattle.std.specs.List.{list_any, AllByRecursion}
use Rattle.std.proofs.Common.{◌≡◌, refl, sym, ◌∙◌, ap, Bool, true, false, cond, ◌||◌, Option, None, List, [], ◌∷◌, ◌++◌, map, append_assoc}
use Rattle.std.specs.BTreeMap.{is_at}
use Rattle.dso_base.specs.declared.lock.LockName.{LockName}
use Rattle.dso_base.specs.declared.lock.ThreadId.{ThreadId}
use Rattle.dso_base.specs.declared.message.Up.{Up}
use Rattle.dso_base.specs.declared.message.Up.TheVariants as up
use Rattle.dso_lease.specs.declared.standing.LeaseStanding.{LeaseStanding}
use Rattle.dso_lease.specs.Leases.{standing_in, with_standing, was_entered}
use Rattle.dso_lookup.specs.Maps.{look, writes, written}
use Rattle.dso_lookup.specs.Orders.{lock_order}
use Rattle.dso_plain.specs.KeyTests.{is_lock}
use Rattle.dso_law.proofs.client.ClientLaws.{lock_either_way}
use Rattle.dso_client.specs.declared.lock_state.LockState.{LockState}
use Rattle.dso_client.specs.LockStateStands.{list_at}
use Rattle.dso_client.specs.LeaseReturns.{AreGivenBack, given_back}
use Rattle.dso_client.proofs.heard.Locks.{at_lock, without_list}

or_none : (b : Bool) → (b || false) ≡ b
or_none true = refl
or_none false = refl

-- one lease
pub one_given : (l : LockName) (old new : LockState) → (was_entered (standing_in old.leases l) ≡ true → standing_in new.leases ≡ with_standing l None (standing_in old.leases))
    → look lock_order new.lists ≡ written (writes (is_at (lock_order l)) (λ _. None)) (look lock_order old.lists) → new.holds ≡ old.holds
    → was_entered (standing_in old.leases l) ≡ true → AreGivenBack (l ∷ []) old new
one_given l old new gives gone held entered = record {
  holds = held;
  leases = λ x. ap (λ leases. leases x) (gives entered)
      ∙ (at_lock l None (standing_in old.leases) x ∙ ap (λ b. cond b None (standing_in old.leases x)) (sym (or_none (is_lock x l))));
  lists = λ x. without_list l old.lists new.lists gone x ∙ ap (λ b. cond b [] (list_at old.lists x)) (sym (or_none (is_lock x l)));
}

-- what was returned, told alike of lists that are the same elsewhere
told_alike : (l : LockName) (f g : LockName → List ThreadId) → ((k : LockName) → is_lock k l ≡ false → f k ≡ g k) → (locks : List LockName) → list_any (is_lock l) locks ≡ false
    → map (λ k. up.Return k (f k)) locks ≡ map (λ k. up.Return k (g k)) locks
told_alike l f g same [] none = refl
told_alike l f g same (k ∷ locks) none = by (is_lock l k) refl none (told_alike l f g same locks)
  where
    by : (b : Bool) → is_lock l k ≡ b → (b || list_any (is_lock l) locks) ≡ false → (list_any (is_lock l) locks ≡ false → map (λ k. up.Return k (f k)) locks ≡ map (λ k. up.Return k (g k)) locks)
        → up.Return k (f k) ∷ map (λ k. up.Return k (f k)) locks ≡ up.Return k (g k) ∷ map (λ k. up.Return k (g k)) locks
    by true e none later = absurd (cc none)
    by false e none later =
        let first = same k (lock_either_way k l ∙ e) in
        let rest = later none in
        λ i. up.Return k (first i) ∷ rest i

-- what may be given back elsewhere still may
still_may : (l : LockName) (old mid : LockName → Option LeaseStanding) → ((k : LockName) → is_lock k l ≡ false → mid k ≡ old k) → (locks : List LockName) → list_any (is_lock l) locks ≡ false
    → AllByRecursion (λ k. was_entered (old k) ≡ true) locks → AllByRecursion (λ k. was_entered (mid k) ≡ true) locks
still_may l old mid same [] none may = tt
still_may l old mid same (k ∷ locks) none may = by (is_lock l k) refl none (λ n. still_may l old mid same locks n may.1)
  where
    by : (b : Bool) → is_lock l k ≡ b → (b || list_any (is_lock l) locks) ≡ false → (list_any (is_lock l) locks ≡ false → AllByRecursion (λ k. was_entered (mid k) ≡ true) locks)
        → AllByRecursion (λ k. was_entered (mid k) ≡ true) (k ∷ locks)
    by true e none later = absurd (cc none)
    by false e none later = (ap was_entered (same k (lock_either_way k l ∙ e)) ∙ may.0, later none)

module _ (l : LockName) (rest : List LockName) (old mid : LockState) (first : AreGivenBack (l ∷ []) old mid) where
  lease_elsewhere : (k : LockName) → is_lock k l ≡ false → standing_in mid.leases k ≡ standing_in old.leases k
  lease_elsewhere k e = first.leases k ∙ ap (λ b. cond (b || false) None (standing_in old.leases k)) e

  list_elsewhere : (k : LockName) → is_lock k l ≡ false → list_at mid.lists k ≡ list_at old.lists k
  list_elsewhere k e = first.lists k ∙ ap (λ b. cond (b || false) [] (list_at old.lists k)) e

  once_or_twice : {A : Type 0} (a b : Bool) (none x : A) → cond b none (cond (a || false) none x) ≡ cond (a || b) none x
  once_or_twice true true none x = refl
  once_or_twice true false none x = refl
  once_or_twice false b none x = refl

  -- one lease, and then the others
  pub more_given : (new : LockState) (before sent after : List Up) → list_any (is_lock l) rest ≡ false → sent ≡ before ++ up.Return l (list_at old.lists l) ∷ []
      → (after ≡ sent ++ given_back mid rest) × AreGivenBack rest mid new → (after ≡ before ++ given_back old (l ∷ rest)) × AreGivenBack (l ∷ rest) old new
  more_given new before sent after apart one more = (
    more.0 ∙ (ap (λ s. s ++ given_back mid rest) one ∙ (append_assoc before (up.Return l (list_at old.lists l) ∷ []) (given_back mid rest)
        ∙ ap (λ rest. before ++ up.Return l (list_at old.lists l) ∷ rest) (told_alike l (list_at mid.lists) (list_at old.lists) list_elsewhere rest apart))),
    record {
      holds = more.1.holds ∙ first.holds;
      leases = λ x. more.1.leases x ∙ (ap (cond (list_any (is_lock x) rest) None) (first.leases x) ∙ once_or_twice (is_lock x l) (list_any (is_lock x) rest) None (standing_in old.leases x));
      lists = λ x. more.1.lists x ∙ (ap (cond (list_any (is_lock x) rest) []) (first.lists x) ∙ once_or_twice (is_lock x l) (list_any (is_lock x) rest) [] (list_at old.lists x));
    },
  )

  pub rest_may : list_any (is_lock l) rest ≡ false → AllByRecursion (λ k. was_entered (standing_in old.leases k) ≡ true) rest → AllByRecursion (λ k. was_entered (standing_in mid.leases k) ≡ true) rest
  rest_may apart may = still_may l (standing_in old.leases) (standing_in mid.leases) lease_elsewhere rest apart may

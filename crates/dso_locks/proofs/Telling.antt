-- What is told for one lock that hears something, and how all stand then.
use Rattle.slab.specs.Slab as slab
use Rattle.std.proofs.Common.{ℕ, ◌≡◌, refl, sym, ◌∙◌, ap, subst, Bool, true, false, cond, eqb, Option, Some, None, List, []}
use Rattle.std.proofs.Math.Path.{fun_ext}
use Rattle.std.specs.BTreeMap.{BTreeMap}
use Rattle.std.specs.Option.{option_map}
use Rattle.dso_base.specs.declared.journal.Sent.{Sent}
use Rattle.dso_base.specs.declared.lock.Level.{Level}
use Rattle.dso_base.specs.declared.lock.LockName.{LockName}
use Rattle.dso_law.specs.Entries.{by_sent_down}
use Rattle.dso_law.proofs.client.ClientLaws.{lock_either_way}
use Rattle.dso_locks.specs.declared.lock.Lock.{Lock}
use Rattle.dso_locks.specs.declared.told.Told.{Told}
use Rattle.dso_locks.specs.Locks.{LockState, unused, told_to, messages_of, without_lease, lost_by, IsTold}
use Rattle.dso_locks.specs.Serving.{state_in, IsServed}
use Rattle.dso_locks.specs.LockRows.{state_of, placed_state, states_by, ArePlaced, ChangesAt}
use Rattle.dso_locks.proofs.Placing.{others_stay}
use Rattle.dso_lookup.specs.Maps.{look}
use Rattle.dso_lookup.specs.Orders.{lock_order}
use Rattle.dso_plain.specs.KeyTests.{is_lock}
use Rattle.dso_plain.proofs.keys.SameKeys.{same_lock}

-- from what was sent before on, one lock hears something and is served, and the others stay
pub record Changes (l : LockName) (hears : LockState → LockState) (old new : LockName → LockState)
    (before sent : List Sent) : Type 0 where
  pub served : IsServed l (hears (old l)) (new l) before sent
  pub others : (k : LockName) → is_lock k l ≡ false → new k ≡ old k

-- how a lock stands that has this place
pub stands_at : (index : BTreeMap LockName ℕ) (locks : slab.Slab Lock) (l : LockName) (place : ℕ) → look lock_order index l ≡ Some place → states_by index locks l ≡ state_of (slab.get locks place)
stands_at index locks l place at = ap (λ found. placed_state locks found) at

-- the lock of a place is served, so the lock of that name is, and the others stay
module _ (index : BTreeMap LockName ℕ) (old new : slab.Slab Lock) (l : LockName) (place : ℕ) (hears : LockState → LockState) (before sent : List Sent) (placed : ArePlaced index old) (at : look lock_order index l ≡ Some place) (changes : ChangesAt place old new) where
  -- the lock that is there has that name
  there : (lock : Lock) × (slab.get old place ≡ Some lock) × (lock.name ≡ l)
  there = by (slab.get old place) refl (placed.named l place at)
    where
      by : (slot : Option Lock) → slab.get old place ≡ slot → option_map (λ lock. lock.name) slot ≡ Some l → (lock : Lock) × (slab.get old place ≡ Some lock) × (lock.name ≡ l)
      by None e named = absurd (cc named)
      by (Some lock) e named = (lock, e, cc named)

  pub one_changes : ((lock : Lock) → slab.get old place ≡ Some lock → IsServed lock.name (hears (state_in lock)) (state_of (slab.get new place)) before sent) → Changes l hears (states_by index old) (states_by index new) before sent
  one_changes served = record { served = its; others = others_stay index old new l place placed at changes }
    where
      its : IsServed l (hears (states_by index old l)) (states_by index new l) before sent
      its =
          let here : hears (state_in there.0) ≡ hears (states_by index old l) = ap hears (sym (stands_at index old l place at ∙ ap (λ slot. state_of slot) there.1)) in
          subst (λ s. IsServed l s (states_by index new l) before sent) here
          (subst (λ s. IsServed l (hears (state_in there.0)) s before sent) (sym (stands_at index new l place at))
          (subst (λ n. IsServed n (hears (state_in there.0)) (state_of (slab.get new place)) before sent) there.2 (served there.0 there.1)))

-- what is told for the lock that changes, where nothing was sent before
pub told_one : (l : LockName) (hears : LockState → LockState) (old new : LockName → LockState) (all : List Told) → Changes l hears old new [] (messages_of all) → IsTold l hears old new all
told_one l hears old new all changes = record {
  sends = λ p w. changes.served.sends p w;
  stands = fun_ext (λ k. by k (is_lock l k) refl);
}
  where
    by : (k : LockName) (b : Bool) → is_lock l k ≡ b → new k ≡ by_sent_down (told_to k) (messages_of all) (cond b (hears (old k)) (old k))
    by k true e = subst (λ x. new x ≡ by_sent_down (told_to x) (messages_of all) (hears (old x))) (sym (same_lock l k e)) (sym (changes.served.leaves (hears (old l)) refl))
    by k false e =
        let apart : is_lock k l ≡ false = lock_either_way k l ∙ e in
        changes.others k apart ∙ sym (changes.served.others k apart (old k))

-- the same for the lock of a place
pub told_at : (index : BTreeMap LockName ℕ) (old new : slab.Slab Lock) (l : LockName) (place : ℕ) (hears : LockState → LockState) (first all : List Told) → first ≡ [] → ArePlaced index old → look lock_order index l ≡ Some place → ChangesAt place old new
    → ((lock : Lock) → slab.get old place ≡ Some lock → IsServed lock.name (hears (state_in lock)) (state_of (slab.get new place)) (messages_of first) (messages_of all)) → IsTold l hears (states_by index old) (states_by index new) all
told_at index old new l place hears first all none placed at changes served =
    told_one l hears (states_by index old) (states_by index new) all (one_changes index old new l place hears [] (messages_of all) placed at changes (λ lock is. subst (λ xs. IsServed lock.name (hears (state_in lock)) (state_of (slab.get new place)) (messages_of xs) (messages_of all)) none (served lock is)))

-- without a lease of nobody
no_lease : (c : ℕ) → without_lease c unused.leases ≡ unused.leases
no_lease c = λ i. record { lease = fun_ext (λ d. by (eqb d c)) i; recalled = λ _. false }
  where
    by : (b : Bool) → cond {A = Option Level} b None None ≡ None
    by true = refl
    by false = refl

-- a lock that no client asked for yet is so after a loss
pub unused_lost : (c : ℕ) → lost_by c unused ≡ unused
unused_lost c = ap (λ leases. record { leases = leases; queue = [] }) (no_lease c)

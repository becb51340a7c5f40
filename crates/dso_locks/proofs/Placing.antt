-- The places of locks, as they come and as the lock of one place changes.
use Rattle.slab.specs.Slab as slab
use Rattle.std.proofs.Common.{ℕ, ◌≡◌, ◌≢◌, refl, sym, ◌∙◌, ap, Bool, true, false, cond, Option, Some, None}
use Rattle.std.specs.BTreeMap.{BTreeMap, is_at, IsOrdered}
use Rattle.std.specs.Option.{option_map}
use Rattle.dso_base.specs.declared.lock.LockName.{LockName}
use Rattle.dso_locks.specs.declared.lock.Lock.{Lock}
use Rattle.dso_locks.specs.LockRows.{state_of, placed_state, states_by, name_at, ArePlaced, ChangesAt}
use Rattle.dso_lookup.specs.Maps.{look}
use Rattle.dso_lookup.specs.Orders.{lock_order}
use Rattle.dso_law.proofs.client.TimedOut.{lock_self}
use Rattle.dso_plain.specs.KeyTests.{is_lock}
use Rattle.dso_plain.proofs.keys.SameKeys.{same_lock}
use Rattle.dso_plain.proofs.keys.TableOrders.{lock_at}

-- the same index and the same names keep the places
pub placed_as : (index : BTreeMap LockName ℕ) (old new : slab.Slab Lock) → ((place : ℕ) → name_at new place ≡ name_at old place) → ArePlaced index old → ArePlaced index new
placed_as index old new names placed = record { named = λ l place at. names place ∙ placed.named l place at; ordered = placed.ordered }

-- a lock stands at a place of its own
module _ (index : BTreeMap LockName ℕ) (old new : slab.Slab Lock) (l : LockName) (place : ℕ) (placed : ArePlaced index old) (at : look lock_order index l ≡ Some place) (changes : ChangesAt place old new) where
  elsewhere : (k : LockName) (other : ℕ) → is_lock k l ≡ false → look lock_order index k ≡ Some other → other ≢ place
  elsewhere k other apart found same =
      let named : Some k ≡ Some l = sym (placed.named k other found) ∙ (ap (λ q. name_at old q) same ∙ placed.named l place at) in
      let it : k ≡ l = cc named in
      absurd (cc (sym apart ∙ (ap (λ x. is_lock x l) it ∙ lock_self l)))

  -- the other locks stay
  pub others_stay : (k : LockName) → is_lock k l ≡ false → states_by index new k ≡ states_by index old k
  others_stay k apart = by (look lock_order index k) refl
    where
      by : (found : Option ℕ) → look lock_order index k ≡ found → placed_state new found ≡ placed_state old found
      by None e = refl
      by (Some other) e = ap (λ lock. state_of lock) (changes.others other (elsewhere k other apart e))

-- a lock comes to a place that was free
module _ (index more : BTreeMap LockName ℕ) (old new : slab.Slab Lock) (l : LockName) (place : ℕ) (lock : Lock) (placed : ArePlaced index old) (vacant : slab.get old place ≡ None) (filled : slab.Updates old new place (Some lock)) where
  -- no other lock stood there
  not_there : (k : LockName) (other : ℕ) → look lock_order index k ≡ Some other → other ≢ place
  not_there k other found same = absurd (cc (sym (placed.named k other found) ∙ (ap (λ q. name_at old q) same ∙ ap (λ slot. option_map (λ x. x.name) slot) vacant)))

  -- while its name has no place yet
  pub placed_beside : (ordered : IsOrdered lock_order more) → ((k : LockName) → look lock_order more k ≡ look lock_order index k) → ArePlaced more new
  placed_beside ordered same = record {
    named = λ k other found. ap (λ slot. option_map (λ x. x.name) slot) (filled.others other (not_there k other (sym (same k) ∙ found))) ∙ placed.named k other (sym (same k) ∙ found);
    ordered = ordered;
  }

  -- once its name has that place
  pub placed_with : lock.name ≡ l → IsOrdered lock_order more → ((k : LockName) → look lock_order more k ≡ cond (is_at (lock_order l) k) (Some place) (look lock_order index k)) → ArePlaced more new
  placed_with name ordered put = record { named = λ k other found. by k other (is_at (lock_order l) k) refl (sym (put k) ∙ found); ordered = ordered }
    where
      by : (k : LockName) (other : ℕ) (b : Bool) → is_at (lock_order l) k ≡ b → cond b (Some place) (look lock_order index k) ≡ Some other → name_at new other ≡ Some k
      by k other true is found =
          let at : place ≡ other = cc found in
          let it : k ≡ l = same_lock l k (sym (lock_at l k) ∙ is) in
          ap (λ q. name_at new q) (sym at) ∙ (ap (λ slot. option_map (λ x. x.name) slot) filled.changed ∙ ap (λ n. Some n) (name ∙ sym it))
      by k other false is found = ap (λ slot. option_map (λ x. x.name) slot) (filled.others other (not_there k other found)) ∙ placed.named k other found

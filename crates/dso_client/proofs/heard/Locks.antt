-- A grant or a recall that was taken.
use Rattle.std.proofs.Common.{◌≡◌, ℕ, refl, sym, ◌∙◌, ap, Bool, true, false, cond, ◌||◌, is_some, Option, Some, None, List, []}
use Rattle.std.specs.BTreeMap.{BTreeMap, is_at}
use Rattle.std.specs.Bool.{OnTrue, OnFalse}
use Rattle.std.specs.Option.{option_map, unwrap_or}
use Rattle.dso_base.specs.declared.lock.Level.{Level}
use Rattle.dso_base.specs.declared.lock.LockName.{LockName}
use Rattle.dso_base.specs.declared.lock.ThreadId.{ThreadId}
use Rattle.dso_base.specs.declared.message.Down.TheVariants as down
use Rattle.dso_hold.specs.Holds.{hold_in}
use Rattle.dso_lease.specs.Leases as lease
use Rattle.dso_lease.specs.Leases.{standing_in, with_standing, granted_at}
use Rattle.dso_lookup.specs.Maps.{look, writes, or_old, written}
use Rattle.dso_lookup.specs.Orders.{lock_order}
use Rattle.dso_plain.specs.KeyTests.{is_lock}
use Rattle.dso_plain.proofs.keys.TableOrders.{lock_at}
use Rattle.dso_plain.proofs.keys.SameKeys.{same_lock}
use Rattle.dso_law.specs.Leases.{standing, leased, is_entered, is_recalled, is_asked_for}
use Rattle.dso_law.proofs.client.ClientLaws.{lock_either_way}
use Rattle.dso_client.specs.declared.lock_state.LockState.{LockState}
use Rattle.dso_client.specs.MessageEffects.{heard}
use Rattle.dso_client.specs.LockStateStands.{LockStateStands, as_hold, standing_as, list_at}
use Rattle.dso_client.specs.RunPoints.{RunPoint}

-- a function with another value at one lock, seen from the other
pub at_lock : {V : Type 0} (l : LockName) (new : V) (old : LockName → V) (x : LockName) → written (writes (is_at (lock_order l)) (λ _. new)) old x ≡ cond (is_lock x l) new (old x)
at_lock {V} l new old x = ap (λ b. or_old (cond b (Some new) None) (old x)) (lock_at l x ∙ lock_either_way l x) ∙ by (is_lock x l)
  where
    by : (b : Bool) → or_old (cond b (Some new) None) (old x) ≡ cond b new (old x)
    by true = refl
    by false = refl

-- the lists without that of one lock
pub without_list : (l : LockName) (old new : BTreeMap LockName (List ThreadId)) → look lock_order new ≡ written (writes (is_at (lock_order l)) (λ _. None)) (look lock_order old)
    → (x : LockName) → list_at new x ≡ cond (is_lock x l) [] (list_at old x)
without_list l old new gone x = ap (λ lists. unwrap_or (lists x) []) gone ∙ (ap (λ list. unwrap_or list []) (at_lock l None (look lock_order old) x) ∙ by (is_lock x l))
  where
    by : (b : Bool) → unwrap_or (cond b None (look lock_order old x)) [] ≡ cond b [] (unwrap_or (look lock_order old x) [])
    by true = refl
    by false = refl

module _ (clock : ℕ) (at : RunPoint) (l : LockName) (old : LockState) (h : LockStateStands at old) where
  pub grant_heard : (level : Level) (new : LockState) → new.holds ≡ old.holds → standing_in new.leases ≡ with_standing l (Some (granted_at level)) (standing_in old.leases)
      → look lock_order new.lists ≡ written (writes (is_at (lock_order l)) (λ _. None)) (look lock_order old.lists) → LockStateStands (heard clock (down.Grant l level) at) new
  grant_heard level new held granted gone = record {
    holds = λ t x. ap (λ holds. option_map as_hold (hold_in holds (x, t))) held ∙ h.holds t x;
    leases = λ x. ap (λ leases. leases x) granted ∙ (at_lock l (Some (granted_at level)) (standing_in old.leases) x ∙ by x (is_lock x l));
    lists = λ x. without_list l old.lists new.lists gone x ∙ ap (λ list. cond (is_lock x l) [] list) (h.lists x);
  }
    where
      by : (x : LockName) (b : Bool) → cond b (Some (granted_at level)) (standing_in old.leases x)
          ≡ standing_as (cond b (record { lease = Some level; is_asked = false }) (standing x at.entries)).lease (cond b false (is_entered x at.entries)) (cond b false (is_recalled x at.entries))
          (cond b (record { lease = Some level; is_asked = false }) (standing x at.entries)).is_asked
      by x true = refl
      by x false = h.leases x

  -- a recall closes a lease, and leaves what isn't leased
  closes : (level : Option Level) (entered recalled asked : Bool) → lease.is_leased (standing_as level entered recalled asked) ≡ false → (b : Bool)
      → standing_as level entered recalled asked ≡ standing_as level entered (b || recalled) asked
  closes (Some level) entered recalled asked e b = absurd (cc e)
  closes None entered recalled true e b = refl
  closes None entered recalled false e b = refl

  closed : (level : Option Level) (entered recalled asked : Bool) → option_map lease.recalled (standing_as level entered recalled asked) ≡ standing_as level entered true asked
  closed (Some level) entered recalled asked = refl
  closed None entered recalled true = refl
  closed None entered recalled false = refl

  pub recall_heard : (new : LockState) → new.holds ≡ old.holds → standing_in new.leases ≡ with_standing l (option_map lease.recalled (standing_in old.leases l)) (standing_in old.leases)
      → new.lists ≡ old.lists → LockStateStands (heard clock (down.Recall l) at) new
  recall_heard new held recalled same = record {
    holds = λ t x. ap (λ holds. option_map as_hold (hold_in holds (x, t))) held ∙ h.holds t x;
    leases = λ x. ap (λ leases. leases x) recalled ∙ (at_lock l (option_map lease.recalled (standing_in old.leases l)) (standing_in old.leases) x ∙ by x (is_lock x l) refl);
    lists = λ x. ap (λ lists. list_at lists x) same ∙ h.lists x;
  }
    where
      by : (x : LockName) (b : Bool) → is_lock x l ≡ b → cond b (option_map lease.recalled (standing_in old.leases l)) (standing_in old.leases x)
          ≡ standing_as (leased x at.entries) (is_entered x at.entries) (b || is_recalled x at.entries) (is_asked_for x at.entries)
      by x true e = ap (option_map lease.recalled) (h.leases l)
          ∙ (closed (leased l at.entries) (is_entered l at.entries) (is_recalled l at.entries) (is_asked_for l at.entries)
          ∙ ap (λ k. standing_as (leased k at.entries) (is_entered k at.entries) true (is_asked_for k at.entries)) (same_lock x l e))
      by x false e = h.leases x

  -- and where there is no lease nothing is changed
  pub recall_unheard : (new : LockState) → new.holds ≡ old.holds → standing_in new.leases ≡ standing_in old.leases → lease.is_leased (standing_in old.leases l) ≡ false
      → new.lists ≡ old.lists → LockStateStands (heard clock (down.Recall l) at) new
  recall_unheard new held unchanged none same = record {
    holds = λ t x. ap (λ holds. option_map as_hold (hold_in holds (x, t))) held ∙ h.holds t x;
    leases = λ x. ap (λ leases. leases x) unchanged ∙ by x (is_lock x l) refl;
    lists = λ x. ap (λ lists. list_at lists x) same ∙ h.lists x;
  }
    where
      by : (x : LockName) (b : Bool) → is_lock x l ≡ b → standing_in old.leases x
          ≡ standing_as (leased x at.entries) (is_entered x at.entries) (b || is_recalled x at.entries) (is_asked_for x at.entries)
      by x true e = h.leases x ∙ closes (leased x at.entries) (is_entered x at.entries) (is_recalled x at.entries) (is_asked_for x at.entries)
          (ap lease.is_leased (sym (h.leases x)) ∙ (ap (λ k. lease.is_leased (standing_in old.leases k)) (sym (same_lock x l e)) ∙ none)) true
      by x false e = h.leases x

  -- a lock that is asked for stands so
  asked_there : (level : Option Level) (entered recalled asked : Bool) → (is_some level ≡ true → asked ≡ false) → asked ≡ true → lease.is_asked (standing_as level entered recalled asked) ≡ true
  asked_there (Some level) entered recalled asked apart e = absurd (cc (sym (apart refl) ∙ e))
  asked_there None entered recalled true apart e = refl
  asked_there None entered recalled false apart e = absurd (cc e)

  pub grant_asked : (is_some (leased l at.entries) ≡ true → is_asked_for l at.entries ≡ false) → is_asked_for l at.entries ≡ true → lease.is_asked (standing_in old.leases l) ≡ true
  grant_asked apart e = ap lease.is_asked (h.leases l) ∙ asked_there (leased l at.entries) (is_entered l at.entries) (is_recalled l at.entries) (is_asked_for l at.entries) apart e

-- what follows of a test that holds
pub on_true : (b : Bool) (P : Type 0) → b ≡ true → OnTrue b P → P
on_true true P e h = h
on_true false P e h = absurd (cc e)

pub recall_either : (clock : ℕ) (at : RunPoint) (l : LockName) (old : LockState) → LockStateStands at old → (found : Bool) (new : LockState) → new.holds ≡ old.holds → new.lists ≡ old.lists
    → found ≡ lease.is_leased (standing_in old.leases l)
    → OnTrue found (standing_in new.leases ≡ with_standing l (option_map lease.recalled (standing_in old.leases l)) (standing_in old.leases))
    → OnFalse found (standing_in new.leases ≡ standing_in old.leases) → LockStateStands (heard clock (down.Recall l) at) new
recall_either clock at l old h true new held same found closing unchanged = recall_heard clock at l old h new held closing same
recall_either clock at l old h false new held same found closing unchanged = recall_unheard clock at l old h new held unchanged (sym found) same

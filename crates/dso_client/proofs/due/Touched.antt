-- Once a message was taken, no lease is to be given back but the one that it touches.
use Rattle.std.specs.List.{list_any}
use Rattle.std.proofs.Common.{◌≡◌, ℕ, refl, sym, ◌∙◌, ap, subst, Bool, true, false, cond, ◌&&◌, ◌||◌, is_some, is_none, Option, Some, None, [], ◌∷◌}
use Rattle.std.proofs.Math.Path.{fun_ext}
use Rattle.dso_base.specs.declared.lock.Level.{Level}
use Rattle.dso_base.specs.declared.lock.Level.TheVariants.{Read, Write}
use Rattle.dso_base.specs.declared.lock.LockName.{LockName}
use Rattle.dso_base.specs.declared.lock.ThreadId.{ThreadId}
use Rattle.dso_base.specs.declared.message.Down.{Down}
use Rattle.dso_base.specs.declared.message.Down.TheVariants as down
use Rattle.dso_base.specs.declared.request.Request.{Request}
use Rattle.dso_base.specs.declared.request.Request.TheVariants.{Enter, Resume}
use Rattle.dso_base.specs.Following.{is_thread}
use Rattle.dso_plain.specs.KeyTests.{is_lock}
use Rattle.dso_plain.proofs.keys.SameKeys.{same_lock, same_thread}
use Rattle.dso_law.proofs.client.ClientLaws.{lock_either_way}
use Rattle.dso_law.proofs.runs.Quiet.{lock_self}
use Rattle.dso_law.specs.Settings.{threads_of}
use Rattle.dso_law.specs.Threads.{hold_of}
use Rattle.dso_law.specs.ClientWaiters.{is_marked}
use Rattle.dso_law.specs.Leases.{standing, leased, is_entered, is_recalled, granted}
use Rattle.dso_law.specs.Closing.{wants_write, is_read, awaits_write, is_free, is_lease_due, due}
use Rattle.dso_client.specs.MessageEffects.{heard}
use Rattle.dso_client.specs.RunPoints.{RunPoint}
use Rattle.dso_client.specs.LeaseReturns.{is_due_at}
use Rattle.dso_client.specs.TouchedLocks.{resumed_lock, touched}
use Rattle.dso_client.proofs.due.Leased.{leased_granted}
use Rattle.dso_client.proofs.due.Parts.{none_left, one_left}
use Rattle.dso_client.proofs.due.Rising.{rising_distinct, granted_rises}

-- the lock isn't that one
abbrev pub IsApart : LockName → Option LockName → Type 0
IsApart k None = Unit {0}
IsApart k (Some l) = is_lock l k ≡ false

-- a mark makes no difference but to who goes on after a wait on the lock
wants_same : (k : LockName) (request : Option Request) → IsApart k (resumed_lock request) → (a b : Bool) → is_lock k k ≡ true → wants_write k a request ≡ wants_write k b request
wants_same k None apart a b self = refl
wants_same k (Some (Enter l Read)) apart a b self = refl
wants_same k (Some (Enter l Write)) apart a b self = refl
wants_same k (Some (Resume l)) apart a b self = ap (λ t. t && a) (lock_either_way k l ∙ apart) ∙ sym (ap (λ t. t && b) (lock_either_way k l ∙ apart))
wants_same k (Some request) apart a b self = refl

module _ (clock : ℕ) (at : RunPoint) (quiet : (l : LockName) → is_due_at at l ≡ false) where
  granted_apart : (k l : LockName) (level : Level) → is_due_at (heard clock (down.Grant l level) at) k ≡ false
  granted_apart k l level = by (is_lock k l)
    where
      none : (a b c : Bool) → (a && (b && (false && c))) ≡ false
      none true true c = refl
      none true false c = refl
      none false b c = refl

      by : (b : Bool) → (is_some (cond b (record { lease = Some level; is_asked = false }) (standing k at.entries)).lease
          && ((cond b false (is_recalled k at.entries) || (is_read (cond b (record { lease = Some level; is_asked = false }) (standing k at.entries)).lease
          && list_any (awaits_write at.settings at.client at.next k at.entries) (threads_of at.settings at.client)))
          && (cond b false (is_entered k at.entries) && is_free at.settings at.client at.next k at.entries))) ≡ false
      by true = none true _ (is_free at.settings at.client at.next k at.entries)
      by false = quiet k

  recall_apart : (k l : LockName) → is_lock l k ≡ false → is_due_at (heard clock (down.Recall l) at) k ≡ false
  recall_apart k l apart = by (is_lock k l) (lock_either_way k l ∙ apart)
    where
      by : (b : Bool) → b ≡ false → (is_some (leased k at.entries) && (((b || is_recalled k at.entries) || (is_read (leased k at.entries)
          && list_any (awaits_write at.settings at.client at.next k at.entries) (threads_of at.settings at.client)))
          && (is_entered k at.entries && is_free at.settings at.client at.next k at.entries))) ≡ false
      by true e = absurd (cc e)
      by false e = quiet k

  wake_apart : (k l : LockName) (t : ThreadId) → IsApart k (resumed_lock (at.next t)) → is_due_at (heard clock (down.Wake l t) at) k ≡ false
  wake_apart k l t apart = ap (λ awaits. is_some (leased k at.entries) && ((is_recalled k at.entries || (is_read (leased k at.entries) && list_any awaits (threads_of at.settings at.client)))
      && (is_entered k at.entries && is_free at.settings at.client at.next k at.entries))) (fun_ext awaits) ∙ quiet k
    where
      same : (u : ThreadId) (b : Bool) → is_thread u t ≡ b → wants_write k (b || is_marked u at.entries) (at.next u) ≡ wants_write k (is_marked u at.entries) (at.next u)
      same u false e = refl
      same u true e = ap (λ x. wants_write k true (at.next x)) (sym (same_thread u t e))
          ∙ (wants_same k (at.next t) apart true (is_marked u at.entries) (lock_self k) ∙ ap (λ x. wants_write k (is_marked u at.entries) (at.next x)) (same_thread u t e))

      awaits : (u : ThreadId) → (is_none (hold_of u k at.entries) && wants_write k (is_thread u t || is_marked u at.entries) (at.next u)) ≡ awaits_write at.settings at.client at.next k at.entries u
      awaits u = ap (λ b. is_none (hold_of u k at.entries) && b) (same u (is_thread u t) refl)

  -- a lock that the message doesn't touch
  pub untouched : (m : Down) (k : LockName) → IsApart k (touched at m) → is_due_at (heard clock m at) k ≡ false
  untouched (down.Ids first) k apart = quiet k
  untouched (down.Object body) k apart = quiet k
  untouched (down.Grant l level) k apart = granted_apart k l level
  untouched (down.Recall l) k apart = recall_apart k l apart
  untouched (down.Ack seq) k apart = quiet k
  untouched (down.Changes sets) k apart = quiet k
  untouched (down.Wake l t) k apart = wake_apart k l t apart

  -- where it touches none, or one that isn't to be given back, none is
  pub none_due : (m : Down) → ((l : LockName) → touched at m ≡ Some l → is_due_at (heard clock m at) l ≡ false)
      → due at.settings at.client at.next (heard clock m at).entries ≡ []
  none_due m fails = none_left (λ k. is_lease_due at.settings at.client at.next k (heard clock m at).entries) (λ k. is_some (leased k (heard clock m at).entries)) (granted (heard clock m at).entries)
      (λ k there. each k (touched at m) refl)
    where
      each : (k : LockName) (l : Option LockName) → touched at m ≡ l → is_due_at (heard clock m at) k ≡ false
      each k None e = untouched m k (subst (IsApart k) (sym e) tt)
      each k (Some l) e = by (is_lock l k) refl
        where
          by : (b : Bool) → is_lock l k ≡ b → is_due_at (heard clock m at) k ≡ false
          by true same = ap (is_due_at (heard clock m at)) (same_lock l k same) ∙ fails l e
          by false differ = untouched m k (subst (IsApart k) (sym e) differ)

  -- and where the one is, it is alone
  pub one_due : (m : Down) (l : LockName) → touched at m ≡ Some l → is_due_at (heard clock m at) l ≡ true → due at.settings at.client at.next (heard clock m at).entries ≡ l ∷ []
  one_due m l e is = one_left (λ k. is_lease_due at.settings at.client at.next k (heard clock m at).entries) (λ k. is_some (leased k (heard clock m at).entries)) l (granted (heard clock m at).entries)
      (rising_distinct (granted (heard clock m at).entries) (granted_rises (heard clock m at).entries)) (λ k differ. untouched m k (subst (IsApart k) (sym e) differ)) is
      (leased_granted l (heard clock m at).entries (first (is_some (leased l (heard clock m at).entries)) (is_lease_due at.settings at.client at.next l (heard clock m at).entries) is))
    where
      first : (a b : Bool) → (a && b) ≡ true → a ≡ true
      first true b h = refl
      first false b h = absurd (cc h)

-- Two changes of holds and waits, one after the other.
use Rattle.std.proofs.Common.{ℕ, ◌≡◌, refl, sym, ◌∙◌, ap, Bool, true, false, cond, ◌&&◌, is_some, Option, Some, None}
use Rattle.std.proofs.Math.Path.{fun_ext}
use Rattle.dso_base.specs.declared.lock.Level.TheVariants.{Write}
use Rattle.dso_base.specs.declared.lock.LockName.{LockName}
use Rattle.dso_base.specs.declared.lock.ThreadId.{ThreadId}
use Rattle.dso_plain.specs.KeyTests.{is_place}
use Rattle.dso_lookup.specs.Maps.{writes, or_old, written}
use Rattle.dso_plain.specs.State.{Hold, PlainState}
use Rattle.dso_plain.specs.After.{apply, waits, resumes, count_of, resumed}
use Rattle.dso_plain.specs.Changes.{with_hold, with_wait}
use Rattle.dso_plain.specs.HeapTables.{either}

-- the second of two writes at one place is what stands there
over : {K V : Type 0} (p : K → Bool) (a b : V) (f : K → V) → written (writes p (λ _. a)) (written (writes p (λ _. b)) f) ≡ written (writes p (λ _. a)) f
over p a b f = fun_ext (λ key. by (p key) (f key))
  where
    by : (c : Bool) (x : _) → or_old (cond c (Some a) None) (or_old (cond c (Some b) None) x) ≡ or_old (cond c (Some a) None) x
    by true x = refl
    by false x = refl

-- a hold in place of a hold
pub hold_over : (l : LockName) (t : ThreadId) (a b : Option Hold) (s : PlainState) → with_hold l t a (with_hold l t b s) ≡ with_hold l t a s
hold_over l t a b s = λ i. record s { monitors = over (is_place l t) a b s.monitors i }

-- a hold that was taken, and another set in its place
pub hold_again : (l : LockName) (t : ThreadId) (a x : Option Hold) (s mid new : PlainState) → mid ≡ with_hold l t None s → new ≡ with_hold l t a mid → a ≡ x → new ≡ with_hold l t x s
hold_again l t a x s mid new first second e = second ∙ (ap (λ r. with_hold l t a r) first ∙ (hold_over l t a None s ∙ ap (λ h. with_hold l t h s) e))

-- a hold that was taken, and a wait set for it
pub waited : (l : LockName) (t : ThreadId) (count : ℕ) (s mid new : PlainState) → mid ≡ with_hold l t None s → new ≡ with_wait l t (Some count) false mid → count ≡ count_of (s.monitors (l, t)) → new ≡ apply (waits t l s) s
waited l t count s mid new first second e = second ∙ (ap (λ r. with_wait l t (Some count) false r) first ∙ ap (λ n. with_wait l t (Some n) false (with_hold l t None s)) e)

-- the wait of a thread that was notified is the one among those notified
pub woken : (x y : Option ℕ) (n : ℕ) → (is_some x && is_some y) ≡ false → Some n ≡ y → Some (record { level = Write; count = n }) ≡ resumed (either x y)
woken None y n apart e = ap (λ z. resumed z) e
woken (Some x) y n apart e = absurd (cc (sym (ap (λ z. is_some z) (sym e)) ∙ apart))

-- a wait that was ended, and a hold set for it
pub went_on : (l : LockName) (t : ThreadId) (count : ℕ) (s mid new : PlainState) → mid ≡ with_wait l t None false s → new ≡ with_hold l t (Some (record { level = Write; count = count })) mid → Some (record { level = Write; count = count }) ≡ resumed (s.asleep (l, t)) → new ≡ apply (resumes t l s) s
went_on l t count s mid new first second e = second ∙ (ap (λ r. with_hold l t (Some (record { level = Write; count = count })) r) first ∙ ap (λ h. with_hold l t h (with_wait l t None false s)) e)

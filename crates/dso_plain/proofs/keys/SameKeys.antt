-- What a test of keys tells, and what is written where.
use Rattle.std.proofs.Common.{ℕ, ◌≡◌, inl, inr, refl, sym, ◌∙◌, ap, Bool, true, false, cond, eqb, ◌&&◌, Option, Some, None}
use Rattle.std.proofs.lemmas.Bool.Decides.{eqb_tells}
use Rattle.std.proofs.Math.Path.{fun_ext}
use Rattle.dso_base.specs.declared.lock.LockName.{LockName}
use Rattle.dso_base.specs.declared.lock.LockName.TheVariants.{Mon, Name}
use Rattle.dso_base.specs.declared.lock.ThreadId.{ThreadId}
use Rattle.dso_base.specs.Following.{is_thread}
use Rattle.dso_plain.specs.KeyTests.{is_lock, is_field, is_place, is_view}
use Rattle.dso_lookup.specs.Maps.{writes, or_old, written}
use Rattle.dso_lookup.proofs.Tests.{both}

-- two numbers that a test takes for the same are the same
pub same_number : (a b : ℕ) → eqb a b ≡ true → a ≡ b
same_number a b e = elim (eqb_tells a b) [
  | inl h ↦ h.1
  | inr h ↦ absurd (cc (sym e ∙ h.0))
]

-- a number is the same as itself
pub number_self : (a : ℕ) → eqb a a ≡ true
number_self a = elim (eqb_tells a a) [
  | inl h ↦ h.0
  | inr h ↦ absurd (h.1 refl)
]

-- the key is that thread
pub same_thread : (t key : ThreadId) → is_thread t key ≡ true → key ≡ t
same_thread t key e =
    let h = both (eqb key.client t.client) (eqb key.index t.index) e in
    λ i. record { client = same_number key.client t.client h.0 i; index = same_number key.index t.index h.1 i }

-- a thread is itself
pub thread_self : (t : ThreadId) → is_thread t t ≡ true
thread_self t = rw (number_self t.client, number_self t.index) refl

-- the key is that lock
pub same_lock : (l key : LockName) → is_lock l key ≡ true → key ≡ l
same_lock (Mon o) (Mon key) e = ap Mon (same_number key o e)
same_lock (Name n) (Name key) e = ap Name (same_number key n e)
same_lock (Mon o) (Name key) e = absurd (cc e)
same_lock (Name n) (Mon key) e = absurd (cc e)

-- the key is that field
pub same_field : (o f : ℕ) (key : ℕ × ℕ) → is_field o f key ≡ true → key ≡ (o, f)
same_field o f key e =
    let h = both (eqb key.0 o) (eqb key.1 f) e in
    λ i. (same_number key.0 o h.0 i, same_number key.1 f h.1 i)

-- the key is that lock with that thread
pub same_place : (l : LockName) (t : ThreadId) (key : LockName × ThreadId) → is_place l t key ≡ true → key ≡ (l, t)
same_place l t key e =
    let h = both (is_lock l key.0) (is_thread t key.1) e in
    λ i. (same_lock l key.0 h.0 i, same_thread t key.1 h.1 i)

-- the key is of that thread
pub same_view : (t : ThreadId) (o f : ℕ) (key : ThreadId × ℕ × ℕ) → is_view t o f key ≡ true → key.0 ≡ t
same_view t o f key e = same_thread t key.0 (both (is_thread t key.0) (eqb key.1 o && eqb key.2 f) e).0

-- what stands at a key where something is written
pub written_there : {K V : Type 0} (test : K → Bool) (value : K → V) (key : K) (v : V) → writes test value key ≡ Some v → (test key ≡ true) × (value key ≡ v)
written_there test value key v e = by (test key) refl e
  where
    by : (b : Bool) → test key ≡ b → cond b (Some (value key)) None ≡ Some v → (test key ≡ true) × (value key ≡ v)
    by true t e = (t, cc e)
    by false t e = absurd (cc e)

-- P holds of what is written, wherever something is written
abbrev pub Wherever : {K V : Type 0} → (K → Option V) → (K → V → Type 0) → Type 0
Wherever {K} {V} new P = (key : K) (v : V) → new key ≡ Some v → P key v

-- two writings have no key in common
abbrev pub Apart : {K V : Type 0} → (K → Option V) → (K → Option V) → Type 0
Apart {K} {V} c d = (key : K) (v w : V) → c key ≡ Some v → d key ≡ Some w → ⊥

-- where nothing is written, all holds of what is
pub none : {A P : Type 0} {v : A} → None ≡ Some v → P
none e = absurd (cc e)

-- at one key, two writings of which at most one is there
or_old_swap : {V : Type 0} (p q : Option V) (x : V) → ((v w : V) → p ≡ Some v → q ≡ Some w → ⊥) → or_old q (or_old p x) ≡ or_old p (or_old q x)
or_old_swap None q x ne = refl
or_old_swap (Some v) None x ne = refl
or_old_swap (Some v) (Some w) x ne = absurd (ne v w refl refl)

-- two writings at different keys come to the same in either order
pub written_swap : {K V : Type 0} (c d : K → Option V) (f : K → V) → Apart c d → written d (written c f) ≡ written c (written d f)
written_swap c d f ne = fun_ext (λ key. or_old_swap (c key) (d key) (f key) (ne key))

-- two writings that agree wherever both write
abbrev pub Agreeing : {K V : Type 0} → (K → Option V) → (K → Option V) → Type 0
Agreeing {K} {V} c d = (key : K) (v w : V) → c key ≡ Some v → d key ≡ Some w → v ≡ w

-- at one key, two writings that agree
or_old_agree : {V : Type 0} (p q : Option V) (x : V) → ((v w : V) → p ≡ Some v → q ≡ Some w → v ≡ w) → or_old q (or_old p x) ≡ or_old p (or_old q x)
or_old_agree None q x same = refl
or_old_agree (Some v) None x same = refl
or_old_agree (Some v) (Some w) x same = sym (same v w refl refl)

-- two writings that agree come to the same in either order
pub written_agree : {K V : Type 0} (c d : K → Option V) (f : K → V) → Agreeing c d → written d (written c f) ≡ written c (written d f)
written_agree c d f same = fun_ext (λ key. or_old_agree (c key) (d key) (f key) (same key))

-- the same at one key
is_by_cases : {A : Type 0} (P : A → Type 0) (p : Option A) (x : A) → ((v : A) → p ≡ Some v → P v) → P x → P (or_old p x)
is_by_cases P None x h was = was
is_by_cases P (Some v) x h was = h v refl

-- what holds of the old value, and of the new one where one is written, holds of what stands there
pub written_is : {K A : Type 0} (P : A → Type 0) (new : K → Option A) (f : K → A) (key : K) → ((v : A) → new key ≡ Some v → P v) → P (f key) → P (written new f key)
written_is P new f key there was = is_by_cases P (new key) (f key) there was

-- where nothing can be written the old value stands
pub unwritten : {K A : Type 0} (new : K → Option A) (f : K → A) (key : K) → ((v : A) → new key ≡ Some v → ⊥) → written new f key ≡ f key
unwritten new f key never = written_is (λ x. x ≡ f key) new f key (λ v e. absurd (never v e)) refl

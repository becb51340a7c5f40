-- Tests of which some thread of a list passes.
use Rattle.std.specs.List.{list_any}
use Rattle.std.proofs.Common.{◌≡◌, refl, sym, ◌∙◌, ap, Bool, true, false, ◌||◌, List, [], ◌∷◌}
use Rattle.dso_base.specs.declared.lock.ThreadId.{ThreadId}
use Rattle.dso_base.specs.Following.{is_thread}
use Rattle.dso_plain.proofs.keys.SameKeys.{same_thread, thread_self}

behind : (a b : Bool) → b ≡ true → (a || b) ≡ true
behind true b h = refl
behind false b h = h

-- a test that fails where a wider one does
pub any_less : {A : Type 0} (test wider : A → Bool) → ((x : A) → test x ≡ true → wider x ≡ true) → (xs : List A)
    → list_any wider xs ≡ false → list_any test xs ≡ false
any_less test wider less [] none = refl
any_less test wider less (x ∷ xs) none = by (test x) refl (wider x) refl none (any_less test wider less xs)
  where
    by : (a : Bool) → test x ≡ a → (b : Bool) → wider x ≡ b → (b || list_any wider xs) ≡ false
        → (list_any wider xs ≡ false → list_any test xs ≡ false) → (a || list_any test xs) ≡ false
    by a e true f none later = absurd (cc none)
    by true e false f none later = absurd (cc (sym (less x e) ∙ f))
    by false e false f none later = later none

-- either of two tests, both of which fail
pub any_neither : {A : Type 0} (one other : A → Bool) (xs : List A) → list_any one xs ≡ false
    → list_any other xs ≡ false → list_any (λ x. one x || other x) xs ≡ false
any_neither one other [] none also = refl
any_neither one other (x ∷ xs) none also = by (one x) (other x) none also (any_neither one other xs)
  where
    by : (a b : Bool) → (a || list_any one xs) ≡ false → (b || list_any other xs) ≡ false
        → (list_any one xs ≡ false → list_any other xs ≡ false → list_any (λ x. one x || other x) xs ≡ false)
        → ((a || b) || list_any (λ x. one x || other x) xs) ≡ false
    by true b none also later = absurd (cc none)
    by false true none also later = absurd (cc also)
    by false false none also later = later none also

-- a test that passes, of a thread that is in the list
pub any_at : (t : ThreadId) (test : ThreadId → Bool) (xs : List ThreadId) → list_any (is_thread t) xs ≡ true
    → test t ≡ true → list_any test xs ≡ true
any_at t test [] its passes = absurd (cc its)
any_at t test (x ∷ xs) its passes = by (is_thread t x) refl its (any_at t test xs)
  where
    by : (b : Bool) → is_thread t x ≡ b → (b || list_any (is_thread t) xs) ≡ true
        → (list_any (is_thread t) xs ≡ true → test t ≡ true → list_any test xs ≡ true)
        → (test x || list_any test xs) ≡ true
    by true same its later = ap (λ b. b || list_any test xs) (ap test (same_thread t x same) ∙ passes)
    by false differ its later = behind (test x) (list_any test xs) (later its passes)

-- where some thread passes, what follows of each that does
pub any_then : (test : ThreadId → Bool) (P : Type 0) (xs : List ThreadId)
    → ((t : ThreadId) → list_any (is_thread t) xs ≡ true → test t ≡ true → P) → list_any test xs ≡ true → P
any_then test P [] each some = absurd (cc some)
any_then test P (x ∷ xs) each some = by (test x) refl some (any_then test P xs
    (λ t there passes. each t (behind (is_thread t x) (list_any (is_thread t) xs) there) passes))
  where
    by : (b : Bool) → test x ≡ b → (b || list_any test xs) ≡ true → (list_any test xs ≡ true → P) → P
    by true passes some later = each x (ap (λ b. b || list_any (is_thread x) xs) (thread_self x)) passes
    by false fails some later = later some

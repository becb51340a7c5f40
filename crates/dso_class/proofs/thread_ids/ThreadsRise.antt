-- Threads that differ and are sorted rise by client and index.
use Rattle.std.proofs.Common.{◌≡◌, ◌≢◌, ℕ, zero, suc, ◌+◌, ◌<◌, ◌-◌, arith, refl, sym, ap, ◌∙◌, subst, eqb, Bool, true, false, ◌&&◌, List, length, map, get_or, AllPairs, IsPermutation, ◌⊎◌, nat_cmp, is_lt}
use Rattle.std.specs.Bool.{Decides}
use Rattle.std.specs.List.Sorted.{IsSorted}
use Rattle.std.specs.Ordering.{ordering_then}
use Rattle.std.specs.declared.cmp.Ordering.{Ordering}
use Rattle.std.proofs.lemmas.Bool.{eqb-true, eq-eqb}
use Rattle.std.proofs.lemmas.Map.Keys.{IsDistinct-IsPermutation}
use Rattle.std.proofs.lemmas.Map.Made.{AllPairs-from_IsDistinct, IsDistinct-from_AllPairs}
use Rattle.dso_base.specs.declared.lock.ThreadId.{ThreadId}
use Rattle.dso_machine.specs.declared.code.ThreadBody.{ThreadBody}
use Rattle.dso_class.specs.TextProgram.{AreCounted, IsThreadBefore}
use Rattle.dso_class.proofs.thread_ids.Sound.{threads_differ}

-- ---- threads are told apart

-- both tests hold
both_true : (a b : Bool) → (a && b) ≡ true → (a ≡ true) × (b ≡ true)
both_true true b is = (refl, is)
both_true false b is = absurd (cc is)

-- the two are one thread
abbrev pub is_same : ThreadId → ThreadId → Bool
is_same thread other = eqb thread.client other.client && eqb thread.index other.index

-- threads with the same client and index are one
one_thread : (thread other : ThreadId) → thread.client ≡ other.client → thread.index ≡ other.index → thread ≡ other
one_thread thread other client index = ap (λ (c : ℕ). record thread { client = c }) client ∙ ap (λ (n : ℕ). record { client = other.client; index = n }) index

-- the test tells threads apart
same_tells : (thread other : ThreadId) → Decides (is_same thread other) (thread ≡ other)
same_tells thread other = (
  λ is. let both = both_true (eqb thread.client other.client) (eqb thread.index other.index) is in one_thread thread other (eqb-true thread.client other.client both.0) (eqb-true thread.index other.index both.1),
  λ is. grind (arith, eq-eqb thread.client other.client (ap (λ t. t.client) is), eq-eqb thread.index other.index (ap (λ t. t.index) is)),
)

-- it asks the same both ways round
same_flips : (thread other : ThreadId) → is_same thread other ≡ is_same other thread
same_flips thread other = grind (arith)

-- threads that differ do so in another order
differ_still : (xs ys : List ThreadId) → IsPermutation xs ys → AllPairs (λ thread other. thread ≢ other) xs → AllPairs (λ thread other. thread ≢ other) ys
differ_still xs ys moved differ = AllPairs-from_IsDistinct same_tells ys (IsDistinct-IsPermutation is_same same_flips xs ys moved (IsDistinct-from_AllPairs same_tells xs differ))

-- ---- threads rise

-- the order of threads: by client, then by index
abbrev pub by_client : ThreadId → ThreadId → Ordering
by_client thread other = ordering_then (nat_cmp thread.client other.client) (nat_cmp thread.index other.index)

-- of two threads that differ, of which the second isn't below the first, the first is before
before_numbers : (c i d j : ℕ) → is_lt (ordering_then (nat_cmp d c) (nat_cmp j i)) ≡ false → (c ≡ d → i ≡ j → ⊥) → (c < d) ⊎ ((c ≡ d) × (i < j))
before_numbers c i d j not_below differ = grind (arith)

is_before : (thread other : ThreadId) → is_lt (by_client other thread) ≡ false → thread ≢ other → IsThreadBefore thread other
is_before thread other not_below differ = before_numbers thread.client thread.index other.client other.index not_below (λ client index. differ (one_thread thread other client index))

-- a thread before one that is before a third is before that
before_all : (a b c : ThreadId) → IsThreadBefore a b → IsThreadBefore b c → IsThreadBefore a c
before_all a b c one other = grind (arith)

module _ (xs : List ThreadId) (sorted : IsSorted by_client xs) (differ : AllPairs (λ thread other. thread ≢ other) xs) where
  -- a thread is before the next
  next : (k : ℕ) (d : ThreadId) → k + 1 < length xs → IsThreadBefore (get_or xs k d) (get_or xs (k + 1) d)
  next k d within = is_before (get_or xs k d) (get_or xs (k + 1) d) (sorted k d (omega arith) within) (differ k (k + 1) d (omega arith) within)

  -- and before each later one
  later : (i m : ℕ) (d : ThreadId) → i + suc m < length xs → IsThreadBefore (get_or xs i d) (get_or xs (i + suc m) d)
  later i zero d within = subst (λ n. IsThreadBefore (get_or xs i d) (get_or xs n d)) {x = i + 1} {y = i + suc zero} (omega arith) (next i d (omega (arith, within)))
  later i (suc m) d within =
      subst (λ n. IsThreadBefore (get_or xs i d) (get_or xs n d)) {x = i + suc m + 1} {y = i + suc (suc m)} (omega arith)
      (before_all (get_or xs i d) (get_or xs (i + suc m) d) (get_or xs (i + suc m + 1) d) (later i m d (omega (arith, within))) (next (i + suc m) d (omega (arith, within))))

  pub all_rise : AllPairs IsThreadBefore xs
  all_rise i j d less within =
      subst (λ n. IsThreadBefore (get_or xs i d) (get_or xs n d)) {x = i + suc (j - suc i)} {y = j} (omega (arith, less)) (later i (j - suc i) d (omega (arith, less, within)))

-- the threads of bodies that are counted rise when they are sorted
pub threads_rise : (bodies : List ThreadBody) (threads sorted : List ThreadId) → threads ≡ map (λ body. body.thread) bodies → IsPermutation threads sorted → IsSorted by_client sorted → AreCounted bodies → AllPairs IsThreadBefore sorted
threads_rise bodies threads sorted is moved rises counted =
    all_rise sorted rises (differ_still threads sorted moved (subst (λ all. AllPairs (λ thread other. thread ≢ other) all) (sym is) (threads_differ bodies counted)))

-- The pool of a batch after so many of its ids were taken.
use Rattle.std.proofs.Common.{ℕ, zero, suc, ◌+◌, ◌≡◌, refl, ap, ◌∙◌, min, arith, Bool, true, false, cond, ltb, Some, None}
use Rattle.std.proofs.lemmas.Bool.{lt-ltb, le-ltb, ltb-true, ltb-false}
use Rattle.dso_ids.specs.Ids.{Ids, first_left, without_first, filled}
use Rattle.dso_ids.specs.Laws.{taken}

-- the next id is the n-th of the batch, or the one behind its last
left_after : ℕ → ℕ → Ids
left_after first n = record { next = first + min n 256; end = first + 256 }

-- one more is taken
one_more : (first n : ℕ) → without_first (left_after first n) ≡ left_after first (suc n)
unfolding left_after
one_more first n = by (ltb (first + min n 256) (first + 256)) refl
  where
    by : (b : Bool) → ltb (first + min n 256) (first + 256) ≡ b
        → cond b (record { next = first + min n 256 + 1; end = first + 256 }) (record { next = first + min n 256; end = first + 256 }) ≡ left_after first (suc n)
    by true e =
        let h = ltb-true (first + min n 256) (first + 256) e in
        let k : first + min n 256 + 1 ≡ first + min (suc n) 256 = omega arith in
        ap (λ next. record { next = next; end = first + 256 }) k
    by false e =
        let h = ltb-false (first + min n 256) (first + 256) e in
        let k : first + min n 256 ≡ first + min (suc n) 256 = omega arith in
        ap (λ next. record { next = next; end = first + 256 }) k

-- the pool after n were taken
after : (first n : ℕ) → taken n (filled first) ≡ left_after first n
unfolding left_after
after first zero = ap (λ next. record { next = next; end = first + 256 }) (omega arith)
after first (suc n) = ap (λ ids. without_first ids) (after first n) ∙ one_more first n

-- the ids of a batch are taken in turn, and then there is none
pub in_turn : (first n : ℕ) → first_left (taken n (filled first)) ≡ cond (ltb n 256) (Some (first + n)) None
unfolding left_after
in_turn first n = ap (λ ids. first_left ids) (after first n) ∙ by (ltb n 256) refl
  where
    by : (b : Bool) → ltb n 256 ≡ b → first_left (left_after first n) ≡ cond b (Some (first + n)) None
    by true e =
        let h = ltb-true n 256 e in
        let k : first + min n 256 ≡ first + n = omega arith in
        rw (lt-ltb (first + min n 256) (first + 256) (omega arith)) (ap (λ x. Some x) k)
    by false e =
        let h = ltb-false n 256 e in
        rw (le-ltb (first + min n 256) (first + 256) (omega arith)) refl

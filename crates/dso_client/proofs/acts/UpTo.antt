-- The first contexts have gone on, the others stand as they were.
use Rattle.std.proofs.Common.{◌≡◌, ◌+◌, ℕ, zero, suc, sym, ◌∙◌, subst, arith, Some, List, [], ◌∷◌, length, slice_get, slice_set}
use Rattle.dso_client.specs.declared.answered.Answered.{Answered}
use Rattle.dso_client.specs.declared.lock_state.LockState.{LockState}
use Rattle.dso_client.specs.declared.thread_context.ThreadContext.{ThreadContext}
use Rattle.dso_client.specs.ContextEffects.{AppliesToAny, ApplyToAll}

module _ (lock_state : LockState) (act : Answered) where
  -- so many of them have
  abbrev pub AppliedUpTo : ℕ → List ThreadContext → List ThreadContext → Type 0
  AppliedUpTo zero old new = new ≡ old
  AppliedUpTo (suc n) [] [] = Unit {0}
  AppliedUpTo (suc n) [] (y ∷ ys) = ⊥
  AppliedUpTo (suc n) (x ∷ xs) [] = ⊥
  AppliedUpTo (suc n) (x ∷ xs) (y ∷ ys) = AppliesToAny lock_state act x y × AppliedUpTo n xs ys

  -- and one more
  pub one_more : (n : ℕ) (xs ys : List ThreadContext) (old new : ThreadContext) → AppliedUpTo n xs ys → slice_get ys n ≡ Some old → AppliesToAny lock_state act old new → AppliedUpTo (suc n) xs (slice_set ys n new)
  one_more zero xs [] old new h at applies = absurd (cc at)
  one_more zero [] (y ∷ ys) old new h at applies = absurd (cc h)
  one_more zero (x ∷ xs) (y ∷ ys) old new h at applies =
      let first : y ≡ x = cc h in
      let rest : ys ≡ xs = cc h in
      let it : y ≡ old = cc at in
      (subst (λ s. AppliesToAny lock_state act s new) (sym it ∙ first) applies, rest)
  one_more (suc n) [] [] old new h at applies = tt
  one_more (suc n) [] (y ∷ ys) old new h at applies = absurd h
  one_more (suc n) (x ∷ xs) [] old new h at applies = absurd h
  one_more (suc n) (x ∷ xs) (y ∷ ys) old new h at applies = (h.0, one_more n xs ys old new h.1 at applies)

  -- as the loop counts
  pub counted : (n : ℕ) (xs ys : List ThreadContext) → AppliedUpTo (suc n) xs ys → AppliedUpTo (n + 1) xs ys
  counted n xs ys h =
      let same : suc n ≡ n + 1 = omega arith in
      subst (λ k. AppliedUpTo k xs ys) same h

  -- all of them
  pub all_applied : (xs ys : List ThreadContext) → AppliedUpTo (length xs) xs ys → ApplyToAll lock_state act xs ys
  all_applied [] [] h = tt
  all_applied [] (y ∷ ys) h = absurd (cc h)
  all_applied (x ∷ xs) [] h = absurd h
  all_applied (x ∷ xs) (y ∷ ys) h = (h.0, all_applied xs ys h.1)

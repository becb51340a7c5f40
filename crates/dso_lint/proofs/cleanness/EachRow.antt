-- Rows that are changed one after the other.
use Rattle.std.proofs.Common.{◌≡◌, ◌⊎◌, inl, inr, refl, ℕ, ◌+◌, ◌<◌, ◌≤◌, arith, Bool, true, false, cond, List, [], ◌∷◌, ◌++◌, length, get_or, set, sym, subst, ap, ◌∙◌, get_or-set_other, get_or-set_same, length-append}
use Rattle.std.specs.Prelude.{Contains}
use Rattle.std.proofs.lemmas.Bool.{cases_eq}
use Rattle.std.proofs.lemmas.List.{length-set, get_or_default, set-get_or}
use Rattle.std.proofs.lemmas.List.Elements.{Contains-append_left, Contains-push, Contains-push_cases}
use Rattle.std.proofs.lemmas.List.Sums.{sum_by-set}
use Rattle.dso_lint.specs.declared.row.Row.{Row}
use Rattle.dso_lint.specs.CleanRows.{LosesThis, StillWait, Strips, TakesThis, this_count}

-- the first so many are changed as R says, and the others are as before
pub record EachSoFar (R : ℕ → Row → Row → Type 0) (k : ℕ) (old new : List Row) : Type 0 where
  pub number : length new ≡ length old
  pub done : (p : ℕ) (d : Row) → p < k → p < length old → R p (get_or old p d) (get_or new p d)
  pub rest : (p : ℕ) (d : Row) → k ≤ p → get_or new p d ≡ get_or old p d

module _ (R : ℕ → Row → Row → Type 0) where
  pub each_none : (rows : List Row) → EachSoFar R 0 rows rows
  each_none rows = record { number = refl; done = λ p d low. absurd (omega (arith, low)); rest = λ p d past. refl }

  pub each_more : (k : ℕ) (old mid : List Row) (new e : Row) → k < length old → EachSoFar R k old mid → R k (get_or mid k e) new → EachSoFar R (k + 1) old (set mid k new)
  each_more k old mid new e low so is = record {
    number = length-set mid k new ∙ so.number;
    done = λ p d few within. done p d few within (cases_eq p k);
    rest = λ p d past.
        let differs : p ≡ k → ⊥ = λ same. omega (arith, same, past) in
        get_or-set_other mid k p new d differs ∙ so.rest p d (omega (arith, past));
  }
    where
      low_mid : k < length mid
      low_mid = omega (arith, low, so.number)

      done : (p : ℕ) (d : Row) → p < k + 1 → p < length old → (p ≡ k) ⊎ (p ≡ k → ⊥) → R p (get_or old p d) (get_or (set mid k new) p d)
      done p d few within (inl same) =
          let before : get_or mid k e ≡ get_or old k d = get_or_default mid k e d low_mid ∙ so.rest k d (omega (arith)) in
          let here : R k (get_or old k d) (get_or (set mid k new) k d) = subst (R k (get_or old k d)) (sym (get_or-set_same mid k new d low_mid)) (subst (λ row. R k row new) before is) in
          subst (λ n. R n (get_or old n d) (get_or (set mid k new) n d)) (sym same) here
      done p d few within (inr differs) =
          subst (R p (get_or old p d)) (sym (get_or-set_other mid k p new d differs)) (so.done p d (omega (arith, few, differs)) within)

-- ---- the count of clean `this`

abbrev one_this : Row → ℕ
one_this row = cond row.this 1 0

pub count_set : (rows : List Row) (k : ℕ) (new e : Row) → k < length rows → this_count (set rows k new) + one_this (get_or rows k e) ≡ this_count rows + one_this new
count_set rows k new e low = sum_by-set one_this rows k new e low

pub count_kept : (rows : List Row) (k : ℕ) (new e : Row) → k < length rows → new.this ≡ (get_or rows k e).this → this_count (set rows k new) ≡ this_count rows
count_kept rows k new e low is =
    let sums = count_set rows k new e low in
    let same : one_this new ≡ one_this (get_or rows k e) = ap (λ b. cond b 1 0) is in
    omega (arith, sums, same)

pub count_less : (rows : List Row) (k : ℕ) (new e : Row) → k < length rows → (get_or rows k e).this ≡ true → new.this ≡ false → this_count (set rows k new) + 1 ≡ this_count rows
count_less rows k new e low was gone =
    let sums = count_set rows k new e low in
    let before : one_this (get_or rows k e) ≡ 1 = ap (λ b. cond b 1 0) was in
    let after : one_this new ≡ 0 = ap (λ b. cond b 1 0) gone in
    omega (arith, sums, before, after)

-- ---- rows that lose their `this`

abbrev pub Losing : List Bool → ℕ → Row → Row → Type 0
Losing marked p old new = LosesThis (get_or marked p false) old new

-- so far, where the first so many rows were looked at
pub record StripsSoFar (marked : List Bool) (k : ℕ) (old new : List Row) (before after : List ℕ) : Type 0 where
  pub each : EachSoFar (Losing marked) k old new
  pub kept : (p : ℕ) → Contains before p → Contains after p
  pub only : (p : ℕ) → Contains after p → Contains before p ⊎ (p < length old)
  pub sum : this_count new + length after ≡ this_count old + length before
  pub waits : (p : ℕ) → p < length old → Contains after p ⊎ ((d : Row) → get_or new p d ≡ get_or old p d)

pub strips_none : (marked : List Bool) (rows : List Row) (waiting : List ℕ) → StripsSoFar marked 0 rows rows waiting waiting
strips_none marked rows waiting = record {
  each = each_none (Losing marked) rows;
  kept = λ p is. is;
  only = λ p is. inl is;
  sum = refl;
  waits = λ p low. inr (λ d. refl);
}

module _ (marked : List Bool) (k : ℕ) (old mid : List Row) (new e : Row) (before after : List ℕ) (low : k < length old) (so : StripsSoFar marked k old mid before after) where
  low_mid : k < length mid
  low_mid = omega (arith, low, so.each.number)

  pub strips_took : TakesThis (get_or marked k false) (get_or mid k e) new true → StripsSoFar marked (k + 1) old (set mid k new) before (after ++ k ∷ [])
  strips_took took = record {
    each = each_more (Losing marked) k old mid new e low so.each took.loses;
    kept = λ p is. Contains-append_left after (k ∷ []) p (so.kept p is);
    only = λ p is. only p (Contains-push_cases after k p is);
    sum = sum;
    waits = λ p within. waits p (cases_eq p k) (so.waits p within);
  }
    where
      only : (p : ℕ) → Contains after p ⊎ (k ≡ p) → Contains before p ⊎ (p < length old)
      only p (inl was) = so.only p was
      only p (inr same) = inr (subst (λ i. i < length old) same low)

      sum : this_count (set mid k new) + length (after ++ k ∷ []) ≡ this_count old + length before
      sum =
          let less = count_less mid k new e low_mid (took.was refl) (took.gone refl) in
          let longer : length (after ++ k ∷ []) ≡ length after + 1 = length-append after (k ∷ []) in
          let was = so.sum in
          omega (arith, less, longer, was)

      waits : (p : ℕ) → (p ≡ k) ⊎ (p ≡ k → ⊥) → Contains after p ⊎ ((d : Row) → get_or mid p d ≡ get_or old p d)
          → Contains (after ++ k ∷ []) p ⊎ ((d : Row) → get_or (set mid k new) p d ≡ get_or old p d)
      waits p (inl same) was = inl (subst (Contains (after ++ k ∷ [])) (sym same) (Contains-push after k))
      waits p (inr differs) (inl was) = inl (Contains-append_left after (k ∷ []) p was)
      waits p (inr differs) (inr same) = inr (λ d. get_or-set_other mid k p new d differs ∙ same d)

  pub strips_left : TakesThis (get_or marked k false) (get_or mid k e) new false → StripsSoFar marked (k + 1) old (set mid k new) before after
  strips_left took =
      let stays : set mid k new ≡ mid = ap (set mid k) (took.same refl) ∙ set-get_or mid k e in
      record {
        each = each_more (Losing marked) k old mid new e low so.each took.loses;
        kept = so.kept;
        only = so.only;
        sum = ap (λ rows. this_count rows + length after) stays ∙ so.sum;
        waits = subst (λ rows. (p : ℕ) → p < length old → Contains after p ⊎ ((d : Row) → get_or rows p d ≡ get_or old p d)) (sym stays) so.waits;
      }

pub strips_whole : (marked : List Bool) (k : ℕ) (old new : List Row) (before after : List ℕ) → length old ≤ k → StripsSoFar marked k old new before after → Strips marked old new before after
strips_whole marked k old new before after past so = record {
  wait = record { number = so.each.number; only = so.only; sum = so.sum };
  kept = so.kept;
  each = λ p row low. so.each.done p row (omega (arith, low, past)) low;
  waits = so.waits;
}

-- the same for a row that was settled before
pub wait_settled : (old new : List Row) (k : ℕ) (row e : Row) (before after : List ℕ) → k < length old → row.this ≡ (get_or old k e).this → StillWait (set old k row) new before after → StillWait old new before after
wait_settled old new k row e before after low is wait = record {
  number = wait.number ∙ long;
  only = λ p waits. only p (wait.only p waits);
  sum = wait.sum ∙ ap (λ n. n + length before) (count_kept old k row e low is);
}
  where
    long : length (set old k row) ≡ length old
    long = length-set old k row

    only : (p : ℕ) → Contains before p ⊎ (p < length (set old k row)) → Contains before p ⊎ (p < length old)
    only p (inl was) = inl was
    only p (inr few) = inr (omega (arith, few, long))

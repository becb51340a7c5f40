-- Where a value stands in a past that is kept with the newest last.
use Rattle.std.proofs.Common.{ℕ, suc, ◌<◌, ◌≤◌, ◌≡◌, inl, inr, sym, subst, List, [], ◌∷◌, ◌++◌, length, reverse, take, drop, get_or, arith}
use Rattle.std.proofs.Math.Seq.{take-suc}
use Rattle.std.proofs.lemmas.List.{take-append-drop, reverse-append, length-reverse, length-take, length-take-le}
use Rattle.dso_base.specs.declared.value.Value.{Value}
use Rattle.dso_plain.specs.Possible.{StandsFrom}

-- what stands in a past stands there where newer values come before it
stands_more : (place : ℕ) (v : Value) (newer past : List Value) → StandsFrom place v past → StandsFrom place v (newer ++ past)
stands_more place v [] past h = h
stands_more place v (x ∷ newer) past h = inr (stands_more place v newer past h)

-- nothing stands at or after a place beyond the past
pub stands_none : (place : ℕ) (v : Value) (past : List Value) → length past ≤ place → StandsFrom place v past → ⊥
stands_none place v [] few h = absurd h
stands_none place v (x ∷ older) few (inl h) =
    let k = h.0 in
    absurd (omega arith)
stands_none place v (x ∷ older) few (inr h) = stands_none place v older (omega arith) h

-- a value that stands among the first of a list that has the newest last stands in the whole
pub stands_whole : (place : ℕ) (v : Value) (xs : List Value) (k : ℕ) → StandsFrom place v (reverse (take k xs)) → StandsFrom place v (reverse xs)
stands_whole place v xs k h = subst (λ ys. StandsFrom place v (reverse ys)) (take-append-drop k xs) (subst (λ ys. StandsFrom place v ys) (sym (reverse-append (take k xs) (drop k xs))) (stands_more place v (reverse (drop k xs)) (reverse (take k xs)) h))

-- the one at a place from which on it is asked for stands there
pub stands_here : (place : ℕ) (v : Value) (xs : List Value) (k : ℕ) (d : Value) → place ≤ k → k < length xs → get_or xs k d ≡ v → StandsFrom place v (reverse xs)
stands_here place v xs k d from within is = stands_whole place v xs (suc k) (subst (λ ys. StandsFrom place v (reverse ys)) (sym (take-suc xs k d within)) (subst (λ ys. StandsFrom place v ys) (sym (reverse-append (take k xs) (get_or xs k d ∷ []))) (inl (few, sym is))))
  where
    few : place ≤ length (reverse (take k xs))
    few =
        let size : length (reverse (take k xs)) ≡ length (take k xs) = length-reverse (take k xs) in
        let taken : length (take k xs) ≡ k = length-take-le k xs (omega arith) in
        omega arith

-- at the end of the search nothing is left
pub stands_nowhere : (place : ℕ) (v : Value) (xs : List Value) (k : ℕ) → k ≤ place → StandsFrom place v (reverse (take k xs)) → ⊥
stands_nowhere place v xs k few h = stands_none place v (reverse (take k xs)) (short (take k xs) (omega (arith, length-take k xs))) h
  where
    short : (ys : List Value) → length ys ≤ k → length (reverse ys) ≤ place
    short ys h =
        let size : length (reverse ys) ≡ length ys = length-reverse ys in
        omega arith

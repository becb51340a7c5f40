-- Threads that differ, looked at one after the other.
use Rattle.std.proofs.Common.{ℕ, suc, ◌+◌, ◌<◌, ◌≡◌, refl, sym, ◌∙◌, ap, subst, arith, Bool, true, false, ◌||◌, List, [], ◌∷◌, ◌++◌, length, get_or, take, drop}
use Rattle.std.proofs.Math.Seq.{take-suc}
use Rattle.std.proofs.lemmas.List.{drop_more, take-append-drop}
use Rattle.std.specs.List.{list_any}
use Rattle.dso_base.specs.declared.lock.ThreadId.{ThreadId}
use Rattle.dso_base.specs.Following.{is_thread}
use Rattle.dso_law.specs.FitsUp.{AreDistinct}
use Rattle.dso_server.proofs.lists.Lists.{any_append}
use Rattle.dso_server.proofs.lists.ThreadTables.{thread_either_way}

or_false : (b : Bool) → (b || false) ≡ b
or_false true = refl
or_false false = refl

-- one more that isn't among those before it
distinct_pushed : (threads : List ThreadId) (t : ThreadId) → AreDistinct threads → list_any (is_thread t) threads ≡ false → AreDistinct (threads ++ t ∷ [])
distinct_pushed [] t once apart = (refl, tt)
distinct_pushed (u ∷ threads) t once apart = by (is_thread t u) refl apart (distinct_pushed threads t once.1)
  where
    by : (b : Bool) → is_thread t u ≡ b → (b || list_any (is_thread t) threads) ≡ false → (list_any (is_thread t) threads ≡ false → AreDistinct (threads ++ t ∷ [])) → (list_any (is_thread u) (threads ++ t ∷ []) ≡ false) × AreDistinct (threads ++ t ∷ [])
    by true e none rest = absurd (cc none)
    by false e none rest = (any_append (is_thread u) threads (t ∷ []) ∙ (ap (λ b. b || (is_thread u t || false)) once.0 ∙ (or_false (is_thread u t) ∙ (thread_either_way u t ∙ e))), rest none)

-- one more of a list
pub distinct_next : (threads : List ThreadId) (none : ThreadId) (i : ℕ) → i < length threads → AreDistinct (take i threads) → list_any (is_thread (get_or threads i none)) (take i threads) ≡ false → AreDistinct (take (i + 1) threads)
distinct_next threads none i less once apart =
    let more : suc i ≡ i + 1 = omega arith in
    subst (λ n. AreDistinct (take n threads)) more (subst AreDistinct (sym (take-suc threads i none less)) (distinct_pushed (take i threads) (get_or threads i none) once apart))

-- one that comes behind a list in which it is
twice : (before rest : List ThreadId) (t : ThreadId) → list_any (is_thread t) before ≡ true → AreDistinct (before ++ t ∷ rest) → ⊥
twice [] rest t there once = cc there
twice (u ∷ before) rest t there once = by (is_thread t u) refl there (λ more. twice before rest t more once.1)
  where
    any_first : (list : List ThreadId) → list_any (is_thread u) (list ++ t ∷ rest) ≡ false → is_thread u t ≡ true → ⊥
    any_first [] none same = cc (sym (ap (λ b. b || list_any (is_thread u) rest) same) ∙ none)
    any_first (w ∷ list) none same = any_first list (later (is_thread u w) (list_any (is_thread u) (list ++ t ∷ rest)) none) same
      where
        later : (a b : Bool) → (a || b) ≡ false → b ≡ false
        later true b e = absurd (cc e)
        later false b e = e

    by : (b : Bool) → is_thread t u ≡ b → (b || list_any (is_thread t) before) ≡ true → (list_any (is_thread t) before ≡ true → ⊥) → ⊥
    by true e one more = any_first before once.0 (thread_either_way u t ∙ e)
    by false e one more = more one

pub named_twice : (threads : List ThreadId) (none : ThreadId) (i : ℕ) → i < length threads → list_any (is_thread (get_or threads i none)) (take i threads) ≡ true → AreDistinct threads → ⊥
named_twice threads none i less there once = twice (take i threads) (drop (i + 1) threads) (get_or threads i none) there
    (subst AreDistinct (sym (take-append-drop i threads) ∙ ap (λ left. take i threads ++ left) (drop_more threads i none less)) once)

-- The callers of methods, as bodies are looked at one after the other.
use Rattle.std.proofs.Common.{◌≡◌, ◌⊎◌, inl, inr, refl, ℕ, suc, ◌+◌, ◌<◌, ◌≤◌, arith, Bool, true, false, List, [], ◌∷◌, ◌++◌, length, get_or, set, sym, subst, ap, ◌∙◌, get_or-set_other, get_or-set_same, length-append}
use Rattle.std.specs.Prelude.{Contains}
use Rattle.std.proofs.lemmas.Bool.{cases_eq}
use Rattle.std.proofs.lemmas.List.{length-set, get_or_append_left, get_or_at, get_or_default}
use Rattle.std.proofs.lemmas.List.Elements.{Contains-push, Contains-push_cases, Contains-append_left}
use Rattle.dso_machine.specs.declared.code.Code.{Code}
use Rattle.dso_machine.specs.declared.tree.Stmt.{Stmt}
use Rattle.dso_lint.specs.declared.answer.Place.TheVariants as place
use Rattle.dso_lint.specs.declared.callers.Called.{Called}
use Rattle.dso_lint.specs.declared.marks.Marks.{Marks}
use Rattle.dso_lint.specs.Callers.{AddsBody, AddsCaller, AddsCallers, AreCallers, AreUncalled, CallsMethod, IsCaller}
use Rattle.dso_lint.specs.Marked.{HasCallTo, IsFresh, IsMarked, MarksMore}
use Rattle.dso_lint.specs.Routines.{Routine, IsAt}
use Rattle.dso_lint.specs.Upgrades.{Calls}
use Rattle.dso_lint.proofs.calling.Calling.{all_calls, calls_of, of_calls}

-- ---- one method's callers

pub adds_none : (number : ℕ) (calls : Bool) (called : Called) → calls ≡ false → AddsCaller number calls called called
adds_none number calls called not = record { kept = λ k is. is; added = λ is. absurd (cc (sym is ∙ not)); only = λ k is. inl is }

pub adds_one : (number : ℕ) (calls : Bool) (old new : Called) → calls ≡ true → new.by.items ≡ old.by.items ++ number ∷ [] → AddsCaller number calls old new
adds_one number calls old new is behind = record {
  kept = λ k there. subst (λ xs. Contains xs k) (sym behind) (Contains-append_left old.by.items (number ∷ []) k there);
  added = λ _. subst (λ xs. Contains xs number) (sym behind) (Contains-push old.by.items number);
  only = λ k there. by k (Contains-push_cases old.by.items number k (subst (λ xs. Contains xs k) behind there));
}
  where
    by : (k : ℕ) → Contains old.by.items k ⊎ (number ≡ k) → IsCaller k old ⊎ ((k ≡ number) × (calls ≡ true))
    by k (inl there) = inl there
    by k (inr same) = inr (sym same, is)

-- ---- no callers

pub uncalled_none : AreUncalled 0 []
uncalled_none = record { number = refl; none = λ m d low. absurd (omega (arith, low)) }

pub uncalled_more : (n : ℕ) (callers : List Called) (new : Called) → new.by.items ≡ [] → AreUncalled n callers → AreUncalled (n + 1) (callers ++ new ∷ [])
uncalled_more n callers new is so = record {
  number = length-append callers (new ∷ []) ∙ ap (λ k. k + 1) so.number;
  none = λ m d low. by m d low (cases_eq m n);
}
  where
    by : (m : ℕ) (d : Called) → m < n + 1 → (m ≡ n) ⊎ (m ≡ n → ⊥) → (get_or (callers ++ new ∷ []) m d).by.items ≡ []
    by m d low (inl same) = ap (λ (called : Called). called.by.items) (get_or_at callers new [] d m (so.number ∙ sym same)) ∙ is
    by m d low (inr other) =
        let before : m < n = omega (arith, low, other) in
        let there : m < length callers = omega (arith, before, so.number) in
        ap (λ (called : Called). called.by.items) (get_or_append_left callers (new ∷ []) d m there) ∙ so.none m d before

-- ---- the callers of the first so many methods

pub record CallersSoFar (number : ℕ) (marked : List Bool) (i : ℕ) (old new : List Called) : Type 0 where
  pub size : length new ≡ length old
  pub done : (m : ℕ) (d : Called) → m < i → m < length old → AddsCaller number (get_or marked m false) (get_or old m d) (get_or new m d)
  pub rest : (m : ℕ) (d : Called) → i ≤ m → get_or new m d ≡ get_or old m d

module _ (number : ℕ) (marked : List Bool) where
  pub callers_begun : (callers : List Called) → CallersSoFar number marked 0 callers callers
  callers_begun callers = record { size = refl; done = λ m d low. absurd (omega (arith, low)); rest = λ m d past. refl }

  pub callers_next : (i : ℕ) (old mid : List Called) (new e : Called) → i < length old → CallersSoFar number marked i old mid → AddsCaller number (get_or marked i false) (get_or mid i e) new → CallersSoFar number marked (i + 1) old (set mid i new)
  callers_next i old mid new e low so is = record {
    size = length-set mid i new ∙ so.size;
    done = λ m d few within. done m d few within (cases_eq m i);
    rest = λ m d past.
        let differs : m ≡ i → ⊥ = λ same. omega (arith, same, past) in
        get_or-set_other mid i m new d differs ∙ so.rest m d (omega (arith, past));
  }
    where
      low_mid : i < length mid
      low_mid = omega (arith, low, so.size)

      done : (m : ℕ) (d : Called) → m < i + 1 → m < length old → (m ≡ i) ⊎ (m ≡ i → ⊥) → AddsCaller number (get_or marked m false) (get_or old m d) (get_or (set mid i new) m d)
      done m d few within (inl same) =
          let before : get_or mid i e ≡ get_or old i d = get_or_default mid i e d low_mid ∙ so.rest i d (omega (arith)) in
          let here : AddsCaller number (get_or marked i false) (get_or old i d) (get_or (set mid i new) i d) =
          subst (AddsCaller number (get_or marked i false) (get_or old i d)) (sym (get_or-set_same mid i new d low_mid)) (subst (λ called. AddsCaller number (get_or marked i false) called new) before is) in
          subst (λ n. AddsCaller number (get_or marked n false) (get_or old n d) (get_or (set mid i new) n d)) (sym same) here
      done m d few within (inr differs) =
          subst (AddsCaller number (get_or marked m false) (get_or old m d)) (sym (get_or-set_other mid i m new d differs)) (so.done m d (omega (arith, few, differs)) within)

  pub callers_whole : (i : ℕ) (old new : List Called) → length old ≤ i → CallersSoFar number marked i old new → AddsCallers number marked old new
  callers_whole i old new past so = record { size = so.size; each = λ m d low. so.done m d (omega (arith, low, past)) low }

-- ---- the callers that one body adds

module _ (number : ℕ) (block : List Stmt) (old new : List Called) (fresh marks : Marks) (is : IsFresh (length old) fresh) (more : MarksMore (HasCallTo all_calls block) fresh marks) (adds : AddsCallers number marks.marked.items old new) where
  marked_calls : (m : ℕ) → IsMarked marks m → Calls block m
  marked_calls m marked = by (more.only m marked)
    where
      by : IsMarked fresh m ⊎ HasCallTo all_calls block m → Calls block m
      by (inl was) = absurd (is.unmarked m was)
      by (inr call) = calls_of block m call

  calls_marked : (m : ℕ) → m < length old → Calls block m → IsMarked marks m
  calls_marked m low may = more.added m (omega (arith, low, is.number)) (of_calls block m may)

  only_caller : (m k : ℕ) (d : Called) → IsCaller k (get_or old m d) ⊎ ((k ≡ number) × IsMarked marks m) → IsCaller k (get_or old m d) ⊎ ((k ≡ number) × Calls block m)
  only_caller m k d (inl was) = inl was
  only_caller m k d (inr now) = inr (now.0, marked_calls m now.1)

  pub adds_body : AddsBody number block old new
  adds_body = record {
    size = adds.size;
    kept = λ m k d low was. (adds.each m d low).kept k was;
    added = λ m d low may. (adds.each m d low).added (calls_marked m low may);
    only = λ m k d low there. only_caller m k d ((adds.each m d low).only k there);
  }

-- ---- all callers

module _ (code : Code) (size : ℕ) where
  pub none_called : (callers : List Called) → AreUncalled size callers → AreCallers code size 0 callers
  none_called callers none = record {
    number = none.number;
    only = λ m k d low there. absurd (nothing k (subst (λ xs. Contains xs k) (none.none m d low) there));
    all = λ m k d low few. absurd (omega (arith, few));
  }
    where
      nothing : (k : ℕ) → Contains [] k → ⊥
      nothing k there = omega (arith, there.1)

  -- of fewer bodies too
  pub fewer_called : (count few : ℕ) (callers : List Called) → few ≤ count → AreCallers code size count callers → AreCallers code size few callers
  fewer_called count few callers less so = record { number = so.number; only = so.only; all = λ m k d low below may. so.all m k d low (omega (arith, below, less)) may }

  pub more_called : (number : ℕ) (body : Routine) (old new : List Called) → IsAt code (place.Method (suc number)) body → AddsBody number body.statements old new → AreCallers code size number old → AreCallers code size (number + 1) new
  more_called number body old new at adds so = record {
    number = adds.size ∙ so.number;
    only = λ m k d low there. only m k d low (adds.only m k d (within m low) there);
    all = λ m k d low few may. all m k d low few may (cases_eq k number);
  }
    where
      within : (m : ℕ) → m < size → m < length old
      within m low = omega (arith, low, so.number)

      only : (m k : ℕ) (d : Called) → m < size → IsCaller k (get_or old m d) ⊎ ((k ≡ number) × Calls body.statements m) → CallsMethod code k m
      only m k d low (inl was) = so.only m k d low was
      only m k d low (inr now) = subst (λ n. CallsMethod code n m) (sym now.0) (record { body = body; at = at; calls = now.1 })

      all : (m k : ℕ) (d : Called) → m < size → k < number + 1 → CallsMethod code k m → (k ≡ number) ⊎ (k ≡ number → ⊥) → IsCaller k (get_or new m d)
      all m k d low few may (inl same) =
          let there : IsAt code (place.Method (suc number)) may.body = subst (λ n. IsAt code (place.Method (suc n)) may.body) same may.at in
          let one : may.body ≡ body = cc (sym there ∙ at) in
          subst (λ n. IsCaller n (get_or new m d)) (sym same) (adds.added m d (within m low) (subst (λ (b : Routine). Calls b.statements m) one may.calls))
      all m k d low few may (inr other) = adds.kept m k d (within m low) (so.all m k d low (omega (arith, few, other)) may)

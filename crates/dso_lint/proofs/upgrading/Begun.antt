-- The methods that take a lock at Write, marked one after the other, and those from which calls lead to them.
use Rattle.std.proofs.Common.{◌≡◌, ◌⊎◌, inl, inr, ℕ, ◌+◌, ◌<◌, ◌≤◌, arith, Bool, true, List, length, sym, subst, ap, ◌∙◌}
use Rattle.std.specs.Prelude.{◌↔◌}
use Rattle.std.proofs.lemmas.Bool.{cases_eq}
use Rattle.dso_machine.specs.declared.code.Code.{Code}
use Rattle.dso_lint.specs.declared.callers.Called.{Called}
use Rattle.dso_lint.specs.declared.marks.Marks.{Marks}
use Rattle.dso_lint.specs.Callers.{AreCallers}
use Rattle.dso_lint.specs.Leads.{AreLeading, Within}
use Rattle.dso_lint.specs.Marked.{IsFresh, IsMarked, MarksMore}
use Rattle.dso_lint.specs.Tables.{BeginsBelow}
use Rattle.dso_lint.proofs.calling.Leading.{leading_as}

module _ (P : ℕ → Type 0) (size : ℕ) where
  pub begins_none : (marks : Marks) → IsFresh size marks → BeginsBelow P size 0 marks
  begins_none marks fresh = record {
    tidy = fresh.tidy;
    number = fresh.number;
    only = λ m is. absurd (fresh.unmarked m is);
    all = λ m low. absurd (omega (arith, low));
  }

  pub begins_next : (number : ℕ) (wanted : Bool) (old new : Marks) → (wanted ≡ true) ↔ P number → MarksMore (λ m. (number ≡ m) × (wanted ≡ true)) old new → BeginsBelow P size number old → BeginsBelow P size (number + 1) new
  begins_next number wanted old new is more so = record {
    tidy = more.tidy so.tidy;
    number = more.size ∙ so.number;
    only = λ m marked. only m (more.only m marked);
    all = λ m low few holds. all m low few holds (cases_eq m number);
  }
    where
      only : (m : ℕ) → IsMarked old m ⊎ ((number ≡ m) × (wanted ≡ true)) → P m
      only m (inl was) = so.only m was
      only m (inr now) = subst P now.0 (is.0 now.1)

      all : (m : ℕ) → m < number + 1 → m < size → P m → (m ≡ number) ⊎ (m ≡ number → ⊥) → IsMarked new m
      all m low few holds (inl same) = more.added m (omega (arith, few, so.number)) (sym same, is.1 (subst P same holds))
      all m low few holds (inr other) = more.kept m (so.all m (omega (arith, low, other)) few holds)

  pub begins_less : (count few : ℕ) (marks : Marks) → few ≤ count → BeginsBelow P size count marks → BeginsBelow P size few marks
  begins_less count few marks less so = record { tidy = so.tidy; number = so.number; only = so.only; all = λ m low within holds. so.all m (omega (arith, low, less)) within holds }

  -- what calls lead to from what was marked is what they lead to where P holds
  pub begun_leading : (code : Code) (marks : Marks) (marked : List Bool) → BeginsBelow P size size marks → ((m : ℕ) → P m → m < size) → AreLeading code (Within marks.marked.items) size marked → AreLeading code P size marked
  begun_leading code marks marked so low are = leading_as code (Within marks.marked.items) P size marked so.only (λ m holds. so.all m (low m holds) (low m holds) holds) are

-- ---- by the numbers that the code has

module _ (code : Code) (P : ℕ → Type 0) (methods : ℕ) (marks : Marks) (same : methods ≡ length code.methods) (so : BeginsBelow P (methods + 5) (methods + 5) marks) where
  size_is : length marks.marked.items ≡ length code.methods + 5
  size_is = so.number ∙ ap (λ n. n + 5) same

  pub begun_callers : (callers : List Called) → AreCallers code (methods + 5) methods callers → AreCallers code (length marks.marked.items) (length code.methods) callers
  begun_callers callers are =
      let sized : AreCallers code (length marks.marked.items) methods callers = subst (λ n. AreCallers code n methods callers) (sym so.number) are in
      subst (λ n. AreCallers code (length marks.marked.items) n callers) same sized

  pub begun_fits : length code.methods ≤ length marks.marked.items
  begun_fits = omega (arith, size_is)

  pub begun_table : (marked : List Bool) → ((m : ℕ) → P m → m < length code.methods + 5) → AreLeading code (Within marks.marked.items) (length marks.marked.items) marked → AreLeading code P (length code.methods + 5) marked
  begun_table marked low are =
      let begun : BeginsBelow P (length code.methods + 5) (length code.methods + 5) marks = subst (λ n. BeginsBelow P (n + 5) (n + 5) marks) same so in
      begun_leading P (length code.methods + 5) code marks marked begun low (subst (λ n. AreLeading code (Within marks.marked.items) n marked) size_is are)

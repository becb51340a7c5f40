-- The rows at the beginning: all is clean but the parameters.
use Rattle.std.proofs.Common.{◌≡◌, ◌⊎◌, inl, inr, refl, ℕ, ◌+◌, ◌<◌, ◌≤◌, arith, Bool, true, false, List, [], ◌∷◌, ◌++◌, length, replicate, get_or, sym, subst, ap, ◌∙◌, length-append}
use Rattle.std.specs.Prelude.{nat_lt}
use Rattle.std.specs.Borrow.{Bor}
use Rattle.std.proofs.lemmas.Bool.{cases_eq}
use Rattle.std.proofs.lemmas.List.{get_or_append_left, get_or_at, get_or_default, get_or_past, length-replicate}
use Rattle.std.proofs.lemmas.List.Elements.{All-replicate}
use Rattle.dso_machine.specs.declared.tree.Expr.{Expr}
use Rattle.dso_machine.specs.declared.tree.Stmt.{Stmt}
use Rattle.dso_machine.specs.declared.tree.Stmt.TheVariants as s
use Rattle.dso_lint.specs.declared.listed.Listed.{Listed}
use Rattle.dso_lint.specs.declared.row.Row.{Row}
use Rattle.dso_lint.specs.CleanRows.{IsFirst}
use Rattle.dso_lint.specs.Listed.{IsListed}
use Rattle.dso_lint.specs.Lists.{Lists}
use Rattle.dso_lint.specs.Trees.{StandsIn}
use Rattle.dso_lint.specs.Routines.{Routine}

-- all is clean but so many parameters, with room for what the first so many statements assign
pub record FirstSoFar (statements : List (Bor Stmt)) (params k : ℕ) (variables : List Bool) : Type 0 where
  pub params_unclean : (i : ℕ) → i < params → get_or variables i true ≡ false
  pub rest : (i : ℕ) → params ≤ i → get_or variables i true ≡ true
  pub covers : (j : ℕ) (d : Bor Stmt) (i : ℕ) (value : Expr) → j < k → (get_or statements j d).now ≡ s.Assign i value → i < length variables

pub first_none : (statements : List (Bor Stmt)) (params : ℕ) → FirstSoFar statements params 0 (replicate params false)
first_none statements params = record {
  params_unclean = λ i low. All-replicate (λ b. b ≡ false) params false refl i true (subst (λ n. i < n) (sym long) low);
  rest = λ i past. get_or_past (replicate params false) i true (subst (λ n. n ≤ i) (sym long) past);
  covers = λ j d i value low. absurd (omega (arith, low));
}
  where
    long : length (replicate params false) ≡ params
    long = length-replicate params false

module _ (statements : List (Bor Stmt)) (params k : ℕ) (e : Bor Stmt) (low : k < length statements) (old : List Bool) (so : FirstSoFar statements params k old) where
  -- with room for what the next statement assigns
  pub first_more : (new : List Bool) → length old ≤ length new → ((i : ℕ) → get_or new i true ≡ get_or old i true)
      → ((i : ℕ) (value : Expr) → (get_or statements k e).now ≡ s.Assign i value → i < length new) → FirstSoFar statements params (k + 1) new
  first_more new longer same room = record {
    params_unclean = λ i is. same i ∙ so.params_unclean i is;
    rest = λ i past. same i ∙ so.rest i past;
    covers = λ j d i value below is. covers j d i value below is (cases_eq j k);
  }
    where
      covers : (j : ℕ) (d : Bor Stmt) (i : ℕ) (value : Expr) → j < k + 1 → (get_or statements j d).now ≡ s.Assign i value → (j ≡ k) ⊎ (j ≡ k → ⊥) → i < length new
      covers j d i value below is (inl at) =
          let here : (get_or statements k e).now ≡ s.Assign i value = ap (λ (x : Bor Stmt). x.now) (get_or_default statements k e d low ∙ ap (λ n. get_or statements n d) (sym at)) ∙ is in
          room i value here
      covers j d i value below is (inr other) =
          let before = so.covers j d i value (omega (arith, below, other)) is in
          omega (arith, before, longer)

pub first_whole : (listed : Listed) (body : Routine) (statements : List (Bor Stmt)) (k : ℕ) (row : Row) (own : Bool) → IsListed listed body → statements ≡ listed.statements.items → length statements ≤ k → row.this ≡ own
    → FirstSoFar statements listed.params k row.variables.items → IsFirst body own row
first_whole listed body statements k row own is same past this so = record {
  params = λ i low. so.params_unclean i (subst (λ n. i < n) (sym is.params) low);
  rest = λ i high. so.rest i (subst (λ n. n ≤ i) (sym is.params) high);
  covers = λ i value stands.
      let found = (subst (Lists (λ a. StandsIn a body.statements)) (sym same) is.statements).all (s.Assign i value) stands in
      let low : found.1.0 < k = omega (arith, found.1.1, past) in
      so.covers found.1.0 found.0 i value low (ap (λ (x : Bor Stmt). x.now) found.1.2 ∙ found.2);
  this = this;
}

-- ---- the rows of the first so many bodies

pub record RowsSoFar (bodies : List Routine) (methods k : ℕ) (rows : List Row) : Type 0 where
  pub number : length rows ≡ k
  pub each : (p : ℕ) (body : Routine) (row : Row) → p < k → IsFirst (get_or bodies p body) (nat_lt p methods) (get_or rows p row)

pub rows_none : (bodies : List Routine) (methods : ℕ) → RowsSoFar bodies methods 0 []
rows_none bodies methods = record { number = refl; each = λ p body row low. absurd (omega (arith, low)) }

pub rows_more : (bodies : List Routine) (methods k : ℕ) (rows : List Row) (row : Row) (d : Routine) → k < length bodies → RowsSoFar bodies methods k rows → IsFirst (get_or bodies k d) (nat_lt k methods) row
    → RowsSoFar bodies methods (k + 1) (rows ++ row ∷ [])
rows_more bodies methods k rows row d low so is = record {
  number = length-append rows (row ∷ []) ∙ ap (λ n. n + 1) so.number;
  each = λ p body e few. by p body e few (cases_eq p k);
}
  where
    by : (p : ℕ) (body : Routine) (e : Row) → p < k + 1 → (p ≡ k) ⊎ (p ≡ k → ⊥) → IsFirst (get_or bodies p body) (nat_lt p methods) (get_or (rows ++ row ∷ []) p e)
    by p body e few (inl same) =
        let mine : get_or (rows ++ row ∷ []) k e ≡ row = get_or_at rows row [] e k so.number in
        let its : get_or bodies k d ≡ get_or bodies k body = get_or_default bodies k d body low in
        let here : IsFirst (get_or bodies k body) (nat_lt k methods) (get_or (rows ++ row ∷ []) k e) = subst (IsFirst (get_or bodies k body) (nat_lt k methods)) (sym mine) (subst (λ b. IsFirst b (nat_lt k methods) row) its is) in
        subst (λ n. IsFirst (get_or bodies n body) (nat_lt n methods) (get_or (rows ++ row ∷ []) n e)) (sym same) here
    by p body e few (inr other) =
        let before : p < k = omega (arith, few, other) in
        let there : p < length rows = omega (arith, before, so.number) in
        subst (IsFirst (get_or bodies p body) (nat_lt p methods)) (sym (get_or_append_left rows (row ∷ []) e p there)) (so.each p body e before)

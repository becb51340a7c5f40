-- A row that loses a variable, and what a pass over a body knows of it.
use Rattle.std.proofs.Common.{◌≡◌, ◌⊎◌, inl, inr, refl, ℕ, ◌+◌, ◌<◌, ◌≤◌, arith, Bool, true, false, cond, List, [], ◌∷◌, length, get_or, set, sym, subst, ap, ◌∙◌, get_or-set_other, get_or-set_same}
use Rattle.std.specs.Prelude.{count_by}
use Rattle.std.specs.Borrow.{Bor}
use Rattle.std.proofs.lemmas.Bool.{cases_eq}
use Rattle.std.proofs.lemmas.List.{length-set, get_or_default}
use Rattle.std.proofs.lemmas.List.Sums.{sum_by-set}
use Rattle.dso_machine.specs.declared.tree.Expr.{Expr}
use Rattle.dso_machine.specs.declared.tree.Stmt.{Stmt}
use Rattle.dso_machine.specs.declared.tree.Stmt.TheVariants as s
use Rattle.dso_lint.specs.declared.row.Row.{Row}
use Rattle.dso_lint.specs.Trees.{StandsIn, evaluated}
use Rattle.dso_lint.specs.Lists.{Lists}
use Rattle.dso_lint.specs.Clean.{is_clean, IsClean}
use Rattle.dso_lint.specs.Rows.{IsBelow, KeepsAssigned, Covers, chosen_by}
use Rattle.dso_lint.specs.Narrowing.{Spoils, Shrinks, IsForced, NarrowsAt, Narrows, NarrowsSoFar, clean_count}
use Rattle.dso_lint.proofs.cleanness.CleanGrows.{clean_grows}
use Rattle.dso_lint.proofs.standing.Trees.{does_Assign}

-- what a list has at the places that are left true
pub unset : (xs : List Bool) (i : ℕ) → i < length xs → (j : ℕ) → get_or (set xs i false) j true ≡ true → get_or xs j true ≡ true
unset xs i low j so_is = by (cases_eq j i)
  where
    by : (j ≡ i) ⊎ (j ≡ i → ⊥) → get_or xs j true ≡ true
    by (inl same) =
        let gone : get_or (set xs i false) i true ≡ false = get_or-set_same xs i false true low in
        let here : get_or (set xs i false) i true ≡ true = subst (λ k. get_or (set xs i false) k true ≡ true) same so_is in
        absurd (cc (sym gone ∙ here))
    by (inr other) = sym (get_or-set_other xs i j false true other) ∙ so_is

-- one less is true
pub unset_count : (xs : List Bool) (i : ℕ) → i < length xs → get_or xs i true ≡ true → count_by (λ b. b) (set xs i false) < count_by (λ b. b) xs
unset_count xs i low was =
    let f : Bool → ℕ = λ b. cond b 1 0 in
    let sums = sum_by-set f xs i false true low in
    let one : f (get_or xs i true) ≡ 1 = ap f was in
    omega (arith, sums, one)

pub shrinks_none : (row : Row) → Shrinks row row false
shrinks_none row = record {
  this = refl;
  number = refl;
  below = record { variable = λ i so_is. so_is; this = λ so_is. so_is };
  same = λ never. refl;
  fewer = λ never. absurd (cc never);
}

-- one loss after the other, where the second one lost something
pub shrinks_more : (old mid new : Row) (any : Bool) → Shrinks old mid any → Shrinks mid new true → Shrinks old new true
shrinks_more old mid new any a b = record {
  this = b.this ∙ a.this;
  number = b.number ∙ a.number;
  below = record { variable = λ i so_is. a.below.variable i (b.below.variable i so_is); this = λ so_is. a.below.this (b.below.this so_is) };
  same = λ never. absurd (cc never);
  fewer = λ so_is. fewer any a;
}
  where
    fewer : (x : Bool) → Shrinks old mid x → clean_count new < clean_count old
    fewer true c =
        let one : clean_count new < clean_count mid = b.fewer refl in
        let two : clean_count mid < clean_count old = c.fewer refl in
        omega (arith, one, two)
    fewer false c = subst (λ row. clean_count new < clean_count row) (c.same refl) (b.fewer refl)

pub shrinks_spoiled : (i : ℕ) (old new : Row) (did : Bool) → Spoils old i new did → Shrinks old new did
shrinks_spoiled i old new true spoils = record {
  this = spoils.this;
  number = ap length (spoils.set refl) ∙ length-set old.variables.items i false;
  below = record {
    variable = λ j so_is. unset old.variables.items i (spoils.low refl) j (subst (λ xs. get_or xs j true ≡ true) (spoils.set refl) so_is);
    this = λ so_is. sym spoils.this ∙ so_is;
  };
  same = λ never. absurd (cc never);
  fewer = λ so_is. subst (λ xs. count_by (λ b. b) xs < clean_count old) (sym (spoils.set refl)) (unset_count old.variables.items i (spoils.low refl) (spoils.was refl));
}
shrinks_spoiled i old new false spoils = subst (λ row. Shrinks old row false) (sym (spoils.same refl)) (shrinks_none old)

-- an assignment of what isn't clean takes its variable out
pub forced_assigned : (block : List Stmt) (i : ℕ) (value : Expr) (old new : Row) → StandsIn (s.Assign i value) block → is_clean (chosen_by old) value ≡ false → Spoils old i new true
    → IsForced block old new
forced_assigned block i value old new stands not_clean spoils other keeps below = record { variable = λ j so_is. still j so_is (cases_eq j i); this = λ so_is. spoils.this ∙ below.this so_is }
  where
    never : other.variable i ≡ true → ⊥
    never so_is =
        let clean = clean_grows other (chosen_by old) below value (keeps i value stands so_is) in
        cc (sym clean ∙ not_clean)

    still : (j : ℕ) → other.variable j ≡ true → (j ≡ i) ⊎ (j ≡ i → ⊥) → get_or new.variables.items j true ≡ true
    still j so_is (inl same) = absurd (never (subst (λ k. other.variable k ≡ true) same so_is))
    still j so_is (inr differs) =
        subst (λ xs. get_or xs j true ≡ true) (sym (spoils.set refl)) (get_or-set_other old.variables.items i j false true differs ∙ below.variable j so_is)

-- what one statement takes out, by its form
pub narrows_assigned : (a : Stmt) (i : ℕ) (value : Expr) (old new : Row) (did : Bool) → a ≡ s.Assign i value → is_clean (chosen_by old) value ≡ false → Spoils old i new did → NarrowsAt a old new did
narrows_assigned a i value old new true is not_clean spoils = record {
  forced = λ block stands. forced_assigned block i value old new (subst (λ b. StandsIn b block) is stands) not_clean spoils;
  keeps = λ never. absurd (cc never);
}
narrows_assigned a i value old new false is not_clean spoils = record {
  forced = λ block stands other keeps below. subst (λ row. IsBelow other (chosen_by row)) (sym (spoils.same refl)) below;
  keeps = λ never j other so low so_is.
      let both : s.Assign i value ≡ s.Assign j other = sym is ∙ so in
      let same : i ≡ j = cc both in
      absurd (cc (sym (spoils.unclean refl (subst (λ k. k < length old.variables.items) (sym same) low)) ∙ subst (λ k. get_or old.variables.items k true ≡ true) (sym same) so_is));
}

pub narrows_clean : (a : Stmt) (i : ℕ) (value : Expr) (row : Row) → a ≡ s.Assign i value → is_clean (chosen_by row) value ≡ true → NarrowsAt a row row false
narrows_clean a i value row is clean = record {
  forced = λ block stands other keeps below. below;
  keeps = λ never j other so low so_is. subst (λ e. is_clean (chosen_by row) e ≡ true) (assigned_same i j value other (sym is ∙ so)) clean;
}
  where
    assigned_same : (i j : ℕ) (a b : Expr) → s.Assign i a ≡ s.Assign j b → a ≡ b
    assigned_same i j a b is =
        let same : ◌≡◌ {A = List Expr} (a ∷ []) (b ∷ []) = sym (does_Assign i a) ∙ ap evaluated is ∙ does_Assign j b in
        cc same

pub narrows_other : (a : Stmt) (row : Row) → ((i : ℕ) (value : Expr) → a ≡ s.Assign i value → ⊥) → NarrowsAt a row row false
narrows_other a row never = record {
  forced = λ block stands other keeps below. below;
  keeps = λ did i value is. absurd (never i value is);
}

-- ---- a pass

pub so_far_none : (block : List Stmt) (statements : List (Bor Stmt)) (row : Row) → NarrowsSoFar block statements 0 row row false
so_far_none block statements row = record { forced = λ other keeps below. below; passed = λ never k a i value low. absurd (omega (arith, low)) }

module _ (block : List Stmt) (statements : List (Bor Stmt)) (lists : Lists (λ a. StandsIn a block) statements) (k : ℕ) (a : Bor Stmt) (low : k < length statements) where
  there : StandsIn (get_or statements k a).now block
  there = lists.only k a low

  pub so_far_took : (old mid new : Row) (changed : Bool) → NarrowsSoFar block statements k old mid changed → NarrowsAt (get_or statements k a).now mid new true
      → NarrowsSoFar block statements (k + 1) old new true
  so_far_took old mid new changed so step = record {
    forced = λ other keeps below. step.forced block there other keeps (so.forced other keeps below);
    passed = λ never. absurd (cc never);
  }

  pub so_far_left : (old mid new : Row) (changed : Bool) → Shrinks old mid changed → new ≡ mid → NarrowsSoFar block statements k old mid changed → NarrowsAt (get_or statements k a).now mid new false
      → NarrowsSoFar block statements (k + 1) old new changed
  so_far_left old mid new changed shrinks stays so step = record {
    forced = subst (λ row. IsForced block old row) (sym stays) so.forced;
    passed = passed;
  }
    where
      passed : changed ≡ false → (j : ℕ) (b : Bor Stmt) (i : ℕ) (value : Expr) → j < k + 1 → (get_or statements j b).now ≡ s.Assign i value → i < length old.variables.items
          → (chosen_by old).variable i ≡ true → IsClean (chosen_by old) value
      passed un j b i value below is high so_is = by (cases_eq j k)
        where
          same : mid ≡ old
          same = shrinks.same un

          by : (j ≡ k) ⊎ (j ≡ k → ⊥) → IsClean (chosen_by old) value
          by (inl e) =
              let here : (get_or statements k a).now ≡ s.Assign i value = ap (λ (x : Bor Stmt). x.now) (get_or_default statements k a b low ∙ ap (λ n. get_or statements n b) (sym e)) ∙ is in
              subst (λ row. IsClean (chosen_by row) value) same (step.keeps refl i value here (subst (λ row. i < length row.variables.items) (sym same) high) (subst (λ (row : Row). (chosen_by row).variable i ≡ true) (sym same) so_is))
          by (inr other) = so.passed un j b i value (omega (arith, below, other)) is high so_is

pub narrows_whole : (block : List Stmt) (statements : List (Bor Stmt)) (old new : Row) (changed : Bool) (count : ℕ) → length statements ≤ count → Lists (λ a. StandsIn a block) statements → Covers block old
    → NarrowsSoFar block statements count old new changed → Narrows block old new changed
narrows_whole block statements old new changed count all lists covers so = record {
  forced = so.forced;
  keeps = λ un i value stands so_is.
      let found = lists.all (s.Assign i value) stands in
      let low : found.1.0 < count = omega (arith, found.1.1, all) in
      so.passed un found.1.0 found.0 i value low (ap (λ (x : Bor Stmt). x.now) found.1.2 ∙ found.2) (covers i value stands) so_is;
}

-- ---- a pass as its loop goes on

abbrev pub Passed : List (Bor Stmt) → ℕ → Row → Row → Bool → Type 0
Passed statements k old row changed = Shrinks old row changed
    × ((block : List Stmt) → Lists (λ a. StandsIn a block) statements → NarrowsSoFar block statements k old row changed)

module _ (statements : List (Bor Stmt)) (k : ℕ) (a : Bor Stmt) (low : k < length statements) (old mid new : Row) (changed did after : Bool) where
  pub passed_took : did ≡ true → after ≡ true → Passed statements k old mid changed → Shrinks mid new did → NarrowsAt (get_or statements k a).now mid new did → Passed statements (k + 1) old new after
  passed_took took is so shrinks step =
      subst (Passed statements (k + 1) old new) (sym is) (
        shrinks_more old mid new changed so.0 (subst (Shrinks mid new) took shrinks),
        λ block lists. so_far_took block statements lists k a low old mid new changed (so.1 block lists) (subst (NarrowsAt (get_or statements k a).now mid new) took step),
      )

  pub passed_left : did ≡ false → after ≡ changed → Passed statements k old mid changed → Shrinks mid new did → NarrowsAt (get_or statements k a).now mid new did → Passed statements (k + 1) old new after
  passed_left left is so shrinks step =
      let stays : new ≡ mid = shrinks.same left in
      subst (Passed statements (k + 1) old new) (sym is) (
        subst (λ row. Shrinks old row changed) (sym stays) so.0,
        λ block lists. so_far_left block statements lists k a low old mid new changed so.0 stays (so.1 block lists) (subst (NarrowsAt (get_or statements k a).now mid new) left step),
      )

-- ---- passes until none takes anything

abbrev pub Settled : List (Bor Stmt) → Row → Row → Bool → Type 0
Settled statements old row changed = (row.this ≡ old.this) × (length row.variables.items ≡ length old.variables.items) × IsBelow (chosen_by row) (chosen_by old)
    × ((block : List Stmt) → Lists (λ a. StandsIn a block) statements → Covers block old → IsForced block old row × (changed ≡ false → KeepsAssigned block (chosen_by row)))

pub settled_more : (statements : List (Bor Stmt)) (old mid new : Row) (before changed : Bool) → Settled statements old mid before → Shrinks mid new changed
    → ((block : List Stmt) → Lists (λ a. StandsIn a block) statements → Covers block mid → Narrows block mid new changed) → Settled statements old new changed
settled_more statements old mid new before changed so shrinks right = (
  shrinks.this ∙ so.0,
  shrinks.number ∙ so.1,
  record { variable = λ i is. so.2.variable i (shrinks.below.variable i is); this = λ is. so.2.this (shrinks.below.this is) },
  λ block lists covers.
      let covered : Covers block mid = λ i a stands. subst (λ n. i < n) (sym so.1) (covers i a stands) in
      let narrows = right block lists covered in (
        λ other keeps below. narrows.forced other keeps ((so.3 block lists covers).0 other keeps below),
        λ un. subst (λ row. KeepsAssigned block (chosen_by row)) (sym (shrinks.same un)) (narrows.keeps un),
      ),
)

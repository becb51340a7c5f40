-- What is added to a list for an expression, for a statement, and for a block.
use Rattle.std.proofs.Common.{◌≡◌, ◌⊎◌, inl, inr, ℕ, ◌+◌, ◌<◌, List, [], ◌∷◌, ◌++◌, length, take, get_or, sym, subst, ◌∙◌}
use Rattle.std.specs.Prelude.{Contains}
use Rattle.std.specs.Borrow.{Bor}
use Rattle.std.proofs.lemmas.List.{take_more}
use Rattle.std.proofs.lemmas.List.Elements.{All-contains, Contains-append_left, Contains-append_cases, Contains-push}
use Rattle.dso_machine.specs.declared.tree.Expr.{Expr}
use Rattle.dso_machine.specs.declared.tree.Stmt.{Stmt}
use Rattle.dso_lint.specs.Lists.{Lists, Adds}
use Rattle.dso_lint.specs.Trees.{operands, IsPart, evaluated, blocks, StandsIn, Evaluates, Uses}
use Rattle.dso_lint.proofs.standing.Listing.{lists_as, adds_none, adds_one, adds_both, adds_as, adds_to_empty}
use Rattle.dso_lint.proofs.standing.Trees.{none_there, cons_cases, Some_of, of_head, of_rest, of_none, of_cons, part_cases, part_whole, part_operand, evaluates_cases, evaluates_one, InOne, stands_cases, stands_one}

-- ---- what is added for a list of things, one after the other

module _ {X Y : Type 0} (R : X → Y → Type 0) where
  -- of something in the list it is so
  abbrev pub OfOne : List Y → X → Type 0
  OfOne ys x = Some_of (R x) ys

  pub adds_of_none : (old : List (Bor X)) → Adds (OfOne []) old old
  adds_of_none old = adds_none (OfOne []) old (λ x one. of_none (R x) one)

  pub adds_of_cons : (y : Y) (ys : List Y) (old mid new : List (Bor X)) → Adds (λ x. R x y) old mid → Adds (OfOne ys) mid new → Adds (OfOne (y ∷ ys)) old new
  adds_of_cons y ys old mid new a b = adds_as (λ x. R x y ⊎ OfOne ys x) (OfOne (y ∷ ys)) old new so (λ x one. of_cons (R x) y ys one) (adds_both (λ x. R x y) (OfOne ys) old mid new a b)
    where
      so : (x : X) → R x y ⊎ OfOne ys x → OfOne (y ∷ ys) x
      so x (inl is) = of_head (R x) y ys is
      so x (inr more) = of_rest (R x) y ys more

  pub adds_of_one : (y : Y) (old new : List (Bor X)) → Adds (λ x. R x y) old new → Adds (OfOne (y ∷ [])) old new
  adds_of_one y old new a = adds_of_cons y [] old new new a (adds_of_none new)

  pub adds_of_two : (y z : Y) (old mid new : List (Bor X)) → Adds (λ x. R x y) old mid → Adds (λ x. R x z) mid new → Adds (OfOne (y ∷ z ∷ [])) old new
  adds_of_two y z old mid new a b = adds_of_cons y (z ∷ []) old mid new a (adds_of_one z mid new b)

  -- one more at the end
  pub adds_of_push : (ys : List Y) (y : Y) (old mid new : List (Bor X)) → Adds (OfOne ys) old mid → Adds (λ x. R x y) mid new → Adds (OfOne (ys ++ y ∷ [])) old new
  adds_of_push ys y old mid new a b = adds_as (λ x. OfOne ys x ⊎ R x y) (OfOne (ys ++ y ∷ [])) old new so back (adds_both (OfOne ys) (λ x. R x y) old mid new a b)
    where
      so : (x : X) → OfOne ys x ⊎ R x y → OfOne (ys ++ y ∷ []) x
      so x (inl one) = (one.0, Contains-append_left ys (y ∷ []) one.0 one.1, one.2)
      so x (inr is) = (y, Contains-push ys y, is)

      back : (x : X) → OfOne (ys ++ y ∷ []) x → OfOne ys x ⊎ R x y
      back x one = by (Contains-append_cases ys (y ∷ []) one.0 one.1)
        where
          by : Contains ys one.0 ⊎ Contains (y ∷ []) one.0 → OfOne ys x ⊎ R x y
          by (inl there) = inl (one.0, there, one.2)
          by (inr there) = last (cons_cases y [] one.0 there)
            where
              last : (y ≡ one.0) ⊎ Contains [] one.0 → OfOne ys x ⊎ R x y
              last (inl same) = inr (subst (R x) (sym same) one.2)
              last (inr nowhere) = absurd (none_there one.0 nowhere)

  -- of the first few, one more
  pub adds_of_more : (ys : List Y) (i : ℕ) (d : Y) → i < length ys → (old mid new : List (Bor X)) → Adds (OfOne (take i ys)) old mid → Adds (λ x. R x (get_or ys i d)) mid new
      → Adds (OfOne (take (i + 1) ys)) old new
  adds_of_more ys i d low old mid new a b = subst (λ all. Adds (OfOne all) old new) (sym (take_more ys i d low)) (adds_of_push (take i ys) (get_or ys i d) old mid new a b)

-- what stands in an expression: the expression, and what stands in its operands
pub adds_parts : (whole : Expr) (all : List Expr) (old mid new : List (Bor Expr)) (item : Bor Expr) → item.now ≡ whole → mid ≡ old ++ item ∷ [] → operands whole ≡ all
    → Adds (OfOne IsPart all) mid new → Adds (λ e. IsPart e whole) old new
adds_parts whole all old mid new item item_is pushed is rest =
    adds_as (λ e. (item.now ≡ e) ⊎ OfOne IsPart all e) (λ e. IsPart e whole) old new so back
    (adds_both (λ e. item.now ≡ e) (OfOne IsPart all) old mid new (adds_one old mid item pushed) rest)
  where
    so : (e : Expr) → (item.now ≡ e) ⊎ OfOne IsPart all e → IsPart e whole
    so e (inl same) = part_whole e whole (sym item_is ∙ same)
    so e (inr one) = part_operand e whole (subst (Some_of (IsPart e)) (sym is) one)

    back : (e : Expr) → IsPart e whole → (item.now ≡ e) ⊎ OfOne IsPart all e
    back e part = by (part_cases e whole part)
      where
        by : (whole ≡ e) ⊎ Some_of (IsPart e) (operands whole) → (item.now ≡ e) ⊎ OfOne IsPart all e
        by (inl same) = inl (item_is ∙ same)
        by (inr one) = inr (subst (Some_of (IsPart e)) is one)

-- what a statement evaluates
pub adds_evaluated : (a : Stmt) (all : List Expr) (old new : List (Bor Expr)) → evaluated a ≡ all → Adds (OfOne IsPart all) old new → Adds (Evaluates a) old new
adds_evaluated a all old new is added = adds_as (OfOne IsPart all) (Evaluates a) old new
    (λ e one. evaluates_one a e (subst (Some_of (IsPart e)) (sym is) one)) (λ e does. subst (Some_of (IsPart e)) is (evaluates_cases a e does)) added

-- what stands in the blocks of a statement
pub adds_inner : (a : Stmt) (all : List (List Stmt)) (old new : List (Bor Stmt)) → blocks a ≡ all → Adds (OfOne StandsIn all) old new → Adds (OfOne StandsIn (blocks a)) old new
adds_inner a all old new is added = subst (λ bs. Adds (OfOne StandsIn bs) old new) (sym is) added

-- a statement, and what stands in its blocks
pub adds_statement : (a : Stmt) (old mid new : List (Bor Stmt)) (item : Bor Stmt) → item.now ≡ a → mid ≡ old ++ item ∷ [] → Adds (OfOne StandsIn (blocks a)) mid new → Adds (λ b. InOne b a) old new
adds_statement a old mid new item item_is pushed rest =
    adds_as (λ b. (item.now ≡ b) ⊎ OfOne StandsIn (blocks a) b) (λ b. InOne b a) old new so back
    (adds_both (λ b. item.now ≡ b) (OfOne StandsIn (blocks a)) old mid new (adds_one old mid item pushed) rest)
  where
    so : (b : Stmt) → (item.now ≡ b) ⊎ OfOne StandsIn (blocks a) b → InOne b a
    so b (inl same) = inl (sym item_is ∙ same)
    so b (inr one) = inr one

    back : (b : Stmt) → InOne b a → (item.now ≡ b) ⊎ OfOne StandsIn (blocks a) b
    back b (inl same) = inl (item_is ∙ same)
    back b (inr one) = inr one

-- a block
pub adds_block : (block : List Stmt) (old new : List (Bor Stmt)) → Adds (OfOne InOne block) old new → Adds (λ a. StandsIn a block) old new
adds_block block old new added = adds_as (OfOne InOne block) (λ a. StandsIn a block) old new (λ a one. stands_one a block one) (λ a is. stands_cases a block is) added

-- what one of these statements evaluates
abbrev pub Does : Expr → Bor Stmt → Type 0
Does e a = Evaluates a.now e

-- what the statements of a block evaluate
pub adds_uses : (block : List Stmt) (statements : List (Bor Stmt)) (old new : List (Bor Expr)) → Lists (λ a. StandsIn a block) statements → old ≡ [] → Adds (OfOne Does statements) old new
    → Lists (Uses block) new
adds_uses block statements old new lists none added =
    lists_as (OfOne Does statements) (Uses block) new so back (adds_to_empty (OfOne Does statements) old new none added)
  where
    so : (e : Expr) → OfOne Does statements e → Uses block e
    so e one = record { statement = one.0.now; stands = All-contains (λ (a : Bor Stmt). StandsIn a.now block) statements one.0 lists.only one.1; evaluates = one.2 }

    back : (e : Expr) → Uses block e → OfOne Does statements e
    back e used =
        let at = lists.all used.statement used.stands in
        (at.0, at.1, subst (λ a. Evaluates a e) (sym at.2) used.evaluates)

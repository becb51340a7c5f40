-- What is clean by one choice is clean by each that chooses more.
use Rattle.std.proofs.Common.{◌≡◌, refl, Bool, true, subst, sym, ◌∙◌}
use Rattle.dso_machine.specs.declared.tree.Expr.{Expr, Expr-F}
use Rattle.dso_machine.specs.declared.tree.Expr.TheFolds.{fold-roll-Expr, ind-Expr, map-Expr}
use Rattle.dso_machine.specs.declared.tree.Expr.TheOpen as ef
use Rattle.dso_lint.specs.Clean.{Chosen, clean_step, is_clean, IsClean}
use Rattle.dso_lint.specs.Rows.{IsBelow}

module _ (c d : Chosen) (below : IsBelow c d) where
  -- an expression, with what is shown of it
  abbrev Kid : Type 0
  Kid = (a : Expr) × (is_clean c a ≡ true → is_clean d a ≡ true)

  abbrev Goes : Expr-F Expr → Type 0
  Goes z = clean_step c (map-Expr Expr Bool (is_clean c) z) ≡ true → clean_step d (map-Expr Expr Bool (is_clean d) z) ≡ true

  layer : (y : Expr-F Kid) → Goes (map-Expr Kid Expr (λ k. k.0) y)
  layer (ef.Const v) so_is = refl
  layer (ef.Var i) so_is = below.variable i so_is
  layer ef.This so_is = below.this so_is
  layer (ef.Root r) so_is = refl
  layer (ef.Field a f) so_is = a.1 so_is
  layer (ef.Elem a b) so_is = a.1 so_is
  layer (ef.Call a callees args) so_is = absurd (cc so_is)
  layer (ef.NewObject class) so_is = absurd (cc so_is)
  layer (ef.NewArray kind a) so_is = absurd (cc so_is)
  layer (ef.Unary o a) so_is = refl
  layer (ef.Binary o a b) so_is = refl

  pub clean_grows : (a : Expr) → IsClean c a → IsClean d a
  clean_grows = ind-Expr (λ a. is_clean c a ≡ true → is_clean d a ≡ true) (λ z y is so_is.
      let g : Goes z = subst Goes is (layer y) in
      fold-roll-Expr Bool (clean_step d) z ∙ g (sym (fold-roll-Expr Bool (clean_step c) z) ∙ so_is))

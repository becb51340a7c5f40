-- What is guarded in a block, by its statements and the blocks in them.
use Rattle.std.proofs.Common.{◌≡◌, ◌⊎◌, inl, inr, refl, ℕ, Bool, List, [], ◌∷◌, sym, subst, ap, ◌∙◌}
use Rattle.std.specs.Prelude.{Contains, Option}
use Rattle.dso_base.specs.declared.lock.Grade.{Grade}
use Rattle.dso_machine.specs.declared.tree.Expr.{Expr}
use Rattle.dso_machine.specs.declared.tree.Expr.TheFolds.{fold-roll-Expr}
use Rattle.dso_machine.specs.declared.tree.Expr.TheOpen as ef
use Rattle.dso_machine.specs.declared.tree.Expr.TheVariants as x
use Rattle.dso_machine.specs.declared.tree.Stmt.{Stmt, Stmt-F, out-Stmt, out-roll-Stmt}
use Rattle.dso_machine.specs.declared.tree.Stmt.TheOpen as sf
use Rattle.dso_machine.specs.declared.tree.Stmt.TheVariants as s
use Rattle.dso_lint.specs.declared.access.Scene.{Scene}
use Rattle.dso_lint.specs.Access.{IsGuarded, KeepsAccess}
use Rattle.dso_lint.specs.Clean.{Chosen, clean_step, is_clean}
use Rattle.dso_lint.specs.Scenes.{MakesGuarded, AllGuarded, InnerGuarded}
use Rattle.dso_lint.specs.Sites.{Site, Inside, StandsUnder, here, deeper, insides, insides_in, own_sites}
use Rattle.dso_lint.specs.Routines.{Routine}
use Rattle.dso_lint.specs.Rows.{chosen_by}
use Rattle.dso_lint.specs.Trees.{blocks, blocks_in}
use Rattle.dso_lint.proofs.standing.Trees.{head_there, later_there, none_there, cons_cases}

-- ---- the blocks in a statement, with the sites around them

abbrev pub inside_of : List Site → List Stmt → Inside
inside_of sites block = record { sites = sites; block = block }

abbrev pub site_of : Expr → Grade → List Stmt → Site
site_of lock grade block = record { lock = lock; grade = grade; block = block }

pub inside_If : (sites : List Site) (a : Expr) (all others : List Stmt) → insides sites (s.If a all others) ≡ inside_of sites all ∷ inside_of sites others ∷ []
inside_If sites a all others = ap (insides sites) (sym (s.rolls-If a all others)) ∙ ap (insides_in sites) (out-roll-Stmt (sf.If a all others))

pub inside_While : (sites : List Site) (a : Expr) (all : List Stmt) → insides sites (s.While a all) ≡ inside_of sites all ∷ []
inside_While sites a all = ap (insides sites) (sym (s.rolls-While a all)) ∙ ap (insides_in sites) (out-roll-Stmt (sf.While a all))

pub inside_Sync : (sites : List Site) (a : Expr) (grade : Grade) (all : List Stmt) → insides sites (s.Sync a grade all) ≡ inside_of (site_of a grade all ∷ sites) all ∷ []
inside_Sync sites a grade all = ap (insides sites) (sym (s.rolls-Sync a grade all)) ∙ ap (insides_in sites) (out-roll-Stmt (sf.Sync a grade all))

none_in : (sites : List Site) (o : Stmt-F Stmt) → blocks_in o ≡ [] → insides_in sites o ≡ []
none_in sites (sf.If a all others) is = absurd (cc is)
none_in sites (sf.While a all) is = absurd (cc is)
none_in sites (sf.Sync a grade all) is = absurd (cc is)
none_in sites other is = refl

module _ (scene : Scene) where
  -- a statement without blocks
  pub none_guarded : (sites : List Site) (a : Stmt) → blocks a ≡ [] → InnerGuarded scene sites a
  none_guarded sites a is inside there = absurd (none_there inside (subst (λ (all : List Inside). Contains all inside) (none_in sites (out-Stmt a) is) there))

  -- with one
  pub one_guarded : (sites : List Site) (a : Stmt) (one : Inside) → insides sites a ≡ one ∷ [] → AllGuarded scene one.sites one.block → InnerGuarded scene sites a
  one_guarded sites a one is so inside there = by (cons_cases one [] inside (subst (λ (all : List Inside). Contains all inside) is there))
    where
      by : (one ≡ inside) ⊎ Contains [] inside → AllGuarded scene inside.sites inside.block
      by (inl same) = subst (λ (i : Inside). AllGuarded scene i.sites i.block) same so
      by (inr nowhere) = absurd (none_there inside nowhere)

  pub first_guarded : (sites : List Site) (a : Stmt) (one : Inside) (rest : List Inside) → insides sites a ≡ one ∷ rest → InnerGuarded scene sites a → AllGuarded scene one.sites one.block
  first_guarded sites a one rest is so = so one (subst (λ (all : List Inside). Contains all one) (sym is) (head_there one rest))

  -- with two
  pub two_guarded : (sites : List Site) (a : Stmt) (one two : Inside) → insides sites a ≡ one ∷ two ∷ [] → AllGuarded scene one.sites one.block → AllGuarded scene two.sites two.block → InnerGuarded scene sites a
  two_guarded sites a one two is first second inside there = by (cons_cases one (two ∷ []) inside (subst (λ (all : List Inside). Contains all inside) is there))
    where
      last : (two ≡ inside) ⊎ Contains [] inside → AllGuarded scene inside.sites inside.block
      last (inl same) = subst (λ (i : Inside). AllGuarded scene i.sites i.block) same second
      last (inr nowhere) = absurd (none_there inside nowhere)

      by : (one ≡ inside) ⊎ Contains (two ∷ []) inside → AllGuarded scene inside.sites inside.block
      by (inl same) = subst (λ (i : Inside). AllGuarded scene i.sites i.block) same first
      by (inr there) = last (cons_cases two [] inside there)

  pub second_guarded : (sites : List Site) (a : Stmt) (one two : Inside) → insides sites a ≡ one ∷ two ∷ [] → InnerGuarded scene sites a → AllGuarded scene two.sites two.block
  second_guarded sites a one two is so = so two (subst (λ (all : List Inside). Contains all two) (sym is) (later_there one (two ∷ []) two (head_there two [])))

  -- ---- a block

  -- a statement, and the blocks in it
  abbrev pub IsGuardedOne : List Site → Stmt → Type 0
  IsGuardedOne sites a = MakesGuarded scene sites a × InnerGuarded scene sites a

  within : (a : Stmt) (around sites : List Site) (block : List Stmt) → StandsUnder a around sites block → ((b : Stmt) → Contains block b → IsGuardedOne sites b) → MakesGuarded scene around a
  within a around sites block (here there) each = (each a there).0
  within a around sites block (deeper {b = b} {inside = inside} there in_b stands) each = (each b there).1 inside in_b a around stands

  pub block_guarded : (sites : List Site) (block : List Stmt) → ((b : Stmt) → Contains block b → IsGuardedOne sites b) → AllGuarded scene sites block
  block_guarded sites block each a around stands = within a around sites block stands each

  pub makes_there : (sites : List Site) (block : List Stmt) (a : Stmt) → Contains block a → AllGuarded scene sites block → MakesGuarded scene sites a
  makes_there sites block a there all = all a sites (here there)

  pub inner_there : (sites : List Site) (block : List Stmt) (a : Stmt) → Contains block a → AllGuarded scene sites block → InnerGuarded scene sites a
  inner_there sites block a there all inside in_a b around stands = all b around (deeper there in_a stands)

  -- ---- a body

  -- the rule for all of a body is that for its statements under its own site
  pub keeps_as : (routine : Routine) (block : List Stmt) → scene.named ≡ routine.named → block ≡ routine.statements → AllGuarded scene (own_sites routine) block → KeepsAccess scene.shape.now (chosen_by scene.row.now) routine
  keeps_as routine block named is all a sites access stands makes =
      subst (λ (n : Option (ℕ × Grade)). IsGuarded scene.shape.now (chosen_by scene.row.now) n access.object access.field access.write sites) named (all a sites (subst (StandsUnder a sites (own_sites routine)) (sym is) stands) access makes)

  pub keeps_back : (routine : Routine) (block : List Stmt) → scene.named ≡ routine.named → block ≡ routine.statements → KeepsAccess scene.shape.now (chosen_by scene.row.now) routine → AllGuarded scene (own_sites routine) block
  keeps_back routine block named is keeps a sites stands access makes =
      subst (λ (n : Option (ℕ × Grade)). IsGuarded scene.shape.now (chosen_by scene.row.now) n access.object access.field access.write sites) (sym named) (keeps a sites access (subst (StandsUnder a sites (own_sites routine)) is stands) makes)

-- ---- a method's own site

pub this_clean : (chosen : Chosen) → is_clean chosen x.This ≡ chosen.this
this_clean chosen = ap (is_clean chosen) (sym x.rolls-This) ∙ fold-roll-Expr Bool (clean_step chosen) ef.This

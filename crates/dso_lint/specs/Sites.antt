-- The `synchronized` sites around a place of a body.
use Rattle.std.specs.Prelude.{List, [], ◌∷◌, Contains, Option, None, Some}
use Rattle.dso_base.specs.declared.lock.Grade.{Grade}
use Rattle.dso_machine.specs.declared.tree.Expr.{Expr}
use Rattle.dso_machine.specs.declared.tree.Expr.TheVariants as x
use Rattle.dso_machine.specs.declared.tree.Stmt.{Stmt, Stmt-F, out-Stmt}
use Rattle.dso_machine.specs.declared.tree.Stmt.TheOpen as s
use Rattle.dso_lint.specs.Routines.{Routine}

-- a site: what it locks, at which grade, and its block
pub record Site : Type 0 where
  pub lock : Expr
  pub grade : Grade
  pub block : List Stmt

-- a block, with the sites around it, the innermost first
pub record Inside : Type 0 where
  pub sites : List Site
  pub block : List Stmt

-- the blocks in a statement, where these sites are around the statement
abbrev pub insides_in : List Site → Stmt-F Stmt → List Inside
insides_in sites (s.If a all others) =
    record { sites = sites; block = all } ∷ record { sites = sites; block = others } ∷ []
insides_in sites (s.While a all) = record { sites = sites; block = all } ∷ []
insides_in sites (s.Sync a grade all) =
    record { sites = record { lock = a; grade = grade; block = all } ∷ sites; block = all } ∷ []
insides_in sites other = []

abbrev pub insides : List Site → Stmt → List Inside
insides sites a = insides_in sites (out-Stmt a)

-- The statement stands in the block with the first sites around it, where the second ones are around the block.
pub data StandsUnder (a : Stmt) (around : List Site) : List Site → List Stmt → Type 0 where
  here : {block : List Stmt} → Contains block a → StandsUnder a around around block
  deeper : {sites : List Site} {block : List Stmt} {b : Stmt} {inside : Inside} → Contains block b →
      Contains (insides sites b) inside → StandsUnder a around inside.sites inside.block →
      StandsUnder a around sites block

-- a synchronized method is a site around all of its body
abbrev pub whole_site : Option Grade → List Stmt → List Site
whole_site None block = []
whole_site (Some grade) block = record { lock = x.This; grade = grade; block = block } ∷ []

abbrev pub own_sites : Routine → List Site
own_sites routine = whole_site routine.synced routine.statements

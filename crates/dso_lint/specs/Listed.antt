-- The bodies of code in one list: those of the methods, and then those of the threads.
use Rattle.std.specs.Prelude.{◌≡◌, ◌↔◌, ◌<◌, ℕ, IsTrue, List, ◌++◌, length, map, slice_index_or, None}
use Rattle.dso_machine.specs.declared.code.Code.{Code}
use Rattle.dso_machine.specs.declared.code.Method.{Method}
use Rattle.dso_machine.specs.declared.code.ThreadBody.{ThreadBody}
use Rattle.dso_machine.specs.declared.tree.Stmt.{Stmt}
use Rattle.dso_lint.specs.declared.listed.Listed.{Listed}
use Rattle.dso_lint.specs.Lists.{Lists}
use Rattle.dso_lint.specs.Routines.{Routine}
use Rattle.dso_lint.specs.Trees.{StandsIn, Uses}
use Rattle.dso_lint.specs.Upgrades.{HasWriteSite}

abbrev pub routine_of : Method → Routine
routine_of m = record { statements = m.body; params = m.params; named = m.named; synced = m.synced }

-- a block with no lock around it
abbrev pub routine_of_block : List Stmt → Routine
routine_of_block block = record { statements = block; params = 0; named = None; synced = None }

abbrev pub routine_of_thread : ThreadBody → Routine
routine_of_thread b = routine_of_block b.body

abbrev pub routines : Code → List Routine
routines code = map routine_of code.methods ++ map routine_of_thread code.bodies

-- the body with what stands in it
pub record IsListed (listed : Listed) (body : Routine) : Type 0 where
  pub block : listed.block.now ≡ body.statements
  pub statements : Lists (λ a. StandsIn a body.statements) listed.statements.items
  pub expressions : Lists (Uses body.statements) listed.expressions.items
  pub writes : IsTrue listed.writes ↔ HasWriteSite body.statements
  pub params : listed.params ≡ body.params
  pub named : listed.named ≡ body.named
  pub synced : listed.synced ≡ body.synced

-- they are the bodies, in order
pub record AreListed (bodies : List Routine) (all : List Listed) : Type 0 where
  pub number : length all ≡ length bodies
  pub each : (p : ℕ) (listed : Listed) (body : Routine) → p < length bodies →
      IsListed (slice_index_or all p listed) (slice_index_or bodies p body)

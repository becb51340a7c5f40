-- The bodies of code as the rules see them: those of the methods, and those of the threads.
use Rattle.std.specs.Prelude.{◌≡◌, ℕ, zero, suc, List, slice_get, Option, None, Some}
use Rattle.dso_base.specs.declared.lock.Grade.{Grade}
use Rattle.dso_machine.specs.declared.code.Code.{Code}
use Rattle.dso_machine.specs.declared.code.Method.{Method}
use Rattle.dso_machine.specs.declared.code.ThreadBody.{ThreadBody}
use Rattle.dso_machine.specs.declared.tree.Stmt.{Stmt}
use Rattle.dso_lint.specs.declared.answer.Place.{Place}
use Rattle.dso_lint.specs.declared.answer.Place.TheVariants as place

-- what a body is to the rules: its statements, how many parameters it has, and the locks that a method takes
pub record Routine : Type 0 where
  pub statements : List Stmt
  pub params : ℕ
  pub named : Option (ℕ × Grade)
  pub synced : Option Grade

-- the body of a method
abbrev pub of_method : Option Method → Option Routine
of_method None = None
of_method (Some m) = Some (record { statements = m.body; params = m.params; named = m.named; synced = m.synced })

-- the body of a thread
abbrev pub of_thread : Option ThreadBody → Option Routine
of_thread None = None
of_thread (Some b) = Some (record { statements = b.body; params = 0; named = None; synced = None })

-- the body at a place, if there is one; places count from 1
abbrev pub routine_at : Code → Place → Option Routine
routine_at code (place.Method zero) = None
routine_at code (place.Method (suc k)) = of_method (slice_get code.methods k)
routine_at code (place.Thread zero) = None
routine_at code (place.Thread (suc k)) = of_thread (slice_get code.bodies k)

-- this body stands at the place
abbrev pub IsAt : Code → Place → Routine → Type 0
IsAt code at routine = routine_at code at ≡ Some routine

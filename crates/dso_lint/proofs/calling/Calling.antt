-- Calls of methods: what a call that counts is, and where methods stand.
use Rattle.std.proofs.Common.{◌≡◌, refl, ℕ, suc, ◌<◌, List, length, subst}
use Rattle.std.specs.Prelude.{slice_get, Option, None, Some}
use Rattle.std.specs.Borrow.{Bor}
use Rattle.std.proofs.lemmas.Option.{slice_get_within}
use Rattle.dso_machine.specs.declared.code.Code.{Code}
use Rattle.dso_machine.specs.declared.code.Method.{Method}
use Rattle.dso_machine.specs.declared.tree.Stmt.{Stmt}
use Rattle.dso_lint.specs.declared.answer.Place.TheVariants as place
use Rattle.dso_lint.specs.declared.row.Row.{Row}
use Rattle.dso_lint.specs.Marked.{HasCallTo}
use Rattle.dso_lint.specs.Routines.{Routine, IsAt, of_method}
use Rattle.dso_lint.specs.Trees.{Uses}
use Rattle.dso_lint.specs.Upgrades.{Calls}

-- no row: each call counts
abbrev pub all_calls : Option (Bor Row)
all_calls = None

pub calls_of : (block : List Stmt) (m : ℕ) → HasCallTo all_calls block m → Calls block m
calls_of block m call = record {
  receiver = call.2.receiver;
  callees = call.2.callees;
  args = call.2.args;
  class = call.2.class;
  uses = subst (Uses block) call.2.is call.1;
  may = call.2.may;
}

pub of_calls : (block : List Stmt) (m : ℕ) → Calls block m → HasCallTo all_calls block m
of_calls block m call = (_, call.uses, record { receiver = call.receiver; callees = call.callees; args = call.args; class = call.class; is = refl; may = call.may; counts = tt })

-- a method's number is below how many there are
pub method_low : (code : Code) (k : ℕ) (body : Routine) → IsAt code (place.Method (suc k)) body → k < length code.methods
method_low code k body at = by (slice_get code.methods k) refl at
  where
    by : (m : Option Method) → slice_get code.methods k ≡ m → of_method m ≡ Some body → k < length code.methods
    by None is never = absurd (cc never)
    by (Some m) is so = slice_get_within code.methods k m is

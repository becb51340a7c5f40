use Rattle.std.proofs.Common.{◌+◌, ◌≡◌, subst, arith}
use Rattle.dso_cell.specs.declared.due.Mishap.TheVariants as mishap
use Rattle.dso_cell.specs.ServerSteps.{IsOneDue}
use Rattle.dso_cell.proofs.serving.Due.{owed}
use Rattle.dso_cell.proofs.serving.Steps.{break_goes_on, lose_goes_on}
use Rattle.dso_cell.proofs.server_cell.ServerCell.suffer.Goals as goal

pub break_now-requires-clause-there : goal.break_now-requires-clause-there
break_now-requires-clause-there c =
    let old = c.args.self.now in
    let its : c.args.due.client ≡ 1 + (owed old.core 1 c.args.due old.ends.items c.requires.due).place = (owed old.core 1 c.args.due old.ends.items c.requires.due).its in
    omega (arith, its)

pub returns-in_ok-lose-in-Loss-clause-stands : goal.returns-in_ok-lose-in-Loss-clause-stands
returns-in_ok-lose-in-Loss-clause-stands c = λ code.
    let old = c.args.self.now in
    let one : IsOneDue old.core 1 (record { client = c.args.due.client; mishap = mishap.Loss }) old.ends.items =
    subst (λ what. IsOneDue old.core 1 (record { client = c.args.due.client; mishap = what }) old.ends.items) c.in-Loss.is c.requires.due in
    lose_goes_on code old c.lose.new.self c.args.due.client one c.in_ok-lose-in-Loss.ensures.lost

pub returns-in_ok-break_now-in-Break-clause-stands : goal.returns-in_ok-break_now-in-Break-clause-stands
returns-in_ok-break_now-in-Break-clause-stands c = λ code.
    let old = c.args.self.now in
    let one : IsOneDue old.core 1 (record { client = c.args.due.client; mishap = mishap.Break }) old.ends.items =
    subst (λ what. IsOneDue old.core 1 (record { client = c.args.due.client; mishap = what }) old.ends.items) c.in-Break.is c.requires.due in
    break_goes_on code old c.break_now.new.self c.args.due.client one c.in_ok-break_now-in-Break.ensures.broken

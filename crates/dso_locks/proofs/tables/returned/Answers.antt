use Rattle.std.proofs.Common.{◌∙◌, sym}
use Rattle.dso_locks.specs.Locks.{returned_by}
use Rattle.dso_locks.proofs.Placing.{placed_as}
use Rattle.dso_locks.proofs.Telling.{told_at}
use Rattle.dso_locks.proofs.tables.returned.Goals as goal

pub returns-in_err-change_at-clause-placed : goal.returns-in_err-change_at-clause-placed
returns-in_err-change_at-clause-placed c = placed_as c.args.tables.now.index c.args.tables.now.locks c.change_at.new.locks c.change_at.ensures.changes.names c.requires.placed

pub returns-clause-placed : goal.returns-clause-placed
returns-clause-placed c = placed_as c.args.tables.now.index c.args.tables.now.locks c.change_at.new.locks c.change_at.ensures.changes.names c.requires.placed

pub returns-clause-told : goal.returns-clause-told
returns-clause-told c = told_at c.args.tables.now.index c.args.tables.now.locks c.change_at.new.locks c.args.lock c.in-Some.place (returned_by c.args.client) c.new-told.result.items c.change_at.new.told.items c.new-told.ensures.items c.requires.placed (sym c.get.ensures.value ∙ (sym c.copied.ensures ∙ c.in-Some.is)) c.change_at.ensures.changes c.in_ok-change_at.ensures.served

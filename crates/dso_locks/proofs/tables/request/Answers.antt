use Rattle.std.proofs.Common.{◌∙◌, ap, sym, subst}
use Rattle.dso_locks.specs.Locks.{waits, requested_by, IsTold}
use Rattle.dso_locks.specs.LockRows.{states_by}
use Rattle.dso_locks.proofs.Placing.{placed_as}
use Rattle.dso_locks.proofs.Telling.{stands_at, told_at}
use Rattle.dso_locks.proofs.tables.request.Goals as goal

pub change_at-requires : goal.change_at-requires
change_at-requires c = ap (λ s. waits c.args.client s) (sym (stands_at c.place_of.new.tables.index c.place_of.new.tables.locks c.args.lock c.in_ok-place.place c.in_ok-place.ensures.place) ∙ ap (λ locks. locks c.args.lock) c.in_ok-place.ensures.locks) ∙ c.requires.free

pub returns-in_err-change_at-clause-placed : goal.returns-in_err-change_at-clause-placed
returns-in_err-change_at-clause-placed c = placed_as c.place_of.new.tables.index c.place_of.new.tables.locks c.change_at.new.locks c.change_at.ensures.changes.names c.in_ok-place.ensures.placed

pub returns-clause-placed : goal.returns-clause-placed
returns-clause-placed c = placed_as c.place_of.new.tables.index c.place_of.new.tables.locks c.change_at.new.locks c.change_at.ensures.changes.names c.in_ok-place.ensures.placed

pub returns-clause-told : goal.returns-clause-told
returns-clause-told c = subst (λ old. IsTold c.args.lock (requested_by c.args.client c.args.level) old (states_by c.place_of.new.tables.index c.change_at.new.locks) c.change_at.new.told.items) c.in_ok-place.ensures.locks
    (told_at c.place_of.new.tables.index c.place_of.new.tables.locks c.change_at.new.locks c.args.lock c.in_ok-place.place (requested_by c.args.client c.args.level) c.new-told.result.items c.change_at.new.told.items c.new-told.ensures.items c.in_ok-place.ensures.placed c.in_ok-place.ensures.place c.change_at.ensures.changes c.in_ok-change_at.ensures.served)

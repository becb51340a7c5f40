use Rattle.std.proofs.Common.{◌∙◌, ap, sym}
use Rattle.std.specs.Map.{keys_of, lookup}
use Rattle.std.specs.BTreeMap.{is_at}
use Rattle.dso_lookup.specs.Orders.{lock_order}
use Rattle.dso_locks.specs.LockRows.{name_at}
use Rattle.dso_locks.proofs.Names.{inserted_keys, found_kept}
use Rattle.dso_locks.proofs.Placing.{placed_as, placed_beside, placed_with}
use Rattle.dso_locks.proofs.tables.place_of.Goals as goal

pub returns-in-Some-clause-requested : goal.returns-in-Some-clause-requested
returns-in-Some-clause-requested c = sym (found_kept c.args.lock c.in-Some.place.now c.args.tables.now.index.entries c.requires.ordered (sym c.in-Some.ensures.value))

pub returns-in_err-place-clause-placed : goal.returns-in_err-place-clause-placed
returns-in_err-place-clause-placed c = placed_as c.args.tables.now.index c.args.tables.now.locks c.insert.new.self (λ place. ap (λ locks. name_at locks place) c.in_err-place.ensures.err) c.requires

pub returns-in_err-insert-clause-placed : goal.returns-in_err-insert-clause-placed
returns-in_err-insert-clause-placed c = placed_beside c.args.tables.now.index c.insert-2.new.self c.args.tables.now.locks c.insert.new.self c.args.lock c.in_ok-place.place c.new.result c.requires c.in_ok-place.ensures.was_vacant c.in_ok-place.ensures.updates c.insert-2.ensures.ordered (λ k. ap (λ es. lookup (is_at (lock_order k)) es) c.in_err-insert.ensures.err)

pub returns-clause-placed : goal.returns-clause-placed
returns-clause-placed c = placed_with c.args.tables.now.index c.insert-2.new.self c.args.tables.now.locks c.insert.new.self c.args.lock c.in_ok-place.place c.new.result c.requires c.in_ok-place.ensures.was_vacant c.in_ok-place.ensures.updates c.new.ensures.name c.insert-2.ensures.ordered c.in_ok-insert.ensures.updates.0

pub returns-clause-requested : goal.returns-clause-requested
returns-clause-requested c = ap (λ es. keys_of es) c.in_ok-insert.ensures.entries ∙ inserted_keys c.args.lock c.in_ok-place.place c.args.tables.now.index.entries

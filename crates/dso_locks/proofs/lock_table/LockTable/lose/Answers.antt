use Rattle.std.proofs.Common.{◌≡◌, flat_map, subst}
use Rattle.dso_base.specs.declared.lock.LockName.{LockName}
use Rattle.dso_law.specs.Settings.{Settings}
use Rattle.dso_locks.specs.Locks.{lost_by, after_told, messages_of, IsWithin, serves}
use Rattle.dso_locks.specs.LockRows.{states_by, locks_in, requested_in}
use Rattle.dso_locks.proofs.lock_table.LockTable.lose.Goals as goal

pub returns-clause-told : goal.returns-clause-told
returns-clause-told c = subst (λ tables. (p : Settings) → ((l : LockName) → IsWithin p (lost_by c.args.client (locks_in tables l))) → messages_of c.lose.new.told.items ≡ flat_map (λ l. serves p l (lost_by c.args.client (locks_in tables l))) (requested_in tables)) c.self.view_is c.in_ok-lose.ensures.told.sends

pub returns-clause-locks : goal.returns-clause-locks
returns-clause-locks c = subst (λ tables. states_by c.self.inside.tables.index c.lose.new.locks ≡ after_told c.lose.new.told.items (λ l. lost_by c.args.client (locks_in tables l))) c.self.view_is c.in_ok-lose.ensures.told.stands

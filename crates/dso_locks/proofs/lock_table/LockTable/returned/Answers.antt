use Rattle.std.proofs.Common.{◌≡◌, IfOk, subst}
use Rattle.dso_law.specs.Settings.{Settings}
use Rattle.dso_locks.specs.Locks.{returned_by, messages_of, IsWithin, serves}
use Rattle.dso_locks.specs.LockRows.{locks_in}
use Rattle.std.proofs.lemmas.Result.{IfOk-weaker}
use Rattle.dso_locks.proofs.lock_table.LockTable.returned.Goals as goal

pub returns-clause-told : goal.returns-clause-told
returns-clause-told c =
    subst (λ tables. IfOk c.returned.result (λ told. (p : Settings) → IsWithin p (returned_by c.args.client (locks_in tables c.args.lock)) → messages_of told.items ≡ serves p c.args.lock (returned_by c.args.client (locks_in tables c.args.lock)))) c.self.view_is
    (IfOk-weaker c.returned.result _ _ (λ told it. it.sends) c.returned.ensures.told)

use Rattle.std.proofs.Common.{sym, ◌∙◌}
use Rattle.dso_client.proofs.applied.Leases.{lease_entered}
use Rattle.dso_client.proofs.act_effect.apply_to_leases.Goals as goal

pub returns-in-Some : goal.returns-in-Some
returns-in-Some c = λ clock at h. lease_entered clock at c.args.act c.args.leases.now h c.in-Some.lock c.entered.new.self (sym c.entered_lock.ensures ∙ c.in-Some.is) c.entered.ensures

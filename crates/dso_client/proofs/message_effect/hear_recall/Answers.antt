use Rattle.std.proofs.Common.{refl}
use Rattle.dso_client.proofs.heard.Locks.{recall_either}
use Rattle.dso_client.proofs.message_effect.hear_recall.Goals as goal

pub returns-clause-heard : goal.returns-clause-heard
returns-clause-heard c = λ clock at h. recall_either clock at c.args.lock c.args.lock_state.now h c.recalled.result (record c.args.lock_state.now { leases = c.recalled.new.self }) refl refl
    c.recalled.ensures.leased c.recalled.ensures.closing c.recalled.ensures.unchanged

use Rattle.std.proofs.Common.{ap}
use Rattle.dso_client.specs.ClientStands.{point}
use Rattle.dso_client.specs.Openings.{thread_at}
use Rattle.dso_client.proofs.asked.Missing.{asks_missing}
use Rattle.dso_client.proofs.asked.Step.{asked_stands}
use Rattle.dso_client.proofs.asked_act.act_asking.Goals as goal

pub returns-clause-stands : goal.returns-clause-stands
returns-clause-stands c = λ code p client clock es request h its is asks.
    let at = point code p client es in
    let old = c.args.kept.now in
    let m = c.args.message in
    asked_stands code p client clock c.args.index m es old h request c.ask.new.kept its is asks
    (c.in_ok-ask.ensures.parts clock at h.parts h.parts.number (asks_missing at (thread_at client c.args.index) request m asks))
    (ap (λ contexts. contexts.items) c.ask.ensures.contexts)

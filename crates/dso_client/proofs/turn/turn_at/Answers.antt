use Rattle.std.proofs.Common.{subst}
use Rattle.dso_client.specs.Turns.{IsTurnOf, IsTurnOfContext}
use Rattle.dso_client.proofs.contexts.ContextsFound.{found_stands, found_is, never_missing}
use Rattle.dso_client.proofs.turn.turn_at.Goals as goal

pub returns-in-Some-clause-its : goal.returns-in-Some-clause-its
returns-in-Some-clause-its c = subst (λ context. IsTurnOfContext context c.turn_in.result) c.in-Some.ensures c.turn_in.ensures.its

pub returns-in-Some-clause-turn : goal.returns-in-Some-clause-turn
returns-in-Some-clause-turn c = λ at h sizes shape its.
    let kept = c.args.kept.now in
    let context = c.in-Some.context.now in
    subst (λ t. IsTurnOf at t c.turn_in.result) (found_is at kept h c.args.index context c.in-Some.ensures)
    (c.turn_in.ensures.turn at h (found_stands at kept h c.args.index context c.in-Some.ensures) sizes shape)

pub returns-in-None-clause-turn : goal.returns-in-None-clause-turn
returns-in-None-clause-turn c = λ at h sizes shape its. absurd (never_missing at c.args.kept.now h c.args.index its c.in-None.ensures)

use Rattle.std.proofs.Common.{◌-◌, arith}
use Rattle.std.proofs.lemmas.Option.{slice_get-get_or}
use Rattle.dso_client.proofs.acts.Concerned.{one_applied, past_all}
use Rattle.dso_client.proofs.context_effect.apply_to_one.Goals as goal

pub returns-then-at-contexts : goal.returns-then-at-contexts
returns-then-at-contexts c =
    let index = c.args.index in
    let contexts = c.args.contexts.now in
    one_applied c.args.lock_state.now c.args.act index (index - 1) contexts _ c.apply_to_context.new.context (omega arith)
    (slice_get-get_or contexts (index - 1) _ (omega arith)) c.apply_to_context.ensures

pub returns-else-at-contexts : goal.returns-else-at-contexts
returns-else-at-contexts c =
    past_all c.args.lock_state.now c.args.act c.args.index c.args.contexts.now c.if-at-contexts.false

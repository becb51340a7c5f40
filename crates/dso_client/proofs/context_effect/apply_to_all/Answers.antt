use Rattle.std.proofs.Common.{◌≡◌, arith, slice_set, length, subst}
use Rattle.std.proofs.lemmas.Option.{slice_get-get_or}
use Rattle.dso_client.proofs.acts.UpTo.{AppliedUpTo, one_more, counted, all_applied}
use Rattle.dso_client.proofs.context_effect.apply_to_all.Goals as goal

pub loop-at-preserved : goal.loop-at-preserved
loop-at-preserved c = counted c.args.lock_state.now c.args.act c.loop-at.at c.args.contexts.now (slice_set c.loop-at.contexts c.loop-at.at c.apply_to_context.new.context)
    (one_more c.args.lock_state.now c.args.act c.loop-at.at c.args.contexts.now c.loop-at.contexts _ c.apply_to_context.new.context c.loop-at.invariant
    (slice_get-get_or c.loop-at.contexts c.loop-at.at _ (omega arith)) c.apply_to_context.ensures)

pub returns : goal.returns
returns c =
    let all : c.loop-at.at ≡ length c.args.contexts.now = omega arith in
    all_applied c.args.lock_state.now c.args.act c.args.contexts.now c.loop-at.contexts (subst (λ n. AppliedUpTo c.args.lock_state.now c.args.act n c.args.contexts.now c.loop-at.contexts) all c.loop-at.invariant)

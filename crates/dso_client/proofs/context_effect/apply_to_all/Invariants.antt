use Rattle.dso_client.proofs.acts.UpTo.{AppliedUpTo}
use Rattle.dso_client.proofs.context_effect.apply_to_all.Given as goal

abbrev pub invariant-loop-at : goal.invariant-loop-at
invariant-loop-at l = AppliedUpTo l.lock_state l.act l.at l.initial.contexts l.contexts

use Rattle.std.proofs.Common.{subst}
use Rattle.dso_client.specs.NamedObjects.{AddsThreads}
use Rattle.dso_client.proofs.named.named.Goals as goal

pub returns : goal.returns
returns c = subst (λ old. AddsThreads c.args.contexts.now old c.add_threads.new.into.items) c.new-named.ensures.items c.in_ok-add_threads.ensures

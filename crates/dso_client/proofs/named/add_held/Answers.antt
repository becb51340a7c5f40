use Rattle.std.proofs.Common.{sym, ◌∙◌}
use Rattle.dso_client.proofs.objects.NamedByThreads.{none_held}
use Rattle.dso_client.proofs.named.add_held.Goals as goal

pub returns-in-None : goal.returns-in-None
returns-in-None c = λ code events st next. none_held code c.args.context.now.id c.args.context.now.thread events c.args.into.now.items st (sym c.in-None.is ∙ next)

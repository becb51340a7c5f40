use Rattle.std.proofs.Common.{sym, ◌∙◌, ap, eqb, ◌&&◌}
use Rattle.dso_server.proofs.lists.ThreadTables.{threads_of_client}
use Rattle.dso_server.proofs.reads.is_thread_of.Goals as goal

pub returns : goal.returns
returns c = λ p es s. c.is_of.ensures ∙ (ap (λ f. eqb c.args.thread.client c.args.client && f c.args.thread) s.threads.known ∙ sym (threads_of_client c.args.thread c.args.client p.threads))

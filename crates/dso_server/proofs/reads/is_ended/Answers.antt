use Rattle.std.proofs.Common.{sym, ◌∙◌, ap}
use Rattle.dso_server.specs.Threads.{ends_there}
use Rattle.dso_server.proofs.reads.is_ended.Goals as goal

pub returns : goal.returns
returns c = λ p es s. c.is_end.ensures ∙ (ap ends_there (c.last_ending.ensures p es s) ∙ sym (s.threads.ended c.args.thread))

use Rattle.dso_host.proofs.hosts.GoodMessages.{no_message_is_bad}
use Rattle.dso_host.proofs.laws.no_message_is_bad.Goals as goal

pub returns : goal.returns
returns c = no_message_is_bad

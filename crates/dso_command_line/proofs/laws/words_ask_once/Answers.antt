use Rattle.dso_command_line.proofs.laws.words_ask_once.Goals as goal
use Rattle.dso_command_line.proofs.reading_words.Asking.{asks-once}

pub returns : goal.returns
returns c = asks-once

use Rattle.dso_tokens.proofs.tokens.ReadingLaws as laws
use Rattle.dso_tokens.proofs.lex.one_reading.Goals as goal

pub returns : goal.returns
returns c = laws.one_reading

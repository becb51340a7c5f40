use Rattle.dso_syntax.proofs.soundness.SoundPrograms as laws
use Rattle.dso_syntax.proofs.grammar.read_exactly.Goals as goal

pub returns : goal.returns
returns c = laws.read_exactly

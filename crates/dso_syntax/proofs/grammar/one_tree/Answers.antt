use Rattle.dso_syntax.proofs.completeness.ReadPrograms as laws
use Rattle.dso_syntax.proofs.grammar.one_tree.Goals as goal

pub returns-clause-texts : goal.returns-clause-texts
returns-clause-texts c = laws.one_program

pub returns-clause-tokens : goal.returns-clause-tokens
returns-clause-tokens c = laws.one_tree

use Rattle.dso_legal.proofs.run_laws.flushes.Goals as goal
use Rattle.dso_legal.proofs.runs.InHandAbsent.{in_hand_is_absent}
use Rattle.dso_legal.proofs.runs.FlushWords.{flush_words_agree}

pub returns-clause-absent : goal.returns-clause-absent
returns-clause-absent c = in_hand_is_absent

pub returns-clause-words : goal.returns-clause-words
returns-clause-words c = flush_words_agree

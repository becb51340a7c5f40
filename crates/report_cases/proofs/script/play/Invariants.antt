use Rattle.report_cases.specs.LegalRun.{IsLegalRun}
use Rattle.report_cases.proofs.script.play.Given as goal

-- the run is legal after each word
abbrev pub invariant-loop-word : goal.invariant-loop-word
invariant-loop-word l = IsLegalRun l.program l.run × (goal.iterator-loop-word).can_next l.word-iterator × (goal.iterator-loop-word).is_finite l.word-iterator

use Rattle.report_cases.specs.LegalRun.{IsLegalRun}
use Rattle.report_cases.proofs.script.act_on.Given as goal

-- the run is legal after each act
abbrev pub invariant-loop : goal.invariant-loop
invariant-loop l = IsLegalRun l.program l.run

-- A client that is driven by hand.
use Rattle.std.specs.Prelude.{◌≤◌}
use Rattle.dso_client.specs.ThreadActs.{HoldsAtMost}
use Rattle.dso_client.specs.ClientViews.{records_sent}
use Rattle.dso_client.specs.CodeRuns.{RunsCode}
use Rattle.dso_machine.specs.declared.code.Code.{Code}
use Rattle.cluster_cases.specs.declared.driven.Driven.{Driven}

-- It runs the code, and has sent no more records and holds no lock more often than it was asked for acts, which are
-- few.
pub record Goes (code : Code) (driven : Driven) : Type 0 where
  pub runs : RunsCode code driven.client
  pub holds : HoldsAtMost driven.acts driven.client
  pub records : records_sent driven.client ≤ driven.acts
  pub few : driven.acts ≤ 1000000

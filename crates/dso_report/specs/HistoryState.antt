-- Which states a program's runs lead to.
use Rattle.std.specs.Prelude.{◌≡◌, List}
use Rattle.dso_base.specs.declared.request.Event.{Event}
use Rattle.dso_base.specs.Following.{Listed}
use Rattle.dso_class.specs.declared.program.Program.{Program}
use Rattle.dso_machine.specs.Next.{next_request}
use Rattle.dso_plain.specs.History.{IsLegal, last_state}
use Rattle.dso_plain.specs.State.{PlainState}

-- The state is the last one of a legal history of the program.
pub record IsLastStateOf (p : Program) (s : PlainState) : Type 0 where
  pub history : List Event
  pub legal : IsLegal (next_request p.code) (Listed (next_request p.code)) p.code.shape history
  pub is_last : s ≡ last_state p.code.shape history

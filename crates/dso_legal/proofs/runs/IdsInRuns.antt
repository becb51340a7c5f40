-- In a run the ids of the objects made rise.
use Rattle.std.proofs.Common.{ℕ, Option, List, [], ◌∷◌}
use Rattle.dso_base.specs.declared.journal.Entry.{Entry}
use Rattle.dso_base.specs.declared.lock.ThreadId.{ThreadId}
use Rattle.dso_base.specs.declared.request.Event.{Event}
use Rattle.dso_base.specs.declared.request.Request.{Request}
use Rattle.dso_law.specs.Settings.{Settings}
use Rattle.dso_law.specs.Records.{batches}
use Rattle.dso_law.specs.ClientRun.{ClientRun, next_in}
use Rattle.dso_legal.specs.MadeOnce.{objects_made}
use Rattle.dso_legal.specs.Runs.{IdsRiseInRuns}
use Rattle.dso_legal.proofs.ids.Making.{InOrder, steps, rises}

pub order_in_run : (p : Settings) (c : ℕ) (next : ThreadId → List Event → Option Request) (es : List Entry) → ClientRun p c next es → InOrder (batches es) (objects_made es)
order_in_run p c next [] run = record { rise = tt; places = tt }
order_in_run p c next (e ∷ es) run = steps p c (next_in next es) (next_in next (e ∷ es)) e es e.input run.1 (order_in_run p c next es run.0)

pub ids_rise_in_runs : IdsRiseInRuns
ids_rise_in_runs p c next es run = rises es (order_in_run p c next es run)

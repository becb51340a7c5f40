use Rattle.std.proofs.Common.{sym, subst}
use Rattle.dso_client.specs.ThreadActs.{HoldsAtMost}
use Rattle.dso_client.specs.CodeRuns.{RunsCode}
use Rattle.dso_client.proofs.contexts.KeptCounts.{keeps_most}
use Rattle.dso_client.proofs.due.Took.{runs_on}
use Rattle.dso_client.proofs.client.Client.take.Goals as goal

pub returns-in-Ok-clause-runs : goal.returns-in-Ok-clause-runs
returns-in-Ok-clause-runs c = λ code h. runs_on code c.self.inside.kept c.take.new.kept c.take.ensures.runs (subst (RunsCode code) (sym c.self.view_is) h)

pub returns-in-Ok-clause-holds : goal.returns-in-Ok-clause-holds
returns-in-Ok-clause-holds c = λ most h. keeps_most c.self.inside.kept c.take.new.kept c.take.ensures.counts most (subst (HoldsAtMost most) (sym c.self.view_is) h)

pub returns-in-Err-clause-runs : goal.returns-in-Err-clause-runs
returns-in-Err-clause-runs c = λ code h. runs_on code c.self.inside.kept c.take.new.kept c.take.ensures.runs (subst (RunsCode code) (sym c.self.view_is) h)

pub returns-in-Err-clause-holds : goal.returns-in-Err-clause-holds
returns-in-Err-clause-holds c = λ most h.
    let left = keeps_most c.self.inside.kept c.take.new.kept c.take.ensures.counts most (subst (HoldsAtMost most) (sym c.self.view_is) h) in
    record { held = left.held; waiting = left.waiting }

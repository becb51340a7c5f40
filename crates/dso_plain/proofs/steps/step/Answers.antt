use Rattle.std.proofs.Common.{rules, sym, subst}
use Rattle.dso_plain.specs.StepInvariants.{PastInvariant, MonitorInvariant}
use Rattle.dso_plain.specs.Possible.{May}
use Rattle.dso_plain.specs.HeapTables.{state_of}
use Rattle.dso_plain.proofs.histories.RunKinds.{may_but_marks}
use Rattle.dso_plain.proofs.invariants.PastsHold as past
use Rattle.dso_plain.proofs.invariants.MonitorsHold as monitors
use Rattle.dso_plain.proofs.steps.step.Goals as goal

pub returns-clause-kept : goal.returns-clause-kept
returns-clause-kept c =
    let m : May c.args.shape.now c.args.event.now (state_of c.args.tables.now) = search rules in
    record {
      past = subst (λ s. PastInvariant s) (sym c.in_ok-make.ensures.state) (past.event_kept c.args.shape.now c.args.event.now (state_of c.args.tables.now) (may_but_marks c.args.shape.now c.args.event.now (state_of c.args.tables.now) m) c.requires.past);
      monitors = subst (λ s. MonitorInvariant s) (sym c.in_ok-make.ensures.state) (monitors.event_kept c.args.shape.now c.args.event.now (state_of c.args.tables.now) m c.requires.monitors);
      agrees = c.in_ok-make.ensures.agrees;
    }

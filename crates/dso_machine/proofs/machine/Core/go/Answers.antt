use Rattle.std.proofs.Common.{refl}
use Rattle.dso_machine.specs.Continuation.{Leads}
use Rattle.dso_machine.specs.declared.continuation.Now.TheVariants as now
use Rattle.dso_machine.proofs.standing.AfterReplies.{leads_on, leads_moved, leads_then, pauses}
use Rattle.dso_machine.proofs.machine.Core.go.Goals as goal

pub returns-then-self-ge-MOST_MOVES-clause-leads : goal.returns-then-self-ge-MOST_MOVES-clause-leads
returns-then-self-ge-MOST_MOVES-clause-leads c =
    let on : Leads c.args.code.now c.args.begun c.args.self.now (now.Pace c.in-Pace.then) c.settle.new.self =
    rw c.in-Pace.is at (leads_then _ _ _ _ _ _ _ c.going.invariant (leads_on _ _ _ _ _ c.in_ok-now.ensures.keeps c.in_ok-now.ensures.calm)) in
    leads_then _ _ _ _ _ _ _ on (leads_on _ _ _ _ _ (pauses c.args.code.now c.in-Pace.then c.settle.new.self c.if-self-ge-MOST_MOVES.true) refl)

pub going-preserved : goal.going-preserved
going-preserved c =
    let on : Leads c.args.code.now c.args.begun c.args.self.now (now.Pace c.in-Pace.then) c.settle.new.self =
    rw c.in-Pace.is at (leads_then _ _ _ _ _ _ _ c.going.invariant (leads_on _ _ _ _ _ c.in_ok-now.ensures.keeps c.in_ok-now.ensures.calm)) in
    leads_then _ _ _ _ _ _ _ on (leads_moved _ _ _ _ _ c.in_ok-now-in-Pace.ensures.makes c.in_ok-now-in-Pace.ensures.moved c.if-self-ge-MOST_MOVES.false)

pub returns-in-Ask-clause-leads : goal.returns-in-Ask-clause-leads
returns-in-Ask-clause-leads c =
    rw c.in-Ask.is at (leads_then _ _ _ _ _ _ _ c.going.invariant (leads_on _ _ _ _ _ c.in_ok-now.ensures.keeps c.in_ok-now.ensures.calm))

pub returns-in-End-clause-leads : goal.returns-in-End-clause-leads
returns-in-End-clause-leads c =
    rw c.in-End.is at (leads_then _ _ _ _ _ _ _ c.going.invariant (leads_on _ _ _ _ _ c.in_ok-now.ensures.keeps c.in_ok-now.ensures.calm))

use Rattle.std.proofs.Common.{sym, subst, IfOk}
use Rattle.dso_world.specs.declared.step.Step.{Step}
use Rattle.dso_world.specs.declared.step.Step.TheVariants as step
use Rattle.dso_world.specs.NodeSteps.{StandOpen, StepsAll}
use Rattle.dso_world.specs.Touched.{client_of}
use Rattle.dso_world.specs.WorldSteps.{slot_of}
use Rattle.dso_world.proofs.client_nodes.EntryDraft.{all_made}
use Rattle.dso_world.proofs.node_step.apply.Goals as goal

pub take_up-requires : goal.take_up-requires
take_up-requires c = subst (λ (step : Step). StandOpen c.args.program.now (client_of (slot_of step)) (slot_of step) c.args.nodes.now) c.in-TakeUp.is c.requires

pub lose-requires : goal.lose-requires
lose-requires c = (c.args.program.now, subst (λ (step : Step). StandOpen c.args.program.now (client_of (slot_of step)) (slot_of step) c.args.nodes.now) c.in-Lose.is c.requires)

pub break_now-requires : goal.break_now-requires
break_now-requires c = (c.args.program.now, subst (λ (step : Step). StandOpen c.args.program.now (client_of (slot_of step)) (slot_of step) c.args.nodes.now) c.in-Break.is c.requires)

pub returns-in-TakeUp : goal.returns-in-TakeUp
returns-in-TakeUp c = subst (λ step. IfOk c.take_up.result (λ entry. StepsAll c.args.program.now (client_of (slot_of step)) (slot_of step) entry c.args.nodes.now c.take_up.new.nodes)) (sym c.in-TakeUp.is) c.take_up.ensures

pub returns-in-Lose : goal.returns-in-Lose
returns-in-Lose c = subst (λ step. IfOk c.lose.result (λ entry. StepsAll c.args.program.now (client_of (slot_of step)) (slot_of step) entry c.args.nodes.now c.lose.new.nodes)) (sym c.in-Lose.is)
    (all_made c.lose.result (λ program entry. StepsAll program (client_of (slot_of (step.Lose c.in-Lose.number))) (slot_of (step.Lose c.in-Lose.number)) entry c.args.nodes.now c.lose.new.nodes) c.args.program.now c.lose.ensures)

pub returns-in-Break : goal.returns-in-Break
returns-in-Break c = subst (λ step. IfOk c.break_now.result (λ entry. StepsAll c.args.program.now (client_of (slot_of step)) (slot_of step) entry c.args.nodes.now c.break_now.new.nodes)) (sym c.in-Break.is)
    (all_made c.break_now.result (λ program entry. StepsAll program (client_of (slot_of (step.Break c.in-Break.number))) (slot_of (step.Break c.in-Break.number)) entry c.args.nodes.now c.break_now.new.nodes) c.args.program.now c.break_now.ensures)

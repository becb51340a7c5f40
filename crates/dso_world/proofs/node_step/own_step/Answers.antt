use Rattle.std.proofs.Common.{sym, subst, IfOk}
use Rattle.dso_world.specs.declared.step.Step.TheVariants as step
use Rattle.dso_world.specs.ClientSteps.{Steps}
use Rattle.dso_world.specs.Touched.{client_of}
use Rattle.dso_world.specs.WorldSteps.{slot_of}
use Rattle.dso_world.proofs.client_nodes.EntryDraft.{all_made}
use Rattle.dso_world.proofs.node_step.own_step.Goals as goal

pub returns-in-Act : goal.returns-in-Act
returns-in-Act c = subst (λ step. IfOk c.act.result (λ entry. Steps c.args.program.now (client_of (slot_of step)) (slot_of step) entry c.args.client_node.now c.act.new.client_node)) (sym c.in-Act.is) c.act.ensures

pub returns-in-TakeDown : goal.returns-in-TakeDown
returns-in-TakeDown c = subst (λ step. IfOk c.take_down.result (λ entry. Steps c.args.program.now (client_of (slot_of step)) (slot_of step) entry c.args.client_node.now c.take_down.new.client_node)) (sym c.in-TakeDown.is) c.take_down.ensures

pub returns-in-Flush : goal.returns-in-Flush
returns-in-Flush c = subst (λ step. IfOk c.flush.result (λ entry. Steps c.args.program.now (client_of (slot_of step)) (slot_of step) entry c.args.client_node.now c.flush.new.client_node)) (sym c.in-Flush.is)
    (all_made c.flush.result (λ program entry. Steps program (client_of (slot_of (step.Flush c.in-Flush.number))) (slot_of (step.Flush c.in-Flush.number)) entry c.args.client_node.now c.flush.new.client_node) c.args.program.now c.flush.ensures)

use Rattle.std.proofs.Common.{◌∙◌, ◌&&◌, ap, not, refl, subst, sym}
use Rattle.dso_world.specs.declared.step.Step.TheVariants as step
use Rattle.dso_world.specs.SlotTests.{TellsOpenAt}
use Rattle.dso_world.proofs.worlds.Looks.{acts_told, at_own, at_step, break_told, down_told, lose_told, up_told}
use Rattle.dso_world.proofs.slot_test.is_open_at.Goals as goal

pub returns-in-Act : goal.returns-in-Act
returns-in-Act c = λ program.
    let t = c.in-Act.thread in
    at_step program c.args.number t.client c.args.server.now c.args.client_node.now c.args.step (step.Act t) c.enabled.result c.requires c.in-Act.is refl
    (acts_told program c.args.server.now c.args.client_node.now t c.enabled.result c.enabled.ensures.enabled)

pub returns-in-TakeDown : goal.returns-in-TakeDown
returns-in-TakeDown c = λ program.
    at_own program c.args.number c.in-TakeDown.field-0 c.args.server.now c.args.client_node.now c.args.step step.TakeDown (not c.is_down_empty.result) c.requires c.in-TakeDown.is (λ n. refl)
    (down_told program c.args.number c.args.server.now c.args.client_node.now c.is_down_empty.result c.is_down_empty.ensures)

pub returns-in-TakeUp : goal.returns-in-TakeUp
returns-in-TakeUp c = λ program.
    let told = up_told program c.args.number c.args.server.now c.args.client_node.now c.due.result.0 c.due.result.1 (c.due.ensures program) c.is_up_empty.result c.is_up_empty.ensures in
    at_own program c.args.number c.in-TakeUp.field-0 c.args.server.now c.args.client_node.now c.args.step step.TakeUp c.can_take.result c.requires c.in-TakeUp.is (λ n. refl)
    (subst (λ b. TellsOpenAt program c.args.number c.args.server.now c.args.client_node.now (step.TakeUp c.args.number) b) (sym (c.can_take.ensures ∙ ap (λ b. not b && not c.is_up_empty.result) c.is_either.ensures)) told)

pub returns-in-Lose : goal.returns-in-Lose
returns-in-Lose c = λ program.
    at_own program c.args.number c.in-Lose.field-0 c.args.server.now c.args.client_node.now c.args.step step.Lose c.due-in-Lose.result.0 c.requires c.in-Lose.is (λ n. refl)
    (lose_told program c.args.number c.args.server.now c.args.client_node.now c.due-in-Lose.result.0 c.due-in-Lose.result.1 (c.due-in-Lose.ensures program))

pub returns-in-Break : goal.returns-in-Break
returns-in-Break c = λ program.
    at_own program c.args.number c.in-Break.field-0 c.args.server.now c.args.client_node.now c.args.step step.Break c.due-in-Break.result.1 c.requires c.in-Break.is (λ n. refl)
    (break_told program c.args.number c.args.server.now c.args.client_node.now c.due-in-Break.result.0 c.due-in-Break.result.1 (c.due-in-Break.ensures program))

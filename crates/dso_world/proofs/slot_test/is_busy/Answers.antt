use Rattle.std.proofs.Common.{◌∙◌, ◌&&◌, ◌||◌, ap, not}
use Rattle.dso_world.proofs.worlds.Looks.{busy_told}
use Rattle.dso_world.proofs.slot_test.is_busy.Goals as goal

pub returns : goal.returns
returns c = λ program. busy_told program c.args.number c.args.server.now c.args.client_node.now c.due.result.0 c.due.result.1 (c.due.ensures program)
    c.is_lost.result c.is_quiet.result c.keeps_going.result c.is_alive.ensures.alive c.is_lost.ensures c.is_quiet.ensures c.is_alive.ensures.threads
    (c.keeps_going.ensures ∙ ap (λ b. b || (not c.is_lost.result && (not c.is_quiet.result || c.is_alive.result))) c.is_either.ensures
    ∙ ap (λ b. (c.due.result.0 || c.due.result.1) || (not c.is_lost.result && (not c.is_quiet.result || b))) c.is_alive.ensures.is)

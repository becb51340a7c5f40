use Rattle.std.proofs.Common.{◌-◌, ◌≤◌, arith}
use Rattle.dso_world.proofs.worlds.Looks.{beyond_told, lent, client_node_told, none_told, unlent}
use Rattle.dso_world.proofs.slot_test.is_open.Goals as goal

pub returns-then-number-eq0 : goal.returns-then-number-eq0
returns-then-number-eq0 c = λ program. none_told program c.client_of-number.result c.args.nodes.now c.args.step c.client_of-number.ensures c.if-number-eq0.true

pub returns-in-Some : goal.returns-in-Some
returns-in-Some c =
    let number = c.client_of-number.result in
    let some = c.if-number-eq0.false in
    let low : 1 ≤ number = omega (arith, some) in
    λ program. client_node_told program number c.args.nodes.now c.args.step c.client_of-number.ensures c.in-Some.client_node.now c.is_open_at.result low
    (lent c.args.nodes.now.client_nodes.items c.deref.result.now (number - 1) c.in-Some.client_node.now c.deref.ensures.value c.in-Some.ensures.lookup.0 c.in-Some.ensures.lookup.1) (c.is_open_at.ensures program)

pub returns-in-None : goal.returns-in-None
returns-in-None c =
    let number = c.client_of-number.result in
    let some = c.if-number-eq0.false in
    let low : 1 ≤ number = omega (arith, some) in
    λ program. beyond_told program number c.args.nodes.now c.args.step c.client_of-number.ensures low
    (unlent c.args.nodes.now.client_nodes.items c.deref.result.now (number - 1) c.deref.ensures.value c.in-None.ensures.lookup.0)

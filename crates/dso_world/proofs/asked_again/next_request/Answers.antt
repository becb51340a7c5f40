use Rattle.std.proofs.Common.{◌-◌, ◌≤◌, arith}
use Rattle.dso_world.proofs.touches.Asked.{beyond_asks, client_asks, nobody_asks}
use Rattle.dso_world.proofs.worlds.Looks.{lent, unlent}
use Rattle.dso_world.proofs.asked_again.next_request.Goals as goal

pub returns-then-thread-eq0 : goal.returns-then-thread-eq0
returns-then-thread-eq0 c = λ program. nobody_asks program c.args.nodes.now c.args.thread c.if-thread-eq0.true

pub returns-in-Some : goal.returns-in-Some
returns-in-Some c =
    let t = c.args.thread in
    let some = c.if-thread-eq0.false in
    let low : 1 ≤ t.client = omega (arith, some) in
    λ program. client_asks program c.args.nodes.now t c.in-Some.client_node.now c.next_request.result low
    (lent c.args.nodes.now.client_nodes.items c.deref.result.now (t.client - 1) c.in-Some.client_node.now c.deref.ensures.value c.in-Some.ensures.lookup.0 c.in-Some.ensures.lookup.1) c.next_request.ensures.next

pub returns-in-None : goal.returns-in-None
returns-in-None c =
    let t = c.args.thread in
    let some = c.if-thread-eq0.false in
    let low : 1 ≤ t.client = omega (arith, some) in
    λ program. beyond_asks program c.args.nodes.now t low
    (unlent c.args.nodes.now.client_nodes.items c.deref.result.now (t.client - 1) c.deref.ensures.value c.in-None.ensures.lookup.0)

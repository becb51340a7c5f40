use Rattle.std.proofs.Common.{suc, ◌-◌, ◌<◌, ◌≡◌, ◌∙◌, refl, false, true, Some, ap, length, slice_get, sym, subst, arith}
use Rattle.std.specs.Vec.{with_item}
use Rattle.dso_world.specs.ClientSteps.{Steps}
use Rattle.dso_world.specs.NodeSteps.{StepsAll}
use Rattle.dso_world.specs.NodesStand.{ClientNodeStands}
use Rattle.dso_world.specs.Touched.{client_of}
use Rattle.dso_world.specs.WorldSteps.{slot_of}
use Rattle.dso_world.proofs.client_nodes.EntryDraft.{then_made}
use Rattle.dso_world.proofs.nodes.Stepped.{got, client_node_steps}
use Rattle.dso_world.proofs.places.Clients.{numbered_so}
use Rattle.dso_world.proofs.node_step.client_node_step.Goals as goal

pub overflow_sub-place : goal.overflow_sub-place
overflow_sub-place c =
    let low = (numbered_so (client_of (slot_of c.args.step)) c.args.program.now.clients c.requires.«open».its).0 in
    let is = c.client_of.ensures in
    omega (arith, low, is)

pub own_step-requires-clause-open : goal.own_step-requires-clause-open
own_step-requires-clause-open c =
    let h = c.requires.«open» in
    let number = client_of (slot_of c.args.step) in
    let low = (numbered_so number c.args.program.now.clients h.its).0 in
    let place : suc (c.client_of.result - 1) ≡ number = (let is = c.client_of.ensures in omega (arith, low, is)) in
    let many = c.args.nodes.now.client_nodes.ok.0 in
    let within : c.client_of.result - 1 < length c.args.nodes.now.client_nodes.items = (let v = c.in-Some.ensures.variant.0 refl in omega (arith, v, many)) in
    let there = got c.args.nodes.now.client_nodes.items (c.client_of.result - 1) c.in-Some.client_node.now within c.in-Some.ensures.value in
    record {
      es = h.es;
      journal = h.journal;
      its = h.its;
      stands = subst (λ d. ClientNodeStands c.args.program.now d c.in-Some.client_node.now h.es) place (h.stands.client_nodes (c.client_of.result - 1) c.in-Some.client_node.now there);
      opened = h.opened;
    }

pub unreachable-requires : goal.unreachable-requires
unreachable-requires c =
    let h = c.requires.«open» in
    let range = numbered_so (client_of (slot_of c.args.step)) c.args.program.now.clients h.its in
    let low = range.0 in
    let high = range.1 in
    let is = c.client_of.ensures in
    let many = c.args.nodes.now.client_nodes.ok.0 in
    let count = h.stands.count in
    let outside : false ≡ true = c.in-None.ensures.variant.1 (omega (arith, low, high, is, many, count)) in
    cc outside

pub returns : goal.returns
returns c =
    let number = client_of (slot_of c.args.step) in
    let many = c.args.nodes.now.client_nodes.ok.0 in
    let within : c.client_of.result - 1 < length c.args.nodes.now.client_nodes.items = (let v = c.in-Some.ensures.variant.0 refl in omega (arith, v, many)) in
    let there = got c.args.nodes.now.client_nodes.items (c.client_of.result - 1) c.in-Some.client_node.now within c.in-Some.ensures.value in
    let there_by : slice_get c.args.nodes.now.client_nodes.items (number - 1) ≡ Some c.in-Some.client_node.now = ap (λ n. slice_get c.args.nodes.now.client_nodes.items (n - 1)) (sym c.client_of.ensures) ∙ there in
    then_made c.own_step.result (λ entry. Steps c.args.program.now number (slot_of c.args.step) entry c.in-Some.client_node.now c.own_step.new.client_node) (λ entry. StepsAll c.args.program.now number (slot_of c.args.step) entry c.args.nodes.now
    (record { client_nodes = with_item c.args.nodes.now.client_nodes (c.client_of.result - 1) c.own_step.new.client_node; server = c.args.nodes.now.server; clock = c.args.nodes.now.clock }))
    (λ entry steps. subst (λ n. StepsAll c.args.program.now number (slot_of c.args.step) entry c.args.nodes.now (record { client_nodes = with_item c.args.nodes.now.client_nodes (n - 1) c.own_step.new.client_node; server = c.args.nodes.now.server; clock = c.args.nodes.now.clock })) (sym c.client_of.ensures)
    (client_node_steps c.args.program.now number (slot_of c.args.step) c.args.nodes.now c.in-Some.client_node.now c.own_step.new.client_node entry steps there_by)) c.own_step.ensures

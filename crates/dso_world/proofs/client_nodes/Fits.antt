-- What a client of a short journal keeps is small.
use Rattle.std.proofs.Common.{ℕ, suc, ◌≤◌, sym, subst, Bool, true, false, cond, List, [], ◌∷◌, length, arith}
use Rattle.dso_base.specs.declared.journal.Entry.{Entry}
use Rattle.dso_base.specs.declared.journal.Input.{Input}
use Rattle.dso_base.specs.declared.journal.Node.{Node}
use Rattle.dso_base.specs.declared.journal.Node.TheVariants as node
use Rattle.dso_class.specs.declared.program.Program.{Program}
use Rattle.dso_law.specs.Channels.{count_inputs, last_clock, takes_down, takes_up}
use Rattle.dso_law.specs.Entries.{is_node, entries_of}
use Rattle.dso_machine.specs.Next.{next_request}
use Rattle.dso_world.specs.declared.client_node.ClientNode.{ClientNode}
use Rattle.dso_world.specs.ClientSteps.{IsJournal}
use Rattle.dso_world.specs.NodesStand.{ClientNodeStands}
use Rattle.dso_world.specs.WorldSteps.{settings_of}
use Rattle.dso_world.proofs.journals.Clocks.{clocks_are_few}

-- a node has no more entries than the journal, and no more have some input
pub own_few : (node : Node) (es : List Entry) → length (entries_of node es) ≤ length es
own_few node [] = omega arith
own_few node (e ∷ es) = by (is_node node e.node) (own_few node es)
  where
    by : (its : Bool) → length (entries_of node es) ≤ length es → length (cond its (e ∷ entries_of node es) (entries_of node es)) ≤ suc (length es)
    by true few = omega (arith, few)
    by false few = omega (arith, few)

pub count_few : (test : Input → Bool) (es : List Entry) → count_inputs test es ≤ length es
count_few test [] = omega arith
count_few test (e ∷ es) = by (test e.input) (count_few test es)
  where
    by : (its : Bool) → count_inputs test es ≤ length es → cond its (suc (count_inputs test es)) (count_inputs test es) ≤ suc (length es)
    by true few = omega (arith, few)
    by false few = omega (arith, few)

pub node_count_few : (test : Input → Bool) (node : Node) (es : List Entry) → count_inputs test (entries_of node es) ≤ length es
node_count_few test node es =
    let a : count_inputs test (entries_of node es) ≤ length (entries_of node es) = count_few test (entries_of node es) in
    let b : length (entries_of node es) ≤ length es = own_few node es in
    omega (arith, a, b)

-- what a client of so many entries keeps
pub record IsSmall (n : ℕ) (client_node : ClientNode) : Type 0 where
  pub clock : client_node.clock ≤ n
  pub up_seen : client_node.link.client.seen ≤ n
  pub down_seen : client_node.link.server.seen ≤ n
  pub epoch : client_node.link.server.epoch ≤ n

pub small : (program : Program) (c : ℕ) (client_node : ClientNode) (es : List Entry) → IsJournal program es → ClientNodeStands program c client_node es → IsSmall (length es) client_node
small program c client_node es journal stands =
    let clocks = clocks_are_few (settings_of program) (next_request program.code) es journal.lawful.follow in
    let up : client_node.link.client.seen ≤ count_inputs (takes_up c) (entries_of node.Server es) = stands.link.up_seen in
    let down : client_node.link.server.seen ≤ count_inputs takes_down (entries_of (node.Client c) es) = stands.link.down_seen in
    let up_few : count_inputs (takes_up c) (entries_of node.Server es) ≤ length es = node_count_few (takes_up c) node.Server es in
    let down_few : count_inputs takes_down (entries_of (node.Client c) es) ≤ length es = node_count_few takes_down (node.Client c) es in
    let last : last_clock (node.Client c) es ≤ length es = clocks.last (node.Client c) in
    record {
      clock = omega (arith, last, stands.clock);
      up_seen = omega (arith, up, up_few);
      down_seen = omega (arith, down, down_few);
      epoch = subst (λ n. n ≤ length es) (sym stands.link.server.epoch) (node_count_few _ node.Server es);
    }

-- The server has what the message names that it takes.
use Rattle.std.proofs.Common.{ℕ, refl, sym, subst, Contains, List, arith}
use Rattle.dso_base.specs.declared.journal.Entry.{Entry}
use Rattle.dso_base.specs.declared.journal.Node.TheVariants as node
use Rattle.dso_base.specs.declared.message.Up.{Up}
use Rattle.dso_class.specs.declared.program.Program.{Program}
use Rattle.dso_gc_law.proofs.garbage.Lacking.{named_are_there}
use Rattle.dso_law.specs.Channels.{Letter, up_in_flight}
use Rattle.dso_law.specs.Entries.{entries_of}
use Rattle.dso_legal.specs.Agreement.{messages}
use Rattle.dso_machine.specs.Frames.{frames_after}
use Rattle.dso_machine.specs.Next.{next_request}
use Rattle.dso_server.specs.Lacking.{KnowsNamed}
use Rattle.dso_store.specs.Graph.{body_in}
use Rattle.dso_world.specs.declared.nodes.Nodes.{Nodes}
use Rattle.dso_world.specs.NodeSteps.{Heard}
use Rattle.dso_world.specs.WorldSteps.{settings_of}

-- the letter is in flight
heard_in_flight : (program : Program) (c : ℕ) (letter : Letter Up) (nodes : Nodes) (es : List Entry) → Heard program c letter nodes es
    → Contains (messages (up_in_flight c es)) letter.message
heard_in_flight program c letter nodes es heard = subst (λ letters. Contains (messages letters) letter.message) (sym heard.first) (0, omega arith, refl)

pub heard_is_known : (program : Program) (c : ℕ) (letter : Letter Up) (nodes : Nodes) (es : List Entry) → Heard program c letter nodes es
    → KnowsNamed (settings_of program) nodes.server c letter.message (entries_of node.Server es)
heard_is_known program c letter nodes es heard here o named =
    named_are_there (settings_of program) (next_request program.code) (frames_after program.code) (body_in nodes.server.store) es heard.stands.server.store.bodies heard.stands.lacks
    c letter.message (heard_in_flight program c letter nodes es heard) heard.its here o named

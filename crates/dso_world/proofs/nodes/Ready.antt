-- That the server may make its entry: clocks and numbers are small, and what comes fits.
use Rattle.std.proofs.Common.{ℕ, suc, ◌+◌, ◌<◌, ◌≤◌, ◌≡◌, ◌^◌, refl, subst, Bool, true, false, cond, eqb, Some, List, ◌∷◌, length, slice_get, arith}
use Rattle.dso_base.specs.declared.journal.Entry.{Entry}
use Rattle.dso_base.specs.declared.journal.Node.TheVariants as node
use Rattle.dso_base.specs.declared.message.Down.{Down}
use Rattle.dso_base.specs.declared.message.Up.{Up}
use Rattle.dso_class.specs.declared.program.Program.{Program}
use Rattle.dso_law.specs.Channels.{Letter, last_clock, takes_down}
use Rattle.dso_law.specs.Entries.{entries_of}
use Rattle.dso_machine.specs.Next.{next_request}
use Rattle.dso_server.specs.declared.server.Server.{Server}
use Rattle.dso_server.specs.declared.taken.Taken.TheVariants.{BadMessage}
use Rattle.dso_server.specs.Answering.{IsTaken}
use Rattle.dso_base.specs.declared.both.Both.{Both}
use Rattle.dso_base.specs.declared.both.Both.TheVariants as both
use Rattle.dso_world.specs.declared.client_node.ClientNode.{ClientNode}
use Rattle.dso_world.specs.declared.nodes.Nodes.{Nodes}
use Rattle.dso_world.specs.LinkStands.{Course, Past}
use Rattle.dso_world.specs.ClientSteps.{IsJournal}
use Rattle.dso_world.specs.NodeSteps.{HaveRoom, Heard, past_heard}
use Rattle.dso_world.specs.NodesStand.{ClientNodeStandsBy, NodesStand, NodesStandBy}
use Rattle.dso_world.specs.PastOf.{course_of, past_of}
use Rattle.dso_world.specs.SentMessages.{clock_after}
use Rattle.dso_world.specs.WorldSteps.{settings_of}
use Rattle.dso_world.proofs.journals.Clocks.{Below, clocks_are_few}
use Rattle.dso_world.proofs.client_nodes.Fits.{node_count_few}
use Rattle.dso_world.proofs.premises.WhatComes.{comes_up}

module _ (program : Program) (es : List Entry) (journal : IsJournal program es) where
  -- where no client has seen more than there are entries, there is room
  pub room_by : (course : ℕ → Course) (past : ℕ → Past Both) (nodes : Nodes) → ((d : ℕ) → (past d).down_taken ≤ length es) → NodesStandBy program course past nodes es → HaveRoom nodes.client_nodes.items
  room_by course past nodes few stands place client_node is =
      let link = (stands.client_nodes place client_node is).link in
      let seen : client_node.link.server.seen ≤ (past (suc place)).down_taken = link.down_seen in
      let taken : (past (suc place)).down_taken ≤ length es = few (suc place) in
      let short : length es ≤ 2 ^ 28 = journal.few in
      omega (arith, seen, taken, short)

  pub room_of : (course : ℕ → Course) (past : ℕ → Past Both) (client_nodes : List ClientNode) → ((d : ℕ) → (past d).down_taken ≤ length es)
      → ((place : ℕ) (client_node : ClientNode) → slice_get client_nodes place ≡ Some client_node → ClientNodeStandsBy program (suc place) (course (suc place)) (past (suc place)) client_node es) → HaveRoom client_nodes
  room_of course past client_nodes few stands place client_node is =
      let link = (stands place client_node is).link in
      let seen : client_node.link.server.seen ≤ (past (suc place)).down_taken = link.down_seen in
      let taken : (past (suc place)).down_taken ≤ length es = few (suc place) in
      let short : length es ≤ 2 ^ 28 = journal.few in
      omega (arith, seen, taken, short)

  -- so where one connection is joined again
  pub same_few : (c d : ℕ) → (cond (eqb d c) (past_of both.Up both.Down c es) (past_of both.Up both.Down d es)).down_taken ≤ length es
  same_few c d = by (eqb d c)
    where
      by : (its : Bool) → (cond its (past_of both.Up both.Down c es) (past_of both.Up both.Down d es)).down_taken ≤ length es
      by true = node_count_few takes_down (node.Client c) es
      by false = node_count_few takes_down (node.Client d) es

  taken_few : (d : ℕ) → (past_of both.Up both.Down d es).down_taken ≤ length es
  taken_few d = node_count_few takes_down (node.Client d) es

  pub room : (nodes : Nodes) → NodesStand program nodes es → HaveRoom nodes.client_nodes.items
  room nodes stands = room_by (λ d. course_of (settings_of program) d es) (λ d. past_of both.Up both.Down d es) nodes taken_few stands

  -- the server's clock goes on
  pub clock_small : (nodes : Nodes) → nodes.clock ≡ last_clock node.Server es → clock_after nodes.clock 0 < 2 ^ 64
  clock_small nodes is =
      let last : last_clock node.Server es ≤ length es = (clocks_are_few (settings_of program) (next_request program.code) es journal.lawful.follow).last node.Server in
      let short : length es ≤ 2 ^ 28 = journal.few in
      omega (arith, is, last, short)

module _ (program : Program) (c : ℕ) (letter : Letter Up) (nodes : Nodes) (es : List Entry) (heard : Heard program c letter nodes es) where
  -- so where it hears a message
  pub heard_room : HaveRoom nodes.client_nodes.items
  heard_room = room_by program es heard.journal _ (past_heard program c es) nodes few heard.stands
    where
      few : (d : ℕ) → (past_heard program c es d).down_taken ≤ length es
      few d = by (eqb d c)
        where
          by : (its : Bool) → (cond its (record (past_of both.Up both.Down c es) { up_taken = (past_of both.Up both.Down c es).up_taken + 1 }) (past_of both.Up both.Down d es)).down_taken ≤ length es
          by true = node_count_few takes_down (node.Client c) es
          by false = node_count_few takes_down (node.Client d) es

  pub heard_clock : clock_after nodes.clock letter.clock < 2 ^ 64
  heard_clock =
      let clocks = clocks_are_few (settings_of program) (next_request program.code) es heard.journal.lawful.follow in
      let last : last_clock node.Server es ≤ length es = clocks.last node.Server in
      let first : Below (length es) (letter ∷ heard.rest) = subst (Below (length es)) heard.first (clocks.up c) in
      let of_letter : letter.clock ≤ length es = first.0 in
      let short : length es ≤ 2 ^ 28 = heard.journal.few in
      omega (arith, heard.stands.clock, last, of_letter, short)

  -- and it fits, so it is no bad message
  pub no_bad_message : (tag : ℕ) (messages : List (ℕ × Down)) (server : Server) → IsTaken (settings_of program) c letter.message (BadMessage tag) messages nodes.server server (entries_of node.Server es) → ⊥
  no_bad_message tag messages server taken =
      let short : length es ≤ 2 ^ 28 = heard.journal.few in
      taken.1 (comes_up program.code heard.journal.sound.code (settings_of program) refl es heard.journal.lawful.follow (omega (arith, short)) c taken.0 letter heard.rest heard.first)

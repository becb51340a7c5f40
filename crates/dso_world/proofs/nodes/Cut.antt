-- The nodes where the connection of a client breaks.
use Rattle.std.specs.List.{list_any}
use Rattle.std.proofs.Common.{ℕ, suc, ◌+◌, ◌≤◌, ◌≡◌, ◌^◌, refl, sym, ◌∙◌, subst, Bool, true, false, cond, eqb, Some, List, length, slice_get, arith}
use Rattle.dso_base.specs.declared.journal.Entry.{Entry}
use Rattle.dso_base.specs.declared.journal.Node.TheVariants as node
use Rattle.dso_class.specs.declared.program.Program.{Program}
use Rattle.dso_law.specs.Channels.{is_broken, takes_down}
use Rattle.dso_law.specs.Entries.{entries_of}
use Rattle.dso_law.specs.Settings.{clients_of}
use Rattle.dso_legal.specs.Slots.{Breaks}
use Rattle.dso_machine.specs.Next.{next_request}
use Rattle.dso_base.specs.declared.both.Both.TheVariants as both
use Rattle.dso_world.specs.declared.client_node.ClientNode.{ClientNode}
use Rattle.dso_world.specs.declared.nodes.Nodes.{Nodes}
use Rattle.dso_world.specs.Link.{cut}
use Rattle.dso_world.specs.LinkStands.{Broken, Course, Half, Joined, LinkStands}
use Rattle.dso_world.specs.ClientSteps.{IsJournal, IsOpenAfter}
use Rattle.dso_world.specs.NodeSteps.{ChangesLine, HasBreakLeft, HaveRoom}
use Rattle.dso_world.specs.NodesStand.{ClientNodeStandsBy, NodesStand}
use Rattle.dso_world.specs.PastOf.{course_of, past_of}
use Rattle.dso_world.specs.WorldSteps.{settings_of}
use Rattle.dso_world.proofs.journals.Breaks.{broken_is_never_due}
use Rattle.dso_world.proofs.links.Takes.{links_go_on}
use Rattle.dso_world.proofs.client_nodes.Fits.{node_count_few}
use Rattle.dso_world.proofs.nodes.Changed.{changed}
use Rattle.dso_world.proofs.nodes.Ready.{room_of}
use Rattle.dso_world.proofs.nodes.Served.{course_cut, past_cut}
use Rattle.dso_world.proofs.nodes.TakenUp.{at_place, its_link, its_client}
use Rattle.dso_world.proofs.pasts.Courses.{broken_where_broken, broken_where_half}

module _ (program : Program) (c : ℕ) (nodes : Nodes) (es : List Entry) (journal : IsJournal program es) (its : list_any (eqb c) (clients_of (settings_of program)) ≡ true)
    (stands : NodesStand program nodes es) where
  -- it broke less often than there are entries
  pub break_left : HasBreakLeft c nodes.client_nodes.items
  break_left client_node is =
      let same : Some (its_client program c nodes es journal its stands).0 ≡ Some client_node = sym (its_client program c nodes es journal its stands).1 ∙ is in
      let same_client_node : (its_client program c nodes es journal its stands).0 ≡ client_node = cc same in
      let own : LinkStands (course_of (settings_of program) c es) (past_of both.Up both.Down c es) client_node.link =
      subst (λ (one : ClientNode). LinkStands (course_of (settings_of program) c es) (past_of both.Up both.Down c es) one.link) same_client_node (its_link program c nodes es journal its stands) in
      let epoch : client_node.link.server.epoch ≡ (past_of both.Up both.Down c es).breaks = own.server.epoch in
      let broke : (past_of both.Up both.Down c es).breaks ≤ length es = node_count_few _ node.Server es in
      let short : length es ≤ 2 ^ 28 = journal.few in
      omega (arith, epoch, broke, short)

  module _ (can : IsOpenAfter program es (Breaks c)) where
    -- no break is due while it is broken
    not_broken : is_broken c (entries_of node.Server es) ≡ true → ⊥
    not_broken broken =
        let never = broken_is_never_due (settings_of program) (next_request program.code) es journal.lawful journal.sound.breaks_differ c broken in
        let both_are : true ≡ false = sym can ∙ never in
        absurd (cc both_are)

    -- so it is joined
    pub joined : course_of (settings_of program) c es ≡ Joined
    joined = by (course_of (settings_of program) c es) refl
      where
        by : (course : Course) → course_of (settings_of program) c es ≡ course → course_of (settings_of program) c es ≡ Joined
        by Joined is = is
        by Broken is = absurd (not_broken (broken_where_broken (settings_of program) c es is))
        by Half is = absurd (not_broken (broken_where_half (settings_of program) c es is))

    joined_link : LinkStands Joined (past_of both.Up both.Down c es) (its_client program c nodes es journal its stands).0.link
    joined_link = subst (λ course. LinkStands course (past_of both.Up both.Down c es) (its_client program c nodes es journal its stands).0.link) joined (its_link program c nodes es journal its stands)

    pub even : (past_of both.Up both.Down c es).rejoins ≡ (past_of both.Up both.Down c es).breaks
    even = joined_link.ways.epochs

    module _ (client_nodes : List ClientNode) (changes : ChangesLine c cut nodes.client_nodes.items client_nodes) where
      -- each client, once the connection of this one broke
      pub cut_stands : (place : ℕ) (client_node : ClientNode) → slice_get client_nodes place ≡ Some client_node
          → ClientNodeStandsBy program (suc place) (course_cut program c nodes es journal its stands (suc place)) (past_cut program c nodes es journal its stands (suc place)) client_node es
      cut_stands = changed program c cut Broken (record (past_of both.Up both.Down c es) { breaks = (past_of both.Up both.Down c es).breaks + 1 }) nodes.client_nodes.items client_nodes es stands.client_nodes changes
          (at_place program c nodes es journal its stands (λ before. LinkStands Broken (record (past_of both.Up both.Down c es) { breaks = (past_of both.Up both.Down c es).breaks + 1 }) (cut before.link))
          (links_go_on.breaks (past_of both.Up both.Down c es) (its_client program c nodes es journal its stands).0.link joined_link))

      seen_few : (d : ℕ) → (past_cut program c nodes es journal its stands d).down_taken ≤ length es
      seen_few d = by (eqb d c)
        where
          by : (its : Bool) → (cond its (record (past_of both.Up both.Down c es) { breaks = (past_of both.Up both.Down c es).breaks + 1 }) (past_of both.Up both.Down d es)).down_taken ≤ length es
          by true = node_count_few takes_down (node.Client c) es
          by false = node_count_few takes_down (node.Client d) es

      -- and there is room
      pub cut_room : HaveRoom client_nodes
      cut_room = room_of program es journal (course_cut program c nodes es journal its stands) (past_cut program c nodes es journal its stands) client_nodes seen_few cut_stands

-- What the server takes off a client's channel.
use Rattle.std.specs.List.{list_any}
use Rattle.std.proofs.Common.{ℕ, suc, ◌+◌, ◌-◌, ◌≤◌, ◌≡◌, ◌≢◌, ◌⊎◌, inl, inr, sym, ◌∙◌, ap, subst, true, false, cond, eqb, Option, Some, List, ◌∷◌, length, slice_get, arith}
use Rattle.std.specs.Option.{option_and_then}
use Rattle.dso_base.specs.declared.journal.Entry.{Entry}
use Rattle.dso_base.specs.declared.journal.Node.TheVariants as node
use Rattle.dso_base.specs.declared.message.Up.{Up}
use Rattle.dso_class.specs.declared.program.Program.{Program}
use Rattle.dso_law.specs.Channels.{Letter}
use Rattle.dso_law.specs.Entries.{entries_of}
use Rattle.dso_law.specs.Settings.{clients_of}
use Rattle.dso_legal.specs.Slots.{TakesUp, is_loss_or_break_due}
use Rattle.dso_machine.specs.Next.{next_request}
use Rattle.dso_server.specs.Answering.{given_by}
use Rattle.dso_server.specs.ServerStands.{ServerStands}
use Rattle.dso_session.specs.declared.frame.Accepted.{Accepted}
use Rattle.dso_session.specs.declared.frame.Accepted.TheVariants as accepted
use Rattle.dso_base.specs.declared.both.Both.{Both}
use Rattle.dso_base.specs.declared.both.Both.TheVariants as both
use Rattle.dso_world.specs.declared.client_node.ClientNode.{ClientNode}
use Rattle.dso_world.specs.declared.nodes.Nodes.{Nodes}
use Rattle.dso_world.specs.Link.{first_answer, taken_up}
use Rattle.dso_world.specs.LinkStands.{Half, Joined, LinkStands}
use Rattle.dso_world.specs.ClientSteps.{IsJournal, IsOpenAfter}
use Rattle.dso_world.specs.NodeSteps.{ChangesLine, Heard, course_heard, first_up, with_line}
use Rattle.dso_world.specs.NodesStand.{ClientNodeStandsBy, LacksGarbage, NodesStand}
use Rattle.dso_world.specs.PastOf.{course_of, past_of}
use Rattle.dso_world.specs.WorldSteps.{settings_of}
use Rattle.dso_world.proofs.coming.Up.{MessageComes, RejoinComes, comes_up, none_due}
use Rattle.dso_world.proofs.nodes.Changed.{changed, there}
use Rattle.dso_world.proofs.nodes.Told.{same_length}
use Rattle.dso_world.proofs.places.Clients.{numbered_so}

-- the letter that is answered
same_letter : (letter : Letter Up) (message : Up) (clock : ℕ) → Some (accepted.Up (both.Up letter.message) letter.clock) ≡ Some (accepted.Up (both.Up message) clock) → letter ≡ record { message = message; clock = clock }
same_letter letter message clock same =
    let of_message : letter.message ≡ message = cc same in
    let of_clock : letter.clock ≡ clock = cc same in
    λ i. record { message = of_message i; clock = of_clock i }

module _ (program : Program) (c : ℕ) (nodes : Nodes) (es : List Entry) (journal : IsJournal program es) (its : list_any (eqb c) (clients_of (settings_of program)) ≡ true)
    (stands : NodesStand program nodes es) where
  -- the client stands at its place
  pub place_is : suc (c - 1) ≡ c
  place_is = let range = numbered_so c program.clients its in let low : 1 ≤ c = range.0 in omega (arith, low)

  pub its_client : (client_node : ClientNode) × (slice_get nodes.client_nodes.items (c - 1) ≡ Some client_node)
  its_client =
      let range = numbered_so c program.clients its in
      let low : 1 ≤ c = range.0 in
      let high : c ≤ program.clients = range.1 in
      let count : length nodes.client_nodes.items ≡ program.clients = stands.count in
      there nodes.client_nodes.items (c - 1) (omega (arith, low, high, count))

  abbrev pub its_link : LinkStands (course_of (settings_of program) c es) (past_of both.Up both.Down c es) its_client.0.link
  its_link = subst (λ d. LinkStands (course_of (settings_of program) d es) (past_of both.Up both.Down d es) its_client.0.link) place_is (stands.client_nodes (c - 1) its_client.0 its_client.1).link

  -- the connection of the client, where a place is said to be its
  pub at_place : (P : ClientNode → Type 0) → P its_client.0 → (place : ℕ) (client_node : ClientNode) → suc place ≡ c → slice_get nodes.client_nodes.items place ≡ Some client_node → P client_node
  at_place P holds place client_node same is =
      let at : place ≡ c - 1 = omega (arith, same) in
      let one : Some its_client.0 ≡ Some client_node = sym its_client.1 ∙ ap (slice_get nodes.client_nodes.items) (sym at) ∙ is in
      subst P (cc one) holds

  module _ (can : IsOpenAfter program es (TakesUp c)) where
    abbrev MessageOf : Type 0
    MessageOf = MessageComes (settings_of program) (next_request program.code) es c its_client.0.link

    abbrev RejoinOf : Type 0
    RejoinOf = RejoinComes (settings_of program) (next_request program.code) es c its_client.0.link

    pub comes : MessageOf ⊎ RejoinOf
    comes = comes_up (settings_of program) (next_request program.code) es c its_client.0.link journal.lawful its_link can

    pub no_trigger : is_loss_or_break_due (settings_of program) c es ≡ false
    no_trigger = none_due (settings_of program) (next_request program.code) es c its_client.0.link journal.lawful its_link can

    -- what is answered
    pub answer_is : first_up c nodes.client_nodes.items ≡ first_answer its_client.0.link.up its_client.0.link.server
    answer_is = ap (λ client_node. option_and_then (λ (client_node : ClientNode). first_answer client_node.link.up client_node.link.server) client_node) its_client.1

    pub of_message : (come : MessageOf) → first_up c nodes.client_nodes.items ≡ Some (accepted.Up (both.Up come.letter.message) come.letter.clock)
    of_message come = answer_is ∙ come.answer

    pub of_rejoin : (come : RejoinOf) → first_up c nodes.client_nodes.items ≡ Some (accepted.Rejoined (past_of both.Up both.Down c es).down_taken)
    of_rejoin come = answer_is ∙ come.answer

    module _ (client_nodes : List ClientNode) (changes : ChangesLine c taken_up nodes.client_nodes.items client_nodes) where
      -- A message: the nodes with it off its channel.
      pub message_heard : (message : Up) (clock : ℕ) → first_up c nodes.client_nodes.items ≡ Some (accepted.Up (both.Up message) clock)
          → (new : Nodes) → new.client_nodes.items ≡ client_nodes → new.server ≡ nodes.server → new.clock ≡ nodes.clock
          → Heard program c (record { message = message; clock = clock }) new es
      message_heard message clock answer new is_client_nodes same_server same_clock = by comes
        where
          by : MessageOf ⊎ RejoinOf → Heard program c (record { message = message; clock = clock }) new es
          by (inr rejoin) = let other = sym answer ∙ of_rejoin rejoin in absurd (cc other)
          by (inl come) =
              let same = sym (of_message come) ∙ answer in
              let letter : come.letter ≡ record { message = message; clock = clock } = same_letter come.letter message clock same in
              record {
                journal = journal;
                its = its;
                rest = come.rest;
                first = come.first ∙ ap (λ l. l ∷ come.rest) letter;
                joined = come.course;
                none_due = no_trigger;
                stands = record {
                  count = ap length is_client_nodes ∙ same_length (λ place. with_line c taken_up (suc place)) nodes.client_nodes.items client_nodes changes ∙ stands.count;
                  client_nodes = λ place client_node is. changed program c taken_up Joined (record (past_of both.Up both.Down c es) { up_taken = (past_of both.Up both.Down c es).up_taken + 1 }) nodes.client_nodes.items client_nodes es
                      stands.client_nodes changes (at_place (λ before. LinkStands Joined (record (past_of both.Up both.Down c es) { up_taken = (past_of both.Up both.Down c es).up_taken + 1 }) (taken_up before.link)) come.stands)
                      place client_node (sym (ap (λ list. slice_get list place) is_client_nodes) ∙ is);
                  server = subst (λ server. ServerStands (settings_of program) server (entries_of node.Server es)) (sym same_server) stands.server;
                  lacks = subst (λ server. LacksGarbage program server es) (sym same_server) stands.lacks;
                  given = subst (λ server. given_by server ≤ length es) (sym same_server) stands.given;
                  clock = same_clock ∙ stands.clock;
                };
              }

      -- A rejoin: the nodes with it off its channel.
      pub rejoin_stands : (seen : ℕ) → first_up c nodes.client_nodes.items ≡ Some (accepted.Rejoined seen)
          → (course_of (settings_of program) c es ≡ Half) × ((place : ℕ) (client_node : ClientNode) → slice_get client_nodes place ≡ Some client_node
          → ClientNodeStandsBy program (suc place) (course_heard program c es (suc place)) (cond (eqb (suc place) c) (past_of both.Up both.Down c es) (past_of both.Up both.Down (suc place) es)) client_node es)
      rejoin_stands seen answer = by comes
        where
          by : MessageOf ⊎ RejoinOf → (course_of (settings_of program) c es ≡ Half) × ((place : ℕ) (client_node : ClientNode) → slice_get client_nodes place ≡ Some client_node
              → ClientNodeStandsBy program (suc place) (course_heard program c es (suc place)) (cond (eqb (suc place) c) (past_of both.Up both.Down c es) (past_of both.Up both.Down (suc place) es)) client_node es)
          by (inl come) = let other = sym (of_message come) ∙ answer in absurd (cc other)
          by (inr come) = (
            come.course,
            changed program c taken_up Joined (past_of both.Up both.Down c es) nodes.client_nodes.items client_nodes es stands.client_nodes changes
                (at_place (λ before. LinkStands Joined (past_of both.Up both.Down c es) (taken_up before.link)) come.stands),
          )

    -- there is no other answer
    pub no_other : (answer : Option (Accepted Both)) → answer ≡ first_up c nodes.client_nodes.items → ((message : Up) (clock : ℕ) → answer ≢ Some (accepted.Up (both.Up message) clock))
        → ((seen : ℕ) → answer ≢ Some (accepted.Rejoined seen)) → ⊥
    no_other answer is no_message no_rejoin = by comes
      where
        by : MessageOf ⊎ RejoinOf → ⊥
        by (inl come) = no_message come.letter.message come.letter.clock (is ∙ of_message come)
        by (inr come) = no_rejoin (past_of both.Up both.Down c es).down_taken (is ∙ of_rejoin come)

-- A cluster before its first step.
use Rattle.std.specs.List.{AllByRecursion}
use Rattle.std.specs.Option.{option_map, option_map_or}
use Rattle.std.proofs.Common.{ℕ, zero, suc, ◌+◌, ◌≤◌, ◌≡◌, ◌⊎◌, inl, inr, refl, sym, ◌∙◌, ap, subst, Bool, false, eqb, Option, Some, None, List, [], ◌∷◌, ◌++◌, drop, filter, length, map, replicate, reverse, slice_get, slice_set, take, arith}
use Rattle.std.proofs.lemmas.List.{append-nil, length-append, take_all}
use Rattle.std.proofs.Math.ListN.{drop_of_length-le}
use Rattle.dso_class.specs.declared.program.Program.{Program}
use Rattle.dso_class.specs.Sound.{IsSoundProgram}
use Rattle.dso_client.specs.ThreadActs.{count_again}
use Rattle.dso_client.specs.ClientStands.{ClientStands, point}
use Rattle.dso_client.specs.CodeRuns.{RunsCode}
use Rattle.dso_client.specs.LockStateStands.{as_hold}
use Rattle.dso_client.specs.Openings.{HasThreads, first_threads}
use Rattle.dso_client.specs.RunPoints.{RunPoint}
use Rattle.dso_client.specs.ContextPlaces.{context_in}
use Rattle.dso_client.specs.ContextStands.{ContextStands}
use Rattle.dso_client.specs.declared.thread_context.ThreadContext.{ThreadContext}
use Rattle.dso_hold.specs.Holds.{count_at, hold_in}
use Rattle.dso_hold.specs.declared.held.Held.{Held}
use Rattle.dso_law.specs.Channels.{CountsRejoins}
use Rattle.dso_law.specs.Settings.{Settings, clients_of, threads_of}
use Rattle.dso_law.specs.Threads.{locks_of}
use Rattle.dso_legal.specs.Lawful.{IsLawful}
use Rattle.dso_legal.specs.Slots.{is_open, slots}
use Rattle.dso_machine.specs.Next.{next_request}
use Rattle.dso_server.specs.Answering.{given_by}
use Rattle.dso_server.specs.Lacking.{LacksNothing}
use Rattle.dso_server.specs.ServerStands.{ServerStands}
use Rattle.dso_server.specs.Threads.{RunsThreadsOf}
use Rattle.dso_server.specs.Triggers.{AreTriggersOf}
use Rattle.dso_base.specs.declared.both.Both.{Both}
use Rattle.dso_world.specs.declared.client_node.ClientNode.{ClientNode}
use Rattle.dso_world.specs.declared.nodes.Nodes.{Nodes}
use Rattle.dso_world.specs.declared.step.Step.{Step}
use Rattle.dso_world.specs.declared.world.World.{World}
use Rattle.dso_world.specs.Flags.{Row, closed_row}
use Rattle.dso_world.specs.Laws.{RowStands}
use Rattle.dso_world.specs.Link.{opening_line}
use Rattle.dso_world.specs.LinkStands.{Joined, LinkStands, opening_past}
use Rattle.dso_world.specs.SlotTests.{TellsOpen}
use Rattle.dso_world.specs.ClientSteps.{IsJournal}
use Rattle.dso_world.specs.NodesStand.{AreClientNodes, ClientNodeStands, NodesStand}
use Rattle.dso_world.specs.WorldStands.{OpenStepsStand, WorldPartsStand, WorldStands, entries_in}
use Rattle.dso_world.specs.WorldSteps.{settings_of, slot_of}
use Rattle.dso_world.proofs.links.Takes.{links_go_on}
use Rattle.dso_world.proofs.places.Marked.{marked}
use Rattle.dso_world.proofs.places.Marking.{among_slots, told_place}
use Rattle.dso_world.proofs.programs.Threads.{own_few, own_first, own_there, runs_threads}

-- ---- no lock is held

none_held : (held : Option Held) → option_map as_hold held ≡ None → count_at held ≤ 0
none_held None is = omega arith
none_held (Some held) is = absurd (cc is)

none_waits : (at : RunPoint) → at.entries ≡ [] → (contexts : List ThreadContext) → AllByRecursion (ContextStands at) contexts → (place : ℕ) → count_again (slice_get contexts place) ≤ 0
none_waits at none [] all place = omega arith
none_waits at none (context ∷ contexts) all (suc place) = none_waits at none contexts all.1 place
none_waits at none (context ∷ contexts) all zero =
    let is : context.waiting ≡ None = all.0.waiting ∙ ap (λ es. (locks_of context.id es).waiting) none in
    subst (λ waiting. option_map_or (λ one. one.count) waiting 0 ≤ 0) (sym is) (omega arith)

context_waits : (at : RunPoint) → at.entries ≡ [] → (contexts : List ThreadContext) → AllByRecursion (ContextStands at) contexts → (index : ℕ) → count_again (context_in contexts index) ≤ 0
context_waits at none contexts all zero = omega arith
context_waits at none contexts all (suc place) = none_waits at none contexts all place

-- a place in a list with one more at its end is one of the list or the last
in_more : {A : Type 0} (xs : List A) (x y : A) (place : ℕ) → slice_get (xs ++ x ∷ []) place ≡ Some y → (slice_get xs place ≡ Some y) ⊎ ((place ≡ length xs) × (x ≡ y))
in_more [] x y zero is = inr (refl, cc is)
in_more [] x y (suc place) is = absurd (cc is)
in_more (z ∷ xs) x y zero is = inl is
in_more (z ∷ xs) x y (suc place) is = elim (in_more xs x y place is) [
  | inl there ↦ inl there
  | inr last ↦ inr (ap (λ n. suc n) last.0, last.1)
]

-- as many of one thing as a list has items
all_one : {A B : Type 0} (b : B) (xs : List A) → replicate (length xs) b ≡ map (λ x. b) xs
all_one b [] = refl
all_one b (x ∷ xs) = ap (λ bs. b ∷ bs) (all_one b xs)

map_twice : {A B C : Type 0} (g : B → C) (f : A → B) (xs : List A) → map (λ x. g (f x)) xs ≡ map g (map f xs)
map_twice g f [] = refl
map_twice g f (x ∷ xs) = ap (λ ys. g (f x) ∷ ys) (map_twice g f xs)

no_rejoins : (cs : List ℕ) → AllByRecursion (λ c. CountsRejoins c []) cs
no_rejoins [] = tt
no_rejoins (c ∷ cs) = (record { at_client = omega arith; at_server = omega arith }, no_rejoins cs)

-- The journal with no entries is lawful.
pub empty_lawful : (program : Program) → IsLawful (settings_of program) (next_request program.code) []
empty_lawful program = record { follow = tt; connections = no_rejoins (clients_of (settings_of program)) }

module _ (program : Program) (sound : IsSoundProgram program) where
  pub empty_journal : IsJournal program []
  empty_journal = record { sound = sound; lawful = empty_lawful program; few = omega arith }

  -- ---- a client

  -- it has few threads, each of which has a body
  pub few_threads : (number n : ℕ) → n ≡ length (filter (λ t. eqb t.client number) program.threads) → n ≤ 16
  few_threads number n is =
      let few : length (filter (λ t. eqb t.client number) program.threads) ≤ 16 = own_few program.code sound.code program.threads sound.threads sound.threads_rise number in
      omega (arith, few, is)

  pub threads_there : (number n : ℕ) → n ≡ length (filter (λ t. eqb t.client number) program.threads) → HasThreads program.code number n
  threads_there number n is = subst (HasThreads program.code number) (sym is) (own_there program.code sound.code program.threads sound.threads sound.threads_rise number)

  pub client_node_stands : (number n : ℕ) (client_node : ClientNode) → n ≡ length (filter (λ t. eqb t.client number) program.threads) → RunsCode program.code client_node.client
      → ((p : Settings) → p.shape ≡ program.code.shape → p.resident ≡ program.resident → threads_of p number ≡ first_threads number n → ClientStands program.code p number client_node.client [])
      → client_node.link ≡ opening_line → client_node.clock ≡ 0 → AreTriggersOf number program.losses program.breaks client_node.triggers → ClientNodeStands program number client_node []
  client_node_stands number n client_node is runs stands line clock triggers =
      let client : ClientStands program.code (settings_of program) number client_node.client [] = stands (settings_of program) refl refl
      (own_first program.code sound.code program.threads sound.threads sound.threads_rise number ∙ ap (first_threads number) (sym is)) in
      let none : client_node.client.sequences.records ≡ 0 = client.parts.sequences.records in
      record {
        client = client;
        runs = runs;
        records = omega (arith, none);
        holds = record {
          held = λ t l. none_held (hold_in client_node.client.lock_state.holds (l, t)) (client.parts.lock_state.holds t l);
          waiting = context_waits (point program.code (settings_of program) number []) refl client_node.client.contexts.items client.parts.contexts;
        };
        link = subst (λ line. LinkStands Joined (opening_past {M = Both}) line) (sym line) (links_go_on {M = Both}).opens;
        clock = clock;
        triggers = triggers;
      }

  -- one client more
  pub one_more : (count : ℕ) (client_nodes more : List ClientNode) (client_node : ClientNode) → AreClientNodes program count client_nodes → ClientNodeStands program (count + 1) client_node [] → more ≡ client_nodes ++ client_node ∷ []
      → AreClientNodes program (count + 1) more
  one_more count client_nodes more client_node are stands is = subst (AreClientNodes program (count + 1)) (sym is) (record {
    many = length-append client_nodes (client_node ∷ []) ∙ ap (λ n. n + 1) are.many;
    each = λ place one there. elim (in_more client_nodes client_node one place there) [
      | inl before ↦ are.each place one before
      | inr last ↦
          let next : count + 1 ≡ suc place = (let at = last.0 in let many = are.many in omega (arith, at, many)) in
          subst (λ m. ClientNodeStands program (suc place) m []) last.1 (subst (λ n. ClientNodeStands program n client_node []) next stands)
    ];
  })

  -- ---- the nodes

  pub nodes_stand : (nodes : Nodes) → AreClientNodes program program.clients nodes.client_nodes.items
      → ((p : Settings) → p.shape ≡ program.code.shape → RunsThreadsOf program.code p → p.clients ≡ program.clients → ServerStands p nodes.server [])
      → ((p : Settings) → p.shape ≡ program.code.shape → LacksNothing p nodes.server []) → given_by nodes.server ≡ 0 → nodes.clock ≡ 0 → NodesStand program nodes []
  nodes_stand nodes are serves lacks given clock = record {
    count = are.many;
    client_nodes = are.each;
    server = serves (settings_of program) refl (runs_threads program.code sound.code program.threads sound.threads) refl;
    lacks = λ o lacking. absurd (lacking.0 (sym (lacks (settings_of program) refl o) ∙ lacking.1));
    given = omega (arith, given);
    clock = clock;
  }

  -- ---- the open steps

  -- whether the slot of a step is open
  abbrev opens : Step → Bool
  opens step = is_open (settings_of program) (next_request program.code) [] (slot_of step)

  -- the row whose flags tell so up to a place
  abbrev pub row_to : ℕ → List Step → Row
  row_to place steps = record { flags = map (λ step. is_open (settings_of program) (next_request program.code) [] (slot_of step)) (take place steps) ++ map (λ step. false) (drop place steps); begin = 0; entries = 0 }

  pub row_at_first : (count : ℕ) (steps : List Step) (row : Row) → count ≡ length steps → row ≡ closed_row count → row ≡ row_to 0 steps
  row_at_first count steps row many is = is ∙ ap closed_row many ∙ ap (λ flags. record { flags = flags; begin = 0; entries = 0 }) (all_one false steps)

  pub row_on : (nodes : Nodes) (steps : List Step) (place : ℕ) (step : Step) (answer : Bool) (row : Row) → NodesStand program nodes [] → map slot_of steps ≡ slots (settings_of program)
      → slice_get steps place ≡ Some step → TellsOpen program nodes step answer → row ≡ row_to place steps
      → record row { flags = slice_set row.flags place answer } ≡ row_to (place + 1) steps
  row_on nodes steps place step answer row stands listed there tells is =
      let at : slice_get (slots (settings_of program)) place ≡ Some (slot_of step) = ap (λ list. slice_get list place) (sym listed) ∙ told_place slot_of steps place step there in
      let told : answer ≡ opens step = tells [] empty_journal stands (among_slots (slot_of step) (slots (settings_of program)) place at) in
      ap (λ (r : Row). record r { flags = slice_set r.flags place answer }) is
      ∙ ap (λ b. record { flags = slice_set (row_to place steps).flags place b; begin = 0; entries = 0 }) told
      ∙ ap (λ flags. record { flags = flags; begin = 0; entries = 0 }) (marked opens (λ step. false) place steps (row_to place steps).flags step refl there)

  pub row_stands : (steps : List Step) (place : ℕ) (row : Row) → map slot_of steps ≡ slots (settings_of program) → length steps ≤ place → row ≡ row_to place steps
      → RowStands (settings_of program) (next_request program.code) row []
  row_stands steps place row listed past is = record {
    flags = ap (λ (r : Row). r.flags) is
        ∙ ap (λ list. map opens list ++ map (λ step. false) (drop place steps)) (take_all place steps past)
        ∙ ap (λ list. map opens steps ++ map (λ step. false) list) (drop_of_length-le steps past)
        ∙ append-nil (map opens steps)
        ∙ map_twice (is_open (settings_of program) (next_request program.code) []) slot_of steps
        ∙ ap (map (is_open (settings_of program) (next_request program.code) [])) listed;
    begin = ap (λ (r : Row). r.begin) is;
    entries = ap (λ (r : Row). r.entries) is;
  }

  -- ---- the world

  pub world_stands : (world : World) → world.journal.entries ≡ [] → NodesStand program world.nodes [] → OpenStepsStand program world.open_steps [] → world.weight ≡ 0 → WorldStands program world
  world_stands world none nodes open_steps light =
      let empty : entries_in world ≡ [] = ap reverse none in
      record {
        lawful = subst (IsLawful (settings_of program) (next_request program.code)) (sym empty) (empty_lawful program);
        parts = λ whole. subst (WorldPartsStand program world) (sym empty) (record { nodes = nodes; open_steps = open_steps; weight = light });
      }

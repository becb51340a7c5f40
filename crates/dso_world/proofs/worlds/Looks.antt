-- What the nodes tell: which triggers are due, which slots are open, and which clients keep the run going.
use Rattle.std.specs.List.{list_any, flat_map}
use Rattle.std.proofs.Common.{ℕ, suc, ◌+◌, ◌-◌, ◌<◌, ◌≤◌, ◌≡◌, ◌↔◌, inl, inr, refl, sym, ◌∙◌, ap, subst, Bool, true, false, eqb, ltb, not, ◌&&◌, ◌||◌, Some, List, [], ◌∷◌, ◌++◌, filter, length, map, slice_get, slice_index_or, arith}
use Rattle.std.specs.Prelude.{IsTrue}
use Rattle.std.proofs.lemmas.Bool.{eq-eqb, ltb-false, ltb-true}
use Rattle.std.proofs.lemmas.List.Folds.{list_any-append}
use Rattle.dso_base.specs.declared.journal.Entry.{Entry}
use Rattle.dso_base.specs.declared.journal.Node.TheVariants as node
use Rattle.dso_base.specs.declared.journal.Trigger.{Trigger}
use Rattle.dso_base.specs.declared.lock.ThreadId.{ThreadId}
use Rattle.dso_base.specs.Following.{is_thread}
use Rattle.dso_class.specs.declared.program.Program.{Program}
use Rattle.dso_client.specs.Threads.{IsEnabled, TellsAlive}
use Rattle.dso_law.specs.Channels.{breaks, count_inputs}
use Rattle.dso_law.specs.Entries.{entries_of}
use Rattle.dso_law.specs.ServerReadings.{is_loss_due, is_lost, is_reached, taken_count}
use Rattle.dso_law.specs.Settings.{Settings, clients_of, threads_of, up_to}
use Rattle.dso_legal.specs.Slots.{Acts, TakesDown, Flushes, TakesUp, Loses, Breaks, client_slots, is_loss_or_break_due, is_finished, slots}
use Rattle.dso_machine.specs.Next.{next_request}
use Rattle.dso_server.specs.ServerStands.{ServerStands}
use Rattle.dso_server.specs.Triggers.{AreTriggersOf, break_due_by, loss_due_by}
use Rattle.dso_server.specs.declared.server.Server.{Server}
use Rattle.dso_session.specs.Ends.{sent_count}
use Rattle.dso_base.specs.declared.both.Both.{Both}
use Rattle.dso_base.specs.declared.both.Both.TheVariants as both
use Rattle.dso_world.specs.declared.client_node.ClientNode.{ClientNode}
use Rattle.dso_world.specs.declared.nodes.Nodes.{Nodes}
use Rattle.dso_world.specs.declared.step.Step.{Step}
use Rattle.dso_world.specs.declared.step.Step.TheVariants as step
use Rattle.dso_world.specs.Busy.{is_busy}
use Rattle.dso_world.specs.ChosenSlot.{is_slot}
use Rattle.dso_world.specs.LinkStands.{can_take_down, can_take_up}
use Rattle.dso_world.specs.SlotTests.{PairStands, TellsBusy, TellsDue, TellsOpen, TellsOpenAt}
use Rattle.dso_world.specs.ClientSteps.{IsJournal}
use Rattle.dso_world.specs.NodesStand.{ClientNodeStands, NodesStand}
use Rattle.dso_world.specs.PastOf.{course_of, past_of}
use Rattle.dso_world.specs.Touched.{client_of}
use Rattle.dso_world.specs.WorldSteps.{settings_of, slot_of}
use Rattle.dso_world.proofs.journals.Letters.{letters_are_left}
use Rattle.dso_session.proofs.Sent.{all_sent}
use Rattle.dso_world.proofs.links.Takes.{links_go_on}
use Rattle.dso_world.proofs.finished.Busy.{finished_is}
use Rattle.dso_world.proofs.finished.Working.{busy_is}
use Rattle.dso_world.proofs.nodes.Stepped.{got}
use Rattle.dso_world.proofs.places.Clients.{acts_own, in_either, numbered_so, of_a_client}
use Rattle.dso_world.proofs.premises.OwnRun.{acts_open}
use Rattle.dso_world.proofs.premises.Sizes.{sizes_are_kept}
use Rattle.dso_world.proofs.programs.Threads.{any_told, bodies_there, clients_listed, listed}

-- ---- a thread whose act is a slot is one of its client's

takes_no_act : (t : ThreadId) (cs : List ℕ) → list_any (is_slot (Acts t)) (map TakesUp cs) ≡ false
takes_no_act t [] = refl
takes_no_act t (c ∷ cs) = takes_no_act t cs

triggers_no_act : (t : ThreadId) (cs : List ℕ) → list_any (is_slot (Acts t)) (flat_map (λ c. Loses c ∷ Breaks c ∷ []) cs) ≡ false
triggers_no_act t [] = refl
triggers_no_act t (c ∷ cs) = triggers_no_act t cs

own_act : (p : Settings) (t : ThreadId) (cs : List ℕ) → list_any (is_slot (Acts t)) (flat_map (client_slots p) cs) ≡ true → list_any (is_thread t) (threads_of p t.client) ≡ true
own_act p t [] is = absurd (cc is)
own_act p t (c ∷ cs) is = elim (in_either (Acts t) (client_slots p c) (flat_map (client_slots p) cs) is) [
  | inl here ↦ elim (in_either (Acts t) (map Acts (threads_of p c)) (TakesDown c ∷ Flushes c ∷ []) here) [
    | inl acts ↦ subst (λ n. list_any (is_thread t) (threads_of p n) ≡ true) (sym (acts_own (Acts t) c p.threads acts)) (sym (any_told Acts (is_slot (Acts t)) (threads_of p c)) ∙ acts)
    | inr others ↦ absurd (cc others)
  ]
  | inr later ↦ own_act p t cs later
]

pub acts_there : (p : Settings) (t : ThreadId) → list_any (is_slot (Acts t)) (slots p) ≡ true → list_any (is_thread t) (threads_of p t.client) ≡ true
acts_there p t is = elim (in_either (Acts t) (flat_map (client_slots p) (clients_of p) ++ map TakesUp (clients_of p)) (flat_map (λ c. Loses c ∷ Breaks c ∷ []) (clients_of p)) is) [
  | inl first ↦ elim (in_either (Acts t) (flat_map (client_slots p) (clients_of p)) (map TakesUp (clients_of p)) first) [
    | inl own ↦ own_act p t (clients_of p) own
    | inr takes ↦ absurd (cc (sym (takes_no_act t (clients_of p)) ∙ takes))
  ]
  | inr triggers ↦ absurd (cc (sym (triggers_no_act t (clients_of p)) ∙ triggers))
]

-- ---- small laws

-- a way is empty exactly where nothing can be taken
empty_is : {Empty : Type 0} (answer can : Bool) → (IsTrue answer ↔ Empty) → (Empty ↔ (can ≡ false)) → not answer ≡ can
empty_is true can empty none = sym (none.0 (empty.0 refl))
empty_is false true empty none = refl
empty_is false false empty none = absurd (cc (empty.1 (none.1 refl)))

next_place : (place : ℕ) → place + 1 ≡ suc place
next_place place = omega arith

-- what is lent of a list stands at its place
pub lent : {A : Type 0} (xs lender : List A) (place : ℕ) (x : A) → lender ≡ xs → true ≡ ltb place (length lender) → x ≡ slice_index_or lender place x → slice_get xs place ≡ Some x
lent xs lender place x same within is = subst (λ list. slice_get list place ≡ Some x) same (got lender place x (ltb-true place (length lender) (sym within)) is)

-- and where nothing is, the list ends before
pub unlent : {A : Type 0} (xs lender : List A) (place : ℕ) → lender ≡ xs → false ≡ ltb place (length lender) → length xs ≤ place
unlent xs lender place same within = subst (λ list. length list ≤ place) same (ltb-false place (length lender) (sym within))

module _ (program : Program) where
  -- ---- triggers

  -- Which triggers are due is told by what was taken, how often the connection broke, and whether the client is lost.
  pub due_told : (c : ℕ) (server : Server) (client_node : ClientNode) (lost loss break : Bool) (taken broke : ℕ)
      → ((p : Settings) (es : List Entry) → ServerStands p server es → lost ≡ is_lost c es)
      → taken ≡ client_node.link.server.accepted → broke ≡ client_node.link.server.epoch
      → ((d : ℕ) (losses all : List Trigger) → AreTriggersOf d losses all client_node.triggers → loss ≡ loss_due_by d taken lost losses)
      → ((d : ℕ) (losses all : List Trigger) → AreTriggersOf d losses all client_node.triggers → break ≡ break_due_by d taken lost loss broke all)
      → TellsDue program c server client_node loss break
  due_told c server client_node lost loss break taken broke tells taken_is broke_is loss_by break_by es pair =
      let own = entries_of node.Server es in
      let gone = is_lost c own in
      let losses = program.losses in
      let all = program.breaks in
      let lost_is : lost ≡ gone = tells (settings_of program) own pair.core in
      let took : taken ≡ taken_count c own = taken_is ∙ pair.stands.link.server.accepted in
      let breaks_are : broke ≡ count_inputs (breaks c) own = broke_is ∙ pair.stands.link.server.epoch in
      let loss_is : loss ≡ is_loss_due (settings_of program) c own =
      loss_by c losses all pair.stands.triggers ∙ ap (λ b. not b && list_any (is_reached c taken) losses) lost_is
      ∙ ap (λ n. not gone && list_any (is_reached c n) losses) took in
      let due = is_loss_due (settings_of program) c own in (
        loss_is,
        break_by c losses all pair.stands.triggers
            ∙ ap (λ b. not b && (not loss && ltb broke (length (filter (is_reached c taken) all)))) lost_is
            ∙ ap (λ b. not gone && (not b && ltb broke (length (filter (is_reached c taken) all)))) loss_is
            ∙ ap (λ n. not gone && (not due && ltb broke (length (filter (is_reached c n) all)))) took
            ∙ ap (λ n. not gone && (not due && ltb n (length (filter (is_reached c (taken_count c own)) all)))) breaks_are,
      )

  module _ (c : ℕ) (server : Server) (client_node : ClientNode) (loss break : Bool) (tells : TellsDue program c server client_node loss break) where
    -- ---- slots of a client

    -- one of them is due
    either_told : (es : List Entry) → PairStands program c server client_node es → (loss || break) ≡ is_loss_or_break_due (settings_of program) c es
    either_told es pair =
        let due = tells es pair in
        ap (λ b. b || break) due.0 ∙ ap (λ b. is_loss_due (settings_of program) c (entries_of node.Server es) || b) due.1

    -- the server can take of the client
    pub up_told : (empty : Bool) → (IsTrue empty ↔ (client_node.link.up ≡ [])) → TellsOpenAt program c server client_node (step.TakeUp c) (not (loss || break) && not empty)
    up_told empty waits es pair its =
        ap (λ b. not b && not empty) (either_told es pair)
        ∙ ap (λ b. not (is_loss_or_break_due (settings_of program) c es) && b) (empty_is empty (can_take_up (course_of (settings_of program) c es) (past_of both.Up both.Down c es)) waits
        ((links_go_on {M = Both}).none_up (course_of (settings_of program) c es) (past_of both.Up both.Down c es) client_node.link pair.stands.link))
        ∙ sym ((letters_are_left {M = Both}).takes (settings_of program) (next_request program.code) es pair.journal.lawful both.Up both.Down c).up

    pub lose_told : TellsOpenAt program c server client_node (step.Lose c) loss
    lose_told es pair its = (tells es pair).0

    pub break_told : TellsOpenAt program c server client_node (step.Break c) break
    break_told es pair its = (tells es pair).1

    -- whether the client keeps the run going
    pub busy_told : (lost quiet going : Bool) (alive : ℕ) → ((p : Settings) (es : List Entry) → ServerStands p server es → lost ≡ is_lost c es)
        → quiet ≡ (eqb (sent_count client_node.link.client) client_node.link.server.accepted && eqb (sent_count client_node.link.server) client_node.link.client.accepted)
        → TellsAlive client_node.client alive → going ≡ ((loss || break) || (not lost && (not quiet || ltb 0 alive)))
        → TellsBusy program c server client_node going
    busy_told lost quiet going alive lost_told quiet_is on going_is es pair =
        let p = settings_of program in
        let sound = pair.journal.sound in
        let link = pair.stands.link in
        going_is ∙ ap (λ b. b || (not lost && (not quiet || ltb 0 alive))) (either_told es pair)
        ∙ ap (λ b. is_loss_or_break_due p c es || (not b && (not quiet || ltb 0 alive))) (lost_told p (entries_of node.Server es) pair.core)
        ∙ ap (λ b. is_loss_or_break_due p c es || (not (is_lost c (entries_of node.Server es)) && (not b || ltb 0 alive))) quiet_is
        ∙ sym (busy_is program.code sound.code p refl (bodies_there program.code sound.code program.threads sound.threads) es pair.journal.lawful c
        (sent_count client_node.link.client) client_node.link.server.accepted (sent_count client_node.link.server) client_node.link.client.accepted alive
        (all_sent (past_of both.Up both.Down c es).up client_node.link.client link.client.sent) link.server.accepted link.up_few
        (all_sent (past_of both.Up both.Down c es).down client_node.link.server link.server.sent) link.client.accepted link.down_few
        (on program.code p c (entries_of (node.Client c) es) pair.stands.client))

  -- a thread can act
  pub acts_told : (server : Server) (client_node : ClientNode) (t : ThreadId) (answer : Bool) → IsEnabled client_node.client t.index answer → TellsOpenAt program t.client server client_node (step.Act t) answer
  acts_told server client_node t answer tells es pair its =
      tells program.code (settings_of program) t.client (entries_of (node.Client t.client) es) pair.stands.client
      (sizes_are_kept program.code pair.journal.sound.code (settings_of program) refl es pair.journal.lawful.follow t.client)
      (acts_there (settings_of program) t its)
      ∙ sym (acts_open (settings_of program) (next_request program.code) t.client es t.index)

  -- the client can take
  pub down_told : (c : ℕ) (server : Server) (client_node : ClientNode) (empty : Bool) → (IsTrue empty ↔ (client_node.link.down ≡ [])) → TellsOpenAt program c server client_node (step.TakeDown c) (not empty)
  down_told c server client_node empty waits es pair its =
      empty_is empty (can_take_down (course_of (settings_of program) c es) (past_of both.Up both.Down c es)) waits
      ((links_go_on {M = Both}).none_down (course_of (settings_of program) c es) (past_of both.Up both.Down c es) client_node.link pair.stands.link)
      ∙ sym ((letters_are_left {M = Both}).takes (settings_of program) (next_request program.code) es pair.journal.lawful both.Up both.Down c).down

  -- so for the step that it is
  pub at_step : (c d : ℕ) (server : Server) (client_node : ClientNode) (one other : Step) (answer : Bool) → c ≡ client_of (slot_of one) → one ≡ other → client_of (slot_of other) ≡ d
      → TellsOpenAt program d server client_node other answer → TellsOpenAt program c server client_node one answer
  at_step c d server client_node one other answer its is of tells =
      let same : c ≡ d = its ∙ ap (λ s. client_of (slot_of s)) is ∙ of in
      subst (λ s. TellsOpenAt program c server client_node s answer) (sym is) (subst (λ n. TellsOpenAt program n server client_node other answer) (sym same) tells)

  -- so where the step is of the client itself
  pub at_own : (c d : ℕ) (server : Server) (client_node : ClientNode) (one : Step) (of : ℕ → Step) (answer : Bool) → c ≡ client_of (slot_of one) → one ≡ of d → ((n : ℕ) → client_of (slot_of (of n)) ≡ n)
      → TellsOpenAt program c server client_node (of c) answer → TellsOpenAt program c server client_node one answer
  at_own c d server client_node one of answer its is owned tells =
      let same : c ≡ d = its ∙ ap (λ s. client_of (slot_of s)) is ∙ owned d in
      subst (λ s. TellsOpenAt program c server client_node s answer) (sym (is ∙ ap of (sym same))) tells

  -- ---- the nodes

  module _ (number : ℕ) (nodes : Nodes) (one : Step) (its : number ≡ client_of (slot_of one)) where
    -- no slot is of client 0,
    pub none_told : number ≡ 0 → TellsOpen program nodes one false
    none_told none es journal stands there =
        let range = numbered_so (client_of (slot_of one)) program.clients (of_a_client (slot_of one) (settings_of program) there) in
        let low = range.0 in
        absurd (omega (arith, low, its, none))

    -- nor of one that isn't there,
    pub beyond_told : 1 ≤ number → length nodes.client_nodes.items ≤ number - 1 → TellsOpen program nodes one false
    beyond_told from past es journal stands there =
        let range = numbered_so (client_of (slot_of one)) program.clients (of_a_client (slot_of one) (settings_of program) there) in
        let high = range.1 in
        let count = stands.count in
        absurd (omega (arith, high, its, from, past, count))

    -- else it is open where its client tells so
    pub client_node_told : (client_node : ClientNode) (answer : Bool) → 1 ≤ number → slice_get nodes.client_nodes.items (number - 1) ≡ Some client_node → TellsOpenAt program number nodes.server client_node one answer
        → TellsOpen program nodes one answer
    client_node_told client_node answer from is tells es journal stands there =
        let next : suc (number - 1) ≡ number = omega (arith, from) in
        tells es (record {
          journal = journal;
          its = subst (λ n. list_any (eqb n) (clients_of (settings_of program)) ≡ true) (sym its) (of_a_client (slot_of one) (settings_of program) there);
          core = stands.server;
          stands = subst (λ n. ClientNodeStands program n client_node es) next (stands.client_nodes (number - 1) client_node is);
        }) there

  -- the client at this place keeps the run going
  pub busy_at : (place : ℕ) (nodes : Nodes) (client_node : ClientNode) (answer : Bool) → place < program.clients → slice_get nodes.client_nodes.items place ≡ Some client_node → TellsBusy program (place + 1) nodes.server client_node answer
      → (es : List Entry) → IsJournal program es → NodesStand program nodes es → answer ≡ is_busy (settings_of program) (suc place) es
  busy_at place nodes client_node answer within is tells es journal stands = subst (λ n. TellsBusy program n nodes.server client_node answer) (next_place place) tells es (record {
    journal = journal;
    its = listed (eqb (suc place)) (suc place) program.clients (eq-eqb (suc place) (suc place) refl) (omega arith) (omega (arith, within));
    core = stands.server;
    stands = stands.client_nodes place client_node is;
  })

  -- there is one at each place up to the last
  pub nobody_at : (place : ℕ) (nodes : Nodes) → place < program.clients → length nodes.client_nodes.items ≤ place
      → (es : List Entry) → IsJournal program es → NodesStand program nodes es → false ≡ is_busy (settings_of program) (suc place) es
  nobody_at place nodes within past es journal stands = let count = stands.count in absurd (omega (arith, within, past, count))

  module _ (nodes : Nodes) (es : List Entry) (journal : IsJournal program es) where
    finished_by : is_finished (settings_of program) es ≡ not (list_any (λ c. is_busy (settings_of program) c es) (up_to program.clients))
    finished_by = finished_is (settings_of program) es (clients_listed program.code journal.sound.code program.threads journal.sound.threads program.clients journal.sound.clients_there)

    -- finished where none keeps it going,
    pub finished_told : (place : ℕ) → program.clients ≡ place → list_any (λ c. is_busy (settings_of program) c es) (up_to place) ≡ false → true ≡ is_finished (settings_of program) es
    finished_told place all none = sym (finished_by ∙ ap (λ n. not (list_any (λ c. is_busy (settings_of program) c es) (up_to n))) all ∙ ap not none)

    -- not where one does
    pub going_told : (place : ℕ) → place < program.clients → is_busy (settings_of program) (suc place) es ≡ true → false ≡ is_finished (settings_of program) es
    going_told place within is = sym (finished_by ∙ ap not (listed (λ c. is_busy (settings_of program) c es) (suc place) program.clients is (omega arith) (omega (arith, within))))

    pub one_further : (place : ℕ) → list_any (λ c. is_busy (settings_of program) c es) (up_to place) ≡ false → is_busy (settings_of program) (suc place) es ≡ false
        → list_any (λ c. is_busy (settings_of program) c es) (up_to (place + 1)) ≡ false
    one_further place none last =
        let next : suc place ≡ place + 1 = omega arith in
        subst (λ n. list_any (λ c. is_busy (settings_of program) c es) (up_to n) ≡ false) next
        (list_any-append (λ c. is_busy (settings_of program) c es) (up_to place) (suc place ∷ []) ∙ ap (λ b. b || (is_busy (settings_of program) (suc place) es || false)) none ∙ ap (λ b. b || false) last)

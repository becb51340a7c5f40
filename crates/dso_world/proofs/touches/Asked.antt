-- What is told of threads after an entry: what each asks next, what the entry touches, and which slots stay.
use Rattle.std.specs.Int.{bit_at}
use Rattle.std.specs.List.{list_any}
use Rattle.std.proofs.Common.{ℕ, suc, ◌-◌, ◌<◌, ◌≤◌, ◌≡◌, inl, inr, refl, sym, ◌∙◌, ap, subst, Bool, true, false, cond, eqb, ◌||◌, Option, Some, None, List, [], ◌∷◌, filter, length, slice_get, arith}
use Rattle.dso_base.specs.declared.journal.Entry.{Entry}
use Rattle.dso_base.specs.declared.journal.Node.{Node}
use Rattle.dso_base.specs.declared.journal.Node.TheVariants.{Server, Client}
use Rattle.dso_base.specs.declared.lock.ThreadId.{ThreadId}
use Rattle.dso_base.specs.declared.request.Event.{Event}
use Rattle.dso_base.specs.declared.request.Request.{Request}
use Rattle.dso_base.specs.Following.{is_thread}
use Rattle.dso_plain.proofs.keys.SameKeys.{number_self, same_number, same_thread}
use Rattle.dso_class.specs.declared.program.Program.{Program}
use Rattle.dso_client.specs.Threads.{IsNextRequest}
use Rattle.dso_law.specs.Entries.{entries_of}
use Rattle.dso_law.specs.Settings.{Settings, clients_of}
use Rattle.dso_legal.specs.Lawful.{ClientFollows, NodeFollows}
use Rattle.dso_legal.specs.Slots.{Acts, is_open}
use Rattle.dso_legal.proofs.blocks.OwnActs.{next_act}
use Rattle.dso_machine.specs.Next.{next_request}
use Rattle.dso_open_law.specs.FewTouched.{few_topics}
use Rattle.dso_open_law.specs.TouchedThreads.{Topic, is_topic, topic, acts}
use Rattle.dso_open_law.proofs.sound.FewTouched.{few_are_touched}
use Rattle.dso_world.specs.declared.client_node.ClientNode.{ClientNode}
use Rattle.dso_world.specs.declared.nodes.Nodes.{Nodes}
use Rattle.dso_world.specs.declared.step.Step.TheVariants as step
use Rattle.dso_world.specs.declared.touched_threads.Touches.{Touches}
use Rattle.dso_world.specs.AskedAgain.{HasTouched, Stays, TellsActor, TellsNext}
use Rattle.dso_world.specs.AskingThreads.{IsListed, IsOfCluster, bucket_of, next_of, row_of, word_at}
use Rattle.dso_world.specs.ClientSteps.{IsJournal}
use Rattle.dso_world.specs.EntryTouches.{AreAsked, Covers, has}
use Rattle.dso_world.specs.NodesStand.{ClientNodeStands, NodesStand}
use Rattle.dso_world.specs.Touched.{is_touched}
use Rattle.dso_world.specs.WorldSteps.{settings_of}
use Rattle.dso_world.proofs.places.Clients.{numbered_so, of_a_client}
use Rattle.dso_world.proofs.premises.SoundPrograms.{IsOfSoundProgram, sound_code}
use Rattle.dso_world.proofs.programs.Threads.{own_index}
use Rattle.dso_world.proofs.slots.OthersStay.{others_stay}
use Rattle.dso_world.proofs.touches.Added.{bucket_within, has_its_bucket}
use Rattle.dso_world.proofs.worlds.Looks.{acts_there}

-- a thread of the client that is among some is among those of the client
own_among : (t : ThreadId) (c : ℕ) → eqb t.client c ≡ true → (threads : List ThreadId) → list_any (is_thread t) threads ≡ true → list_any (is_thread t) (filter (λ u. eqb u.client c) threads) ≡ true
own_among t c mine [] is = absurd (cc is)
own_among t c mine (u ∷ threads) is = by (eqb u.client c) refl (is_thread t u) refl is (own_among t c mine threads)
  where
    by : (b : Bool) → eqb u.client c ≡ b → (d : Bool) → is_thread t u ≡ d → (d || list_any (is_thread t) threads) ≡ true
        → (list_any (is_thread t) threads ≡ true → list_any (is_thread t) (filter (λ u. eqb u.client c) threads) ≡ true)
        → list_any (is_thread t) (cond b (u ∷ filter (λ u. eqb u.client c) threads) (filter (λ u. eqb u.client c) threads)) ≡ true
    by true its true same is later = ap (λ d. d || list_any (is_thread t) (filter (λ u. eqb u.client c) threads)) same
    by true its false same is later = ap (λ d. d || list_any (is_thread t) (filter (λ u. eqb u.client c) threads)) same ∙ later is
    by false its true same is later = absurd (cc (sym its ∙ (ap (λ (u : ThreadId). eqb u.client c) (same_thread t u same) ∙ mine)))
    by false its false same is later = later is

module _ (program : Program) (nodes : Nodes) where
  -- ---- what a thread asks next

  module _ (t : ThreadId) where
    -- no thread is of client 0,
    pub nobody_asks : t.client ≡ 0 → TellsNext program nodes t None
    nobody_asks none es journal stands its =
        let low = (numbered_so t.client program.clients its.client).0 in
        absurd (omega (arith, low, none))

    -- nor of one that isn't there,
    pub beyond_asks : 1 ≤ t.client → length nodes.client_nodes.items ≤ t.client - 1 → TellsNext program nodes t None
    beyond_asks from past es journal stands its =
        let high = (numbered_so t.client program.clients its.client).1 in
        let count = stands.count in
        absurd (omega (arith, high, from, past, count))

    -- else it is what its client tells.
    pub client_asks : (client_node : ClientNode) (answer : Option Request) → 1 ≤ t.client → slice_get nodes.client_nodes.items (t.client - 1) ≡ Some client_node → IsNextRequest client_node.client t.index answer
        → TellsNext program nodes t answer
    client_asks client_node answer from is tells es journal stands its =
        let next : suc (t.client - 1) ≡ t.client = omega (arith, from) in
        let own = subst (λ n. ClientNodeStands program n client_node es) next (stands.client_nodes (t.client - 1) client_node is) in
        tells program.code (settings_of program) t.client (entries_of (Client t.client) es) own.client its.among

  -- ---- what an entry touches

  -- What is kept of an entry has all that it touches.
  pub has_touched : (entry : Entry) (next : Option Request) (touches : Touches) → TellsActor program nodes entry.event next → Covers entry next touches → HasTouched program nodes entry touches
  has_touched entry next touches tells covers es journal stands c is about listed = covers (next_of program es) (next_of program (entry ∷ es)) (entries_of (Client c) es) asked about listed
    where
      p : Settings
      p = settings_of program

      its_rule : ClientFollows p (next_request program.code) c entry es
      its_rule = subst (λ node. NodeFollows p (next_request program.code) node entry es) is journal.lawful.follow.1.rule

      by : (event : Option Event) → entry.event ≡ event → AreAsked event next (next_of program es) (next_of program (entry ∷ es)) → AreAsked entry.event next (next_of program es) (next_of program (entry ∷ es))
      by event same h = subst (λ event. AreAsked event next (next_of program es) (next_of program (entry ∷ es))) (sym same) h

      asked : AreAsked entry.event next (next_of program es) (next_of program (entry ∷ es))
      asked = elim (next_act p c (next_of program es) (next_of program (entry ∷ es)) entry (entries_of (Client c) es) its_rule.step) [
        | inl none ↦ by None none tt
        | inr it ↦
            let here : list_any (eqb it.thread.client) (clients_of p) ≡ true = subst (λ n. list_any (eqb n) (clients_of p) ≡ true) (sym it.its) its_rule.its in
            let tells_it = subst (λ event. TellsActor program nodes event next) it.event tells in
            by _ it.event (
              it.asked,
              sym (tells_it (entry ∷ es) journal stands (record {
                client = here;
                among = own_among it.thread it.thread.client (number_self it.thread.client) p.threads it.among;
              })),
            )
      ]

  -- ---- which slots stay

  -- That of a thread that doesn't act, and asks for nothing that the entry touches,
  module _ (entry : Entry) (touches : Touches) (t : ThreadId) (covers : HasTouched program nodes entry touches) (idle : acts t entry.event ≡ false)
      (es : List Entry) (journal : IsJournal program (entry ∷ es)) (stands : NodesStand program nodes (entry ∷ es)) (spared : has touches (topic t (next_of program es t)) ≡ false) where
    abbrev p : Settings
    p = settings_of program

    abbrev touched_by : List Topic
    touched_by = few_topics (next_of program es) (next_of program (entry ∷ es)) (entries_of (Client t.client) es) entry

    node_is : (node : Node) → is_touched node entry.input entry.sent (Acts t) ≡ true → node ≡ Client t.client
    node_is Server is = absurd (cc is)
    node_is (Client c) is = ap Client (same_number c t.client is)

    spares : entry.node ≡ Client t.client → (b : Bool) → list_any (is_topic (topic t (next_of program es t))) touched_by ≡ b → b ≡ false
    spares is false found = refl
    spares is true found = absurd (cc (sym (covers es journal stands t.client is (topic t (next_of program es t)) found) ∙ spared))

    act_stays : (b : Bool) → is_touched entry.node entry.input entry.sent (Acts t) ≡ b → is_open p (next_request program.code) (entry ∷ es) (Acts t) ≡ is_open p (next_request program.code) es (Acts t)
    act_stays false untouched = others_stay p (next_request program.code) entry es (Acts t) untouched
    act_stays true touched =
        let is = node_is entry.node touched in
        let sound : IsOfSoundProgram p.shape (next_request program.code) = sound_code program.code p.shape journal.sound.code refl in
        let found = list_any (is_topic (topic t (next_of program es t))) touched_by in
        few_are_touched p (next_request program.code) sound.sound sound.texts sound.within entry es journal.lawful.follow t is
        (ap (λ b. b || found) idle ∙ spares is found refl)

  -- so of one whose number is not among those of the client that ask for a topic of a bucket that the entry touches, or act.
  module _ (words : List ℕ) (entry : Entry) (touches : Touches) (number asked threads : ℕ) (covers : HasTouched program nodes entry touches)
      (asking : (b i : ℕ) → b < 64 → bit_at touches.buckets b ≡ 1 → bit_at (word_at words (row_of number b)) i ≡ 1 → bit_at asked i ≡ 1)
      (others : (i : ℕ) → bit_at asked i ≡ 1 → bit_at threads i ≡ 1)
      (actor : (t : ThreadId) → acts t entry.event ≡ true → t.index < 64 → bit_at threads t.index ≡ 1) where
    module _ (t : ThreadId) (its : t.client ≡ number) (spared : bit_at threads t.index ≡ 0) where
      idle : t.index < 64 → (b : Bool) → acts t entry.event ≡ b → b ≡ false
      idle low false is = refl
      idle low true is = let here = actor t is low in absurd (omega (arith, here, spared))

      quiet : (about : Topic) → ((b : ℕ) → bucket_of about ≡ Some b → IsListed words t b) → (b : Bool) → has touches about ≡ b → b ≡ false
      quiet about listed false is = refl
      quiet about listed true is =
          let found = has_its_bucket about touches is in
          let there : bit_at (word_at words (row_of number found.0)) t.index ≡ 1 = subst (λ c. bit_at (word_at words (row_of c found.0)) t.index ≡ 1) its (listed found.0 found.1) in
          let here = others t.index (asking found.0 t.index (bucket_within about found.0 found.1) found.2 there) in
          absurd (omega (arith, here, spared))

      pub thread_stays : Stays program words nodes entry (step.Act t)
      thread_stays es journal stands listed there =
          let cluster : IsOfCluster program t = record { client = of_a_client (Acts t) (settings_of program) there; among = acts_there (settings_of program) t there } in
          let sound = journal.sound in
          let low : t.index ≤ 16 = own_index program.code sound.code program.threads sound.threads sound.threads_rise t.client t cluster.among in
          act_stays entry touches t covers (idle (omega (arith, low)) (acts t entry.event) refl) es journal stands
          (quiet (topic t (next_of program es t)) (listed t cluster) (has touches (topic t (next_of program es t))) refl)
          (is_touched entry.node entry.input entry.sent (Acts t)) refl

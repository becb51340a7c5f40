-- What the parts of a client's turn make of its cell.
use Rattle.std.specs.List.{list_any}
use Rattle.std.proofs.Common.{ℕ, suc, ◌+◌, ◌≡◌, refl, sym, ◌∙◌, ap, subst, Bool, true, false, cond, max, Some, None, List, [], ◌∷◌, map, reverse, arith}
use Rattle.std.proofs.lemmas.Bool.{eq-eqb}
use Rattle.dso_base.specs.declared.both.Both.TheVariants as both
use Rattle.dso_base.specs.declared.journal.Entry.{Entry}
use Rattle.dso_base.specs.declared.journal.Input.TheVariants as input
use Rattle.dso_base.specs.declared.journal.Node.TheVariants.{Client}
use Rattle.dso_base.specs.declared.journal.Sent.TheVariants.{ToServer}
use Rattle.dso_base.specs.declared.message.Down.{Down}
use Rattle.dso_base.specs.declared.message.Up.{Up}
use Rattle.dso_base.specs.declared.message.Up.TheVariants as up
use Rattle.dso_base.specs.declared.request.Event.{Event}
use Rattle.dso_base.specs.Following.{is_thread}
use Rattle.dso_law.specs.Channels.{count_inputs, rejoins}
use Rattle.dso_law.specs.Settings.{Settings, threads_of}
use Rattle.dso_machine.specs.declared.code.Code.{Code}
use Rattle.dso_log.specs.Logs.{last_clock, next_clock, with_entry}
use Rattle.dso_wire.specs.Spelling.{IsDown, IsFrame, down_frame_cells}
use Rattle.dso_port.specs.Ports.{PortState, SameRings, TookFrame}
use Rattle.dso_port.specs.declared.arrival.Arrival.TheVariants as arrival
use Rattle.dso_line.specs.Letters.{is_taking, log_clock, newest}
use Rattle.dso_line.specs.Lines.{ClientLineStands}
use Rattle.rtrb.specs.Ring.{SameConsumer, SameProducer}
use Rattle.dso_line.proofs.standing.Clients.{client_heard, client_rejoined, client_stays}
use Rattle.dso_client.specs.declared.acted.Acted.{Acted}
use Rattle.dso_client.specs.declared.acted.Acted.TheVariants as acted
use Rattle.dso_client.specs.declared.client_state.ClientState.{ClientState}
use Rattle.dso_client.specs.ThreadActs.{Acts, HasActed, event_entry}
use Rattle.dso_client.specs.ClientStands.{ClientStands, point}
use Rattle.dso_client.specs.Entries.{rejoined_entry}
use Rattle.dso_client.specs.ObjectFlushes.{Flushes}
use Rattle.dso_client.specs.Laws.{RejoinsChangeNothing}
use Rattle.dso_client.specs.Openings.{thread_at}
use Rattle.dso_client.specs.RunFacts.{SizesAreKept}
use Rattle.dso_client.specs.TakenMessages.{Takes}
use Rattle.dso_client.specs.Threads.{WhereAbsent}
use Rattle.dso_cell.specs.declared.client_cell.ClientCell.{ClientCell}
use Rattle.dso_cell.specs.declared.made.Made.{Made}
use Rattle.dso_cell.specs.ClientCells.{ClientPartsStand, GoesOn}
use Rattle.dso_cell.specs.ClientSteps.{HasHeard, HasRejoined, HasSaid, entry_said, made_of_message, made_of_rejoin}
use Rattle.dso_cell.specs.Clusters.{Cluster}
use Rattle.dso_cell.specs.Logs.{LogIsInOrder}
use Rattle.dso_cell.proofs.standing.Cells.{cell_more, parts_more, parts_stay}
use Rattle.dso_line.proofs.standing.Logs.{clock_newest}

-- ---- rings
pub same_rings : (old new : PortState Up Down) → new.out ≡ old.out → new.into ≡ old.into → SameRings old new
same_rings old new out into = record {
  out = subst (λ x. SameProducer old.out x) (sym out) ((refl, refl, refl, refl), refl);
  into = subst (λ x. SameConsumer old.into x) (sym into) ((refl, refl, refl, refl), refl);
}

-- ---- an entry that is logged
-- The core, the count of rejoins and the end of the connection stand with the entry.
pub record Stepped (cluster : Cluster) (c : ℕ) (es : List Entry) (e : Entry) (kept : ClientState) (count : ℕ) (port : PortState Up Down) : Type 0 where
  pub core : LogIsInOrder cluster.code cluster.settings (Client c) (e ∷ es) → ClientStands cluster.code cluster.settings c kept (e ∷ es)
  pub rejoined : count ≡ count_inputs (rejoins c) (e ∷ es)
  pub line : ClientLineStands c (e ∷ es) port

module _ (code : Code) (old new : ClientCell) (made : Made) (messages : List Up)
    (log : new.log ≡ with_entry (entry_said made messages old.log) old.log) (number : new.number ≡ old.number) (rings : SameRings old.port new.port)
    (heard : is_taking made.input ≡ false → made.heard ≡ 0) where
  clock : is_taking made.input ≡ false → (entry_said made messages old.log).clock ≡ suc (log_clock (newest old.log))
  clock none =
      let zero_too : max (last_clock old.log) made.heard ≡ last_clock old.log = ap (max (last_clock old.log)) (heard none) ∙ omega arith in
      ap suc (zero_too ∙ sym (clock_newest old.log))

  pub said_goes_on : ((cluster : Cluster) → cluster.code ≡ code → old.log.node ≡ Client old.number → ClientPartsStand cluster old.number (newest old.log) old.core old.rejoins old.port
      → Stepped cluster old.number (newest old.log) (entry_said made messages old.log) new.core new.rejoins new.port) → GoesOn code old new
  said_goes_on steps = record {
    stands = λ cluster same its.
        let step = steps cluster same its.own its.parts in
        cell_more cluster old new (entry_said made messages old.log) number log its.own
        (parts_more cluster old.number (newest old.log) (entry_said made messages old.log) old.core new.core old.rejoins new.rejoins old.port new.port
        its.own step.core clock step.rejoined step.line rings its.parts);
  }

-- ---- a thread acts
module _ (code : Code) (index : ℕ) (old new : ClientCell) (messages : List Up) where
  did : (told : Acted) → Acts code index old.core new.core told messages → WhereAbsent old.core index (told ≡ acted.Over) → (told ≡ acted.Over → ⊥)
      → (p : Settings) (c clock : ℕ) (es : List Entry) → ClientStands code p c old.core es → SizesAreKept (point code p c es) → HasActed code p c clock es index told messages new.core
  did told acts absent isnt p c clock es stands sizes = by (list_any (is_thread (thread_at c index)) (threads_of p c)) refl
    where
      by : (its : Bool) → list_any (is_thread (thread_at c index)) (threads_of p c) ≡ its → HasActed code p c clock es index told messages new.core
      by true its = acts p c clock es stands sizes its
      by false its = absurd (isnt (absent code p c es stands its))

  module _ (number : new.number ≡ old.number) (rejoined : new.rejoins ≡ old.rejoins) where
    pub event_goes_on : (event : Event) → Acts code index old.core new.core (acted.Event event) messages → WhereAbsent old.core index (acted.Event event ≡ acted.Over)
        → HasSaid (record { heard = 0; input = input.Act index; event = Some event }) messages old.log new.log old.port new.port → GoesOn code old new
    event_goes_on event acts absent said = said_goes_on code old new (record { heard = 0; input = input.Act index; event = Some event }) messages said.log number
        (same_rings old.port new.port said.out said.into) (λ none. refl) (λ cluster same own stands. record {
          core = λ in_order. subst (λ n. ClientStands cluster.code cluster.settings old.number new.core
              (record { clock = next_clock 0 old.log; node = n; input = input.Act index; sent = map ToServer messages; event = Some event } ∷ newest old.log)) (sym own)
              (subst (λ code. (SizesAreKept (point code cluster.settings old.number (newest old.log)) → ClientStands code cluster.settings old.number old.core (newest old.log)
              → ClientStands code cluster.settings old.number new.core (event_entry (next_clock 0 old.log) old.number index event messages ∷ newest old.log))) (sym same)
              (λ sizes stands. did (acted.Event event) acts absent (λ is. cc is) cluster.settings old.number (next_clock 0 old.log) (newest old.log) stands sizes)
              in_order.1 (stands.core in_order.0));
          rejoined = rejoined ∙ stands.rejoined;
          line = client_stays old.number (newest old.log) (entry_said (record { heard = 0; input = input.Act index; event = Some event }) messages old.log) messages refl old.port new.port stands.line refl refl said.session said.out said.into;
        })

    pub asked_goes_on : Acts code index old.core new.core acted.Asked messages → WhereAbsent old.core index (acted.Asked ≡ acted.Over)
        → HasSaid (record { heard = 0; input = input.Act index; event = None }) messages old.log new.log old.port new.port → GoesOn code old new
    asked_goes_on acts absent said = said_goes_on code old new (record { heard = 0; input = input.Act index; event = None }) messages said.log number
        (same_rings old.port new.port said.out said.into) (λ none. refl) (λ cluster same own stands. record {
          core = λ in_order. subst (λ n. ClientStands cluster.code cluster.settings old.number new.core
              (record { clock = next_clock 0 old.log; node = n; input = input.Act index; sent = map ToServer messages; event = None } ∷ newest old.log)) (sym own)
              (subst (λ code. (SizesAreKept (point code cluster.settings old.number (newest old.log)) → ClientStands code cluster.settings old.number old.core (newest old.log)
              → ClientStands code cluster.settings old.number new.core
              (record { clock = next_clock 0 old.log; node = Client old.number; input = input.Act index; sent = map ToServer messages; event = None } ∷ newest old.log))) (sym same)
              (λ sizes stands.
              let asked = did acted.Asked acts absent (λ is. cc is) cluster.settings old.number (next_clock 0 old.log) (newest old.log) stands sizes in
              subst (λ list. ClientStands code cluster.settings old.number new.core
              (record { clock = next_clock 0 old.log; node = Client old.number; input = input.Act index; sent = map ToServer list; event = None } ∷ newest old.log)) (sym asked.alone) asked.stands)
              in_order.1 (stands.core in_order.0));
          rejoined = rejoined ∙ stands.rejoined;
          line = client_stays old.number (newest old.log) (entry_said (record { heard = 0; input = input.Act index; event = None }) messages old.log) messages refl old.port new.port stands.line refl refl said.session said.out said.into;
        })

-- ---- an object is flushed
pub flush_goes_on : (code : Code) (object : ℕ) (old new : ClientCell) (messages : List Up) → new.number ≡ old.number → new.rejoins ≡ old.rejoins
    → Flushes old.core new.core object → messages ≡ up.Flushed object ∷ []
    → HasSaid (record { heard = 0; input = input.Flush object; event = None }) messages old.log new.log old.port new.port → GoesOn code old new
flush_goes_on code object old new messages number rejoined flushes alone said = said_goes_on code old new (record { heard = 0; input = input.Flush object; event = None }) messages said.log number
    (same_rings old.port new.port said.out said.into) (λ none. refl) (λ cluster same own stands. record {
      core = λ in_order. subst (λ n. ClientStands cluster.code cluster.settings old.number new.core
          (record { clock = next_clock 0 old.log; node = n; input = input.Flush object; sent = map ToServer messages; event = None } ∷ newest old.log)) (sym own)
          (subst (λ list. ClientStands cluster.code cluster.settings old.number new.core
          (record { clock = next_clock 0 old.log; node = Client old.number; input = input.Flush object; sent = map ToServer list; event = None } ∷ newest old.log)) (sym alone)
          (flushes cluster.code cluster.settings old.number (next_clock 0 old.log) (newest old.log) (stands.core in_order.0)));
      rejoined = rejoined ∙ stands.rejoined;
      line = client_stays old.number (newest old.log) (entry_said (record { heard = 0; input = input.Flush object; event = None }) messages old.log) messages refl old.port new.port stands.line refl refl said.session said.out said.into;
    })

-- ---- a frame came
rings_said : (old mid after : PortState Up Down) → SameRings old mid → after.out ≡ mid.out → after.into ≡ mid.into → SameRings old after
rings_said old mid after rings out into = record {
  out = subst (λ x. SameProducer old.out x) (sym out) rings.out;
  into = subst (λ x. SameConsumer old.into x) (sym into) rings.into;
}

module _ (code : Code) (old new : ClientCell) (mid : PortState Up Down) (rings : SameRings old.port mid) (out : mid.out ≡ old.port.out) where
  -- a message
  pub hear_goes_on : (message : Down) (heard : ℕ) → TookFrame both.Down down_frame_cells (IsFrame IsDown) (arrival.Message message heard) old.port mid
      → HasHeard code message heard (record old { port = mid }) new → GoesOn code old new
  hear_goes_on message heard told did = said_goes_on code old new (made_of_message message heard) did.messages did.said.log did.number
      (rings_said old.port mid new.port rings did.said.out did.said.into) (λ is. absurd (cc is)) (λ cluster same own stands.
      let e = entry_said (made_of_message message heard) did.messages old.log in
      let count = count_inputs (rejoins old.number) (newest old.log) in
      record {
        core = λ in_order. subst (λ n. ClientStands cluster.code cluster.settings old.number new.core
            (record { clock = next_clock heard old.log; node = n; input = input.TookDown message; sent = map ToServer did.messages; event = None } ∷ newest old.log)) (sym own)
            ((subst (λ code. Takes code message old.core new.core did.messages) (sym same) did.takes cluster.settings old.number (next_clock heard old.log) (newest old.log)
            (stands.core in_order.0)).taken in_order.1);
        rejoined = did.rejoins ∙ stands.rejoined;
        line = client_heard old.number (newest old.log) e did.messages refl old.port new.port stands.line mid message heard told out refl refl refl
            (ap (λ n. suc (max n heard)) (sym (clock_newest old.log))) did.said.session did.said.out did.said.into;
      })

  -- a Hello
  pub rejoin_goes_on : TookFrame both.Down down_frame_cells (IsFrame IsDown) arrival.Rejoined old.port mid → RejoinsChangeNothing → HasRejoined (record old { port = mid }) new → GoesOn code old new
  rejoin_goes_on told nothing did = said_goes_on code old new (made_of_rejoin old.number) [] did.said.log did.number
      (rings_said old.port mid new.port rings did.said.out did.said.into) (λ none. refl) (λ cluster same own stands.
      let e = entry_said (made_of_rejoin old.number) [] old.log in
      let count = count_inputs (rejoins old.number) (newest old.log) in
      let more : count_inputs (rejoins old.number) (e ∷ newest old.log) ≡ suc count = ap (λ b. cond b (suc count) count) (eq-eqb old.number old.number refl) in
      record {
        core = λ in_order. subst (λ n. ClientStands cluster.code cluster.settings old.number new.core
            (record { clock = next_clock 0 old.log; node = n; input = input.Rejoin old.number; sent = []; event = None } ∷ newest old.log)) (sym own)
            (subst (λ core. ClientStands cluster.code cluster.settings old.number core (rejoined_entry (next_clock 0 old.log) old.number ∷ newest old.log)) (sym did.core)
            (nothing cluster.code cluster.settings old.number (next_clock 0 old.log) (newest old.log) old.core (stands.core in_order.0)));
        rejoined = did.rejoins ∙ ap (λ n. n + 1) stands.rejoined ∙ omega arith ∙ sym more;
        line = client_rejoined old.number (newest old.log) e [] refl old.port new.port stands.line mid told out refl (eq-eqb old.number old.number refl) did.said.session did.said.out did.said.into;
      })

-- ---- no entry is logged
module _ (code : Code) (old new : ClientCell) where
  pub stay_goes_on : new.number ≡ old.number → new.log.node ≡ old.log.node → new.log.entries ≡ old.log.entries → new.core ≡ old.core → new.rejoins ≡ old.rejoins → SameRings old.port new.port
      → ((c : ℕ) (es : List Entry) → ClientLineStands c es old.port → ClientLineStands c es new.port) → GoesOn code old new
  stay_goes_on number node entries core rejoined rings line = record {
    stands = λ cluster same its. record {
      own = node ∙ its.own ∙ ap Client (sym number);
      parts = subst (λ c. ClientPartsStand cluster c (newest new.log) new.core new.rejoins new.port) (sym number)
          (subst (λ list. ClientPartsStand cluster old.number (reverse list) new.core new.rejoins new.port) (sym entries)
          (subst (λ core. ClientPartsStand cluster old.number (newest old.log) core new.rejoins new.port) (sym core)
          (subst (λ n. ClientPartsStand cluster old.number (newest old.log) old.core n new.port) (sym rejoined)
          (parts_stay cluster old.number (newest old.log) old.core old.rejoins old.port new.port (line old.number (newest old.log) its.parts.line) rings its.parts))));
    };
  }

-- What the steps of a client make of a journal and of it.
use Rattle.std.specs.List.{list_any}
use Rattle.std.proofs.Common.{ℕ, suc, max, ◌+◌, ◌≤◌, ◌≡◌, refl, ◌∙◌, ap, true, false, eqb, Option, Some, None, List, ◌∷◌, length, map}
use Rattle.dso_base.specs.declared.journal.Entry.{Entry}
use Rattle.dso_base.specs.declared.journal.Input.{Input}
use Rattle.dso_base.specs.declared.journal.Input.TheVariants as input
use Rattle.dso_base.specs.declared.journal.Node.TheVariants as node
use Rattle.dso_base.specs.declared.journal.Sent.TheVariants.{ToServer}
use Rattle.dso_base.specs.declared.message.Down.{Down}
use Rattle.dso_base.specs.declared.message.Up.{Up}
use Rattle.dso_base.specs.declared.request.Event.{Event}
use Rattle.dso_class.specs.declared.program.Program.{Program}
use Rattle.dso_client.specs.declared.client_state.ClientState.{ClientState}
use Rattle.dso_client.specs.ThreadActs.{HoldsAtMost}
use Rattle.dso_client.specs.ClientStands.{ClientStands}
use Rattle.dso_client.specs.CodeRuns.{RunsCode}
use Rattle.dso_law.specs.Channels.{Letter, down_in_flight, last_clock, rejoins, takes_down}
use Rattle.dso_law.specs.Entries.{entries_of}
use Rattle.dso_law.specs.Settings.{clients_of}
use Rattle.dso_legal.specs.Lawful.{MayFollow}
use Rattle.dso_legal.specs.Slots.{Slot, TakesDown}
use Rattle.dso_machine.specs.Next.{next_request}
use Rattle.dso_base.specs.declared.both.Both.{Both}
use Rattle.dso_base.specs.declared.both.Both.TheVariants as both
use Rattle.dso_world.specs.declared.entry_draft.EntryDraft.{EntryDraft}
use Rattle.dso_world.specs.declared.client_node.ClientNode.{ClientNode}
use Rattle.dso_world.specs.ChosenSlot.{slot_at}
use Rattle.dso_world.specs.Link.{Line}
use Rattle.dso_world.specs.LinkStands.{Joined, LinkStands, Past}
use Rattle.dso_world.specs.ClientSteps.{Follows, IsJournal}
use Rattle.dso_world.specs.NodesStand.{ClientNodeStands}
use Rattle.dso_world.specs.PastOf.{course_of, past_of}
use Rattle.dso_world.specs.SentMessages.{after_saying, client_entry, clock_after}
use Rattle.dso_world.specs.WorldSteps.{settings_of}
use Rattle.dso_world.proofs.follows.Clients.{act_follows, flush_follows, take_follows}
use Rattle.dso_world.proofs.follows.Lawful.{lawful_with}
use Rattle.dso_world.proofs.client_nodes.With.{client_node_with}
use Rattle.dso_world.proofs.pasts.OwnEntry.{own_course, own_sends, own_takes}
use Rattle.dso_world.proofs.sending.Posts.{all_up_stand, up_post, with_up}

module _ (program : Program) (c : ℕ) (es : List Entry) (journal : IsJournal program es) (its : list_any (eqb c) (clients_of (settings_of program)) ≡ true)
    (old : ClientNode) (stands : ClientNodeStands program c old es) (kept : ClientState) (messages : List Up) where
  abbrev before : Past Both
  before = past_of both.Up both.Down c es

  abbrev own : List Entry
  own = entries_of (node.Client c) es

  -- what is told of the core that made the entry
  pub record Core (entry : Entry) : Type 0 where
    pub client : ClientStands program.code (settings_of program) c kept (entry ∷ own)
    pub runs : RunsCode program.code kept
    pub records : kept.sequences.records ≤ suc (length es)
    pub holds : HoldsAtMost (suc (length es)) kept

  -- An act or a flush: what is sent goes over the connection as it was.
  module _ (i : Input) (event : Option Event) (slot : Slot) where
    abbrev made : EntryDraft
    made = record { heard = 0; input = i; event = event }

    abbrev clock : ℕ
    clock = clock_after old.clock 0

    abbrev entry : Entry
    entry = client_entry c old.clock made messages

    said_follows : MayFollow (settings_of program) (next_request program.code) entry es → ((d : ℕ) → rejoins d i ≡ false) → takes_down i ≡ false
        → slot_at (node.Client c) i ≡ Some slot → Core entry → Follows program c slot entry (after_saying made messages (record old { client = kept })) es
    said_follows may still none at core = record {
      lawful = lawful_with (settings_of program) (next_request program.code) es journal.lawful clock c i (map ToServer messages) event still may;
      its = refl;
      at = at;
      stands = client_node_with program c clock i (map ToServer messages) event es (after_saying made messages (record old { client = kept })) (course_of (settings_of program) c es) (with_up (map (up_post clock) messages) before)
          core.client core.runs core.records core.holds
          (all_up_stand (course_of (settings_of program) c es) clock messages before old.link stands.link)
          (own_course c es clock i event (settings_of program) (map ToServer messages) (still c))
          (own_sends c es clock i event messages none (still c)) refl stands.triggers;
    }

  -- the clock of an entry that hears nothing
  pub own_clock : clock_after old.clock 0 ≡ suc (max (last_clock (node.Client c) es) 0)
  own_clock = ap (λ n. suc (max n 0)) stands.clock

  pub acted_follows : (index : ℕ) (event : Option Event) → (slot : Slot) → slot_at (node.Client c) (input.Act index) ≡ Some slot
      → Core (client_entry c old.clock (record { heard = 0; input = input.Act index; event = event }) messages)
      → Follows program c slot (client_entry c old.clock (record { heard = 0; input = input.Act index; event = event }) messages)
      (after_saying (record { heard = 0; input = input.Act index; event = event }) messages (record old { client = kept })) es
  acted_follows index event slot at core = said_follows (input.Act index) event slot
      (act_follows (settings_of program) (next_request program.code) c its es (clock_after old.clock 0) index (map ToServer messages) event own_clock core.client.run)
      (λ d. refl) refl at core

  pub flushed_follows : (o : ℕ) (slot : Slot) → slot_at (node.Client c) (input.Flush o) ≡ Some slot
      → Core (client_entry c old.clock (record { heard = 0; input = input.Flush o; event = None }) messages)
      → Follows program c slot (client_entry c old.clock (record { heard = 0; input = input.Flush o; event = None }) messages)
      (after_saying (record { heard = 0; input = input.Flush o; event = None }) messages (record old { client = kept })) es
  flushed_follows o slot at core = said_follows (input.Flush o) None slot
      (flush_follows (settings_of program) (next_request program.code) c its es (clock_after old.clock 0) o (map ToServer messages) None own_clock core.client.run)
      (λ d. refl) refl at core

  -- A message taken: the connection has given it up, and what is sent goes over it then.
  module _ (letter : Letter Down) (rest : List (Letter Down)) (first : down_in_flight c es ≡ letter ∷ rest) (line : Line Both)
      (link : LinkStands Joined (record before { down_taken = before.down_taken + 1 }) line) (joined : course_of (settings_of program) c es ≡ Joined) where
    abbrev taking : EntryDraft
    taking = record { heard = letter.clock; input = input.TookDown letter.message; event = None }

    abbrev pub took_clock : ℕ
    took_clock = clock_after old.clock letter.clock

    pub taken_follows : Core (client_entry c old.clock taking messages)
        → Follows program c (TakesDown c) (client_entry c old.clock taking messages) (after_saying taking messages (record old { client = kept; link = line })) es
    taken_follows core = record {
      lawful = lawful_with (settings_of program) (next_request program.code) es journal.lawful took_clock c (input.TookDown letter.message) (map ToServer messages) None (λ d. refl)
          (take_follows (settings_of program) (next_request program.code) c its es took_clock letter rest (map ToServer messages) None first (ap (λ n. suc (max n letter.clock)) stands.clock) core.client.run);
      its = refl;
      at = refl;
      stands = client_node_with program c took_clock (input.TookDown letter.message) (map ToServer messages) None es (after_saying taking messages (record old { client = kept; link = line })) Joined
          (with_up (map (up_post took_clock) messages) (record before { down_taken = before.down_taken + 1 }))
          core.client core.runs core.records core.holds
          (all_up_stand Joined took_clock messages (record before { down_taken = before.down_taken + 1 }) line link)
          (own_course c es took_clock (input.TookDown letter.message) None (settings_of program) (map ToServer messages) refl ∙ joined)
          (own_takes c es took_clock letter.message messages) refl stands.triggers;
    }

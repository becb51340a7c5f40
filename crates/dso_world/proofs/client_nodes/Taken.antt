-- A client takes the first frame in flight to it, and flushes an object.
use Rattle.std.specs.List.{list_any}
use Rattle.std.proofs.Common.{ℕ, suc, ◌+◌, ◌<◌, ◌≤◌, ◌^◌, ◌≡◌, ◌⊎◌, inl, inr, refl, sym, ◌∙◌, ap, subst, true, eqb, Option, Some, None, List, [], ◌∷◌, length, arith}
use Rattle.dso_base.specs.declared.journal.Entry.{Entry}
use Rattle.dso_base.specs.declared.journal.Input.TheVariants as input
use Rattle.dso_base.specs.declared.journal.Node.TheVariants as node
use Rattle.dso_base.specs.declared.message.Down.{Down}
use Rattle.dso_base.specs.declared.message.Up.{Up}
use Rattle.dso_base.specs.declared.message.Up.TheVariants as up
use Rattle.dso_class.specs.declared.program.Program.{Program}
use Rattle.dso_client.specs.declared.client_state.ClientState.{ClientState}
use Rattle.dso_client.specs.ClientStands.{ClientStands}
use Rattle.dso_client.specs.CodeRuns.{RunsCode}
use Rattle.dso_client.specs.Entries.{flush_entry, taken_entry}
use Rattle.dso_client.specs.ObjectFlushes.{Flushes}
use Rattle.dso_client.specs.TakenMessages.{Takes}
use Rattle.dso_law.specs.Channels.{Letter, down_in_flight, takes_up}
use Rattle.dso_law.specs.ClientRun.{next_in}
use Rattle.dso_law.specs.Entries.{entries_of}
use Rattle.dso_law.specs.Settings.{clients_of}
use Rattle.dso_legal.specs.Slots.{Flushes as FlushesAt, TakesDown}
use Rattle.dso_machine.specs.declared.code.Code.{Code}
use Rattle.dso_machine.specs.Next.{next_request}
use Rattle.dso_session.specs.declared.frame.Accepted.{Accepted}
use Rattle.dso_session.specs.declared.frame.Accepted.TheVariants as accepted
use Rattle.dso_base.specs.declared.both.Both.{Both}
use Rattle.dso_base.specs.declared.both.Both.TheVariants as both
use Rattle.dso_world.specs.declared.client_node.ClientNode.{ClientNode}
use Rattle.dso_world.specs.Link.{first_answer, taken_down}
use Rattle.dso_world.specs.LinkStands.{Half}
use Rattle.dso_world.specs.ClientSteps.{Follows, IsJournal, IsOpenAfter, Steps}
use Rattle.dso_world.specs.NodesStand.{ClientNodeStands}
use Rattle.dso_world.specs.PastOf.{past_of}
use Rattle.dso_world.specs.SentMessages.{after_saying, client_entry, clock_after}
use Rattle.dso_world.specs.WorldSteps.{settings_of}
use Rattle.dso_world.proofs.journals.Clocks.{Below, clocks_are_few}
use Rattle.dso_world.proofs.coming.Down.{MessageComes, RejoinComes, comes_down}
use Rattle.dso_world.proofs.follows.Clients.{client_rejoin_follows}
use Rattle.dso_world.proofs.follows.Lawful.{lawful_with_client_rejoin}
use Rattle.dso_client.proofs.standing.Bounds.{holds_more}
use Rattle.dso_client.proofs.standing.Rejoined.{stands_rejoined}
use Rattle.dso_world.proofs.client_nodes.Fits.{node_count_few}
use Rattle.dso_world.proofs.client_nodes.Kept.{holds_kept, records_kept}
use Rattle.dso_world.proofs.client_nodes.Said.{flushed_follows, own_clock, taken_follows}
use Rattle.dso_world.proofs.client_nodes.With.{client_node_with}
use Rattle.dso_world.proofs.pasts.OwnEntry.{own_half, own_rejoins}
use Rattle.dso_world.proofs.premises.WhatComes.{comes_down as fits_down}

-- the letter is the one that was given up
same_letter : (letter : Letter Down) (m : Down) (clock : ℕ) → Some (accepted.Up (both.Down letter.message) letter.clock) ≡ Some (accepted.Up (both.Down m) clock) → letter ≡ record { message = m; clock = clock }
same_letter letter m clock same =
    let one : letter.message ≡ m = cc same in
    let other : letter.clock ≡ clock = cc same in
    ap (λ message. record { message = message; clock = letter.clock }) one ∙ ap (λ clock. record { message = m; clock = clock }) other

-- neither a message nor a rejoin
abbrev pub IsOther : Option (Accepted Both) → Type 0
IsOther (Some (accepted.Up m clock)) = ⊥
IsOther (Some (accepted.Rejoined seen)) = ⊥
IsOther answer = Unit {0}

module _ (program : Program) (c : ℕ) (old : ClientNode) where
  -- what is answered the first frame
  abbrev pub answered : Option (Accepted Both)
  answered = first_answer old.link.down old.link.client

  module _ (es : List Entry) (journal : IsJournal program es) (stands : ClientNodeStands program c old es) (opened : IsOpenAfter program es (TakesDown c)) where
    abbrev MessageOf : Type 0
    MessageOf = MessageComes (settings_of program) (next_request program.code) es c old.link

    abbrev RejoinOf : Type 0
    RejoinOf = RejoinComes (settings_of program) (next_request program.code) es c old.link

    pub comes : MessageOf ⊎ RejoinOf
    comes = comes_down (settings_of program) (next_request program.code) es c old.link journal.lawful stands.link opened

    -- it is a message down, or a rejoin
    pub not_up : (m : Up) (clock : ℕ) → answered ≡ Some (accepted.Up (both.Up m) clock) → ⊥
    not_up m clock is = by comes
      where
        by : MessageOf ⊎ RejoinOf → ⊥
        by (inl come) = let other = sym is ∙ come.answer in absurd (cc other)
        by (inr come) = let other = sym is ∙ come.answer in absurd (cc other)

    pub not_other : (answer : Option (Accepted Both)) → answered ≡ answer → IsOther answer → ⊥
    not_other answer is other = by comes
      where
        by : MessageOf ⊎ RejoinOf → ⊥
        by (inl come) = subst IsOther (sym is ∙ come.answer) other
        by (inr come) = subst IsOther (sym is ∙ come.answer) other

    -- the clock heard is small
    pub heard_few : (m : Down) (clock : ℕ) → answered ≡ Some (accepted.Up (both.Down m) clock) → clock ≤ length es
    heard_few m clock is = by comes
      where
        by : MessageOf ⊎ RejoinOf → clock ≤ length es
        by (inr come) = let other = sym is ∙ come.answer in absurd (cc other)
        by (inl come) =
            let same : come.letter.clock ≡ clock = ap (λ (letter : Letter Down). letter.clock) (same_letter come.letter m clock (sym come.answer ∙ is)) in
            let below = (clocks_are_few (settings_of program) (next_request program.code) es journal.lawful.follow).down c in
            let first : come.letter.clock ≤ length es = (subst (Below (length es)) come.first below).0 in
            omega (arith, same, first)

    -- few messages were seen at the other end
    pub seen_few : (taken_down old.link).client.seen ≤ length es
    seen_few =
        let taken : (past_of both.Up both.Down c es).up_taken ≤ length es = node_count_few (takes_up c) node.Server es in
        by taken comes
      where
        by : (past_of both.Up both.Down c es).up_taken ≤ length es → MessageOf ⊎ RejoinOf → (taken_down old.link).client.seen ≤ length es
        by taken (inl come) = let a : (taken_down old.link).client.seen ≤ (past_of both.Up both.Down c es).up_taken = come.stands.up_seen in omega (arith, a, taken)
        by taken (inr come) = let a : (taken_down old.link).client.seen ≤ (past_of both.Up both.Down c es).up_taken = come.stands.up_seen in omega (arith, a, taken)

  -- A message is taken.
  pub taken_steps : (m : Down) (heard : ℕ) → answered ≡ Some (accepted.Up (both.Down m) heard) → (kept : ClientState) (messages : List Up)
      → Takes program.code m old.client kept messages → ((code : Code) → RunsCode code old.client → RunsCode code kept)
      → Steps program c (TakesDown c) (client_entry c old.clock (record { heard = heard; input = input.TookDown m; event = None }) messages) old
      (after_saying (record { heard = heard; input = input.TookDown m; event = None }) messages (record old { client = kept; link = taken_down old.link }))
  taken_steps m heard answer kept messages takes runs = λ es journal its stands opened. by es journal its stands opened (comes es journal stands opened)
    where
      by : (es : List Entry) (journal : IsJournal program es) (its : list_any (eqb c) (clients_of (settings_of program)) ≡ true) (stands : ClientNodeStands program c old es) (opened : IsOpenAfter program es (TakesDown c))
          → MessageComes (settings_of program) (next_request program.code) es c old.link ⊎ RejoinComes (settings_of program) (next_request program.code) es c old.link
          → Follows program c (TakesDown c) (client_entry c old.clock (record { heard = heard; input = input.TookDown m; event = None }) messages)
          (after_saying (record { heard = heard; input = input.TookDown m; event = None }) messages (record old { client = kept; link = taken_down old.link })) es
      by es journal its stands opened (inr come) = let other = sym answer ∙ come.answer in absurd (cc other)
      by es journal its stands opened (inl come) =
          let letter : come.letter ≡ record { message = m; clock = heard } = same_letter come.letter m heard (sym come.answer ∙ answer) in
          let first : down_in_flight c es ≡ record { message = m; clock = heard } ∷ come.rest = come.first ∙ ap (λ l. l ∷ come.rest) letter in
          let few : length es < 2 ^ 54 = (let h = journal.few in omega (arith, h)) in
          let fits = fits_down program.code journal.sound.code (settings_of program) refl es journal.lawful.follow few c (record { message = m; clock = heard }) come.rest first in
          let own = entries_of (node.Client c) es in
          let entry = taken_entry (clock_after old.clock heard) c m messages in
          let client : ClientStands program.code (settings_of program) c kept (entry ∷ own) = (takes (settings_of program) c (clock_after old.clock heard) own stands.client).taken fits in
          let same : kept.sequences.records ≡ old.client.sequences.records = records_kept program.code (settings_of program) c entry own old.client kept (next_in (next_request program.code) (entry ∷ own)) client.run.1.sends stands.client client in
          let few = stands.records in
          taken_follows program c es journal its old stands kept messages (record { message = m; clock = heard }) come.rest first (taken_down old.link) come.stands come.course (record {
            client = client;
            runs = runs program.code stands.runs;
            records = omega (arith, few, same);
            holds = holds_more (length es) (suc (length es)) kept (omega arith) (holds_kept program.code (settings_of program) c entry own old.client kept refl stands.client client (length es) stands.holds);
          })

  -- The connection is taken up again.
  pub rejoined_steps : (seen : ℕ) → answered ≡ Some (accepted.Rejoined seen)
      → Steps program c (TakesDown c) (client_entry c old.clock (record { heard = 0; input = input.Rejoin c; event = None }) []) old
      (after_saying (record { heard = 0; input = input.Rejoin c; event = None }) [] (record old { link = taken_down old.link }))
  rejoined_steps seen answer = λ es journal its stands opened. by es journal its stands opened (comes es journal stands opened)
    where
      by : (es : List Entry) (journal : IsJournal program es) (its : list_any (eqb c) (clients_of (settings_of program)) ≡ true) (stands : ClientNodeStands program c old es) (opened : IsOpenAfter program es (TakesDown c))
          → MessageComes (settings_of program) (next_request program.code) es c old.link ⊎ RejoinComes (settings_of program) (next_request program.code) es c old.link
          → Follows program c (TakesDown c) (client_entry c old.clock (record { heard = 0; input = input.Rejoin c; event = None }) [])
          (after_saying (record { heard = 0; input = input.Rejoin c; event = None }) [] (record old { link = taken_down old.link })) es
      by es journal its stands opened (inl come) = let other = sym answer ∙ come.answer in absurd (cc other)
      by es journal its stands opened (inr come) =
          let clock = clock_after old.clock 0 in
          let now = own_clock program c es journal its old stands old.client [] in
          let a = stands.records in
          record {
            lawful = lawful_with_client_rejoin (settings_of program) (next_request program.code) es journal.lawful (clock_after old.clock 0) c come.course
                (client_rejoin_follows (settings_of program) (next_request program.code) c its es (clock_after old.clock 0) now);
            its = refl;
            at = refl;
            stands = client_node_with program c (clock_after old.clock 0) (input.Rejoin c) [] None es (after_saying (record { heard = 0; input = input.Rejoin c; event = None }) [] (record old { link = taken_down old.link })) Half
                (record (past_of both.Up both.Down c es) { rejoins = (past_of both.Up both.Down c es).rejoins + 1 })
                (stands_rejoined program.code (settings_of program) c (clock_after old.clock 0) (entries_of (node.Client c) es) old.client stands.client)
                stands.runs (omega (arith, a)) (holds_more (length es) (suc (length es)) old.client (omega arith) stands.holds)
                come.stands (own_half c es (clock_after old.clock 0) (settings_of program) come.course come.once) (own_rejoins c es (clock_after old.clock 0)) refl stands.triggers;
          }

  -- ---- a flush

  pub flushed_steps : (o : ℕ) (kept : ClientState) → Flushes old.client kept o → ((code : Code) → RunsCode code old.client → RunsCode code kept)
      → Steps program c (FlushesAt c) (client_entry c old.clock (record { heard = 0; input = input.Flush o; event = None }) (up.Flushed o ∷ [])) old
      (after_saying (record { heard = 0; input = input.Flush o; event = None }) (up.Flushed o ∷ []) (record old { client = kept }))
  flushed_steps o kept flushes runs = λ es journal its stands opened.
      let own = entries_of (node.Client c) es in
      let entry = flush_entry (clock_after old.clock 0) c o in
      let client : ClientStands program.code (settings_of program) c kept (entry ∷ own) = flushes program.code (settings_of program) c (clock_after old.clock 0) own stands.client in
      let same : kept.sequences.records ≡ old.client.sequences.records = client.parts.sequences.records ∙ sym stands.client.parts.sequences.records in
      let few = stands.records in
      flushed_follows program c es journal its old stands kept (up.Flushed o ∷ []) o (FlushesAt c) refl (record {
        client = client;
        runs = runs program.code stands.runs;
        records = omega (arith, few, same);
        holds = holds_more (length es) (suc (length es)) kept (omega arith) (holds_kept program.code (settings_of program) c entry own old.client kept refl stands.client client (length es) stands.holds);
      })

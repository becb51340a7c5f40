-- The history as a thread has it: what was committed, its client's pending blocks, and its open block. What it may name is known
-- there, its client's next id is new, and it goes on.
use Rattle.std.specs.List.{list_any}
use Rattle.std.proofs.Common.{ℕ, ◌+◌, ◌*◌, ◌≤◌, ◌≡◌, ◌≢◌, ◌⊎◌, inl, inr, refl, sym, ◌∙◌, ap, subst, Bool, true, false, cond, eqb, ◌||◌, Option, Some, None, List, [], ◌∷◌, ◌++◌, length, arith}
use Rattle.std.proofs.lemmas.List.{append-nil, append_assoc, take-append-drop}
use Rattle.dso_base.specs.declared.journal.Entry.{Entry}
use Rattle.dso_base.specs.declared.journal.Node.TheVariants.{Server, Client}
use Rattle.dso_base.specs.declared.lock.ThreadId.{ThreadId}
use Rattle.dso_base.specs.declared.request.Event.{Event}
use Rattle.dso_base.specs.declared.request.Event.TheVariants.{Act, Lost}
use Rattle.dso_base.specs.declared.request.Request.{Request}
use Rattle.dso_base.specs.Following.{is_thread}
use Rattle.dso_plain.specs.History.{RunsButMarks, end_of, last_state, events_of}
use Rattle.dso_plain.specs.State.{PlainState, Object, opening}
use Rattle.dso_plain.specs.Touches.{MakesIn}
use Rattle.dso_plain.proofs.independence.RunsSwap.{runs_but_marks_in_parts, ends_in_parts}
use Rattle.dso_plain.proofs.keys.SameKeys.{number_self, same_number, same_thread, thread_self}
use Rattle.dso_lookup.proofs.Tests.{both}
use Rattle.dso_plain.proofs.histories.LegalGoesOn.{events_in_parts}
use Rattle.dso_law.specs.Entries.{entries_of, events_in}
use Rattle.dso_law.specs.Prefixes.{IsPrefix}
use Rattle.dso_law.specs.Records.{next_id}
use Rattle.dso_law.specs.ServerReadings.{Batch, is_in_batch, batches_given, is_lost, counted}
use Rattle.dso_law.specs.Settings.{Settings}
use Rattle.dso_law.specs.Threads.{open_block, ends_thread}
use Rattle.dso_legal.specs.Committed.{ended_blocks}
use Rattle.dso_legal.specs.AsMade.{as_made}
use Rattle.dso_legal.specs.CopiesStand.{state_at}
use Rattle.dso_legal.specs.Lawful.{AllFollow}
use Rattle.dso_legal.specs.MadeOnce.{is_made, objects_made, objects_of}
use Rattle.dso_legal.specs.Names.{NameOnlyTold, NamesAreKnown}
use Rattle.dso_legal.specs.PendingBlocks.{joined, pending, taken_in, handed_in}
use Rattle.dso_legal.specs.SoundProgram.{AsksSoundly}
use Rattle.dso_legal.proofs.blocks.EachEvent.{each_dropped}
use Rattle.dso_legal.proofs.blocks.ClientBlocks.{keeps_thread, own_events, no_events, joined_parts}
use Rattle.dso_legal.proofs.copies.FieldMoves.{apart}
use Rattle.dso_legal.proofs.ids.GivenOnce.{gives, InTurn, in_turn}
use Rattle.dso_legal.proofs.ids.GivenOnce as given_once
use Rattle.dso_legal.proofs.central.ThreadEnds.{connected, goes_on}
use Rattle.dso_legal.proofs.blocks.Histories.{first_in_history, thread_in_parts}
use Rattle.dso_legal.proofs.acts.WorkInHand.{no_losses_joined, no_losses_parts}
use Rattle.dso_legal.proofs.blocks.LocksOfEvents.{NoLossOf, NoLosses, no_loss_of}
use Rattle.dso_legal.proofs.ids.MadeOnce.{made_once}
use Rattle.dso_legal.proofs.leases.LeaseSteps.{if_true, no_both}
use Rattle.dso_legal.proofs.line.LineForeign.{makes_first}
use Rattle.dso_legal.proofs.objects.Makers.{makes_counts, within, listed_if, at_least, count_listed}
use Rattle.dso_legal.proofs.acts.Names.{names_stay_known}
use Rattle.dso_legal.proofs.objects.ObjectsMade.{objects_are_made}
use Rattle.dso_legal.proofs.blocks.OwnActs.{threads_follow, threads_wait, own_acts}
use Rattle.dso_legal.proofs.blocks.OwnThreads.{of_client, no_events_in}
use Rattle.dso_legal.proofs.acts.SoundNames.{sound_names}
use Rattle.dso_legal.proofs.fitting.Untold.{AllUntold}
use Rattle.dso_legal.proofs.blocks.SparedHistory.{history_spared, open_spared, ended_blocks_spared, no_loss_parts}

-- lists that are empty together
empty_first : {X : Type 0} (xs ys : List X) → xs ++ ys ≡ [] → xs ≡ []
empty_first [] ys e = refl
empty_first (x ∷ xs) ys e = absurd (cc e)

empty_second : {X : Type 0} (xs ys : List X) → xs ++ ys ≡ [] → ys ≡ []
empty_second [] ys e = e
empty_second (x ∷ xs) ys e = absurd (cc e)

-- the first events of a list that names only what was told do too
first_told : (before first second : List Event) → NameOnlyTold before (first ++ second) → NameOnlyTold before first
first_told before [] second told = tt
first_told before (event ∷ first) second told = (told.0, first_told (before ++ event ∷ []) first second told.1)

-- what is made in the events of the threads
makes_of : (events : List Event) (o : ℕ) → MakesIn events o → (u : ThreadId) × MakesIn (events_of u events) o
makes_of [] o makes = absurd makes
makes_of (Act u request reply woken ∷ events) o (inl makes) = (u, subst (λ es. MakesIn es o) (sym (if_true (is_thread u u) (Act u request reply woken ∷ events_of u events) (events_of u events) (thread_self u))) (inl makes))
makes_of (Act u request reply woken ∷ events) o (inr makes) = let later : (w : ThreadId) × MakesIn (events_of w events) o = makes_of events o makes in (later.0, by later.0 (is_thread later.0 u) later.1)
  where
    by : (w : ThreadId) (b : Bool) → MakesIn (events_of w events) o → MakesIn (cond b (Act u request reply woken ∷ events_of w events) (events_of w events)) o
    by w true makes = inr makes
    by w false makes = makes
makes_of (Lost client ∷ events) o (inl makes) = absurd makes
makes_of (Lost client ∷ events) o (inr makes) = makes_of events o makes

-- ids start at 1
given_positive : (c o : ℕ) (given : List Batch) → InTurn given → list_any (gives c o) given ≡ true → 1 ≤ o
given_positive c o [] turn is = absurd (cc is)
given_positive c o (b ∷ given) turn is = by (gives c o b) refl is (given_positive c o given turn.1)
  where
    positive : (n : ℕ) → 1 + 256 * n ≤ o → 1 ≤ o
    positive n le = omega (arith, le)

    by : (t : Bool) → gives c o b ≡ t → (t || list_any (gives c o) given) ≡ true → (list_any (gives c o) given ≡ true → 1 ≤ o) → 1 ≤ o
    by true here is later = positive (length given) (given_once.within o b.first (length given) turn.0 (both (eqb b.client c) (is_in_batch o b) here).1).0
    by false here is later = later is

module _ (p : Settings) (next : ThreadId → List Event → Option Request) (es : List Entry) (follow : AllFollow p next es) (t : ThreadId) (alive : is_lost t.client (entries_of Server es) ≡ false) where
  abbrev own : List Entry
  own = entries_of (Client t.client) es

  -- the events of the client's blocks in flight
  abbrev waiting : List Event
  waiting = joined (pending t.client es)

  -- the history as the thread has it
  abbrev pub thread_history : List Event
  thread_history = as_made es ++ (waiting ++ open_block t own)

  -- it has the events of each thread in three parts
  in_three : (u : ThreadId) → events_of u thread_history ≡ events_of u (as_made es) ++ (events_of u waiting ++ events_of u (open_block t own))
  in_three u = events_in_parts u (as_made es) (waiting ++ open_block t own) ∙ ap (λ events. events_of u (as_made es) ++ events) (events_in_parts u waiting (open_block t own))

  -- of another client's thread no event is in flight
  none_waiting : (u : ThreadId) → eqb t.client u.client ≡ false → events_of u waiting ≡ []
  none_waiting u other = empty_second (events_of u (joined (taken_in t.client es))) (events_of u waiting)
      (sym (events_in_parts u (joined (taken_in t.client es)) waiting) ∙ ap (events_of u) (sym (joined_parts (taken_in t.client es) (pending t.client es)) ∙ ap joined (take-append-drop (handed_in t.client es) (ended_blocks own)))
      ∙ empty_first (events_of u (joined (ended_blocks own))) (open_block u own) ((keeps_thread p.shape u own).events ∙ no_events_in t.client u own other (of_client p next t.client es follow).events))

  -- Of each thread it has a prefix of its events: of the thread itself all.
  all_own : events_of t thread_history ≡ events_in t own
  all_own = in_three t ∙ (ap (λ events. events_of t (as_made es) ++ (events_of t waiting ++ events)) (own_events t (open_block t own) (keeps_thread p.shape t own).acts)
      ∙ thread_in_parts p next t t.client refl es follow)

  others_open : (u : ThreadId) → is_thread u t ≡ false → events_of u (open_block t own) ≡ []
  others_open u other = no_events u t (open_block t own) other (keeps_thread p.shape t own).acts

  first_of_mate : (u : ThreadId) → is_thread u t ≡ false → t.client ≡ u.client → IsPrefix (events_of u thread_history) (events_in u (entries_of (Client u.client) es))
  first_of_mate u other mate = record {
    rest = open_block u (entries_of (Client u.client) es);
    whole = sym (thread_in_parts p next u u.client refl es follow)
        ∙ (sym (append_assoc (events_of u (as_made es)) (events_of u (joined (pending u.client es))) (open_block u (entries_of (Client u.client) es)))
        ∙ ap (λ events. events ++ open_block u (entries_of (Client u.client) es)) (sym parts));
  }
    where
      parts : events_of u thread_history ≡ events_of u (as_made es) ++ events_of u (joined (pending u.client es))
      parts = in_three u ∙ (ap (λ events. events_of u (as_made es) ++ (events_of u waiting ++ events)) (others_open u other)
          ∙ (ap (λ events. events_of u (as_made es) ++ events) (append-nil (events_of u waiting)) ∙ ap (λ c. events_of u (as_made es) ++ events_of u (joined (pending c es))) mate))

  -- Of another client's thread it has what the history has.
  of_stranger : (u : ThreadId) → eqb t.client u.client ≡ false → events_of u thread_history ≡ events_of u (as_made es)
  of_stranger u stranger = in_three u ∙ (ap (λ events. events_of u (as_made es) ++ (events_of u waiting ++ events)) (others_open u (apart (is_thread u t) refl))
      ∙ (ap (λ events. events_of u (as_made es) ++ (events ++ [])) (none_waiting u stranger) ∙ append-nil (events_of u (as_made es))))
    where
      apart : (b : Bool) → is_thread u t ≡ b → b ≡ false
      apart true same = no_both (eqb t.client u.client) (subst (λ (w : ThreadId). eqb t.client w.client ≡ true) (same_thread u t same) (number_self t.client)) stranger
      apart false same = refl

  first_of_stranger : (u : ThreadId) → eqb t.client u.client ≡ false → IsPrefix (events_of u thread_history) (events_in u (entries_of (Client u.client) es))
  first_of_stranger u stranger = subst (λ events. IsPrefix events (events_in u (entries_of (Client u.client) es))) (sym (of_stranger u stranger)) (first_in_history p next u es follow)

  first_part : (u : ThreadId) → IsPrefix (events_of u thread_history) (events_in u (entries_of (Client u.client) es))
  first_part u = by (is_thread u t) refl
    where
      by_client : is_thread u t ≡ false → (b : Bool) → eqb t.client u.client ≡ b → IsPrefix (events_of u thread_history) (events_in u (entries_of (Client u.client) es))
      by_client other true mate = first_of_mate u other (same_number t.client u.client mate)
      by_client other false stranger = first_of_stranger u stranger

      itself : (w : ThreadId) → w ≡ t → IsPrefix (events_of w thread_history) (events_in w (entries_of (Client w.client) es))
      itself w same = subst (λ x. IsPrefix (events_of x thread_history) (events_in x (entries_of (Client x.client) es))) (sym same) (record { rest = []; whole = sym all_own ∙ sym (append-nil (events_of t thread_history)) })

      by : (b : Bool) → is_thread u t ≡ b → IsPrefix (events_of u thread_history) (events_in u (entries_of (Client u.client) es))
      by true same = itself u (sym (same_thread u t same))
      by false other = by_client other (eqb t.client u.client) refl

  -- it doesn't lose the thread's client
  keeps_client : NoLossOf t.client thread_history
  keeps_client = no_loss_parts t.client (as_made es) (waiting ++ open_block t own) (history_spared t.client es alive)
      (no_loss_of t.client (waiting ++ open_block t own) (no_losses_parts waiting (open_block t own) (no_losses_joined (pending t.client es) (each_dropped NoLosses (handed_in t.client es) (ended_blocks own) (ended_blocks_spared own))) (open_spared t own)))

  -- The state behind the history as the thread has it.
  abbrev pub acting_state : PlainState
  acting_state = end_of p.shape (open_block t own) (state_at p t.client es)

  same_state : last_state p.shape thread_history ≡ acting_state
  same_state = ends_in_parts p.shape (as_made es) (waiting ++ open_block t own) (opening p.shape) ∙ ends_in_parts p.shape waiting (open_block t own) (last_state p.shape (as_made es))

  module _ (runs : RunsButMarks p.shape (as_made es) (opening p.shape)) (line : RunsButMarks p.shape waiting (last_state p.shape (as_made es))) (opened : RunsButMarks p.shape (open_block t own) (state_at p t.client es)) where
    -- it runs
    history_runs : RunsButMarks p.shape thread_history (opening p.shape)
    history_runs = (runs_but_marks_in_parts p.shape (as_made es) (waiting ++ open_block t own) (opening p.shape)).1 (runs, (runs_but_marks_in_parts p.shape waiting (open_block t own) (last_state p.shape (as_made es))).1 (line, opened))

    -- where nothing told a thread of object 0
    module _ (sound : AsksSoundly p.shape next) (untold : AllUntold es) where
      -- each thread names only what it was told
      all_told : (u : ThreadId) → NameOnlyTold [] (events_of u thread_history)
      all_told u = first_told [] (events_of u thread_history) (first_part u).rest (subst (NameOnlyTold []) (first_part u).whole
          (sound_names p.shape next sound u (events_in u (entries_of (Client u.client) es)) (own_acts u (entries_of (Client u.client) es)) (untold u) (threads_wait p next u es follow) (threads_follow p next u es follow)))

      -- What the thread may name is known.
      pub names_known : NamesAreKnown t (events_in t own) acting_state
      names_known = subst (NamesAreKnown t (events_in t own)) same_state (subst (λ events. NamesAreKnown t events (last_state p.shape thread_history)) all_own (names_stay_known p.shape thread_history history_runs all_told t))

    -- The next id is new.
    pub fresh : (o : ℕ) → next_id own ≡ Some o → (1 ≤ o) × (acting_state.objects o ≡ None)
    fresh o e = (positive, by (acting_state.objects o) refl)
      where
        positive : 1 ≤ o
        positive = given_positive t.client o (batches_given (counted (entries_of Server es))) (in_turn p next es follow) ((made_once p next es follow).next_given t.client o e)

        made : MakesIn thread_history o → ⊥
        made makes =
            let by_thread : (u : ThreadId) × MakesIn (events_of u thread_history) o = makes_of thread_history o makes in
            let u : ThreadId = by_thread.0 in
            let theirs : List Entry = entries_of (Client u.client) es in
            let in_events : MakesIn (events_in u theirs) o = subst (λ events. MakesIn events o) (sym (first_part u).whole) (makes_first (events_of u thread_history) (first_part u).rest o by_thread.1) in
            let is : is_made u.client o es ≡ true = listed_if o (objects_made theirs) (at_least (count_listed o (objects_of u theirs)) (count_listed o (objects_made theirs)) (makes_counts o u theirs in_events) (within o u theirs)) in
            apart is ((made_once p next es follow).next_is_new t.client u.client o e)

        not_first : 1 ≤ o → o ≡ 0 → ⊥
        not_first le zero = omega (arith, le, zero)

        not_there : (acting_state.objects o ≢ None) → ⊥
        not_there there = from (objects_are_made p.shape thread_history history_runs o (λ gone. there (sym (ap (λ (s : PlainState). s.objects o) same_state) ∙ gone)))
          where
            from : (o ≡ 0) ⊎ MakesIn thread_history o → ⊥
            from (inl first) = not_first positive first
            from (inr makes) = made makes

        by : (object : Option Object) → acting_state.objects o ≡ object → acting_state.objects o ≡ None
        by None is = is
        by (Some object) is = absurd (not_there (λ gone. some_none (sym is ∙ gone)))
          where
            some_none : Some object ≡ None → ⊥
            some_none clash = cc clash

    -- The thread goes on where none of its events ended it, and its client isn't lost.
    pub going : list_any ends_thread (events_in t own) ≡ false → acting_state.ended t ≡ None
    going open_still = ap (λ (s : PlainState). s.ended t) (sym same_state) ∙ goes_on p.shape thread_history t (ap (list_any ends_thread) all_own ∙ open_still)

    pub not_lost : acting_state.lost t.client ≡ false
    not_lost = ap (λ (s : PlainState). s.lost t.client) (sym same_state) ∙ connected p.shape thread_history t.client history_runs keeps_client

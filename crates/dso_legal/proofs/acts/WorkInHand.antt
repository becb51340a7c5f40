-- In the state as a client has it: what its thread has in hand tells what the open block made of it, and the thread's monitors
-- and waits are its locks.
use Rattle.std.specs.List.{AllByRecursion}
use Rattle.std.proofs.Common.{ℕ, suc, zero, ◌≡◌, refl, sym, ◌∙◌, ap, subst, false, List, [], ◌∷◌, ◌++◌, drop}
use Rattle.std.proofs.lemmas.List.{append_assoc, take-append-drop}
use Rattle.dso_base.specs.declared.journal.Entry.{Entry}
use Rattle.dso_base.specs.declared.journal.Node.TheVariants.{Server, Client}
use Rattle.dso_base.specs.declared.lock.ThreadId.{ThreadId}
use Rattle.dso_base.specs.declared.record.Txn.{Txn}
use Rattle.dso_base.specs.declared.request.Event.{Event}
use Rattle.dso_base.specs.declared.request.Event.TheVariants.{Act, Lost}
use Rattle.dso_base.specs.declared.shape.Shape.{Shape}
use Rattle.dso_base.specs.Block.{start, worked}
use Rattle.dso_plain.specs.State.{PlainState, opening}
use Rattle.dso_plain.specs.History.{RunsButMarks, end_of, last_state, events_of}
use Rattle.dso_plain.specs.StepInvariants.{PastInvariant}
use Rattle.dso_plain.specs.Past.{KeepsPast}
use Rattle.dso_plain.proofs.histories.LegalGoesOn.{events_in_parts}
use Rattle.dso_plain.proofs.invariants.PastsHold.{run_kept}
use Rattle.dso_plain.proofs.invariants.PastsHold.{kept_past}
use Rattle.dso_law.specs.Settings.{Settings}
use Rattle.dso_law.specs.Entries.{entries_of}
use Rattle.dso_law.specs.ServerReadings.{is_lost}
use Rattle.dso_law.specs.Threads.{Locks, locks_of, locks_after, open_block, privates_before, work_of}
use Rattle.dso_legal.specs.Blocks.{KeepsThread}
use Rattle.dso_legal.specs.Committed.{ended_blocks}
use Rattle.dso_legal.specs.AsMade.{as_made}
use Rattle.dso_legal.specs.CopiesStand.{state_at}
use Rattle.dso_legal.specs.PendingBlocks.{joined, handed_in, taken_in, pending, no_locks, locks_through, AreRecordsOf}
use Rattle.dso_legal.specs.Works.{ArePrivates, TellsWork, HaveLocks}
use Rattle.dso_legal.proofs.blocks.LocksOfEvents.{NoLosses, locks_of_acts, locks_of_own}
use Rattle.dso_legal.proofs.objects.PrivatesKept.{AreBlocks, privates_of_history, privates_of_events, privates_parts, privates_through_events, locks_of_history}
use Rattle.dso_legal.proofs.blocks.SparedHistory.{ended_blocks_spared, history_spared}
use Rattle.dso_legal.proofs.objects.WorksTell.{history_kept, works_tell_from}

-- blocks that have records are each of one thread
pub blocks_of_records : (shape : Shape) (before : List (List Event)) (txns : List Txn) (blocks : List (List Event)) → AreRecordsOf shape before txns blocks → AreBlocks blocks
blocks_of_records shape before [] [] h = tt
blocks_of_records shape before (txn ∷ txns) (block ∷ blocks) h = ((txn.thread, h.0.acts), blocks_of_records shape (before ++ block ∷ []) txns blocks h.1)
blocks_of_records shape before [] (block ∷ blocks) h = absurd h
blocks_of_records shape before (txn ∷ txns) [] h = absurd h

-- lists of blocks joined in two parts
pub joined_parts : {X : Type 0} (first second : List (List X)) → joined (first ++ second) ≡ joined first ++ joined second
joined_parts [] second = refl
joined_parts (xs ∷ first) second = ap (λ rest. xs ++ rest) (joined_parts first second) ∙ sym (append_assoc xs (joined first) (joined second))

-- locks through two parts
pub locks_parts : (t : ThreadId) (first second : List Event) (locks : Locks) → locks_through t (first ++ second) locks ≡ locks_through t second (locks_through t first locks)
locks_parts t [] second locks = refl
locks_parts t (event ∷ first) second locks = locks_parts t first second (locks_after t event locks)

-- what holds of each holds of each later one
each_later : {X : Type 0} (P : X → Type 0) (n : ℕ) (xs : List X) → AllByRecursion P xs → AllByRecursion P (drop n xs)
each_later P zero xs h = h
each_later P (suc n) [] h = tt
each_later P (suc n) (x ∷ xs) h = each_later P n xs h.1

-- two lists without a loss
pub no_losses_parts : (first second : List Event) → NoLosses first → NoLosses second → NoLosses (first ++ second)
no_losses_parts [] second h k = k
no_losses_parts (Act t request reply woken ∷ first) second h k = no_losses_parts first second h k
no_losses_parts (Lost client ∷ first) second h k = absurd h

-- and many
pub no_losses_joined : (blocks : List (List Event)) → AllByRecursion NoLosses blocks → NoLosses (joined blocks)
no_losses_joined [] h = tt
no_losses_joined (block ∷ blocks) h = no_losses_parts block (joined blocks) h.0 (no_losses_joined blocks h.1)

-- The history, the client's pending blocks and the thread's open block run one after the other; the history has the thread's
-- events of the blocks that were taken in; and the thread's readings are those of its blocks, each of one thread.
pub record RunsOn (p : Settings) (t : ThreadId) (es : List Entry) : Type 0 where
  pub history : RunsButMarks p.shape (as_made es) (opening p.shape)
  pub pending : RunsButMarks p.shape (joined (pending t.client es)) (last_state p.shape (as_made es))
  pub opened : RunsButMarks p.shape (open_block t (entries_of (Client t.client) es)) (state_at p t.client es)
  pub taken : events_of t (as_made es) ≡ events_of t (joined (taken_in t.client es))
  pub keeps : KeepsThread p.shape t (entries_of (Client t.client) es)
  pub blocks : AreBlocks (ended_blocks (entries_of (Client t.client) es))
  pub connected : is_lost t.client (entries_of Server es) ≡ false

-- What the thread has in hand at its open block's start and at its end.
pub record InHandStands (p : Settings) (t : ThreadId) (es : List Entry) : Type 0 where
  pub past : KeepsPast (end_of p.shape (open_block t (entries_of (Client t.client) es)) (state_at p t.client es))
  pub privates : ArePrivates t (privates_before p.shape t (entries_of (Client t.client) es)) (state_at p t.client es)
  pub work : TellsWork t (work_of p.shape t (entries_of (Client t.client) es)) (state_at p t.client es) (end_of p.shape (open_block t (entries_of (Client t.client) es)) (state_at p t.client es))
  pub start_locks : HaveLocks t (locks_through t (events_of t (joined (ended_blocks (entries_of (Client t.client) es)))) no_locks) (state_at p t.client es)
  pub locks : HaveLocks t (locks_of t (entries_of (Client t.client) es)) (end_of p.shape (open_block t (entries_of (Client t.client) es)) (state_at p t.client es))

module _ (p : Settings) (t : ThreadId) (es : List Entry) (runs : RunsOn p t es) where
  -- the client's entries, its blocks that wait, and the thread's open block
  abbrev own : List Entry
  own = entries_of (Client t.client) es

  -- the events of its blocks in flight
  abbrev waits : List Event
  waits = joined (pending t.client es)

  -- the state as the client has it
  abbrev here : PlainState
  here = state_at p t.client es

  -- the thread's events before its open block
  events_before : events_of t (as_made es) ++ events_of t waits ≡ events_of t (joined (ended_blocks own))
  events_before = ap (λ events. events ++ events_of t waits) runs.taken
      ∙ sym (events_in_parts t (joined (taken_in t.client es)) waits)
      ∙ ap (events_of t) (sym (joined_parts (taken_in t.client es) (pending t.client es)) ∙ ap joined (take-append-drop (handed_in t.client es) (ended_blocks own)))

  -- pasts are kept before it
  kept_here : PastInvariant here
  kept_here = run_kept p.shape waits (last_state p.shape (as_made es)) runs.pending (history_kept p.shape (as_made es) runs.history)

  -- the private objects before it
  privates_here : ArePrivates t (privates_before p.shape t own) here
  privates_here = subst (λ privates. ArePrivates t privates here)
      (sym (privates_parts p.shape (events_of t (as_made es)) (events_of t waits) [])
      ∙ ap (λ events. (worked p.shape events (start [])).privates) events_before
      ∙ sym (privates_through_events p.shape t (ended_blocks own) [] runs.blocks)
      ∙ sym runs.keeps.privates)
      (privates_of_events p.shape t (worked p.shape (events_of t (as_made es)) (start [])).privates waits (last_state p.shape (as_made es)) (history_kept p.shape (as_made es) runs.history) (privates_of_history p.shape t (as_made es) runs.history) runs.pending)

  -- the locks before it
  locks_here : HaveLocks t (locks_through t (events_of t (joined (ended_blocks own))) no_locks) here
  locks_here = subst (λ locks. HaveLocks t locks here)
      (sym (locks_parts t (events_of t (as_made es)) (events_of t waits) no_locks) ∙ ap (λ events. locks_through t events no_locks) events_before)
      (locks_of_acts p.shape t (locks_through t (events_of t (as_made es)) no_locks) waits (last_state p.shape (as_made es))
      (no_losses_joined (pending t.client es) (each_later NoLosses (handed_in t.client es) (ended_blocks own) (ended_blocks_spared own))) runs.pending
      (locks_of_history p.shape t (as_made es) (history_spared t.client es runs.connected) runs.history))

  -- and behind it
  locks_there : HaveLocks t (locks_of t own) (end_of p.shape (open_block t own) here)
  locks_there = subst (λ locks. HaveLocks t locks (end_of p.shape (open_block t own) here))
      (sym (locks_parts t (events_of t (joined (ended_blocks own))) (open_block t own) no_locks) ∙ ap (λ events. locks_through t events no_locks) runs.keeps.events ∙ sym runs.keeps.locks)
      (locks_of_own p.shape t (locks_through t (events_of t (joined (ended_blocks own))) no_locks) (open_block t own) here runs.keeps.acts runs.opened locks_here)

  -- What the thread has in hand stands.
  pub in_hand_stands : InHandStands p t es
  in_hand_stands = record {
    past = kept_past (end_of p.shape (open_block t own) here) (run_kept p.shape (open_block t own) here runs.opened kept_here);
    privates = privates_here;
    work = works_tell_from p.shape t (privates_before p.shape t own) (open_block t own) here kept_here privates_here runs.keeps.acts runs.opened;
    start_locks = locks_here;
    locks = locks_there;
  }

-- An entry of a client's own: what stands of the client stands again, where the entry's event is possible.
use Rattle.std.proofs.Common.{ℕ, ◌≤◌, ◌≡◌, ◌⊎◌, inl, inr, refl, sym, ◌∙◌, ap, subst, Bool, true, false, List, [], ◌∷◌, ◌++◌, length}
use Rattle.std.specs.Prelude.{Option, Some, None}
use Rattle.dso_base.specs.declared.journal.Entry.{Entry}
use Rattle.dso_base.specs.declared.journal.Node.TheVariants.{Server, Client}
use Rattle.dso_base.specs.declared.lock.ThreadId.{ThreadId}
use Rattle.dso_base.specs.declared.record.Ending.{Ending}
use Rattle.dso_base.specs.declared.request.Event.{Event}
use Rattle.dso_base.specs.declared.request.Event.TheVariants.{Act, Lost}
use Rattle.dso_base.specs.declared.request.Request.{Request}
use Rattle.dso_base.specs.Following.{is_thread}
use Rattle.dso_plain.specs.State.{PlainState}
use Rattle.dso_plain.specs.Possible.{MayButMarks}
use Rattle.dso_plain.specs.History.{RunsButMarks, end_of}
use Rattle.dso_plain.specs.Touches.{MakesIn, AreActsOf}
use Rattle.dso_plain.proofs.independence.RunsSwap.{runs_but_marks_in_parts}
use Rattle.dso_plain.proofs.keys.SameKeys.{same_thread, thread_self}
use Rattle.dso_law.specs.Settings.{Settings}
use Rattle.dso_law.specs.Entries.{entries_of, by_event, events_in}
use Rattle.dso_law.specs.ServerReadings.{is_lost}
use Rattle.dso_law.specs.Threads.{ending_of, locks_of, open_block}
use Rattle.dso_legal.specs.Committed.{block_if, ended_by, ended_blocks}
use Rattle.dso_legal.specs.CopiesStand.{state_at}
use Rattle.dso_legal.specs.Lawful.{next_after, ClientFollows, NodeFollows, AllFollow}
use Rattle.dso_legal.specs.PendingBlocks.{joined, handed_in, no_locks, locks_through}
use Rattle.dso_legal.specs.Works.{HaveLocks}
use Rattle.dso_legal.proofs.acts.ClientActs.{IsQuiet, HasEvent, client_acted}
use Rattle.dso_legal.proofs.blocks.ClientBlocks.{joined_more, block_acts, keeps_thread}
use Rattle.dso_legal.proofs.records.ClientRecords.{quiet_ends_none, goes_on}
use Rattle.dso_legal.proofs.records.HandedIn.{few_taken}
use Rattle.dso_legal.proofs.line.LineOwn.{thread_is_its, event_it, block_it, own_quiet, own_goes_on, own_ends}
use Rattle.dso_legal.proofs.line.LineSent.{HoldsLeased}
use Rattle.dso_legal.proofs.blocks.LocksOfEvents.{own_no_losses, locks_of_acts}
use Rattle.dso_legal.proofs.ids.MadeOnce.{made_once}
use Rattle.dso_legal.proofs.objects.MakesApart.{open_makes, act_makes, threads_apart}
use Rattle.dso_legal.proofs.blocks.OpenBlocksHold.{OpensFrom, through_append, through_own, locks_before, holds_leased}
use Rattle.dso_legal.proofs.blocks.OpenBlocksPass.{opens_mate, open_at_none, open_at_other, open_grows, open_ends}
use Rattle.dso_legal.proofs.blocks.OwnActs.{IsNextAct, next_act}
use Rattle.dso_legal.proofs.line.StandsOn.{LinesStand, AllStand, ActsCan, opens_from}
use Rattle.dso_legal.proofs.channels.AfterEntry.{own_turn}
use Rattle.dso_legal.proofs.line.LineElsewhere.{LineStands}

-- the thread of an event; a loss has none
abbrev thread_of : Event → ThreadId
thread_of (Act thread request reply woken) = thread
thread_of (Lost client) = record { client = client; index = 0 }

-- what stands of a client runs from this state after an entry of its own
abbrev OpensAfter : Settings → ℕ → Entry → List Entry → PlainState → Type 0
OpensAfter p c e es r = (t : ThreadId) → t.client ≡ c → OpensFrom p.shape t (e ∷ entries_of (Client c) es) r

module _ (p : Settings) (next : ThreadId → List Event → Option Request) (e : Entry) (es : List Entry) (follow : AllFollow p next (e ∷ es)) (stand : AllStand p es)
    (c : ℕ) (is : e.node ≡ Client c) (alive : is_lost c (entries_of Server es) ≡ false) where
  abbrev own : List Entry
  own = entries_of (Client c) es

  -- where the client stands
  abbrev s : PlainState
  s = state_at p c es

  rule : ClientFollows p next c e es
  rule = subst (λ node. NodeFollows p next node e es) is follow.1.rule

  few : handed_in c es ≤ length (ended_blocks own)
  few = few_taken p next c es follow.0

  own_now : entries_of (Client c) (e ∷ es) ≡ e ∷ own
  own_now = (own_turn c e es is).own

  -- the open blocks before the entry
  opens : (t : ThreadId) → t.client ≡ c → OpensFrom p.shape t own s
  opens t its = opens_from p next es follow.0 stand c alive t its

  -- an open block after an entry that ends no block
  opens_same : ended_blocks (e ∷ own) ≡ ended_blocks own → (t : ThreadId) → t.client ≡ c → RunsButMarks p.shape (open_block t (e ∷ own)) s → OpensFrom p.shape t (e ∷ own) s
  opens_same ended t its runs = record {
    keeps = keeps_thread p.shape t (e ∷ own);
    have = subst (λ blocks. HaveLocks t (locks_through t (joined blocks) no_locks) s) (sym ended) (opens t its).have;
    runs = runs;
  }

  -- and after one that ends this block
  opens_more : (u : ThreadId) (block : List Event) → AreActsOf u block → RunsButMarks p.shape block s → ended_blocks (e ∷ own) ≡ ended_blocks own ++ block ∷ []
      → (t : ThreadId) → t.client ≡ c → RunsButMarks p.shape (open_block t (e ∷ own)) (end_of p.shape block s) → OpensFrom p.shape t (e ∷ own) (end_of p.shape block s)
  opens_more u block acts block_runs ended t its runs = record {
    keeps = keeps_thread p.shape t (e ∷ own);
    have = subst (λ locks. HaveLocks t locks (end_of p.shape block s))
        (through_own t block (locks_before t own) ∙ sym (through_append t (joined (ended_blocks own)) block no_locks)
        ∙ ap (λ events. locks_through t events no_locks) (sym (joined_more (ended_blocks own) block)) ∙ ap (λ blocks. locks_through t (joined blocks) no_locks) (sym ended))
        (locks_of_acts p.shape t (locks_before t own) block s (own_no_losses u block acts) block_runs (opens t its).have);
    runs = runs;
  }

  -- what is held is within the leases after the entry, where the open blocks run
  held_from : (r : PlainState) → OpensAfter p c e es r → HoldsLeased c (e ∷ own) r
  held_from r after = subst (λ mine. HoldsLeased c mine r) own_now
      (holds_leased p next (e ∷ es) follow c r (λ t its. subst (λ mine. OpensFrom p.shape t mine r) (sym own_now) (after t its)))

  -- the client stands, by its line and its open blocks
  stands_from : (r : PlainState) → OpensAfter p c e es r → LineStands p c (e ∷ es) → state_at p c (e ∷ es) ≡ r → LinesStand p c (e ∷ es)
  stands_from r after line state = record {
    line = line;
    opens = λ t its. subst (λ mine. RunsButMarks p.shape (open_block t mine) (state_at p c (e ∷ es))) (sym own_now)
        (subst (λ r. RunsButMarks p.shape (open_block t (e ∷ own)) r) (sym state) (after t its).runs);
  }

  -- after a quiet entry
  after_quiet : IsQuiet e → OpensAfter p c e es s
  after_quiet quiet t its = opens_same (quiet_ends_none p e own quiet).blocks t its
      (subst (λ block. RunsButMarks p.shape block s) (sym (open_at_none t e own quiet.event)) (opens t its).runs)

  stands_quiet : IsQuiet e → LinesStand p c (e ∷ es)
  stands_quiet quiet =
      let sends = own_quiet p next e es follow c is alive few (stand.lines c alive).line quiet (held_from s (after_quiet quiet)) in
      stands_from s (after_quiet quiet) sends.line sends.state

  module _ (it : HasEvent p e own) where
    -- the event, and its block with it
    abbrev event : Event
    event = event_it p e own it

    abbrev block : List Event
    block = block_it p e own it

    its_client : it.thread.client ≡ c
    its_client = thread_is_its p c (next_after next es) (next_after next (e ∷ es)) e own rule.step it

    -- the event is possible
    may_it : ActsCan p next e es → MayButMarks p.shape event (end_of p.shape (open_block it.thread own) s)
    may_it can = by (next_act p c (next_after next es) (next_after next (e ∷ es)) e own rule.step)
      where
        same_event : (first second : Event) → Some first ≡ Some second → first ≡ second
        same_event first second same = cc same

        by : (e.event ≡ None) ⊎ IsNextAct p c (next_after next es) e own → MayButMarks p.shape event (end_of p.shape (open_block it.thread own) s)
        by (inl none) = absurd (cc (sym none ∙ it.event))
        by (inr act) = subst (λ event. MayButMarks p.shape event (end_of p.shape (open_block (thread_of event) own) s)) (same_event _ event (sym act.event ∙ it.event)) (can c is alive act)

    module _ (may : MayButMarks p.shape event (end_of p.shape (open_block it.thread own) s)) where
      -- the block runs with the event behind it
      block_runs : RunsButMarks p.shape block s
      block_runs = (runs_but_marks_in_parts p.shape (open_block it.thread own) (event ∷ []) s).1 ((opens it.thread its_client).runs, (may, tt))

      -- an open block after an event that is no ending
      grown_runs : ending_of event (locks_of it.thread own) ≡ None → (t : ThreadId) → t.client ≡ c → (b : Bool) → is_thread t it.thread ≡ b → RunsButMarks p.shape (open_block t (e ∷ own)) s
      grown_runs none t its true same = subst (λ u. RunsButMarks p.shape (open_block u (e ∷ own)) s) (same_thread t it.thread same)
          (subst (λ block. RunsButMarks p.shape block s) (sym (open_grows it.thread e own event it.event (thread_self it.thread) none)) block_runs)
      grown_runs none t its false other = subst (λ block. RunsButMarks p.shape block s) (sym (open_at_other t e own event it.event other)) (opens t its).runs

      after_act : ending_of event (locks_of it.thread own) ≡ None → OpensAfter p c e es s
      after_act none t its = opens_same (goes_on p e own it none).blocks t its (grown_runs none t its (is_thread t it.thread) refl)

      stands_act : ending_of event (locks_of it.thread own) ≡ None → LinesStand p c (e ∷ es)
      stands_act none =
          let sends = own_goes_on p next e es follow c is alive few (stand.lines c alive).line it none (held_from s (after_act none)) in
          stands_from s (after_act none) sends.line sends.state

      module _ (ending : Ending) (ends : ending_of event (locks_of it.thread own) ≡ Some ending) where
        acts : AreActsOf it.thread block
        acts = block_acts it.thread it.request it.reply _ own

        -- the block stands behind the others
        blocks_more : ended_blocks (e ∷ own) ≡ ended_blocks own ++ block ∷ []
        blocks_more = ap (λ event. by_event (λ event blocks. blocks ++ ended_by event own) event (ended_blocks own)) it.event ∙ ap (λ ending. ended_blocks own ++ block_if ending block) ends

        -- another thread's open block runs behind the one that ends
        mate_runs : (t : ThreadId) → t.client ≡ c → is_thread t it.thread ≡ false → RunsButMarks p.shape (open_block t own) (end_of p.shape block s)
        mate_runs t its other = opens_mate p next es follow.0 c t it.thread s ending event other (opens t its) (opens it.thread its_client) refl ends acts block_runs
            (λ id made too.
            let unlike = threads_apart (e ∷ es) (made_once p next (e ∷ es) follow) c c t it.thread its its_client other in
            unlike id
            (subst (λ mine. MakesIn (events_in t mine) id) (sym own_now) (open_makes p.shape t (e ∷ own) id (subst (λ block. MakesIn block id) (sym (open_at_other t e own event it.event other)) too)))
            (subst (λ mine. MakesIn (events_in it.thread mine) id) (sym own_now) (act_makes p.shape it.thread e own event it.event (thread_self it.thread) id made)))

        -- an open block after an ending
        ended_runs : (t : ThreadId) → t.client ≡ c → (b : Bool) → is_thread t it.thread ≡ b → RunsButMarks p.shape (open_block t (e ∷ own)) (end_of p.shape block s)
        ended_runs t its true same = subst (λ u. RunsButMarks p.shape (open_block u (e ∷ own)) (end_of p.shape block s)) (same_thread t it.thread same)
            (subst (λ rest. RunsButMarks p.shape rest (end_of p.shape block s)) (sym (open_ends it.thread e own event ending it.event (thread_self it.thread) ends)) tt)
        ended_runs t its false other = subst (λ rest. RunsButMarks p.shape rest (end_of p.shape block s)) (sym (open_at_other t e own event it.event other)) (mate_runs t its other)

        after_ending : OpensAfter p c e es (end_of p.shape block s)
        after_ending t its = opens_more it.thread block acts block_runs blocks_more t its (ended_runs t its (is_thread t it.thread) refl)

        stands_ending : LinesStand p c (e ∷ es)
        stands_ending =
            let sends = own_ends p next e es follow c is alive few (stand.lines c alive).line it ending ends its_client (opens it.thread its_client) block_runs (held_from (end_of p.shape block s) after_ending) in
            stands_from (end_of p.shape block s) after_ending sends.line sends.state

      -- by whether it is an ending
      stands_event : (ending : Option Ending) → ending_of event (locks_of it.thread own) ≡ ending → LinesStand p c (e ∷ es)
      stands_event None none = stands_act none
      stands_event (Some ending) ends = stands_ending ending ends

  -- The client stands again.
  pub stands_own : ActsCan p next e es → LinesStand p c (e ∷ es)
  stands_own can = by (client_acted p c (next_after next es) (next_after next (e ∷ es)) e own rule.step)
    where
      by : IsQuiet e ⊎ HasEvent p e own → LinesStand p c (e ∷ es)
      by (inl quiet) = stands_quiet quiet
      by (inr it) = stands_event it (may_it it can) (ending_of (event_it p e own it) (locks_of it.thread own)) refl

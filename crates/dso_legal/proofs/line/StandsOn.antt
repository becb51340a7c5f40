-- What stands after a journal's entries: the history runs; for each client that isn't lost its line and its threads' open blocks; and
-- the threads of lost clients hold nothing. From it: each thread's open block with the locks with which it starts, and what the
-- thread sees where it acts.
use Rattle.std.proofs.Common.{ℕ, ◌≡◌, ◌≢◌, refl, sym, ◌∙◌, ap, subst, Bool, true, false, List, []}
use Rattle.std.specs.Prelude.{Option, Some, None}
use Rattle.dso_base.specs.declared.journal.Entry.{Entry}
use Rattle.dso_base.specs.declared.journal.Node.TheVariants.{Server, Client}
use Rattle.dso_base.specs.declared.lock.Level.{Level}
use Rattle.dso_base.specs.declared.lock.LockName.{LockName}
use Rattle.dso_base.specs.declared.lock.ThreadId.{ThreadId}
use Rattle.dso_base.specs.declared.request.Event.{Event}
use Rattle.dso_base.specs.declared.request.Event.TheVariants.{Act}
use Rattle.dso_base.specs.declared.request.Request.{Request}
use Rattle.dso_plain.specs.State.{Hold, PlainState, opening, level_of}
use Rattle.dso_plain.specs.Possible.{MayButMarks}
use Rattle.dso_plain.specs.History.{RunsButMarks, end_of, last_state}
use Rattle.dso_plain.specs.Past.{KeepsPast}
use Rattle.dso_plain.specs.Touches.{TouchesIn}
use Rattle.dso_law.specs.Settings.{Settings}
use Rattle.dso_law.specs.Entries.{entries_of}
use Rattle.dso_law.specs.Channels.{up_in_flight}
use Rattle.dso_law.specs.Leases.{standing}
use Rattle.dso_law.specs.RequestNeeds.{is_enough}
use Rattle.dso_law.specs.Replies.{woken_by}
use Rattle.dso_law.specs.ServerReadings.{is_lost, counted}
use Rattle.dso_law.specs.Granting.{standing_with}
use Rattle.dso_law.specs.Threads.{hold_in, locks_of, open_block, work_of}
use Rattle.dso_legal.specs.Agreement.{messages}
use Rattle.dso_legal.specs.Committed.{ended_blocks}
use Rattle.dso_legal.specs.AsMade.{as_made}
use Rattle.dso_legal.specs.CopiesStand.{state_at}
use Rattle.dso_legal.specs.Lawful.{next_after, AllFollow}
use Rattle.dso_legal.specs.Line.{HoldsWithin, Line}
use Rattle.dso_legal.specs.PendingBlocks.{joined, pending, no_locks, records_sent}
use Rattle.dso_legal.specs.Views.{SeesHolds}
use Rattle.dso_legal.specs.Works.{HaveLocks, TellsWork}
use Rattle.dso_legal.proofs.blocks.ClientBlocks.{keeps_thread}
use Rattle.dso_legal.proofs.records.ClientRecords.{records_are}
use Rattle.dso_legal.proofs.blocks.Histories.{holds_blocks}
use Rattle.dso_legal.proofs.leases.HoldsSeen.{sees_holds}
use Rattle.dso_legal.proofs.acts.WorkInHand.{RunsOn, blocks_of_records, in_hand_stands}
use Rattle.dso_legal.proofs.line.LineParts.{line_runs, line_starts}
use Rattle.dso_legal.proofs.blocks.OpenBlocksHold.{OpensFrom, through_own, have_now, hold_leased, open_touches}
use Rattle.dso_legal.proofs.blocks.OwnActs.{IsNextAct}
use Rattle.dso_legal.proofs.copies.SeesCopies.{ActsFrom}

-- a client's line stands, and each of its threads' open blocks runs from where the line ends
pub record LinesStand (p : Settings) (c : ℕ) (es : List Entry) : Type 0 where
  pub line : Line p.shape c (messages (up_in_flight c es)) (pending c es) (λ l. standing_with c l (counted (entries_of Server es))) (last_state p.shape (as_made es))
  pub opens : (t : ThreadId) → t.client ≡ c → RunsButMarks p.shape (open_block t (entries_of (Client c) es)) (state_at p c es)

-- the history runs, the lines of all clients that aren't lost stand, and the threads of lost ones hold nothing
pub record AllStand (p : Settings) (es : List Entry) : Type 0 where
  pub runs : RunsButMarks p.shape (as_made es) (opening p.shape)
  pub lines : (c : ℕ) → is_lost c (entries_of Server es) ≡ false → LinesStand p c es
  pub gone : (t : ThreadId) (l : LockName) → is_lost t.client (entries_of Server es) ≡ true → (last_state p.shape (as_made es)).monitors (l, t) ≡ None

-- the entry's event, where it is the next act of a client that isn't lost, is possible at the end of its thread's open block
abbrev pub ActsCan : Settings → (ThreadId → List Event → Option Request) → Entry → List Entry → Type 0
ActsCan p next e es = (c : ℕ) → e.node ≡ Client c → is_lost c (entries_of Server es) ≡ false → (it : IsNextAct p c (next_after next es) e (entries_of (Client c) es))
    → MayButMarks p.shape (Act it.thread it.request it.reply (woken_by it.request it.reply (entries_of (Client c) es))) (end_of p.shape (open_block it.thread (entries_of (Client c) es)) (state_at p c es))

-- All stands before the first entry.
pub all_stand_start : (p : Settings) → AllStand p []
all_stand_start p = record { runs = tt; lines = λ c alive. record { line = λ t l x its held. absurd (cc held); opens = λ t its. tt }; gone = λ t l lost. refl }

module _ (p : Settings) (next : ThreadId → List Event → Option Request) (es : List Entry) (follow : AllFollow p next es) (stand : AllStand p es) where
  -- the thread's blocks run on
  pub runs_on : (t : ThreadId) → is_lost t.client (entries_of Server es) ≡ false → RunsOn p t es
  runs_on t alive = record {
    history = stand.runs;
    pending = line_runs p.shape t.client (messages (up_in_flight t.client es)) (pending t.client es) (λ l. standing_with t.client l (counted (entries_of Server es))) (last_state p.shape (as_made es)) (stand.lines t.client alive).line;
    opened = (stand.lines t.client alive).opens t refl;
    taken = holds_blocks p next t es follow;
    keeps = keeps_thread p.shape t (entries_of (Client t.client) es);
    blocks = blocks_of_records p.shape [] (records_sent (entries_of (Client t.client) es)) (ended_blocks (entries_of (Client t.client) es)) (records_are p next t.client es follow);
    connected = alive;
  }

  -- the thread's open block from the state at its client
  opens_at : (t : ThreadId) → is_lost t.client (entries_of Server es) ≡ false → OpensFrom p.shape t (entries_of (Client t.client) es) (state_at p t.client es)
  opens_at t alive = record {
    keeps = keeps_thread p.shape t (entries_of (Client t.client) es);
    have = subst (λ locks. HaveLocks t locks (state_at p t.client es)) (through_own t (joined (ended_blocks (entries_of (Client t.client) es))) no_locks) (in_hand_stands p t es (runs_on t alive)).start_locks;
    runs = (stand.lines t.client alive).opens t refl;
  }

  -- Each thread's open block runs from the state at its client, with the locks with which it starts.
  pub opens_from : (c : ℕ) → is_lost c (entries_of Server es) ≡ false → (t : ThreadId) → t.client ≡ c → OpensFrom p.shape t (entries_of (Client c) es) (state_at p c es)
  opens_from c alive t its = subst (λ n. is_lost n (entries_of Server es) ≡ false → OpensFrom p.shape t (entries_of (Client n) es) (state_at p n es)) its (opens_at t) alive

  -- what the threads of a client hold is within its leases at the server; those of a lost one hold nothing
  within_leases : (d : ℕ) → HoldsWithin d (λ l. standing_with d l (counted (entries_of Server es))) (last_state p.shape (as_made es))
  within_leases d = by (is_lost d (entries_of Server es)) refl
    where
      by : (b : Bool) → is_lost d (entries_of Server es) ≡ b → HoldsWithin d (λ l. standing_with d l (counted (entries_of Server es))) (last_state p.shape (as_made es))
      by true lost = λ t l x its held. absurd (cc (sym (ap level_of (stand.gone t l (subst (λ n. is_lost n (entries_of Server es) ≡ true) (sym its) lost))) ∙ held))
      by false alive = line_starts p.shape d (messages (up_in_flight d es)) (pending d es) (λ l. standing_with d l (counted (entries_of Server es))) (last_state p.shape (as_made es)) (stand.lines d alive).line

  module _ (c : ℕ) (alive : is_lost c (entries_of Server es) ≡ false) (t : ThreadId) (its : t.client ≡ c) where
    -- where the thread acts
    abbrev acts_at : PlainState
    acts_at = end_of p.shape (open_block t (entries_of (Client c) es)) (state_at p c es)

    -- the thread sees the holds there
    pub holds_seen : SeesHolds t (entries_of (Client c) es) acts_at
    holds_seen = sees_holds p next es follow c alive t its (opens_from c alive) (stand.lines c alive).line within_leases

    -- its locks there
    locks_there : HaveLocks t (locks_of t (entries_of (Client c) es)) acts_at
    locks_there = have_now p next es follow c t (state_at p c es) (opens_from c alive t its)

    -- a hold that isn't enough for any level isn't there
    never_none : (x : Level) (hold : Option Hold) → is_enough x (level_of hold) ≡ true → hold ≢ None
    never_none x None enough none = cc enough
    never_none x (Some hold) enough none = cc none

    -- what its open block touches it holds there
    pub touched_there : (l : LockName) (x : Level) → TouchesIn p.shape (open_block t (entries_of (Client c) es)) (state_at p c es) l x → acts_at.monitors (l, t) ≢ None
    touched_there l x touched none =
        never_none x (hold_in l (locks_of t (entries_of (Client c) es)).holds) (open_touches p next es follow c t (state_at p c es) (opens_from c alive t its) l x touched) (sym (locks_there.holds l) ∙ none)

    -- a hold is within a lease
    leased_by : (l : LockName) (hold : Option Hold) → hold_in l (locks_of t (entries_of (Client c) es)).holds ≡ hold → hold ≢ None → (standing l (entries_of (Client c) es)).lease ≢ None
    leased_by l None held some none = some refl
    leased_by l (Some hold) held some none = cc (sym (hold_leased p next es follow c t l hold.level (ap level_of held)) ∙ ap (is_enough hold.level) none)

    -- and what it holds there its client has a lease of
    pub leased_there : (l : LockName) → acts_at.monitors (l, t) ≢ None → (standing l (entries_of (Client c) es)).lease ≢ None
    leased_there l some = leased_by l (hold_in l (locks_of t (entries_of (Client c) es)).holds) refl (λ none. some (locks_there.holds l ∙ none))

    -- the thread's client isn't lost
    alive_too : is_lost t.client (entries_of Server es) ≡ false
    alive_too = subst (λ n. is_lost n (entries_of Server es) ≡ false) (sym its) alive

    -- what it has in hand tells what its open block made
    works_there : TellsWork t (work_of p.shape t (entries_of (Client c) es)) (state_at p c es) acts_at
    works_there = subst (λ n. TellsWork t (work_of p.shape t (entries_of (Client n) es)) (state_at p n es) (end_of p.shape (open_block t (entries_of (Client n) es)) (state_at p n es))) its
        (in_hand_stands p t es (runs_on t alive_too)).work

    -- pasts are kept there
    past_there : KeepsPast acts_at
    past_there = subst (λ n. KeepsPast (end_of p.shape (open_block t (entries_of (Client n) es)) (state_at p n es))) its (in_hand_stands p t es (runs_on t alive_too)).past

    -- What the thread did since its block's start.
    pub acts_from : ActsFrom p t (open_block t (entries_of (Client c) es)) (state_at p c es) acts_at (entries_of (Client c) es)
    acts_from = record {
      acts = (opens_from c alive t its).keeps.acts;
      runs = (opens_from c alive t its).runs;
      ends = refl;
      past = past_there;
      tells = works_there;
      touched = touched_there;
      leased = leased_there;
    }

-- The central law: every lawful journal commits a legal history.
use Rattle.std.specs.List.{list_any}
use Rattle.std.specs.Prelude.{ℕ, ◌≡◌, true, false, Option, List}
use Rattle.dso_base.specs.declared.journal.Entry.{Entry}
use Rattle.dso_base.specs.declared.journal.Node.TheVariants.{Server, Client}
use Rattle.dso_base.specs.declared.lock.ThreadId.{ThreadId}
use Rattle.dso_base.specs.declared.request.Event.{Event}
use Rattle.dso_base.specs.declared.request.Request.{Request}
use Rattle.dso_base.specs.Following.{is_thread, Listed}
use Rattle.dso_plain.specs.History.{RunsButMarks, last_state, events_of, IsLegal}
use Rattle.dso_plain.specs.State.{opening}
use Rattle.dso_law.specs.Settings.{Settings}
use Rattle.dso_law.specs.Entries.{entries_of, events_in}
use Rattle.dso_law.specs.Channels.{up_in_flight, down_in_flight}
use Rattle.dso_law.specs.Prefixes.{IsPrefix}
use Rattle.dso_law.specs.Threads.{open_block}
use Rattle.dso_law.specs.ServerReadings.{is_lost, counted}
use Rattle.dso_law.specs.Granting.{standing_with}
use Rattle.dso_legal.specs.Agreement.{messages}
use Rattle.dso_legal.specs.Lawful.{IsLawful}
use Rattle.dso_legal.specs.AsMade.{as_made}
use Rattle.dso_legal.specs.Blocks.{HasFirstEndings}
use Rattle.dso_legal.specs.Committed.{committed}
use Rattle.dso_legal.specs.Resolved.{AreResolved, IsPrefixResolved}
use Rattle.dso_legal.specs.Slots.{is_finished}
use Rattle.dso_legal.specs.WithoutWaits.{WithoutWaits}
use Rattle.dso_legal.specs.SoundProgram.{AsksSoundly}
use Rattle.dso_legal.specs.PendingBlocks.{pending}
use Rattle.dso_legal.specs.Line.{Line}
use Rattle.dso_legal.specs.CopiesStand.{state_at, CopiesStand}

-- What a client did and the server didn't take in yet can still be done, whatever is marked: its messages in flight
-- from the history as made on, and each thread's open block, by itself, from where they end; and its copies stand.
pub record ClientCanGoOn (p : Settings) (c : ℕ) (es : List Entry) : Type 0 where
  pub line : Line p.shape c (messages (up_in_flight c es)) (pending c es)
      (λ l. standing_with c l (counted (entries_of Server es))) (last_state p.shape (as_made es))
  pub opens : (t : ThreadId) → t.client ≡ c
      → RunsButMarks p.shape (open_block t (entries_of (Client c) es)) (state_at p c es)
  pub copies : CopiesStand p.shape c (state_at p c es) (messages (down_in_flight c es)) (entries_of (Client c) es)

-- The history as made runs, whatever is marked, and each client that isn't lost stands.
pub record ClusterStands (p : Settings) (es : List Entry) : Type 0 where
  pub made : RunsButMarks p.shape (as_made es) (opening p.shape)
  pub client : (c : ℕ) → is_lost c (entries_of Server es) ≡ false → ClientCanGoOn p c es

-- What is committed of a journal: a legal history in which each thread follows the program; of each client, a lost one
-- too, the blocks of its first endings, in order and nothing else; of each thread a prefix of its events, each once and
-- in order, resolved by the server; and, where the journal is finished, all events of each thread whose client isn't
-- lost.
pub record CommitsLegally (p : Settings) (next : ThreadId → List Event → Option Request)
    (es : List Entry) : Type 0 where
  pub legal : IsLegal next (Listed next) p.shape (committed es)
  pub endings : (c : ℕ) → HasFirstEndings c es
  pub parts : (t : ThreadId)
      → IsPrefixResolved (events_in t (entries_of (Client t.client) es)) (events_of t (committed es))
  pub whole : is_finished p es ≡ true → (t : ThreadId) → list_any (is_thread t) p.threads ≡ true
      → is_lost t.client (entries_of Server es) ≡ false
      → AreResolved (events_in t (entries_of (Client t.client) es)) (events_of t (committed es))

-- What more is so where nothing is left to the server to choose: of each thread the history has a prefix of its events
-- just as it made them, and all of them where the journal is finished.
pub record CommitsAsMade (p : Settings) (es : List Entry) : Type 0 where
  pub parts : (t : ThreadId) → IsPrefix (events_of t (committed es)) (events_in t (entries_of (Client t.client) es))
  pub whole : is_finished p es ≡ true → (t : ThreadId) → list_any (is_thread t) p.threads ≡ true
      → is_lost t.client (entries_of Server es) ≡ false
      → events_of t (committed es) ≡ events_in t (entries_of (Client t.client) es)

-- The central law: where the program is sound, a lawful journal commits so, whatever clients it loses.
abbrev pub CentralLaw : Type 0
CentralLaw = (p : Settings) (next : ThreadId → List Event → Option Request) → AsksSoundly p.shape next
    → (es : List Entry) → IsLawful p next es → CommitsLegally p next es

-- And without waits its history has each thread's events just as the thread made them.
abbrev pub CommitsWhatWasMade : Type 0
CommitsWhatWasMade = (p : Settings) (next : ThreadId → List Event → Option Request) → AsksSoundly p.shape next
    → (es : List Entry) → IsLawful p next es → WithoutWaits es → CommitsAsMade p es

-- All clients that aren't lost stand after a lawful journal of a sound program.
abbrev pub ClientsStand : Type 0
ClientsStand = (p : Settings) (next : ThreadId → List Event → Option Request) → AsksSoundly p.shape next
    → (es : List Entry)
    → IsLawful p next es → ClusterStands p es

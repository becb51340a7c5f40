-- Where a client that isn't lost asks for a lock, a thread of it asks for the lock next; and so it is where the
-- server has a request of the client in its queue.
use Rattle.std.specs.List.{list_any}
use Rattle.std.proofs.Common.{ℕ, suc, arith, ◌≡◌, ◌≢◌, refl, sym, ap, ◌∙◌, Bool, true, false, cond, eqb, ◌||◌, Option}
use Rattle.std.proofs.Common.{List, [], ◌∷◌}
use Rattle.dso_base.specs.declared.journal.Entry.{Entry}
use Rattle.dso_base.specs.declared.journal.Input.TheVariants as input
use Rattle.dso_base.specs.declared.journal.Node.{Node}
use Rattle.dso_base.specs.declared.journal.Node.TheVariants.{Server, Client}
use Rattle.dso_base.specs.declared.lock.LockName.{LockName}
use Rattle.dso_base.specs.declared.lock.ThreadId.{ThreadId}
use Rattle.dso_base.specs.declared.message.Down.{Down}
use Rattle.dso_base.specs.declared.message.Up.{Up}
use Rattle.dso_base.specs.declared.request.Event.{Event}
use Rattle.dso_base.specs.declared.request.Request.{Request}
use Rattle.dso_plain.proofs.keys.SameKeys.{same_number, number_self}
use Rattle.dso_lookup.proofs.Tests.{right_holds}
use Rattle.dso_law.specs.declared.readings.LockStanding.{LockStanding}
use Rattle.dso_law.specs.Settings.{Settings, clients_of, threads_of}
use Rattle.dso_law.specs.Entries.{entries_of, events_in}
use Rattle.dso_law.specs.Channels.{up_in_flight, down_in_flight}
use Rattle.dso_law.specs.Leases.{standing_up, standing_down, standing, is_asked_for}
use Rattle.dso_law.specs.ServerReadings.{is_lost, counted}
use Rattle.dso_law.specs.Granting.{Waiter, standing_with, queue_of}
use Rattle.dso_law.specs.ClientRun.{next_in}
use Rattle.dso_legal.specs.Agreement.{messages, after}
use Rattle.dso_legal.specs.Lawful.{next_after, NodeFollows, AllFollow}
use Rattle.dso_legal.specs.SoundProgram.{AsksSoundly}
use Rattle.dso_legal.proofs.fitting.LostClients.{lost_are_gone}
use Rattle.dso_legal.proofs.leases.Holding.{in_part}
use Rattle.dso_legal.proofs.leases.Queues.{queued, asks}
use Rattle.dso_legal.proofs.leases.Tokens.{known, locks_agree}
use Rattle.dso_legal.proofs.records.BothEnds.{client_with}
use Rattle.dso_legal.proofs.runs.ClientsRun.{runs}
use Rattle.dso_gc_law.proofs.leases.LocksNamed.{seeks, OneOf}
use Rattle.dso_gc_law.proofs.leases.Asking.{asks_lock, asked_said, asked_taken}
use Rattle.dso_gc_law.proofs.leases.AskedInRuns.{Wanter, wants_seeks, asked_in_run}
use Rattle.dso_gc_law.proofs.leases.ShownLocks.{LocksStand, locks_stand}

-- a thread of the client asks next to enter the lock, or to go on at it
abbrev pub IsWanted : Settings → (ThreadId → List Event → Option Request) → ℕ → LockName → List Entry → Type 0
IsWanted p next c l es = OneOf (threads_of p c) (λ t. seeks l (next_after next es t))

-- Asked is wanted: after entries each of which follows those before it, of a program that asks soundly, where a
-- client that isn't lost asks for a lock, the next request of one of its threads is to enter the lock or to go on at
-- it.
abbrev pub AskedIsWanted : Type 0
AskedIsWanted = (p : Settings) (next : ThreadId → List Event → Option Request) → AsksSoundly p.shape next
    → (es : List Entry) → AllFollow p next es → (c : ℕ) → is_lost c (entries_of Server es) ≡ false
    → (l : LockName) → is_asked_for l (entries_of (Client c) es) ≡ true → IsWanted p next c l es

pub asked_is_wanted : AskedIsWanted
asked_is_wanted p next sound es follow c alive l is =
    let its : List Entry = entries_of (Client c) es in
    let stand : LocksStand p c next its = locks_stand p next sound c es follow alive in
    let one : Wanter p c l (next_in next its) its = asked_in_run p c next l its (runs p next c es follow) stand.local
    stand.unleased is in record {
      thread = one.thread;
      listed = in_part one.thread (λ t. eqb t.client c) p.threads
          (ap (λ n. eqb n c) one.its.client ∙ number_self c) one.its.listed;
      passes = ap (λ n. seeks l (next one.thread (events_in one.thread (entries_of (Client n) es)))) one.its.client
          ∙ wants_seeks p l one.thread (next_in next its one.thread) its one.wants;
    }

-- ---- clients of the cluster

-- A client that has entries in a journal is one of the cluster's.
module _ (p : Settings) (next : ThreadId → List Event → Option Request) (d : ℕ) where
  -- by the node of the latest entry
  its_at : (node : Node) (e : Entry) (es : List Entry) → NodeFollows p next node e es → client_with d node e es ≢ []
      → (entries_of (Client d) es ≢ [] → list_any (eqb d) (clients_of p) ≡ true)
      → list_any (eqb d) (clients_of p) ≡ true
  its_at Server e es follows some before = before some
  its_at (Client c) e es follows some before = by (eqb d c) refl some
    where
      by : (b : Bool) → eqb d c ≡ b → cond b (e ∷ entries_of (Client d) es) (entries_of (Client d) es) ≢ []
          → list_any (eqb d) (clients_of p) ≡ true
      by true same some = ap (λ n. list_any (eqb n) (clients_of p)) (same_number d c same) ∙ follows.its
      by false other some = before some

  -- over the whole journal
  pub is_its_client : (es : List Entry) → AllFollow p next es → entries_of (Client d) es ≢ []
      → list_any (eqb d) (clients_of p) ≡ true
  is_its_client [] follow some = absurd (some refl)
  is_its_client (e ∷ es) follow some = its_at e.node e es follow.1.rule some (is_its_client es follow.0)

-- ---- what is asked for at both ends

module _ (l : LockName) where
  -- a lock that is asked for is so behind all messages to the server
  asked_ups : (ms : List Up) (s : LockStanding) → s.is_asked ≡ true → (after (standing_up l) ms s).is_asked ≡ true
  asked_ups [] s is = is
  asked_ups (m ∷ ms) s is = asked_ups ms (standing_up l m s) (asked_said l m s
      ∙ right_holds (asks_lock l m) s.is_asked is)

  -- one that is so behind all to the client is so before them
  asked_downs : (ms : List Down) (s : LockStanding) → (after (standing_down l) ms s).is_asked ≡ true
      → s.is_asked ≡ true
  asked_downs [] s is = is
  asked_downs (m ∷ ms) s is = asked_taken l (input.TookDown m) s (asked_downs ms (standing_down l m s) is)

-- ---- the queue of the server

-- whether the queue has a request of the client
abbrev pub is_queued : ℕ → List Waiter → Bool
is_queued d queue = list_any (λ waiter. eqb d waiter.client) queue

-- then it is counted there
some_queued : (d : ℕ) (queue : List Waiter) → is_queued d queue ≡ true → queued d queue ≢ 0
some_queued d [] is = absurd (cc is)
some_queued d (waiter ∷ queue) is = by (eqb d waiter.client) is (some_queued d queue)
  where
    not_zero : (n : ℕ) → suc n ≢ 0
    not_zero n = λ zero. omega (arith, zero)

    by : (b : Bool) → (b || is_queued d queue) ≡ true → (is_queued d queue ≡ true → queued d queue ≢ 0)
        → cond b (suc (queued d queue)) (queued d queue) ≢ 0
    by true is later = not_zero (queued d queue)
    by false is later = later is

-- the server says that a client whose request it has asks for the lock
asked_at_server : (d : ℕ) (queue : List Waiter) (s : LockStanding) → is_queued d queue ≡ true
    → queued d queue ≡ asks s → s.is_asked ≡ true
asked_at_server d queue s is count = by s.is_asked refl
  where
    by : (b : Bool) → s.is_asked ≡ b → b ≡ true
    by true asked = refl
    by false unasked = absurd (some_queued d queue is (count ∙ ap (λ b. cond b 1 0) unasked))

-- The client is one of the cluster's, isn't lost, and wants the lock.
pub record IsWantedBy (p : Settings) (next : ThreadId → List Event → Option Request) (d : ℕ) (l : LockName)
    (es : List Entry) : Type 0 where
  pub its : list_any (eqb d) (clients_of p) ≡ true
  pub alive : is_lost d (entries_of Server es) ≡ false
  pub wanted : IsWanted p next d l es

-- Queued is wanted: so of a client whose request the server has in its queue of the lock.
abbrev pub QueuedIsWanted : Type 0
QueuedIsWanted = (p : Settings) (next : ThreadId → List Event → Option Request) → AsksSoundly p.shape next
    → (es : List Entry) → AllFollow p next es → (d : ℕ) (l : LockName)
    → is_queued d (queue_of l (counted (entries_of Server es))) ≡ true → IsWantedBy p next d l es

pub queued_is_wanted : QueuedIsWanted
queued_is_wanted p next sound es follow d l is = record {
  its = is_its_client p next d es follow (λ none. cc (sym at_client ∙ ap (is_asked_for l) none));
  alive = alive;
  wanted = asked_is_wanted p next sound es follow d alive l at_client;
}
  where
    server : LockStanding
    server = standing_with d l (counted (entries_of Server es))

    asked : server.is_asked ≡ true
    asked = asked_at_server d (queue_of l (counted (entries_of Server es))) server is
        ((known p next es follow).queues d l).count

    alive_by : (b : Bool) → is_lost d (entries_of Server es) ≡ b → b ≡ false
    alive_by true lost = absurd
        (cc (sym asked ∙ ap (λ (s : LockStanding). s.is_asked) ((lost_are_gone p next d es follow lost).standing l)))
    alive_by false stays = refl

    alive : is_lost d (entries_of Server es) ≡ false
    alive = alive_by (is_lost d (entries_of Server es)) refl

    at_client : is_asked_for l (entries_of (Client d) es) ≡ true
    at_client = asked_downs l (messages (down_in_flight d es)) (standing l (entries_of (Client d) es))
        (sym (ap (λ (s : LockStanding). s.is_asked) (locks_agree p next d l es follow alive).meet)
        ∙ asked_ups l (messages (up_in_flight d es)) server asked)

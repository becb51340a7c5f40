-- What the server grants and recalls is of locks whose queue has a request; so where it loses a client and names an
-- object, a thread of a client that isn't lost names the object next.
use Rattle.std.specs.List.{list_any}
use Rattle.std.specs.Option.{option_map_or}
use Rattle.std.proofs.Common.{ℕ, ◌≡◌, ◌≢◌, refl, sym, ap, subst, ◌∙◌, Bool, true, false, cond, not, eqb, ◌&&◌, ◌||◌}
use Rattle.std.proofs.Common.{Option, List, [], ◌∷◌, map, filter}
use Rattle.std.specs.Prelude.{flat_map}
use Rattle.std.proofs.lemmas.List.Folds.{list_any-append}
use Rattle.dso_base.specs.declared.journal.Entry.{Entry}
use Rattle.dso_base.specs.declared.journal.Input.TheVariants as input
use Rattle.dso_base.specs.declared.journal.Node.TheVariants.{Server}
use Rattle.dso_base.specs.declared.journal.Sent.{Sent}
use Rattle.dso_base.specs.declared.journal.Sent.TheVariants.{ToClient}
use Rattle.dso_base.specs.declared.lock.LockName.{LockName}
use Rattle.dso_base.specs.declared.lock.LockName.TheVariants.{Mon}
use Rattle.dso_base.specs.declared.lock.ThreadId.{ThreadId}
use Rattle.dso_base.specs.declared.message.Down.TheVariants as down
use Rattle.dso_base.specs.declared.request.Event.{Event}
use Rattle.dso_base.specs.declared.request.Request.{Request}
use Rattle.dso_base.specs.Naming.{lock_names, request_names}
use Rattle.dso_plain.proofs.keys.SameKeys.{same_lock, number_self}
use Rattle.dso_law.specs.Settings.{Settings, threads_of, clients_of}
use Rattle.dso_law.specs.Entries.{entries_of, unsent}
use Rattle.dso_law.specs.ServerReadings.{loses, is_lost, counted}
use Rattle.dso_law.specs.Granting.{Waiter, LeaseTable, without_client, queue_by, queue_of, with_grant, leases_so_far}
use Rattle.dso_law.specs.Granting.{is_against, recalls, serve_queue, serves, requested, serves_all}
use Rattle.dso_law.specs.ServerStep.{LoseStep, ServerStepOn}
use Rattle.dso_legal.specs.Lawful.{next_after, AllFollow}
use Rattle.dso_legal.specs.SoundProgram.{AsksSoundly}
use Rattle.dso_legal.proofs.channels.AfterEntry.{server_turn}
use Rattle.dso_legal.proofs.fitting.NamesInHand.{either_so}
use Rattle.dso_lookup.proofs.Tests.{right_holds}
use Rattle.dso_legal.proofs.leases.LeasesInFlight.{server_rule}
use Rattle.dso_gc_law.specs.Garbage.{sent_names}
use Rattle.dso_gc_law.proofs.leases.LocksNamed.{lock_names_is, seeks_asks, asker_of_monitor, OneOf}
use Rattle.dso_gc_law.proofs.leases.Wanted.{is_queued, IsWantedBy, queued_is_wanted}

-- what some messages name
abbrev pub all_name : List Sent → ℕ → Bool
all_name out o = list_any (λ m. sent_names m o) out

module _ (p : Settings) (l : LockName) (o : ℕ) where
  -- recalls name the object whose monitor they recall
  recalls_name : (clients : List ℕ) → all_name (map (λ c. ToClient c (down.Recall l)) clients) o ≡ true
      → lock_names l o ≡ true
  recalls_name [] is = absurd (cc is)
  recalls_name (c ∷ clients) is = either_so (lock_names l o)
      (all_name (map (λ c. ToClient c (down.Recall l)) clients) o)
      (λ this. this) (recalls_name clients) is

  -- what is sent for a queue names it alone
  queue_names : (queue : List Waiter) (s : LeaseTable) → all_name (serve_queue p l queue s) o ≡ true
      → lock_names l o ≡ true
  queue_names [] s is = absurd (cc is)
  queue_names (waiter ∷ queue) s is = by (list_any (is_against waiter s) (clients_of p)) is
      (queue_names queue (with_grant waiter s))
    where
      by : (b : Bool)
          → all_name
          (cond b (recalls p l waiter s)
          (ToClient waiter.client (down.Grant l waiter.level) ∷ serve_queue p l queue (with_grant waiter s)))
          o ≡ true
          → (all_name (serve_queue p l queue (with_grant waiter s)) o ≡ true → lock_names l o ≡ true)
          → lock_names l o ≡ true
      by true is later = recalls_name (filter (λ d. is_against waiter s d && not (s.recalled d)) (clients_of p)) is
      by false is later = either_so (lock_names l o) (all_name (serve_queue p l queue (with_grant waiter s)) o)
          (λ this. this) later is

  -- and there is a request in the queue
  queue_there : (queue : List Waiter) (s : LeaseTable) → all_name (serve_queue p l queue s) o ≡ true → queue ≢ []
  queue_there [] s is = absurd (cc is)
  queue_there (waiter ∷ queue) s is = λ none. cc none

-- Served is queued: what serving a lock sends names an object only where the lock is its monitor, and its queue has a
-- request.
pub record ServesFor (l : LockName) (o : ℕ) (es : List Entry) : Type 0 where
  pub monitor : l ≡ Mon o
  pub queue : queue_of l es ≢ []

pub served_is_queued : (p : Settings) (l : LockName) (o : ℕ) (es : List Entry) → all_name (serves p l es) o ≡ true
    → ServesFor l o es
served_is_queued p l o es is = record {
  monitor = same_lock (Mon o) l (sym (lock_names_is l o) ∙ queue_names p l o (queue_of l es) (leases_so_far l es) is);
  queue = queue_there p l o (queue_of l es) (leases_so_far l es) is;
}

-- so of all locks that a loss serves
pub all_served_are_queued : (p : Settings) (o : ℕ) (es : List Entry) → all_name (serves_all p es) o ≡ true
    → queue_of (Mon o) es ≢ []
all_served_are_queued p o es = among (requested es)
  where
    one : (l : LockName) → all_name (serves p l es) o ≡ true → queue_of (Mon o) es ≢ []
    one l is = let it = served_is_queued p l o es is in subst (λ k. queue_of k es ≢ []) it.monitor it.queue

    among : (locks : List LockName) → all_name (flat_map (λ l. serves p l es) locks) o ≡ true
        → queue_of (Mon o) es ≢ []
    among [] is = absurd (cc is)
    among (l ∷ locks) is = either_so (all_name (serves p l es) o) (all_name (flat_map (λ l. serves p l es) locks) o)
        (one l) (among locks)
        (sym (list_any-append (λ m. sent_names m o) (serves p l es) (flat_map (λ l. serves p l es) locks)) ∙ is)

-- ---- a loss

-- another client's request that a loss leaves in a queue
record Left (c : ℕ) (queue : List Waiter) : Type 0 where
  client : ℕ
  other : eqb client c ≡ false
  there : is_queued client queue ≡ true

-- there is one where some request is left
left_by : (c : ℕ) (queue : List Waiter) → without_client c queue ≢ [] → Left c queue
left_by c [] some = absurd (some refl)
left_by c (waiter ∷ queue) some = by (eqb waiter.client c) refl some (left_by c queue)
  where
    by : (b : Bool) → eqb waiter.client c ≡ b → cond (not b) (waiter ∷ without_client c queue)
        (without_client c queue) ≢ [] → (without_client c queue ≢ [] → Left c queue) → Left c (waiter ∷ queue)
    by true same some later =
        let rest : Left c queue = later some in
        record {
          client = rest.client;
          other = rest.other;
          there = right_holds (eqb rest.client waiter.client)
              (is_queued rest.client queue) rest.there;
        }
    by false other some later = record {
      client = waiter.client;
      other = other;
      there = ap
          (λ b. b || is_queued waiter.client queue) (number_self waiter.client);
    }

-- A client of the cluster that isn't lost after the entry, and a thread of it whose next request names the object.
pub record WanterOf (p : Settings) (next : ThreadId → List Event → Option Request) (o : ℕ) (e : Entry)
    (es : List Entry) : Type 0 where
  pub client : ℕ
  pub its : list_any (eqb client) (clients_of p) ≡ true
  pub before : is_lost client (entries_of Server es) ≡ false
  pub alive : is_lost client (entries_of Server (e ∷ es)) ≡ false
  pub one : OneOf (threads_of p client) (λ t. option_map_or (λ r. request_names r o) (next_after next es t) false)

-- A loss names what is wanted: of entries each of which follows those before it, of a program that asks soundly,
-- where the server loses a client and a message that it sends names an object, a thread of a client that isn't lost
-- then has a next request that names it.
abbrev pub LoseNamesWanted : Type 0
LoseNamesWanted = (p : Settings) (next : ThreadId → List Event → Option Request) → AsksSoundly p.shape next
    → (e : Entry) (es : List Entry) → AllFollow p next (e ∷ es) → e.node ≡ Server → (c : ℕ) → e.input ≡ input.Lose c
    → (o : ℕ) → list_any (λ m. sent_names m o) e.sent ≡ true → WanterOf p next o e es

pub lose_names_wanted : LoseNamesWanted
lose_names_wanted p next sound e es follow node c lost o is = record {
  client = left.client;
  its = wanted.its;
  before = wanted.alive;
  alive = ap (is_lost left.client) (server_turn left.client e es node).server
      ∙ ap (λ i. loses left.client i || is_lost left.client (entries_of Server es)) lost
      ∙ ap (λ b. b || is_lost left.client (entries_of Server es)) left.other ∙ wanted.alive;
  one = record {
    thread = wanted.wanted.thread;
    listed = wanted.wanted.listed;
    passes = asker_of_monitor o (next_after next es wanted.wanted.thread)
        (seeks_asks (Mon o) (next_after next es wanted.wanted.thread) wanted.wanted.passes);
  };
}
  where
    server : List Entry
    server = counted (entries_of Server es)

    step : LoseStep p c e (entries_of Server es)
    step = subst (λ i. ServerStepOn p i e (entries_of Server es)) lost (server_rule p next e es node follow.1).step

    named : all_name (serves_all p (unsent e ∷ server)) o ≡ true
    named = ap (λ out. all_name out o) (sym step.sends) ∙ is

    left : Left c (queue_of (Mon o) server)
    left = left_by c (queue_of (Mon o) server) (subst (λ i. queue_by (Mon o) i (queue_of (Mon o) server) ≢ []) lost
        (all_served_are_queued p o (unsent e ∷ server) named))

    wanted : IsWantedBy p next left.client (Mon o) es
    wanted = queued_is_wanted p next sound es follow.0 left.client (Mon o) left.there

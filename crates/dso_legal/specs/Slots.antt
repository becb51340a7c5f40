-- Which steps are open after a journal, and when it is finished or stuck. Entries stand with the newest first.
use Rattle.std.specs.List.{list_any}
use Rattle.std.specs.Prelude.{ℕ, ◌+◌, Bool, true, false, cond, not, ltb, ◌&&◌, ◌||◌, Option, List, [], ◌∷◌, ◌++◌, map}
use Rattle.std.specs.Prelude.{filter, flat_map}
use Rattle.dso_base.specs.declared.journal.Entry.{Entry}
use Rattle.dso_base.specs.declared.journal.Node.TheVariants.{Server, Client}
use Rattle.dso_base.specs.declared.lock.ThreadId.{ThreadId}
use Rattle.dso_base.specs.declared.request.Event.{Event}
use Rattle.dso_base.specs.declared.request.Event.TheVariants.{Act, Lost}
use Rattle.dso_base.specs.declared.request.Request.{Request}
use Rattle.dso_base.specs.declared.request.Request.TheVariants.{End}
use Rattle.dso_base.specs.Weight.{entry_weight_of}
use Rattle.dso_law.specs.Settings.{Settings, clients_of, threads_of}
use Rattle.dso_law.specs.Entries.{entries_of, events_in}
use Rattle.dso_law.specs.Channels.{up_in_flight, down_in_flight, is_broken, count_inputs, breaks, rejoins}
use Rattle.dso_law.specs.ClientStep.{may_act, may_flush}
use Rattle.dso_law.specs.ServerReadings.{is_lost, is_loss_due, is_break_due}
use Rattle.dso_legal.specs.Lawful.{next_after}

-- a step of the cluster: a thread acts, a client takes a message or flushes, the server takes a message of a client,
-- loses it or breaks its connection
pub data Slot : Type 0 where
  Acts : ThreadId → Slot
  TakesDown : ℕ → Slot
  Flushes : ℕ → Slot
  TakesUp : ℕ → Slot
  Loses : ℕ → Slot
  Breaks : ℕ → Slot

-- whether the list has an item
abbrev pub is_any : {X : Type 0} → List X → Bool
is_any [] = false
is_any (x ∷ xs) = true

-- whether the request ends the thread
abbrev pub is_end : Request → Bool
is_end (End fault) = true
is_end request = false

-- whether the event ends its thread
abbrev pub ends : Event → Bool
ends (Act thread request reply woken) = is_end request
ends (Lost client) = false

-- whether the thread has ended
abbrev pub has_ended : ThreadId → List Entry → Bool
has_ended t es = list_any ends (events_in t (entries_of (Client t.client) es))

module _ (p : Settings) where
  -- whether a loss of the client or a break of its connection is due
  abbrev pub is_loss_or_break_due : ℕ → List Entry → Bool
  is_loss_or_break_due c es = is_loss_due p c (entries_of Server es) || is_break_due p c (entries_of Server es)

  -- whether the client took its broken connection up as often as it was broken
  abbrev pub has_rejoined : ℕ → List Entry → Bool
  has_rejoined c es = not (ltb (count_inputs (rejoins c) (entries_of (Client c) es))
      (count_inputs (breaks c) (entries_of Server es)))

  -- A client can take: while its connection isn't broken, where a message is in flight to the client; while it is
  -- broken, where it hasn't taken the connection up as often as it was broken.
  abbrev pub can_take_down : ℕ → List Entry → Bool
  can_take_down c es = cond (is_broken c (entries_of Server es)) (not (has_rejoined c es))
      (is_any (down_in_flight c es))

  -- The server can take of a client: never where its loss or a break is due; else, while the connection isn't broken,
  -- where a message is in flight to the server; while it is broken, where the client has taken it up.
  abbrev pub can_take_up : ℕ → List Entry → Bool
  can_take_up c es = not (is_loss_or_break_due c es)
      && cond (is_broken c (entries_of Server es)) (has_rejoined c es) (is_any (up_in_flight c es))

  -- the slots of a client: its threads' acts, taking a message, flushing
  abbrev pub client_slots : ℕ → List Slot
  client_slots c = map Acts (threads_of p c) ++ TakesDown c ∷ Flushes c ∷ []

  -- The slots in their order: those of each client; then for each client the taking of its messages; then for each
  -- client its loss and the break of its connection.
  abbrev pub slots : List Slot
  slots = flat_map client_slots (clients_of p) ++ map TakesUp (clients_of p)
      ++ flat_map (λ c. Loses c ∷ Breaks c ∷ []) (clients_of p)

  -- a client that isn't lost has no message in flight, up or down
  abbrev pub is_quiet : ℕ → List Entry → Bool
  is_quiet c es = is_lost c (entries_of Server es) || not (is_any (up_in_flight c es) || is_any (down_in_flight c es))

  -- a thread has ended, or its client is lost
  abbrev pub is_over : List Entry → ThreadId → Bool
  is_over es t = is_lost t.client (entries_of Server es) || has_ended t es

  -- Finished: every thread of a client that isn't lost has ended, no message between the server and such a client is
  -- in flight, and no trigger is due.
  abbrev pub is_finished : List Entry → Bool
  is_finished es = not (list_any (λ t. not (is_over es t)) p.threads)
      && (not (list_any (λ c. not (is_quiet c es)) (clients_of p)) && not (list_any (λ c. is_loss_or_break_due c es)
      (clients_of p)))

  module _ (next : ThreadId → List Event → Option Request) where
    -- whether a slot is open: the client rule has such an act or flush, the message can be taken, the trigger is due
    abbrev pub is_open : List Entry → Slot → Bool
    is_open es (Acts t) = may_act p t.client (next_after next es) t (entries_of (Client t.client) es)
    is_open es (TakesDown c) = can_take_down c es
    is_open es (Flushes c) = may_flush p c (entries_of (Client c) es)
    is_open es (TakesUp c) = can_take_up c es
    is_open es (Loses c) = is_loss_due p c (entries_of Server es)
    is_open es (Breaks c) = is_break_due p c (entries_of Server es)

    -- Open slots, in their order.
    abbrev pub open_slots : List Entry → List Slot
    open_slots es = filter (is_open es) slots

    -- Stuck: not finished, and no slot is open.
    abbrev pub is_stuck : List Entry → Bool
    is_stuck es = not (is_finished es) && not (is_any (open_slots es))

-- Weight: one for each entry and one for each value in a message sent.
abbrev pub weight : List Entry → ℕ
weight [] = 0
weight (e ∷ es) = weight es + entry_weight_of e

-- Which entries of the server count, and what it knows of clients, ids and threads.
use Rattle.std.specs.List.{list_any}
use Rattle.std.specs.Prelude.{ℕ, ◌+◌, ◌*◌, Bool, true, false, cond, not, eqb, leb, ltb, ◌&&◌, ◌||◌, Option, Some}
use Rattle.std.specs.Prelude.{None, List, [], ◌∷◌, filter, length}
use Rattle.dso_base.specs.declared.journal.Entry.{Entry}
use Rattle.dso_base.specs.declared.journal.Input.{Input}
use Rattle.dso_base.specs.declared.journal.Input.TheVariants.{TookUp, Lose}
use Rattle.dso_base.specs.declared.journal.Trigger.{Trigger}
use Rattle.dso_base.specs.declared.lock.ThreadId.{ThreadId}
use Rattle.dso_base.specs.declared.message.Down.{Down}
use Rattle.dso_base.specs.declared.message.Down.TheVariants as down
use Rattle.dso_base.specs.declared.message.Up.{Up}
use Rattle.dso_base.specs.declared.message.Up.TheVariants as up
use Rattle.dso_base.specs.declared.record.Ending.{Ending}
use Rattle.dso_base.specs.declared.record.Ending.TheVariants as ending
use Rattle.dso_base.specs.Following.{is_thread}
use Rattle.dso_law.specs.Settings.{Settings, batch_size}
use Rattle.dso_law.specs.Entries.{by_taken_up, by_sent_down}
use Rattle.dso_law.specs.Channels.{takes_up, breaks, count_inputs}

-- whether the entry loses the client
abbrev pub loses : ℕ → Input → Bool
loses c (Lose d) = eqb c d
loses c input = false

-- Lost: the server lost the client.
abbrev pub is_lost : ℕ → List Entry → Bool
is_lost c es = list_any (λ e. loses c e.input) es

-- whether the input is a message of a client that was lost before
abbrev pub is_of_lost : Input → List Entry → Bool
is_of_lost (TookUp c m) es = is_lost c es
is_of_lost input es = false

-- The server's entries that count in its readings: all but the messages of lost clients.
abbrev pub counted : List Entry → List Entry
counted [] = []
counted (e ∷ es) = cond (is_of_lost e.input es) (counted es) (e ∷ counted es)

-- how many messages of the client the server took, those after its loss too
abbrev pub taken_count : ℕ → List Entry → ℕ
taken_count c es = count_inputs (takes_up c) es

-- whether a trigger is for the client and its number of messages taken is reached
abbrev pub is_reached : ℕ → ℕ → Trigger → Bool
is_reached c n trigger = eqb trigger.client c && leb trigger.after n

-- A loss is due where the client isn't lost and a loss of it is set for at most the number of its messages taken.
abbrev pub is_loss_due : Settings → ℕ → List Entry → Bool
is_loss_due p c es = not (is_lost c es) && list_any (is_reached c (taken_count c es)) p.losses

-- A break is due where the client isn't lost, no loss of it is due, and more breaks of it are set for at most that
-- number than were made.
abbrev pub is_break_due : Settings → ℕ → List Entry → Bool
is_break_due p c es = not (is_lost c es) && (not (is_loss_due p c es)
    && ltb (count_inputs (breaks c) es) (length (filter (is_reached c (taken_count c es)) p.breaks)))

-- a batch of ids given to a client
pub record Batch : Type 0 where
  pub client : ℕ
  pub first : ℕ

-- the batch of a message sent
abbrev pub batch_by : ℕ → Down → List Batch → List Batch
batch_by c (down.Ids first) given = record { client = c; first = first } ∷ given
batch_by c m given = given

-- the batches given out, the latest first
abbrev pub batches_given : List Entry → List Batch
batches_given [] = []
batches_given (e ∷ es) = by_sent_down batch_by e.sent (batches_given es)

-- the first id of the next batch: batches of equal size, one after the other, from 1 on
abbrev pub next_batch : List Entry → ℕ
next_batch es = 1 + batch_size * length (batches_given es)

-- whether the id is one of the batch
abbrev pub is_in_batch : ℕ → Batch → Bool
is_in_batch o batch = leb batch.first o && ltb o (batch.first + batch_size)

-- whether the id was given out, to any client
abbrev pub is_given : ℕ → List Entry → Bool
is_given o es = list_any (is_in_batch o) (batches_given es)

-- whether the id was given to this client
abbrev pub is_given_to : ℕ → ℕ → List Entry → Bool
is_given_to c o es = list_any (λ batch. eqb batch.client c && is_in_batch o batch) (batches_given es)

-- the number of a client's record that is taken
abbrev pub number_by : ℕ → ℕ → Up → ℕ → ℕ
number_by c d (up.Commit txn) n = cond (eqb c d) txn.seq n
number_by c d m n = n

-- the number of the client's last record taken, 0 before the first
abbrev pub last_number : ℕ → List Entry → ℕ
last_number c [] = 0
last_number c (e ∷ es) = by_taken_up (number_by c) e.input (last_number c es)

-- whether the ending is the thread's end
abbrev pub is_end : Ending → Bool
is_end (ending.Exit l) = false
is_end (ending.Wait l) = false
is_end (ending.End fault) = true
is_end (ending.Timeout l) = false

-- a record that is the end of the thread
abbrev pub ended_by : ThreadId → ℕ → Up → Bool → Bool
ended_by t c (up.Commit txn) before = (is_thread t txn.thread && is_end txn.ending) || before
ended_by t c m before = before

-- whether the record of the thread's end was taken
abbrev pub is_ended : ThreadId → List Entry → Bool
is_ended t [] = false
is_ended t (e ∷ es) = by_taken_up (ended_by t) e.input (is_ended t es)

-- how a record of the thread that is taken ended
abbrev pub last_ending_by : ThreadId → ℕ → Up → Option Ending → Option Ending
last_ending_by t c (up.Commit txn) before = cond (is_thread t txn.thread) (Some txn.ending) before
last_ending_by t c m before = before

-- how the thread's last record taken ended, None before its first
abbrev pub last_ending : ThreadId → List Entry → Option Ending
last_ending t [] = None
last_ending t (e ∷ es) = by_taken_up (last_ending_by t) e.input (last_ending t es)

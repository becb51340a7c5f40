-- A client's ids and records.
use Rattle.std.specs.List.{list_any}
use Rattle.std.specs.Prelude.{ℕ, suc, ◌+◌, ◌-◌, Bool, true, false, cond, not, ltb, Option, Some, None, List, [], ◌∷◌}
use Rattle.std.specs.Prelude.{◌++◌, drop}
use Rattle.dso_base.specs.declared.journal.Entry.{Entry}
use Rattle.dso_base.specs.declared.lock.ThreadId.{ThreadId}
use Rattle.dso_base.specs.declared.message.Down.{Down}
use Rattle.dso_base.specs.declared.message.Down.TheVariants as down
use Rattle.dso_base.specs.declared.message.Up.{Up}
use Rattle.dso_base.specs.declared.message.Up.TheVariants as up
use Rattle.dso_base.specs.declared.record.Txn.{Txn}
use Rattle.dso_base.specs.declared.request.Event.{Event}
use Rattle.dso_base.specs.declared.request.Event.TheVariants.{Act, Lost}
use Rattle.dso_base.specs.declared.request.Reply.{Reply}
use Rattle.dso_base.specs.declared.request.Reply.TheVariants.{Made}
use Rattle.dso_base.specs.Following.{is_thread}
use Rattle.dso_law.specs.Settings.{batch_size}
use Rattle.dso_law.specs.Entries.{by_taken_down, by_sent_up, by_event}

-- the batches with the one that a message taken brings, at their end
abbrev pub batches_by_taken : Down → List ℕ → List ℕ
batches_by_taken (down.Ids first) batches = batches ++ first ∷ []
batches_by_taken m batches = batches

-- the first ids of the batches that the client took, in order
abbrev pub batches : List Entry → List ℕ
batches [] = []
batches (e ∷ es) = by_taken_down batches_by_taken e.input (batches es)

-- the count of objects made, with the one that a reply tells of
abbrev pub made_by_reply : Reply → ℕ → ℕ
made_by_reply (Made o) n = suc n
made_by_reply reply n = n

-- the count of objects made, with the one that an event made
abbrev pub made_by : Event → ℕ → ℕ
made_by (Act t request reply woken) n = made_by_reply reply n
made_by (Lost client) n = n

-- how many objects the client's threads made
abbrev pub made : List Entry → ℕ
made [] = 0
made (e ∷ es) = by_event made_by e.event (made es)

-- the id with this number, counted from 0, in the batches; None past the last batch
abbrev pub id_at : List ℕ → ℕ → Option ℕ
id_at [] n = None
id_at (first ∷ rest) n = cond (ltb n batch_size) (Some (first + n)) (id_at rest (n - batch_size))

-- the id of the next object made: the ids of the batches in order; None where as many were made as the batches have ids
abbrev pub next_id : List Entry → Option ℕ
next_id es = id_at (batches es) (made es)

-- a batch that is taken is no longer asked for
abbrev pub batch_asked_by_taken : Down → Bool → Bool
batch_asked_by_taken (down.Ids first) before = false
batch_asked_by_taken m before = before

-- a batch is asked for by the message that asks for ids
abbrev pub batch_asked_by_sent : Up → Bool → Bool
batch_asked_by_sent up.IdAsk before = true
batch_asked_by_sent m before = before

-- whether a batch is asked for and hasn't come
abbrev pub is_batch_asked : List Entry → Bool
is_batch_asked [] = false
is_batch_asked (e ∷ es) = by_sent_up batch_asked_by_sent e.sent
    (by_taken_down batch_asked_by_taken e.input (is_batch_asked es))

-- the count of records, with the one that a message sends
abbrev pub records_by_sent : Up → ℕ → ℕ
records_by_sent (up.Commit txn) n = suc n
records_by_sent m n = n

-- how many records the client sent: the number of its latest one
abbrev pub records : List Entry → ℕ
records [] = 0
records (e ∷ es) = by_sent_up records_by_sent e.sent (records es)

-- an acknowledgement takes out the first of the records that wait for one
abbrev pub unacked_by_taken : Down → List Txn → List Txn
unacked_by_taken (down.Ack seq) txns = drop 1 txns
unacked_by_taken m txns = txns

-- a record that is sent stands at the end of those that wait to be acknowledged
abbrev pub unacked_by_sent : Up → List Txn → List Txn
unacked_by_sent (up.Commit txn) txns = txns ++ txn ∷ []
unacked_by_sent m txns = txns

-- the records sent and not acknowledged, in order
abbrev pub unacked : List Entry → List Txn
unacked [] = []
unacked (e ∷ es) = by_sent_up unacked_by_sent e.sent (by_taken_down unacked_by_taken e.input (unacked es))

-- Settled: the thread's last record, where it has one, is acknowledged. Records are acknowledged in their order, so
-- this is where none of the thread's records waits to be.
abbrev pub is_settled : ThreadId → List Entry → Bool
is_settled t es = not (list_any (λ txn. is_thread t txn.thread) (unacked es))

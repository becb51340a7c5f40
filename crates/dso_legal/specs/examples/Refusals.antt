-- Journals that break one rule each: the first entries of an example, and an entry that may not follow them.
use Rattle.std.specs.Prelude.{ℕ, ◌-◌, true, pos, Option, Some, None, List, [], ◌∷◌, length, drop}
use Rattle.dso_base.specs.declared.journal.Entry.{Entry}
use Rattle.dso_base.specs.declared.journal.Input.TheVariants as input
use Rattle.dso_base.specs.declared.journal.Node.TheVariants.{Server, Client}
use Rattle.dso_base.specs.declared.journal.Sent.TheVariants.{ToServer, ToClient}
use Rattle.dso_base.specs.declared.lock.Level.TheVariants.{Write}
use Rattle.dso_base.specs.declared.lock.LockName.TheVariants.{Mon, Name}
use Rattle.dso_base.specs.declared.lock.ThreadId.{ThreadId}
use Rattle.dso_base.specs.declared.message.Down.TheVariants as down
use Rattle.dso_base.specs.declared.message.Up.TheVariants as up
use Rattle.dso_base.specs.declared.record.Ending.TheVariants as ending
use Rattle.dso_base.specs.declared.request.Event.{Event}
use Rattle.dso_base.specs.declared.request.Reply.TheVariants as reply
use Rattle.dso_base.specs.declared.request.Request.{Request}
use Rattle.dso_base.specs.declared.request.Request.TheVariants as request
use Rattle.dso_base.specs.declared.value.Value.TheVariants as value
use Rattle.dso_law.specs.Settings.{Settings}
use Rattle.dso_legal.specs.Lawful.{MayFollow, IsLawful}
use Rattle.dso_legal.specs.examples.Words.{thread, set, txn, act, entry}
use Rattle.dso_legal.specs.examples.Broken as broken
use Rattle.dso_legal.specs.examples.Counter as counter
use Rattle.dso_legal.specs.examples.Flush as flush
use Rattle.dso_legal.specs.examples.LostClient as lost
use Rattle.dso_legal.specs.examples.Recall as recall
use Rattle.dso_legal.specs.examples.Settling as settling
use Rattle.dso_legal.specs.examples.TimedOutHere as timed_out
use Rattle.dso_legal.specs.examples.Waiting as waiting

-- the first n of the entries, which stand with the newest first
abbrev pub first : ℕ → List Entry → List Entry
first n es = drop (length es - n) es

-- the newest of the entries; a break where there is none
abbrev pub newest : List Entry → Entry
newest [] = entry 0 Server (input.Break 0) [] None
newest (e ∷ es) = e

-- the entry of this number, counted from 1
abbrev pub numbered : ℕ → List Entry → Entry
numbered n es = newest (first n es)

-- the entry may not follow the entries
abbrev pub Refused : Settings → (ThreadId → List Event → Option Request) → Entry → List Entry → Type 0
Refused p next e es = MayFollow p next e es → ⊥

-- every thread next asks this
abbrev pub always : Request → ThreadId → List Event → Option Request
always request t events = Some request

-- two threads at the first client, and none elsewhere
abbrev pub two_threads : Settings
two_threads = record recall.settings { threads = thread 1 1 ∷ thread 1 2 ∷ [] }

-- an act of a thread of the first client at this clock, with these messages and an event
abbrev pub acted : ℕ → ℕ → Request → Event → Entry
acted clock index request event = entry clock (Client 1) (input.Act index) [] (Some event)

-- the second thread of the first client holds the name, after the first one waited on it and timed out
abbrev pub after_timeout : List Entry
after_timeout = acted 10 2 (request.Enter (Name 0) Write)
    (act (thread 1 2) (request.Enter (Name 0) Write) reply.Done None)
    ∷ first 10 timed_out.entries

-- the refusals that are no matter of what is sent
pub record Refusals : Type 0 where
  pub clock_stands_still : Refused counter.settings counter.next (record (numbered 2 counter.entries) { clock = 1 })
      (first 1 counter.entries)
  pub message_is_not_first : Refused counter.settings counter.next
      (record (numbered 2 counter.entries) { input = input.TookUp 1 (up.Fault 0) }) (first 1 counter.entries)
  pub get_without_copy : Refused counter.settings counter.next
      (acted 9 1 (request.Get 0 0) (act (thread 1 1) (request.Get 0 0) (reply.Val value.Null) None))
      (first 8 counter.entries)
  pub enter_without_lease : Refused counter.settings counter.next
      (acted 5 1 (request.Enter (Name 0) Write) (act (thread 1 1) (request.Enter (Name 0) Write) reply.Done None))
      (first 4 counter.entries)
  pub second_request : Refused counter.settings counter.next (record (numbered 5 counter.entries) { clock = 6 })
      (first 5 counter.entries)
  pub act_after_end : Refused counter.settings counter.next (entry 36 (Client 1) (input.Act 1) [] None) counter.entries
  pub closing_lease_admits : Refused two_threads (always (request.Enter (Name 0) Write))
      (acted 12 2 (request.Enter (Name 0) Write) (act (thread 1 2) (request.Enter (Name 0) Write) reply.Done None))
      (first 19 recall.entries)
  pub entered_beside_other_thread : Refused two_threads (always (request.Enter (Name 0) Write))
      (acted 11 2 (request.Enter (Name 0) Write) (act (thread 1 2) (request.Enter (Name 0) Write) reply.Done None))
      (first 18 recall.entries)
  pub unguarded_write_done : Refused counter.settings (always (request.Put 1 0 (value.Long (pos 5))))
      (acted 21 1 (request.Put 1 0 (value.Long (pos 5)))
      (act (thread 1 1) (request.Put 1 0 (value.Long (pos 5))) reply.Done None)) (first 22 counter.entries)
  pub settled_unacknowledged : Refused settling.settings settling.next
      (acted 6 1 request.Settle (act (thread 1 1) request.Settle reply.Done None)) (first 5 settling.entries)
  pub timed_out_thread_chosen : Refused two_threads (always (request.Notify (Name 0)))
      (acted 11 2 (request.Notify (Name 0))
      (act (thread 1 2) (request.Notify (Name 0)) reply.Done (Some (thread 1 1)))) after_timeout
  pub flush_unacknowledged : Refused flush.settings flush.next
      (entry 18 (Client 1) (input.Flush 1) (ToServer (up.Flushed 1) ∷ []) None) (first 17 flush.entries)
  pub flush_of_few : Refused counter.settings counter.next
      (entry 36 (Client 1) (input.Flush 1) (ToServer (up.Flushed 1) ∷ []) None) counter.entries
  pub rejoin_unbroken : Refused counter.settings counter.next (entry 1 Server (input.Rejoin 1) [] None)
      (first 1 counter.entries)
  pub break_not_due : Refused counter.settings counter.next (entry 1 Server (input.Break 1) [] None)
      (first 1 counter.entries)
  pub loss_not_due : Refused counter.settings counter.next (entry 1 Server (input.Lose 1) [] None)
      (first 1 counter.entries)
  pub taken_where_break_is_due : Refused broken.settings broken.next
      (entry 2 Server (input.TookUp 1 up.IdAsk) (ToClient 1 (down.Ids 1) ∷ []) None) (first 1 broken.entries)
  pub padded : IsLawful counter.settings counter.next (entry 36 (Client 1) (input.Rejoin 1) [] None ∷ counter.entries)
      → ⊥

-- the refusals of what is sent
pub record WrongSendings : Type 0 where
  pub extra_return : Refused counter.settings counter.next
      (record (numbered 14 counter.entries)
      { sent = ToServer (up.Return (Name 0) []) ∷ (numbered 14 counter.entries).sent }) (first 13 counter.entries)
  pub record_missing : Refused counter.settings counter.next (record (numbered 14 counter.entries) { sent = [] })
      (first 13 counter.entries)
  pub ack_missing : Refused counter.settings counter.next (record (numbered 15 counter.entries) { sent = [] })
      (first 14 counter.entries)
  pub output_missing : Refused counter.settings counter.next (record (numbered 34 counter.entries) {
    sent = ToServer (up.Commit
        (txn 3 (thread 1 1) [] (set 1 0 (value.Long (pos 1)) ∷ []) [] [] (ending.Exit (Mon 1)))) ∷ [];
  }) (first 33 counter.entries)
  pub write_granted_beside_write : Refused recall.settings recall.next
      (record (numbered 16 recall.entries) { sent = ToClient 2 (down.Grant (Name 0) Write) ∷ [] })
      (first 15 recall.entries)
  pub changes_miss_a_holder : Refused waiting.settings waiting.next (record (numbered 76 waiting.entries) {
    sent = ToClient 2 (down.Ack 3) ∷ ToClient 1 (down.Wake (Mon 1) (thread 1 1)) ∷ [];
  }) (first 75 waiting.entries)
  pub notify_wakes_nobody : Refused waiting.settings waiting.next (record (numbered 76 waiting.entries) {
    sent = ToClient 2 (down.Ack 3) ∷ ToClient 1 (down.Changes (set 1 0 (value.Bool true) ∷ [])) ∷ [];
  }) (first 75 waiting.entries)
  pub lost_client_answered : Refused lost.settings lost.next
      (record (numbered 28 lost.entries) { sent = ToClient 1 (down.Ack 1) ∷ [] }) (first 27 lost.entries)
  pub loss_serves_nobody : Refused lost.settings lost.next (record (numbered 18 lost.entries) { sent = [] })
      (first 17 lost.entries)

-- For each row that says how a message fits, a message that breaks it, after the entries of the counter's finished
-- run or of its first steps. In a lawful journal no such message is in flight, so the rows are shown by themselves.
use Rattle.std.specs.Prelude.{ℕ, pos, true, List, [], ◌∷◌}
use Rattle.dso_base.specs.declared.journal.Entry.{Entry}
use Rattle.dso_base.specs.declared.journal.Node.TheVariants.{Server, Client}
use Rattle.dso_base.specs.declared.lock.Level.TheVariants.{Write}
use Rattle.dso_base.specs.declared.lock.LockName.TheVariants.{Mon, Name}
use Rattle.dso_base.specs.declared.message.Down.{Down}
use Rattle.dso_base.specs.declared.message.Down.TheVariants as down
use Rattle.dso_base.specs.declared.message.Up.{Up}
use Rattle.dso_base.specs.declared.message.Up.TheVariants as up
use Rattle.dso_base.specs.declared.record.Body.{Body}
use Rattle.dso_base.specs.declared.record.Ending.{Ending}
use Rattle.dso_base.specs.declared.record.Ending.TheVariants as ending
use Rattle.dso_base.specs.declared.record.Set.{Set}
use Rattle.dso_base.specs.declared.value.ClassId.TheVariants as class
use Rattle.dso_base.specs.declared.value.Value.TheVariants as value
use Rattle.dso_law.specs.Entries.{entries_of}
use Rattle.dso_law.specs.FitsDown.{FitsDown}
use Rattle.dso_law.specs.FitsUp.{FitsUp}
use Rattle.dso_law.specs.ServerReadings.{counted}
use Rattle.dso_legal.specs.examples.Words.{thread, body, set, txn}
use Rattle.dso_legal.specs.examples.Counter.{settings, entries}
use Rattle.dso_legal.specs.examples.Refusals.{first}

-- the message doesn't fit at the client after these entries
abbrev pub MisfitsDown : Down → List Entry → Type 0
MisfitsDown m es = FitsDown settings 1 m (entries_of (Client 1) es) → ⊥

-- the message doesn't fit at the server after these entries
abbrev pub MisfitsUp : Up → List Entry → Type 0
MisfitsUp m es = FitsUp settings 1 m (counted (entries_of Server es)) → ⊥

-- a record of the thread with this number, these objects and sets, and this ending
abbrev pub recorded : ℕ → List Body → List Set → Ending → Up
recorded seq news sets end = up.Commit (txn seq (thread 1 1) news sets [] [] end)

-- messages that don't fit at the client
pub record MisfitsAtClient : Type 0 where
  pub ids_not_asked_for : MisfitsDown (down.Ids 257) entries
  pub ids_from_zero : MisfitsDown (down.Ids 0) (first 1 entries)
  pub object_not_asked_for : MisfitsDown (down.Object (body 1 (class.Plain 0) (value.Long (pos 0) ∷ []))) entries
  pub roots_too_many : MisfitsDown (down.Object (body 0 class.Roots (value.Null ∷ value.Null ∷ []))) (first 9 entries)
  pub root_of_another_kind : MisfitsDown (down.Object (body 0 class.Roots (value.Long (pos 5) ∷ []))) (first 9 entries)
  pub grant_not_asked_for : MisfitsDown (down.Grant (Name 0) Write) entries
  pub ack_of_another_record : MisfitsDown (down.Ack 2) (first 14 entries)
  pub change_of_another_kind : MisfitsDown (down.Changes (set 1 0 (value.Bool true) ∷ [])) entries
  pub change_of_no_field : MisfitsDown (down.Changes (set 1 1 (value.Long (pos 5)) ∷ [])) entries
  pub wake_of_no_waiter : MisfitsDown (down.Wake (Name 0) (thread 1 1)) entries

-- messages that don't fit at the server
pub record MisfitsAtServer : Type 0 where
  pub fault_of_no_object : MisfitsUp (up.Fault 7) entries
  pub fault_of_object_held : MisfitsUp (up.Fault 0) entries
  pub flush_of_object_not_held : MisfitsUp (up.Flushed 7) entries
  pub request_of_lease_had : MisfitsUp (up.Request (Name 0) Write) entries
  pub request_of_no_lock : MisfitsUp (up.Request (Name 1) Write) entries
  pub return_of_no_lease : MisfitsUp (up.Return (Mon 9) []) entries
  pub return_of_stranger : MisfitsUp (up.Return (Name 0) (thread 2 1 ∷ [])) entries
  pub record_of_another_number : MisfitsUp (recorded 3 [] [] (ending.Exit (Name 0))) (first 14 entries)
  pub record_after_the_end : MisfitsUp (recorded 5 [] [] (ending.Exit (Name 0))) entries
  pub object_of_an_id_not_given : MisfitsUp
      (recorded 1 (body 300 (class.Plain 0) (value.Long (pos 0) ∷ []) ∷ []) [] (ending.Exit (Name 0)))
      (first 14 entries)
  pub object_published_again : MisfitsUp
      (recorded 2 (body 1 (class.Plain 0) (value.Long (pos 0) ∷ []) ∷ []) [] (ending.Exit (Name 0)))
      (first 15 entries)
  pub set_of_object_not_held : MisfitsUp (recorded 2 [] (set 7 0 (value.Long (pos 5)) ∷ []) (ending.Exit (Name 0)))
      (first 15 entries)
  pub set_without_lease : MisfitsUp (recorded 2 [] (set 1 0 (value.Long (pos 5)) ∷ []) (ending.Exit (Name 0)))
      (first 15 entries)
  pub set_of_another_kind : MisfitsUp (recorded 2 [] (set 0 0 (value.Long (pos 5)) ∷ []) (ending.Exit (Name 0)))
      (first 15 entries)
  pub timeout_without_wait : MisfitsUp (recorded 2 [] [] (ending.Timeout (Name 0))) (first 15 entries)
  pub ending_without_lease : MisfitsUp (recorded 2 [] [] (ending.Exit (Mon 1))) (first 15 entries)

-- both
pub record Misfits : Type 0 where
  pub at_client : MisfitsAtClient
  pub at_server : MisfitsAtServer

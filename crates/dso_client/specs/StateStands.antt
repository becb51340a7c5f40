-- What a client keeps stands for its entries: each part for what the readings tell of it.
use Rattle.std.specs.List.{AllByRecursion}
use Rattle.std.specs.Prelude.{◌≡◌, map, length}
use Rattle.dso_law.specs.Settings.{threads_of}
use Rattle.dso_client.specs.declared.client_state.ClientState.{ClientState}
use Rattle.dso_client.specs.RunPoints.{RunPoint}
use Rattle.dso_client.specs.Openings.{first_threads}
use Rattle.dso_client.specs.RunFacts.{RunFacts}
use Rattle.dso_client.specs.ContextStands.{ContextStands}
use Rattle.dso_client.specs.TableStands.{TableStands}
use Rattle.dso_client.specs.LockStateStands.{LockStateStands}
use Rattle.dso_client.specs.SequencesStand.{SequencesStand}

-- The number of the client; a context for each of its threads, in their order and numbered from 1 on, each of which
-- stands; the objects, the locks, the ids and records; and what the entries keep in a run.
pub record StateStands (at : RunPoint) (kept : ClientState) : Type 0 where
  pub number : kept.number ≡ at.client
  pub places : map (λ context. context.id) kept.contexts.items ≡ threads_of at.settings at.client
  pub numbered : map (λ context. context.id) kept.contexts.items ≡ first_threads at.client (length kept.contexts.items)
  pub contexts : AllByRecursion (ContextStands at) kept.contexts.items
  pub table : TableStands at kept.table
  pub lock_state : LockStateStands at kept.lock_state
  pub sequences : SequencesStand at kept.sequences
  pub facts : RunFacts at

-- so without what the entries keep in a run
pub record ClientPartsStand (at : RunPoint) (kept : ClientState) : Type 0 where
  pub number : kept.number ≡ at.client
  pub places : map (λ context. context.id) kept.contexts.items ≡ threads_of at.settings at.client
  pub numbered : map (λ context. context.id) kept.contexts.items ≡ first_threads at.client (length kept.contexts.items)
  pub contexts : AllByRecursion (ContextStands at) kept.contexts.items
  pub table : TableStands at kept.table
  pub lock_state : LockStateStands at kept.lock_state
  pub sequences : SequencesStand at kept.sequences

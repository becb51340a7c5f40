-- The server rule: which entry may follow the server's entries.
use Rattle.std.specs.List.{list_any}
use Rattle.std.specs.Prelude.{ℕ, ◌≡◌, Bool, true, false, cond, eqb, Option, Some, None, List, [], ◌∷◌, ◌++◌, filter}
use Rattle.std.specs.Prelude.{flat_map}
use Rattle.dso_base.specs.declared.journal.Entry.{Entry}
use Rattle.dso_base.specs.declared.journal.Input.{Input}
use Rattle.dso_base.specs.declared.journal.Input.TheVariants as input
use Rattle.dso_base.specs.declared.journal.Sent.{Sent}
use Rattle.dso_base.specs.declared.journal.Sent.TheVariants.{ToClient}
use Rattle.dso_base.specs.declared.message.Down.TheVariants as down
use Rattle.dso_base.specs.declared.message.Up.{Up}
use Rattle.dso_base.specs.declared.message.Up.TheVariants as up
use Rattle.dso_base.specs.declared.record.Body.{Body}
use Rattle.dso_base.specs.declared.record.Set.{Set}
use Rattle.dso_base.specs.declared.record.Txn.{Txn}
use Rattle.dso_law.specs.Settings.{Settings, clients_of}
use Rattle.dso_law.specs.Entries.{unsent}
use Rattle.dso_law.specs.ServerReadings.{is_lost, counted, is_loss_due, is_break_due, next_batch}
use Rattle.dso_law.specs.Store.{stored, holds_object}
use Rattle.dso_law.specs.Granting.{serves, serves_all}
use Rattle.dso_law.specs.ServerWaiters.{waiters_of, wakes_of}
use Rattle.dso_law.specs.FitsUp.{FitsUp}

-- the object to the client that asked for it
abbrev pub object_to : ℕ → Option Body → List Sent
object_to c None = []
object_to c (Some body) = ToClient c (down.Object body) ∷ []

-- the sets whose object the client holds
abbrev pub sets_for : ℕ → Txn → List Entry → List Set
sets_for d txn es = filter (λ set. holds_object d set.object es) txn.sets

-- changes to the client, where there are any
abbrev pub changes_to : ℕ → List Set → List Sent
changes_to d [] = []
changes_to d (set ∷ sets) = ToClient d (down.Changes (set ∷ sets)) ∷ []

-- the changes of client c's record to each other client that isn't lost, by rising number: the sets whose objects it
-- holds (a lost client holds none)
abbrev pub changes_of : Settings → ℕ → Txn → List Entry → List Sent
changes_of p c txn es = flat_map (λ d. cond (eqb d c) [] (changes_to d (sets_for d txn es))) (clients_of p)

-- Rows: what the server sends for a message of client c, whose entry, without what it sends, is the first of the
-- entries. Ids in batches; the object; nothing for a flush; grants and recalls for a request and a return; for a
-- record its acknowledgement, then the changes, then those it wakes.
abbrev pub answers : Settings → ℕ → Up → List Entry → List Sent
answers p c up.IdAsk es = ToClient c (down.Ids (next_batch es)) ∷ []
answers p c (up.Fault o) es = object_to c (stored p.shape o es)
answers p c (up.Flushed o) es = []
answers p c (up.Request l level) es = serves p l es
answers p c (up.Return l threads) es = serves p l es
answers p c (up.Commit txn) es = ToClient c (down.Ack txn.seq) ∷ changes_of p c txn es
    ++ wakes_of txn (λ l. waiters_of l es)

-- a message of client c that isn't lost: it fits, and is answered by its row
pub record HeardStep (p : Settings) (c : ℕ) (m : Up) (e : Entry) (es : List Entry) : Type 0 where
  pub fits : FitsUp p c m es
  pub sends : e.sent ≡ answers p c m (unsent e ∷ es)

-- a message of a lost client is answered by nothing
abbrev pub HeardOrLost : Settings → ℕ → Up → Bool → Entry → List Entry → Type 0
HeardOrLost p c m true e es = e.sent ≡ []
HeardOrLost p c m false e es = HeardStep p c m e es

-- a message taken, of a client of the cluster, where neither its loss nor a break of its connection is due
pub record TookStep (p : Settings) (c : ℕ) (m : Up) (e : Entry) (es : List Entry) : Type 0 where
  pub its : list_any (eqb c) (clients_of p) ≡ true
  pub no_loss : is_loss_due p c es ≡ false
  pub no_break : is_break_due p c es ≡ false
  pub event : e.event ≡ None
  pub heard : HeardOrLost p c m (is_lost c es) e (counted es)

-- a loss, where it is due: the queues are served again
pub record LoseStep (p : Settings) (c : ℕ) (e : Entry) (es : List Entry) : Type 0 where
  pub its : list_any (eqb c) (clients_of p) ≡ true
  pub due : is_loss_due p c es ≡ true
  pub event : e.event ≡ None
  pub sends : e.sent ≡ serves_all p (unsent e ∷ counted es)

-- a break of the client's connection, where it is due, sends nothing
pub record BreakStep (p : Settings) (c : ℕ) (e : Entry) (es : List Entry) : Type 0 where
  pub its : list_any (eqb c) (clients_of p) ≡ true
  pub due : is_break_due p c es ≡ true
  pub event : e.event ≡ None
  pub sends : e.sent ≡ []

-- a rejoin of the client's connection sends nothing; where it may come is the connections' rule
pub record TakenUpStep (p : Settings) (c : ℕ) (e : Entry) : Type 0 where
  pub its : list_any (eqb c) (clients_of p) ≡ true
  pub event : e.event ≡ None
  pub sends : e.sent ≡ []

-- by what the entry takes in
abbrev pub ServerStepOn : Settings → Input → Entry → List Entry → Type 0
ServerStepOn p (input.TookUp c m) e es = TookStep p c m e es
ServerStepOn p (input.Lose c) e es = LoseStep p c e es
ServerStepOn p (input.Break c) e es = BreakStep p c e es
ServerStepOn p (input.Rejoin c) e es = TakenUpStep p c e
ServerStepOn p other e es = ⊥

-- The server rule: e may follow the server's entries es.
abbrev pub ServerStep : Settings → Entry → List Entry → Type 0
ServerStep p e es = ServerStepOn p e.input e es

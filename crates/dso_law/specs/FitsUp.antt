-- Which messages of a client fit, at the server that takes them. The entries are those that count. What looks at the
-- graph is said by any graph (`..By`, with the body of each object that is in it), and then by that of the entries.
use Rattle.std.specs.List.{list_any, AllByRecursion}
use Rattle.std.specs.Prelude.{ℕ, suc, ◌<◌, ◌≤◌, ◌≡◌, ◌≢◌, ◌⊎◌, Bool, true, false, eqb, ltb, Option, Some, None, List}
use Rattle.std.specs.Prelude.{[], ◌∷◌, ◌++◌, map, flat_map, length}
use Rattle.dso_base.specs.declared.journal.Entry.{Entry}
use Rattle.dso_base.specs.declared.lock.Level.TheVariants.{Read, Write}
use Rattle.dso_base.specs.declared.lock.LockName.{LockName}
use Rattle.dso_base.specs.declared.lock.LockName.TheVariants.{Mon, Name}
use Rattle.dso_base.specs.declared.lock.ThreadId.{ThreadId}
use Rattle.dso_base.specs.declared.message.Up.{Up}
use Rattle.dso_base.specs.declared.message.Up.TheVariants as up
use Rattle.dso_base.specs.declared.record.Body.{Body}
use Rattle.dso_base.specs.declared.record.Choice.{Choice}
use Rattle.dso_base.specs.declared.record.Choice.TheVariants.{Here}
use Rattle.dso_base.specs.declared.record.Ending.{Ending}
use Rattle.dso_base.specs.declared.record.Ending.TheVariants as ending
use Rattle.dso_base.specs.declared.record.Note.{Note}
use Rattle.dso_base.specs.declared.record.Set.{Set}
use Rattle.dso_base.specs.declared.record.Txn.{Txn}
use Rattle.dso_base.specs.declared.value.ClassId.TheVariants as class
use Rattle.dso_base.specs.declared.value.Value.{Value}
use Rattle.dso_base.specs.declared.value.Value.TheVariants as value
use Rattle.dso_base.specs.Block.{is_field_before}
use Rattle.dso_base.specs.Shape.{guard_of, kind_of}
use Rattle.dso_base.specs.Value.{Fits}
use Rattle.dso_base.specs.Following.{is_thread}
use Rattle.dso_law.specs.Settings.{Settings, threads_of}
use Rattle.dso_law.specs.Copies.{is_among}
use Rattle.dso_law.specs.FitsDown.{FitsShape}
use Rattle.dso_law.specs.ServerReadings.{is_given, is_given_to, last_number, is_ended, last_ending}
use Rattle.dso_law.specs.Store.{stored, holds_object}
use Rattle.dso_law.specs.Granting.{leased_to, queue_of}
use Rattle.dso_law.specs.ServerWaiters.{waiters_of}

-- each item is in order before the next one
abbrev pub Rises : {X : Type 0} → (X → X → Bool) → List X → Type 0
Rises before [] = Unit {0}
Rises before (x ∷ []) = Unit {0}
Rises before (x ∷ y ∷ rest) = (before x y ≡ true) × Rises before (y ∷ rest)

-- there is such a lock: a name that is counted, or the monitor of an id from 1 on that was given out
abbrev pub IsLock : Settings → LockName → List Entry → Type 0
IsLock p (Name n) es = n < p.shape.names
IsLock p (Mon o) es = (1 ≤ o) × (is_given o es ≡ true)

-- a request: the client has neither a lease nor a request of the lock, and there is such a lock
pub record FitsRequest (p : Settings) (c : ℕ) (l : LockName) (es : List Entry) : Type 0 where
  pub not_leased : leased_to c l es ≡ None
  pub not_asked : list_any (λ waiter. eqb waiter.client c) (queue_of l es) ≡ false
  pub lock : IsLock p l es

-- each thread is named once
abbrev pub AreDistinct : List ThreadId → Type 0
AreDistinct [] = Unit {0}
AreDistinct (t ∷ threads) = (list_any (is_thread t) threads ≡ false) × AreDistinct threads

-- the thread is one of the client's and isn't in the server's list of the lock
abbrev pub IsNewWaiter : Settings → ℕ → LockName → List Entry → ThreadId → Type 0
IsNewWaiter p c l es t = (list_any (is_thread t) (threads_of p c) ≡ true)
    × (list_any (is_thread t) (waiters_of l es) ≡ false)

-- a return: the client has a lease of the lock; the threads are its own, each once, none in the server's list; there
-- are none where the lease is at Read
pub record FitsReturn (p : Settings) (c : ℕ) (l : LockName) (threads : List ThreadId) (es : List Entry) : Type 0 where
  pub leased : leased_to c l es ≢ None
  pub new : AllByRecursion (IsNewWaiter p c l es) threads
  pub once : AreDistinct threads
  pub none_at_read : leased_to c l es ≡ Some Read → threads ≡ []

-- an object published: its id was given to the client and isn't in the graph; its class isn't that of the roots, and
-- its class and values fit the shape
pub record FitsNewsBy (graph : ℕ → Option Body) (p : Settings) (c : ℕ) (es : List Entry) (body : Body) : Type 0 where
  pub given : is_given_to c body.object es ≡ true
  pub new : graph body.object ≡ None
  pub class : body.class ≢ class.Roots
  pub shaped : FitsShape p.shape body

abbrev pub FitsNews : Settings → ℕ → List Entry → Body → Type 0
FitsNews p c es = FitsNewsBy (λ o. stored p.shape o es) p c es

-- the object is there and has the field, whose guard is leased to the client at Write, and the value fits it
abbrev pub FitsStored : Settings → ℕ → Set → Option Body → List Entry → Type 0
FitsStored p c set None es = ⊥
FitsStored p c set (Some body) es = (set.field < length body.values)
    × (leased_to c (guard_of p.shape body.class set.object set.field) es ≡ Some Write)
    × Fits (kind_of p.shape body.class set.field) set.value

-- a set: the client holds the object, and may change the field of it that is stored
abbrev pub FitsSetBy : (ℕ → Option Body) → Settings → ℕ → List Entry → Set → Type 0
FitsSetBy graph p c es set = (holds_object c set.object es ≡ true) × FitsStored p c set (graph set.object) es

abbrev pub FitsSet : Settings → ℕ → List Entry → Set → Type 0
FitsSet p c es = FitsSetBy (λ o. stored p.shape o es) p c es

-- an object named: it is in the graph or among the news
abbrev pub IsNamedBy : (ℕ → Option Body) → List Body → Value → Type 0
IsNamedBy graph news (value.Ref o) = (graph o ≢ None) ⊎ (is_among o news ≡ true)
IsNamedBy graph news v = Unit {0}

abbrev pub IsNamed : Settings → List Body → List Entry → Value → Type 0
IsNamed p news es = IsNamedBy (λ o. stored p.shape o es) news

-- an object printed: its id was given out
abbrev pub IsPrinted : List Entry → Value → Type 0
IsPrinted es (value.Ref o) = is_given o es ≡ true
IsPrinted es v = Unit {0}

-- a text named is a literal
abbrev pub IsLiteral : Settings → Value → Type 0
IsLiteral p (value.Text t) = t < p.shape.texts
IsLiteral p v = Unit {0}

-- a thread that was woken here is one of the client's
abbrev pub FitsChoice : Settings → ℕ → Choice → Type 0
FitsChoice p c (Here t) = list_any (is_thread t) (threads_of p c) ≡ true
FitsChoice p c choice = Unit {0}

-- a notification: its lock is leased to the client at Write
abbrev pub FitsNote : Settings → ℕ → List Entry → Note → Type 0
FitsNote p c es note = (leased_to c note.lock es ≡ Some Write) × FitsChoice p c note.choice

-- an ending of thread t: the lock of an exit is leased to the client, that of a wait at Write; a timeout needs no
-- lease, and the thread's last record ended by a wait on that lock
abbrev pub FitsEnding : ℕ → ThreadId → Ending → List Entry → Type 0
FitsEnding c t (ending.Exit l) es = leased_to c l es ≢ None
FitsEnding c t (ending.Wait l) es = leased_to c l es ≡ Some Write
FitsEnding c t (ending.End fault) es = Unit {0}
FitsEnding c t (ending.Timeout l) es = last_ending t es ≡ Some (ending.Wait l)

-- the values that the record would put in the graph
abbrev pub stored_values : Txn → List Value
stored_values txn = flat_map (λ body. body.values) txn.news ++ map (λ set. set.value) txn.sets

-- a record: its number is the client's next; its thread is one of the client's and hasn't ended; and each part of it
-- fits, the objects published by rising id, the sets by rising object and field
pub record FitsRecordBy (graph : ℕ → Option Body) (p : Settings) (c : ℕ) (txn : Txn) (es : List Entry) : Type 0 where
  pub number : txn.seq ≡ suc (last_number c es)
  pub thread : list_any (is_thread txn.thread) (threads_of p c) ≡ true
  pub going : is_ended txn.thread es ≡ false
  pub news : AllByRecursion (FitsNewsBy graph p c es) txn.news
  pub news_rise : Rises (λ a b. ltb a.object b.object) txn.news
  pub sets : AllByRecursion (FitsSetBy graph p c es) txn.sets
  pub sets_rise : Rises is_field_before txn.sets
  pub named : AllByRecursion (IsNamedBy graph txn.news) (stored_values txn)
  pub printed : AllByRecursion (IsPrinted es) txn.outs
  pub texts : AllByRecursion (IsLiteral p) (stored_values txn ++ txn.outs)
  pub notes : AllByRecursion (FitsNote p c es) txn.notes
  pub ending : FitsEnding c txn.thread txn.ending es

abbrev pub FitsRecord : Settings → ℕ → Txn → List Entry → Type 0
FitsRecord p c txn es = FitsRecordBy (λ o. stored p.shape o es) p c txn es

-- Fits, at the server: the row of each message of client c. An ask for ids fits always; a fault of an object that is in
-- the graph and that the client doesn't hold; a flush of one that it holds.
abbrev pub FitsUpBy : (ℕ → Option Body) → Settings → ℕ → Up → List Entry → Type 0
FitsUpBy graph p c up.IdAsk es = Unit {0}
FitsUpBy graph p c (up.Fault o) es = (graph o ≢ None) × (holds_object c o es ≡ false)
FitsUpBy graph p c (up.Flushed o) es = holds_object c o es ≡ true
FitsUpBy graph p c (up.Request l level) es = FitsRequest p c l es
FitsUpBy graph p c (up.Return l threads) es = FitsReturn p c l threads es
FitsUpBy graph p c (up.Commit txn) es = FitsRecordBy graph p c txn es

abbrev pub FitsUp : Settings → ℕ → Up → List Entry → Type 0
FitsUp p c m es = FitsUpBy (λ o. stored p.shape o es) p c m es

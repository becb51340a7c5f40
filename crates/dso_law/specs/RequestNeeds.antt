-- What a thread's next request needs, and what its client asks for.
use Rattle.std.specs.List.{list_any}
use Rattle.std.specs.Prelude.{ℕ, Bool, true, false, cond, not, eqb, ◌&&◌, ◌||◌, is_some, Option, Some, None, List}
use Rattle.dso_base.specs.declared.journal.Entry.{Entry}
use Rattle.dso_base.specs.declared.lock.Level.{Level}
use Rattle.dso_base.specs.declared.lock.Level.TheVariants.{Read, Write}
use Rattle.dso_base.specs.declared.lock.LockName.{LockName}
use Rattle.dso_base.specs.declared.lock.ThreadId.{ThreadId}
use Rattle.dso_base.specs.declared.message.Up.{Up}
use Rattle.dso_base.specs.declared.message.Up.TheVariants as up
use Rattle.dso_base.specs.declared.request.Request.{Request}
use Rattle.dso_base.specs.declared.request.Request.TheVariants.{New, Look, Get, Put, Enter, Exit, Wait, Tick, Timeout}
use Rattle.dso_base.specs.declared.request.Request.TheVariants.{Resume, Notify, NotifyAll, Print, End, Pause, Settle}
use Rattle.dso_base.specs.declared.value.ClassId.{ClassId}
use Rattle.dso_base.specs.declared.value.ClassId.TheVariants as class
use Rattle.dso_base.specs.declared.value.Kind.{Kind}
use Rattle.dso_base.specs.declared.value.Kind.TheVariants as kind
use Rattle.dso_base.specs.Following.{is_thread}
use Rattle.dso_plain.specs.State.{Hold}
use Rattle.dso_law.specs.Settings.{Settings, threads_of}
use Rattle.dso_law.specs.Threads.{own, is_local, hold_of, last_seen}
use Rattle.dso_law.specs.Copies.{is_resident, class_held, is_object_asked}
use Rattle.dso_law.specs.Leases.{leased, is_asked_for}
use Rattle.dso_law.specs.ClientWaiters.{is_marked}
use Rattle.dso_law.specs.Records.{next_id, is_batch_asked, is_settled}
use Rattle.dso_law.specs.Closing.{admits}

-- what a request can lack: an id; that the object is resident; that it has the class and size that the thread saw; the
-- thread's mark; a lease of this level that admits; that other threads leave the lock; the acknowledgement of the
-- thread's last record
pub data Need : Type 0 where
  NeedsId : Need
  NeedsObject : ℕ → Need
  NeedsClass : ℕ → Need
  NeedsMark : LockName → Need
  NeedsLease : LockName → Level → Need
  NeedsOthersOut : LockName → Need
  NeedsAck : Need

-- whether the two kinds are one
abbrev pub is_kind : Kind → Kind → Bool
is_kind kind.Long kind.Long = true
is_kind kind.Bool kind.Bool = true
is_kind kind.Text kind.Text = true
is_kind kind.Ref kind.Ref = true
is_kind a b = false

-- whether the two classes are one
abbrev pub is_class : ClassId → ClassId → Bool
is_class (class.Plain a) (class.Plain b) = eqb a b
is_class (class.Array a) (class.Array b) = is_kind a b
is_class class.Roots class.Roots = true
is_class a b = false

-- whether both are there, of one class and size
abbrev pub is_seen_class : Option (ClassId × ℕ) → Option (ClassId × ℕ) → Bool
is_seen_class (Some a) (Some b) = is_class a.0 b.0 && eqb a.1 b.1
is_seen_class a b = false

-- whether there is a lease of at least the level
abbrev pub is_enough : Level → Option Level → Bool
is_enough level None = false
is_enough Read (Some lease) = true
is_enough Write (Some Write) = true
is_enough Write (Some Read) = false

-- whether two levels conflict: there is the other, and one of them is Write
abbrev pub conflicts : Level → Option Level → Bool
conflicts level None = false
conflicts Read (Some Read) = false
conflicts level other = true

-- the level of a hold
abbrev pub hold_level : Option Hold → Option Level
hold_level None = None
hold_level (Some hold) = Some hold.level

-- the need, where the test doesn't hold
abbrev pub unless : Bool → Need → Option Need
unless true need = None
unless false need = Some need

-- the first of two needs that isn't met
abbrev pub first_unmet : Option Need → Option Need → Option Need
first_unmet None later = later
first_unmet (Some need) later = Some need

-- the next request of each thread is an argument
module _ (p : Settings) (c : ℕ) (next : ThreadId → Option Request) where
  -- another thread of the client holds the lock in conflict with the level
  abbrev pub is_in_conflict : ThreadId → LockName → Level → List Entry → ThreadId → Bool
  is_in_conflict t l level es u = not (is_thread t u) && conflicts level (hold_level (hold_of u l es))

  -- an outer entry needs first a lease of at least the level that admits; then that no other thread of the client holds
  -- the lock in conflict
  abbrev pub entry_need : ThreadId → LockName → Level → List Entry → Option Need
  entry_need t l level es = first_unmet
      (unless (is_enough level (leased l es) && admits p c next l es) (NeedsLease l level))
      (unless (not (list_any (is_in_conflict t l level es) (threads_of p c))) (NeedsOthersOut l))

  -- a Look of an object that is not the thread's own needs it resident
  abbrev pub look_need : ThreadId → ℕ → List Entry → Option Need
  look_need t o es = unless (is_some (own p.shape t o es) || is_resident o es) (NeedsObject o)

  -- a Get or Put also needs that the object, where it isn't object 0, has the class and size that the thread's latest
  -- Look saw
  abbrev pub access_need : ThreadId → ℕ → List Entry → Option Need
  access_need t o es = first_unmet (look_need t o es)
      (unless (is_some (own p.shape t o es) || (eqb o 0 || is_seen_class (class_held o es) (last_seen t es)))
      (NeedsClass o))

  -- Needs: the first need of a thread's next request that isn't met, None where all are. New needs an id; Look, Get and
  -- Put the object; Enter the lock, but nothing where it is Local, an upgrade or a re-entry; Resume its mark and the
  -- lock at Write; Settle the acknowledgement of the thread's last record. All others need nothing.
  abbrev pub unmet : ThreadId → Request → List Entry → Option Need
  unmet t (New class n) es = unless (is_some (next_id es)) NeedsId
  unmet t (Look o) es = look_need t o es
  unmet t (Get o f) es = access_need t o es
  unmet t (Put o f v) es = access_need t o es
  unmet t (Enter l level) es = cond (is_local p.shape t l es || is_some (hold_of t l es)) None (entry_need t l level es)
  unmet t (Exit l) es = None
  unmet t (Wait l) es = None
  unmet t (Tick l) es = None
  unmet t (Timeout l) es = None
  unmet t (Resume l) es = first_unmet (unless (is_marked t es) (NeedsMark l)) (entry_need t l Write es)
  unmet t (Notify l) es = None
  unmet t (NotifyAll l) es = None
  unmet t (Print v) es = None
  unmet t (End fault) es = None
  unmet t Pause es = None
  unmet t Settle es = unless (is_settled t es) NeedsAck

-- the message, where the test doesn't hold
abbrev pub unless_asked : Bool → Up → Option Up
unless_asked true m = None
unless_asked false m = Some m

-- Asks: what a client sends for a need that isn't met. An id: a batch, where none is asked for. An object: a fault,
-- where it wasn't asked for since it was last absent. A lease: a request of the wanted level, where the lock has no
-- lease and isn't asked for. A class, a mark, other threads' leaving and an acknowledgement come unasked. Where nothing
-- is asked there is no act of that thread.
abbrev pub ask_for : Need → List Entry → Option Up
ask_for NeedsId es = unless_asked (is_batch_asked es) up.IdAsk
ask_for (NeedsObject o) es = unless_asked (is_object_asked o es) (up.Fault o)
ask_for (NeedsClass o) es = None
ask_for (NeedsMark l) es = None
ask_for (NeedsLease l level) es = unless_asked (is_some (leased l es) || is_asked_for l es) (up.Request l level)
ask_for (NeedsOthersOut l) es = None
ask_for NeedsAck es = None

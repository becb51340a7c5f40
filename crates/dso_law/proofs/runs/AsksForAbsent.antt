-- A client asks for an object only where it isn't resident, and for ids only where none is left.
use Rattle.std.specs.List.{list_any}
use Rattle.std.proofs.Common.{ℕ, ◌≡◌, refl, Bool, true, false, cond, not, ◌&&◌, ◌||◌, is_some, Option, Some, None, List}
use Rattle.dso_base.specs.declared.journal.Entry.{Entry}
use Rattle.dso_base.specs.declared.lock.Level.{Level}
use Rattle.dso_base.specs.declared.lock.Level.TheVariants.{Write}
use Rattle.dso_base.specs.declared.lock.LockName.{LockName}
use Rattle.dso_base.specs.declared.lock.ThreadId.{ThreadId}
use Rattle.dso_base.specs.declared.request.Request.{Request}
use Rattle.dso_base.specs.declared.request.Request.TheVariants.{New, Look, Get, Put, Enter, Resume, Settle}
use Rattle.dso_law.specs.Settings.{Settings, threads_of}
use Rattle.dso_law.specs.Threads.{own, is_local, hold_of}
use Rattle.dso_law.specs.Copies.{is_resident}
use Rattle.dso_law.specs.Leases.{leased}
use Rattle.dso_law.specs.Records.{next_id, is_settled}
use Rattle.dso_law.specs.ClientWaiters.{is_marked}
use Rattle.dso_law.specs.Closing.{admits}
use Rattle.dso_law.specs.RequestNeeds.{Need, NeedsId, NeedsObject, NeedsClass, NeedsMark, NeedsLease, NeedsOthersOut, NeedsAck, is_enough, is_in_conflict, entry_need, look_need, access_need, unless, first_unmet, unmet}

-- What the need says: of an object, that it isn't resident; of an id, that there is none.
abbrev pub IsLacking : List Entry → Option Need → Type 0
IsLacking es (Some NeedsId) = next_id es ≡ None
IsLacking es (Some (NeedsObject o)) = is_resident o es ≡ false
IsLacking es need = Unit {0}

-- another need
other_unless : (es : List Entry) (b : Bool) (need : Need) → IsLacking es (Some need) → IsLacking es (unless b need)
other_unless es true need h = tt
other_unless es false need h = h

-- the first of two
lacking_first : (es : List Entry) (a b : Option Need) → IsLacking es a → IsLacking es b → IsLacking es (first_unmet a b)
lacking_first es None b h k = k
lacking_first es (Some need) b h k = h

lacking_id : (es : List Entry) (id : Option ℕ) → next_id es ≡ id → IsLacking es (unless (is_some id) NeedsId)
lacking_id es None e = e
lacking_id es (Some o) e = tt

lacking_unless : (es : List Entry) (o : ℕ) (a b : Bool) → is_resident o es ≡ b → IsLacking es (unless (a || b) (NeedsObject o))
lacking_unless es o true b e = tt
lacking_unless es o false true e = tt
lacking_unless es o false false e = e

module _ (p : Settings) (c : ℕ) (next : ThreadId → Option Request) (t : ThreadId) (es : List Entry) where
  lacking_look : (o : ℕ) → IsLacking es (look_need p c next t o es)
  lacking_look o = lacking_unless es o (is_some (own p.shape t o es)) (is_resident o es) refl

  lacking_access : (o : ℕ) → IsLacking es (access_need p c next t o es)
  lacking_access o = lacking_first es (look_need p c next t o es) _ (lacking_look o) (other_unless es _ (NeedsClass o) tt)

  lacking_entry : (l : LockName) (level : Level) → IsLacking es (entry_need p c next t l level es)
  lacking_entry l level = lacking_first es (unless (is_enough level (leased l es) && admits p c next l es) (NeedsLease l level)) _
      (other_unless es (is_enough level (leased l es) && admits p c next l es) (NeedsLease l level) tt)
      (other_unless es (not (list_any (is_in_conflict p c next t l level es) (threads_of p c))) (NeedsOthersOut l) tt)

  lacking_enter : (b : Bool) (l : LockName) (level : Level) → IsLacking es (cond b None (entry_need p c next t l level es))
  lacking_enter true l level = tt
  lacking_enter false l level = lacking_entry l level

  -- the first need that isn't met
  pub lacking : (request : Request) → IsLacking es (unmet p c next t request es)
  lacking (New class n) = lacking_id es (next_id es) refl
  lacking (Look o) = lacking_look o
  lacking (Get o f) = lacking_access o
  lacking (Put o f v) = lacking_access o
  lacking (Enter l level) = lacking_enter (is_local p.shape t l es || is_some (hold_of t l es)) l level
  lacking (Resume l) = lacking_first es (unless (is_marked t es) (NeedsMark l)) _ (other_unless es (is_marked t es) (NeedsMark l) tt) (lacking_entry l Write)
  lacking Settle = other_unless es (is_settled t es) NeedsAck tt
  lacking other = tt

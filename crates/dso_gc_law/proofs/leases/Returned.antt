-- What the leases that an entry gives back name, and what it asks for again.
use Rattle.std.specs.List.{list_any}
use Rattle.std.specs.Option.{option_map_or}
use Rattle.std.proofs.Common.{ℕ, ◌≡◌, refl, sym, ◌∙◌, Bool, true, false, cond, not, ◌&&◌, ◌||◌, Option, Some, List}
use Rattle.std.proofs.Common.{[], ◌∷◌, map}
use Rattle.dso_base.specs.declared.journal.Entry.{Entry}
use Rattle.dso_base.specs.declared.lock.Level.TheVariants.{Write}
use Rattle.dso_base.specs.declared.lock.LockName.{LockName}
use Rattle.dso_base.specs.declared.lock.LockName.TheVariants.{Mon}
use Rattle.dso_base.specs.declared.lock.ThreadId.{ThreadId}
use Rattle.dso_base.specs.declared.message.Up.{Up}
use Rattle.dso_base.specs.declared.message.Up.TheVariants as up
use Rattle.dso_base.specs.declared.request.Event.{Event}
use Rattle.dso_base.specs.declared.request.Request.{Request}
use Rattle.dso_base.specs.declared.request.Request.TheVariants.{Enter}
use Rattle.dso_base.specs.Naming.{lock_names, request_names, up_names}
use Rattle.dso_plain.specs.KeyTests.{is_lock}
use Rattle.dso_law.specs.Settings.{Settings}
use Rattle.dso_law.specs.Entries.{unsent}
use Rattle.dso_law.specs.Closing.{is_closing, due}
use Rattle.dso_law.specs.ClientWaiters.{client_list}
use Rattle.dso_law.specs.ClientStep.{returns, asks_again}
use Rattle.dso_law.specs.ClientRun.{ClientRun, next_in}
use Rattle.dso_gc_law.proofs.leases.LocksNamed.{lock_names_is}
use Rattle.dso_gc_law.proofs.leases.Touched.{Names, due_is_touched, monitor_named}

-- what some messages to the server name
abbrev pub ups_name : List Up → ℕ → Bool
ups_name ms o = list_any (λ m. up_names m o) ms

module _ (o : ℕ) where
  -- returns name the objects whose monitors they give back
  given_back : (list : LockName → List ThreadId) (locks : List LockName)
      → ups_name (map (λ k. up.Return k (list k)) locks) o ≡ list_any (is_lock (Mon o)) locks
  given_back list [] = refl
  given_back list (k ∷ locks) = λ i. lock_names_is k o i || given_back list locks i

  -- so those that name an object give its monitor back
  pub returns_due : (p : Settings) (c : ℕ) (next : ThreadId → Option Request) (its : List Entry)
      → ups_name (returns p c next its) o ≡ true → list_any (is_lock (Mon o)) (due p c next its) ≡ true
  returns_due p c next its is = sym (given_back (λ l. client_list l its) (due p c next its)) ∙ is

  -- a lock that is asked for again
  again_if : (l : LockName) (b : Bool) → ups_name (cond b (up.Request l Write ∷ []) []) o ≡ true
      → lock_names l o ≡ true
  again_if l true is = alone (lock_names l o) is
    where
      alone : (b : Bool) → (b || false) ≡ true → b ≡ true
      alone true is = refl
      alone false is = absurd (cc is)
  again_if l false is = absurd (cc is)

  -- what is asked for again, the next request names
  pub again_named : (p : Settings) (c : ℕ) (before later : ThreadId → Option Request) (request : Option Request)
      (now es : List Entry)
      → ups_name (asks_again p c before later request now es) o ≡ true
      → option_map_or (λ r. request_names r o) request false ≡ true
  again_named p c before later (Some (Enter l Write)) now es is =
      again_if l (not (is_closing p c before l es) && list_any (is_lock l) (due p c later now)) is
  again_named p c before later request now es is = absurd (cc is)

-- Returns are named: in a run of a client, where the leases that an entry gives back name an object, the entry does.
abbrev pub ReturnsAreNamed : Type 0
ReturnsAreNamed = (p : Settings) (c : ℕ) (next : ThreadId → List Event → Option Request) (e : Entry) (es : List Entry)
    → ClientRun p c next (e ∷ es) → (o : ℕ) → ups_name (returns p c (next_in next (e ∷ es)) (unsent e ∷ es)) o ≡ true
    → Names p c (next_in next (e ∷ es)) e o

pub returns_are_named : ReturnsAreNamed
returns_are_named p c next e es run o is = monitor_named p c (next_in next (e ∷ es)) e o
    (due_is_touched p c next e es run (Mon o) (returns_due o p c (next_in next (e ∷ es)) (unsent e ∷ es) is))

-- In a journal, what the leases that a client's entry gives back name, the entry names.
use Rattle.std.specs.List.{list_any}
use Rattle.std.proofs.Common.{ℕ, ◌≡◌, ap, ◌∙◌, true, Option, List, [], ◌∷◌}
use Rattle.dso_base.specs.declared.journal.Entry.{Entry}
use Rattle.dso_base.specs.declared.journal.Node.TheVariants.{Client}
use Rattle.dso_base.specs.declared.lock.LockName.{LockName}
use Rattle.dso_base.specs.declared.lock.LockName.TheVariants.{Mon}
use Rattle.dso_base.specs.declared.lock.ThreadId.{ThreadId}
use Rattle.dso_base.specs.declared.request.Event.{Event}
use Rattle.dso_base.specs.declared.request.Request.{Request}
use Rattle.dso_plain.specs.KeyTests.{is_lock}
use Rattle.dso_plain.proofs.keys.SameKeys.{same_number}
use Rattle.dso_law.specs.Settings.{Settings}
use Rattle.dso_law.specs.Entries.{unsent, entries_of, events_in}
use Rattle.dso_law.specs.Closing.{due}
use Rattle.dso_law.specs.ClientStep.{returns}
use Rattle.dso_law.specs.ClientRun.{AreSameFor, next_in}
use Rattle.dso_law.proofs.runs.OwnRequests.{same_due}
use Rattle.dso_law.proofs.runs.Quiet.{nothing_is_due}
use Rattle.dso_legal.specs.Lawful.{next_after, AllFollow}
use Rattle.dso_legal.proofs.runs.ClientsRun.{runs}
use Rattle.dso_gc_law.proofs.leases.Touched.{Names, Touches, due_touched, monitor_named}
use Rattle.dso_gc_law.proofs.leases.Returned.{ups_name, returns_due}

module _ (p : Settings) (next : ThreadId → List Event → Option Request) (c : ℕ) where
  -- the next requests of the client's threads by its own entries
  own_next : (es : List Entry) → AreSameFor c (next_after next es) (next_in next (entries_of (Client c) es))
  own_next es t own = ap (λ n. next t (events_in t (entries_of (Client n) es))) (same_number t.client c own)

  -- nothing is due between two entries of a journal
  pub quiet_after : (es : List Entry) → AllFollow p next es → due p c (next_after next es) (entries_of (Client c) es)
      ≡ []
  quiet_after es follow = same_due p c (next_after next es) (next_in next (entries_of (Client c) es)) (own_next es)
      (entries_of (Client c) es)
      ∙ nothing_is_due p c next (entries_of (Client c) es) (runs p next c es follow)

  -- what is due after an entry, before it sends, the entry touches
  pub touched_after : (e : Entry) (es : List Entry) → AllFollow p next es → (l : LockName)
      → list_any (is_lock l) (due p c (next_after next (e ∷ es)) (unsent e ∷ entries_of (Client c) es)) ≡ true
      → Touches p c (next_after next (e ∷ es)) l e
  touched_after e es follow l is = due_touched p c (next_after next es) (next_after next (e ∷ es)) e
      (entries_of (Client c) es) l (quiet_after es follow) is

  -- so what its returns name it names
  pub returns_named_after : (e : Entry) (es : List Entry) → AllFollow p next es → (o : ℕ)
      → ups_name (returns p c (next_after next (e ∷ es)) (unsent e ∷ entries_of (Client c) es)) o ≡ true
      → Names p c (next_after next (e ∷ es)) e o
  returns_named_after e es follow o is = monitor_named p c (next_after next (e ∷ es)) e o
      (touched_after e es follow (Mon o) (returns_due o p c (next_after next (e ∷ es))
      (unsent e ∷ entries_of (Client c) es) is))

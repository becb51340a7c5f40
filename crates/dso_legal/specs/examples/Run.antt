-- What is judged of an example.
use Rattle.std.specs.Prelude.{ℕ, ◌≡◌, true, Option, List, [], ◌∷◌}
use Rattle.dso_base.specs.declared.journal.Entry.{Entry}
use Rattle.dso_base.specs.declared.lock.ThreadId.{ThreadId}
use Rattle.dso_base.specs.declared.request.Event.{Event}
use Rattle.dso_base.specs.declared.request.Request.{Request}
use Rattle.dso_law.specs.Settings.{Settings}
use Rattle.dso_legal.specs.Lawful.{IsLawful}
use Rattle.dso_legal.specs.Committed.{committed}
use Rattle.dso_legal.specs.Slots.{Slot, open_slots, is_finished, weight}

-- the open slots before each entry, the last entry first
abbrev pub open_before : Settings → (ThreadId → List Event → Option Request) → List Entry → List (List Slot)
open_before p next [] = []
open_before p next (e ∷ es) = open_slots p next es ∷ open_before p next es

-- the entries, the newest first, are those of a finished run: a lawful journal, with these open slots before each
-- entry, this committed history and this weight
pub record IsRun (p : Settings) (next : ThreadId → List Event → Option Request) (es : List Entry)
    (open_slots : List (List Slot)) (history : List Event) (n : ℕ) : Type 0 where
  pub lawful : IsLawful p next es
  pub finished : is_finished p es ≡ true
  pub opens : open_before p next es ≡ open_slots
  pub commits : committed es ≡ history
  pub weighs : weight es ≡ n

-- Runs of one client: a client's entries of a lawful journal are one, and what else holds of them.
use Rattle.std.specs.List.{list_any}
use Rattle.std.specs.Prelude.{ℕ, ◌≤◌, ◌≡◌, true, false, ltb, Option, List}
use Rattle.dso_base.specs.declared.journal.Entry.{Entry}
use Rattle.dso_base.specs.declared.journal.Node.TheVariants.{Client}
use Rattle.dso_base.specs.declared.lock.ThreadId.{ThreadId}
use Rattle.dso_base.specs.declared.request.Event.{Event}
use Rattle.dso_base.specs.declared.request.Request.{Request}
use Rattle.dso_law.specs.Settings.{Settings}
use Rattle.dso_law.specs.Entries.{entries_of}
use Rattle.dso_law.specs.Threads.{work_of}
use Rattle.dso_law.specs.Copies.{is_resident}
use Rattle.dso_law.specs.Records.{unacked}
use Rattle.dso_law.specs.ClientStep.{changes_object}
use Rattle.dso_law.specs.ClientRun.{ClientRun}
use Rattle.dso_law.specs.FitsUp.{Rises}
use Rattle.dso_legal.specs.Lawful.{IsLawful}
use Rattle.dso_legal.specs.MadeOnce.{IdsRise}
use Rattle.dso_legal.specs.OwnObjects.{count_in_hand, was_published}
use Rattle.dso_legal.specs.Residency.{is_set}

-- Runs: in a lawful journal the entries of each client are a run of it, of a lost one too.
abbrev pub ClientsRun : Type 0
ClientsRun = (p : Settings) (next : ThreadId → List Event → Option Request) (es : List Entry) → IsLawful p next es
    → (c : ℕ) → ClientRun p c next (entries_of (Client c) es)

-- by a client's entries: what the open block of a thread sets is resident, and so is what a record changes that isn't
-- acknowledged
pub record ChangesAreHere (p : Settings) (es : List Entry) : Type 0 where
  pub in_block : (t : ThreadId) (o : ℕ) → is_set o (work_of p.shape t es).sets ≡ true → is_resident o es ≡ true
  pub unacknowledged : (o : ℕ) → list_any (changes_object o) (unacked es) ≡ true → is_resident o es ≡ true

-- Changes: so in a run. So no change is of an absent object.
abbrev pub ChangesStayResident : Type 0
ChangesStayResident = (p : Settings) (c : ℕ) (next : ThreadId → List Event → Option Request) (es : List Entry)
    → ClientRun p c next es → ChangesAreHere p es

-- Ids: in a run the ids of the objects made rise, and the next one is above them.
abbrev pub IdsRiseInRuns : Type 0
IdsRiseInRuns = (p : Settings) (c : ℕ) (next : ThreadId → List Event → Option Request) (es : List Entry)
    → ClientRun p c next es → IdsRise es

-- what a thread has in hand, by its client's entries: each object once, the published ones by rising id, and none in a
-- record that was sent
pub record HandIsOnce (p : Settings) (t : ThreadId) (es : List Entry) : Type 0 where
  pub once : (o : ℕ) → count_in_hand o (work_of p.shape t es) ≤ 1
  pub news : Rises (λ a b. ltb a.object b.object) (work_of p.shape t es).news
  pub unpublished : (o : ℕ) → 1 ≤ count_in_hand o (work_of p.shape t es) → was_published o es ≡ false

-- Hands: so of each thread in a run.
abbrev pub HandsAreOnce : Type 0
HandsAreOnce = (p : Settings) (c : ℕ) (next : ThreadId → List Event → Option Request) (es : List Entry)
    → ClientRun p c next es → (t : ThreadId) → HandIsOnce p t es

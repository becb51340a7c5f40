-- What a thread has in hand is its own: it made these objects, and none of them was published before.
use Rattle.std.specs.List.{list_any}
use Rattle.std.specs.Prelude.{ℕ, ◌+◌, ◌≡◌, Bool, true, false, cond, eqb, ◌||◌, Option, List, [], ◌∷◌}
use Rattle.dso_base.specs.declared.journal.Entry.{Entry}
use Rattle.dso_base.specs.declared.journal.Node.TheVariants.{Client}
use Rattle.dso_base.specs.declared.lock.ThreadId.{ThreadId}
use Rattle.dso_base.specs.declared.message.Up.{Up}
use Rattle.dso_base.specs.declared.message.Up.TheVariants as up
use Rattle.dso_base.specs.declared.record.Body.{Body}
use Rattle.dso_base.specs.declared.request.Event.{Event}
use Rattle.dso_base.specs.declared.request.Request.{Request}
use Rattle.dso_base.specs.Block.{Work}
use Rattle.dso_law.specs.Settings.{Settings}
use Rattle.dso_law.specs.Entries.{entries_of, by_sent_up}
use Rattle.dso_law.specs.Threads.{work_of}
use Rattle.dso_law.specs.Copies.{is_among}
use Rattle.dso_legal.specs.Lawful.{IsLawful}
use Rattle.dso_legal.specs.MadeOnce.{objects_of}

-- a record with the object among its news
abbrev pub published_by : ℕ → Up → Bool → Bool
published_by o (up.Commit txn) before = is_among o txn.news || before
published_by o m before = before

-- whether the client sent such a record
abbrev pub was_published : ℕ → List Entry → Bool
was_published o [] = false
was_published o (e ∷ es) = by_sent_up (published_by o) e.sent (was_published o es)

-- how many of the bodies are of the object
abbrev pub count_bodies : ℕ → List Body → ℕ
count_bodies o [] = 0
count_bodies o (body ∷ bodies) = cond (eqb body.object o) 1 0 + count_bodies o bodies

-- how often the object stands among the private objects and the news
abbrev pub count_in_hand : ℕ → Work → ℕ
count_in_hand o work = count_bodies o work.privates + count_bodies o work.news

-- whether the thread has the object in hand: it is private to it, or published in its open block
abbrev pub has_in_hand : Settings → ThreadId → ℕ → List Entry → Bool
has_in_hand p t o es = let work = work_of p.shape t (entries_of (Client t.client) es) in is_among o work.privates
    || is_among o work.news

-- An object that the thread has in hand: it made it, has it once, no client sent a record that publishes it, and no
-- other thread has it in hand.
pub record IsOwn (p : Settings) (t : ThreadId) (o : ℕ) (es : List Entry) : Type 0 where
  pub made : list_any (eqb o) (objects_of t (entries_of (Client t.client) es)) ≡ true
  pub once : count_in_hand o (work_of p.shape t (entries_of (Client t.client) es)) ≡ 1
  pub unpublished : (c : ℕ) → was_published o (entries_of (Client c) es) ≡ false
  pub alone : (u : ThreadId) → has_in_hand p u o es ≡ true → u ≡ t

-- In a lawful journal, what a thread has in hand is so, a thread of a lost client too.
abbrev pub ObjectsInHandAreOwn : Type 0
ObjectsInHandAreOwn = (p : Settings) (next : ThreadId → List Event → Option Request) (es : List Entry)
    → IsLawful p next es
    → (t : ThreadId) (o : ℕ) → has_in_hand p t o es ≡ true → IsOwn p t o es

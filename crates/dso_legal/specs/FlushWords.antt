-- When an object may be flushed, in the words of what open blocks set.
use Rattle.std.specs.List.{list_any}
use Rattle.std.specs.Prelude.{ℕ, ◌≡◌, Bool, true, false, not, ◌&&◌, Option, List}
use Rattle.dso_base.specs.declared.journal.Entry.{Entry}
use Rattle.dso_base.specs.declared.journal.Node.TheVariants.{Client}
use Rattle.dso_base.specs.declared.lock.ThreadId.{ThreadId}
use Rattle.dso_base.specs.declared.request.Event.{Event}
use Rattle.dso_base.specs.declared.request.Request.{Request}
use Rattle.dso_law.specs.Settings.{Settings, threads_of}
use Rattle.dso_law.specs.Entries.{entries_of}
use Rattle.dso_law.specs.Threads.{work_of}
use Rattle.dso_law.specs.Copies.{is_resident, residents}
use Rattle.dso_law.specs.Records.{unacked}
use Rattle.dso_law.specs.ClientStep.{changes_object, wants_object, is_flushable, is_full, may_flush}
use Rattle.dso_legal.specs.Lawful.{IsLawful}
use Rattle.dso_legal.specs.OwnObjects.{has_in_hand}
use Rattle.dso_legal.specs.Residency.{is_set}

-- Flushable, as a client keeps it: the object is resident; no record that isn't acknowledged changes it, no open block
-- of the client sets a field of it, and no thread's last act entry asked for it.
abbrev pub is_free_to_flush : Settings → ℕ → ℕ → List Entry → Bool
is_free_to_flush p c o es = is_resident o es && (not (list_any (changes_object o) (unacked es))
    && (not (list_any (λ t. is_set o (work_of p.shape t es).sets) (threads_of p c))
    && not (list_any (λ t. wants_object o t.index es) (threads_of p c))))

-- In hand: in a lawful journal an object that a thread has in hand is resident at no client.
abbrev pub InHandIsAbsent : Type 0
InHandIsAbsent = (p : Settings) (next : ThreadId → List Event → Option Request) (es : List Entry) → IsLawful p next es
    → (t : ThreadId) (o : ℕ) → has_in_hand p t o es ≡ true → (c : ℕ) → is_resident o (entries_of (Client c) es) ≡ false

-- a client's flushes are told alike
pub record TellsFlush (p : Settings) (c : ℕ) (es : List Entry) : Type 0 where
  pub flushable : (o : ℕ) → is_free_to_flush p c o es ≡ is_flushable p c o es
  pub may : (is_full p es && list_any (λ o. is_free_to_flush p c o es) (residents es)) ≡ may_flush p c es

-- Flushes: in a lawful journal both words tell the same of each client.
abbrev pub FlushWordsAgree : Type 0
FlushWordsAgree = (p : Settings) (next : ThreadId → List Event → Option Request) (es : List Entry) → IsLawful p next es
    → (c : ℕ) → TellsFlush p c (entries_of (Client c) es)

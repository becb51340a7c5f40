-- What is kept of the topics that an entry of a client touches (crate dso_world): their buckets, a bit for each. It may
-- have more than the entry touches, never less.
use Rattle.std.specs.Int.{bit_at}
use Rattle.std.specs.List.{list_any}
use Rattle.std.specs.Option.{option_map_or}
use Rattle.std.specs.Prelude.{ℕ, ◌≡◌, Bool, true, false, eqb, ◌||◌, Option, Some, None, List}
use Rattle.dso_base.specs.declared.journal.Entry.{Entry}
use Rattle.dso_base.specs.declared.journal.Input.{Input}
use Rattle.dso_base.specs.declared.lock.ThreadId.{ThreadId}
use Rattle.dso_base.specs.declared.request.Event.{Event}
use Rattle.dso_base.specs.declared.request.Event.TheVariants.{Act, Lost}
use Rattle.dso_base.specs.declared.request.Reply.{Reply}
use Rattle.dso_base.specs.declared.request.Request.{Request}
use Rattle.dso_open_law.specs.FewTouched.{few_taken, few_done, few_acted, few_topics}
use Rattle.dso_open_law.specs.TouchedThreads.{Topic, is_topic, made_topics}
use Rattle.dso_world.specs.declared.touched_threads.Touches.{Touches}
use Rattle.dso_world.specs.AskingThreads.{bucket_of}

-- whether the bucket is one of these
abbrev pub has_bucket : Touches → ℕ → Bool
has_bucket touches b = eqb (bit_at touches.buckets b) 1

-- whether the bucket of the topic is one of these
abbrev pub has : Touches → Topic → Bool
has touches about = option_map_or (has_bucket touches) (bucket_of about) false

-- the second has the buckets of the first, and this one
pub record AddsBucket (b : ℕ) (old new : Touches) : Type 0 where
  pub here : bit_at new.buckets b ≡ 1
  pub others : (i : ℕ) → bit_at old.buckets i ≡ 1 → bit_at new.buckets i ≡ 1

-- the second has what the first has, and these topics
abbrev pub Adds : List Topic → Touches → Touches → Type 0
Adds topics old new = (about : Topic) → (has old about || list_any (is_topic about) topics) ≡ true
    → has new about ≡ true

-- so for what the entry's input touches, whatever entries came before
abbrev pub AddsTaken : Input → Touches → Touches → Type 0
AddsTaken input old new = (before after : ThreadId → Option Request) (es : List Entry)
    → Adds (few_taken before after es input) old new

-- so for what an act makes
abbrev pub AddsMade : Reply → Touches → Touches → Type 0
AddsMade reply old new = (es : List Entry) → Adds (made_topics es reply) old new

-- so for what an act does, whichever thread's it is
abbrev pub AddsDone : Request → Reply → Option ThreadId → Touches → Touches → Type 0
AddsDone request reply woken old new = (before after : ThreadId → Option Request) (es : List Entry) (t : ThreadId)
    → Adds (few_done before after es t request reply woken) old new

-- the thread that acts asked for what its event answers, and asks this next, where any thread acts
abbrev pub AreAsked : Option Event → Option Request → (before after : ThreadId → Option Request) → Type 0
AreAsked None next before after = Unit {0}
AreAsked (Some (Act t request reply woken)) next before after = (before t ≡ Some request) × (after t ≡ next)
AreAsked (Some (Lost client)) next before after = Unit {0}

-- so for what an event touches
abbrev pub AddsActed : Option Event → Option Request → Touches → Touches → Type 0
AddsActed event next old new = (before after : ThreadId → Option Request) (es : List Entry)
    → AreAsked event next before after → Adds (few_acted before after es event) old new

-- These have all that the entry touches, whatever entries came before it.
abbrev pub Covers : Entry → Option Request → Touches → Type 0
Covers entry next touches = (before after : ThreadId → Option Request) (es : List Entry)
    → AreAsked entry.event next before after → (about : Topic)
    → list_any (is_topic about) (few_topics before after es entry) ≡ true → has touches about ≡ true

-- A batch of ids that comes ends within 64 bits: no more batches are given than the journal has entries.
use Rattle.std.specs.Prelude.{List, Option, length, ℕ, ◌+◌, ◌<◌, ◌^◌}
use Rattle.dso_base.specs.declared.journal.Entry.{Entry}
use Rattle.dso_base.specs.declared.lock.ThreadId.{ThreadId}
use Rattle.dso_base.specs.declared.message.Down.TheVariants.{Ids}
use Rattle.dso_base.specs.declared.request.Event.{Event}
use Rattle.dso_base.specs.declared.request.Request.{Request}
use Rattle.dso_law.specs.Channels.{IsFirst, down_in_flight}
use Rattle.dso_law.specs.Settings.{Settings, batch_size}
use Rattle.dso_legal.specs.Lawful.{AllFollow}

-- Batches have room: after fewer than 2 ^ 54 entries, each of which follows those before it, a batch that comes to
-- a client, to a lost one too, ends below 2 ^ 64.
abbrev pub BatchesHaveRoom : Type 0
BatchesHaveRoom = (p : Settings) (next : ThreadId → List Event → Option Request) (es : List Entry)
    → AllFollow p next es → length es < 2 ^ 54
    → (c first : ℕ) → IsFirst (Ids first) (down_in_flight c es) → first + batch_size < 2 ^ 64

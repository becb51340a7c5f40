-- The numbers of the kinds of messages.
use Rattle.std.specs.Prelude.{ℕ}
use Rattle.dso_base.specs.declared.message.Up.{Up}
use Rattle.dso_base.specs.declared.message.Up.TheVariants as up

-- the number of a message's kind, as the wire has it
abbrev pub tag_of : Up → ℕ
tag_of up.IdAsk = 1
tag_of (up.Fault o) = 2
tag_of (up.Flushed o) = 3
tag_of (up.Request l level) = 4
tag_of (up.Return l threads) = 5
tag_of (up.Commit r) = 6

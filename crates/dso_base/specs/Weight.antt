-- What a journal weighs.
use Rattle.std.specs.Prelude.{ℕ, suc, ◌+◌, length, sum_by}
use Rattle.dso_base.specs.declared.journal.Entry.{Entry}
use Rattle.dso_base.specs.declared.journal.Journal.{Journal}
use Rattle.dso_base.specs.declared.journal.Sent.{Sent}
use Rattle.dso_base.specs.declared.journal.Sent.TheVariants.{ToServer, ToClient}
use Rattle.dso_base.specs.declared.message.Down.{Down}
use Rattle.dso_base.specs.declared.message.Down.TheVariants as down
use Rattle.dso_base.specs.declared.message.Up.{Up}
use Rattle.dso_base.specs.declared.message.Up.TheVariants as up
use Rattle.dso_base.specs.declared.record.Body.{Body}
use Rattle.dso_base.specs.declared.record.Txn.{Txn}

-- how many values a body has
abbrev pub body_values_of : Body → ℕ
body_values_of body = length body.values

-- how many values a record has: those of its bodies, its sets and what it printed
abbrev pub txn_values_of : Txn → ℕ
txn_values_of txn = sum_by body_values_of txn.news + length txn.sets + length txn.outs

-- how many values a message has: those of bodies, sets and what was printed
abbrev pub up_values_of : Up → ℕ
up_values_of (up.Commit txn) = txn_values_of txn
up_values_of message = 0

abbrev pub down_values_of : Down → ℕ
down_values_of (down.Object body) = body_values_of body
down_values_of (down.Changes sets) = length sets
down_values_of message = 0

abbrev pub sent_values_of : Sent → ℕ
sent_values_of (ToServer message) = up_values_of message
sent_values_of (ToClient client message) = down_values_of message

-- one for the entry and one for each value that it sends
abbrev pub entry_weight_of : Entry → ℕ
entry_weight_of entry = suc (sum_by sent_values_of entry.sent)

-- one for each entry and one for each value in a message that an entry sends
abbrev pub weight_of : Journal → ℕ
weight_of journal = sum_by entry_weight_of journal.entries

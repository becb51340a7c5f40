-- The body that a client holds of an object.
use Rattle.std.specs.Prelude.{ℕ, eqb, cond, Option, Some, None, List, [], ◌∷◌}
use Rattle.dso_base.specs.declared.journal.Entry.{Entry}
use Rattle.dso_base.specs.declared.journal.Input.{Input}
use Rattle.dso_base.specs.declared.journal.Input.TheVariants.{Flush}
use Rattle.dso_base.specs.declared.message.Down.{Down}
use Rattle.dso_base.specs.declared.message.Down.TheVariants as down
use Rattle.dso_base.specs.declared.message.Up.{Up}
use Rattle.dso_base.specs.declared.message.Up.TheVariants as up
use Rattle.dso_base.specs.declared.record.Body.{Body}
use Rattle.dso_law.specs.Entries.{by_taken_down, by_sent_up}
use Rattle.dso_law.specs.Store.{body_by_news, body_by_sets}

-- an object that is taken is held whole; changes set its fields
abbrev pub body_by_taken : ℕ → Down → Option Body → Option Body
body_by_taken o (down.Object body) before = cond (eqb body.object o) (Some body) before
body_by_taken o (down.Changes sets) before = body_by_sets o sets before
body_by_taken o m before = before

-- a record that is sent gives the objects that it publishes, and sets fields
abbrev pub body_by_sent : ℕ → Up → Option Body → Option Body
body_by_sent o (up.Commit txn) before = body_by_sets o txn.sets (body_by_news o txn.news before)
body_by_sent o m before = before

-- a flush of the object drops it
abbrev pub body_by_flush : ℕ → Input → Option Body → Option Body
body_by_flush o (Flush x) before = cond (eqb x o) None before
body_by_flush o input before = before

-- Held: the body of an object while it is resident, with the latest value of each field.
abbrev pub held_body : ℕ → List Entry → Option Body
held_body o [] = None
held_body o (e ∷ es) = body_by_flush o e.input
    (by_sent_up (body_by_sent o) e.sent (by_taken_down (body_by_taken o) e.input (held_body o es)))

-- The server's graph, and which client holds which object. The entries are those that count.
use Rattle.std.specs.Prelude.{ℕ, Bool, true, false, cond, eqb, Option, Some, None, List, [], ◌∷◌, slice_set, replicate}
use Rattle.dso_base.specs.declared.journal.Entry.{Entry}
use Rattle.dso_base.specs.declared.journal.Input.{Input}
use Rattle.dso_base.specs.declared.journal.Input.TheVariants.{TookUp, Lose}
use Rattle.dso_base.specs.declared.message.Up.{Up}
use Rattle.dso_base.specs.declared.message.Up.TheVariants as up
use Rattle.dso_base.specs.declared.record.Body.{Body}
use Rattle.dso_base.specs.declared.record.Set.{Set}
use Rattle.dso_base.specs.declared.shape.Shape.{Shape}
use Rattle.dso_base.specs.declared.value.ClassId.TheVariants as class
use Rattle.dso_base.specs.declared.value.Value.TheVariants as value
use Rattle.dso_law.specs.Entries.{by_taken_up}
use Rattle.dso_law.specs.Copies.{is_among}

-- object 0 before any record: of class Roots, each root null
abbrev pub opening_roots : Shape → Body
opening_roots shape = record { object = 0; class = class.Roots; values = replicate shape.roots value.Null }

-- the last of the bodies that is of the object
abbrev pub body_by_news : ℕ → List Body → Option Body → Option Body
body_by_news o [] before = before
body_by_news o (body ∷ bodies) before = body_by_news o bodies (cond (eqb body.object o) (Some body) before)

-- the body with the value of a set
abbrev pub body_with : Set → Option Body → Option Body
body_with set None = None
body_with set (Some body) = Some (record body { values = slice_set body.values set.field set.value })

-- the body with the values of those sets that are of the object
abbrev pub body_by_sets : ℕ → List Set → Option Body → Option Body
body_by_sets o [] before = before
body_by_sets o (set ∷ sets) before = body_by_sets o sets (cond (eqb set.object o) (body_with set before) before)

-- what a message taken makes of the object's body
abbrev pub body_by : ℕ → ℕ → Up → Option Body → Option Body
body_by o c (up.Commit txn) before = body_by_sets o txn.sets (body_by_news o txn.news before)
body_by o c m before = before

-- Store: the body of an object, by the records taken, with the latest value of each field.
abbrev pub stored : Shape → ℕ → List Entry → Option Body
stored shape o [] = cond (eqb o 0) (Some (opening_roots shape)) None
stored shape o (e ∷ es) = by_taken_up (body_by o) e.input (stored shape o es)

-- what a message of the client makes of its holding
abbrev pub held_by_message : ℕ → Up → Bool → Bool
held_by_message o (up.Fault x) before = cond (eqb x o) true before
held_by_message o (up.Flushed x) before = cond (eqb x o) false before
held_by_message o (up.Commit txn) before = cond (is_among o txn.news) true before
held_by_message o m before = before

-- what an input makes of the client's holding: its messages, and its loss
abbrev pub held_by : ℕ → ℕ → Input → Bool → Bool
held_by c o (TookUp d m) before = cond (eqb c d) (held_by_message o m before) before
held_by c o (Lose d) before = cond (eqb c d) false before
held_by c o input before = before

-- Holds: the latest of the client's faults and flushes of the object and its records with it among the news is there
-- and isn't the flush, and the client isn't lost.
abbrev pub holds_object : ℕ → ℕ → List Entry → Bool
holds_object c o [] = false
holds_object c o (e ∷ es) = held_by c o e.input (holds_object c o es)

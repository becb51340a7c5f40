-- The body that a client holds of an object is of that object.
use Rattle.std.proofs.Common.{◌≡◌, ℕ, refl, Bool, true, false, cond, eqb, Option, Some, None, List, [], ◌∷◌}
use Rattle.std.proofs.lemmas.Bool.{eqb-true}
use Rattle.dso_base.specs.declared.journal.Entry.{Entry}
use Rattle.dso_base.specs.declared.journal.Input.{Input}
use Rattle.dso_base.specs.declared.journal.Input.TheVariants as input
use Rattle.dso_base.specs.declared.journal.Sent.{Sent}
use Rattle.dso_base.specs.declared.journal.Sent.TheVariants.{ToServer, ToClient}
use Rattle.dso_base.specs.declared.message.Down.{Down}
use Rattle.dso_base.specs.declared.message.Down.TheVariants as down
use Rattle.dso_base.specs.declared.message.Up.{Up}
use Rattle.dso_base.specs.declared.message.Up.TheVariants as up
use Rattle.dso_base.specs.declared.record.Body.{Body}
use Rattle.dso_base.specs.declared.record.Set.{Set}
use Rattle.dso_law.specs.Entries.{by_taken_down, by_sent_up}
use Rattle.dso_law.specs.HeldBody.{body_by_taken, body_by_sent, body_by_flush, held_body}
use Rattle.dso_law.specs.Store.{body_by_news, body_with, body_by_sets}

module _ (o : ℕ) where
  -- a body that is there is of the object
  abbrev IsOf : Option Body → Type 0
  IsOf None = Unit {0}
  IsOf (Some body) = body.object ≡ o

  of_body : (body : Body) (before : Option Body) (here : Bool) → eqb body.object o ≡ here → IsOf before → IsOf (cond here (Some body) before)
  of_body body before true e h = eqb-true body.object o e
  of_body body before false e h = h

  of_news : (bodies : List Body) (before : Option Body) → IsOf before → IsOf (body_by_news o bodies before)
  of_news [] before h = h
  of_news (body ∷ bodies) before h = of_news bodies (cond (eqb body.object o) (Some body) before) (of_body body before (eqb body.object o) refl h)

  of_with : (set : Set) (before : Option Body) → IsOf before → IsOf (body_with set before)
  of_with set None h = h
  of_with set (Some body) h = h

  of_set : (set : Set) (before : Option Body) (here : Bool) → IsOf before → IsOf (cond here (body_with set before) before)
  of_set set before true h = of_with set before h
  of_set set before false h = h

  of_sets : (sets : List Set) (before : Option Body) → IsOf before → IsOf (body_by_sets o sets before)
  of_sets [] before h = h
  of_sets (set ∷ sets) before h = of_sets sets (cond (eqb set.object o) (body_with set before) before) (of_set set before (eqb set.object o) h)

  of_taken : (m : Down) (before : Option Body) → IsOf before → IsOf (body_by_taken o m before)
  of_taken (down.Object body) before h = of_body body before (eqb body.object o) refl h
  of_taken (down.Changes sets) before h = of_sets sets before h
  of_taken m before h = h

  of_input : (i : Input) (before : Option Body) → IsOf before → IsOf (by_taken_down (body_by_taken o) i before)
  of_input (input.TookDown m) before h = of_taken m before h
  of_input i before h = h

  of_said : (m : Up) (before : Option Body) → IsOf before → IsOf (body_by_sent o m before)
  of_said (up.Commit txn) before h = of_sets txn.sets (body_by_news o txn.news before) (of_news txn.news before h)
  of_said m before h = h

  of_sent : (sent : List Sent) (before : Option Body) → IsOf before → IsOf (by_sent_up (body_by_sent o) sent before)
  of_sent [] before h = h
  of_sent (ToServer m ∷ sent) before h = of_sent sent (body_by_sent o m before) (of_said m before h)
  of_sent (ToClient c m ∷ sent) before h = of_sent sent before h

  of_flush : (i : Input) (before : Option Body) → IsOf before → IsOf (body_by_flush o i before)
  of_flush (input.Flush x) before h = by (eqb x o)
    where
      by : (here : Bool) → IsOf (cond here None before)
      by true = tt
      by false = h
  of_flush i before h = h

  held_of : (es : List Entry) → IsOf (held_body o es)
  held_of [] = tt
  held_of (e ∷ es) = of_flush e.input (by_sent_up (body_by_sent o) e.sent (by_taken_down (body_by_taken o) e.input (held_body o es)))
      (of_sent e.sent (by_taken_down (body_by_taken o) e.input (held_body o es)) (of_input e.input (held_body o es) (held_of es)))

  there_of : (found : Option Body) (body : Body) → found ≡ Some body → IsOf found → body.object ≡ o
  there_of None body e h = absurd (cc e)
  there_of (Some other) body e h = cc (e, h)

pub held_object : (o : ℕ) (es : List Entry) (body : Body) → held_body o es ≡ Some body → body.object ≡ o
held_object o es body e = there_of o (held_body o es) body e (held_of o es)

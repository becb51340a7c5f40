-- Each object but the roots' was made in the history.
use Rattle.std.proofs.Common.{ℕ, ◌≡◌, ◌≢◌, ◌⊎◌, inl, inr, refl, Bool, true, false, cond, eqb, Some, None, List, [], ◌∷◌}
use Rattle.dso_base.specs.declared.request.Event.{Event}
use Rattle.dso_base.specs.declared.request.Event.TheVariants.{Act, Lost}
use Rattle.dso_base.specs.declared.shape.Shape.{Shape}
use Rattle.dso_plain.specs.State.{PlainState, opening, roots_object}
use Rattle.dso_plain.specs.Possible.{MayButMarks}
use Rattle.dso_plain.specs.After.{after, change_of}
use Rattle.dso_plain.specs.History.{RunsButMarks, end_of}
use Rattle.dso_plain.specs.Touches.{Makes, MakesIn}
use Rattle.dso_plain.proofs.independence.WritesGuarded.{guarded}
use Rattle.dso_plain.proofs.keys.SameKeys.{same_number, written_is}
use Rattle.dso_plain.proofs.independence.LeavesOthers.{absent_private}
use Rattle.dso_legal.specs.Names.{ObjectsAreMade}

-- an object that is there after an event was there before it, or the event makes it
made_by : (shape : Shape) (e : Event) (s : PlainState) (o : ℕ) → MayButMarks shape e s → (after shape e s).objects o ≢ None → (s.objects o ≢ None) ⊎ Makes e o
made_by shape (Lost client) s o m there = inl there
made_by shape (Act t request reply woken) s o m there =
    let c = change_of shape t request reply woken s in
    let g = guarded shape t s request reply woken m.answers in
    written_is (λ new. new ≢ None → (s.objects o ≢ None) ⊎ Makes (Act t request reply woken) o) c.objects s.objects o
    (λ v e some. elim (g.objects o v e).0 [
      | inl own ↦ inl (λ absent. absent_private t (s.objects o) absent own)
      | inr new ↦ inr new.1
    ])
    (λ some. inl some) there

-- an object that is there after a run was there before it, or the run makes it
pub made_in : (shape : Shape) (es : List Event) (s : PlainState) (o : ℕ) → RunsButMarks shape es s → (end_of shape es s).objects o ≢ None → (s.objects o ≢ None) ⊎ MakesIn es o
made_in shape [] s o m there = inl there
made_in shape (e ∷ es) s o m there = elim (made_in shape es (after shape e s) o m.1 there) [
  | inl before ↦ elim (made_by shape e s o m.0 before) [
    | inl earlier ↦ inl earlier
    | inr now ↦ inr (inl now)
  ]
  | inr later ↦ inr (inr later)
]

-- at first only the roots' object is there
only_roots : (shape : Shape) (o : ℕ) → (opening shape).objects o ≢ None → o ≡ 0
only_roots shape o there = by (eqb o 0) refl there
  where
    by : (b : Bool) → eqb o 0 ≡ b → cond b (Some (roots_object shape)) None ≢ None → o ≡ 0
    by true is some = same_number o 0 is
    by false is some = absurd (some refl)

-- Objects are made.
pub objects_are_made : ObjectsAreMade
objects_are_made shape h m o there = elim (made_in shape h (opening shape) o m there) [
  | inl first ↦ inl (only_roots shape o first)
  | inr made ↦ inr made
]

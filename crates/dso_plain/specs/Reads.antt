-- Which reads of a run give the heap's value.
use Rattle.std.specs.Prelude.{◌≤◌, ◌≡◌, Some, List, [], ◌∷◌}
use Rattle.dso_base.specs.declared.request.Event.{Event}
use Rattle.dso_base.specs.declared.request.Event.TheVariants.{Act}
use Rattle.dso_base.specs.declared.request.Reply.TheVariants.{Val}
use Rattle.dso_base.specs.declared.request.Request.TheVariants.{Get}
use Rattle.dso_base.specs.declared.shape.Shape.{Shape}
use Rattle.dso_plain.specs.State.{PlainState, opening}
use Rattle.dso_plain.specs.After.{after}
use Rattle.dso_plain.specs.History.{RunsButMarks, end_of, last_state}

-- where the event is a Get that gives a value, it is the value that the heap has
abbrev pub ReadsHeap : Event → PlainState → Type 0
ReadsHeap (Act t (Get o f) (Val v) woken) s = s.heap (o, f) ≡ Some v
ReadsHeap e s = Unit {0}

-- each Get of the events gives the value that the heap has at its place among them
abbrev pub EachReadsHeap : Shape → List Event → PlainState → Type 0
EachReadsHeap shape [] s = Unit {0}
EachReadsHeap shape (e ∷ es) s = ReadsHeap e s × EachReadsHeap shape es (after shape e s)

-- Heap reads: where a history that runs from the opening state counts no unguarded read, each Get in it gives the value
-- that the heap has at its place. Whatever is marked, and so in each legal history.
abbrev pub HeapReads : Type 0
HeapReads = (shape : Shape) (h : List Event) → RunsButMarks shape h (opening shape)
    → (last_state shape h).unguarded ≡ 0 → EachReadsHeap shape h (opening shape)

-- The count of unguarded reads never falls.
abbrev pub CountNeverFalls : Type 0
CountNeverFalls = (shape : Shape) (es : List Event) (s : PlainState) → s.unguarded ≤ (end_of shape es s).unguarded

-- Where no read was unguarded, each gives the heap's value.
use Rattle.std.proofs.Common.{ℕ, suc, ◌≤◌, ◌≡◌, inl, inr, sym, ◌∙◌, ap, Bool, true, false, Option, Some, List, [], ◌∷◌, arith}
use Rattle.dso_base.specs.declared.lock.ThreadId.{ThreadId}
use Rattle.dso_base.specs.declared.request.Event.{Event}
use Rattle.dso_base.specs.declared.request.Event.TheVariants.{Act}
use Rattle.dso_base.specs.declared.request.Reply.TheVariants.{Val}
use Rattle.dso_base.specs.declared.request.Request.TheVariants.{Get}
use Rattle.dso_base.specs.declared.shape.Shape.{Shape}
use Rattle.dso_base.specs.declared.value.Value.{Value}
use Rattle.dso_plain.specs.State.{PlainState, opening}
use Rattle.dso_plain.specs.Possible.{MayButMarks, AnswersGet}
use Rattle.dso_plain.specs.After.{after, change, counted, read, read_shared}
use Rattle.dso_plain.specs.History.{RunsButMarks, end_of}
use Rattle.dso_plain.specs.Reads.{CountNeverFalls, EachReadsHeap, HeapReads, ReadsHeap}

-- a count is as it was or one more
at_least : (b : Bool) (n : ℕ) → n ≤ counted b n
at_least true n = omega arith
at_least false n = omega arith

pub count_never_falls : CountNeverFalls
count_never_falls shape [] s = omega arith
count_never_falls shape (e ∷ es) s = omega (arith, at_least (change shape e s).unguarded s.unguarded, count_never_falls shape es (after shape e s))

-- a read that isn't counted is of the heap's value
uncounted_get : (shape : Shape) (t : ThreadId) (o f : ℕ) (v : Value) (woken : Option ThreadId) (s : PlainState)
    → AnswersGet shape t o f (Val v) s → (after shape (Act t (Get o f) (Val v) woken) s).unguarded ≡ s.unguarded → s.heap (o, f) ≡ Some v
uncounted_get shape t o f v woken s (inl private) same = private.1
uncounted_get shape t o f v woken s (inr (inl guarded)) same = guarded.2
uncounted_get shape t o f v woken s (inr (inr unguarded)) same =
    let counts : (after shape (Act t (Get o f) (Val v) woken) s).unguarded ≡ suc s.unguarded =
    ap (λ b. counted (read shape t o f b s).unguarded s.unguarded) unguarded.0 ∙ ap (λ hold. counted (read_shared t o f hold s).unguarded s.unguarded) unguarded.1 in
    absurd (omega (arith, same, counts))

uncounted : (shape : Shape) (e : Event) (s : PlainState) → MayButMarks shape e s → (after shape e s).unguarded ≡ s.unguarded → ReadsHeap e s
uncounted shape (Act t (Get o f) (Val v) woken) s may same = uncounted_get shape t o f v woken s may.answers same
uncounted shape e s may same = tt

-- where the count stays as it was
each_reads_heap : (shape : Shape) (es : List Event) (s : PlainState) → RunsButMarks shape es s
    → (end_of shape es s).unguarded ≡ s.unguarded → EachReadsHeap shape es s
each_reads_heap shape [] s runs same = tt
each_reads_heap shape (e ∷ es) s runs same =
    let here : (after shape e s).unguarded ≡ s.unguarded =
    omega (arith, same, at_least (change shape e s).unguarded s.unguarded, count_never_falls shape es (after shape e s)) in
    (uncounted shape e s runs.0 here, each_reads_heap shape es (after shape e s) runs.1 (same ∙ sym here))

pub heap_reads : HeapReads
heap_reads shape h runs none = each_reads_heap shape h (opening shape) runs none

use Rattle.std.proofs.Common.{◌≡◌, sym, ◌∙◌, ap, cond, Some}
use Rattle.dso_table.proofs.objects.FirstNotes.{first_noting, nobody_noted, first_noted}
use Rattle.dso_table.proofs.notes.first_thread.Goals as goal

pub returns-then-contains_key-clause-first : goal.returns-then-contains_key-clause-first
returns-then-contains_key-clause-first c =
    let o = c.args.object in
    let found : first_noting o c.args.notes.now.entries ≡ Some c.in-Some.thread.now = sym c.loop-thread.invariant ∙ (ap (λ es. first_noting o es) c.in-Some.ensures.steps ∙ ap (λ b. cond b (Some c.in-Some.thread.now) (first_noting o c.next.new.self)) (sym c.contains_key.ensures ∙ c.if-contains_key.true)) in
    let h = first_noted o c.args.notes.now.entries c.iter-thread-items.ensures.ordered c.in-Some.thread.now found in
    record { noted = h.0; first = h.1 }

pub returns-clause-none : goal.returns-clause-none
returns-clause-none c = nobody_noted c.args.object c.args.notes.now.entries (sym c.loop-thread.invariant ∙ ap (λ es. first_noting c.args.object es) c.in-None.ensures.steps.0)

use Rattle.std.proofs.Common.{◌≡◌, sym, ◌∙◌, ap, subst, is_some, List, ◌∷◌}
use Rattle.std.specs.List.Sorted.{IsStrictlySortedBy}
use Rattle.std.specs.Map.{keys_of}
use Rattle.dso_lookup.specs.Orders.{thread_order}
use Rattle.dso_hold.proofs.OtherHolders.{held_by, first_held, first_least, not_other, other_held, rest_rises, second_differs}
use Rattle.dso_hold.proofs.tables.first_but.Goals as goal

pub returns-then-ne-clause-least : goal.returns-then-ne-clause-least
returns-then-ne-clause-least c = λ u other there.
    let is = sym c.iter-holders.ensures.rest ∙ c.in_ok-first.ensures.steps in
    first_least c.in_ok-first.first.now c.in_ok-first.held.now c.next.new.self
    (subst (λ holders. IsStrictlySortedBy thread_order (keys_of holders)) is c.iter-holders.ensures.ordered) u
    (ap (λ holders. is_some (held_by holders u)) (sym is) ∙ there)

pub returns-clause-other : goal.returns-clause-other
returns-clause-other c = λ same.
    let first = c.in_ok-first.first.now in
    let held = c.in_ok-first.held.now in
    let is = sym c.iter-holders.ensures.rest ∙ (c.in_ok-first.ensures.steps ∙ ap (λ holders. (first, held) ∷ holders) c.in_ok-second.ensures.steps) in
    second_differs first c.in_ok-second.second.now held c.in_ok-second.held.now c.next-2.new.self
    (subst (λ holders. IsStrictlySortedBy thread_order (keys_of holders)) is c.iter-holders.ensures.ordered)
    (same ∙ sym (not_other first c.args.thread (sym c.ne.ensures ∙ c.if-ne.false)))

pub returns-clause-holder : goal.returns-clause-holder
returns-clause-holder c =
    let first = c.in_ok-first.first.now in
    let held = c.in_ok-first.held.now in
    let second = c.in_ok-second.second.now in
    let other = c.in_ok-second.held.now in
    let rest = c.next-2.new.self in
    let is = sym c.iter-holders.ensures.rest ∙ (c.in_ok-first.ensures.steps ∙ ap (λ holders. (first, held) ∷ holders) c.in_ok-second.ensures.steps) in
    ap (λ holders. held_by holders second) is
    ∙ (other_held first held ((second, other) ∷ rest) second
    (second_differs first second held other rest (subst (λ holders. IsStrictlySortedBy thread_order (keys_of holders)) is c.iter-holders.ensures.ordered))
    ∙ first_held second other rest)

pub returns-clause-least : goal.returns-clause-least
returns-clause-least c = λ u differs there.
    let first = c.in_ok-first.first.now in
    let held = c.in_ok-first.held.now in
    let second = c.in_ok-second.second.now in
    let other = c.in_ok-second.held.now in
    let rest = c.next-2.new.self in
    let is = sym c.iter-holders.ensures.rest ∙ (c.in_ok-first.ensures.steps ∙ ap (λ holders. (first, held) ∷ holders) c.in_ok-second.ensures.steps) in
    let same = not_other first c.args.thread (sym c.ne.ensures ∙ c.if-ne.false) in
    first_least second other rest
    (rest_rises first held ((second, other) ∷ rest) (subst (λ holders. IsStrictlySortedBy thread_order (keys_of holders)) is c.iter-holders.ensures.ordered)) u
    (ap is_some (sym (other_held first held ((second, other) ∷ rest) u (λ e. differs (e ∙ same)))) ∙ (ap (λ holders. is_some (held_by holders u)) (sym is) ∙ there))

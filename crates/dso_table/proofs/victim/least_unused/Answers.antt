use Rattle.std.proofs.Common.{sym, ◌∙◌, subst, List, ℕ}
use Rattle.dso_table.proofs.objects.LookedAt.{AreLeft, all_left, fewer_left, found_left, none_left}
use Rattle.dso_table.proofs.victim.least_unused.Goals as goal

pub loop-object-init : goal.loop-object-init
loop-object-init c = all_left c.args.tables.now c.into_iter-object-iterator.result (c.into_iter-object-iterator.ensures.into_iter_gives ∙ c.iter-object-items.ensures.rest) c.iter-object-items.ensures.ordered

pub loop-object-preserved : goal.loop-object-preserved
loop-object-preserved c = fewer_left c.args.tables.now c.in-Some.object.now c.next.new.self (subst (λ (xs : List ℕ). AreLeft c.args.tables.now xs) c.in-Some.ensures.steps c.loop-object.invariant) (λ f. absurd (cc (sym c.if-is_flushable.false ∙ c.is_flushable.ensures.1 f)))

pub returns-then-is_flushable-clause-least : goal.returns-then-is_flushable-clause-least
returns-then-is_flushable-clause-least c = found_left c.args.tables.now c.requires c.in-Some.object.now c.next.new.self (subst (λ (xs : List ℕ). AreLeft c.args.tables.now xs) c.in-Some.ensures.steps c.loop-object.invariant) (c.is_flushable.ensures.0 c.if-is_flushable.true)

pub returns-clause-none : goal.returns-clause-none
returns-clause-none c = none_left c.args.tables.now c.requires (subst (λ (xs : List ℕ). AreLeft c.args.tables.now xs) c.in-None.ensures.steps.0 c.loop-object.invariant)

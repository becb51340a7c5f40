use Rattle.std.proofs.Common.{sym, ◌∙◌, ap, subst, List, ℕ, []}
use Rattle.std.specs.Map.{keys_of}
use Rattle.std.specs.Option.{option_map_or}
use Rattle.dso_table.proofs.objects.LookedAt.{AreLater, all_later, fewer_later, found_later, none_later, keys_behind}
use Rattle.dso_table.proofs.victim.least_recent.Goals as goal

pub loop-object-init : goal.loop-object-init
loop-object-init c = all_later c.args.tables.now (keys_of c.into_iter-object-iterator.result.iter) (ap (λ recent. option_map_or (λ r. keys_of r.entries) recent []) c.in-Some.is ∙ sym (ap (λ r. keys_of r.iter) c.into_iter-object-iterator.ensures.into_iter_gives ∙ (ap (λ es. keys_of es) (c.rev-object-items.ensures.source ∙ c.iter.ensures.rest))))

pub loop-object-preserved : goal.loop-object-preserved
loop-object-preserved c = fewer_later c.args.tables.now c.in-Some-2.object.now (keys_of c.loop-object.object-iterator.iter) (keys_of c.next.new.self.iter) (ap (λ es. keys_of es) c.in-Some-2.ensures.steps ∙ keys_behind c.next.new.self.iter (c.in-Some-2.object.now, c.in-Some-2.field-0-1.now)) c.loop-object.invariant (λ f. absurd (cc (sym c.if-is_flushable.false ∙ c.is_flushable.ensures.1 f)))

pub returns-then-is_flushable-clause-least : goal.returns-then-is_flushable-clause-least
returns-then-is_flushable-clause-least c = found_later c.args.tables.now c.in-Some-2.object.now (keys_of c.loop-object.object-iterator.iter) (keys_of c.next.new.self.iter) (ap (λ es. keys_of es) c.in-Some-2.ensures.steps ∙ keys_behind c.next.new.self.iter (c.in-Some-2.object.now, c.in-Some-2.field-0-1.now)) c.loop-object.invariant c.requires (c.is_flushable.ensures.0 c.if-is_flushable.true)

pub returns-clause-none : goal.returns-clause-none
returns-clause-none c = none_later c.args.tables.now (subst (λ (xs : List ℕ). AreLater c.args.tables.now xs) (ap (λ es. keys_of es) c.in-None.ensures.steps.0) c.loop-object.invariant) c.requires

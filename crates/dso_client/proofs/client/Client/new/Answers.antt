use Rattle.std.proofs.Common.{◌∙◌, ap, subst, sym, map, length}
use Rattle.std.specs.List.{AllByRecursion}
use Rattle.dso_table.specs.ObjectTables.{state_in}
use Rattle.dso_client.specs.Openings.{IsOpening}
use Rattle.dso_client.proofs.contexts.AtStart.{holds_none, stands_at_start}
use Rattle.dso_client.proofs.client.Client.new.Goals as goal

pub returns-in-Ok-clause-stands : goal.returns-in-Ok-clause-stands
returns-in-Ok-clause-stands c = λ p shape room ours.
    let kept = c.opening_kept.ensures in
    stands_at_start c.args.code.now p c.args.number shape c.opening_kept.result c.args.threads c.args.resident kept.number room ours
    (ap (λ contexts. map (λ context. context.id) contexts.items) kept.contexts ∙ c.in_ok-contexts.ensures.ids)
    (ap (λ contexts. length contexts.items) kept.contexts ∙ c.in_ok-contexts.ensures.many)
    (subst (λ contexts. AllByRecursion (IsOpening c.args.code.now) contexts.items) (sym kept.contexts) c.in_ok-contexts.ensures.opening)
    (ap state_in kept.table ∙ c.in-Ok.ensures) kept.lock_state kept.sequences

pub returns-in-Ok-clause-records : goal.returns-in-Ok-clause-records
returns-in-Ok-clause-records c = c.opening_kept.ensures.sequences.records

pub returns-in-Ok-clause-holds : goal.returns-in-Ok-clause-holds
returns-in-Ok-clause-holds c = holds_none c.args.code.now c.opening_kept.result
    (subst (λ contexts. AllByRecursion (IsOpening c.args.code.now) contexts.items) (sym c.opening_kept.ensures.contexts) c.in_ok-contexts.ensures.opening) c.opening_kept.ensures.lock_state

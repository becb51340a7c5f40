use Rattle.std.proofs.Common.{sym, ◌∙◌, subst}
use Rattle.dso_client.specs.ContextEffects.{AppliesToOne}
use Rattle.dso_client.proofs.acts.Concerned.{all_are, both_are}
use Rattle.dso_client.proofs.context_effect.apply_to_contexts.Goals as goal

pub returns-then-marks_all : goal.returns-then-marks_all
returns-then-marks_all c =
    all_are c.args.lock_state.now c.args.act c.args.contexts.now c.apply_to_all.new.contexts c.apply_to_all.ensures

pub returns-else-marks_all : goal.returns-else-marks_all
returns-else-marks_all c =
    let ls = c.args.lock_state.now in
    let act = c.args.act in
    let mid = c.apply_to_one.new.contexts in
    let new = c.apply_to_one-else-marks_all.new.contexts in
    both_are ls act (sym c.marks_all.ensures ∙ c.if-marks_all.false) c.args.contexts.now mid new c.apply_to_one.ensures
    (subst (λ n. AppliesToOne ls act n mid new) c.woken_index.ensures c.apply_to_one-else-marks_all.ensures)

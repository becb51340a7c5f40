use Rattle.std.proofs.Common.{◌≡◌, ◌∙◌, None, Some, IfErr, IfOk, ap, sym, subst}
use Rattle.toml.specs.Data.{as_array}
use Rattle.toml.specs.View.{items_view, view}
use Rattle.dso_config.specs.Keys.{IsTold}
use Rattle.dso_config.proofs.SectionFaults.{array_fault, array_is, says_array-ok}
use Rattle.dso_config.proofs.section.said.Given as given
use Rattle.dso_config.proofs.section.said.Goals as goal

-- the value is the array that was found
found : (g : given.Over) (c : goal.After-entries g) → as_array (view c.args.value.now) ≡ Some (items_view c.as_slice.result.now)
found g c =
    array_is (view c.args.value.now) c.as_array.result c.in-Some.values c.as_array.ensures c.in-Some.is
    ∙ ap (λ values. Some (items_view values)) (sym c.as_slice.ensures.value)

pub returns-clause-ok : goal.returns-clause-ok
returns-clause-ok g c = says_array-ok _ _ _ c.entries.result (found g c) c.entries.ensures.ok

pub returns-clause-right : goal.returns-clause-right
returns-clause-right g c = subst (λ wrong. IfOk c.entries.result (λ _. wrong ≡ None)) (sym (array_fault (g.R.SectionRules.rules c.args.rules.now) _ _ (found g c))) c.entries.ensures.right

pub returns-clause-err : goal.returns-clause-err
returns-clause-err g c = subst (λ wrong. IfErr c.entries.result (IsTold wrong)) (sym (array_fault (g.R.SectionRules.rules c.args.rules.now) _ _ (found g c))) c.entries.ensures.err

use Rattle.std.proofs.Common.{rules, ◌≡◌, refl, sym, subst, [], Err}
use Rattle.dso_class.specs.WholeProgram.{AnswersWhole}
use Rattle.dso_class.proofs.walks.WholeText.{IsNew, new_has_met, whole_of_items, refused_whole}
use Rattle.dso_class.proofs.resolution.walk.Goals as goal

pub returns : goal.returns
returns c source set same =
    let ready : IsNew _ = record { names = c.new.ensures; texts = c.new-2.ensures; statics = refl; classes = c.new-3.ensures; methods = c.new-4.ensures; bodies = c.new-5.ensures } in
    whole_of_items source c.args.items.now _ c.items.new.resolved same ready (c.in_ok-items.ensures source [] set (new_has_met _ ready))

pub returns-in_err-items : goal.returns-in_err-items
returns-in_err-items c source set same =
    let ready : IsNew _ = record { names = c.new.ensures; texts = c.new-2.ensures; statics = refl; classes = c.new-3.ensures; methods = c.new-4.ensures; bodies = c.new-5.ensures } in
    let told : c.from_residual.result ≡ Err c.in_err-items.field-0.0 = search rules in
    subst (AnswersWhole source) (sym told) (refused_whole source c.args.items.now c.in_err-items.field-0.0 same (c.in_err-items.ensures source [] set (new_has_met _ ready)))

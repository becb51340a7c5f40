use Rattle.std.proofs.Common.{[], ◌∷◌, sym, subst}
use Rattle.std.specs.Option.{option_to_list}
use Rattle.std.proofs.lemmas.Result.{on_ok_weaker}
use Rattle.dso_lint.specs.Lists.{Adds}
use Rattle.dso_lint.specs.Trees.{IsPart}
use Rattle.dso_lint.proofs.standing.Additions.{OfOne, adds_of_none, adds_of_one}
use Rattle.dso_lint.proofs.lists.add_returned.Goals as goal

pub returns-in-None : goal.returns-in-None
returns-in-None c = subst (λ r. Adds (OfOne IsPart (option_to_list r)) c.args.list.now.items c.args.list.now.items) (sym c.in-None.is) (adds_of_none IsPart c.args.list.now.items)

pub returns-in-Some : goal.returns-in-Some
returns-in-Some c =
    on_ok_weaker c.add_parts.result (λ added. subst (λ r. Adds (OfOne IsPart (option_to_list r)) c.args.list.now.items c.add_parts.new.list.items) (sym c.in-Some.is)
    (subst (λ w. Adds (OfOne IsPart (w ∷ [])) c.args.list.now.items c.add_parts.new.list.items) c.get.ensures (adds_of_one IsPart c.get.result.now c.args.list.now.items c.add_parts.new.list.items added))) c.add_parts.ensures

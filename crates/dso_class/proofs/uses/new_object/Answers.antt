use Rattle.std.proofs.Common.{refl, subst}
use Rattle.dso_class.specs.Maps.{reachable_classes}
use Rattle.dso_class.specs.NameFaults.{IsReachableClass}
use Rattle.dso_class.specs.Mentions.{new}
use Rattle.dso_class.specs.Numbers.{IsNumber}
use Rattle.dso_class.specs.declared.fault.NameKind.TheVariants as kind
use Rattle.dso_class.proofs.rules.InBodies.{new_fault}
use Rattle.dso_class.proofs.lists.Among.{not_none}
use Rattle.dso_class.proofs.mentions.Single.{new_found}
use Rattle.dso_class.proofs.walks.BodyParts.{failed_alone}
use Rattle.dso_class.proofs.uses.new_object.Goals as goal

pub returns-in-Some : goal.returns-in-Some
returns-in-Some c texts scope source before is has =
    let name = c.args.name.now.name in
    let there = not_none c.in-Some.number (c.in-Some.ensures.there source is.tables) in
    new_found c.args.name.now.line c.in-Some.number name has (subst (λ word. (IsReachableClass source.ast word → ⊥) → ⊥) c.as_slice.ensures there)
    (λ no_fault. subst (λ word. IsNumber (reachable_classes source.ast) word c.in-Some.number) c.as_slice.ensures (c.in-Some.ensures.number source is.tables no_fault))

pub returns-in-None : goal.returns-in-None
returns-in-None c texts scope source before is has =
    failed_alone c.args.name.now.line (new c.args.name.now.name) kind.UnknownClass (λ n number. IsNumber n.classes c.args.name.now.name number)
    (new_fault (subst (λ word. IsReachableClass source.ast word → ⊥) c.as_slice.ensures ((c.in-None.ensures.there source is.tables).0 refl)))

use Rattle.std.proofs.Common.{◌↔◌, IsNone, not, refl, subst, sym, ap, ◌∙◌}
use Rattle.dso_class.specs.NameFaults.{IsClass}
use Rattle.dso_class.specs.Mentions as mention
use Rattle.dso_class.specs.Numbers.{IsNumber}
use Rattle.dso_class.specs.BodyWalk.{known_in}
use Rattle.dso_class.specs.declared.fault.NameKind.TheVariants as kind
use Rattle.dso_class.proofs.rules.InBodies.{called_unknown, called_class}
use Rattle.dso_class.proofs.lists.Among.{not_none}
use Rattle.dso_class.proofs.mentions.Single.{called_found}
use Rattle.dso_class.proofs.walks.BodyParts.{failed_alone}
use Rattle.dso_class.proofs.walks.Narrowing.{variable_number}
use Rattle.dso_class.proofs.uses.called.Goals as goal

pub returns-in-Some : goal.returns-in-Some
returns-in-Some c texts source before is has =
    called_found c.args.line c.narrow.result c.args.name.now has (not_none c.in-Some.number (c.in-Some.ensures.none has.known))
    (variable_number c.args.name.now c.in-Some.number c.narrow.result has c.in-Some.ensures.found c.narrow.ensures)

pub returns-then-is_none : goal.returns-then-is_none
returns-then-is_none c texts source before is has =
    let name = c.args.name.now in
    let class = subst (λ word. IsNone c.class_number.result ↔ (IsClass source.ast word → ⊥)) c.as_slice.ensures (c.class_number.ensures.there source is.tables) in
    let unknown = (c.in_default.ensures.none has.known).0 refl in
    failed_alone c.args.line (mention.called (known_in c.args.scope.now) name) kind.UnknownVariable (λ n number. IsNumber n.variables name number)
    (called_unknown unknown (class.0 (c.is_none.ensures ∙ ap not c.if-is_none.true)))

pub returns : goal.returns
returns c texts source before is has =
    let name = c.args.name.now in
    let class = subst (λ word. IsNone c.class_number.result ↔ (IsClass source.ast word → ⊥)) c.as_slice.ensures (c.class_number.ensures.there source is.tables) in
    let unknown = (c.in_default.ensures.none has.known).0 refl in
    let there : (IsClass source.ast name → ⊥) → ⊥ = λ none. cc (sym (c.is_none.ensures ∙ ap not c.if-is_none.false) ∙ class.1 none) in
    failed_alone c.args.line (mention.called (known_in c.args.scope.now) name) kind.UnknownRoot (λ n number. IsNumber n.variables name number) (called_class unknown there)

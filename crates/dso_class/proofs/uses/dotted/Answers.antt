use Rattle.std.proofs.Common.{rules, ◌↔◌, Contains, IsNone, Some, not, refl, subst, sym, ap, ◌∙◌}
use Rattle.dso_class.specs.Declarations.{all_statics}
use Rattle.dso_class.specs.NameFaults.{IsClass}
use Rattle.dso_class.specs.Mentions as mention
use Rattle.dso_class.specs.Numbers.{IsNumber}
use Rattle.dso_class.specs.BodyWalk.{known_in, HeadMeans}
use Rattle.dso_class.specs.declared.fault.NameKind.TheVariants as kind
use Rattle.dso_class.proofs.rules.InBodies.{dotted_unknown, dotted_no_static}
use Rattle.dso_class.proofs.lists.Among.{not_none}
use Rattle.dso_class.proofs.mentions.Single.{dotted_found, dotted_at_root}
use Rattle.dso_class.proofs.walks.BodyParts.{failed_alone}
use Rattle.dso_class.proofs.walks.Narrowing.{variable_number}
use Rattle.dso_class.proofs.uses.dotted.Goals as goal

pub returns-in-Some : goal.returns-in-Some
returns-in-Some c texts source before is has =
    dotted_found c.args.line c.narrow.result c.args.name.now c.args.behind.now has (not_none c.in-Some.number (c.in-Some.ensures.none has.known))
    (variable_number c.args.name.now c.in-Some.number c.narrow.result has c.in-Some.ensures.found c.narrow.ensures)

pub returns-then-is_none : goal.returns-then-is_none
returns-then-is_none c texts source before is has =
    let name = c.args.name.now in
    let class = subst (λ word. IsNone c.class_number.result ↔ (IsClass source.ast word → ⊥)) c.as_slice.ensures (c.class_number.ensures.there source is.tables) in
    let unknown = (c.in_default.ensures.none has.known).0 refl in
    failed_alone c.args.line (mention.dotted (known_in c.args.scope.now) name c.args.behind.now) kind.UnknownVariable (HeadMeans name c.args.behind.now)
    (dotted_unknown unknown (class.0 (c.is_none.ensures ∙ ap not c.if-is_none.true)))

pub returns-in-Some-root_number : goal.returns-in-Some-root_number
returns-in-Some-root_number c texts source before is has =
    let name = c.args.name.now in
    let class = subst (λ word. IsNone c.class_number.result ↔ (IsClass source.ast word → ⊥)) c.as_slice.ensures (c.class_number.ensures.there source is.tables) in
    let unknown = (c.in_default.ensures.none has.known).0 refl in
    let there : (IsClass source.ast name → ⊥) → ⊥ = λ none. cc (sym (c.is_none.ensures ∙ ap not c.if-is_none.false) ∙ class.1 none) in
    let number = c.in-Some-root_number.number in
    let root = subst (λ field. IsNone (Some number) ↔ (Contains (all_statics source.ast.items) (record { class = name; field = field }) → ⊥)) c.as_slice-3.ensures
    (subst (λ word. IsNone (Some number) ↔ (Contains (all_statics source.ast.items) (record { class = word; field = c.as_slice-3.result.now }) → ⊥)) c.as_slice-2.ensures (c.in-Some-root_number.ensures.there source is.tables)) in
    dotted_at_root c.args.line number name c.args.behind.now has there (not_none number root)
    (λ no_fault. subst (λ field. IsNumber (all_statics source.ast.items) (record { class = name; field = field }) number) c.as_slice-3.ensures
    (subst (λ word. IsNumber (all_statics source.ast.items) (record { class = word; field = c.as_slice-3.result.now }) number) c.as_slice-2.ensures (c.in-Some-root_number.ensures.number source is.tables no_fault)))

pub returns-in-None : goal.returns-in-None
returns-in-None c texts source before is has =
    let name = c.args.name.now in
    let class = subst (λ word. IsNone c.class_number.result ↔ (IsClass source.ast word → ⊥)) c.as_slice.ensures (c.class_number.ensures.there source is.tables) in
    let unknown = (c.in_default.ensures.none has.known).0 refl in
    let there : (IsClass source.ast name → ⊥) → ⊥ = λ none. cc (sym (c.is_none.ensures ∙ ap not c.if-is_none.false) ∙ class.1 none) in
    let root = subst (λ field. IsNone c.root_number.result ↔ (Contains (all_statics source.ast.items) (record { class = name; field = field }) → ⊥)) c.as_slice-3.ensures
    (subst (λ word. IsNone c.root_number.result ↔ (Contains (all_statics source.ast.items) (record { class = word; field = c.as_slice-3.result.now }) → ⊥)) c.as_slice-2.ensures (c.root_number.ensures.there source is.tables)) in
    failed_alone c.args.line (mention.dotted (known_in c.args.scope.now) name c.args.behind.now) kind.UnknownRoot (HeadMeans name c.args.behind.now)
    (dotted_no_static unknown there (root.0 (search (rules, c.in-None.is))))

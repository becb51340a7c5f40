use Rattle.std.proofs.Common.{rules, ◌≡◌, ◌↔◌, IsTrue, [], subst}
use Rattle.dso_class.specs.Maps.{reachable_methods}
use Rattle.dso_class.specs.NameFaults.{HasMethod, TakesArguments}
use Rattle.dso_class.specs.Mentions as mention
use Rattle.dso_class.specs.Numbers as numbers
use Rattle.dso_class.specs.Numbers.{IsNumber}
use Rattle.dso_class.specs.declared.fault.NameKind.TheVariants as kind
use Rattle.dso_class.proofs.rules.InBodies.{call_no_method, call_wrong}
use Rattle.dso_class.proofs.mentions.Single.{call_found}
use Rattle.dso_class.proofs.walks.BodyParts.{failed_alone}
use Rattle.dso_class.proofs.uses.call.Goals as goal

pub returns-then-not-has_method : goal.returns-then-not-has_method
returns-then-not-has_method c texts scope source before is has =
    let there = subst (λ word. IsTrue c.has_method.result ↔ HasMethod source.ast word) c.as_slice.ensures (c.has_method.ensures source is.tables) in
    failed_alone c.args.name.now.line (mention.call c.args.name.now.name c.args.count) kind.UnknownMethod (λ n all. numbers.AreThePairs (numbers.HasMethod n.methods c.args.name.now.name c.args.count) all)
    (call_no_method (λ some. cc (there.1 some, c.if-not-has_method.true)))

pub returns-then-is_empty : goal.returns-then-is_empty
returns-then-is_empty c texts scope source before is has =
    let some = subst (HasMethod source.ast) c.as_slice.ensures ((c.has_method.ensures source is.tables).0 (search (rules, c.if-not-has_method.false))) in
    let none = subst (λ word. TakesArguments source.ast word c.args.count → ⊥) c.as_slice-2.ensures ((c.in_ok-all.ensures.there source is.tables).0 (search (rules, c.is_empty.ensures, c.if-is_empty.true))) in
    failed_alone c.args.name.now.line (mention.call c.args.name.now.name c.args.count) kind.WrongArguments (λ n all. numbers.AreThePairs (numbers.HasMethod n.methods c.args.name.now.name c.args.count) all)
    (call_wrong some none)

pub returns : goal.returns
returns c texts scope source before is has =
    let some = subst (HasMethod source.ast) c.as_slice.ensures ((c.has_method.ensures source is.tables).0 (search (rules, c.if-not-has_method.false))) in
    let takes = subst (λ word. (c.in_ok-all.all ≡ []) ↔ (TakesArguments source.ast word c.args.count → ⊥)) c.as_slice-2.ensures (c.in_ok-all.ensures.there source is.tables) in
    call_found c.args.name.now.line c.args.count c.args.name.now.name c.in_ok-all.all has some
    (λ none. cc (c.is_empty.ensures.1 (takes.1 none), c.if-is_empty.false))
    (λ no_fault. subst (λ word. numbers.AreThePairs (numbers.HasMethod (reachable_methods source.ast) word c.args.count) c.in_ok-all.all) c.as_slice-2.ensures (c.in_ok-all.ensures.number source is.tables no_fault))

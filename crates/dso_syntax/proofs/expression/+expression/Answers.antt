use Rattle.std.proofs.Common.{rules, ◌≡◌, ◌-◌, ◌+◌, true, sym, subst, ◌∙◌, arith, length}
use Rattle.dso_syntax.specs.ExpressionReader as reader
use Rattle.dso_syntax.specs.ExpressionLevels as parser
use Rattle.dso_tokens.specs.declared.token.Mark.TheVariants as mark
use Rattle.dso_tokens.specs.Gives.{input}
use Rattle.dso_syntax.proofs.parser.ExpressionReturns.{operations_stops, operations_last, operations_goes, unary_last, unary_stops, unary_goes, primary_closes, suffixed_field, suffixed_call, suffixed_element}
use Rattle.dso_syntax.proofs.parser.ListLoops.{with_front, goes_on}
use Rattle.dso_syntax.proofs.expression.+expression.Goals as goal

pub operations-returns-in_err-right-clause-gives : goal.operations-returns-in_err-right-clause-gives
operations-returns-in_err-right-clause-gives t c =
    let fails = operations_stops c.in_err-right.field-0.0 c.args.levels c.args.rank c.args.more c.args.left c.in-Some.op c.in_ok-inner.field-0-0.now (input c.args.rest) (input c.in_ok-inner.inner)
    (sym c.operator_at.ensures ∙ c.in-Some.is) c.in_ok-inner.ensures.gives c.in_err-right.ensures.gives in
    search (rules, fails, c.from_residual-in_err-right.ensures)

pub operations-returns-then-more-eq0-clause-gives : goal.operations-returns-then-more-eq0-clause-gives
operations-returns-then-more-eq0-clause-gives t c =
    operations_last c.args.levels c.args.rank c.args.more c.args.left c.in_ok-right.right c.in-Some.op c.in_ok-inner.field-0-0.now (input c.args.rest) (input c.in_ok-inner.inner) (input c.in_ok-right.behind)
    (omega arith) (sym c.operator_at.ensures ∙ c.in-Some.is) c.in_ok-inner.ensures.gives c.in_ok-right.ensures.gives

pub operations-returns-clause-gives : goal.operations-returns-clause-gives
operations-returns-clause-gives t c =
    operations_goes c.operations.result c.args.levels c.args.rank c.args.more c.args.left c.in_ok-right.right c.in_ok-both.both c.in-Some.op c.in_ok-inner.field-0-0.now (input c.args.rest) (input c.in_ok-inner.inner) (input c.in_ok-right.behind)
    (omega arith) (sym c.operator_at.ensures ∙ c.in-Some.is) c.in_ok-inner.ensures.gives c.in_ok-right.ensures.gives c.in_ok-both.ensures c.operations.ensures.gives

pub unary-returns-then-more-eq0-clause-gives : goal.unary-returns-then-more-eq0-clause-gives
unary-returns-then-more-eq0-clause-gives t c =
    unary_last c.args.levels c.args.more c.in-Some.op c.in_ok-sign.sign.now (input c.args.rest) (input c.in_ok-sign.inner) (omega arith) (sym c.sign_at.ensures ∙ c.in-Some.is) c.in_ok-sign.ensures.gives

pub unary-returns-in_err-operand-clause-gives : goal.unary-returns-in_err-operand-clause-gives
unary-returns-in_err-operand-clause-gives t c =
    let fails = unary_stops c.in_err-operand.field-0.0 c.args.levels c.args.more c.in-Some.op c.in_ok-sign.sign.now (input c.args.rest) (input c.in_ok-sign.inner)
    (omega arith) (sym c.sign_at.ensures ∙ c.in-Some.is) c.in_ok-sign.ensures.gives c.in_err-operand.ensures.gives in
    search (rules, fails, c.from_residual-in_err-operand.ensures)

pub unary-returns-clause-gives : goal.unary-returns-clause-gives
unary-returns-clause-gives t c =
    unary_goes c.args.levels c.args.more c.in-Some.op c.in_ok-sign.sign.now c.in_ok-operand.operand c.in_ok-a-2.a (input c.args.rest) (input c.in_ok-sign.inner) (input c.in_ok-operand.behind)
    (omega arith) (sym c.sign_at.ensures ∙ c.in-Some.is) c.in_ok-sign.ensures.gives c.in_ok-operand.ensures.gives c.in_ok-a-2.ensures

pub primary-returns-in_ok-a-in-Inside-clause-gives : goal.primary-returns-in_ok-a-in-Inside-clause-gives
primary-returns-in_ok-a-in-Inside-clause-gives t c =
    primary_closes c.closed.result c.args.levels (input c.args.rest) (input c.in_ok-part.inner) (input c.in_ok-a-in-Inside.behind) c.in_ok-a-in-Inside.a c.in_ok-part.part c.in-Inside.bracket
    c.in_ok-part.ensures.gives c.in-Inside.is c.in_ok-a-in-Inside.ensures.gives c.closed.ensures.gives

pub suffixed-returns-in_ok-field-in-Field-clause-gives : goal.suffixed-returns-in_ok-field-in-Field-clause-gives
suffixed-returns-in_ok-field-in-Field-clause-gives t c =
    suffixed_field c.args.levels c.args.a c.in_ok-field-in-Field.field c.args.suffix c.in-Field.name (input c.args.rest) c.in-Field.is c.in_ok-field-in-Field.ensures

pub suffixed-returns-in_ok-all-in-Call-clause-gives : goal.suffixed-returns-in_ok-all-in-Call-clause-gives
suffixed-returns-in_ok-all-in-Call-clause-gives t c =
    suffixed_call c.called.result c.args.levels c.args.a c.in_ok-all-in-Call.all c.args.suffix c.in-Call.name (input c.args.rest) (input c.in_ok-all-in-Call.behind)
    c.in-Call.is c.in_ok-all-in-Call.ensures.gives c.called.ensures.gives

pub suffixed-returns-in_ok-at-in-Element-clause-gives : goal.suffixed-returns-in_ok-at-in-Element-clause-gives
suffixed-returns-in_ok-at-in-Element-clause-gives t c =
    suffixed_element c.indexed.result c.args.levels c.args.a c.in_ok-at-in-Element.at c.args.suffix (input c.args.rest) (input c.in_ok-at-in-Element.behind)
    c.in-Element.is c.in_ok-at-in-Element.ensures.gives c.indexed.ensures.gives

pub listed-loop-preserved : goal.listed-loop-preserved
listed-loop-preserved t c =
    let count = length c.args.rest.tokens.now in
    let deeper = parser.whole c.args.levels in
    let comma : reader.is_mark mark.Comma (reader.next_mark c.in_ok-a.behind.tokens.now) ≡ true = search (rules, c.if-not-is_mark.false, c.is_mark.ensures) in
    let further = goes_on deeper c.loop.all (count - c.loop.counter) (count - (c.loop.counter + 1)) (input c.loop.left) (input c.in_ok-a.behind) (input c.in_ok-behind.behind) c.in_ok-a.a c.in_ok-behind.field-0-0.now
    (reader.listed deeper count (input c.args.rest)) (omega (arith, c.loop-test.true)) c.in_ok-a.ensures.gives comma c.in_ok-behind.ensures.gives c.loop.invariant.0 in (
      subst (λ all. with_front all (reader.listed deeper (count - (c.loop.counter + 1)) (input c.in_ok-behind.behind)) ≡ reader.listed deeper count (input c.args.rest)) (sym c.in_ok-push.ensures.ok) further,
      search (rules, c.in_ok-behind.ensures.room, c.in_ok-a.ensures.room, c.loop.invariant.1),
    )

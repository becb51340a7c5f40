use Rattle.std.proofs.Common.{rules, ◌≡◌, ◌-◌, ◌+◌, false, sym, subst, arith, length}
use Rattle.dso_syntax.specs.ExpressionReader.{is_mark, next_mark}
use Rattle.dso_syntax.specs.ProgramReader as reader
use Rattle.dso_syntax.specs.StatementLevels as parser
use Rattle.dso_tokens.specs.declared.token.Mark.TheVariants as mark
use Rattle.dso_tokens.specs.Gives.{input}
use Rattle.dso_syntax.proofs.parser.StatementReturns.{block_stops, block_close_stops, block_goes, chain_block_stops, chain_stops, chain_goes, guarded_stops, guarded_goes, otherwise_none, otherwise_goes}
use Rattle.dso_syntax.proofs.parser.ListLoops.{with_front, braces_go}
use Rattle.dso_syntax.proofs.statement.+statement.Goals as goal

pub block-returns-in_err-all-clause-gives : goal.block-returns-in_err-all-clause-gives
block-returns-in_err-all-clause-gives t c =
    let fails = block_stops c.in_err-all.field-0.0 c.args.levels c.in_ok-inner.field-0-0.now (input c.args.rest) (input c.in_ok-inner.inner) (omega arith) c.in_ok-inner.ensures.gives c.in_err-all.ensures.gives in
    search (rules, fails, c.from_residual-in_err-all.ensures)

pub block-returns-in_err-behind-clause-gives : goal.block-returns-in_err-behind-clause-gives
block-returns-in_err-behind-clause-gives t c =
    let fails = block_close_stops c.in_err-behind.field-0.0 c.args.levels c.in_ok-inner.field-0-0.now c.in_ok-all.all (input c.args.rest) (input c.in_ok-inner.inner) (input c.in_ok-all.behind)
    (omega arith) c.in_ok-inner.ensures.gives c.in_ok-all.ensures.gives c.in_err-behind.ensures.gives in
    search (rules, fails, c.from_residual-in_err-behind.ensures)

pub block-returns-clause-gives : goal.block-returns-clause-gives
block-returns-clause-gives t c =
    block_goes c.args.levels c.in_ok-inner.field-0-0.now c.in_ok-behind.field-0-0.now c.in_ok-all.all (input c.args.rest) (input c.in_ok-inner.inner) (input c.in_ok-all.behind) (input c.in_ok-behind.behind)
    (omega arith) c.in_ok-inner.ensures.gives c.in_ok-all.ensures.gives c.in_ok-behind.ensures.gives

pub conditional-returns-in_err-all-clause-gives : goal.conditional-returns-in_err-all-clause-gives
conditional-returns-in_err-all-clause-gives t c =
    let fails = chain_block_stops c.in_err-all.field-0.0 c.args.levels c.args.more c.in_ok-line.line c.in_ok-line.a (input c.args.rest) (input c.in_ok-line.inner) c.in_ok-line.ensures.gives c.in_err-all.ensures.gives in
    search (rules, fails, c.from_residual-in_err-all.ensures)

pub conditional-returns-in_err-others-clause-gives : goal.conditional-returns-in_err-others-clause-gives
conditional-returns-in_err-others-clause-gives t c =
    let fails = chain_stops c.in_err-others.field-0.0 c.args.levels c.args.more c.in_ok-line.line c.in_ok-line.a c.in_ok-all.all (input c.args.rest) (input c.in_ok-line.inner) (input c.in_ok-all.inner)
    c.in_ok-line.ensures.gives c.in_ok-all.ensures.gives c.in_err-others.ensures.gives in
    search (rules, fails, c.from_residual-in_err-others.ensures)

pub conditional-returns-clause-gives : goal.conditional-returns-clause-gives
conditional-returns-clause-gives t c =
    chain_goes c.args.levels c.args.more c.in_ok-line.line c.in_ok-line.a c.in_ok-all.all c.in_ok-others.others (input c.args.rest) (input c.in_ok-line.inner) (input c.in_ok-all.inner) (input c.in_ok-others.behind)
    c.in_ok-line.ensures.gives c.in_ok-all.ensures.gives c.in_ok-others.ensures.gives

pub guarded-returns-in_err-all-clause-gives : goal.guarded-returns-in_err-all-clause-gives
guarded-returns-in_err-all-clause-gives t c =
    let fails = guarded_stops c.in_err-all.field-0.0 c.args.levels c.in_ok-line.line c.args.which c.in_ok-line.a (input c.args.rest) (input c.in_ok-line.inner) c.in_ok-line.ensures.gives c.in_err-all.ensures.gives in
    search (rules, fails, c.from_residual-in_err-all.ensures)

pub guarded-returns-clause-gives : goal.guarded-returns-clause-gives
guarded-returns-clause-gives t c =
    guarded_goes c.args.levels c.in_ok-line.line c.args.which c.in_ok-line.a c.in_ok-all.all c.form-form.result (input c.args.rest) (input c.in_ok-line.inner) (input c.in_ok-all.behind)
    c.in_ok-line.ensures.gives c.in_ok-all.ensures.gives c.form-form.ensures

pub otherwise-returns-in-Nothing-clause-gives : goal.otherwise-returns-in-Nothing-clause-gives
otherwise-returns-in-Nothing-clause-gives t c =
    otherwise_none c.args.levels c.args.more c.in_ok-next.next c.new.result (input c.args.rest) (input c.in_ok-next.inner) c.in_ok-next.ensures.gives c.in-Nothing.is c.new.ensures

pub otherwise-returns-in_ok-others-in-Chained-clause-gives : goal.otherwise-returns-in_ok-others-in-Chained-clause-gives
otherwise-returns-in_ok-others-in-Chained-clause-gives t c =
    otherwise_goes c.args.levels c.args.more c.in_ok-next.next c.in_ok-other-in-Chained.other c.in_ok-others-in-Chained.others (input c.args.rest) (input c.in_ok-next.inner) (input c.in_ok-other-in-Chained.behind)
    c.in_ok-next.ensures.gives c.in-Chained.is (omega arith) c.in_ok-other-in-Chained.ensures.gives c.in_ok-others-in-Chained.ensures

pub statements-loop-preserved : goal.statements-loop-preserved
statements-loop-preserved t c =
    let count = length c.args.rest.tokens.now in
    let item = parser.statement c.args.levels in
    let not : is_mark mark.CloseBrace (next_mark c.loop.left.tokens.now) ≡ false = search (rules, c.if-is_mark.false, c.is_mark.ensures) in
    let further = braces_go item c.loop.all (count - c.loop.counter) (count - (c.loop.counter + 1)) (input c.loop.left) (input c.in_ok-a.behind) c.in_ok-a.a
    (reader.until_brace item count (input c.args.rest)) (omega (arith, c.loop-test.true)) not c.in_ok-a.ensures.gives c.loop.invariant.0 in (
      subst (λ all. with_front all (reader.until_brace item (count - (c.loop.counter + 1)) (input c.in_ok-a.behind)) ≡ reader.until_brace item count (input c.args.rest)) (sym c.in_ok-push.ensures.ok) further,
      search (rules, c.in_ok-a.ensures.room, c.loop.invariant.1),
    )

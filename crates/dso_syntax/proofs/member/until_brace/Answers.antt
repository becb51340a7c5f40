use Rattle.std.proofs.Common.{rules, ◌≡◌, ◌-◌, ◌+◌, true, false, sym, subst, arith, length}
use Rattle.dso_syntax.specs.ExpressionReader.{is_mark, next_mark}
use Rattle.dso_syntax.specs.ProgramReader.{until_brace, one_member}
use Rattle.dso_syntax.specs.StatementLevels.{body}
use Rattle.dso_tokens.specs.declared.token.Mark.TheVariants as mark
use Rattle.dso_tokens.specs.Gives.{input}
use Rattle.dso_syntax.proofs.parser.ListLoops.{with_front, braces_close, braces_stop, braces_go}
use Rattle.dso_syntax.proofs.member.until_brace.Goals as goal

pub loop-preserved : goal.loop-preserved
loop-preserved c =
    let count = length c.args.rest.tokens.now in
    let item = one_member body in
    let not : is_mark mark.CloseBrace (next_mark c.loop.left.tokens.now) ≡ false = search (rules, c.if-is_mark.false, c.is_mark.ensures) in
    let further = braces_go item c.loop.all (count - c.loop.counter) (count - (c.loop.counter + 1)) (input c.loop.left) (input c.in_ok-a.behind) c.in_ok-a.a
    (until_brace item count (input c.args.rest)) (omega (arith, c.loop-test.true)) not c.in_ok-a.ensures.gives c.loop.invariant.0 in (
      subst (λ all. with_front all (until_brace item (count - (c.loop.counter + 1)) (input c.in_ok-a.behind)) ≡ until_brace item count (input c.args.rest)) (sym c.in_ok-push.ensures.ok) further,
      search (rules, c.in_ok-a.ensures.room, c.loop.invariant.1),
    )

pub returns-then-is_mark-clause-gives : goal.returns-then-is_mark-clause-gives
returns-then-is_mark-clause-gives c =
    let count = length c.args.rest.tokens.now in
    let is : is_mark mark.CloseBrace (next_mark c.loop.left.tokens.now) ≡ true = search (rules, c.if-is_mark.true, c.is_mark.ensures) in
    braces_close (one_member body) c.loop.all (count - c.loop.counter) (input c.loop.left) (until_brace (one_member body) count (input c.args.rest)) is c.loop.invariant.0

pub returns-in_err-a-clause-gives : goal.returns-in_err-a-clause-gives
returns-in_err-a-clause-gives c =
    let count = length c.args.rest.tokens.now in
    let not : is_mark mark.CloseBrace (next_mark c.loop.left.tokens.now) ≡ false = search (rules, c.if-is_mark.false, c.is_mark.ensures) in
    let fails = braces_stop c.in_err-a.field-0.0 (one_member body) c.loop.all (count - c.loop.counter) (count - (c.loop.counter + 1)) (input c.loop.left) (until_brace (one_member body) count (input c.args.rest))
    (omega (arith, c.loop-test.true)) not c.in_err-a.ensures.gives c.loop.invariant.0 in
    search (rules, fails, c.from_residual.ensures)

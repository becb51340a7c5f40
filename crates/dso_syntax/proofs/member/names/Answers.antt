use Rattle.std.proofs.Common.{rules, ◌≡◌, ◌-◌, ◌+◌, true, sym, subst, arith, length}
use Rattle.dso_syntax.specs.ExpressionReader.{is_mark, next_mark}
use Rattle.dso_syntax.specs.ProgramReader.{names}
use Rattle.dso_tokens.specs.declared.token.Mark.TheVariants as mark
use Rattle.dso_tokens.specs.Gives.{input}
use Rattle.dso_syntax.proofs.parser.ListLoops.{with_front}
use Rattle.dso_syntax.proofs.parser.MemberReturns.{names_go, names_stop}
use Rattle.dso_syntax.proofs.member.names.Goals as goal

pub loop-preserved : goal.loop-preserved
loop-preserved c =
    let count = length c.args.rest.tokens.now in
    let comma : is_mark mark.Comma (next_mark c.in_ok-name.behind.tokens.now) ≡ true = search (rules, c.if-not-is_mark.false, c.is_mark.ensures) in
    let further = names_go c.loop.all (count - c.loop.counter) (count - (c.loop.counter + 1)) (input c.loop.left) (input c.in_ok-name.behind) (input c.in_ok-behind.behind) c.in_ok-name.name c.in_ok-behind.field-0-0.now
    (names count (input c.args.rest)) (omega (arith, c.loop-test.true)) c.in_ok-name.ensures.gives comma c.in_ok-behind.ensures.gives c.loop.invariant.0 in (
      subst (λ all. with_front all (names (count - (c.loop.counter + 1)) (input c.in_ok-behind.behind)) ≡ names count (input c.args.rest)) (sym c.in_ok-push.ensures.ok) further,
      search (rules, c.in_ok-behind.ensures.room, c.in_ok-name.ensures.room, c.loop.invariant.1),
    )

pub returns-in_err-name-clause-gives : goal.returns-in_err-name-clause-gives
returns-in_err-name-clause-gives c =
    let count = length c.args.rest.tokens.now in
    let fails = names_stop c.in_err-name.field-0.0 c.loop.all (count - c.loop.counter) (count - (c.loop.counter + 1)) (input c.loop.left) (names count (input c.args.rest)) (omega (arith, c.loop-test.true)) c.in_err-name.ensures.gives c.loop.invariant.0 in
    search (rules, fails, c.from_residual.ensures)

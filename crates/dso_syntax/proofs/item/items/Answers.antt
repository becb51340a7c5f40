use Rattle.std.proofs.Common.{rules, ◌≡◌, ◌-◌, ◌+◌, ◌<◌, sym, subst, arith, length}
use Rattle.dso_syntax.specs.ProgramReader.{items_from}
use Rattle.dso_syntax.specs.StatementLevels.{body}
use Rattle.dso_tokens.specs.Gives.{input}
use Rattle.dso_syntax.proofs.parser.ListLoops.{with_front}
use Rattle.dso_syntax.proofs.parser.MemberReturns.{items_rest, items_stop, items_go}
use Rattle.dso_syntax.proofs.item.items.Goals as goal

pub loop-preserved : goal.loop-preserved
loop-preserved c =
    let count = length c.args.rest.tokens.now in
    let some : 0 < length c.loop.left.tokens.now = search (rules, c.if-is_empty.false, c.is_empty.ensures) in
    let further = items_go c.loop.all (count - c.loop.counter) (count - (c.loop.counter + 1)) c.loop.left.room c.loop.left.tokens.now c.in_ok-a.a (input c.in_ok-a.behind)
    (items_from body count c.args.rest.room c.args.rest.tokens.now) (omega (arith, c.loop-test.true)) some c.in_ok-a.ensures.gives c.loop.invariant.0 in (
      subst (λ all. with_front all (items_from body (count - (c.loop.counter + 1)) c.in_ok-a.behind.room c.in_ok-a.behind.tokens.now) ≡ items_from body count c.args.rest.room c.args.rest.tokens.now) (sym c.in_ok-push.ensures.ok) further,
      search (rules, c.in_ok-a.ensures.room, c.loop.invariant.1),
    )

pub returns-in_err-a : goal.returns-in_err-a
returns-in_err-a c =
    let count = length c.args.rest.tokens.now in
    let some : 0 < length c.loop.left.tokens.now = search (rules, c.if-is_empty.false, c.is_empty.ensures) in
    let fails = items_stop c.in_err-a.field-0.0 c.loop.all (count - c.loop.counter) (count - (c.loop.counter + 1)) c.loop.left.room c.loop.left.tokens.now (items_from body count c.args.rest.room c.args.rest.tokens.now)
    (omega (arith, c.loop-test.true)) some c.in_err-a.ensures.gives c.loop.invariant.0 in
    search (rules, fails, c.from_residual.ensures)

pub returns : goal.returns
returns c =
    let count = length c.args.rest.tokens.now in
    let some : 0 < length c.loop.left.tokens.now = search (rules, c.if-is_empty-2.false, c.is_empty-2.ensures) in
    record { gives = items_rest c.loop.all (count - c.loop.counter) c.loop.left.room c.loop.left.tokens.now (items_from body count c.args.rest.room c.args.rest.tokens.now) (omega arith) some c.loop.invariant.0 }

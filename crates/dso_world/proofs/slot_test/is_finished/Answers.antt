use Rattle.std.proofs.Common.{◌≡◌, ◌∙◌, sym, arith}
use Rattle.dso_world.proofs.worlds.Looks.{finished_told, going_told, one_further}
use Rattle.dso_world.proofs.slot_test.is_finished.Goals as goal

pub returns-then-is_busy_at : goal.returns-then-is_busy_at
returns-then-is_busy_at c = λ es journal stands. going_told c.args.program.now c.args.nodes.now es journal c.loop-place.place c.loop-place-test.true (sym (c.is_busy_at.ensures es journal stands) ∙ c.if-is_busy_at.true)

pub loop-place-preserved : goal.loop-place-preserved
loop-place-preserved c = λ es journal stands. one_further c.args.program.now c.args.nodes.now es journal c.loop-place.place (c.loop-place.invariant es journal stands) (sym (c.is_busy_at.ensures es journal stands) ∙ c.if-is_busy_at.false)

pub returns : goal.returns
returns c =
    let past = c.loop-place-test.false in
    let within = c.loop-place.auto.place-end in
    let all : c.args.program.now.clients ≡ c.loop-place.place = omega (arith, past, within) in
    λ es journal stands. finished_told c.args.program.now c.args.nodes.now es journal c.loop-place.place all (c.loop-place.invariant es journal stands)

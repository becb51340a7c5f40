use Rattle.std.proofs.Common.{sym, subst, Some}
use Rattle.dso_world.specs.EntryTouches.{AddsActed}
use Rattle.dso_world.proofs.touches.Added.{act_added}
use Rattle.dso_world.proofs.touched_threads.Touches.with_event.Goals as goal

pub returns-in-Act : goal.returns-in-Act
returns-in-Act c = subst (λ event. AddsActed (Some event) c.args.next c.args.self c.with_awaited-in-Act.result) (sym c.in-Act.is)
    (act_added c.in-Act.thread c.in-Act.request c.in-Act.reply c.in-Act.woken c.args.next c.args.self c.with_made.result c.with_done-done.result c.with_awaited.result c.with_awaited-in-Act.result
    c.with_made.ensures c.with_done-done.ensures c.with_awaited.ensures c.with_awaited-in-Act.ensures)

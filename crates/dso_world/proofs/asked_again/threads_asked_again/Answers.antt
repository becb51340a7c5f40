use Rattle.std.specs.Int.{bit_at}
use Rattle.std.proofs.Common.{ℕ, ◌<◌, ◌≡◌, sym, subst}
use Rattle.dso_world.specs.AskingThreads.{row_of, word_at}
use Rattle.dso_world.proofs.touches.Asked.{has_touched, thread_stays}
use Rattle.dso_world.proofs.asked_again.threads_asked_again.Goals as goal

pub returns : goal.returns
returns c = λ t its spared program.
    let nodes = c.args.made.now.nodes.now in
    let entry = c.args.made.now.entry.now in
    let touches = c.of-touches.result in
    let asked = c.asking.result in
    thread_stays program nodes c.args.made.now.asking.now entry touches c.args.number asked c.with_actor.result
    (has_touched program nodes entry c.args.made.now.next touches (c.requires program) c.of-touches.ensures)
    (λ b i within touched there. c.asking.ensures b i within (subst (λ buckets. bit_at buckets b ≡ 1) (sym c.buckets.ensures) touched) there)
    c.with_actor.ensures.others c.with_actor.ensures.actor t its spared

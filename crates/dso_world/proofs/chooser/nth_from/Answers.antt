use Rattle.std.proofs.Common.{◌-◌, ◌∙◌, slice_index_or, arith}
use Rattle.std.proofs.lemmas.Option.{slice_get-get_or}
use Rattle.dso_world.proofs.flags.Blocks.{block_passed}
use Rattle.dso_world.proofs.chooser.nth_from.Goals as goal

pub loop-block-preserved : goal.loop-block-preserved
loop-block-preserved c =
    let counts = c.args.counts.now in
    let block = c.loop-block.block in
    let count = slice_index_or counts block 0 in
    let enough = c.if-left-count.false in
    c.loop-block.invariant ∙ block_passed c.args.flags.now counts block c.loop-block.left count (c.loop-block.left - count) c.requires.counts (slice_get-get_or counts block 0 c.loop-block-test.true) (omega (arith, enough))

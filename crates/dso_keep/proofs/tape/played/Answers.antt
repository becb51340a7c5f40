use Rattle.dso_keep.specs.declared.tape.Mark.TheVariants as mark
use Rattle.dso_keep.proofs.recording.Marks.{begins_within}
use Rattle.dso_keep.proofs.tape.played.Goals as goal

pub repeat-used-requires-clause-within : goal.repeat-used-requires-clause-within
repeat-used-requires-clause-within c =
    begins_within c.args.first.now c.args.marks.now c.args.written.now c.loop-place.place c.loop-place.used c.loop-place.bytes.items c.loop-place.invariant.repeated c.loop-place-test.true mark.Attached
    c.requires.within

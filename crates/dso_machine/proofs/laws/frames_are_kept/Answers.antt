use Rattle.dso_machine.proofs.frames.Law as law
use Rattle.dso_machine.proofs.laws.frames_are_kept.Goals as goal

pub returns : goal.returns
returns c = law.keeps_frames

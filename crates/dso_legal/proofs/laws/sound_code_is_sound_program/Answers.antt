use Rattle.dso_legal.proofs.laws.sound_code_is_sound_program.Goals as goal
use Rattle.dso_legal.proofs.programs.SoundCode.{sound_program, known_texts}
use Rattle.dso_legal.proofs.programs.WithinShape.{within_shape}

pub returns-clause-sound : goal.returns-clause-sound
returns-clause-sound c = sound_program

pub returns-clause-texts : goal.returns-clause-texts
returns-clause-texts c = known_texts

pub returns-clause-within : goal.returns-clause-within
returns-clause-within c = within_shape

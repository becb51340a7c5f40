-- Sound code is a sound program.
use Rattle.dso_machine.specs.declared.code.Code.{Code}
use Rattle.dso_machine.specs.Next.{next_request}
use Rattle.dso_machine.specs.Sound as machine
use Rattle.dso_legal.specs.SoundProgram.{AsksSoundly, GivesKnownTexts}
use Rattle.dso_legal.specs.WithinShape.{StaysWithinShape}

-- Whatever code is sound: what its threads ask next is a sound program, so all that the laws ask of a program it
-- keeps to.
abbrev pub SoundCodeIsSoundProgram : Type 0
SoundCodeIsSoundProgram = (code : Code) → machine.IsSoundCode code → AsksSoundly code.shape (next_request code)

-- And its threads store and print only texts of the program and texts that they were told.
abbrev pub SoundCodeGivesKnownTexts : Type 0
SoundCodeGivesKnownTexts = (code : Code) → machine.IsSoundCode code → GivesKnownTexts code.shape (next_request code)

-- And they use only places, locks and objects that are there.
abbrev pub SoundCodeStaysWithinShape : Type 0
SoundCodeStaysWithinShape = (code : Code) → machine.IsSoundCode code → StaysWithinShape code.shape (next_request code)

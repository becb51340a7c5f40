use Rattle.std.proofs.Common.{◌≡◌, drop, map}
use Rattle.std.specs.String.{string_bytes}
use Rattle.dso_command_line.specs.WordReading.{nothing, read_on}
use Rattle.dso_command_line.specs.declared.word_reading.Reading.TheVariants.{Open}
use Rattle.dso_command_line.proofs.word_reading.read.Given as goal

abbrev pub invariant-loop-word : goal.invariant-loop-word
invariant-loop-word l = read_on (Open nothing) (map string_bytes l.words) ≡ read_on l.reading (map string_bytes (drop l.word-index l.words))

use Rattle.std.proofs.Common.{map}
use Rattle.std.specs.String.{string_bytes}
use Rattle.dso_run.proofs.main_call.in_threads.Goals as goal

-- the words ask for this
pub returns-clause-answer : goal.returns-clause-answer
returns-clause-answer g c = λ disk untouched. c.carry_out_in_threads.ensures.answer (map string_bytes c.args.words.now) c.in-Some.ensures disk untouched

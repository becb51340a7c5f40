use Rattle.std.proofs.Common.{subst, sym}
use Rattle.dso_run.specs.Headline.{CallInput, CallOutput, Gives, ReadFailed, RoseOf, StatusMeans, left_by, read_by}
use Rattle.dso_command_line.specs.Said.{said}
use Rattle.dso_run.proofs.GivenTexts.{cause_of, leaves_nothing}
use Rattle.dso_run.proofs.StatusMeaning.{refusal_means, verdict_has_line}
use Rattle.dso_run.proofs.main_call.accepted.Goals as goal

-- a refusal
pub returns-in-Ok-Refused-clause-refused : goal.returns-in-Ok-Refused-clause-refused
returns-in-Ok-Refused-clause-refused g c = λ words lawful disk untouched.
    let input : CallInput = read_by g.F.Files.content g.F.Files.read_faults c.args.files.now c.judge.new.files words in
    let output : CallOutput =
    left_by g.F.Files.content g.F.Files.write_faults g.K.Sink.taken g.K.Sink.faults c.args.files.now c.judge.new.files c.args.out.now c.refuse.new.out
    disk c.nothing_ran.result.journal.entries in
    let verdict = rw c.in-Ok-Refused.field-0-is at c.in-Ok-Refused.ensures.verdict in
    subst (StatusMeans input output) (sym c.nothing_ran.ensures.status)
    (refusal_means input output c.in-Ok-Refused.refusal c.refuse.result (cause_of input (said c.args.command) lawful output c.in-Ok-Refused.refusal verdict)
    (leaves_nothing input output (Gives (g.F.Files.content c.args.files.now) (said c.args.command))
    (ReadFailed (said c.args.command) (RoseOf (g.F.Files.read_faults c.args.files.now) (g.F.Files.read_faults c.judge.new.files))) c.in-Ok-Refused.refusal verdict
    c.nothing_ran.ensures.empty untouched)
    c.judge.ensures.unchanged c.judge.ensures.writes c.refuse.ensures)

-- the refusal has a line
pub refuse-requires : goal.refuse-requires
refuse-requires g c =
    verdict_has_line (Gives (g.F.Files.content c.args.files.now) (said c.args.command))
    (ReadFailed (said c.args.command) (RoseOf (g.F.Files.read_faults c.args.files.now) (g.F.Files.read_faults c.judge.new.files)))
    c.in-Ok-Refused.refusal (rw c.in-Ok-Refused.field-0-is at c.in-Ok-Refused.ensures.verdict)

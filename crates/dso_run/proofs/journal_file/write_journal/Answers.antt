use Rattle.dso_run.proofs.Telling.{as_before_if_err}
use Rattle.dso_run.proofs.journal_file.write_journal.Goals as goal

-- no file is changed where the write failed
pub returns-clause-unchanged : goal.returns-clause-unchanged
returns-clause-unchanged g c =
    as_before_if_err c.write.result (g.F.Files.content c.args.files.now) (g.F.Files.content c.write.new.self) c.args.name.now c.write.ensures.err
    c.write.ensures.others

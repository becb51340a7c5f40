use Rattle.dso_run.specs.Headline.{FilesGive}
use Rattle.dso_run.proofs.GivenTexts.{files_give, verdict_if_ok}
use Rattle.dso_run.proofs.judging.judge_files.Goals as goal

pub returns-clause-verdict : goal.returns-clause-verdict
returns-clause-verdict g c =
    verdict_if_ok (FilesGive (g.F.Files.content c.args.files.now) c.args.config.now c.args.program.now) _ c.as_slice.result.now c.as_slice-2.result.now
    (files_give (g.F.Files.content c.args.files.now) (g.F.Files.content c.read.new.self) c.args.config.now c.args.program.now c.as_slice.result.now
    c.as_slice-2.result.now (rw c.as_slice.ensures.value c.in-Ok.ensures.bytes) c.read.ensures.unchanged
    (rw c.as_slice-2.ensures.value c.in-Ok-read.ensures.bytes))
    c.judge_texts.result c.judge_texts.ensures

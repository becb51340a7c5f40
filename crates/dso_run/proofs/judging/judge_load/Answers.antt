use Rattle.std.proofs.Common.{rules}
use Rattle.dso_run.specs.Headline.{LoadGives}
use Rattle.dso_run.proofs.GivenTexts.{verdict_if_ok}
use Rattle.dso_run.proofs.judging.judge_load.Goals as goal

-- the load's texts are those that are given
pub returns : goal.returns
returns c =
    verdict_if_ok (LoadGives c.args.number) ⊥ c.as_slice.result.now c.as_slice-2.result.now (search rules, search rules)
    c.judge_texts.result c.judge_texts.ensures

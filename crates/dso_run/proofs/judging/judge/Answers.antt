use Rattle.dso_run.proofs.judging.judge.Goals as goal

-- what the files of `sim` come to
pub returns-in-Sim-clause-verdict : goal.returns-in-Sim-clause-verdict
returns-in-Sim-clause-verdict g c = rw c.in-Sim.is c.judge_files.ensures.verdict

-- and those of `run`
pub returns-in-Run-clause-verdict : goal.returns-in-Run-clause-verdict
returns-in-Run-clause-verdict g c = rw c.in-Run.is c.judge_files-in-Run.ensures.verdict

-- and those of `show`
pub returns-in-Show-clause-verdict : goal.returns-in-Show-clause-verdict
returns-in-Show-clause-verdict g c = rw c.in-Show.is c.judge_files-in-Show.ensures.verdict

-- and those of `lint`
pub returns-in-Lint-clause-verdict : goal.returns-in-Lint-clause-verdict
returns-in-Lint-clause-verdict g c = rw c.in-Lint.is c.judge_files-in-Lint.ensures.verdict

use Rattle.dso_kept.specs.Keeping.{record_applied, with_one}
use Rattle.dso_kept.proofs.keeping.Leaving.{unchanged_reopens}
use Rattle.dso_kept.proofs.kept_steps.keep_entry.Goals as goal

-- nothing is done
pub returns-in-None-clause-crash : goal.returns-in-None-clause-crash
returns-in-None-clause-crash g c = λ shape records stands before after.
    unchanged_reopens shape records (with_one (record_applied c.args.entry.now) records) c.args.keep (g.D.Disk.file c.args.disk.now) stands before

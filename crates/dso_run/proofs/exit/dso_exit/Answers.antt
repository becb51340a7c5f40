use Rattle.std.proofs.Common.{◌∙◌, [], refl}
use Rattle.dso_run.specs.declared.status.Status.TheVariants.{NoMemory}
use Rattle.dso_run.proofs.exit.dso_exit.Goals as goal

-- nothing was done, for want of memory
pub returns-in-Err-clause-ends : goal.returns-in-Err-clause-ends
returns-in-Err-clause-ends g c = record {
  status = NoMemory;
  journal = [];
  means = record { untouched = refl; unchanged = λ name. refl; nothing_kept = refl };
  number = c.from.ensures ∙ c.exit_number.ensures;
}

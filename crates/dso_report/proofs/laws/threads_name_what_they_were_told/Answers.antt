use Rattle.dso_report.proofs.histories.ToldNames.{threads_name_what_they_were_told}
use Rattle.dso_report.proofs.laws.threads_name_what_they_were_told.Goals as goal

pub returns : goal.returns
returns c = threads_name_what_they_were_told

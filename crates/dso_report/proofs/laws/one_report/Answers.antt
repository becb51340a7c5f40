use Rattle.dso_report.proofs.texts.OneReport.{one_report}
use Rattle.dso_report.proofs.laws.one_report.Goals as goal

pub returns : goal.returns
returns c = one_report

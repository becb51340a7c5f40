use Rattle.dso_report.proofs.texts.LeftOut.{reports_leave_nothing_out}
use Rattle.dso_report.proofs.laws.reports_leave_nothing_out.Goals as goal

pub returns : goal.returns
returns c = reports_leave_nothing_out

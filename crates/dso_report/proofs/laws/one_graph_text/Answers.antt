use Rattle.dso_report.proofs.texts.OneReport.{one_graph_text}
use Rattle.dso_report.proofs.laws.one_graph_text.Goals as goal

pub returns : goal.returns
returns c = one_graph_text

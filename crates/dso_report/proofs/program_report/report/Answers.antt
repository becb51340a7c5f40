use Rattle.std.proofs.Common.{Err, ap, ◌∙◌}
use Rattle.dso_plain.specs.HeapTables.{state_of}
use Rattle.dso_report.proofs.texts.ReportTexts.{lacks_nothing}
use Rattle.dso_report.proofs.histories.WholeState.{whole}
use Rattle.dso_report.proofs.program_report.report.Goals as goal

-- a state of the program lacks no text
pub unreachable-requires : goal.unreachable-requires
unreachable-requires c =
    lacks_nothing c.args.program.now.names (state_of c.args.plain.now) (whole c.args.program.now (state_of c.args.plain.now) c.requires.sound c.requires.legal)
    (c.report_of_state.ensures.missing (c.in-Err-Missing.is ∙ ap Err c.in-Err-Missing.field-0-is))

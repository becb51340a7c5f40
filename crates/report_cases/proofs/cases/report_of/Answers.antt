use Rattle.report_cases.proofs.cases.report_of.Goals as goal

-- the events of the run are the history that leads to its heap
pub report-requires-clause-legal : goal.report-requires-clause-legal
report-requires-clause-legal c = record { history = c.args.run.now.events.items; legal = c.requires.legal.legal; is_last = c.requires.legal.is_last }

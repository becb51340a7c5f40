use Rattle.std.proofs.Common.{sym, ◌∙◌}
use Rattle.dso_law.specs.FitsUp.{FitsRecordBy, FitsReturn, FitsUpBy}
use Rattle.dso_law.specs.ServerReadings.{counted}
use Rattle.dso_server.specs.Fitting.{graph_in}
use Rattle.dso_server.proofs.lists.Telling.{told_at}
use Rattle.dso_server.proofs.fits.fits.Goals as goal

pub returns-in-Flushed-clause-tells : goal.returns-in-Flushed-clause-tells
returns-in-Flushed-clause-tells c = λ p es ps s. told_at (λ m. FitsUpBy (graph_in c.args.server.now) p c.args.client m (counted es)) (sym c.in-Flushed.is) (λ e. sym (c.holds.ensures p es s) ∙ e, λ held. c.holds.ensures p es s ∙ held)

pub returns-in-Return-clause-tells : goal.returns-in-Return-clause-tells
returns-in-Return-clause-tells c = λ p es ps s. told_at (λ m. FitsUpBy (graph_in c.args.server.now) p c.args.client m (counted es)) (sym c.in-Return.is) (told_at (λ threads. FitsReturn p c.args.client c.in-Return.lock threads (counted es)) c.as_slice.ensures (c.fits_return.ensures p es s))

pub returns-in-Fault-clause-tells : goal.returns-in-Fault-clause-tells
returns-in-Fault-clause-tells c = λ p es ps s. told_at (λ m. FitsUpBy (graph_in c.args.server.now) p c.args.client m (counted es)) (sym c.in-Fault.is) (c.fits_fault.ensures p es s)

pub returns-in-Commit-clause-tells : goal.returns-in-Commit-clause-tells
returns-in-Commit-clause-tells c = λ p es ps s. told_at (λ m. FitsUpBy (graph_in c.args.server.now) p c.args.client m (counted es)) (sym c.in-Commit.is) (told_at (λ txn. FitsRecordBy (graph_in c.args.server.now) p c.args.client txn (counted es)) c.get.ensures (c.fits_record.ensures p es ps s))

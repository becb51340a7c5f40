use Rattle.std.proofs.Common.{sym, ◌∙◌, subst}
use Rattle.dso_law.specs.ServerReadings.{counted}
use Rattle.dso_server.specs.Fitting.{graph_in}
use Rattle.dso_server.specs.Records.{FitsValues, IsRising}
use Rattle.dso_server.proofs.records.RecordFits.{objects_fit, record_fits, rest_fits, values_fit}
use Rattle.dso_server.proofs.lists.Telling.{no, told_at, told_by}
use Rattle.dso_server.proofs.fits_record.fits_record.Goals as goal

pub returns-then-not-fits_objects : goal.returns-then-not-fits_objects
returns-then-not-fits_objects c = λ p es ps s. no (λ fits. cc (sym c.if-not-fits_objects.true ∙ (c.fits_objects.ensures p es ps s).1 (objects_fit (graph_in c.args.server.now) p c.args.client c.args.txn.now (counted es) fits)))

pub returns-then-not-fits_values : goal.returns-then-not-fits_values
returns-then-not-fits_values c = λ p es ps s. no (λ fits. cc (sym c.if-not-fits_values.true ∙ (c.fits_values.ensures p es s).1 (subst (λ shape. FitsValues shape (graph_in c.args.server.now) c.args.txn.now (counted es)) ps (values_fit (graph_in c.args.server.now) p c.args.client c.args.txn.now (counted es) fits))))

pub returns : goal.returns
returns c = λ p es ps s. told_by (c.fits_rest.ensures p es s)
    (λ rest. record_fits (graph_in c.args.server.now) p c.args.client c.args.txn.now (counted es) ((told_at IsRising c.as_slice.ensures c.are_rising.ensures).0 c.if-not-are_rising.false) ((c.fits_maker.ensures p es s).0 c.if-not-fits_maker.false)
    ((c.fits_objects.ensures p es ps s).0 c.if-not-fits_objects.false) (subst (λ shape. FitsValues shape (graph_in c.args.server.now) c.args.txn.now (counted es)) (sym ps) ((c.fits_values.ensures p es s).0 c.if-not-fits_values.false)) rest)
    (rest_fits (graph_in c.args.server.now) p c.args.client c.args.txn.now (counted es))

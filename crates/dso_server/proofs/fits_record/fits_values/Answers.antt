use Rattle.std.proofs.Common.{sym, ◌∙◌}
use Rattle.std.specs.List.{AllByRecursion}
use Rattle.dso_law.specs.ServerReadings.{counted}
use Rattle.dso_server.specs.Fitting.{graph_in}
use Rattle.dso_server.specs.Records.{FitsOut, FitsValue}
use Rattle.dso_server.proofs.lists.Telling.{no, told_at, told_by}
use Rattle.dso_server.proofs.fits_record.fits_values.Goals as goal

pub returns-then-not-body_values_fit : goal.returns-then-not-body_values_fit
returns-then-not-body_values_fit c = λ p es s.
    let bodies = told_at (AllByRecursion (λ body. AllByRecursion (FitsValue c.args.shape.now (graph_in c.args.server.now) c.args.txn.now.news) body.values)) c.as_slice.ensures (c.body_values_fit.ensures) in
    no (λ fits. cc (sym c.if-not-body_values_fit.true ∙ bodies.1 fits.0))

pub returns-then-not-set_values_fit : goal.returns-then-not-set_values_fit
returns-then-not-set_values_fit c = λ p es s.
    let sets = told_at (AllByRecursion (λ set. FitsValue c.args.shape.now (graph_in c.args.server.now) c.args.txn.now.news set.value)) c.as_slice-2.ensures (c.set_values_fit.ensures) in
    no (λ fits. cc (sym c.if-not-set_values_fit.true ∙ sets.1 fits.1))

pub returns : goal.returns
returns c = λ p es s.
    let bodies = told_at (AllByRecursion (λ body. AllByRecursion (FitsValue c.args.shape.now (graph_in c.args.server.now) c.args.txn.now.news) body.values)) c.as_slice.ensures (c.body_values_fit.ensures) in
    let sets = told_at (AllByRecursion (λ set. FitsValue c.args.shape.now (graph_in c.args.server.now) c.args.txn.now.news set.value)) c.as_slice-2.ensures (c.set_values_fit.ensures) in
    told_by (told_at (AllByRecursion (FitsOut c.args.shape.now (counted es))) c.as_slice-3.ensures (c.outs_fit.ensures p es s)) (λ outs. (bodies.0 c.if-not-body_values_fit.false, sets.0 c.if-not-set_values_fit.false, outs)) (λ fits. fits.2)

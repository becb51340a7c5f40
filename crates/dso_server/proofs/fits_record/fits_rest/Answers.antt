use Rattle.std.proofs.Common.{sym, ◌∙◌}
use Rattle.std.specs.List.{AllByRecursion}
use Rattle.dso_law.specs.FitsUp.{FitsNote}
use Rattle.dso_law.specs.ServerReadings.{counted}
use Rattle.dso_server.proofs.lists.Telling.{no, told_at, told_by}
use Rattle.dso_server.proofs.fits_record.fits_rest.Goals as goal

pub returns-then-not-notes_fit : goal.returns-then-not-notes_fit
returns-then-not-notes_fit c = λ p es s.
    let notes = told_at (AllByRecursion (FitsNote p c.args.client (counted es))) c.as_slice.ensures (c.notes_fit.ensures p es s) in
    no (λ fits. cc (sym c.if-not-notes_fit.true ∙ notes.1 fits.0))

pub returns : goal.returns
returns c = λ p es s.
    let notes = told_at (AllByRecursion (FitsNote p c.args.client (counted es))) c.as_slice.ensures (c.notes_fit.ensures p es s) in
    told_by (c.fits_ending.ensures p es s) (λ ending. (notes.0 c.if-not-notes_fit.false, ending)) (λ fits. fits.1)

use Rattle.std.proofs.Common.{sym, ◌∙◌}
use Rattle.dso_law.specs.ServerReadings.{counted}
use Rattle.dso_server.proofs.lists.Lists.{each_at, each_next, each_so_far}
use Rattle.dso_server.proofs.lists.Telling.{no, yes}
use Rattle.dso_law.specs.FitsUp.{FitsNote}
use Rattle.dso_server.proofs.fits_lists.notes_fit.Goals as goal

pub returns-then-not-fits_note : goal.returns-then-not-fits_note
returns-then-not-fits_note c = λ p es s. no (λ all. cc (sym c.if-not-fits_note.true ∙ (c.fits_note.ensures p es s).1 (each_at (FitsNote p c.args.client (counted es)) c.args.notes.now _ c.loop-note.note-index c.loop-note-test.true all)))

pub loop-note-preserved : goal.loop-note-preserved
loop-note-preserved c = λ p es s. each_next (FitsNote p c.args.client (counted es)) c.args.notes.now _ c.loop-note.note-index c.loop-note-test.true (c.loop-note.invariant p es s) ((c.fits_note.ensures p es s).0 c.if-not-fits_note.false)

pub returns : goal.returns
returns c = λ p es s. yes (each_so_far (FitsNote p c.args.client (counted es)) c.args.notes.now c.loop-note.note-index c.loop-note-test.false (c.loop-note.invariant p es s))

use Rattle.std.proofs.Common.{arith, ◌<◌, ◌^◌, ◌++◌, sym, ◌∙◌, ap, refl, subst, length}
use Rattle.dso_legal.specs.JournalPass.{AllCountsFit, given_at}
use Rattle.dso_legal.specs.JournalPassTables.{kept_in}
use Rattle.dso_legal.proofs.journal_pass.EachEntry.{kept_fits, entry_taken, entry_given}
use Rattle.dso_legal.proofs.committing.all_given.Goals as goal

pub take-requires : goal.take-requires
take-requires c =
    let entries = c.as_slice-entry-items.result.now in
    let short : length entries < 2 ^ 64 = omega arith in
    subst AllCountsFit (sym c.loop-entry.invariant.0) (kept_fits entries c.loop-entry.entry-index c.loop-entry-test.true short)

pub loop-entry-preserved : goal.loop-entry-preserved
loop-entry-preserved c =
    let entries = c.as_slice-entry-items.result.now in
    let e = c.entry-item.result in
    let kept = kept_in c.loop-entry.kept in
    let given = given_at e.node e.input kept in (
      entry_taken entries c.loop-entry.entry-index e kept (kept_in c.take.new.self) c.loop-entry-test.true c.entry-item.is c.loop-entry.invariant.0 c.in_ok-take.ensures.kept,
      c.in_ok-take.ensures.given ∙ (ap (λ so_far. so_far ++ given) c.loop-entry.invariant.1 ∙ sym (entry_given entries c.loop-entry.entry-index e kept given c.loop-entry-test.true c.entry-item.is c.loop-entry.invariant.0 refl)),
    )

use Rattle.std.proofs.Common.{arith, ◌<◌, ◌^◌, sym, ◌∙◌, ap, subst, length, reverse}
use Rattle.dso_plain.specs.History.{Runs, end_of}
use Rattle.dso_plain.specs.State.{opening}
use Rattle.dso_legal.specs.Committed.{committed}
use Rattle.dso_legal.specs.JournalPass.{AllCountsFit}
use Rattle.dso_legal.specs.JournalPassTables.{kept_in}
use Rattle.dso_legal.proofs.journal_pass.EachEntry.{kept_fits, entry_taken}
use Rattle.dso_run.proofs.Replaying.{given_runs, given_leads}
use Rattle.dso_run.proofs.replay.heap_after.Goals as goal

pub take-requires : goal.take-requires
take-requires c =
    let entries = c.as_slice-entry-items.result.now in
    let short : length entries < 2 ^ 64 = omega arith in
    subst AllCountsFit (sym c.loop-entry.invariant.1) (kept_fits entries c.loop-entry.entry-index c.loop-entry-test.true short)

pub play_all-requires : goal.play_all-requires
play_all-requires c =
    let shape = c.args.shape.now in
    let given = c.as_slice.result.now in
    let runs = given_runs shape c.as_slice-entry-items.result.now (opening shape) c.loop-entry.entry-index c.entry-item.result (kept_in c.loop-entry.pass) c.loop-entry.given.items given c.loop-entry-test.true c.entry-item.is c.loop-entry.invariant.1 c.loop-entry.invariant.0 (c.as_slice.ensures.value ∙ c.in_ok-take.ensures.given) (subst (λ es. Runs shape (committed (reverse es)) (opening shape)) (sym c.as_slice-entry-items.ensures) c.requires) in
    subst (λ s. Runs shape given s) (sym c.loop-entry.invariant.2) runs

pub loop-entry-preserved : goal.loop-entry-preserved
loop-entry-preserved c =
    let shape = c.args.shape.now in
    let entries = c.as_slice-entry-items.result.now in
    let i = c.loop-entry.entry-index in
    let e = c.entry-item.result in
    let kept = kept_in c.loop-entry.pass in
    let given = c.as_slice.result.now in
    let leads = given_leads shape entries (opening shape) i e kept c.loop-entry.given.items given c.loop-entry-test.true c.entry-item.is c.loop-entry.invariant.1 c.loop-entry.invariant.0 (c.as_slice.ensures.value ∙ c.in_ok-take.ensures.given) in (
      c.clear.ensures.items,
      entry_taken entries i e kept (kept_in c.take.new.self) c.loop-entry-test.true c.entry-item.is c.loop-entry.invariant.1 c.in_ok-take.ensures.kept,
      c.in_ok-play_all.ensures ∙ (ap (λ s. end_of shape given s) c.loop-entry.invariant.2 ∙ leads),
    )

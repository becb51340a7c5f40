use Rattle.std.proofs.Common.{ap, sym, ◌∙◌, subst}
use Rattle.dso_client.specs.MessageFits.{MayWake}
use Rattle.dso_client.specs.Openings.{thread_at}
use Rattle.dso_client.proofs.message_fit.fits_wake.Goals as goal

pub returns-then-thread-kept : goal.returns-then-thread-kept
returns-then-thread-kept c = λ at stands.
    let t = c.args.thread in
    let its = c.if-thread-kept.true ∙ stands.number in
    let same = ap (λ client. thread_at client t.index) its in (
      (λ yes.
          let w = subst (λ u. MayWake c.args.lock u at.entries) (sym same) ((c.may_wake.ensures at stands).0 yes) in
          record { its = its; waits = w.waits; unmarked = w.unmarked; unlisted = w.unlisted }),
      (λ f. (c.may_wake.ensures at stands).1 (subst (λ u. MayWake c.args.lock u at.entries) same (record { waits = f.waits; unmarked = f.unmarked; unlisted = f.unlisted }))),
    )

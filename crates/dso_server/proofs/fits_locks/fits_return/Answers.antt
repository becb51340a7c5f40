use Rattle.std.proofs.Common.{sym, ◌∙◌, ap, subst, Some}
use Rattle.std.specs.List.{AllByRecursion}
use Rattle.dso_law.specs.FitsUp.{AreDistinct, IsNewWaiter}
use Rattle.dso_law.specs.ServerReadings.{counted}
use Rattle.dso_server.proofs.lists.Telling.{no, told_by}
use Rattle.dso_server.proofs.fits_locks.fits_return.Goals as goal

pub returns-in-Some-Write : goal.returns-in-Some-Write
returns-in-Some-Write c = λ p es s. told_by (c.are_new_waiters.ensures p es s)
    (λ new. record { leased = λ none. cc (c.in-Some-Write.ensures p es s ∙ none); new = new.0; once = new.1; none_at_read = λ read. absurd (cc (c.in-Some-Write.ensures p es s ∙ read)) })
    (λ fits. (fits.new, fits.once))

pub returns-in-Some-Read : goal.returns-in-Some-Read
returns-in-Some-Read c = λ p es s. told_by c.are_none.ensures
    (λ none. record {
      leased = λ gone. cc (c.in-Some-Read.ensures p es s ∙ gone);
      new = subst (AllByRecursion (IsNewWaiter p c.args.client c.args.lock (counted es))) (sym none) tt;
      once = subst AreDistinct (sym none) tt;
      none_at_read = λ read. none;
    })
    (λ fits. fits.none_at_read (sym (c.in-Some-Read.ensures p es s) ∙ ap Some c.in-Some-Read.field-0-is))

pub returns-in-None : goal.returns-in-None
returns-in-None c = λ p es s. no (λ fits. fits.leased (sym (c.in-None.ensures p es s)))

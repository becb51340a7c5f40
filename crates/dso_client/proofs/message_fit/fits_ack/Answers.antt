use Rattle.dso_law.specs.Records.{unacked}
use Rattle.dso_txn.specs.Numbers.{numbers_in}
use Rattle.dso_client.proofs.lock_standing.FirstAcked.{least_fits, none_fits}
use Rattle.dso_client.proofs.message_fit.fits_ack.Goals as goal

pub returns-in-Some : goal.returns-in-Some
returns-in-Some c = λ at stands facts.
    least_fits facts.numbered.acked (unacked at.entries) c.in-Some.least c.args.seq (numbers_in c.args.sequences.now.unacked) facts.numbered.numbers stands.unacked c.in-Some.ensures.least

pub returns-in-None : goal.returns-in-None
returns-in-None c = λ at stands facts.
    ((λ e. absurd (cc e)), (λ f. absurd (none_fits (unacked at.entries) c.args.seq (numbers_in c.args.sequences.now.unacked) stands.unacked c.in-None.ensures.none f)))

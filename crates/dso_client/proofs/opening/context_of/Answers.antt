use Rattle.std.proofs.Common.{refl}
use Rattle.dso_client.proofs.objects.Blank.{blank_hand}
use Rattle.dso_client.proofs.opening.context_of.Goals as goal

pub returns-clause-opening : goal.returns-clause-opening
returns-clause-opening c = λ code h. record {
  runs = record { runs = h.runs };
  stands = h.stands;
  next = h.asks;
  work = blank_hand c.new.result c.new-2.result c.new.ensures c.new-2.ensures.empty;
  seen = refl;
  waiting = refl;
  unmarked = refl;
  last = refl;
}

use Rattle.std.proofs.Common.{sym, ap, is_some, arith}
use Rattle.dso_law.specs.RequestNeeds.{unless, NeedsId}
use Rattle.dso_client.proofs.contexts.NextIds.{next_there, next_gone}
use Rattle.dso_client.proofs.unmet_need.new_unmet_need.Goals as goal

pub returns-then-next-end : goal.returns-then-next-end
returns-then-next-end c = λ at t stands. record {
  is = ap (λ id. unless (is_some id) NeedsId) (sym (next_there c.args.sequences.now.pool at.entries (stands.ids 0) (omega (arith, c.next.ensures, c.end.ensures))));
  named = tt;
}

pub returns-else-next-end : goal.returns-else-next-end
returns-else-next-end c = λ at t stands. record {
  is = ap (λ id. unless (is_some id) NeedsId) (sym (next_gone c.args.sequences.now.pool at.entries (stands.ids 0) (omega (arith, c.next.ensures, c.end.ensures))));
  named = tt;
}

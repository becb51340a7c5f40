use Rattle.std.proofs.Common.{refl}
use Rattle.dso_cell.proofs.opening.server_cell.Goals as goal

pub returns-clause-new : goal.returns-clause-new
returns-clause-new c = record {
  whole = refl;
  core = λ p shape runs clients. (c.in_ok-core.ensures.stands p shape runs clients, c.in_ok-core.ensures.lacks p shape);
  log = c.new-log.ensures;
  given = c.in_ok-core.ensures.given;
}

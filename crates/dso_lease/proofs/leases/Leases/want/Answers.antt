use Rattle.std.proofs.Common.{Some, ap, ◌∙◌}
use Rattle.dso_lease.specs.Leases.{standing_in, with_standing, after_want}
use Rattle.dso_lease.proofs.leases.Leases.want.Goals as goal

pub returns-in-Some-clause-stands : goal.returns-in-Some-clause-stands
returns-in-Some-clause-stands c = c.stand.ensures ∙ ap (λ s. with_standing c.args.lock (Some s) (standing_in c.args.self.now)) (c.wanted.ensures ∙ ap (λ s. after_want c.args.level s) c.in-Some.ensures)

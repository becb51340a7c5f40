use Rattle.std.proofs.Common.{Some, ap, ◌∙◌}
use Rattle.std.specs.Option.{option_map}
use Rattle.dso_lease.specs.Leases.{standing_in, with_standing, entered}
use Rattle.dso_lease.proofs.leases.Leases.entered.Goals as goal

pub returns-in-Some : goal.returns-in-Some
returns-in-Some c = c.stand.ensures ∙ ap (λ s. with_standing c.args.lock s (standing_in c.args.self.now)) (ap (λ s. Some s) c.entered.ensures ∙ ap (λ s. option_map entered s) c.in-Some.ensures)

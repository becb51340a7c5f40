use Rattle.std.proofs.Common.{Some, ap, ◌∙◌}
use Rattle.std.specs.Option.{option_map}
use Rattle.dso_lease.specs.Leases.{standing_in, with_standing, recalled}
use Rattle.dso_lease.proofs.leases.Leases.recalled.Goals as goal

pub returns-in-Some-Leased-clause-closing : goal.returns-in-Some-Leased-clause-closing
returns-in-Some-Leased-clause-closing c = c.stand.ensures ∙ ap (λ s. with_standing c.args.lock s (standing_in c.args.self.now)) (ap (λ s. Some s) c.recalled.ensures ∙ ap (λ s. option_map recalled s) c.in-Some-Leased.ensures)

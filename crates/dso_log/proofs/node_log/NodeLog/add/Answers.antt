use Rattle.std.proofs.Common.{◌≡◌, ◌<◌, ◌+◌, ◌-◌, ◌^◌, length, refl, sym, ◌∙◌, ap, slice_get, sum_by, min, rules, arith}
use Rattle.std.proofs.lemmas.List.Sums.{sum_by_push}
use Rattle.dso_base.specs.Weight.{entry_weight_of}
use Rattle.dso_log.proofs.Keeping.{keeps_more}
use Rattle.dso_log.specs.Logs.{clock_at, last_clock}
use Rattle.dso_log.proofs.node_log.NodeLog.add.Goals as goal

pub invariant_of-self : goal.invariant_of-self
invariant_of-self c =
    let entries = c.self.inside.entries.items in
    let last : c.last_clock.result ≡ clock_at (slice_get entries (length entries - 1)) = c.last_clock.ensures ∙ ap last_clock (sym c.self.view_is) in
    let greater : clock_at (slice_get entries (length entries - 1)) < c.max-clock.result + 1 = omega (arith, last, c.max-clock.ensures) in (
      search rules,
      rw (c.push.ensures.items, c.in-Ok.is) (keeps_more _ _ _ c.self.invariant.1 refl greater),
      rw (c.push.ensures.items, c.in-Ok.is) (c.with_weight-self-inside.ensures (sum_by entry_weight_of entries) c.self.invariant.2 ∙ ap (λ weight. min weight (2 ^ 64 - 1)) (sym (sum_by_push entry_weight_of entries _))),
    )

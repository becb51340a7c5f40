use Rattle.std.proofs.Common.{◌≡◌, inl, inr, refl, true, sym, subst, ◌∙◌}
use Rattle.dso_lint.specs.Upgrades.{LocksForWrite}
use Rattle.dso_lint.specs.Upgrading.{TakesMonitor}
use Rattle.dso_lint.proofs.tables.takes_monitor.Goals as goal

pub returns-then-body : goal.returns-then-body
returns-then-body c routine listed = (λ q. inl (listed.writes.0 c.if-body.true), λ takes. refl)

pub returns : goal.returns
returns c routine listed = (λ q. inr (subst LocksForWrite listed.synced (c.locks_for_write.ensures.0 q)), by)
  where
    by : TakesMonitor routine → c.locks_for_write.result ≡ true
    by (inl site) = absurd (cc (sym (listed.writes.1 site) ∙ c.if-body.false))
    by (inr locks) = c.locks_for_write.ensures.1 (subst LocksForWrite (sym listed.synced) locks)

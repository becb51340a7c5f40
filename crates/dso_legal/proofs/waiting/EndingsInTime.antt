-- Endings that are no timeouts.
use Rattle.dso_base.specs.declared.record.Ending.{Ending}
use Rattle.dso_base.specs.declared.record.Ending.TheVariants as ending

-- no timeout
abbrev pub IsInTime : Ending → Type 0
IsInTime (ending.Exit l) = Unit {0}
IsInTime (ending.Wait l) = Unit {0}
IsInTime (ending.End fault) = Unit {0}
IsInTime (ending.Timeout l) = ⊥

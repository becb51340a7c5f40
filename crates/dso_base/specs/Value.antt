-- Which values a field takes.
use Rattle.std.specs.Prelude.{◌≢◌}
use Rattle.dso_base.specs.declared.value.Value.{Value}
use Rattle.dso_base.specs.declared.value.Value.TheVariants as value
use Rattle.dso_base.specs.declared.value.Kind.{Kind}
use Rattle.dso_base.specs.declared.value.Kind.TheVariants as kind

-- a long for long, a boolean for boolean, a text or null for text, an object other than object 0 or null for ref
abbrev pub Fits : Kind → Value → Type 0
Fits kind.Long (value.Long n) = Unit {0}
Fits kind.Bool (value.Bool b) = Unit {0}
Fits kind.Text (value.Text t) = Unit {0}
Fits kind.Text value.Null = Unit {0}
Fits kind.Ref (value.Ref object) = object ≢ 0
Fits kind.Ref value.Null = Unit {0}
Fits k v = ⊥

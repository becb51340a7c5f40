-- The tests of the definitions decide what they are to say.
use Rattle.std.proofs.Common.{◌≡◌, ◌↔◌, arith}
use Rattle.std.specs.Prelude.{IsTrue}
use Rattle.dso_base.specs.declared.value.Kind.{Kind}
use Rattle.dso_base.specs.declared.value.Kind.TheVariants as kind
use Rattle.dso_base.specs.declared.value.Value.{Value}
use Rattle.dso_base.specs.declared.value.Value.TheVariants as value
use Rattle.dso_base.specs.Value.{Fits}
use Rattle.dso_machine.specs.Values.{takes, is_same}

-- a field takes the values that fit its kind
pub takes_what_fits : (k : Kind) (v : Value) → IsTrue (takes k v) ↔ Fits k v
takes_what_fits kind.Ref (value.Ref object) = grind arith
takes_what_fits k v = grind arith

-- values of one kind and content are one value
pub same_are_equal : (a b : Value) → IsTrue (is_same a b) ↔ (a ≡ b)
same_are_equal a b = grind arith

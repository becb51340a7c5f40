-- Maps seen as functions from keys, and functions after something was written into them.
use Rattle.std.specs.Prelude.{Bool, cond, Option, Some, None}
use Rattle.std.specs.declared.cmp.Ordering.{Ordering}
use Rattle.std.specs.BTreeMap.{BTreeMap, get}

-- the map as a function: the value at each key
abbrev pub look : {K V : Type 0} → (K → K → Ordering) → BTreeMap K V → K → Option V
look cmp m key = get cmp m key

-- What is written into a function: at each key the new value, None where nothing is written. Here: where the test
-- holds, the value at that key.
abbrev pub writes : {K V : Type 0} → (K → Bool) → (K → V) → K → Option V
writes test value key = cond (test key) (Some (value key)) None

-- nothing is written
abbrev pub nowhere : {K V : Type 0} → K → Option V
nowhere key = None

-- the new value where there is one, else the old one
abbrev pub or_old : {V : Type 0} → Option V → V → V
or_old None old = old
or_old (Some new) old = new

-- the function after what was written into it
abbrev pub written : {K V : Type 0} → (K → Option V) → (K → V) → K → V
written new old key = or_old (new key) (old key)

-- What the counters of the graph come to: the sum of the field n over the objects of the class Counter that can be
-- reached from the roots.
use Rattle.std.specs.Prelude.{ℕ, ℤ, pos, ◌+ℤ◌, ◌≡◌, Bool, false, Option, Some, None, List}
use Rattle.std.specs.Prelude.{nat_lt, codes, bytes_eq, slice_get, if◌then◌else◌}
use Rattle.std.specs.Option.{option_and_then, option_map_or}
use Rattle.std.specs.List.{fold, position}
use Rattle.dso_base.specs.declared.value.ClassId.{ClassId}
use Rattle.dso_base.specs.declared.value.ClassId.TheVariants as class
use Rattle.dso_class.specs.declared.program.Names.{Names}
use Rattle.dso_plain.specs.State.{Object, PlainState}
use Rattle.dso_report.specs.Held.{number_in}
use Rattle.dso_report.specs.Numbering.{IsOrder, fields_of}

-- the number in the field of this place of an object; 0 where it has no such field
abbrev pub number_at : PlainState → ℕ → Option ℕ → ℤ
number_at s o None = pos 0
number_at s o (Some f) = if nat_lt f (fields_of s o) then number_in (s.heap (o, f)) else pos 0

-- whether a class is that of the counters, by its name
abbrev pub is_counter : Names → ℕ → Bool
is_counter names c = option_map_or (λ name. bytes_eq name (codes "Counter")) (slice_get names.classes c) false

-- the place of the count among the fields of a class, by its name, if it has one
abbrev pub count_place : Names → ℕ → Option ℕ
count_place names c = option_and_then (position (λ name. bytes_eq name (codes "n"))) (slice_get names.fields c)

-- what an object of a class counts: a counter what its field n holds, another object 0
abbrev pub count_in : Names → PlainState → ℕ → ClassId → ℤ
count_in names s o (class.Plain c) = if is_counter names c then number_at s o (count_place names c) else pos 0
count_in names s o other = pos 0

-- what an object counts, if it is there
abbrev pub count_of : Names → PlainState → ℕ → Option Object → ℤ
count_of names s o None = pos 0
count_of names s o (Some object) = count_in names s o object.class

-- the sum of what some objects count
abbrev pub sum_of : Names → PlainState → List ℕ → ℤ
sum_of names s objects = fold (λ sum o. sum +ℤ count_of names s o (s.objects o)) (pos 0) objects

-- The total is the sum of what the objects count that can be reached from the roots, each of them once.
pub record IsCounterTotal (names : Names) (s : PlainState) (total : ℤ) : Type 0 where
  pub order : List ℕ
  pub is_order : IsOrder s order
  pub sums : total ≡ sum_of names s order

-- Where a thing first stands in a list, by an order that tells things apart.
use Rattle.std.specs.Prelude.{ℕ, suc, Bool, true, false, List, [], ◌∷◌, Option, Some, None}
use Rattle.std.specs.declared.cmp.Ordering.{Ordering}
use Rattle.std.specs.BTreeMap.{is_at}
use Rattle.std.specs.Option.{option_map}

-- place 0 where the first item is the one that is asked for, else the place that it has behind that
abbrev pub here_or_behind : Bool → Option ℕ → Option ℕ
here_or_behind true behind = Some 0
here_or_behind false behind = option_map suc behind

-- the place of the first item of which the test holds, none where it holds of no item
abbrev pub place_by : {A : Type 0} → (A → Bool) → List A → Option ℕ
place_by test [] = None
place_by test (first ∷ rest) = here_or_behind (test first) (place_by test rest)

-- the first place of a thing in a list, none where it isn't there
abbrev pub place_of : {A : Type 0} → (A → A → Ordering) → List A → A → Option ℕ
place_of cmp things thing = place_by (is_at (cmp thing)) things

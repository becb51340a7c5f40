-- How values are written: where a thread printed them, and in the graph. What names something that isn't there has no
-- text.
use Rattle.std.specs.Prelude.{ℕ, zero, suc, eqb, cond, ◌||◌, true, false, Option, Some, None, List, [], ◌∷◌, ◌++◌}
use Rattle.std.specs.Prelude.{codes, flat_map, slice_get}
use Rattle.std.specs.Fmt.{decimal, signed_decimal, ◌++?◌}
use Rattle.std.specs.List.{position}
use Rattle.std.specs.Option.{option_map}
use Rattle.dso_base.specs.declared.value.Kind.{Kind}
use Rattle.dso_base.specs.declared.value.Kind.TheVariants as kind
use Rattle.dso_base.specs.declared.value.Value.{Value}
use Rattle.dso_base.specs.declared.value.Value.TheVariants as value

-- the texts of 0, 1 and so on below n, one after the other, if each has one
abbrev pub each_below : (ℕ → Option (List ℕ)) → ℕ → Option (List ℕ)
each_below text zero = Some []
each_below text (suc n) = each_below text n ++? text n

-- the texts of the items, one after the other, if each has one
abbrev pub each_of : {A : Type 0} → (A → Option (List ℕ)) → List A → Option (List ℕ)
each_of text [] = Some []
each_of text (x ∷ xs) = text x ++? each_of text xs

-- a byte of a text in quotes: a quote and a backslash stand behind a backslash
abbrev pub escaped : ℕ → List ℕ
escaped byte = cond (eqb byte 34 || eqb byte 92) (92 ∷ byte ∷ []) (byte ∷ [])

-- a text in quotes
abbrev pub quoted : List ℕ → List ℕ
quoted text = codes "\"" ++ (flat_map escaped text ++ codes "\"")

-- a value as a thread prints it; a text stands as it is, by its place among the literals
abbrev pub printed : List (List ℕ) → Value → Option (List ℕ)
printed texts value.Null = Some (codes "null")
printed texts (value.Long z) = Some (signed_decimal z)
printed texts (value.Bool true) = Some (codes "true")
printed texts (value.Bool false) = Some (codes "false")
printed texts (value.Text i) = slice_get texts i
printed texts (value.Ref o) = Some (codes "ref")

-- the number of an object: its place in the order, counted from 1
abbrev pub number_of : List ℕ → ℕ → Option ℕ
number_of order o = option_map suc (position (eqb o) order)

-- an object by its number
abbrev pub numbered : List ℕ → ℕ → Option (List ℕ)
numbered order o = option_map (λ n. codes "#" ++ decimal n) (number_of order o)

-- a value as the graph shows it
abbrev pub shown : List (List ℕ) → List ℕ → Value → Option (List ℕ)
shown texts order value.Null = Some (codes "null")
shown texts order (value.Long z) = Some (signed_decimal z)
shown texts order (value.Bool true) = Some (codes "true")
shown texts order (value.Bool false) = Some (codes "false")
shown texts order (value.Text i) = option_map quoted (slice_get texts i)
shown texts order (value.Ref o) = numbered order o

-- a field's value as the graph shows it; a field without a value has no text
abbrev pub shown_in : List (List ℕ) → List ℕ → Option Value → Option (List ℕ)
shown_in texts order None = None
shown_in texts order (Some v) = shown texts order v

-- the kind of an array's elements
abbrev pub kind_text : Kind → List ℕ
kind_text kind.Long = codes "long"
kind_text kind.Bool = codes "boolean"
kind_text kind.Text = codes "text"
kind_text kind.Ref = codes "ref"

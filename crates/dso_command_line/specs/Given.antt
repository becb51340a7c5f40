-- What words give, as the code keeps it: texts that may be there.
use Rattle.std.specs.Prelude.{ℕ, List, [], ◌∷◌, Option, Some, None}
use Rattle.std.specs.Option.{option_map}
use denote.Ref.{Bor}

-- the bytes of a text that may be there
abbrev pub told : Option (Bor (List ℕ)) → Option (List ℕ)
told text = option_map (λ there. there.now) text

-- the names, of which each is there only where the one before it is
abbrev pub names_of : Option (List ℕ) → Option (List ℕ) → Option (List ℕ) → List (List ℕ)
names_of None second third = []
names_of (Some first) None third = first ∷ []
names_of (Some first) (Some second) None = first ∷ second ∷ []
names_of (Some first) (Some second) (Some third) = first ∷ second ∷ third ∷ []

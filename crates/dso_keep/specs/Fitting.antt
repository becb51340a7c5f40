-- Parts of a record that fit.
use Rattle.std.specs.List.{AllWithin}
use Rattle.std.specs.Prelude.{ℕ, ◌<◌, ◌≤◌, ltb, List, length}
use Rattle.dso_base.specs.declared.record.Body.{Body}
use Rattle.dso_base.specs.declared.record.Set.{Set}
use Rattle.dso_base.specs.declared.shape.Shape.{Shape}
use Rattle.dso_base.specs.Shape.{kind_of}
use Rattle.dso_base.specs.Value.{Fits}
use Rattle.dso_law.specs.FitsUp.{Rises}

-- the news rise by object
abbrev pub IsRising : List Body → Type 0
IsRising news = Rises (λ a b. ltb a.object b.object) news

-- the news before the place are under the object, and the others aren't
abbrev pub IsPlaceOf : ℕ → List Body → ℕ → Type 0
IsPlaceOf o news at = AllWithin (λ body. body.object < o) news 0 at
    × AllWithin (λ body. o ≤ body.object) news at (length news)

-- the body has the field, and the value fits it
abbrev pub HasField : Shape → Set → Body → Type 0
HasField shape set body = (set.field < length body.values) × Fits (kind_of shape body.class set.field) set.value

-- A list of objects with those that a test tells.
use Rattle.std.specs.Prelude.{ℕ, ◌≡◌, Bool, ◌||◌, List}
use Rattle.dso_lookup.specs.Search.{is_listed}

-- The list has what it had before, and each object of which the test says so.
abbrev pub AddsNamed : (ℕ → Bool) → List ℕ → List ℕ → Type 0
AddsNamed names old new = (o : ℕ) → is_listed o new ≡ (is_listed o old || names o)

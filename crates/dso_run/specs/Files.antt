-- What became of the files, by what is told of each before and after.
use Rattle.std.specs.Prelude.{◌≡◌, ◌≢◌, ℕ, List, Option, Some, None}
use Rattle.dso_io.specs.Environment.{Told, replaced}

-- no file was changed
abbrev pub AreAsBefore : (List ℕ → Told) → (List ℕ → Told) → Type 0
AreAsBefore before after = (name : List ℕ) → after name ≡ before name

-- the bytes stand in the place of those of the file that is named, where the contents are told, and no other file was
-- changed; where none is named, no file was changed at all
abbrev pub IsWritten : Option (List ℕ) → List ℕ → (List ℕ → Told) → (List ℕ → Told) → Type 0
IsWritten None bytes before after = AreAsBefore before after
IsWritten (Some file) bytes before after =
    (after file ≡ replaced (before file) bytes)
    × ((other : List ℕ) → other ≢ file → after other ≡ before other)

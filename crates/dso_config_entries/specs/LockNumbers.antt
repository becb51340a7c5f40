-- The numbers of things in a list, and of named locks.
use Rattle.std.specs.Prelude.{◌≡◌, ℕ, ◌+◌, List, Some, slice_get}
use Rattle.dso_config_entries.specs.Words.{Word}

-- the number is that of the thing
abbrev pub IsNumber : {A : Type 0} → List A → A → ℕ → Type 0
IsNumber things thing number = slice_get things number ≡ Some thing

-- a lock's number: its name's, behind those of so many roots
pub record IsLockNumber (locks : List Word) (roots : ℕ) (name : Word) (lock : ℕ) : Type 0 where
  pub number : ℕ
  pub of_name : IsNumber locks name number
  pub behind_roots : lock ≡ roots + number

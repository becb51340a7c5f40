-- How the first bytes of a file of the system are read, piece by piece.
use Rattle.std.specs.Prelude.{◌≡◌, ℕ, ◌<◌, List, ◌++◌, length, Option}
use Rattle.std.specs.Io.KnownBytes.{Consumes, IsAtEnd}

-- A read came on: the bytes grew by so many that the file gave and has no more, and by none only at the file's end or
-- where there was no room for any.
pub record ReadsOn (before now : Option (List ℕ)) (room count : ℕ) (bytes grown : List ℕ) : Type 0 where
  pub piece : List ℕ
  pub counted : length piece ≡ count
  pub consumed : Consumes before now piece
  pub appended : grown ≡ bytes ++ piece
  pub ended : count ≡ 0 → 0 < room → IsAtEnd now

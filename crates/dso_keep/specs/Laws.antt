-- What a file reopens to is one list of records, and nothing where a gate is bad.
use Rattle.std.specs.Prelude.{◌≡◌, ℕ, List}
use Rattle.dso_base.specs.declared.record.Txn.{Txn}
use Rattle.dso_base.specs.declared.shape.Shape.{Shape}
use Rattle.dso_keep.specs.Records.{IsBadAt, Reopens}

-- a file reopens to one list of records
abbrev pub OneReopening : Type 0
OneReopening = (shape : Shape) (bytes : List ℕ) (xs ys : List (ℕ × Txn)) → Reopens shape bytes xs
    → Reopens shape bytes ys → xs ≡ ys

-- a file in which an open gate is followed by no record that fits reopens to none
abbrev pub BadNeverReopens : Type 0
BadNeverReopens = (shape : Shape) (bytes : List ℕ) (place : ℕ) (records : List (ℕ × Txn)) → IsBadAt shape bytes place
    → Reopens shape bytes records → ⊥

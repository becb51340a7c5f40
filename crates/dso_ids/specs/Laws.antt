-- That each id is handed out once.
use Rattle.std.specs.Prelude.{ℕ, zero, suc, ◌+◌, ◌<◌, ◌≡◌, cond, ltb, Some, None}
use Rattle.dso_ids.specs.Ids.{Ids, first_of_batch, first_left, without_first, filled}

-- Batches: where the i-th id of one batch is the j-th of another, the two are one batch and one place.
abbrev pub BatchesDiffer : Type 0
BatchesDiffer = (k m i j : ℕ) → i < 256 → j < 256 → first_of_batch k + i ≡ first_of_batch m + j → (k ≡ m) × (i ≡ j)

-- the pool after so many were taken
abbrev pub taken : ℕ → Ids → Ids
taken zero ids = ids
taken (suc n) ids = without_first (taken n ids)

-- Pools: the ids of a batch are taken in turn, each one once, and behind the last of its 256 there is none.
abbrev pub TakenInTurn : Type 0
TakenInTurn = (first n : ℕ) → first_left (taken n (filled first)) ≡ cond (ltb n 256) (Some (first + n)) None

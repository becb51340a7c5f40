-- The ids of new objects: batches of 256, and a pool from which they are taken one by one.
use Rattle.std.specs.Prelude.{ℕ, ◌+◌, ◌*◌, ◌≡◌, cond, ltb, Option, Some, None, refl}
use Rattle.std.specs.Coded.{Coded, code_by, coded×, coded_ℕ}

-- the first id of the batch that is given after so many others: 1, 257, and so on
abbrev pub first_of_batch : ℕ → ℕ
first_of_batch given = 1 + 256 * given

-- the ids of a pool: the next one, and the one behind the last
pub record Ids : Type 0 where
  pub next : ℕ
  pub end : ℕ

-- they are stored as a pair
abbrev pub ids_code : Coded Ids
ids_code = code_by (ℕ × ℕ) (coded× coded_ℕ coded_ℕ) (λ ids. (ids.next, ids.end))
    (λ pair. record { next = pair.0; end = pair.1 }) (λ _. refl)

-- none is left
abbrev pub IsEmpty : Ids → Type 0
IsEmpty ids = ids.next ≡ ids.end

-- the least one left, None where none is
abbrev pub first_left : Ids → Option ℕ
first_left ids = cond (ltb ids.next ids.end) (Some ids.next) None

-- what is left once the least one was taken
abbrev pub without_first : Ids → Ids
without_first ids = cond (ltb ids.next ids.end) (record ids { next = ids.next + 1 }) ids

-- the 256 ids of the batch that begins with this one
abbrev pub filled : ℕ → Ids
filled first = record { next = first; end = first + 256 }

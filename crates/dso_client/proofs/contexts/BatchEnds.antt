-- The end of the batches, and what is behind it.
use Rattle.std.proofs.Common.{ℕ, ◌+◌, ◌≤◌, List, [], ◌∷◌, arith}
use Rattle.std.specs.List.{AllByRecursion}
use Rattle.dso_client.specs.SequencesStand.{ids_end}

-- what is behind the end is behind each batch
pub behind_each : (first : ℕ) (batches : List ℕ) → ids_end batches ≤ first → (1 ≤ first) × AllByRecursion (λ before. before + 256 ≤ first) batches
behind_each first [] h = (h, tt)
behind_each first (b ∷ bs) h =
    let here : b + 256 ≤ first = omega (arith, h) in
    let later : ids_end bs ≤ first = omega (arith, h) in
    let rest = behind_each first bs later in
    (rest.0, (here, rest.1))

-- and what is behind each batch is behind the end
pub behind_all : (first : ℕ) (batches : List ℕ) → 1 ≤ first → AllByRecursion (λ before. before + 256 ≤ first) batches → ids_end batches ≤ first
behind_all first [] one h = one
behind_all first (b ∷ bs) one h =
    let here = h.0 in
    let rest = behind_all first bs one h.1 in
    omega (arith, here, rest)

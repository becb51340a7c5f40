-- The batches of ids that the server gave, by the clients that they were given to.
use Rattle.std.specs.Prelude.{ℕ, List, [], ◌∷◌, length}
use Rattle.dso_ids.specs.Ids.{first_of_batch}
use Rattle.dso_law.specs.ServerReadings.{Batch}

-- the batches that were given to these clients one after the other, the latest first
abbrev pub batches_to : List ℕ → List Batch
batches_to [] = []
batches_to (c ∷ owners) = record { client = c; first = first_of_batch (length owners) } ∷ batches_to owners

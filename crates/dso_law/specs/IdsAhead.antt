-- The ids that a client's next objects get.
use Rattle.std.specs.Prelude.{ℕ, ◌+◌, Option, List}
use Rattle.dso_base.specs.declared.journal.Entry.{Entry}
use Rattle.dso_law.specs.Records.{batches, made, id_at}

-- the id of the object that is made behind so many more; None past the last batch
abbrev pub ids_from : ℕ → List Entry → Option ℕ
ids_from k es = id_at (batches es) (made es + k)

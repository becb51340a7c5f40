-- What the grammar keeps: different things have different bytes, and a record has not many.
use Rattle.std.specs.Prelude.{◌≡◌, ◌≤◌, ◌+◌, ◌*◌, List, length}
use Rattle.dso_base.specs.Weight.{txn_values_of}
use Rattle.dso_base.specs.declared.record.Txn.{Txn}
use Rattle.dso_wire.specs.Cells.{Cell, bytes_of}
use Rattle.dso_wire.specs.Spelling.{record_cells}

-- two things with the same bytes are one
abbrev pub IsOneToOne : {A : Type 0} → (A → List Cell) → (A → Type 0) → Type 0
IsOneToOne {A} cells Is = (x y : A) → Is x → Is y → bytes_of (cells x) ≡ bytes_of (cells y) → x ≡ y

-- A record's bytes are bounded by the objects that it publishes, its values and its notifications.
abbrev pub IsShort : Txn → Type 0
IsShort txn = length (bytes_of (record_cells txn))
    ≤ 36 + 17 * length txn.news + 21 * txn_values_of txn + 12 * length txn.notes

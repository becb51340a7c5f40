-- Journals so small that their weight is a number of 64 bits.
use Rattle.std.specs.List.{list_all}
use Rattle.std.specs.Prelude.{◌≡◌, ◌<◌, ◌^◌, Bool, true, eqb, List, length}
use Rattle.dso_base.specs.declared.journal.Entry.{Entry}

-- the entry sends nothing
abbrev pub sends_nothing : Entry → Bool
sends_nothing entry = eqb (length entry.sent) 0

-- few entries, which send nothing
pub record IsSmall (entries : List Entry) : Type 0 where
  pub few : length entries < 2 ^ 32
  pub silent : list_all sends_nothing entries ≡ true

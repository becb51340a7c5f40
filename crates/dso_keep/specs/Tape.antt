-- A file in memory, by the marks of what was done, in their order, and by all bytes that were written, one after the
-- other.
use Rattle.std.specs.Prelude.{◌≡◌, ℕ, ◌+◌, ◌≤◌, List, [], ◌∷◌, length, take, drop}
use Rattle.dso_keep.specs.Disk.{Change, File, Attached, Wrote, Synced, bytes_after}
use Rattle.dso_keep.specs.declared.tape.Mark.{Mark}
use Rattle.dso_keep.specs.declared.tape.Mark.TheVariants as mark

-- how many of the bytes written the mark tells of
abbrev pub count_in : Mark → ℕ
count_in (mark.Wrote at count) = count
count_in mark.Attached = 0
count_in mark.Synced = 0

-- what the mark tells of, where the file had these bytes and the mark's own bytes stand at the front
abbrev pub change_told : List ℕ → Mark → List ℕ → Change
change_told now mark.Attached written = Attached now
change_told now (mark.Wrote at count) written = Wrote at (take count written)
change_told now mark.Synced written = Synced

-- what was done, the newest first, with what more marks and their bytes tell
abbrev pub changes_on : List ℕ → List Change → List Mark → List ℕ → List Change
changes_on first done [] written = done
changes_on first done (next ∷ marks) written =
    changes_on first (change_told (bytes_after first done) next written ∷ done) marks (drop (count_in next) written)

-- what was done in all
abbrev pub changes_of : List ℕ → List Mark → List ℕ → List Change
changes_of first marks written = changes_on first [] marks written

-- how many bytes the marks tell of
abbrev pub count_of : List Mark → ℕ
count_of [] = 0
count_of (next ∷ marks) = count_in next + count_of marks

-- where it is a write, it begins within these bytes
abbrev pub BeginsWithin : List ℕ → Mark → Type 0
BeginsWithin bytes (mark.Wrote at count) = at ≤ length bytes
BeginsWithin bytes mark.Attached = Unit {0}
BeginsWithin bytes mark.Synced = Unit {0}

-- each write began within the file as it was then
abbrev pub AreWithin : List ℕ → List Change → Type 0
AreWithin first [] = Unit {0}
AreWithin first (Wrote at bytes ∷ changes) = (at ≤ length (bytes_after first changes)) × AreWithin first changes
AreWithin first (Attached bytes ∷ changes) = (bytes ≡ bytes_after first changes) × AreWithin first changes
AreWithin first (Synced ∷ changes) = AreWithin first changes

-- A file in memory: the file, how many bytes were written, and how many marks and bytes written there may be.
pub record RecordedFile : Type 0 where
  pub file : File
  pub written : ℕ
  pub most_marks : ℕ
  pub most_bytes : ℕ

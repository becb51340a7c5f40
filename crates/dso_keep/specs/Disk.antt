-- The model of a disk: what was done to a file, what a read of it gives, and what a crash may leave of it. What was
-- done stands with the newest first.
use Rattle.std.specs.Prelude.{◌≡◌, ◌⊎◌, ℕ, ◌+◌, ◌≤◌, max, Bool, true, false, List, [], ◌∷◌, ◌++◌, length, take, drop}
use Rattle.std.specs.Prelude.{Option, Some, None, Result, Ok, Err}

-- What bears on what a crash may leave: the file was taken with these bytes; bytes were written at a place; all that
-- was written was put on the disk.
pub data Change : Type 0 where
  Attached : List ℕ → Change
  Wrote : ℕ → List ℕ → Change
  Synced : Change

-- A file: the bytes that it had at first, all of them on the disk, and what was done since.
pub record File : Type 0 where
  pub first : List ℕ
  pub changes : List Change

-- the bytes with others in the place of those from a place on, and behind the end
abbrev pub with_bytes : ℕ → List ℕ → List ℕ → List ℕ
with_bytes at bytes old = take at old ++ bytes ++ drop (at + length bytes) old

-- the bytes that a read gives
abbrev pub bytes_after : List ℕ → List Change → List ℕ
bytes_after first [] = first
bytes_after first (Attached bytes ∷ changes) = bytes
bytes_after first (Wrote at bytes ∷ changes) = with_bytes at bytes (bytes_after first changes)
bytes_after first (Synced ∷ changes) = bytes_after first changes

-- What a write of so many bytes at a place makes of a file where a crash cuts it short: any bytes in its range, any
-- length from the old end to the new one, and all else as it was.
pub record Torn (at count : ℕ) (old left : List ℕ) : Type 0 where
  pub before : take at left ≡ take at old
  pub behind : drop (at + count) left ≡ drop (at + count) old
  pub no_shorter : length old ≤ length left
  pub no_longer : length left ≤ max (length old) (at + count)

-- What a crash may leave: what was taken or synced, with each write since then torn. A write under way needs no case of
-- its own: what it may leave half done is among what it may leave once it was done.
abbrev pub MayLeave : List ℕ → List Change → List ℕ → Type 0
MayLeave first [] left = left ≡ first
MayLeave first (Attached bytes ∷ changes) left = left ≡ bytes
MayLeave first (Wrote at bytes ∷ changes) left =
    (old : List ℕ) × MayLeave first changes old × Torn at (length bytes) old left
MayLeave first (Synced ∷ changes) left = left ≡ bytes_after first changes

-- no write is pending: the last that was done is no write
abbrev pub is_settled : List Change → Bool
is_settled (Wrote at bytes ∷ changes) = false
is_settled changes = true

-- the bytes of a file now
abbrev pub bytes_in : File → List ℕ
bytes_in file = bytes_after file.first file.changes

-- the file with one change more, where it is told
abbrev pub changed : Change → Option File → Option File
changed change None = None
changed change (Some file) = Some (record file { changes = change ∷ file.changes })

-- A call makes this change. One that failed made it, or did nothing.
abbrev pub Makes : {A F : Type 0} → Change → Option File → Option File → Result A F → Type 0
Makes change old new (Ok answer) = new ≡ changed change old
Makes change old new (Err fault) = (new ≡ changed change old) ⊎ (new ≡ old)

-- A call writes these bytes at a place. One that failed wrote any bytes there, no more than these, or did nothing.
abbrev pub Writes : {A F : Type 0} → ℕ → List ℕ → Option File → Option File → Result A F → Type 0
Writes at bytes old new (Ok answer) = new ≡ changed (Wrote at bytes) old
Writes at bytes old new (Err fault) =
    ((part : List ℕ) × (length part ≤ length bytes) × (new ≡ changed (Wrote at part) old)) ⊎ (new ≡ old)

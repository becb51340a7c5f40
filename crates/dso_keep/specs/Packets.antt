-- The file of a store: packets, each behind an open gate with its length, and a closed gate at the end.
use Rattle.std.specs.Prelude.{◌≡◌, ◌≢◌, ◌⊎◌, ℕ, ◌<◌, ◌≤◌, ◌^◌, List, [], ◌∷◌, ◌++◌, length, Option, true}
use Rattle.std.specs.Option.{IfSome}
use Rattle.std.specs.Int.{to_be_bytes, w32}
use Rattle.dso_keep.specs.Disk.{File, bytes_in, is_settled}

-- a packet with its length before it, in four bytes, the greatest first
abbrev pub sized : List ℕ → List ℕ
sized packet = to_be_bytes w32 (length packet) ++ packet

-- the packets, each behind an open gate
abbrev pub gated : List (List ℕ) → List ℕ
gated [] = []
gated (packet ∷ packets) = 1 ∷ sized packet ++ gated packets

-- the file of these packets
abbrev pub file_of : List (List ℕ) → List ℕ
file_of packets = gated packets ++ 0 ∷ []

-- no gate stands open at the front: there is none, or another byte
abbrev pub IsShut : List ℕ → Type 0
IsShut [] = Unit {0}
IsShut (gate ∷ rest) = gate ≢ 1

-- the bytes have these packets behind open gates, and then no gate is open, whatever follows
abbrev pub HasPackets : List ℕ → List (List ℕ) → Type 0
HasPackets bytes [] = IsShut bytes
HasPackets bytes (packet ∷ packets) = (length packet < 2 ^ 32) × (rest : List ℕ) × (bytes ≡ 1 ∷ sized packet ++ rest)
    × HasPackets rest packets

-- What a file reads as: one of no byte or one byte as no packets, whatever its byte is.
abbrev pub ReadsAs : List ℕ → List (List ℕ) → Type 0
ReadsAs (a ∷ b ∷ rest) packets = HasPackets (a ∷ b ∷ rest) packets
ReadsAs short packets = packets ≡ []

-- the file, where it is told, has these bytes, with no write pending
abbrev pub IsKept : List ℕ → Option File → Type 0
IsKept bytes file = IfSome file (λ f. (bytes_in f ≡ bytes) × (is_settled f.changes ≡ true))

-- the file, where it is told, has at most one byte
abbrev pub IsShort : Option File → Type 0
IsShort file = IfSome file (λ f. length (bytes_in f) ≤ 1)

-- the file, where it is told, has at most one byte, with no write pending
abbrev pub IsUnused : Option File → Type 0
IsUnused file = IfSome file (λ f. (length (bytes_in f) ≤ 1) × (is_settled f.changes ≡ true))

-- What a crash leaves where bytes are put behind a closed gate and the gate is then opened: all in front of the gate,
-- and behind it anything while it is closed, and these bytes whatever it is.
abbrev pub IsStaged : List ℕ → List ℕ → List ℕ → Type 0
IsStaged front bytes left =
    ((rest : List ℕ) × (left ≡ front ++ 0 ∷ rest)) ⊎ ((gate : ℕ) × (left ≡ front ++ gate ∷ bytes))

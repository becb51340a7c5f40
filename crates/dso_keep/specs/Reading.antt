-- What is read of a store's file, record by record.
use Rattle.std.specs.Prelude.{◌≡◌, ℕ, ◌+◌, ◌<◌, ◌≤◌, ◌^◌, Bool, false, nat_eq, List, [], ◌∷◌, ◌++◌, length, drop}
use Rattle.std.specs.Prelude.{Option, Some, None}
use Rattle.std.specs.Option.{IfSome}
use Rattle.std.specs.List.{AllByRecursion}
use Rattle.dso_base.specs.declared.record.Txn.{Txn}
use Rattle.dso_base.specs.declared.shape.Shape.{Shape}
use Rattle.dso_store.specs.Graph.{body_in, last_in}
use Rattle.dso_store.specs.declared.store.Store.{Store}
use Rattle.dso_keep.specs.Disk.{File, bytes_in}
use Rattle.dso_keep.specs.Packets.{gated, sized}
use Rattle.dso_keep.specs.Records.{AllFit, FitsGraph, HasPacket, KeptGraph, applied_to, graph_after, opening}
use Rattle.dso_keep.specs.Records.{packet_of, packets_of}
use Rattle.dso_keep.specs.declared.kept.Kept.{Kept}

-- the graph that a store of objects has
abbrev pub graph_in : Store → KeptGraph
graph_in store = record { bodies = body_in store; last = last_in store }

-- whether an open gate stands at the front
abbrev pub is_open_at : List ℕ → Bool
is_open_at [] = false
is_open_at (gate ∷ rest) = nat_eq gate 1

-- the packet stands whole at the front, its length before it
abbrev pub IsBehind : List ℕ → List ℕ → Type 0
IsBehind packet bytes = (length packet < 2 ^ 32) × (rest : List ℕ) × (bytes ≡ sized packet ++ rest)

-- no packet stands whole at the front
abbrev pub NoneBehind : List ℕ → Type 0
NoneBehind bytes = (packet : List ℕ) → IsBehind packet bytes → ⊥

-- the whole packet behind the gate at a place of a file of so many bytes, or that there is none
abbrev pub IsPacketAt : ℕ → ℕ → Option File → Option (List ℕ) → Type 0
IsPacketAt at count file None = IfSome file (λ f. count ≡ length (bytes_in f) → NoneBehind (drop (at + 1) (bytes_in f)))
IsPacketAt at count file (Some packet) = (length packet < 2 ^ 32) × (at + 5 + length packet ≤ count)
    × IfSome file (λ f. count ≡ length (bytes_in f) → IsBehind packet (drop (at + 1) (bytes_in f)))

-- the record of a packet, or that there is none
abbrev pub IsRecordIn : List ℕ → Option (ℕ × Txn) → Type 0
IsRecordIn packet None = (r : ℕ × Txn) → HasPacket r → packet ≡ packet_of r → ⊥
IsRecordIn packet (Some r) = HasPacket r × (packet ≡ packet_of r)

-- What is kept are records of which each fits those before it, and the store that they leave.
pub record IsWhole (shape : Shape) (kept : Kept) : Type 0 where
  pub grammar : AllByRecursion HasPacket kept.records.items
  pub fit : AllFit shape (opening shape) kept.records.items
  pub graph : graph_in kept.store ≡ graph_after (opening shape) kept.records.items

-- The record of a packet was added, which fits the graph.
pub record Adds (shape : Shape) (packet : List ℕ) (old new : Kept) : Type 0 where
  pub r : ℕ × Txn
  pub is : HasPacket r
  pub own : packet ≡ packet_of r
  pub fits : FitsGraph shape (graph_in old.store) r
  pub records : new.records.items ≡ old.records.items ++ r ∷ []
  pub graph : graph_in new.store ≡ applied_to r (graph_in old.store)

-- no record that fits the graph has this packet
abbrev pub NoneFits : Shape → List ℕ → Kept → Type 0
NoneFits shape packet kept = (r : ℕ × Txn) → HasPacket r → packet ≡ packet_of r
    → FitsGraph shape (graph_in kept.store) r → ⊥

-- the records stand in front of the place
abbrev pub StandBefore : List (ℕ × Txn) → ℕ → List ℕ → Type 0
StandBefore records at bytes = (at ≡ length (gated (packets_of records)))
    × (bytes ≡ gated (packets_of records) ++ drop at bytes)

-- an open gate stands at the place, and no whole record that fits behind it
abbrev pub IsBadHere : Shape → Kept → List ℕ → Type 0
IsBadHere shape kept bytes = (rest : List ℕ) × (bytes ≡ 1 ∷ rest)
    × ((r : ℕ × Txn) (more : List ℕ) → HasPacket r → rest ≡ sized (packet_of r) ++ more
    → FitsGraph shape (graph_in kept.store) r → ⊥)

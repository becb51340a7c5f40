-- The records of a store: the graph that they leave, which record fits it, and which records a file reopens to. A
-- record stands with its client before it.
use Rattle.std.specs.Prelude.{◌≡◌, ◌≢◌, ℕ, suc, ◌<◌, ◌≤◌, ◌^◌, cond, eqb, ltb, Option, Some, None}
use Rattle.std.specs.Prelude.{List, [], ◌∷◌, ◌++◌, length, map}
use Rattle.std.specs.List.{AllByRecursion}
use Rattle.dso_base.specs.declared.message.Up.TheVariants as up
use Rattle.dso_base.specs.declared.record.Body.{Body}
use Rattle.dso_base.specs.declared.record.Set.{Set}
use Rattle.dso_base.specs.declared.record.Txn.{Txn}
use Rattle.dso_base.specs.declared.shape.Shape.{Shape}
use Rattle.dso_base.specs.declared.value.ClassId.TheVariants as class
use Rattle.dso_base.specs.declared.value.Value.{Value}
use Rattle.dso_base.specs.declared.value.Value.TheVariants as value
use Rattle.dso_base.specs.Shape.{kind_of}
use Rattle.dso_base.specs.Value.{Fits}
use Rattle.dso_law.specs.FitsDown.{FitsShape}
use Rattle.dso_law.specs.FitsUp.{Rises}
use Rattle.dso_law.specs.ServerReadings.{number_by}
use Rattle.dso_law.specs.Store.{opening_roots, body_by, body_by_news}
use Rattle.dso_wire.specs.Cells.{bytes_of}
use Rattle.dso_wire.specs.Spelling.{IsRecord, record_cells}
use Rattle.dso_keep.specs.Packets.{ReadsAs, gated, sized}

-- a record in the file: a byte for its client, and its bytes
abbrev pub packet_of : ℕ × Txn → List ℕ
packet_of r = r.0 ∷ bytes_of (record_cells r.1)

abbrev pub packets_of : List (ℕ × Txn) → List (List ℕ)
packets_of records = map packet_of records

-- the record has bytes, and they aren't too many for their length to stand before them
abbrev pub HasPacket : ℕ × Txn → Type 0
HasPacket r = (r.0 < 2 ^ 8) × IsRecord r.1 × (length (packet_of r) < 2 ^ 32)

-- What records leave: the body of each object, and the number of each client's last record.
pub record KeptGraph : Type 0 where
  pub bodies : ℕ → Option Body
  pub last : ℕ → ℕ

-- before any record: object 0 alone, with each root null
abbrev pub opening : Shape → KeptGraph
opening shape = record { bodies = λ o. cond (eqb o 0) (Some (opening_roots shape)) None; last = λ c. 0 }

-- what a client's record makes of it
abbrev pub applied_to : ℕ × Txn → KeptGraph → KeptGraph
applied_to r graph = record {
  bodies = λ o. body_by o r.0 (up.Commit r.1) (graph.bodies o);
  last = λ c. number_by c r.0 (up.Commit r.1) (graph.last c);
}

-- what records make of it, the first of them first
abbrev pub graph_after : KeptGraph → List (ℕ × Txn) → KeptGraph
graph_after graph [] = graph
graph_after graph (r ∷ records) = graph_after (applied_to r graph) records

-- an object named is in the graph or among the news; a text named is one of the program's
abbrev pub IsThere : Shape → (ℕ → Option Body) → List Body → Value → Type 0
IsThere shape bodies news (value.Ref o) = body_by_news o news (bodies o) ≢ None
IsThere shape bodies news (value.Text t) = t < shape.texts
IsThere shape bodies news v = Unit {0}

-- An object published: from 1 on, not in the graph, not of the roots' class, of values that fit the shape and name what
-- is there.
pub record IsNewObject (shape : Shape) (bodies : ℕ → Option Body) (news : List Body) (body : Body) : Type 0 where
  pub counted : 1 ≤ body.object
  pub new : bodies body.object ≡ None
  pub class : body.class ≢ class.Roots
  pub shaped : FitsShape shape body
  pub named : AllByRecursion (IsThere shape bodies news) body.values

-- the body has the field, and the value fits it
abbrev pub FitsField : Shape → Set → Option Body → Type 0
FitsField shape set None = ⊥
FitsField shape set (Some body) = (set.field < length body.values)
    × Fits (kind_of shape body.class set.field) set.value

-- a set: its object is in the graph or among the news and has the field, and its value fits it and names what is there
abbrev pub FitsObject : Shape → (ℕ → Option Body) → List Body → Set → Type 0
FitsObject shape bodies news set = FitsField shape set (body_by_news set.object news (bodies set.object))
    × IsThere shape bodies news set.value

-- A client's record fits the graph: its number is the client's next, its news rise by object, and its news and its sets
-- fit.
pub record FitsGraph (shape : Shape) (graph : KeptGraph) (r : ℕ × Txn) : Type 0 where
  pub number : r.1.seq ≡ suc (graph.last r.0)
  pub rise : Rises (λ a b. ltb a.object b.object) r.1.news
  pub news : AllByRecursion (IsNewObject shape graph.bodies r.1.news) r.1.news
  pub sets : AllByRecursion (FitsObject shape graph.bodies r.1.news) r.1.sets

-- each record fits the graph of those before it
abbrev pub AllFit : Shape → KeptGraph → List (ℕ × Txn) → Type 0
AllFit shape graph [] = Unit {0}
AllFit shape graph (r ∷ records) = FitsGraph shape graph r × AllFit shape (applied_to r graph) records

-- The bytes of a file are those of these records, and what follows no open gate.
pub record HoldsRecords (bytes : List ℕ) (records : List (ℕ × Txn)) : Type 0 where
  pub grammar : AllByRecursion HasPacket records
  pub read : ReadsAs bytes (packets_of records)

-- Reopening these bytes under the shape gives these records: the bytes are theirs, and each fits those before it.
pub record Reopens (shape : Shape) (bytes : List ℕ) (records : List (ℕ × Txn)) : Type 0 where
  pub holds : HoldsRecords bytes records
  pub fit : AllFit shape (opening shape) records

-- An open gate at this place is followed by no whole record that fits the graph of those before it.
pub record IsBadAt (shape : Shape) (bytes : List ℕ) (place : ℕ) : Type 0 where
  pub long : 1 < length bytes
  pub records : List (ℕ × Txn)
  pub grammar : AllByRecursion HasPacket records
  pub fit : AllFit shape (opening shape) records
  pub rest : List ℕ
  pub whole : bytes ≡ gated (packets_of records) ++ (1 ∷ rest)
  pub at : place ≡ length (gated (packets_of records))
  pub bad : (r : ℕ × Txn) (more : List ℕ) → HasPacket r → rest ≡ sized (packet_of r) ++ more
      → FitsGraph shape (graph_after (opening shape) records) r → ⊥

-- What paths of edges reach from starts, and what of a graph they don't: garbage.
use Rattle.std.specs.Prelude.{ℕ}

-- a path of edges reaches the object from a start
pub data Reaches (IsStart : ℕ → Type 0) (IsEdge : ℕ → ℕ → Type 0) : ℕ → Type 0 where
  begins : (o : ℕ) → IsStart o → Reaches IsStart IsEdge o
  goes_on : (a b : ℕ) → Reaches IsStart IsEdge a → IsEdge a b → Reaches IsStart IsEdge b

-- Garbage: it is in the graph, and no path reaches it.
pub record IsGarbage (IsInGraph IsStart : ℕ → Type 0) (IsEdge : ℕ → ℕ → Type 0) (o : ℕ) : Type 0 where
  pub there : IsInGraph o
  pub unreached : ¬ Reaches IsStart IsEdge o

-- Paths of other edges from other starts.
use Rattle.std.specs.Prelude.{ℕ}
use Rattle.dso_base.specs.Reached.{Reaches, begins, goes_on}

-- Where each start is one of the others, and each edge from an object that is reached is one of the others, the others
-- reach it too.
pub reaches_so : (IsStart IsOther : ℕ → Type 0) (IsEdge IsOtherEdge : ℕ → ℕ → Type 0)
    → ((o : ℕ) → IsStart o → IsOther o)
    → ((a b : ℕ) → Reaches IsStart IsEdge a → IsEdge a b → IsOtherEdge a b)
    → (o : ℕ) → Reaches IsStart IsEdge o → Reaches IsOther IsOtherEdge o
reaches_so IsStart IsOther IsEdge IsOtherEdge starts edges o (begins s is) = begins o (starts o is)
reaches_so IsStart IsOther IsEdge IsOtherEdge starts edges o (goes_on a b reached edge) =
    goes_on a o (reaches_so IsStart IsOther IsEdge IsOtherEdge starts edges a reached) (edges a o reached edge)

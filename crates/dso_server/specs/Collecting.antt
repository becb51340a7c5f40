-- A collection of the server: what of its graph is garbage, and what is left of the server.
use Rattle.std.specs.Prelude.{ℕ, ◌≡◌, ◌≢◌, ◌⊎◌, true, None, List}
use Rattle.dso_base.specs.Block.{body_names}
use Rattle.dso_base.specs.Reached.{IsGarbage}
use Rattle.dso_lookup.specs.Search.{has_edge, is_listed}
use Rattle.dso_server.specs.declared.server.Server.{Server}
use Rattle.dso_server.specs.Fitting.{graph_in}
use Rattle.dso_store.specs.Collecting.{without}
use Rattle.dso_store.specs.Graph as graph
use Rattle.dso_store.specs.Graph.{holds_in}

-- an edge from a to b: it is listed, or the server's body of a names b
abbrev pub IsEdgeAt : Server → List (ℕ × ℕ) → ℕ → ℕ → Type 0
IsEdgeAt server edges a b = (has_edge a b edges ≡ true) ⊎ (body_names (graph_in server a) b ≡ true)

-- the object is garbage of the server: it has a body there, and no path of these edges reaches it from a start
abbrev pub IsGarbageAt : Server → List ℕ → List (ℕ × ℕ) → ℕ → Type 0
IsGarbageAt server starts edges o = IsGarbage (λ x. graph_in server x ≢ None) (λ x. is_listed x starts ≡ true)
    (IsEdgeAt server edges) o

-- The new server is the old one but for the bodies of these objects, which it has no longer.
pub record HasSwept (swept : List ℕ) (old new : Server) : Type 0 where
  pub bodies : graph_in new ≡ without swept (graph_in old)
  pub holds : holds_in new.store ≡ holds_in old.store
  pub last : graph.last_in new.store ≡ graph.last_in old.store
  pub lost : new.lost ≡ old.lost
  pub ids : new.ids ≡ old.ids
  pub locks : new.locks ≡ old.locks
  pub waiters : new.waiters ≡ old.waiters
  pub threads : new.threads ≡ old.threads

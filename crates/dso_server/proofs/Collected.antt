-- What a collection sweeps, and that the server goes on standing for its entries.
use Rattle.std.proofs.Common.{ℕ, ◌≡◌, ◌≢◌, ◌⊎◌, ◌↔◌, inl, inr, refl, sym, ◌∙◌, ap, subst, Bool, true, false, cond, eqb, ◌&&◌, is_some, Option, None, Some, List, ◌++◌}
use Rattle.std.proofs.lemmas.Bool.{or_cases}
use Rattle.std.proofs.lemmas.List.Folds.{list_any-append}
use Rattle.std.specs.BTreeSet.{contains}
use Rattle.std.specs.Ordering.{nat_cmp}
use Rattle.dso_base.specs.declared.journal.Entry.{Entry}
use Rattle.dso_base.specs.declared.record.Body.{Body}
use Rattle.dso_base.specs.Block.{body_names}
use Rattle.dso_base.specs.Reached.{Reaches, begins, goes_on}
use Rattle.dso_gc.specs.Garbage.{IsGarbageOf}
use Rattle.dso_law.specs.ServerReadings.{counted}
use Rattle.dso_law.specs.Settings.{Settings}
use Rattle.dso_law.specs.Store.{stored}
use Rattle.dso_lookup.specs.Search.{has_edge, is_listed}
use Rattle.dso_lookup.proofs.Tests.{left_holds, right_holds}
use Rattle.dso_server.specs.declared.server.Server.{Server}
use Rattle.dso_server.specs.Batches.{batches_to}
use Rattle.dso_server.specs.Collecting.{HasSwept, IsEdgeAt, IsGarbageAt}
use Rattle.dso_server.specs.Fitting.{graph_in}
use Rattle.dso_server.specs.ServerStands.{LocksStand, ServerStands, ThreadsStand, WaitersStand}
use Rattle.dso_store.specs.declared.store.Store.{Store}
use Rattle.dso_store.specs.Graph as graph
use Rattle.dso_store.specs.Graph.{body_in, holds_in}
use Rattle.dso_store.specs.Collecting.{without}

-- what is reached along edges is reached along more edges
reached_on : {IsStart : ℕ → Type 0} {IsEdge IsOther : ℕ → ℕ → Type 0} → ((a b : ℕ) → IsEdge a b → IsOther a b) → (o : ℕ) → Reaches IsStart IsEdge o → Reaches IsStart IsOther o
reached_on onward o (begins s is) = begins s is
reached_on onward o (goes_on a b reached edge) = goes_on a b (reached_on onward a reached) (onward a b edge)

-- it has a body
some_is_there : (body : Option Body) → is_some body ≡ true → body ≢ None
some_is_there None there none = cc there
some_is_there (Some body) there none = cc none

there_is_some : (body : Option Body) → body ≢ None → is_some body ≡ true
there_is_some None there = absurd (there refl)
there_is_some (Some body) there = refl

module _ (server : Server) (starts : List ℕ) (edges own : List (ℕ × ℕ)) (names : (a b : ℕ) → has_edge a b own ≡ body_names (graph_in server a) b) where
  -- the edges of the two lists are those listed and the server's own
  edge_here : (a b : ℕ) → has_edge a b (own ++ edges) ≡ true → IsEdgeAt server edges a b
  edge_here a b e = elim (or_cases (has_edge a b own) (has_edge a b edges) (sym (list_any-append (λ edge. eqb edge.0 a && eqb edge.1 b) own edges) ∙ e)) [
    | inl h ↦ inr (sym (names a b) ∙ h)
    | inr h ↦ inl h
  ]

  edge_there : (a b : ℕ) → IsEdgeAt server edges a b → has_edge a b (own ++ edges) ≡ true
  edge_there a b (inl h) = list_any-append (λ edge. eqb edge.0 a && eqb edge.1 b) own edges ∙ right_holds (has_edge a b own) (has_edge a b edges) h
  edge_there a b (inr h) = list_any-append (λ edge. eqb edge.0 a && eqb edge.1 b) own edges ∙ left_holds (has_edge a b own) (has_edge a b edges) (names a b ∙ h)

  -- the garbage by the lists is that of the server
  pub garbage_here : (objects : List ℕ) → ((o : ℕ) → is_listed o objects ≡ is_some (graph_in server o)) → (o : ℕ) → IsGarbageOf objects starts (own ++ edges) o ↔ IsGarbageAt server starts edges o
  garbage_here objects there o = (
    (λ g. record { there = some_is_there (graph_in server o) (sym (there o) ∙ g.there); unreached = λ r. g.unreached (reached_on edge_there o r) }),
    (λ g. record { there = there o ∙ there_is_some (graph_in server o) g.there; unreached = λ r. g.unreached (reached_on edge_here o r) }),
  )

-- what is a start isn't swept
pub start_stays : (server : Server) (starts swept : List ℕ) (edges : List (ℕ × ℕ)) (o : ℕ) → is_listed o starts ≡ true → ((is_listed o swept ≡ true) → IsGarbageAt server starts edges o) → is_listed o swept ≡ false
start_stays server starts swept edges o is sweeps = by (is_listed o swept) refl
  where
    by : (t : Bool) → is_listed o swept ≡ t → t ≡ false
    by true e = absurd ((sweeps e).unreached (begins o is))
    by false e = refl

-- a body less is the stored one or none still
body_less : (t : Bool) (old due : Option Body) → (old ≡ due) ⊎ (old ≡ None) → (cond t None old ≡ due) ⊎ (cond t None old ≡ None)
body_less true old due was = inr refl
body_less false old due was = was

-- a server that swept stands for the entries of the old one
pub swept_stands : (swept : List ℕ) (old new : Server) → HasSwept swept old new → (p : Settings) (es : List Entry) → ServerStands p old es → ServerStands p new es
swept_stands swept old new has p es s = record {
  lost = ap (contains nat_cmp) has.lost ∙ s.lost;
  ids = s.ids ∙ ap batches_to (sym has.ids);
  store = record {
    bodies = λ o. subst (λ body. (body ≡ stored p.shape o (counted es)) ⊎ (body ≡ None)) (sym (ap (λ f. f o) has.bodies)) (body_less (is_listed o swept) (graph_in old o) (stored p.shape o (counted es)) (s.store.bodies o));
    holds = has.holds ∙ s.store.holds;
    last = has.last ∙ s.store.last;
    within = λ c o held. s.store.within c o (sym (ap (λ f. f c o) has.holds) ∙ held);
  };
  locks = subst (λ table. LocksStand p table (counted es)) (sym has.locks) s.locks;
  waiters = subst (λ waiters. WaitersStand waiters (counted es)) (sym has.waiters) s.waiters;
  threads = subst (λ threads. ThreadsStand p threads (counted es)) (sym has.threads) s.threads;
}

-- a server whose store alone was swept
pub swept_by : (swept : List ℕ) (old : Server) (store : Store) → body_in store ≡ without swept (graph_in old) → holds_in store ≡ holds_in old.store → graph.last_in store ≡ graph.last_in old.store
    → HasSwept swept old (record old { store = store })
swept_by swept old store bodies holds last = record { bodies = bodies; holds = holds; last = last; lost = refl; ids = refl; locks = refl; waiters = refl; threads = refl }

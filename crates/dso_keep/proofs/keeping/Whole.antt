-- Records of which each fits those before it, and the graph that they leave: none, and one more.
use Rattle.std.proofs.Common.{◌≡◌, ℕ, List, [], ◌∷◌, ◌++◌, refl, sym, ◌∙◌, ap, subst, cond, eqb, Some, None}
use Rattle.std.specs.List.{AllByRecursion}
use Rattle.dso_base.specs.declared.record.Txn.{Txn}
use Rattle.dso_base.specs.declared.shape.Shape.{Shape}
use Rattle.dso_law.specs.Store.{opening_roots}
use Rattle.dso_store.specs.Graph.{body_in, last_in}
use Rattle.dso_keep.specs.Reading.{Adds, IsWhole, graph_in}
use Rattle.dso_keep.specs.Records.{AllFit, FitsGraph, HasPacket, KeptGraph, applied_to, graph_after, opening}
use Rattle.dso_keep.specs.declared.kept.Kept.{Kept}
use Rattle.dso_keep.proofs.keeping.Kept.{grammar-push}

pub none_whole : (shape : Shape) (kept : Kept) → kept.records.items ≡ [] → body_in kept.store ≡ (λ o. cond (eqb o 0) (Some (opening_roots shape)) None) → last_in kept.store ≡ (λ c. 0) → IsWhole shape kept
none_whole shape kept none bodies last = record {
  grammar = subst (AllByRecursion HasPacket) (sym none) tt;
  fit = subst (AllFit shape (opening shape)) (sym none) tt;
  graph = graph ∙ ap (graph_after (opening shape)) (sym none);
}
  where
    graph : graph_in kept.store ≡ opening shape
    graph = λ i. record { bodies = bodies i; last = last i }

graph_after-push : (graph : KeptGraph) (records : List (ℕ × Txn)) (r : ℕ × Txn) → graph_after graph (records ++ r ∷ []) ≡ applied_to r (graph_after graph records)
graph_after-push graph [] r = refl
graph_after-push graph (first ∷ records) r = graph_after-push (applied_to first graph) records r

fit-push : (shape : Shape) (graph : KeptGraph) (records : List (ℕ × Txn)) (r : ℕ × Txn) → AllFit shape graph records → FitsGraph shape (graph_after graph records) r → AllFit shape graph (records ++ r ∷ [])
fit-push shape graph [] r all fits = (fits, tt)
fit-push shape graph (first ∷ records) r all fits = (all.0, fit-push shape (applied_to first graph) records r all.1 fits)

pub more_whole : (shape : Shape) (packet : List ℕ) (old new : Kept) → IsWhole shape old → Adds shape packet old new → IsWhole shape new
more_whole shape packet old new whole adds =
    let fits : FitsGraph shape (graph_after (opening shape) old.records.items) adds.r = subst (λ graph. FitsGraph shape graph adds.r) whole.graph adds.fits in
    record {
      grammar = subst (AllByRecursion HasPacket) (sym adds.records) (grammar-push old.records.items adds.r whole.grammar adds.is);
      fit = subst (AllFit shape (opening shape)) (sym adds.records) (fit-push shape (opening shape) old.records.items adds.r whole.fit fits);
      graph = adds.graph ∙ ap (applied_to adds.r) whole.graph ∙ sym (graph_after-push (opening shape) old.records.items adds.r) ∙ ap (graph_after (opening shape)) (sym adds.records);
    }

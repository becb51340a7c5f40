-- The objects of the graph that records leave are object 0 and those that they publish.
use Rattle.std.proofs.Common.{ℕ, sym, subst, List, [], ◌∷◌, ◌++◌, append_assoc, Option, Some, None}
use Rattle.std.specs.List.{AllByRecursion}
use Rattle.std.proofs.lemmas.List.{append-nil}
use Rattle.dso_base.specs.declared.record.Body.{Body}
use Rattle.dso_base.specs.declared.record.Set.{Set}
use Rattle.dso_base.specs.declared.record.Txn.{Txn}
use Rattle.dso_base.specs.declared.shape.Shape.{Shape}
use Rattle.dso_base.specs.declared.value.Kind.{Kind}
use Rattle.dso_base.specs.Shape.{kind_of}
use Rattle.dso_base.specs.Value.{Fits}
use Rattle.dso_store.specs.Graph.{body_in, with_news}
use Rattle.dso_keep.specs.Reading.{IsWhole}
use Rattle.dso_keep.specs.Records.{AllFit, FitsField, FitsGraph, FitsObject, KeptGraph, applied_to, graph_after, opening}
use Rattle.dso_keep.specs.declared.kept.Kept.{Kept}
use Rattle.dso_show.specs.Published.{objects_of, published}
use Rattle.dso_show.proofs.graph.Listed.{IsListed, opening_listed}
use Rattle.dso_show.proofs.graph.News.{news_listed, value_names}
use Rattle.dso_show.proofs.graph.Sets.{FitsIn, sets_listed}

-- a set that fits a body fits a kind
kind_fits : (shape : Shape) (set : Set) (found : Option Body) → FitsField shape set found → (k : Kind) × Fits k set.value
kind_fits shape set None fits = absurd fits
kind_fits shape set (Some body) fits = (kind_of shape body.class set.field, fits.1)

module _ (shape : Shape) (objects : List ℕ) (graph : KeptGraph) (r : ℕ × Txn) (listed : IsListed shape objects graph.bodies) where
  abbrev news : List Body
  news = r.1.news

  set_fits : (set : Set) → FitsObject shape graph.bodies news set → FitsIn shape (objects ++ objects_of news) (with_news news graph.bodies set.object) set
  set_fits set fits =
      let of_kind = kind_fits shape set (with_news news graph.bodies set.object) fits.0 in
      (fits.0, value_names shape objects graph.bodies news listed of_kind.0 set.value of_kind.1 fits.1)

  sets_fit : (sets : List Set) → AllByRecursion (FitsObject shape graph.bodies news) sets → AllByRecursion (λ (set : Set). FitsIn shape (objects ++ objects_of news) (with_news news graph.bodies set.object) set) sets
  sets_fit [] fit = tt
  sets_fit (set ∷ sets) fit = (set_fits set fit.0, sets_fit sets fit.1)

  -- a record that fits has its news listed behind the others
  record_listed : FitsGraph shape graph r → IsListed shape (objects ++ objects_of news) (applied_to r graph).bodies
  record_listed fits =
      sets_listed shape (objects ++ objects_of news) (with_news news graph.bodies) r.1.sets
      (news_listed shape objects graph.bodies news listed fits.rise fits.news) (sets_fit r.1.sets fits.sets)

records_listed : (shape : Shape) (objects : List ℕ) (graph : KeptGraph) (records : List (ℕ × Txn)) → IsListed shape objects graph.bodies → AllFit shape graph records → IsListed shape (objects ++ published records) (graph_after graph records).bodies
records_listed shape objects graph [] listed fit = subst (λ l. IsListed shape l graph.bodies) (sym (append-nil objects)) listed
records_listed shape objects graph (r ∷ records) listed fit =
    subst (λ l. IsListed shape l (graph_after graph (r ∷ records)).bodies) (append_assoc objects (objects_of r.1.news) (published records))
    (records_listed shape (objects ++ objects_of r.1.news) (applied_to r graph) records (record_listed shape objects graph r listed fit.0) fit.1)

-- so they are in a whole store
pub whole_listed : (shape : Shape) (kept : Kept) → IsWhole shape kept → IsListed shape (0 ∷ published kept.records.items) (body_in kept.store)
whole_listed shape kept whole =
    subst (λ graph. IsListed shape (0 ∷ published kept.records.items) graph.bodies) (sym whole.graph)
    (records_listed shape (0 ∷ []) (opening shape) kept.records.items (opening_listed shape) whole.fit)

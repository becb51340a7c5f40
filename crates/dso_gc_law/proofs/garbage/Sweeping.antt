-- A server that lacks only garbage finds the rest of it by the bodies that it has, and once it drops these it is swept
-- clean.
use Rattle.std.proofs.Common.{ℕ, ◌≡◌, ◌≢◌, ◌⊎◌, ◌↔◌, inl, inr, refl, sym, ◌∙◌, ap, Bool, true, false, cond}
use Rattle.std.proofs.Common.{Option, None, List}
use Rattle.dso_base.specs.declared.journal.Entry.{Entry}
use Rattle.dso_base.specs.declared.journal.Node.TheVariants.{Server}
use Rattle.dso_base.specs.declared.lock.ThreadId.{ThreadId}
use Rattle.dso_base.specs.declared.record.Body.{Body}
use Rattle.dso_base.specs.declared.request.Event.{Event}
use Rattle.dso_base.specs.declared.request.Request.{Request}
use Rattle.dso_base.specs.declared.value.Value.{Value}
use Rattle.dso_base.specs.Block.{body_names}
use Rattle.dso_base.specs.Reached.{Reaches}
use Rattle.dso_law.specs.Settings.{Settings}
use Rattle.dso_law.specs.Entries.{entries_of}
use Rattle.dso_law.specs.ServerReadings.{counted}
use Rattle.dso_law.specs.Store.{stored}
use Rattle.dso_legal.specs.Collection.{IsEdge, IsGarbageAfter, IsLive, IsStart, is_kept}
use Rattle.dso_gc_law.specs.Lacking.{AreStartsAndEdges, GarbageIsFound, HasStoredOrNone, IsGarbageBy, IsLacked}
use Rattle.dso_gc_law.specs.Lacking.{IsSweptClean, LacksOnlyGarbage, SweptIsClean}
use Rattle.dso_gc_law.proofs.garbage.Bare.{no_name}
use Rattle.dso_gc_law.proofs.garbage.Lacking.{nothing_or_some, reached_there}
use Rattle.dso_gc_law.proofs.garbage.Paths.{reaches_so}

module _ (p : Settings) (next : ThreadId → List Event → Option Request)
    (frames : ThreadId → List Event → List Value) (has : ℕ → Option Body) (es : List Entry)
    (stands : HasStoredOrNone p has es) (only : LacksOnlyGarbage p next frames has es)
    (starts : ℕ → Bool) (edges : ℕ → ℕ → Bool) (are : AreStartsAndEdges p next frames starts edges es) where
  -- ---- paths

  abbrev Starts : ℕ → Type 0
  Starts o = starts o ≡ true

  abbrev Edges : ℕ → ℕ → Type 0
  Edges a b = (edges a b ≡ true) ⊎ (body_names (has a) b ≡ true)

  abbrev Live : ℕ → Type 0
  Live = IsLive p next frames (is_kept p es) es

  -- an edge by a body that is there is one by the stored body,
  edge_so : (a b : ℕ) → Edges a b → IsEdge p next frames (is_kept p es) es a b
  edge_so a b (inl copy) = inr ((are.edges_so a b).0 copy)
  edge_so a b (inr is) = elim (stands a) [
    | inl same ↦ inl (sym (ap (λ body. body_names body b) same) ∙ is)
    | inr none ↦ absurd (no_name (has a) b none is)
  ]

  live_so : (o : ℕ) → Reaches Starts Edges o → Live o
  live_so = reaches_so Starts (IsStart p next frames (is_kept p es) es) Edges
      (IsEdge p next frames (is_kept p es) es) (λ o. (are.starts_so o).0) (λ a b reached. edge_so a b)

  -- and from what is reached the other way round.
  edge_there : (a b : ℕ) → Live a → IsEdge p next frames (is_kept p es) es a b → Edges a b
  edge_there a b live (inl is) =
      inr (ap (λ body. body_names body b) (reached_there p next frames has es stands only a live) ∙ is)
  edge_there a b live (inr copy) = inl ((are.edges_so a b).1 copy)

  live_there : (o : ℕ) → Live o → Reaches Starts Edges o
  live_there = reaches_so (IsStart p next frames (is_kept p es) es) Starts
      (IsEdge p next frames (is_kept p es) es) Edges (λ o. (are.starts_so o).1) edge_there

  -- ---- garbage

  -- a body that is there is a stored one
  stored_so : (o : ℕ) → has o ≢ None → stored p.shape o (counted (entries_of Server es)) ≢ None
  stored_so o some = λ unstored. elim (stands o) [
    | inl same ↦ some (same ∙ unstored)
    | inr none ↦ some none
  ]

  found : (o : ℕ) → IsGarbageBy has starts edges o ↔ ((has o ≢ None) × IsGarbageAfter p next frames es o)
  found o = (
    λ garbage. (
      garbage.there,
      record { there = stored_so o garbage.there; unreached = λ live. garbage.unreached (live_there o live) },
    ),
    λ there. record { there = there.0; unreached = λ live. there.1.unreached (live_so o live) },
  )

  -- ---- once it is swept

  module _ (swept : ℕ → Bool) (exact : (o : ℕ) → (swept o ≡ true) ↔ IsGarbageBy has starts edges o) where
    -- the bodies then
    abbrev then : ℕ → Option Body
    then o = cond (swept o) None (has o)

    stands_then : (o : ℕ) → (then o ≡ stored p.shape o (counted (entries_of Server es))) ⊎ (then o ≡ None)
    stands_then o = by (swept o)
      where
        by : (b : Bool) → (cond b None (has o) ≡ stored p.shape o (counted (entries_of Server es)))
            ⊎ (cond b None (has o) ≡ None)
        by true = inr refl
        by false = stands o

    only_then : (o : ℕ) → IsLacked p then es o → IsGarbageAfter p next frames es o
    only_then o lacked = by (swept o) refl lacked.1
      where
        by : (b : Bool) → swept o ≡ b → cond b None (has o) ≡ None → IsGarbageAfter p next frames es o
        by true is none = ((found o).0 ((exact o).0 is)).1
        by false is none = only o (lacked.0, none)

    all_then : (o : ℕ) → IsGarbageAfter p next frames es o → then o ≡ None
    all_then o garbage = by (swept o) refl (nothing_or_some (has o))
      where
        by : (b : Bool) → swept o ≡ b → (has o ≡ None) ⊎ (has o ≢ None) → cond b None (has o) ≡ None
        by true is known = refl
        by false is (inl none) = none
        by false is (inr some) =
            let yes_is : swept o ≡ true = (exact o).1 ((found o).1 (some, garbage)) in
            let no_way : true ≡ false = sym yes_is ∙ is in
            absurd (cc no_way)

    clean : IsSweptClean p next frames then es
    clean = record { stands = stands_then; only = only_then; all = all_then }

pub garbage_is_found : GarbageIsFound
garbage_is_found p next frames has es stands only starts edges are o =
    found p next frames has es stands only starts edges are o

pub swept_is_clean : SweptIsClean
swept_is_clean p next frames has es stands only starts edges are swept exact =
    clean p next frames has es stands only starts edges are swept exact

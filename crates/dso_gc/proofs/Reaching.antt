-- What the search finds from the first start is what paths reach from any of the starts.
use Rattle.std.proofs.Common.{ℕ, ◌≡◌, ◌↔◌, inl, inr, refl, sym, ◌∙◌, Bool, true, false, eqb, ◌&&◌, ◌||◌, is_some, List, [], ◌∷◌, ◌++◌, map}
use Rattle.std.proofs.lemmas.Bool.{or_cases, eqb-true, eq-eqb}
use Rattle.std.proofs.lemmas.List.Folds.{list_any-append}
use Rattle.std.specs.Ordering.{nat_cmp}
use Rattle.dso_base.specs.Reach.{Found, start, onward}
use Rattle.dso_base.specs.Reached.{Reaches, begins, goes_on}
use Rattle.dso_lookup.specs.Lists.{lists_of}
use Rattle.dso_lookup.specs.Maps.{look}
use Rattle.dso_lookup.specs.Search.{has_edge, is_listed}
use Rattle.dso_gc.specs.declared.edges.Edges.{Edges}
use Rattle.dso_gc.specs.Garbage.{IsIn, IsEdgeIn}
use Rattle.dso_gc.specs.Edges.{is_target, HasEdges}

pub both : (a b : Bool) → (a && b) ≡ true → (a ≡ true) × (b ≡ true)
both true b e = (refl, e)
both false b e = absurd (cc e)

left : (a b : Bool) → a ≡ true → (a || b) ≡ true
left true b e = refl
left false b e = absurd (cc e)

right : (a b : Bool) → b ≡ true → (a || b) ≡ true
right true b e = refl
right false b e = e

together : (a b : Bool) → a ≡ true → b ≡ true → (a && b) ≡ true
together true b e f = f
together false b e f = absurd (cc e)

-- where an edge goes is a target
edge_to : (a b : ℕ) (edges : List (ℕ × ℕ)) → has_edge a b edges ≡ true → is_target b edges ≡ true
edge_to a b [] e = absurd (cc e)
edge_to a b (edge ∷ edges) e = elim (or_cases (eqb edge.0 a && eqb edge.1 b) (has_edge a b edges) e) [
  | inl h ↦ left (eqb edge.1 b) (is_target b edges) (both (eqb edge.0 a) (eqb edge.1 b) h).1
  | inr h ↦ right (eqb edge.1 b) (is_target b edges) (edge_to a b edges h)
]

module _ (first : ℕ) where
  -- from the first start to each of the starts
  abbrev pub spokes : List ℕ → List (ℕ × ℕ)
  spokes starts = map (λ (s : ℕ). (first, s)) starts

  -- a spoke goes from the first start to a start
  spoke_is : (a b : ℕ) (starts : List ℕ) → has_edge a b (spokes starts) ≡ true → (a ≡ first) × IsIn starts b
  spoke_is a b [] e = absurd (cc e)
  spoke_is a b (s ∷ starts) e = elim (or_cases (eqb first a && eqb s b) (has_edge a b (spokes starts)) e) [
    | inl h ↦ let at = both (eqb first a) (eqb s b) h in (sym (eqb-true first a at.0), left (eqb s b) (is_listed b starts) at.1)
    | inr h ↦ let at = spoke_is a b starts h in (at.0, right (eqb s b) (is_listed b starts) at.1)
  ]

  spoke_there : (b : ℕ) (starts : List ℕ) → IsIn starts b → has_edge first b (spokes starts) ≡ true
  spoke_there b [] e = absurd (cc e)
  spoke_there b (s ∷ starts) e = elim (or_cases (eqb s b) (is_listed b starts) e) [
    | inl h ↦ left (eqb first first && eqb s b) (has_edge first b (spokes starts)) (together (eqb first first) (eqb s b) (eq-eqb first first refl) h)
    | inr h ↦ right (eqb first first && eqb s b) (has_edge first b (spokes starts)) (spoke_there b starts h)
  ]

  module _ (starts : List ℕ) (is_start : IsIn starts first) (edges : List (ℕ × ℕ)) (all : Edges) (have : HasEdges all (edges ++ spokes starts)) where
    abbrev Mine : ℕ → Bool
    Mine o = is_some (look nat_cmp all.targets o)

    abbrev Names : ℕ → ℕ → Bool
    Names a b = is_listed b (lists_of nat_cmp all.rows a)

    abbrev Reached : ℕ → Type 0
    Reached = Reaches (IsIn starts) (IsEdgeIn edges)

    -- where there is an edge or a spoke, the search goes on
    named : (a b : ℕ) → (has_edge a b edges || has_edge a b (spokes starts)) ≡ true → (Names a b ≡ true) × (Mine b ≡ true)
    named a b e =
        let there : has_edge a b (edges ++ spokes starts) ≡ true = list_any-append (λ edge. eqb edge.0 a && eqb edge.1 b) edges (spokes starts) ∙ e in
        (have.between a b ∙ there, have.targets b ∙ edge_to a b (edges ++ spokes starts) there)

    first_there : Mine first ≡ true
    first_there = (named first first (right (has_edge first first edges) (has_edge first first (spokes starts)) (spoke_there first starts is_start))).1

    found_reached : (o : ℕ) → Found Mine Names first o → Reached o
    found_reached o (start own) = begins first is_start
    found_reached o (onward {b = b} c f e own) =
        let there : (has_edge b c edges || has_edge b c (spokes starts)) ≡ true =
        sym (list_any-append (λ edge. eqb edge.0 b && eqb edge.1 c) edges (spokes starts)) ∙ sym (have.between b c) ∙ e in
        elim (or_cases (has_edge b c edges) (has_edge b c (spokes starts)) there) [
          | inl h ↦ goes_on b c (found_reached b f) h
          | inr h ↦ begins c (spoke_is b c starts h).1
        ]

    reached_found : (o : ℕ) → Reached o → Found Mine Names first o
    reached_found o (begins s is) =
        let at = named first s (right (has_edge first s edges) (has_edge first s (spokes starts)) (spoke_there s starts is)) in
        onward s (start first_there) at.0 at.1
    reached_found o (goes_on a b r e) =
        let at = named a b (left (has_edge a b edges) (has_edge a b (spokes starts)) e) in
        onward b (reached_found a r) at.0 at.1

    pub searched : (o : ℕ) → Found Mine Names first o ↔ Reached o
    searched o = (found_reached o, reached_found o)

-- without a start nothing is reached
pub none_reached : (edges : List (ℕ × ℕ)) (o : ℕ) → Reaches (IsIn []) (IsEdgeIn edges) o → ⊥
none_reached edges o (begins s is) = absurd (cc is)
none_reached edges o (goes_on a b r e) = none_reached edges a r

-- Rows with one more edge.
use Rattle.std.proofs.Common.{ℕ, ◌≡◌, refl, sym, ◌∙◌, ap, Bool, true, false, cond, eqb, ◌&&◌, ◌||◌, is_some, Option, Some, None, List, [], ◌∷◌, ◌++◌, reverse}
use Rattle.std.proofs.lemmas.Bool.{eqb-true}
use Rattle.std.proofs.lemmas.List.Folds.{list_any-append}
use Rattle.std.proofs.lemmas.List.Sorted.{list_any-IsPermutation, IsPermutation-reverse}
use Rattle.std.specs.List.{list_any}
use Rattle.std.specs.BTreeMap.{BTreeMap, is_at}
use Rattle.std.specs.Cmp.{unsigned_tied}
use Rattle.std.specs.Ordering.{nat_cmp}
use Rattle.dso_lookup.specs.Lists.{lists_of}
use Rattle.dso_lookup.specs.Maps.{look, writes, written, or_old}
use Rattle.dso_lookup.specs.Search.{is_listed}
use Rattle.dso_gc.specs.declared.edges.Edges.{Edges}
use Rattle.dso_gc.specs.Edges.{HasEdges}

swapped : (a b : Bool) → (a || b) ≡ (b || (a || false))
swapped true true = refl
swapped true false = refl
swapped false true = refl
swapped false false = refl

or_none : (a : Bool) → a ≡ (a || false)
or_none true = refl
or_none false = refl

-- where the order takes two numbers for the same, the test does
at_same : (a b : ℕ) → is_at (nat_cmp a) b ≡ eqb a b
at_same a b = unsigned_tied a b

-- whether the row of an object has another, with one more edge
between : (rows : ℕ → List ℕ) (from to a b : ℕ)
    → is_listed b (written (writes (is_at (nat_cmp from)) (λ x. to ∷ rows from)) rows a) ≡ (is_listed b (rows a) || ((eqb from a && eqb to b) || false))
between rows from to a b = by (eqb from a) refl
  where
    by : (t : Bool) → eqb from a ≡ t → is_listed b (or_old (cond (is_at (nat_cmp from) a) (Some (to ∷ rows from)) None) (rows a)) ≡ (is_listed b (rows a) || ((eqb from a && eqb to b) || false))
    by true e = rw (at_same from a ∙ e, e) (swapped (eqb to b) (is_listed b (rows from)) ∙ ap (λ x. is_listed b (rows x) || (eqb to b || false)) (eqb-true from a e))
    by false e = rw (at_same from a ∙ e, e) (or_none (is_listed b (rows a)))

-- whether there is a target, with one more edge
target : (old : ℕ → Option Unit) (to o : ℕ) → is_some (written (writes (is_at (nat_cmp to)) (λ x. Some tt)) old o) ≡ (is_some (old o) || (eqb to o || false))
target old to o = by (eqb to o) refl
  where
    by : (t : Bool) → eqb to o ≡ t → is_some (or_old (cond (is_at (nat_cmp to) o) (Some (Some tt)) None) (old o)) ≡ (is_some (old o) || (eqb to o || false))
    by true e = rw (at_same to o ∙ e, e) (swapped true (is_some (old o)))
    by false e = rw (at_same to o ∙ e, e) (or_none (is_some (old o)))

pub edge_added : (old new : Edges) (from to : ℕ) (edges : List (ℕ × ℕ))
    → lists_of nat_cmp new.rows ≡ written (writes (is_at (nat_cmp from)) (λ x. to ∷ lists_of nat_cmp old.rows from)) (lists_of nat_cmp old.rows)
    → look nat_cmp new.targets ≡ written (writes (is_at (nat_cmp to)) (λ x. Some tt)) (look nat_cmp old.targets)
    → HasEdges old edges → HasEdges new (edges ++ (from, to) ∷ [])
edge_added old new from to edges rows targets have = record {
  between = λ a b. ap (λ f. is_listed b (f a)) rows ∙ between (lists_of nat_cmp old.rows) from to a b ∙ ap (λ x. x || ((eqb from a && eqb to b) || false)) (have.between a b)
      ∙ sym (list_any-append (λ edge. eqb edge.0 a && eqb edge.1 b) edges ((from, to) ∷ []));
  targets = λ o. ap (λ f. is_some (f o)) targets ∙ target (look nat_cmp old.targets) to o ∙ ap (λ x. x || (eqb to o || false)) (have.targets o)
      ∙ sym (list_any-append (λ edge. eqb edge.1 o) edges ((from, to) ∷ []));
}

list_any_reverse : (test : ℕ → Bool) (xs : List ℕ) → list_any test (reverse xs) ≡ list_any test xs
list_any_reverse test xs = sym (list_any-IsPermutation test xs (reverse xs) (IsPermutation-reverse xs))

-- a row that is there has what its list has; one that isn't has nothing
reversed : (o : ℕ) (row : List ℕ) → is_listed o row ≡ is_listed o (reverse row)
reversed o row = sym (list_any_reverse (λ x. eqb x o) row)

pub row_read : (from : BTreeMap ℕ (List ℕ)) (a o : ℕ) (row : List ℕ) → look nat_cmp from a ≡ Some row → is_listed o row ≡ is_listed o (lists_of nat_cmp from a)
row_read from a o row is = rw is (reversed o row)

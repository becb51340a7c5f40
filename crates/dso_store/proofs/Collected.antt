-- What a collection reads of a table of bodies, and what is left where it takes bodies out.
use Rattle.std.proofs.Common.{ℕ, suc, ◌+◌, ◌<◌, ◌≤◌, ◌≡◌, refl, sym, ◌∙◌, ap, subst, arith, Bool, true, false, cond, not, eqb, ◌&&◌, ◌||◌, is_some, length, get_or, drop, Option, Some, None, List, [], ◌∷◌, map}
use Rattle.std.proofs.Math.Path.{fun_ext}
use Rattle.std.proofs.lemmas.Bool.{eqb-true, eq-eqb}
use Rattle.std.proofs.lemmas.List.{drop_all, drop_more}
use Rattle.std.proofs.lemmas.List.Folds.{list_any-append}
use Rattle.std.proofs.lemmas.Map.Keys.{sorted_head, sorted_tail}
use Rattle.std.specs.BTreeMap.{BTreeMap, is_at}
use Rattle.std.specs.List.{AllByRecursion}
use Rattle.std.specs.List.Sorted.{IsStrictlySortedBy}
use Rattle.std.specs.Map.{lookup}
use Rattle.std.specs.Ordering.{nat_cmp}
use Rattle.std.specs.declared.cmp.Ordering.TheVariants.{Less}
use Rattle.dso_base.specs.declared.record.Body.{Body}
use Rattle.dso_base.specs.declared.value.Value.{Value}
use Rattle.dso_base.specs.declared.value.Value.TheVariants as value
use Rattle.dso_base.specs.Block.{body_names, has_reference}
use Rattle.dso_lookup.specs.Maps.{look, writes, written}
use Rattle.dso_lookup.specs.Search.{has_edge, is_listed}
use Rattle.dso_lookup.proofs.Tests.{number_at}
use Rattle.dso_store.proofs.BodiesWritten.{flipped, written_from}
use Rattle.dso_store.specs.Collecting.{count_there, edges_from, edges_of, without}

-- the edges from an object are those to what the values name
edge_from : (x a b : ℕ) (values : List Value) → has_edge a b (edges_from x values) ≡ (eqb x a && has_reference b values)
edge_from x a b [] = none (eqb x a)
  where
    none : (t : Bool) → false ≡ (t && false)
    none true = refl
    none false = refl
edge_from x a b (value.Ref to ∷ values) = ap (λ t. (eqb x a && eqb to b) || t) (edge_from x a b values) ∙ by (eqb x a) (eqb to b) (has_reference b values)
  where
    by : (t u v : Bool) → ((t && u) || (t && v)) ≡ (t && (u || v))
    by true u v = refl
    by false u v = refl
edge_from x a b (value.Null ∷ values) = edge_from x a b values
edge_from x a b (value.Long n ∷ values) = edge_from x a b values
edge_from x a b (value.Bool t ∷ values) = edge_from x a b values
edge_from x a b (value.Text t ∷ values) = edge_from x a b values

-- keys behind a key aren't it
none_behind : (k : ℕ) (es : List (ℕ × Body)) → AllByRecursion (λ y. nat_cmp k y ≡ Less) (map (λ e. e.0) es) → lookup (is_at (nat_cmp k)) es ≡ None
none_behind k [] all = refl
none_behind k (e ∷ es) all = rw all.0 (none_behind k es all.1)

-- the edges of a table in order are those of what it has
pub edge_of : (a b : ℕ) (es : List (ℕ × Body)) → IsStrictlySortedBy nat_cmp (map (λ e. e.0) es) → has_edge a b (edges_of es) ≡ body_names (lookup (is_at (nat_cmp a)) es) b
edge_of a b [] sorted = refl
edge_of a b (e ∷ es) sorted = list_any-append (λ edge. eqb edge.0 a && eqb edge.1 b) (edges_from e.0 e.1.values) (edges_of es)
    ∙ (ap (λ t. t || has_edge a b (edges_of es)) (edge_from e.0 a b e.1.values)
    ∙ (ap (λ t. (eqb e.0 a && has_reference b e.1.values) || t) (edge_of a b es (sorted_tail nat_cmp e.0 (map (λ x. x.0) es) sorted))
    ∙ by (eqb e.0 a) refl (number_at a e.0)))
  where
    by : (t : Bool) → eqb e.0 a ≡ t → is_at (nat_cmp a) e.0 ≡ eqb e.0 a
        → ((t && has_reference b e.1.values) || body_names (lookup (is_at (nat_cmp a)) es) b) ≡ body_names (cond (is_at (nat_cmp a) e.0) (Some e.1) (lookup (is_at (nat_cmp a)) es)) b
    by true is at =
        let behind : lookup (is_at (nat_cmp a)) es ≡ None = subst (λ k. lookup (is_at (nat_cmp k)) es ≡ None) (eqb-true e.0 a is) (none_behind e.0 es (sorted_head nat_cmp e.0 (map (λ x. x.0) es) sorted)) in
        rw (at ∙ is, behind) (no_more (has_reference b e.1.values))
      where
        no_more : (t : Bool) → (t || false) ≡ t
        no_more true = refl
        no_more false = refl
    by false is at = rw (at ∙ is) refl

-- the keys of a table are those at which it has something
pub key_there : (o : ℕ) (es : List (ℕ × Body)) → is_listed o (map (λ e. e.0) es) ≡ is_some (lookup (is_at (nat_cmp o)) es)
key_there o [] = refl
key_there o (e ∷ es) = ap (λ t. t || is_listed o (map (λ x. x.0) es)) (sym (number_at o e.0)) ∙ (ap (λ t. is_at (nat_cmp o) e.0 || t) (key_there o es) ∙ by (is_at (nat_cmp o) e.0))
  where
    by : (t : Bool) → (t || is_some (lookup (is_at (nat_cmp o)) es)) ≡ is_some (cond t (Some e.1) (lookup (is_at (nat_cmp o)) es))
    by true = refl
    by false = refl

-- one body is taken out of a table
pub one_taken : (o : ℕ) (old new : BTreeMap ℕ Body) → look nat_cmp new ≡ written (writes (is_at (nat_cmp o)) (λ _. None)) (look nat_cmp old) → look nat_cmp new ≡ without (o ∷ []) (look nat_cmp old)
one_taken o old new gone = gone ∙ (written_from o None (look nat_cmp old) ∙ fun_ext (λ q. by (eqb o q) (look nat_cmp old q)))
  where
    by : (t : Bool) (body : Option Body) → cond t None body ≡ cond (t || false) None body
    by true body = refl
    by false body = refl

-- the bodies without one, and then without others
without_more : (o : ℕ) (ids : List ℕ) (bodies : ℕ → Option Body) → without ids (without (o ∷ []) bodies) ≡ without (o ∷ ids) bodies
without_more o ids bodies = fun_ext (λ q. by (eqb o q) (is_listed q ids) (bodies q))
  where
    by : (t u : Bool) (body : Option Body) → cond u None (cond (t || false) None body) ≡ cond (t || u) None body
    by true true body = refl
    by true false body = refl
    by false true body = refl
    by false false body = refl

-- one, if both tests hold
abbrev both_hold : Bool → Bool → ℕ
both_hold t u = cond (t && u) 1 0

-- how many there are besides one object, which counts if it is there and listed
count_besides : (o : ℕ) (bodies : ℕ → Option Body) (ids : List ℕ) → count_there bodies ids ≡ both_hold (is_some (bodies o)) (is_listed o ids) + count_there (without (o ∷ []) bodies) ids
count_besides o bodies [] = by (is_some (bodies o))
  where
    by : (t : Bool) → 0 ≡ both_hold t false + 0
    by true = refl
    by false = refl
count_besides o bodies (k ∷ ids) = by (eqb o k) refl (count_besides o bodies ids)
  where
    rest : ℕ
    rest = count_there (without (o ∷ []) bodies) ids

    one_more : suc (0 + rest) ≡ 1 + rest
    one_more = omega arith

    same : (t u : Bool) (n : ℕ) → n ≡ both_hold t u + rest → cond (t && not u) (suc n) n ≡ both_hold t true + rest
    same true true n is = is
    same true false n is = ap suc is ∙ one_more
    same false true n is = is
    same false false n is = is

    onward : (m : ℕ) → suc (m + rest) ≡ m + suc rest
    onward m = omega arith

    other : (t u v : Bool) (n : ℕ) → n ≡ both_hold t u + rest → cond v (suc n) n ≡ both_hold t u + cond v (suc rest) rest
    other t u true n is = ap suc is ∙ onward (both_hold t u)
    other t u false n is = is

    by : (t : Bool) → eqb o k ≡ t → count_there bodies ids ≡ both_hold (is_some (bodies o)) (is_listed o ids) + rest
        → count_there bodies (k ∷ ids) ≡ both_hold (is_some (bodies o)) (is_listed o (k ∷ ids)) + count_there (without (o ∷ []) bodies) (k ∷ ids)
    by true is before =
        let at : o ≡ k = eqb-true o k is in
        subst (λ q. count_there bodies (q ∷ ids) ≡ both_hold (is_some (bodies o)) (is_listed o (q ∷ ids)) + count_there (without (o ∷ []) bodies) (q ∷ ids)) at
        (rw (eq-eqb o o refl) (same (is_some (bodies o)) (is_listed o ids) (count_there bodies ids) before))
    by false is before = rw (is, flipped k o ∙ is) (other (is_some (bodies o)) (is_listed o ids) (is_some (bodies k) && not (is_listed k ids)) (count_there bodies ids) before)

-- how many there are once one was taken out and counted
count_more : (o : ℕ) (bodies : ℕ → Option Body) (ids : List ℕ) → count_there bodies (o ∷ []) + count_there (without (o ∷ []) bodies) ids ≡ count_there bodies (o ∷ ids)
count_more o bodies ids = sym (ap (λ n. cond (is_some (bodies o) && not (is_listed o ids)) (suc n) n) (count_besides o bodies ids) ∙ by (is_some (bodies o)) (is_listed o ids) (count_there (without (o ∷ []) bodies) ids))
  where
    by : (t u : Bool) (n : ℕ) → cond (t && not u) (suc (both_hold t u + n)) (both_hold t u + n) ≡ cond (t && true) 1 0 + n
    by true true n = refl
    by true false n = omega arith
    by false true n = refl
    by false false n = refl

-- the list from a place on
from_place : (ids : List ℕ) (i o : ℕ) → i < length ids → o ≡ get_or ids i 0 → drop i ids ≡ o ∷ drop (i + 1) ids
from_place ids i o less is = drop_more ids i 0 less ∙ ap (λ x. x ∷ drop (i + 1) ids) (sym is)

-- one object more is taken out
pub taken_next : (ids : List ℕ) (i o : ℕ) (now next : ℕ → Option Body) → i < length ids → o ≡ get_or ids i 0 → next ≡ without (o ∷ []) now → without (drop (i + 1) ids) next ≡ without (drop i ids) now
taken_next ids i o now next less is took = ap (without (drop (i + 1) ids)) took ∙ (without_more o (drop (i + 1) ids) now ∙ ap (λ all. without all now) (sym (from_place ids i o less is)))

-- and counted
pub counted_next : (ids : List ℕ) (i o more : ℕ) (now next : ℕ → Option Body) → i < length ids → o ≡ get_or ids i 0 → next ≡ without (o ∷ []) now → more ≡ count_there now (o ∷ [])
    → more + count_there next (drop (i + 1) ids) ≡ count_there now (drop i ids)
counted_next ids i o more now next less is took counted = ap (λ n. n + count_there next (drop (i + 1) ids)) counted
    ∙ (ap (λ bodies. count_there now (o ∷ []) + count_there bodies (drop (i + 1) ids)) took
    ∙ (count_more o now (drop (i + 1) ids) ∙ ap (count_there now) (sym (from_place ids i o less is))))

-- none is left
pub all_taken : (ids : List ℕ) (i : ℕ) (now : ℕ → Option Body) → length ids ≤ i → without (drop i ids) now ≡ now
all_taken ids i now least = ap (λ all. without all now) (drop_all i ids least)

pub all_counted : (ids : List ℕ) (i : ℕ) (now : ℕ → Option Body) → length ids ≤ i → count_there now (drop i ids) ≡ 0
all_counted ids i now least = ap (count_there now) (drop_all i ids least)

-- one object is at most one body
pub one_counted : (o : ℕ) (bodies : ℕ → Option Body) → count_there bodies (o ∷ []) ≤ 1
one_counted o bodies = by (is_some (bodies o))
  where
    by : (t : Bool) → cond (t && true) 1 0 ≤ 1
    by true = omega arith
    by false = omega arith

-- The edges of copies, listed place by place.
use Rattle.std.proofs.Common.{ℕ, ◌≡◌, refl, sym, ◌∙◌, ap, subst, Bool, true, false, cond, eqb, ◌&&◌, ◌||◌, List, [], ◌∷◌, ◌++◌, take, map, Option, Some, None}
use Rattle.std.proofs.lemmas.Bool.{eqb-true}
use Rattle.std.proofs.lemmas.List.{append-nil}
use Rattle.std.proofs.lemmas.List.Folds.{list_any-append}
use Rattle.std.specs.BTreeMap.{is_at}
use Rattle.std.specs.List.{AllByRecursion, list_any}
use Rattle.std.specs.List.Sorted.{IsStrictlySortedBy}
use Rattle.std.specs.Map.{lookup}
use Rattle.std.specs.Ordering.{is_eq, nat_cmp}
use Rattle.std.specs.declared.cmp.Ordering.TheVariants.{Less}
use Rattle.dso_base.specs.declared.value.Value.{Value}
use Rattle.dso_base.specs.declared.value.Value.TheVariants as value
use Rattle.dso_base.specs.Block.{has_reference}
use Rattle.dso_lookup.specs.Search.{has_edge}
use Rattle.dso_lookup.proofs.Tests.{number_at}
use Rattle.dso_table.specs.declared.places.Places.{Places}
use Rattle.dso_table.specs.Edges.{copy_names, with_edges}
use Rattle.dso_table.specs.ObjectTables.{at_place}

-- whether the copies at these places, by their objects, have the edge from a to b
abbrev pub entries_name : Places → ℕ → ℕ → List (ℕ × ℕ) → Bool
entries_name places a b es = list_any (λ e. eqb e.0 a && copy_names (at_place places (Some e.1)) b) es

pub or_false : (a : Bool) → (a || false) ≡ a
or_false true = refl
or_false false = refl

or_moved : (a b c : Bool) → ((a || b) || c) ≡ (a || (b || c))
or_moved true b c = refl
or_moved false b c = refl

-- a list with nothing behind it
nothing_added : (object : ℕ) (values : List Value) (edges : List (ℕ × ℕ)) (a b : ℕ)
    → (has_edge a b (edges ++ []) || (eqb object a && has_reference b values)) ≡ (has_edge a b edges || (eqb object a && has_reference b values))
nothing_added object values edges a b = ap (λ xs. has_edge a b xs || (eqb object a && has_reference b values)) (append-nil edges)

regrouped : (a b c d : Bool) → ((a || ((b && c) || false)) || (b && d)) ≡ (a || (b && (c || d)))
regrouped true b c d = refl
regrouped false true true d = refl
regrouped false true false d = refl
regrouped false false c d = refl

none_more : (a b : Bool) → a ≡ (a || (b && false))
none_more true b = refl
none_more false true = refl
none_more false false = refl

-- the list has the edges from the object to what the values name, behind those before
pub edges_listed : (object : ℕ) (values : List Value) (edges : List (ℕ × ℕ)) (a b : ℕ)
    → has_edge a b (with_edges object values edges) ≡ (has_edge a b edges || (eqb object a && has_reference b values))
edges_listed object [] edges a b = none_more (has_edge a b edges) (eqb object a)
edges_listed object (value.Ref n ∷ values) edges a b = edges_listed object values (edges ++ (object, n) ∷ []) a b
    ∙ ap (λ x. x || (eqb object a && has_reference b values)) (list_any-append (λ edge. eqb edge.0 a && eqb edge.1 b) edges ((object, n) ∷ []))
    ∙ regrouped (has_edge a b edges) (eqb object a) (eqb n b) (has_reference b values)
edges_listed object (value.Null ∷ values) edges a b = edges_listed object values (edges ++ []) a b ∙ nothing_added object values edges a b
edges_listed object (value.Long n ∷ values) edges a b = edges_listed object values (edges ++ []) a b ∙ nothing_added object values edges a b
edges_listed object (value.Bool x ∷ values) edges a b = edges_listed object values (edges ++ []) a b ∙ nothing_added object values edges a b
edges_listed object (value.Text n ∷ values) edges a b = edges_listed object values (edges ++ []) a b ∙ nothing_added object values edges a b

-- one place: what is to be listed behind it, with what it has, was to be listed before it
pub place_on : (places : Places) (a b : ℕ) (e : ℕ × ℕ) (es : List (ℕ × ℕ)) (old new all : Bool)
    → new ≡ (old || (eqb e.0 a && copy_names (at_place places (Some e.1)) b))
    → (old || entries_name places a b (e ∷ es)) ≡ all → (new || entries_name places a b es) ≡ all
place_on places a b e es old new all is whole =
    ap (λ x. x || entries_name places a b es) is ∙ or_moved old (eqb e.0 a && copy_names (at_place places (Some e.1)) b) (entries_name places a b es) ∙ whole

-- no place is of an object that all keys are greater than
none_at : (places : Places) (a b : ℕ) (es : List (ℕ × ℕ)) → AllByRecursion (λ key. nat_cmp a key ≡ Less) (map (λ e. e.0) es) → entries_name places a b es ≡ false
none_at places a b [] all = refl
none_at places a b (e ∷ es) all = by (eqb e.0 a) refl (none_at places a b es all.1)
  where
    by : (t : Bool) → eqb e.0 a ≡ t → entries_name places a b es ≡ false → ((t && copy_names (at_place places (Some e.1)) b) || entries_name places a b es) ≡ false
    by true is rest = absurd (cc (sym (number_at a e.0 ∙ is) ∙ ap is_eq all.0))
    by false is rest = rest

-- what is listed of all places is what the object's own place has
pub at_own_place : (places : Places) (a b : ℕ) (es : List (ℕ × ℕ)) → IsStrictlySortedBy nat_cmp (map (λ e. e.0) es)
    → entries_name places a b es ≡ copy_names (at_place places (lookup (is_at (nat_cmp a)) es)) b
unfolding IsStrictlySortedBy
at_own_place places a b [] sorted = refl
at_own_place places a b (e ∷ es) sorted = by (eqb e.0 a) refl (number_at a e.0) (at_own_place places a b es sorted.1)
  where
    none : eqb e.0 a ≡ true → entries_name places a b es ≡ false
    none is = none_at places a b es (subst (λ n. AllByRecursion (λ key. nat_cmp n key ≡ Less) (map (λ x. x.0) es)) (eqb-true e.0 a is) sorted.0)

    by : (t : Bool) → eqb e.0 a ≡ t → is_at (nat_cmp a) e.0 ≡ eqb e.0 a → entries_name places a b es ≡ copy_names (at_place places (lookup (is_at (nat_cmp a)) es)) b
        → ((t && copy_names (at_place places (Some e.1)) b) || entries_name places a b es)
        ≡ copy_names (at_place places (cond (is_at (nat_cmp a) e.0) (Some e.1) (lookup (is_at (nat_cmp a)) es))) b
    by true is at rest = rw (at ∙ is, none is) (or_false (copy_names (at_place places (Some e.1)) b))
    by false is at rest = rw (at ∙ is) rest

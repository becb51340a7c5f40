-- Bodies that are put into a table one after the other, and sets that are written into them.
use Rattle.std.proofs.Common.{ℕ, ◌+◌, ◌<◌, ◌≤◌, ◌≡◌, refl, sym, ◌∙◌, ap, Bool, true, false, cond, eqb, length, get_or, drop, Option, Some, None, List, [], ◌∷◌}
use Rattle.std.proofs.Math.Path.{fun_ext}
use Rattle.std.proofs.lemmas.Bool.{eqb-true, eq-eqb}
use Rattle.std.proofs.lemmas.List.{drop_all, drop_more}
use Rattle.std.specs.BTreeMap.{BTreeMap, is_at}
use Rattle.std.specs.Map.{lookup}
use Rattle.std.specs.Ordering.{nat_cmp}
use Rattle.dso_base.specs.declared.record.Body.{Body}
use Rattle.dso_base.specs.declared.record.Set.{Set}
use Rattle.std.specs.Option.{option_map, unwrap_or}
use Rattle.dso_change.specs.Hands.{with_field, with_field_at}
use Rattle.dso_law.specs.Store.{body_with}
use Rattle.dso_store.specs.Graph.{with_news, with_sets, last_by}
use Rattle.dso_lookup.specs.Maps.{look, writes, or_old, written}
use Rattle.dso_lookup.proofs.Tests.{number_at, same_tests}

-- a number is told from another either way
pub flipped : (a b : ℕ) → eqb a b ≡ eqb b a
flipped a b = same_tests (eqb a b) (eqb b a) (λ e. eq-eqb b a (sym (eqb-true a b e))) (λ e. eq-eqb a b (sym (eqb-true b a e)))

-- what is written at a number
pub written_at : {V : Type 0} (k : ℕ) (v : V) (f : ℕ → V) → written (writes (is_at (nat_cmp k)) (λ _. v)) f ≡ (λ q. cond (eqb q k) v (f q))
written_at {V} k v f = fun_ext (λ q. ap (λ b. or_old (cond b (Some v) None) (f q)) (number_at k q) ∙ by (eqb q k) (f q))
  where
    by : (b : Bool) (x : V) → or_old (cond b (Some v) None) x ≡ cond b v x
    by true x = refl
    by false x = refl

-- the same with the test the other way
pub written_from : {V : Type 0} (k : ℕ) (v : V) (f : ℕ → V) → written (writes (is_at (nat_cmp k)) (λ _. v)) f ≡ (λ q. cond (eqb k q) v (f q))
written_from k v f = written_at k v f ∙ fun_ext (λ q. ap (λ b. cond b v (f q)) (flipped q k))

-- one more of the bodies is put into the table
pub news_next : (news : List Body) (body : Body) (i : ℕ) (now next : ℕ → Option Body) → i < length news → body ≡ get_or news i body → next ≡ written (writes (is_at (nat_cmp body.object)) (λ _. Some body)) now
    → with_news (drop (i + 1) news) next ≡ with_news (drop i news) now
news_next news body i now next less is put = ap (λ f. with_news (drop (i + 1) news) f) (put ∙ written_from body.object (Some body) now) ∙ ap (λ bodies. with_news bodies now) (sym first)
  where
    first : drop i news ≡ body ∷ drop (i + 1) news
    first = drop_more news i body less ∙ ap (λ x. x ∷ drop (i + 1) news) (sym is)

-- none is left
pub news_all : (news : List Body) (i : ℕ) (now : ℕ → Option Body) → length news ≤ i → with_news (drop i news) now ≡ now
news_all news i now least = ap (λ bodies. with_news bodies now) (drop_all i news least)

-- one value is written
pub set_written : (set : Set) (bodies : ℕ → Option Body) → with_field_at set.object set.field set.value bodies ≡ with_sets (set ∷ []) bodies
set_written set bodies = written_from set.object (option_map (with_field set.field set.value) (bodies set.object)) bodies ∙ fun_ext (λ o. by o (eqb set.object o) refl)
  where
    mapped : (body : Option Body) → option_map (with_field set.field set.value) body ≡ body_with set body
    mapped None = refl
    mapped (Some body) = refl

    by : (o : ℕ) (b : Bool) → eqb set.object o ≡ b → cond b (option_map (with_field set.field set.value) (bodies set.object)) (bodies o) ≡ cond b (body_with set (bodies o)) (bodies o)
    by o true e = mapped (bodies set.object) ∙ ap (λ n. body_with set (bodies n)) (eqb-true set.object o e)
    by o false e = refl

-- one more of the sets is written
pub sets_next : (sets : List Set) (none : Set) (i : ℕ) (now next : ℕ → Option Body) → i < length sets → next ≡ with_field_at (get_or sets i none).object (get_or sets i none).field (get_or sets i none).value now
    → with_sets (drop (i + 1) sets) next ≡ with_sets (drop i sets) now
sets_next sets none i now next less put = ap (λ f. with_sets (drop (i + 1) sets) f) (put ∙ set_written (get_or sets i none) now) ∙ ap (λ all. with_sets all now) (sym (drop_more sets i none less))

-- none is left
pub sets_all : (sets : List Set) (i : ℕ) (now : ℕ → Option Body) → length sets ≤ i → with_sets (drop i sets) now ≡ now
sets_all sets i now least = ap (λ all. with_sets all now) (drop_all i sets least)

-- one body alone
pub one_body : (opening body : Body) (empty map : BTreeMap ℕ Body) → empty.entries ≡ [] → body ≡ opening → look nat_cmp map ≡ written (writes (is_at (nat_cmp 0)) (λ _. Some body)) (look nat_cmp empty) → look nat_cmp map ≡ (λ o. cond (eqb o 0) (Some opening) None)
one_body opening body empty map none is put = put ∙ (written_at 0 (Some body) (look nat_cmp empty) ∙ fun_ext (λ o. ap (λ b. cond (eqb o 0) (Some b) (look nat_cmp empty o)) is ∙ ap (λ es. cond (eqb o 0) (Some opening) (lookup (is_at (nat_cmp o)) es)) none))

-- the number of a client's record is written
pub last_written : (client seq : ℕ) (old new : BTreeMap ℕ ℕ) → look nat_cmp new ≡ written (writes (is_at (nat_cmp client)) (λ _. Some seq)) (look nat_cmp old) → last_by new ≡ (λ c. cond (eqb c client) seq (last_by old c))
last_written client seq old new put = ap (λ f c. unwrap_or (f c) 0) (put ∙ written_at client (Some seq) (look nat_cmp old)) ∙ fun_ext (λ c. by (eqb c client) (look nat_cmp old c))
  where
    by : (b : Bool) (x : Option ℕ) → unwrap_or (cond b (Some seq) x) 0 ≡ cond b seq (unwrap_or x 0)
    by true x = refl
    by false x = refl

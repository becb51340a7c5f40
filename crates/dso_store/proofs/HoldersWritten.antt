-- Holders that are added and dropped.
use Rattle.std.proofs.Common.{ℕ, ◌+◌, ◌<◌, ◌≤◌, ◌≡◌, refl, sym, ◌∙◌, ap, Bool, true, false, cond, eqb, ◌&&◌, ◌||◌, is_some, length, get_or, drop, Option, Some, None, List, ◌∷◌}
use Rattle.std.proofs.Math.Path.{fun_ext}
use Rattle.std.proofs.lemmas.List.{drop_all, drop_more}
use Rattle.std.specs.BTreeMap.{BTreeMap, is_at}
use Rattle.std.specs.Ordering.{nat_cmp}
use Rattle.dso_base.specs.declared.record.Body.{Body}
use Rattle.dso_law.specs.Copies.{is_among}
use Rattle.dso_lookup.specs.Maps.{look, writes, or_old, written}
use Rattle.dso_lookup.specs.Rows.{in_row, look_in, is_at_pair}
use Rattle.dso_lookup.proofs.Tests.{number_at}
use Rattle.dso_store.specs.Graph.{holds_by, with_holder}
use Rattle.dso_store.proofs.BodiesWritten.{flipped, written_at}

-- the holders with one of one client written
pub one_holder : (old new : BTreeMap ℕ (BTreeMap ℕ (Unit {0}))) (client object : ℕ) (v : Option (Unit {0})) → look_in nat_cmp nat_cmp new ≡ written (writes (is_at_pair nat_cmp nat_cmp client object) (λ _. v)) (look_in nat_cmp nat_cmp old)
    → holds_by new ≡ (λ c o. cond (eqb c client) (cond (eqb object o) (is_some v) (holds_by old c o)) (holds_by old c o))
one_holder old new client object v put = fun_ext (λ c. fun_ext (λ o. ap (λ f. is_some (f (c, o))) put
    ∙ (ap (λ b. is_some (or_old (cond (b && is_at (nat_cmp object) o) (Some v) None) (look_in nat_cmp nat_cmp old (c, o)))) (number_at client c)
    ∙ (ap (λ b. is_some (or_old (cond (eqb c client && b) (Some v) None) (look_in nat_cmp nat_cmp old (c, o)))) (number_at object o ∙ flipped o object)
    ∙ by (eqb c client) (eqb object o) (look_in nat_cmp nat_cmp old (c, o))))))
  where
    by : (a b : Bool) (x : Option (Unit {0})) → is_some (or_old (cond (a && b) (Some v) None) x) ≡ cond a (cond b (is_some v) (is_some x)) (is_some x)
    by true true x = refl
    by true false x = refl
    by false b x = refl

-- the holders without those of one client
pub no_holder : (old new : BTreeMap ℕ (BTreeMap ℕ (Unit {0}))) (client : ℕ) → look nat_cmp new ≡ written (writes (is_at (nat_cmp client)) (λ _. None)) (look nat_cmp old)
    → holds_by new ≡ (λ c o. cond (eqb c client) false (holds_by old c o))
no_holder old new client gone = fun_ext (λ c. fun_ext (λ o. ap (λ f. is_some (in_row nat_cmp (f c) o)) (gone ∙ written_at client None (look nat_cmp old)) ∙ by (eqb c client) (look nat_cmp old c) o))
  where
    by : (b : Bool) (row : Option (BTreeMap ℕ (Unit {0}))) (o : ℕ) → is_some (in_row nat_cmp (cond b None row) o) ≡ cond b false (is_some (in_row nat_cmp row o))
    by true row o = refl
    by false row o = refl

-- one more of the bodies is held
pub held_next : (client : ℕ) (news : List Body) (body : Body) (i : ℕ) (now next : ℕ → ℕ → Bool) → i < length news → body ≡ get_or news i body
    → next ≡ (λ c o. cond (eqb c client) (cond (eqb body.object o) true (now c o)) (now c o)) → with_holder client (drop (i + 1) news) next ≡ with_holder client (drop i news) now
held_next client news body i now next less is put = ap (λ holds. with_holder client (drop (i + 1) news) holds) put ∙ (fun_ext (λ c. fun_ext (λ o. by (eqb c client) (eqb body.object o) (is_among o (drop (i + 1) news)) (now c o))) ∙ ap (λ bodies. with_holder client bodies now) (sym first))
  where
    first : drop i news ≡ body ∷ drop (i + 1) news
    first = drop_more news i body less ∙ ap (λ x. x ∷ drop (i + 1) news) (sym is)

    by : (a b t x : Bool) → cond a (cond t true (cond a (cond b true x) x)) (cond a (cond b true x) x) ≡ cond a (cond (b || t) true x) x
    by true true true x = refl
    by true true false x = refl
    by true false t x = refl
    by false b t x = refl

-- none is left
pub held_all : (client : ℕ) (news : List Body) (i : ℕ) (now : ℕ → ℕ → Bool) → length news ≤ i → with_holder client (drop i news) now ≡ now
held_all client news i now least = ap (λ bodies. with_holder client bodies now) (drop_all i news least) ∙ fun_ext (λ c. fun_ext (λ o. by (eqb c client) (now c o)))
  where
    by : (b x : Bool) → cond b x x ≡ x
    by true x = refl
    by false x = refl

-- Which body is found in a list after a change of it.
use Rattle.std.proofs.Common.{ℕ, ◌≡◌, refl, sym, ◌∙◌, ap, Bool, true, false, cond, not, eqb, is_some, Option, Some, None, List, [], ◌∷◌, filter, ltb}
use Rattle.std.proofs.Math.Path.{fun_ext}
use Rattle.std.proofs.lemmas.Bool.{eqb-true, eq-eqb}
use Rattle.std.specs.Option.{option_map}
use Rattle.dso_base.specs.declared.record.Body.{Body}
use Rattle.dso_base.specs.declared.value.Value.{Value}
use Rattle.dso_base.specs.Block.{body_in, with_value, insert_body, insert_bodies}
use Rattle.dso_change.specs.Hands.{with_field, with_field_at, either, AreDifferent}
use Rattle.dso_lookup.specs.Maps.{or_old}
use Rattle.dso_lookup.proofs.Tests.{number_at}

-- a number that is another is not a third that the other isn't
told_apart : (a b c : ℕ) → eqb a b ≡ true → eqb a c ≡ false → eqb b c ≡ false
told_apart a b c e d = ap (λ n. eqb n c) (sym (eqb-true a b e)) ∙ d

-- and it is what the other is
told_same : (a b c : ℕ) → eqb a b ≡ true → eqb a c ≡ true → eqb b c ≡ true
told_same a b c e d = ap (λ n. eqb n c) (sym (eqb-true a b e)) ∙ d

-- a number that isn't another isn't one that is the other
other : (a b c : ℕ) → eqb a b ≡ true → eqb a c ≡ false → eqb c b ≡ false
other a b c e d = by (eqb c b) refl
  where
    by : (t : Bool) → eqb c b ≡ t → t ≡ false
    by true is = absurd (cc (sym d ∙ eq-eqb a c (eqb-true a b e ∙ sym (eqb-true c b is))))
    by false is = refl

-- nothing is found either way
pub nothing : (b : Bool) → cond {A = Option Body} b None None ≡ None
nothing true = refl
nothing false = refl

-- what is found of an object is of that object
pub found_of : (o : ℕ) (bodies : List Body) (body : Body) → body_in o bodies ≡ Some body → body.object ≡ o
found_of o [] body e = absurd (cc e)
found_of o (first ∷ rest) body e = by (eqb first.object o) refl (found_of o rest body) e
  where
    by : (b : Bool) → eqb first.object o ≡ b → (body_in o rest ≡ Some body → body.object ≡ o) → cond b (Some first) (body_in o rest) ≡ Some body → body.object ≡ o
    by true is onward e =
        let same : first ≡ body = cc e in
        ap (λ x. x.object) (sym same) ∙ eqb-true first.object o is
    by false is onward e = onward e

-- where a field of one object was written
pub value_found : (o f : ℕ) (v : Value) (bodies : List Body) (q : ℕ) → body_in q (with_value o f v bodies) ≡ cond (eqb q o) (option_map (with_field f v) (body_in q bodies)) (body_in q bodies)
value_found o f v [] q = sym (nothing (eqb q o))
value_found o f v (body ∷ bodies) q = by (eqb body.object o) (eqb body.object q) refl refl (value_found o f v bodies q)
  where
    by : (a b : Bool) → eqb body.object o ≡ a → eqb body.object q ≡ b → body_in q (with_value o f v bodies) ≡ cond (eqb q o) (option_map (with_field f v) (body_in q bodies)) (body_in q bodies)
        → body_in q (cond a (with_field f v body) body ∷ with_value o f v bodies) ≡ cond (eqb q o) (option_map (with_field f v) (cond b (Some body) (body_in q bodies))) (cond b (Some body) (body_in q bodies))
    by true true is at rest = rw (at, told_same body.object q o at is) refl
    by true false is at rest = rw at rest
    by false true is at rest = rw (at, told_apart body.object q o at is) refl
    by false false is at rest = rw at rest

-- the same as look-ups
pub value_written : (o f : ℕ) (v : Value) (bodies : List Body) → with_field_at o f v (λ q. body_in q bodies) ≡ (λ q. body_in q (with_value o f v bodies))
value_written o f v bodies = fun_ext (λ q. ap (λ b. or_old (cond b (Some (option_map (with_field f v) (body_in o bodies))) None) (body_in q bodies)) (number_at o q) ∙ (by q (eqb q o) refl ∙ sym (value_found o f v bodies q)))
  where
    by : (q : ℕ) (b : Bool) → eqb q o ≡ b → or_old (cond b (Some (option_map (with_field f v) (body_in o bodies))) None) (body_in q bodies) ≡ cond b (option_map (with_field f v) (body_in q bodies)) (body_in q bodies)
    by q true e = ap (λ n. option_map (with_field f v) (body_in n bodies)) (sym (eqb-true q o e))
    by q false e = refl

-- the bodies of the objects that a test tells
pub moved_found : (test : ℕ → Bool) (bodies : List Body) (q : ℕ) → body_in q (filter (λ body. test body.object) bodies) ≡ cond (test q) (body_in q bodies) None
moved_found test [] q = sym (nothing (test q))
moved_found test (body ∷ bodies) q = by (test body.object) (eqb body.object q) refl refl (moved_found test bodies q)
  where
    by : (t b : Bool) → test body.object ≡ t → eqb body.object q ≡ b → body_in q (filter (λ x. test x.object) bodies) ≡ cond (test q) (body_in q bodies) None
        → body_in q (cond t (body ∷ filter (λ x. test x.object) bodies) (filter (λ x. test x.object) bodies)) ≡ cond (test q) (cond b (Some body) (body_in q bodies)) None
    by true true is at rest =
        let told : test q ≡ true = ap test (sym (eqb-true body.object q at)) ∙ is in
        rw (at, told) refl
    by true false is at rest = rw at rest
    by false true is at rest =
        let told : test q ≡ false = ap test (sym (eqb-true body.object q at)) ∙ is in
        rest ∙ rw told refl
    by false false is at rest = rest

-- the bodies of the others
pub kept_found : (test : ℕ → Bool) (bodies : List Body) (q : ℕ) → body_in q (filter (λ body. not (test body.object)) bodies) ≡ cond (test q) None (body_in q bodies)
kept_found test bodies q = moved_found (λ o. not (test o)) bodies q ∙ by (test q)
  where
    by : (b : Bool) → cond (not b) (body_in q bodies) None ≡ cond b None (body_in q bodies)
    by true = refl
    by false = refl

-- with one more body, of an object that had none
pub insert_found : (body : Body) (bodies : List Body) (q : ℕ) → body_in body.object bodies ≡ None → body_in q (insert_body body bodies) ≡ cond (eqb body.object q) (Some body) (body_in q bodies)
insert_found body [] q none = refl
insert_found body (first ∷ rest) q none = by (ltb body.object first.object) (eqb first.object body.object) (eqb first.object q) refl refl none (insert_found body rest q)
  where
    by : (before same at : Bool) → eqb first.object body.object ≡ same → eqb first.object q ≡ at → cond same (Some first) (body_in body.object rest) ≡ None
        → (body_in body.object rest ≡ None → body_in q (insert_body body rest) ≡ cond (eqb body.object q) (Some body) (body_in q rest))
        → body_in q (cond before (body ∷ first ∷ rest) (first ∷ insert_body body rest)) ≡ cond (eqb body.object q) (Some body) (cond at (Some first) (body_in q rest))
    by true same at is e none onward = rw e refl
    by false true at is e none onward = absurd (cc none)
    by false false true is e none onward = rw (e, other first.object q body.object e is) refl
    by false false false is e none onward = rw e (onward none)

-- with more bodies, of different objects that had none
pub inserts_found : (bodies news : List Body) (q : ℕ) → AreDifferent bodies → ((o : ℕ) → is_some (body_in o bodies) ≡ true → body_in o news ≡ None) → body_in q (insert_bodies bodies news) ≡ either (body_in q bodies) (body_in q news)
inserts_found [] news q differ apart = refl
inserts_found (body ∷ bodies) news q differ apart = step (λ r. inserts_found bodies news r differ.1 (λ o there. apart o (more (eqb body.object o) (body_in o bodies) there)))
  where
    more : (b : Bool) (x : Option Body) → is_some x ≡ true → is_some (cond b (Some body) x) ≡ true
    more true x e = refl
    more false x e = e

    by : (b : Bool) → cond b (Some body) (either (body_in q bodies) (body_in q news)) ≡ either (cond b (Some body) (body_in q bodies)) (body_in q news)
    by true = refl
    by false = refl

    step : ((r : ℕ) → body_in r (insert_bodies bodies news) ≡ either (body_in r bodies) (body_in r news)) → body_in q (insert_body body (insert_bodies bodies news)) ≡ either (cond (eqb body.object q) (Some body) (body_in q bodies)) (body_in q news)
    step onward =
        let here : is_some (body_in body.object (body ∷ bodies)) ≡ true = rw (eq-eqb body.object body.object refl) refl in
        let absent : body_in body.object (insert_bodies bodies news) ≡ None = onward body.object ∙ (ap (λ x. either x (body_in body.object news)) differ.0 ∙ apart body.object here) in
        insert_found body (insert_bodies bodies news) q absent ∙ (ap (λ x. cond (eqb body.object q) (Some body) x) (onward q) ∙ by (eqb body.object q))

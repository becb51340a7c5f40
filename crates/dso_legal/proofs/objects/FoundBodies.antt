-- Which body of an object is found among bodies that were changed, parted or put together; and a body's values.
use Rattle.std.proofs.Common.{ℕ, zero, suc, ◌+◌, ◌<◌, ◌≤◌, ◌≡◌, ◌⊎◌, inl, inr, refl, sym, ◌∙◌, ap, subst, Bool, true, false, cond, eqb, ltb, ◌||◌, is_some, Option, Some, None, List, [], ◌∷◌, length, arith}
use Rattle.std.specs.Prelude.{filter, slice_get, slice_set}
use Rattle.std.specs.Option.{option_map}
use Rattle.std.proofs.lemmas.Bool.{lt-ltb, le-ltb}
use Rattle.std.proofs.lemmas.Bool.Decides.{nat_tests}
use Rattle.dso_base.specs.declared.record.Body.{Body}
use Rattle.dso_base.specs.declared.shape.Shape.{Shape}
use Rattle.dso_base.specs.declared.value.ClassId.{ClassId}
use Rattle.dso_base.specs.declared.value.Value.{Value}
use Rattle.dso_base.specs.Shape.{kind_of}
use Rattle.dso_base.specs.Block as block
use Rattle.dso_base.specs.Block.{body_in, with_value, opening_from, opening_body, insert_body, insert_bodies}
use Rattle.dso_plain.specs.After.{opening_field}
use Rattle.dso_plain.proofs.keys.SameKeys.{same_number}
use Rattle.dso_legal.specs.OwnObjects.{count_bodies}

-- what is found first is the first, or stands behind it
first_or : {X : Type 0} (b : Bool) (x found : X) (rest : Option X) → cond b (Some x) rest ≡ Some found → ((b ≡ true) × (x ≡ found)) ⊎ ((b ≡ false) × (rest ≡ Some found))
first_or true x found rest e = inl (refl, cc e)
first_or false x found rest e = inr (refl, e)

-- looked up in one of two lists
in_either : (o : ℕ) (b : Bool) (xs ys : List Body) → body_in o (cond b xs ys) ≡ cond b (body_in o xs) (body_in o ys)
in_either o true xs ys = refl
in_either o false xs ys = refl

-- what is found is of the object
pub found_is : (o : ℕ) (bodies : List Body) (body : Body) → body_in o bodies ≡ Some body → body.object ≡ o
found_is o [] body e = absurd (cc e)
found_is o (first ∷ bodies) body e = by (first_or (eqb first.object o) first body (body_in o bodies) e) (found_is o bodies body)
  where
    by : ((eqb first.object o ≡ true) × (first ≡ body)) ⊎ ((eqb first.object o ≡ false) × (body_in o bodies ≡ Some body)) → (body_in o bodies ≡ Some body → body.object ≡ o) → body.object ≡ o
    by (inl h) later = ap (λ (body : Body). body.object) (sym h.1) ∙ same_number first.object o h.0
    by (inr h) later = later h.1

-- one and more are one at least
one_at_least : (n : ℕ) → 1 ≤ 1 + n
one_at_least n = omega arith

-- none more changes nothing
still_at_least : (n : ℕ) → 1 ≤ n → 1 ≤ 0 + n
still_at_least n le = omega (arith, le)

-- what is found counts
pub found_counts : (o : ℕ) (bodies : List Body) (body : Body) → body_in o bodies ≡ Some body → 1 ≤ count_bodies o bodies
found_counts o [] body e = absurd (cc e)
found_counts o (first ∷ bodies) body e = by (eqb first.object o) e (found_counts o bodies body)
  where
    by : (b : Bool) → cond b (Some first) (body_in o bodies) ≡ Some body → (body_in o bodies ≡ Some body → 1 ≤ count_bodies o bodies) → 1 ≤ cond b 1 0 + count_bodies o bodies
    by true e later = one_at_least (count_bodies o bodies)
    by false e later = still_at_least (count_bodies o bodies) (later e)

-- none and none are none
none_is : (n : ℕ) → n ≡ 0 → 0 + n ≡ 0
none_is n e = omega (arith, e)

-- and what is not found does not
pub none_counts : (o : ℕ) (bodies : List Body) → body_in o bodies ≡ None → count_bodies o bodies ≡ 0
none_counts o [] e = refl
none_counts o (first ∷ bodies) e = by (eqb first.object o) e (none_counts o bodies)
  where
    by : (b : Bool) → cond b (Some first) (body_in o bodies) ≡ None → (body_in o bodies ≡ None → count_bodies o bodies ≡ 0) → cond b 1 0 + count_bodies o bodies ≡ 0
    by true e later = absurd (cc e)
    by false e later = none_is (count_bodies o bodies) (later e)

-- a body with a value in this field, if it is of the object
abbrev pub valued : ℕ → ℕ → Value → Body → Body
valued x f v body = cond (eqb body.object x) (record body { values = slice_set body.values f v }) body

-- it is of the same object
valued_object : (x f : ℕ) (v : Value) (body : Body) → (valued x f v body).object ≡ body.object
valued_object x f v body = by (eqb body.object x)
  where
    by : (b : Bool) → (cond b (record body { values = slice_set body.values f v }) body).object ≡ body.object
    by true = refl
    by false = refl

-- what is found where a value was put
pub in_valued : (o x f : ℕ) (v : Value) (bodies : List Body) → body_in o (with_value x f v bodies) ≡ option_map (valued x f v) (body_in o bodies)
in_valued o x f v [] = refl
in_valued o x f v (body ∷ bodies) = ap (λ n. cond (eqb n o) (Some (valued x f v body)) (body_in o (with_value x f v bodies))) (valued_object x f v body) ∙ by (eqb body.object o) (in_valued o x f v bodies)
  where
    by : (b : Bool) → body_in o (with_value x f v bodies) ≡ option_map (valued x f v) (body_in o bodies)
        → cond b (Some (valued x f v body)) (body_in o (with_value x f v bodies)) ≡ option_map (valued x f v) (cond b (Some body) (body_in o bodies))
    by true e = refl
    by false e = e

-- whether one is found does not change
pub some_valued : (o x f : ℕ) (v : Value) (bodies : List Body) → is_some (body_in o (with_value x f v bodies)) ≡ is_some (body_in o bodies)
some_valued o x f v bodies = ap is_some (in_valued o x f v bodies) ∙ by (body_in o bodies)
  where
    by : (body : Option Body) → is_some (option_map (valued x f v) body) ≡ is_some body
    by None = refl
    by (Some body) = refl

-- what is found was found before
pub found_valued : (o x f : ℕ) (v : Value) (bodies : List Body) (body : Body) → body_in o (with_value x f v bodies) ≡ Some body → (was : Body) × (body_in o bodies ≡ Some was) × (body ≡ valued x f v was)
found_valued o x f v bodies body e = by (body_in o bodies) refl (sym (in_valued o x f v bodies) ∙ e)
  where
    by : (was : Option Body) → body_in o bodies ≡ was → option_map (valued x f v) was ≡ Some body → (was : Body) × (body_in o bodies ≡ Some was) × (body ≡ valued x f v was)
    by None is e = absurd (cc e)
    by (Some was) is e = (was, is, cc e)

-- one more of a part: b tells that it is of the object, a that it is kept, c that the object is
parted_one : {X : Type 0} (a b c : Bool) (x : X) (part rest : Option X) → (b ≡ true → a ≡ c) → part ≡ cond c rest None → cond a (cond b (Some x) part) part ≡ cond c (cond b (Some x) rest) None
parted_one true true true x part rest same e = refl
parted_one true true false x part rest same e = absurd (cc (same refl))
parted_one false true true x part rest same e = absurd (cc (same refl))
parted_one false true false x part rest same e = e
parted_one true false true x part rest same e = e
parted_one true false false x part rest same e = e
parted_one false false true x part rest same e = e
parted_one false false false x part rest same e = e

-- what is found in a part of the bodies, by a test of their objects
pub in_parted : (o : ℕ) (test : ℕ → Bool) (bodies : List Body) → body_in o (filter (λ body. test body.object) bodies) ≡ cond (test o) (body_in o bodies) None
in_parted o test [] = by (test o)
  where
    by : (b : Bool) → let none : Option Body = None in none ≡ cond b none none
    by true = refl
    by false = refl
in_parted o test (body ∷ bodies) = in_either o (test body.object) (body ∷ filter (λ body. test body.object) bodies) (filter (λ body. test body.object) bodies)
    ∙ parted_one (test body.object) (eqb body.object o) (test o) body (body_in o (filter (λ body. test body.object) bodies)) (body_in o bodies) (λ e. ap test (same_number body.object o e)) (in_parted o test bodies)

-- what is found in a part was found, and passes the test
pub found_parted : (o : ℕ) (test : ℕ → Bool) (bodies : List Body) (body : Body) → body_in o (filter (λ body. test body.object) bodies) ≡ Some body → (test o ≡ true) × (body_in o bodies ≡ Some body)
found_parted o test bodies body e = by (test o) refl (sym (in_parted o test bodies) ∙ e)
  where
    by : (b : Bool) → test o ≡ b → cond b (body_in o bodies) None ≡ Some body → (test o ≡ true) × (body_in o bodies ≡ Some body)
    by true is e = (is, e)
    by false is e = absurd (cc e)

-- one is found in the part where one was and the test passes
pub some_parted : (o : ℕ) (test : ℕ → Bool) (bodies : List Body) → test o ≡ true → is_some (body_in o bodies) ≡ true → is_some (body_in o (filter (λ body. test body.object) bodies)) ≡ true
some_parted o test bodies is some = ap is_some (in_parted o test bodies) ∙ ap (λ b. is_some (cond b (body_in o bodies) None)) is ∙ some

-- what is found with one body more is that one, or was found
found_inserted : (o : ℕ) (body : Body) (bodies : List Body) (found : Body) → body_in o (insert_body body bodies) ≡ Some found → ((eqb body.object o ≡ true) × (body ≡ found)) ⊎ (body_in o bodies ≡ Some found)
found_inserted o body [] found e = elim (first_or (eqb body.object o) body found None e) [
  | inl h ↦ inl h
  | inr h ↦ inr h.1
]
found_inserted o body (first ∷ rest) found e = by (ltb body.object first.object) e (found_inserted o body rest found)
  where
    by : (b : Bool) → body_in o (cond b (body ∷ first ∷ rest) (first ∷ insert_body body rest)) ≡ Some found
        → (body_in o (insert_body body rest) ≡ Some found → ((eqb body.object o ≡ true) × (body ≡ found)) ⊎ (body_in o rest ≡ Some found))
        → ((eqb body.object o ≡ true) × (body ≡ found)) ⊎ (body_in o (first ∷ rest) ≡ Some found)
    by true e later = elim (first_or (eqb body.object o) body found (body_in o (first ∷ rest)) e) [
      | inl h ↦ inl h
      | inr h ↦ inr h.1
    ]
    by false e later = elim (first_or (eqb first.object o) first found (body_in o (insert_body body rest)) e) [
      | inl h ↦ inr (ap (λ b. cond b (Some first) (body_in o rest)) h.0 ∙ ap Some h.1)
      | inr h ↦ elim (later h.1) [
        | inl k ↦ inl k
        | inr k ↦ inr (ap (λ b. cond b (Some first) (body_in o rest)) h.0 ∙ k)
      ]
    ]

-- one is found with one body more where it is of the object, or one was found
some_inserted : (o : ℕ) (body : Body) (bodies : List Body) → is_some (body_in o (insert_body body bodies)) ≡ (eqb body.object o || is_some (body_in o bodies))
some_inserted o body [] = by (eqb body.object o)
  where
    by : (b : Bool) → is_some (cond b (Some body) None) ≡ (b || false)
    by true = refl
    by false = refl
some_inserted o body (first ∷ rest) = ap is_some (in_either o (ltb body.object first.object) (body ∷ first ∷ rest) (first ∷ insert_body body rest))
    ∙ by (ltb body.object first.object) (eqb body.object o) (eqb first.object o) (body_in o rest) (body_in o (insert_body body rest)) (some_inserted o body rest)
  where
    by : (a b c : Bool) (rest more : Option Body) → is_some more ≡ (b || is_some rest) → is_some (cond a (cond b (Some body) (cond c (Some first) rest)) (cond c (Some first) more)) ≡ (b || is_some (cond c (Some first) rest))
    by true true c rest more e = refl
    by true false c rest more e = refl
    by false true true rest more e = refl
    by false false true rest more e = refl
    by false b false rest more e = e

-- one beside one at least is too many
two_many : (n : ℕ) → 1 ≤ n → 1 + n ≤ 1 → ⊥
two_many n a b = omega (arith, a, b)

-- without a part there are no more
few_left : (a n : ℕ) → a + n ≤ 1 → n ≤ 1
few_left a n le = omega (arith, le)

-- what is found with bodies put to others, of which none stands twice, is among them, or was found
pub found_all_inserted : (o : ℕ) (bodies news : List Body) (found : Body) → count_bodies o bodies ≤ 1 → body_in o (insert_bodies bodies news) ≡ Some found → (body_in o bodies ≡ Some found) ⊎ (body_in o news ≡ Some found)
found_all_inserted o [] news found few e = inr e
found_all_inserted o (body ∷ bodies) news found few e = by (found_inserted o body (insert_bodies bodies news) found e) (found_all_inserted o bodies news found (few_left (cond (eqb body.object o) 1 0) (count_bodies o bodies) few))
  where
    behind : (b : Bool) → eqb body.object o ≡ b → body_in o bodies ≡ Some found → cond b (Some body) (body_in o bodies) ≡ Some found
    behind true is h = absurd (two_many (count_bodies o bodies) (found_counts o bodies found h) (subst (λ b. cond b 1 0 + count_bodies o bodies ≤ 1) is few))
    behind false is h = h

    by : ((eqb body.object o ≡ true) × (body ≡ found)) ⊎ (body_in o (insert_bodies bodies news) ≡ Some found) → (body_in o (insert_bodies bodies news) ≡ Some found → (body_in o bodies ≡ Some found) ⊎ (body_in o news ≡ Some found))
        → (body_in o (body ∷ bodies) ≡ Some found) ⊎ (body_in o news ≡ Some found)
    by (inl h) later = inl (ap (λ b. cond b (Some body) (body_in o bodies)) h.0 ∙ ap Some h.1)
    by (inr h) later = elim (later h) [
      | inl k ↦ inl (behind (eqb body.object o) refl k)
      | inr k ↦ inr k
    ]

-- the second of two tests holds
or_later : (a b : Bool) → b ≡ true → (a || b) ≡ true
or_later true b e = refl
or_later false b e = e

-- what was found is found with others
pub some_of_news : (o : ℕ) (bodies news : List Body) → is_some (body_in o news) ≡ true → is_some (body_in o (insert_bodies bodies news)) ≡ true
some_of_news o [] news e = e
some_of_news o (body ∷ bodies) news e = some_inserted o body (insert_bodies bodies news) ∙ or_later (eqb body.object o) (is_some (body_in o (insert_bodies bodies news))) (some_of_news o bodies news e)

-- and so are the others
pub some_of_bodies : (o : ℕ) (bodies news : List Body) → is_some (body_in o bodies) ≡ true → is_some (body_in o (insert_bodies bodies news)) ≡ true
some_of_bodies o [] news e = absurd (cc e)
some_of_bodies o (body ∷ bodies) news e = some_inserted o body (insert_bodies bodies news) ∙ by (eqb body.object o) e (some_of_bodies o bodies news)
  where
    by : (b : Bool) → is_some (cond b (Some body) (body_in o bodies)) ≡ true → (is_some (body_in o bodies) ≡ true → is_some (body_in o (insert_bodies bodies news)) ≡ true) → (b || is_some (body_in o (insert_bodies bodies news))) ≡ true
    by true e later = refl
    by false e later = later e

-- the value that was set
pub set_there : (values : List Value) (f : ℕ) (v : Value) → f < length values → slice_get (slice_set values f v) f ≡ Some v
set_there [] f v le = absurd (omega arith)
set_there (x ∷ values) zero v le = refl
set_there (x ∷ values) (suc f) v le = set_there values f v (omega arith)

-- the others
pub set_elsewhere : (values : List Value) (f g : ℕ) (v : Value) → (g ≡ f → ⊥) → slice_get (slice_set values f v) g ≡ slice_get values g
set_elsewhere [] f g v ne = refl
set_elsewhere (x ∷ values) zero zero v ne = absurd (ne refl)
set_elsewhere (x ∷ values) zero (suc g) v ne = refl
set_elsewhere (x ∷ values) (suc f) zero v ne = refl
set_elsewhere (x ∷ values) (suc f) (suc g) v ne = set_elsewhere values f g v (λ e. ne (ap suc e))

-- a new body has as many values as it has fields
pub opening_length : (shape : Shape) (class : ClassId) (k n : ℕ) → length (opening_from shape class k n) ≡ n
opening_length shape class k zero = refl
opening_length shape class k (suc n) = ap suc (opening_length shape class (suc k) n)

-- a place of a longer list
one_longer : (f n : ℕ) → ltb (suc f) (suc n) ≡ ltb f n
one_longer f n = grind (arith, nat_tests)

-- the opening values from a field on
opening_at : (shape : Shape) (class : ClassId) (k n f : ℕ) → slice_get (opening_from shape class k n) f ≡ cond (ltb f n) (Some (block.opening_value (kind_of shape class (k + f)))) None
opening_at shape class k zero f = ap (λ b. cond b (Some (block.opening_value (kind_of shape class (k + f)))) None) (sym (le-ltb f 0 (omega arith)))
opening_at shape class k (suc n) zero = ap (λ b. cond b (Some (block.opening_value (kind_of shape class k))) None) (sym (lt-ltb 0 (suc n) (omega arith)))
    ∙ ap (λ m. cond (ltb 0 (suc n)) (Some (block.opening_value (kind_of shape class m))) None) (omega arith)
opening_at shape class k (suc n) (suc f) = opening_at shape class (suc k) n f
    ∙ ap (λ b. cond b (Some (block.opening_value (kind_of shape class (suc k + f)))) None) (sym (one_longer f n))
    ∙ ap (λ m. cond (ltb (suc f) (suc n)) (Some (block.opening_value (kind_of shape class m))) None) (omega arith)

-- a new body has the opening values
pub opening_values : (shape : Shape) (class : ClassId) (n f : ℕ) → opening_field shape class n f ≡ slice_get (opening_from shape class 0 n) f
opening_values shape class n f = ap (λ m. cond (ltb f n) (Some (block.opening_value (kind_of shape class m))) None) (omega arith) ∙ sym (opening_at shape class 0 n f)

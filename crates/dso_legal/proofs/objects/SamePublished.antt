-- What a thread's bodies publish of a value is what the state publishes of it.
use Rattle.std.proofs.Common.{ℕ, zero, suc, ◌<◌, ◌≡◌, ◌⊎◌, inl, inr, refl, sym, ◌∙◌, ap, subst, Bool, true, false, cond, eqb, ◌||◌, is_some, Option, Some, None, List, [], ◌∷◌, length, map, arith}
use Rattle.std.specs.Prelude.{slice_get}
use Rattle.std.proofs.lemmas.Bool.{or_cases, eqb-false, cases_order}
use Rattle.std.proofs.lemmas.Option.{slice_get_within}
use Rattle.dso_base.specs.declared.lock.ThreadId.{ThreadId}
use Rattle.dso_base.specs.declared.record.Body.{Body}
use Rattle.dso_base.specs.declared.value.Value.{Value}
use Rattle.dso_base.specs.declared.value.Value.TheVariants as value
use Rattle.dso_base.specs.Block.{body_in, has_reference, body_names, is_published}
use Rattle.dso_base.specs.Reach.{Found, start, onward, Reached}
use Rattle.dso_plain.specs.State.{PlainState, is_mine, size_of}
use Rattle.dso_plain.specs.After.{published, names, names_below, holds_reference}
use Rattle.dso_lookup.specs.Reaching.{IsListed, ListsEach}
use Rattle.dso_plain.proofs.keys.SameKeys.{same_number}
use Rattle.dso_plain.proofs.publishing.PublishedIsReached.{published_is_reached}
use Rattle.dso_lookup.proofs.Reaching.{reach_tells}

-- one of two tests holds
or_first : (a b : Bool) → a ≡ true → (a || b) ≡ true
or_first true b e = refl
or_first false b e = absurd (cc e)

-- or the other
or_later : (a b : Bool) → b ≡ true → (a || b) ≡ true
or_later true b e = refl
or_later false b e = e

-- two tests that hold together are the same
pub same_test : (a b : Bool) → (a ≡ true → b ≡ true) → (b ≡ true → a ≡ true) → a ≡ b
same_test true true f g = refl
same_test true false f g = sym (f refl)
same_test false true f g = g refl
same_test false false f g = refl

-- a value of the list holds the reference
list_names : (o : ℕ) (values : List Value) → has_reference o values ≡ true → (f : ℕ) × (holds_reference o (slice_get values f) ≡ true)
list_names o [] e = absurd (cc e)
list_names o (value.Ref named ∷ values) e = elim (or_cases (eqb named o) (has_reference o values) e) [
  | inl h ↦ (0, h)
  | inr h ↦ let later = list_names o values h in (suc later.0, later.1)
]
list_names o (value.Null ∷ values) e = let later = list_names o values e in (suc later.0, later.1)
list_names o (value.Long n ∷ values) e = let later = list_names o values e in (suc later.0, later.1)
list_names o (value.Bool b ∷ values) e = let later = list_names o values e in (suc later.0, later.1)
list_names o (value.Text n ∷ values) e = let later = list_names o values e in (suc later.0, later.1)

-- and the list has each reference that one of its values holds
names_list : (o : ℕ) (values : List Value) (f : ℕ) → holds_reference o (slice_get values f) ≡ true → has_reference o values ≡ true
names_list o [] f e = absurd (cc e)
names_list o (value.Ref named ∷ values) zero e = or_first (eqb named o) (has_reference o values) e
names_list o (value.Null ∷ values) zero e = absurd (cc e)
names_list o (value.Long n ∷ values) zero e = absurd (cc e)
names_list o (value.Bool b ∷ values) zero e = absurd (cc e)
names_list o (value.Text n ∷ values) zero e = absurd (cc e)
names_list o (value.Ref named ∷ values) (suc f) e = or_later (eqb named o) (has_reference o values) (names_list o values f e)
names_list o (value.Null ∷ values) (suc f) e = names_list o values f e
names_list o (value.Long n ∷ values) (suc f) e = names_list o values f e
names_list o (value.Bool b ∷ values) (suc f) e = names_list o values f e
names_list o (value.Text n ∷ values) (suc f) e = names_list o values f e

-- a number below another's next that is not it is below it
below : (f n : ℕ) → f < suc n → (f ≡ n → ⊥) → f < n
below f n le ne = by (cases_order f n)
  where
    by : (f ≡ n) ⊎ ((f < n) ⊎ (n < f)) → f < n
    by (inl e) = absurd (ne e)
    by (inr (inl less)) = less
    by (inr (inr more)) = absurd (omega (arith, le, more))

module _ (heap : ℕ × ℕ → Option Value) (a o : ℕ) where
  -- one of the first fields holds the reference
  below_names : (n : ℕ) → names_below heap n a o ≡ true → (f : ℕ) × (holds_reference o (heap (a, f)) ≡ true)
  below_names zero e = absurd (cc e)
  below_names (suc n) e = elim (or_cases (holds_reference o (heap (a, n))) (names_below heap n a o) e) [
    | inl h ↦ (n, h)
    | inr h ↦ below_names n h
  ]

  -- a field among them that holds it
  names_below_it : (n f : ℕ) → f < n → holds_reference o (heap (a, f)) ≡ true → names_below heap n a o ≡ true
  names_below_it zero f le e = absurd (omega (arith, le))
  names_below_it (suc n) f le e = by (eqb f n) refl (λ less. names_below_it n f less e)
    where
      by : (b : Bool) → eqb f n ≡ b → (f < n → names_below heap n a o ≡ true) → names_below heap (suc n) a o ≡ true
      by true is later = or_first (holds_reference o (heap (a, n))) (names_below heap n a o) (subst (λ m. holds_reference o (heap (a, m)) ≡ true) (same_number f n is) e)
      by false isnt later = or_later (holds_reference o (heap (a, n))) (names_below heap n a o) (later (below f n le (eqb-false f n isnt)))

-- a reference held is a value that is there
held_within : (o : ℕ) (values : List Value) (f : ℕ) → holds_reference o (slice_get values f) ≡ true → f < length values
held_within o values f e = by (slice_get values f) refl e
  where
    by : (v : Option Value) → slice_get values f ≡ v → holds_reference o v ≡ true → f < length values
    by None is e = absurd (cc e)
    by (Some v) is e = slice_get_within values f v is

-- An object whose fields are the values names what they do.
pub names_same : (heap : ℕ × ℕ → Option Value) (a n : ℕ) (values : List Value) (o : ℕ) → n ≡ length values → ((f : ℕ) → heap (a, f) ≡ slice_get values f) → has_reference o values ≡ names_below heap n a o
names_same heap a n values o size same = same_test (has_reference o values) (names_below heap n a o)
    (λ e. let it = list_names o values e in names_below_it heap a o n it.0 (subst (λ m. it.0 < m) (sym size) (held_within o values it.0 it.1)) (ap (holds_reference o) (same it.0) ∙ it.1))
    (λ e. let it = below_names heap a o n e in names_list o values it.0 (ap (holds_reference o) (sym (same it.0)) ∙ it.1))

module _ (mine other : ℕ → Bool) (names others : ℕ → ℕ → Bool) (same : (a : ℕ) → mine a ≡ true → other a ≡ true) (alike : (a b : ℕ) → mine a ≡ true → names a b ≡ true → others a b ≡ true) where
  -- what is found is one's own
  found_own : (a b : ℕ) → Found mine names a b → mine b ≡ true
  found_own a b (start e) = e
  found_own a b (onward c f e m) = m

  -- what is found by two tests is found by two that hold wherever they do
  found_too : (a b : ℕ) → Found mine names a b → Found other others a b
  found_too a b (start e) = start (same a e)
  found_too a b (onward {b = x} c f e m) = onward c (found_too a x f) (alike x c (found_own a x f) e) (same c m)

  -- from a value
  reached_too : (v : Value) (b : ℕ) → Reached mine names v b → Reached other others v b
  reached_too (value.Ref a) b r = found_too a b r
  reached_too value.Null b r = absurd r
  reached_too (value.Long n) b r = absurd r
  reached_too (value.Bool n) b r = absurd r
  reached_too (value.Text n) b r = absurd r

-- a list of the bodies' objects has each that is found among them
pub lists_bodies : (bodies : List Body) → ListsEach (λ a. is_some (body_in a bodies)) (map (λ body. body.object) bodies)
lists_bodies [] o e = absurd (cc e)
lists_bodies (body ∷ bodies) o e = by (eqb body.object o) refl e (lists_bodies bodies o)
  where
    by : (b : Bool) → eqb body.object o ≡ b → is_some (cond b (Some body) (body_in o bodies)) ≡ true → (is_some (body_in o bodies) ≡ true → IsListed o (map (λ body. body.object) bodies)) → (o ≡ body.object) ⊎ IsListed o (map (λ body. body.object) bodies)
    by true is e later = inl (sym (same_number body.object o is))
    by false is e later = inr (later e)

-- the bodies are those of the objects private to the thread, each with the object's values
pub record AreOwn (t : ThreadId) (bodies : List Body) (s : PlainState) : Type 0 where
  pub listed : ListsEach (is_mine t s) (s.made t)
  pub each : (o : ℕ) (body : Body) → body_in o bodies ≡ Some body → (is_mine t s o ≡ true) × (size_of (s.objects o) ≡ length body.values) × ((f : ℕ) → s.heap (o, f) ≡ slice_get body.values f)
  pub all : (o : ℕ) → is_mine t s o ≡ true → is_some (body_in o bodies) ≡ true

module _ (t : ThreadId) (bodies : List Body) (s : PlainState) (own : AreOwn t bodies s) where
  -- an object that has a body is the thread's
  some_mine : (o : ℕ) → is_some (body_in o bodies) ≡ true → is_mine t s o ≡ true
  some_mine o e = by (body_in o bodies) refl e
    where
      by : (body : Option Body) → body_in o bodies ≡ body → is_some body ≡ true → is_mine t s o ≡ true
      by None is e = absurd (cc e)
      by (Some body) is e = (own.each o body is).0

  -- its body names what the object names
  body_names_same : (a b : ℕ) → is_some (body_in a bodies) ≡ true → body_names (body_in a bodies) b ≡ names s a b
  body_names_same a b e = by (body_in a bodies) refl e
    where
      by : (body : Option Body) → body_in a bodies ≡ body → is_some body ≡ true → body_names body b ≡ names s a b
      by None is e = absurd (cc e)
      by (Some body) is e = let it = own.each a body is in names_same s.heap a (size_of (s.objects a)) body.values b it.1 it.2

  -- What the bodies publish of a value the state publishes.
  pub same_published : (v : Value) (o : ℕ) → is_published bodies v o ≡ published t v s o
  same_published v o = same_test (is_published bodies v o) (published t v s o)
      (λ e. (published_is_reached t v s o own.listed).1
      (reached_too (λ a. is_some (body_in a bodies)) (is_mine t s) (λ a b. body_names (body_in a bodies) b) (names s) some_mine (λ a b some e. sym (body_names_same a b some) ∙ e) v o
      ((reach_tells (λ a. is_some (body_in a bodies)) (λ a b. body_names (body_in a bodies) b) (map (λ body. body.object) bodies) v o (lists_bodies bodies)).0 e)))
      (λ e. (reach_tells (λ a. is_some (body_in a bodies)) (λ a b. body_names (body_in a bodies) b) (map (λ body. body.object) bodies) v o (lists_bodies bodies)).1
      (reached_too (is_mine t s) (λ a. is_some (body_in a bodies)) (names s) (λ a b. body_names (body_in a bodies) b) own.all (λ a b mine e. body_names_same a b (own.all a mine) ∙ e) v o
      ((published_is_reached t v s o own.listed).0 e)))

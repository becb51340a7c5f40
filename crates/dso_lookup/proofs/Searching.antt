-- The search for what is found from a value ends, and finds exactly that.
use Rattle.std.proofs.Common.{ℕ, suc, ◌+◌, ◌-◌, ◌<◌, ◌≤◌, ◌≡◌, ◌↔◌, ◌⊎◌, inl, inr, refl, sym, ◌∙◌, ap, subst, Bool, true, false, cond, not, eqb, ◌&&◌, ◌||◌, IsTrue, List, [], ◌∷◌, ◌++◌, length, get_or, length-append, arith}
use Rattle.std.proofs.lemmas.Bool.{or_cases, cases_lt, eqb-true, eq-eqb}
use Rattle.std.proofs.lemmas.List.{append-nil, append_assoc, get_or_append_left, get_or_default}
use Rattle.std.proofs.lemmas.List.Folds.{list_any-append, list_any_at}
use Rattle.std.specs.Cmp.{unsigned_tied}
use Rattle.std.specs.Ordering.{nat_cmp}
use Rattle.std.specs.BTreeSet.{BTreeSet, contains, Updates}
use Rattle.dso_base.specs.declared.value.Value.{Value}
use Rattle.dso_base.specs.declared.value.Value.TheVariants as value
use Rattle.dso_base.specs.Reach.{Found, start, onward, Reached}
use Rattle.dso_lookup.specs.Search.{is_listed, reference_in, with_found, with_all_found, IsSetOf, IsLookedAt}
use Rattle.dso_lookup.proofs.Tests.{right_holds}

-- a number is the same as itself
self : (a : ℕ) → eqb a a ≡ true
self a = eq-eqb a a refl

-- how many objects of the list are not found yet
abbrev pub unfound : List ℕ → List ℕ → ℕ
unfound [] found = 0
unfound (object ∷ objects) found = cond (not (is_listed object found)) 1 0 + unfound objects found

-- what is in a list stays in a longer one
listed_stays : (o : ℕ) (found more : List ℕ) → is_listed o found ≡ true → is_listed o (found ++ more) ≡ true
listed_stays o found more e = list_any-append (λ x. eqb x o) found more ∙ ap (λ b. b || is_listed o more) e

-- whether an object is in a list with one more
with_last : (o last : ℕ) (found : List ℕ) → is_listed o (found ++ last ∷ []) ≡ (is_listed o found || (eqb last o || false))
with_last o last found = list_any-append (λ x. eqb x o) found (last ∷ [])

-- below the next number
less_or_at : (i n : ℕ) → i < n + 1 → (i < n) ⊎ (i ≡ n)
less_or_at i n h = elim (cases_lt i n) [ inl l ↦ inl l | inr g ↦ inr (omega arith) ]

-- what is in a list has a place there
at_place : (o : ℕ) (found : List ℕ) → is_listed o found ≡ true → (i : ℕ) × (i < length found) × (get_or found i 0 ≡ o)
at_place o [] e = absurd (cc e)
at_place o (first ∷ found) e = elim (or_cases (eqb first o) (is_listed o found) e) [
  | inl h ↦ (0, omega arith, eqb-true first o h)
  | inr h ↦ let at = at_place o found h in (suc at.0, omega (arith, at.1), at.2)
]

-- an object that is found counts no more
fewer_head : (a b : Bool) → cond (not (a || b)) 1 0 ≤ cond (not a) 1 0
fewer_head true b = omega arith
fewer_head false true = omega arith
fewer_head false false = omega arith

fewer : (objects found more : List ℕ) → unfound objects (found ++ more) ≤ unfound objects found
fewer [] found more = omega arith
fewer (object ∷ objects) found more =
    let here : cond (not (is_listed object (found ++ more))) 1 0 ≤ cond (not (is_listed object found)) 1 0 =
    rw (list_any-append (λ x. eqb x object) found more) (fewer_head (is_listed object found) (is_listed object more)) in
    let rest = fewer objects found more in
    omega arith

-- a new one counts one less
one_fewer : (objects : List ℕ) (o : ℕ) (found : List ℕ) → is_listed o found ≡ false → is_listed o objects ≡ true → suc (unfound objects (found ++ o ∷ [])) ≤ unfound objects found
one_fewer [] o found new there = absurd (cc there)
one_fewer (object ∷ objects) o found new there = by (eqb object o) refl (one_fewer objects o found new) there
  where
    here : cond (not (is_listed object (found ++ o ∷ []))) 1 0 ≤ cond (not (is_listed object found)) 1 0
    here = rw (list_any-append (λ x. eqb x object) found (o ∷ [])) (fewer_head (is_listed object found) (is_listed object (o ∷ [])))

    by : (b : Bool) → eqb object o ≡ b → (is_listed o objects ≡ true → suc (unfound objects (found ++ o ∷ [])) ≤ unfound objects found)
        → (b || is_listed o objects) ≡ true → suc (unfound (object ∷ objects) (found ++ o ∷ [])) ≤ unfound (object ∷ objects) found
    by true e less there =
        let same = eqb-true object o e in
        let last : is_listed o (found ++ o ∷ []) ≡ true = with_last o o found ∙ ap (λ b. b || (eqb o o || false)) new ∙ ap (λ b. b || false) (self o) in
        let listed : is_listed object (found ++ o ∷ []) ≡ true = ap (λ n. is_listed n (found ++ o ∷ [])) same ∙ last in
        let unlisted : is_listed object found ≡ false = ap (λ n. is_listed n found) same ∙ new in
        let after : cond {A = ℕ} (not (is_listed object (found ++ o ∷ []))) 1 0 ≡ 0 = rw listed refl in
        let before : cond {A = ℕ} (not (is_listed object found)) 1 0 ≡ 1 = rw unlisted refl in
        let rest = fewer objects found (o ∷ []) in
        omega arith
    by false e less there = let rest = less there in let at = here in omega arith

-- one test or another
either_test : (b c : Bool) → cond b true c ≡ (c || (b || false))
either_test true true = refl
either_test true false = refl
either_test false true = refl
either_test false false = refl

-- a set that took one object more is the set of the list with it
pub set_taken : (old new : BTreeSet ℕ) (found : List ℕ) (o : ℕ) → IsSetOf old found → Updates nat_cmp old new o true → IsSetOf new (found ++ o ∷ [])
set_taken old new found o is updates x = updates.0 x ∙ ap (λ b. cond b true (contains nat_cmp old x)) (unsigned_tied o x) ∙ ap (λ b. cond (eqb o x) true b) (is x) ∙ either_test (eqb o x) (is_listed x found) ∙ sym (with_last x o found)

module _ (mine : ℕ → Bool) (all : List ℕ) (lists : (o : ℕ) → mine o ≡ true → is_listed o all ≡ true) where
  -- a list that grew by private objects that were not in it
  pub record Grows (found grown : List ℕ) : Type 0 where
    pub more : List ℕ
    pub whole : grown ≡ found ++ more
    pub fewer : length more + unfound all grown ≤ unfound all found

  grows_none : (found : List ℕ) → Grows found found
  grows_none found = record { more = []; whole = sym (append-nil found); fewer = omega arith }

  grows_on : (a b c : List ℕ) → Grows a b → Grows b c → Grows a c
  grows_on a b c g h = record {
    more = g.more ++ h.more;
    whole = h.whole ∙ ap (λ xs. xs ++ h.more) g.whole ∙ append_assoc a g.more h.more;
    fewer = let n = length-append g.more h.more in let p = g.fewer in let q = h.fewer in omega arith;
  }

  grows_found : (o : ℕ) (found : List ℕ) → Grows found (with_found mine found o)
  grows_found o found = by (mine o) (is_listed o found) refl refl
    where
      by : (a b : Bool) → mine o ≡ a → is_listed o found ≡ b → Grows found (cond (a && not b) (found ++ o ∷ []) found)
      by true true own new = grows_none found
      by true false own new = record { more = o ∷ []; whole = refl; fewer = let n = one_fewer all o found new (lists o own) in omega arith }
      by false b own new = grows_none found

  pub grows_all : (objects found : List ℕ) → Grows found (with_all_found mine objects found)
  grows_all [] found = grows_none found
  grows_all (o ∷ objects) found = grows_on found (with_found mine found o) (with_all_found mine objects (with_found mine found o)) (grows_found o found) (grows_all objects (with_found mine found o))

  -- what was in it is in it still
  stays : (o : ℕ) (found grown : List ℕ) → Grows found grown → is_listed o found ≡ true → is_listed o grown ≡ true
  stays o found grown g e = ap (is_listed o) g.whole ∙ listed_stays o found g.more e

  -- a private object that is named is in it
  found_listed : (o : ℕ) (found : List ℕ) → mine o ≡ true → is_listed o (with_found mine found o) ≡ true
  found_listed o found own = by (mine o) (is_listed o found) own refl
    where
      by : (a b : Bool) → a ≡ true → is_listed o found ≡ b → is_listed o (cond (a && not b) (found ++ o ∷ []) found) ≡ true
      by true true e listed = listed
      by true false e listed = with_last o o found ∙ ap (λ b. b || (eqb o o || false)) listed ∙ ap (λ b. b || false) (self o)
      by false b e listed = absurd (cc e)

  all_listed : (o : ℕ) (objects found : List ℕ) → is_listed o objects ≡ true → mine o ≡ true → is_listed o (with_all_found mine objects found) ≡ true
  all_listed o [] found e own = absurd (cc e)
  all_listed o (n ∷ objects) found e own = elim (or_cases (eqb n o) (is_listed o objects) e) [
    | inl h ↦ stays o (with_found mine found n) (with_all_found mine objects (with_found mine found n)) (grows_all objects (with_found mine found n))
        (subst (λ x. is_listed o (with_found mine found x) ≡ true) (sym (eqb-true n o h)) (found_listed o found own))
    | inr h ↦ all_listed o objects (with_found mine found n) h own
  ]

  -- what is in it was in it, or is private and named
  found_sound : (x o : ℕ) (found : List ℕ) → is_listed x (with_found mine found o) ≡ true → (is_listed x found ≡ true) ⊎ ((x ≡ o) × (mine o ≡ true))
  found_sound x o found e = by (mine o) (is_listed o found) refl e
    where
      by : (a b : Bool) → mine o ≡ a → is_listed x (cond (a && not b) (found ++ o ∷ []) found) ≡ true → (is_listed x found ≡ true) ⊎ ((x ≡ o) × (mine o ≡ true))
      by true true own listed = inl listed
      by false b own listed = inl listed
      by true false own listed = elim (or_cases (is_listed x found) (eqb o x || false) (sym (with_last x o found) ∙ listed)) [
        | inl h ↦ inl h
        | inr h ↦ inr (elim (or_cases (eqb o x) false h) [ inl k ↦ sym (eqb-true o x k) | inr k ↦ absurd (cc k) ], own)
      ]

  all_sound : (x : ℕ) (objects found : List ℕ) → is_listed x (with_all_found mine objects found) ≡ true → (is_listed x found ≡ true) ⊎ ((is_listed x objects ≡ true) × (mine x ≡ true))
  all_sound x [] found e = inl e
  all_sound x (n ∷ objects) found e = elim (all_sound x objects (with_found mine found n) e) [
    | inl h ↦ elim (found_sound x n found h) [
      | inl k ↦ inl k
      | inr k ↦ inr (ap (λ b. b || is_listed x objects) (eq-eqb n x (sym k.0)), ap mine k.0 ∙ k.1)
    ]
    | inr h ↦ inr (right_holds (eqb n x) (is_listed x objects) h.0, h.1)
  ]

  module _ (names : ℕ → ℕ → Bool) where
    -- How far the search has come: what it found was to be found; what the value names it found; and what the first
    -- ones found name it found too.
    pub record Searched (v : Value) (found : List ℕ) (next : ℕ) : Type 0 where
      pub sound : (o : ℕ) → is_listed o found ≡ true → Reached mine names v o
      pub begun : (o : ℕ) → v ≡ value.Ref o → mine o ≡ true → is_listed o found ≡ true
      pub closed : (i x : ℕ) → i < next → names (get_or found i 0) x ≡ true → mine x ≡ true → is_listed x found ≡ true
      pub within : next ≤ length found

    -- what is named by what is found is found
    found_on : (v : Value) (o x : ℕ) → Reached mine names v o → names o x ≡ true → mine x ≡ true → Reached mine names v x
    found_on (value.Ref a) o x f e own = onward x f e own
    found_on value.Null o x f e own = absurd f
    found_on (value.Long n) o x f e own = absurd f
    found_on (value.Bool b) o x f e own = absurd f
    found_on (value.Text n) o x f e own = absurd f

    -- what the value names is found first
    sound_first : (v : Value) (o : ℕ) → is_listed o (with_all_found mine (reference_in v) []) ≡ true → Reached mine names v o
    sound_first (value.Ref a) o e = elim (all_sound o (a ∷ []) [] e) [
      | inl h ↦ absurd (cc h)
      | inr h ↦ elim (or_cases (eqb a o) false h.0) [
        | inl k ↦ let same = eqb-true a o k in subst (λ x. Found mine names a x) same (start (ap mine same ∙ h.1))
        | inr k ↦ absurd (cc k)
      ]
    ]
    sound_first value.Null o e = absurd (cc e)
    sound_first (value.Long n) o e = absurd (cc e)
    sound_first (value.Bool b) o e = absurd (cc e)
    sound_first (value.Text n) o e = absurd (cc e)

    searched_first : (v : Value) → Searched v (with_all_found mine (reference_in v) []) 0
    searched_first v = record {
      sound = sound_first v;
      begun = λ o e own. subst (λ w. is_listed o (with_all_found mine (reference_in w) []) ≡ true) (sym e) (found_listed o [] own);
      closed = λ i o less. absurd (omega arith);
      within = omega arith;
    }

    -- the search begins so
    pub search_begins : (v : Value) (first found : List ℕ) → first ≡ reference_in v → found ≡ with_all_found mine first [] → Searched v found 0
    search_begins v first found is e = subst (λ xs. Searched v xs 0) (sym (e ∙ ap (λ xs. with_all_found mine xs []) is)) (searched_first v)

    -- what a longer list has at the places of the shorter
    same_place : (found grown : List ℕ) (i : ℕ) → Grows found grown → i < length found → get_or grown i 0 ≡ get_or found i 0
    same_place found grown i g less = ap (λ xs. get_or xs i 0) g.whole ∙ get_or_append_left found g.more 0 i less

    module _ (v : Value) (found : List ℕ) (next : ℕ) (s : Searched v found next) (there : next < length found) where
      next_listed : is_listed (get_or found next 0) found ≡ true
      next_listed = list_any_at (λ x. eqb x (get_or found next 0)) found next 0 there (self (get_or found next 0))

      -- after the search looked at the next one: what it names was added
      looked : (named : List ℕ) → ((o : ℕ) → is_listed o named ≡ names (get_or found next 0) o) → Searched v (with_all_found mine named found) (next + 1)
      looked named tells =
          let grown = with_all_found mine named found in
          let g = grows_all named found in
          let long : length grown ≡ length found + length g.more = ap length g.whole ∙ length-append found g.more in
          record {
            sound = λ x listed. elim (all_sound x named found listed) [
              | inl h ↦ s.sound x h
              | inr h ↦ found_on v (get_or found next 0) x (s.sound (get_or found next 0) next_listed) (sym (tells x) ∙ h.0) h.1
            ];
            begun = λ x e own. stays x found grown g (s.begun x e own);
            closed = λ i x less is_named own. elim (less_or_at i next less) [
              | inl h ↦ stays x found grown g (s.closed i x h (ap (λ n. names n x) (sym (same_place found grown i g (omega arith))) ∙ is_named) own)
              | inr h ↦ all_listed x named found (tells x ∙ ap (λ n. names n x) (sym (ap (λ n. get_or grown n 0) h ∙ same_place found grown next g there)) ∙ is_named) own
            ];
            within = omega arith;
          }

      -- less is left to look at
      less_left : (named : List ℕ) → length (with_all_found mine named found) - (next + 1) + unfound all (with_all_found mine named found) < length found - next + unfound all found
      less_left named =
          let g = grows_all named found in
          let long : length (with_all_found mine named found) ≡ length found + length g.more = ap length g.whole ∙ length-append found g.more in
          let few = g.fewer in
          omega arith

    pub searched_next : (v : Value) (found grown : List ℕ) (next object : ℕ) → Searched v found next → next < length found → object ≡ get_or found next object → IsLookedAt mine names object found grown → Searched v grown (next + 1)
    searched_next v found grown next object s there is looks =
        let at : object ≡ get_or found next 0 = is ∙ get_or_default found next object 0 there in
        subst (λ xs. Searched v xs (next + 1)) (sym looks.added) (looked v found next s there looks.named (λ o. looks.all o ∙ ap (λ n. names n o) at))

    pub search_ends : (v : Value) (found grown : List ℕ) (next object : ℕ) → Searched v found next → next < length found → IsLookedAt mine names object found grown → length grown - (next + 1) + unfound all grown < length found - next + unfound all found
    search_ends v found grown next object s there looks = subst (λ xs. length xs - (next + 1) + unfound all xs < length found - next + unfound all found) (sym looks.added) (less_left v found next s there looks.named)

    -- at the end all that is found from it is in the list
    all_found : (a o : ℕ) (found : List ℕ) (next : ℕ) → Searched (value.Ref a) found next → length found ≤ next → Found mine names a o → is_listed o found ≡ true
    all_found a o found next s done (start own) = s.begun a refl own
    all_found a o found next s done (onward {b = x} c f e own) =
        let at = at_place x found (all_found a x found next s done f) in
        s.closed at.0 c (omega (arith, at.1)) (ap (λ n. names n c) at.2 ∙ e) own

    found_reached : (v : Value) (o : ℕ) (found : List ℕ) (next : ℕ) → Searched v found next → length found ≤ next → Reached mine names v o → is_listed o found ≡ true
    found_reached (value.Ref a) o found next s done f = all_found a o found next s done f
    found_reached value.Null o found next s done f = absurd f
    found_reached (value.Long n) o found next s done f = absurd f
    found_reached (value.Bool b) o found next s done f = absurd f
    found_reached (value.Text n) o found next s done f = absurd f

    -- at the end the set has exactly what is found
    pub searched_all : (v : Value) (found : List ℕ) (next : ℕ) (seen : BTreeSet ℕ) → Searched v found next → length found ≤ next → IsSetOf seen found → (o : ℕ) → IsTrue (contains nat_cmp seen o) ↔ Reached mine names v o
    searched_all v found next seen s done is o = ((λ e. s.sound o (sym (is o) ∙ e)), (λ f. is o ∙ found_reached v o found next s done f))

-- What is made of each item of a list and its number.
use Rattle.std.proofs.Common.{ℕ, zero, suc, ◌≡◌, ◌+◌, ◌<◌, arith, refl, sym, ◌∙◌, ap, subst, inl, inr, Bool, true, false, Some, List, [], ◌∷◌, ◌++◌, length, take, get_or, append_assoc, append-nil, All, AllPairs, Contains, slice_get}
use Rattle.std.proofs.lemmas.List.Elements.{All-nil, All-cons, All-append, All-weaker, All-contains, All-contains_itself, All-head, All-tail, Contains-append_left, Contains-append_right, Contains-append_cases, Contains-push}
use Rattle.std.proofs.lemmas.List.Kept.{AllPairs-cons}
use Rattle.std.proofs.lemmas.Option.{same_Some, slice_get-get_or}
use Rattle.dso_class.specs.Gathered.{only, each_at}
use Rattle.dso_config_entries.proofs.lists.Places.{nowhere, stands_there}
use Rattle.dso_config_entries.proofs.lists.Last.{taken}

-- one more item of a list, where F goes along lists
pub more : {A B : Type 0} (F : List A → List B) → ((xs ys : List A) → F (xs ++ ys) ≡ F xs ++ F ys) → (xs : List A) (i : ℕ) (x : A) (these : List B)
    → i < length xs → x ≡ get_or xs i x → F (x ∷ []) ≡ these → F (take (i + 1) xs) ≡ F (take i xs) ++ these
more F along xs i x these below is e = ap F (taken xs i x below is) ∙ along (take i xs) (x ∷ []) ∙ ap (λ rest. F (take i xs) ++ rest) e

-- what is the case of all that is there is the case of each item
pub all_there : {A : Type 0} (P : A → Type 0) (xs : List A) → ((x : A) → Contains xs x → P x) → All P xs
all_there P xs holds = All-weaker (Contains xs) P holds xs (All-contains_itself xs)

-- where nothing is there the list is empty
pub nothing_there : {A : Type 0} (xs : List A) → ((x : A) → Contains xs x → ⊥) → xs ≡ []
nothing_there [] fails = refl
nothing_there (x ∷ xs) fails = absurd (fails x (Contains-append_left (x ∷ []) xs x (Contains-push [] x)))

-- the place where an item stands that is there
pub stands_at : {A : Type 0} (xs : List A) (x : A) (there : Contains xs x) → slice_get xs there.0 ≡ Some x
stands_at xs x there = slice_get-get_or xs there.0 x there.1 ∙ ap Some there.2

-- what holds of the first item and each later one, and of the later ones
pub first_pairs : {A : Type 0} (R : A → A → Type 0) (x : A) (xs : List A) → AllPairs R (x ∷ xs) → All (R x) xs
first_pairs R x xs holds k d within = holds 0 (suc k) d (omega arith) (omega arith)

pub later_pairs : {A : Type 0} (R : A → A → Type 0) (x : A) (xs : List A) → AllPairs R (x ∷ xs) → AllPairs R xs
later_pairs R x xs holds i j d before within = holds (suc i) (suc j) d (omega arith) (omega arith)

-- pairs of two lists
pub append_pairs : {A : Type 0} (R : A → A → Type 0) (xs ys : List A) → AllPairs R xs → AllPairs R ys → ((x y : A) → Contains xs x → Contains ys y → R x y) → AllPairs R (xs ++ ys)
append_pairs R [] ys one other across = other
append_pairs R (x ∷ xs) ys one other across =
    AllPairs-cons R x (xs ++ ys)
    (All-append (R x) xs ys (first_pairs R x xs one) (all_there (R x) ys (λ y there. across x y (Contains-append_left (x ∷ []) xs x (Contains-push [] x)) there)))
    (append_pairs R xs ys (later_pairs R x xs one) other (λ y z there behind. across y z (Contains-append_right (x ∷ []) xs y there) behind))

-- what a list of one item has
pub the_only : {A : Type 0} (y x : A) → Contains (y ∷ []) x → y ≡ x
the_only y x there = All-contains (λ z. y ≡ z) (y ∷ []) x (All-cons (λ z. y ≡ z) y [] refl (All-nil (λ z. y ≡ z))) there

-- what is there of a value that a test keeps
pub only_true : {A : Type 0} (test : Bool) (value x : A) → Contains (only test value) x → test ≡ true
only_true true value x there = refl
only_true false value x there = absurd (nowhere x there)

pub only_same : {A : Type 0} (test : Bool) (value x : A) → Contains (only test value) x → value ≡ x
only_same true value x there = the_only value x there
only_same false value x there = absurd (nowhere x there)

pub only_there : {A : Type 0} (test : Bool) (value : A) → test ≡ true → Contains (only test value) value
only_there true value e = Contains-push [] value
only_there false value e = absurd (cc e)

-- a single value has no pairs
pub only_pairs : {A : Type 0} (R : A → A → Type 0) (test : Bool) (value : A) → AllPairs R (only test value)
only_pairs R true value i j d before within = absurd (omega arith)
only_pairs R false value i j d before within = absurd (omega arith)

-- where a value was made: of the item at this place
pub record IsMadeFrom {A B : Type 0} (f : ℕ → A → List B) (number : ℕ) (xs : List A) (y : B) : Type 0 where
  pub place : ℕ
  pub item : A
  pub stands : slice_get xs place ≡ Some item
  pub made : Contains (f (number + place) item) y

-- the same where the first item has number 0
pub record IsMade {A B : Type 0} (f : ℕ → A → List B) (xs : List A) (y : B) : Type 0 where
  pub place : ℕ
  pub item : A
  pub stands : slice_get xs place ≡ Some item
  pub made : Contains (f place item) y

module _ {A B : Type 0} (f : ℕ → A → List B) where
  -- one more item
  pub each_push : (number : ℕ) (xs : List A) (x : A) (last : ℕ) → last ≡ number + length xs → each_at f number (xs ++ x ∷ []) ≡ each_at f number xs ++ f last x
  each_push number [] x last is =
      let same : number ≡ last = omega arith in
      append-nil (f number x) ∙ ap (λ n. f n x) same
  each_push number (y ∷ ys) x last is =
      ap (λ rest. f number y ++ rest) (each_push (suc number) ys x last (omega arith)) ∙ sym (append_assoc (f number y) (each_at f (suc number) ys) (f last x))

  -- what is there was made of some item
  pub each_made : (number : ℕ) (xs : List A) (y : B) → Contains (each_at f number xs) y → IsMadeFrom f number xs y
  each_made number [] y there = absurd (nowhere y there)
  each_made number (x ∷ xs) y there = elim (Contains-append_cases (f number x) (each_at f (suc number) xs) y there) [
    | inl here ↦
        let same : number ≡ number + 0 = omega arith in
        record { place = 0; item = x; stands = refl; made = subst (λ n. Contains (f n x) y) same here }
    | inr rest ↦
        let found = each_made (suc number) xs y rest in
        let same : suc number + found.place ≡ number + suc found.place = omega arith in
        record { place = suc found.place; item = found.item; stands = found.stands; made = subst (λ n. Contains (f n found.item) y) same found.made }
  ]

  pub made_of : (xs : List A) (y : B) → Contains (each_at f 0 xs) y → IsMade f xs y
  made_of xs y there =
      let found = each_made 0 xs y there in
      let same : 0 + found.place ≡ found.place = omega arith in
      record { place = found.place; item = found.item; stands = found.stands; made = subst (λ n. Contains (f n found.item) y) same found.made }

  -- what is made of an item is there
  pub each_there : (number : ℕ) (xs : List A) (place : ℕ) (x : A) (y : B) → slice_get xs place ≡ Some x → (at : ℕ) → at ≡ number + place → Contains (f at x) y → Contains (each_at f number xs) y
  each_there number [] place x y stands at is made = absurd (cc stands)
  each_there number (z ∷ zs) zero x y stands at is made =
      let here : at ≡ number = omega arith in
      Contains-append_left (f number z) (each_at f (suc number) zs) y (subst (λ n. Contains (f n z) y) here (subst (λ w. Contains (f at w) y) (sym (same_Some z x stands)) made))
  each_there number (z ∷ zs) (suc place) x y stands at is made =
      Contains-append_right (f number z) (each_at f (suc number) zs) y (each_there (suc number) zs place x y stands at (omega arith) made)

  -- R holds of all pairs of what is made, where it holds of what is made of one item and of two
  pub each_pairs : (R : B → B → Type 0) (P : A → Type 0) (Q : A → A → Type 0) → ((n : ℕ) (x : A) → P x → AllPairs R (f n x))
      → ((n m : ℕ) (x x' : A) → n < m → Q x x' → (y z : B) → Contains (f n x) y → Contains (f m x') z → R y z)
      → (number : ℕ) (xs : List A) → All P xs → AllPairs Q xs → AllPairs R (each_at f number xs)
  each_pairs R P Q within across number [] each pairs = λ i j d before inside. absurd (omega arith)
  each_pairs R P Q within across number (x ∷ xs) each pairs =
      append_pairs R (f number x) (each_at f (suc number) xs) (within number x (All-head P x xs each))
      (each_pairs R P Q within across (suc number) xs (All-tail P x xs each) (later_pairs Q x xs pairs))
      (λ y z here there.
      let found = each_made (suc number) xs z there in
      across number (suc number + found.place) x found.item (omega arith)
      (All-contains (Q x) xs found.item (first_pairs Q x xs pairs) (stands_there xs found.item found.place found.stands)) y z here found.made)

-- Lists side by side, item by item, and what holds of their items and lengths.
use Rattle.std.proofs.Common.{◌≡◌, ℕ, zero, suc, ◌<◌, arith, refl, ap, ◌∙◌, subst, Bool, Some, List, [], ◌∷◌, ◌++◌, length, map, count_by, slice_get, All, Contains}
use Rattle.std.specs.List.{AllZip}
use Rattle.std.proofs.lemmas.List.Elements.{All-nil, All-cons, All-contains, All-weaker, All-contains_itself, Contains-append_left, Contains-append_right}
use Rattle.std.proofs.lemmas.Option.{none-some, same_Some, get_or_from_slice_get, slice_get_within}
use Rattle.dso_class.proofs.lists.CountedFronts.{counts, count_cons}

-- what holds of all of two lists in a row holds of each of them
pub All-left : {A : Type 0} (P : A → Type 0) (xs ys : List A) → All P (xs ++ ys) → All P xs
All-left P xs ys all = All-weaker (Contains xs) P (λ x there. All-contains P (xs ++ ys) x all (Contains-append_left xs ys x there)) xs (All-contains_itself xs)

pub All-right : {A : Type 0} (P : A → Type 0) (xs ys : List A) → All P (xs ++ ys) → All P ys
All-right P xs ys all = All-weaker (Contains ys) P (λ y there. All-contains P (xs ++ ys) y all (Contains-append_right xs ys y there)) ys (All-contains_itself ys)

-- what holds of all holds at a place
pub all_at : {A : Type 0} (P : A → Type 0) (xs : List A) (k : ℕ) (x : A) → All P xs → slice_get xs k ≡ Some x → P x
all_at P xs k x all is = subst P (get_or_from_slice_get xs k x x is) (all k x (slice_get_within xs k x is))

-- what holds at each place holds of all
pub all_from_places : {A : Type 0} (P : A → Type 0) (xs : List A) → ((k : ℕ) (x : A) → slice_get xs k ≡ Some x → P x) → All P xs
all_from_places P [] at = All-nil P
all_from_places P (x ∷ xs) at = All-cons P x xs (at zero x refl) (all_from_places P xs (λ k y is. at (suc k) y is))

-- a place within a list has an item
pub stands_at : {A : Type 0} (xs : List A) (k : ℕ) → k < length xs → (x : A) × (slice_get xs k ≡ Some x)
stands_at [] k within = absurd (omega (arith, within))
stands_at (x ∷ xs) zero within = (x, refl)
stands_at (x ∷ xs) (suc k) within = stands_at xs k (omega (arith, within))

module _ {A B : Type 0} (R : A → B → Type 0) where
  -- lists side by side are as long
  pub zip_length : (xs : List A) (ys : List B) → AllZip R xs ys → length xs ≡ length ys
  zip_length [] [] both = refl
  zip_length [] (y ∷ ys) both = absurd both
  zip_length (x ∷ xs) [] both = absurd both
  zip_length (x ∷ xs) (y ∷ ys) both = ap suc (zip_length xs ys both.1)

  -- the item of the second list beside one of the first, and the other way round
  pub zip_at : (xs : List A) (ys : List B) (k : ℕ) (x : A) → AllZip R xs ys → slice_get xs k ≡ Some x → (y : B) × (slice_get ys k ≡ Some y) × R x y
  zip_at [] ys k x both is = absurd (none-some x is)
  zip_at (a ∷ xs) [] k x both is = absurd both
  zip_at (a ∷ xs) (y ∷ ys) zero x both is = (y, refl, subst (λ z. R z y) (same_Some a x is) both.0)
  zip_at (a ∷ xs) (y ∷ ys) (suc k) x both is = zip_at xs ys k x both.1 is

  pub zip_back : (xs : List A) (ys : List B) (k : ℕ) (y : B) → AllZip R xs ys → slice_get ys k ≡ Some y → (x : A) × (slice_get xs k ≡ Some x) × R x y
  zip_back xs [] k y both is = absurd (none-some y is)
  zip_back [] (b ∷ ys) k y both is = absurd both
  zip_back (x ∷ xs) (b ∷ ys) zero y both is = (x, refl, subst (λ z. R x z) (same_Some b y is) both.0)
  zip_back (x ∷ xs) (b ∷ ys) (suc k) y both is = zip_back xs ys k y both.1 is

  -- what holds of the first list's items gives what holds of the second's
  pub zip_all : (P : A → Type 0) (Q : B → Type 0) (xs : List A) (ys : List B) → ((x : A) (y : B) → R x y → P x → Q y) → AllZip R xs ys → All P xs → All Q ys
  zip_all P Q xs ys gives both all = all_from_places Q ys (λ k y is. let beside = zip_back xs ys k y both is in gives beside.0 y beside.2 (all_at P xs k beside.0 all beside.1))

  -- what is made of them alike is the same
  pub zip_map : {C : Type 0} (f : A → C) (g : B → C) → ((x : A) (y : B) → R x y → f x ≡ g y) → (xs : List A) (ys : List B) → AllZip R xs ys → map f xs ≡ map g ys
  zip_map f g alike [] [] both = refl
  zip_map f g alike [] (y ∷ ys) both = absurd both
  zip_map f g alike (x ∷ xs) [] both = absurd both
  zip_map f g alike (x ∷ xs) (y ∷ ys) both = ap (λ c. c ∷ map f xs) (alike x y both.0) ∙ ap (λ cs. g y ∷ cs) (zip_map f g alike xs ys both.1)

  -- and as many pass tests that are alike
  pub zip_count : (p : A → Bool) (q : B → Bool) → ((x : A) (y : B) → R x y → p x ≡ q y) → (xs : List A) (ys : List B) → AllZip R xs ys → count_by p xs ≡ count_by q ys
  zip_count p q alike [] [] both = refl
  zip_count p q alike [] (y ∷ ys) both = absurd both
  zip_count p q alike (x ∷ xs) [] both = absurd both
  zip_count p q alike (x ∷ xs) (y ∷ ys) both =
      let first : counts (p x) ≡ counts (q y) = ap counts (alike x y both.0) in
      omega (arith, first, zip_count p q alike xs ys both.1, count_cons p x xs, count_cons q y ys)

-- Which ids are in the batches that were given.
use Rattle.std.proofs.Common.{ℕ, zero, suc, ◌+◌, ◌-◌, ◌*◌, ◌/◌, ◌≡◌, refl, sym, ◌∙◌, ap, arith, Bool, true, false, eqb, ltb, ◌&&◌, ◌||◌, Option, Some, None, List, [], ◌∷◌, ◌++◌, length, reverse, slice_get}
use Rattle.std.proofs.lemmas.Bool.Decides.{nat_tests}
use Rattle.std.proofs.lemmas.List.{length-reverse, reverse-append, reverse-reverse}
use Rattle.std.specs.List.{list_any}
use Rattle.dso_law.specs.ServerReadings.{is_in_batch}
use Rattle.dso_server.specs.Batches.{batches_to}

-- as many batches as owners
pub length_to : (owners : List ℕ) → length (batches_to owners) ≡ length owners
length_to [] = refl
length_to (c ∷ owners) = ap suc (length_to owners)

-- an id is in the batch of its place
in_batch : (c k n : ℕ) → is_in_batch (n + 1) (record { client = c; first = 1 + 256 * k }) ≡ eqb (n / 256) k
in_batch c k n = grind (arith, nat_tests)

-- object 0 is in none
none_in_batch : (c k : ℕ) → is_in_batch 0 (record { client = c; first = 1 + 256 * k }) ≡ false
none_in_batch c k = grind (arith, nat_tests)

one_more : (q k : ℕ) → (eqb q k || ltb q k) ≡ ltb q (suc k)
one_more q k = grind (arith, nat_tests)

pub none_given : (owners : List ℕ) → list_any (is_in_batch 0) (batches_to owners) ≡ false
none_given [] = refl
none_given (c ∷ owners) = ap (λ b. b || list_any (is_in_batch 0) (batches_to owners)) (none_in_batch c (length owners)) ∙ none_given owners

pub given_before : (owners : List ℕ) (n : ℕ) → list_any (is_in_batch (n + 1)) (batches_to owners) ≡ ltb (n / 256) (length owners)
given_before [] n = grind (arith, nat_tests)
given_before (c ∷ owners) n = ap (λ b. b || list_any (is_in_batch (n + 1)) (batches_to owners)) (in_batch c (length owners) n) ∙ (ap (λ b. eqb (n / 256) (length owners) || b) (given_before owners n) ∙ one_more (n / 256) (length owners))

-- whether the owner that is there is the client
abbrev pub is_owner : ℕ → Option ℕ → Bool
is_owner c None = false
is_owner c (Some d) = eqb d c

-- tests of numbers behind others
suc_zero : (q : ℕ) → eqb (suc q) zero ≡ false
suc_zero q = grind (arith, nat_tests)

zero_suc : (n : ℕ) → eqb zero (suc n) ≡ false
zero_suc n = grind (arith, nat_tests)

suc_suc : (q n : ℕ) → eqb (suc q) (suc n) ≡ eqb q n
suc_suc q n = grind (arith, nat_tests)

-- the owner at a place of a list with one more at its end
owner_pushed : (c d : ℕ) (xs : List ℕ) (q : ℕ) → is_owner c (slice_get (xs ++ d ∷ []) q) ≡ ((eqb d c && eqb q (length xs)) || is_owner c (slice_get xs q))
owner_pushed c d [] zero = by (eqb d c)
  where
    by : (b : Bool) → b ≡ ((b && true) || false)
    by true = refl
    by false = refl
owner_pushed c d [] (suc q) = by (eqb d c) ∙ ap (λ t. (eqb d c && t) || false) (sym (suc_zero q))
  where
    by : (b : Bool) → false ≡ ((b && false) || false)
    by true = refl
    by false = refl
owner_pushed c d (x ∷ xs) zero = by (eqb d c) (eqb x c) ∙ ap (λ t. (eqb d c && t) || eqb x c) (sym (zero_suc (length xs)))
  where
    by : (b t : Bool) → t ≡ ((b && false) || t)
    by true t = refl
    by false t = refl
owner_pushed c d (x ∷ xs) (suc q) = owner_pushed c d xs q ∙ ap (λ t. (eqb d c && t) || is_owner c (slice_get xs q)) (sym (suc_suc q (length xs)))

pub owner_given : (c n : ℕ) (owners : List ℕ) → list_any (λ batch. eqb batch.client c && is_in_batch (n + 1) batch) (batches_to owners) ≡ is_owner c (slice_get (reverse owners) (n / 256))
owner_given c n [] = refl
owner_given c n (d ∷ owners) = ap (λ b. (eqb d c && b) || list_any (λ batch. eqb batch.client c && is_in_batch (n + 1) batch) (batches_to owners)) (in_batch d (length owners) n)
    ∙ (ap (λ b. (eqb d c && eqb (n / 256) (length owners)) || b) (owner_given c n owners)
    ∙ (ap (λ k. (eqb d c && eqb (n / 256) k) || is_owner c (slice_get (reverse owners) (n / 256))) (sym (length-reverse owners))
    ∙ (sym (owner_pushed c d (reverse owners) (n / 256)) ∙ ap (λ xs. is_owner c (slice_get xs (n / 256))) (sym (reverse-append (d ∷ []) owners)))))

pub none_owned : (c : ℕ) (owners : List ℕ) → list_any (λ batch. eqb batch.client c && is_in_batch 0 batch) (batches_to owners) ≡ false
none_owned c [] = refl
none_owned c (d ∷ owners) = ap (λ b. (eqb d c && b) || list_any (λ batch. eqb batch.client c && is_in_batch 0 batch) (batches_to owners)) (none_in_batch d (length owners)) ∙ (by (eqb d c) (list_any (λ batch. eqb batch.client c && is_in_batch 0 batch) (batches_to owners)) ∙ none_owned c owners)
  where
    by : (b t : Bool) → ((b && false) || t) ≡ t
    by true t = refl
    by false t = refl

-- an id that isn't 0 is the one behind the one before it
behind : (object : ℕ) → (object ≡ 0 → ⊥) → (object - 1) + 1 ≡ object
behind object some = omega arith

pub given_is : (object count : ℕ) (owners : List ℕ) → (object ≡ 0 → ⊥) → count ≡ length owners → ltb ((object - 1) / 256) count ≡ list_any (is_in_batch object) (batches_to owners)
given_is object count owners some same = ap (ltb ((object - 1) / 256)) same ∙ (sym (given_before owners (object - 1)) ∙ ap (λ o. list_any (is_in_batch o) (batches_to owners)) (behind object some))

pub owner_is : (c object : ℕ) (owners items : List ℕ) (found : Option ℕ) → (object ≡ 0 → ⊥) → reverse items ≡ owners → found ≡ slice_get items ((object - 1) / 256)
    → is_owner c found ≡ list_any (λ batch. eqb batch.client c && is_in_batch object batch) (batches_to owners)
owner_is c object owners items found some same is = ap (is_owner c) (is ∙ ap (λ xs. slice_get xs ((object - 1) / 256)) (sym (reverse-reverse items) ∙ ap reverse same))
    ∙ (sym (owner_given c (object - 1) owners) ∙ ap (λ o. list_any (λ batch. eqb batch.client c && is_in_batch o batch) (batches_to owners)) (behind object some))

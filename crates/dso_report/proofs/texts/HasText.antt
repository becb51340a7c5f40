-- Where a text is there: where each of its parts is.
use Rattle.std.proofs.Common.{◌≡◌, ℕ, zero, suc, ◌<◌, ◌++◌, Option, Some, None, option_map, List, [], ◌∷◌, length, get_or, slice_get, inl, inr, refl, sym, subst, ap, ◌∙◌, arith, All}
use Rattle.std.specs.Fmt.{◌++?◌}
use Rattle.std.proofs.lemmas.Bool.{cases_lt}
use Rattle.std.proofs.lemmas.List.Elements.{All-cons, All-head, All-nil, All-tail}
use Rattle.std.proofs.lemmas.Option.{none-some, slice_get-get_or}
use Rattle.dso_report.specs.Texts.{each_below, each_of}

-- the text is there
pub record HasText (text : Option (List ℕ)) : Type 0 where
  pub bytes : List ℕ
  pub is : text ≡ Some bytes

-- bytes are a text
pub given : {bytes : List ℕ} → HasText (Some bytes)
given {bytes} = record { bytes = bytes; is = refl }

-- a text that is there is not missing
pub not_missing : (text : Option (List ℕ)) → HasText text → text ≡ None → ⊥
not_missing text there missing = none-some there.bytes (sym missing ∙ there.is)

-- two texts, one after the other
pub both : (a b : Option (List ℕ)) → HasText a → HasText b → HasText (a ++? b)
both a b one other = record {
  bytes = one.bytes ++ other.bytes;
  is = ap (λ text. text ++? b) one.is ∙ ap (λ text. Some one.bytes ++? text) other.is;
}

-- a text that stands behind bytes
pub behind : (bytes : List ℕ) (text : Option (List ℕ)) → HasText text → HasText (Some bytes ++? text)
behind bytes text there = both (Some bytes) text given there

-- the text that is written of what was found
pub of_found : {A : Type 0} (text : A → List ℕ) (found : Option A) (x : A) → found ≡ Some x → HasText (option_map text found)
of_found text found x is = record { bytes = text x; is = ap (option_map text) is }

-- the text that is written of an item at a place within the list
pub item_there : {A : Type 0} (text : A → List ℕ) (xs : List A) (i : ℕ) → i < length xs → HasText (option_map text (slice_get xs i))
item_there text [] i within = absurd (omega (arith, within))
item_there text (x ∷ xs) zero within = given
item_there text (x ∷ xs) (suc i) within = item_there text xs i (omega (arith, within))

-- a word at a place within the list
pub word_there : (words : List (List ℕ)) (i : ℕ) → i < length words → HasText (slice_get words i)
word_there words i within = record { bytes = get_or words i []; is = slice_get-get_or words i [] within }

-- the texts of all numbers below n
pub all_below : (text : ℕ → Option (List ℕ)) (n : ℕ) → ((i : ℕ) → i < n → HasText (text i)) → HasText (each_below text n)
all_below text zero each = given
all_below text (suc n) each = both (each_below text n) (text n) (all_below text n (λ i below. each i (omega (arith, below)))) (each n (omega arith))

-- the texts of all items
pub all_of : {A : Type 0} (text : A → Option (List ℕ)) (xs : List A) → All (λ x. HasText (text x)) xs → HasText (each_of text xs)
all_of text [] each = given
all_of text (x ∷ xs) each = both (text x) (each_of text xs) (All-head (λ y. HasText (text y)) x xs each) (all_of text xs (All-tail (λ y. HasText (text y)) x xs each))

-- ---- where a text is there, each of its parts is

-- the first of two texts that are there is there
pub first_there : (a b : Option (List ℕ)) → HasText (a ++? b) → HasText a
first_there None b there = absurd (none-some there.bytes there.is)
first_there (Some x) b there = given

-- the second of two texts that are there is there
pub second_there : (a b : Option (List ℕ)) → HasText (a ++? b) → HasText b
second_there None b there = absurd (none-some there.bytes there.is)
second_there (Some x) None there = absurd (none-some there.bytes there.is)
second_there (Some x) (Some y) there = given

-- a text that is written of what was found was found
pub was_found : {A : Type 0} (text : A → List ℕ) (found : Option A) → HasText (option_map text found) → found ≡ None → ⊥
was_found text None there is = none-some there.bytes there.is
was_found text (Some x) there is = absurd (cc is)

-- of the texts of all numbers below n each is there
pub below_there : (text : ℕ → Option (List ℕ)) (n i : ℕ) → i < n → HasText (each_below text n) → HasText (text i)
below_there text zero i less there = absurd (omega (arith, less))
below_there text (suc n) i less there = elim (cases_lt i n) [
  | inl before ↦ below_there text n i before (first_there (each_below text n) (text n) there)
  | inr past ↦
      let last : n ≡ i = omega (arith, less, past) in
      subst (λ k. HasText (text k)) last (second_there (each_below text n) (text n) there)
]

-- of the texts of all items each is there
pub each_there : {A : Type 0} (text : A → Option (List ℕ)) (xs : List A) → HasText (each_of text xs) → All (λ x. HasText (text x)) xs
each_there text [] there = All-nil (λ x. HasText (text x))
each_there text (x ∷ xs) there =
    All-cons (λ y. HasText (text y)) x xs (first_there (text x) (each_of text xs) there) (each_there text xs (second_there (text x) (each_of text xs) there))

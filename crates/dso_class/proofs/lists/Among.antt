-- Which words are among others, and the numbers that they keep.
use Rattle.std.proofs.Common.{◌≡◌, ◌↔◌, inl, inr, ℕ, zero, suc, ◌+◌, ◌<◌, true, List, [], ◌∷◌, ◌++◌, reverse, take, get_or, length, map, Contains, slice_get, Option, Some, None, IsNone, refl, sym, subst, ap, ◌∙◌}
use Rattle.std.specs.Borrow.{Bor}
use Rattle.std.specs.declared.cmp.Ordering.TheVariants.{Equal}
use Rattle.std.specs.Ordering.{is_eq, nat_cmp}
use Rattle.std.specs.Cmp.{tied_itself}
use Rattle.std.specs.Cmp.Lexicographic.{slice_cmp, nat_list_cmp_total}
use Rattle.std.specs.BTreeMap.{is_at}
use Rattle.std.proofs.lemmas.List.{map-append, get_or-map, length-map, reverse-append, reverse-reverse}
use Rattle.std.proofs.lemmas.List.Elements.{Contains-push_cases, Contains-append_left, Contains-append_right, Contains-append_cases}
use Rattle.std.proofs.lemmas.Map.Lookups.{exact_bytes}
use Rattle.dso_config_entries.specs.Words.{Word}
use Rattle.dso_config_entries.specs.BorrowedWords.{words_of}
use Rattle.dso_config_entries.specs.FirstPlace.{place_of}
use Rattle.dso_class.specs.BodyWalk.{Begins}
use Rattle.dso_config_entries.proofs.lists.Last.{taken}
use Rattle.dso_config_entries.proofs.lists.Places as places

-- a word that stands in a list is one of its words
pub among : (words : List (Bor Word)) (i : ℕ) (one : Bor Word) (word : Word) → i < length words → one ≡ get_or words i one → one.now ≡ word → Contains (words_of words) word
among words i one word below is same =
    (i, simp length-map below, get_or-map (λ w. w.now) words i one word below ∙ ap (λ w. w.now) (sym is) ∙ same)

-- a word that is not among the first of a list, and not the next, is not among those and the next
pub more : (words : List (Bor Word)) (i : ℕ) (next : Bor Word) (word : Word) → i < length words → next ≡ get_or words i next → (next.now ≡ word → ⊥) → (Contains (words_of (take i words)) word → ⊥)
    → Contains (words_of (take (i + 1) words)) word → ⊥
more words i next word below is differs none there =
    let front : words_of (take (i + 1) words) ≡ words_of (take i words) ++ next.now ∷ [] = ap words_of (taken words i next below is) ∙ map-append (λ w. w.now) (take i words) (next ∷ []) in
    elim (Contains-push_cases (words_of (take i words)) next.now word (subst (λ all. Contains all word) front there)) [
      | inl before ↦ none before
      | inr same ↦ differs same
    ]

-- what is in a list is in the reversed list, and the other way round
pub in_reverse : (words : List Word) (word : Word) → Contains words word → Contains (reverse words) word
in_reverse [] word there = there
in_reverse (first ∷ rest) word there =
    subst (λ all. Contains all word) (sym (reverse-append (first ∷ []) rest))
    (elim (Contains-append_cases (first ∷ []) rest word there) [
      | inl one ↦ Contains-append_right (reverse rest) (first ∷ []) word one
      | inr behind ↦ Contains-append_left (reverse rest) (first ∷ []) word (in_reverse rest word behind)
    ])

pub of_reverse : (words : List Word) (word : Word) → Contains (reverse words) word → Contains words word
of_reverse words word there = subst (λ all. Contains all word) (reverse-reverse words) (in_reverse (reverse words) word there)

-- a word that cannot be missing is there
same_word : (x y : Word) → slice_cmp nat_cmp x y ≡ Equal → y ≡ x
same_word x y e = sym (exact_bytes x y e)

tied_word : (x y : Word) → y ≡ x → is_at (slice_cmp nat_cmp x) y ≡ true
tied_word x y e = subst (λ bytes. is_eq (slice_cmp nat_cmp x bytes) ≡ true) (sym e) (ap is_eq (tied_itself nat_list_cmp_total x))

same_words : (words : List Word) → map (λ word. word) words ≡ words
same_words [] = refl
same_words (first ∷ rest) = ap (λ all. first ∷ all) (same_words rest)

pub stable : (words : List Word) (word : Word) → ((Contains words word → ⊥) → ⊥) → Contains words word
stable words word there = by (place_of (slice_cmp nat_cmp) words word) refl
  where
    by : (place : Option ℕ) → place_of (slice_cmp nat_cmp) words word ≡ place → Contains words word
    by None e = absurd (there (subst (λ all. Contains all word → ⊥) (same_words words) (places.is_absent (slice_cmp nat_cmp) (λ w. w) tied_word word words e)))
    by (Some n) e = places.stands_there words word n (subst (λ all. slice_get all n ≡ Some word) (same_words words) (places.is_number (slice_cmp nat_cmp) (λ w. w) same_word word words n e))

-- what was found cannot be missing
pub not_none : {A P : Type 0} (found : A) → (IsNone (Some found) ↔ (P → ⊥)) → (P → ⊥) → ⊥
not_none found tells missing = cc (tells.1 missing)

-- a number stays in a longer list
pub stays : {A : Type 0} (xs rest : List A) (x : A) (i : ℕ) → slice_get xs i ≡ Some x → slice_get (xs ++ rest) i ≡ Some x
stays [] rest x i is = cc is
stays (first ∷ xs) rest x zero is = is
stays (first ∷ xs) rest x (suc i) is = stays xs rest x i is

pub number_stays : {A : Type 0} {xs ys : List A} (x : A) (i : ℕ) → Begins xs ys → slice_get xs i ≡ Some x → slice_get ys i ≡ Some x
number_stays {xs = xs} x i begins is = subst (λ all. slice_get all i ≡ Some x) (sym begins.is) (stays xs begins.rest x i is)

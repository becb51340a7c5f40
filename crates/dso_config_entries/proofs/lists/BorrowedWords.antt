-- Words that are borrowed, and the numbers that they have.
use Rattle.std.proofs.Common.{ℕ, ◌≡◌, ◌↔◌, sym, ◌∙◌, ap, subst, Bool, true, Option, Some, None, List, [], ◌∷◌, ◌++◌, map, length, take, get_or, ◌+◌, ◌<◌, ◌≤◌, append_assoc, append-nil, Contains, slice_get, IsTrue, if◌then◌else◌, IfSome, IsNone, IfOk, OnOk, Result}
use Rattle.std.specs.Borrow.{Bor}
use Rattle.std.specs.declared.cmp.Ordering.{Ordering}
use Rattle.std.specs.declared.cmp.Ordering.TheVariants.{Equal}
use Rattle.std.specs.Ordering.{is_eq, nat_cmp}
use Rattle.std.specs.Cmp.{tied_itself}
use Rattle.std.specs.Cmp.Lexicographic.{slice_cmp, nat_list_cmp_total}
use Rattle.std.specs.BTreeMap.{is_at}
use Rattle.std.proofs.lemmas.List.{map-append, take_all}
use Rattle.dso_config_entries.proofs.lists.Last.{taken}
use Rattle.std.proofs.lemmas.Map.Lookups.{exact_bytes}
use Rattle.dso_config_entries.specs.BorrowedWords.{words_of}
use Rattle.dso_config_entries.specs.LastAndFirst.{AreFirsts}
use Rattle.dso_config_entries.specs.FirstPlace.{place_of}
use Rattle.dso_config_entries.specs.Words.{Word}
use Rattle.dso_config_entries.proofs.lists.Keyed as keyed

-- the order of borrowed words
abbrev pub by_bytes : Bor Word → Bor Word → Ordering
by_bytes x y = slice_cmp nat_cmp x.now y.now

-- words that compare equal are the same
pub same_word : (x y : Bor Word) → by_bytes x y ≡ Equal → y.now ≡ x.now
same_word x y e = sym (exact_bytes x.now y.now e)

-- the same words compare equal
pub tied_word : (x y : Bor Word) → y.now ≡ x.now → is_at (by_bytes x) y ≡ true
tied_word x y e = subst (λ bytes. is_eq (slice_cmp nat_cmp x.now bytes) ≡ true) (sym e) (ap is_eq (tied_itself nat_list_cmp_total x.now))

-- words behind others: of no item yet, of one item more, of all items
pub none_yet : {A : Type 0} (before : List Word) (f : A → Word) (xs : List A) {names : List Word} → AreFirsts before names → AreFirsts (before ++ map f (take 0 xs)) names
none_yet before f xs {names} firsts = subst (λ all. AreFirsts all names) (sym (append-nil before)) firsts

pub grown : {A : Type 0} (before : List Word) (f : A → Word) (xs : List A) (i : ℕ) (x : A) (word : Word) {names : List Word} → i < length xs → x ≡ get_or xs i x → word ≡ f x
    → AreFirsts ((before ++ map f (take i xs)) ++ word ∷ []) names → AreFirsts (before ++ map f (take (i + 1) xs)) names
grown before f xs i x word {names} below is spelt firsts =
    let front : map f (take (i + 1) xs) ≡ map f (take i xs) ++ f x ∷ [] = ap (map f) (taken xs i x below is) ∙ map-append f (take i xs) (x ∷ []) in
    subst (λ all. AreFirsts all names) (ap (λ w. (before ++ map f (take i xs)) ++ w ∷ []) spelt ∙ append_assoc before (map f (take i xs)) (f x ∷ []) ∙ ap (λ rest. before ++ rest) (sym front)) firsts

pub all_now : {A : Type 0} (before : List Word) (f : A → Word) (xs : List A) (i : ℕ) {names : List Word} → length xs ≤ i
    → AreFirsts (before ++ map f (take i xs)) names → AreFirsts (before ++ map f xs) names
all_now before f xs i {names} all firsts = subst (λ front. AreFirsts (before ++ map f front) names) (take_all i xs all) firsts

-- what a call says that puts a word behind the others: the first ones stay so, and whether the word is new
pub firsts_where : {E : Type 0} (result : Result Bool E) (all : List Word) (old new : List (Bor Word)) (word : Bor Word) → AreFirsts all (words_of old)
    → IfOk result (λ is_fresh. IsTrue is_fresh ↔ (place_of by_bytes old word ≡ None)) → IfOk result (λ is_fresh. new ≡ (if is_fresh then old ++ word ∷ [] else old))
    → OnOk result (AreFirsts (all ++ word.now ∷ []) (words_of new))
firsts_where = keyed.firsts_where by_bytes (λ word. word.now) same_word tied_word

pub fresh_where : {E : Type 0} (result : Result Bool E) (old : List (Bor Word)) (word : Bor Word) → IfOk result (λ is_fresh. IsTrue is_fresh ↔ (place_of by_bytes old word ≡ None))
    → IfOk result (λ is_fresh. IsTrue is_fresh ↔ (Contains (words_of old) word.now → ⊥))
fresh_where = keyed.fresh_where by_bytes (λ word. word.now) same_word tied_word

-- the number that is found, and that none is
pub found_where : (place : Option ℕ) (words : List (Bor Word)) (word : Bor Word) → place ≡ place_of by_bytes words word → IfSome place (λ n. slice_get (words_of words) n ≡ Some word.now)
found_where = keyed.found_where by_bytes (λ word. word.now) same_word tied_word

pub none_where : (place : Option ℕ) (words : List (Bor Word)) (word : Bor Word) → place ≡ place_of by_bytes words word → IsNone place ↔ (Contains (words_of words) word.now → ⊥)
none_where = keyed.none_where by_bytes (λ word. word.now) same_word tied_word

-- The fields and methods of a name, as its row has them.
use Rattle.std.proofs.Common.{ℕ, ◌≡◌, ◌≢◌, ◌↔◌, ◌<◌, ◌≤◌, ◌^◌, arith, refl, sym, ◌∙◌, ap, subst, Bool, true, List, [], ◌∷◌, map, length, All, AllPairs, Contains, IsTrue}
use Rattle.std.specs.Ordering.{is_eq, nat_cmp}
use Rattle.std.specs.Cmp.{tied_itself}
use Rattle.std.specs.Cmp.Lexicographic.{slice_cmp, nat_list_cmp_total}
use Rattle.std.proofs.lemmas.Map.Lookups.{exact_bytes}
use Rattle.std.proofs.lemmas.Option.{slice_get_within}
use Rattle.std.proofs.lemmas.List.Elements.{All-contains, All-head, All-tail}
use Rattle.std.specs.Str.{bytes_eq}
use Rattle.std.proofs.lemmas.Slice.Eq.{bytes_eq-Decides}
use Rattle.dso_config_entries.specs.Words.{Word, length_word}
use Rattle.dso_class.specs.Declarations.{MethodTree}
use Rattle.dso_class.specs.declared.gathered_methods.Declared.{Declared}
use Rattle.dso_class.specs.Gathered.{is_name, place_at, places_in, places_of, declared_at, declared_of, capped, capped_pair}
use Rattle.dso_class.specs.Numbers.{IsNumber, HasField, AreThePairs}
use Rattle.dso_class.proofs.lists.NumberedItems.{made_of, each_there, each_pairs, only_true, only_same, only_there, only_pairs, all_there}
use Rattle.dso_config_entries.proofs.lists.Places.{equal_is, stands_there}

-- names that are one, and a name and itself
pub same_name : (word name : Word) → is_name word name ≡ true → word ≡ name
same_name word name e = exact_bytes word name (equal_is (slice_cmp nat_cmp word name) e)

pub own_name : (word name : Word) → word ≡ name → is_name word name ≡ true
own_name word name e = subst (λ other. is_name word other ≡ true) e (ap is_eq (tied_itself nat_list_cmp_total word))

-- a small number is as it is
pub capped_small : (n : ℕ) → n < 2 ^ 32 → capped n ≡ n
capped_small n small = omega arith

abbrev pub Small : ℕ × ℕ → Type 0
Small pair = (pair.0 < 2 ^ 32) × (pair.1 < 2 ^ 32)

pub capped_pairs : (pairs : List (ℕ × ℕ)) → All Small pairs → map capped_pair pairs ≡ pairs
capped_pairs [] small = refl
capped_pairs (pair ∷ pairs) small =
    let here = All-head Small pair pairs small in
    ap (λ first. first ∷ map capped_pair pairs) (ap (λ class. (class, capped pair.1)) (capped_small pair.0 here.0) ∙ ap (λ number. (pair.0, number)) (capped_small pair.1 here.1))
    ∙ ap (λ rest. pair ∷ rest) (capped_pairs pairs (All-tail Small pair pairs small))

-- the place of a field is one of the name
pub place_tells : (fields : List (List Word)) (name : Word) (class number : ℕ) → Contains (places_of fields name) (class, number) → HasField fields name class number
place_tells fields name class number there =
    let found = made_of (places_in name) fields (class, number) there in
    let field = made_of (place_at name found.place) found.item (class, number) found.made in
    let value : (found.place, field.place) ≡ (class, number) = only_same (is_name field.item name) (found.place, field.place) (class, number) field.made in
    let spelt = same_name field.item name (only_true (is_name field.item name) (found.place, field.place) (class, number) field.made) in
    record {
      row = found.item;
      of_class = subst (λ n. IsNumber fields found.item n) (ap (λ pair. pair.0) value) found.stands;
      of_field = subst (λ n. IsNumber found.item name n) (ap (λ pair. pair.1) value) (subst (λ word. IsNumber found.item word field.place) spelt field.stands);
    }

-- each field of the name has its place
pub place_there : (fields : List (List Word)) (name : Word) (class number : ℕ) → HasField fields name class number → Contains (places_of fields name) (class, number)
place_there fields name class number has =
    each_there (places_in name) 0 fields class has.row (class, number) has.of_class class (omega arith)
    (each_there (place_at name class) 0 has.row number name (class, number) has.of_field number (omega arith)
    (only_there (is_name name name) (class, number) (own_name name name refl)))

-- a class whose fields differ has one place of a name
pub places_in_pairs : (R : ℕ × ℕ → ℕ × ℕ → Type 0) (name : Word) (class : ℕ) (fields : List Word) → AllPairs (λ field other. field ≢ other) fields → AllPairs R (places_in name class fields)
places_in_pairs R name class fields differ =
    each_pairs (place_at name class) R (λ field. Unit {0}) (λ field other. field ≢ other)
    (λ n field _. only_pairs R (is_name field name) (class, n))
    (λ n m field other before apart y z here there.
    absurd (apart (same_name field name (only_true (is_name field name) (class, n) y here) ∙ sym (same_name other name (only_true (is_name other name) (class, m) z there)))))
    0 fields (λ k d within. tt) differ

-- the places of a name are by rising class
pub places_rise : (fields : List (List Word)) (name : Word) → All (AllPairs (λ field other. field ≢ other)) fields → AllPairs (λ pair other. pair.0 < other.0) (places_of fields name)
places_rise fields name differ =
    each_pairs (places_in name) (λ pair other. pair.0 < other.0) (AllPairs (λ field other. field ≢ other)) (λ row other. Unit {0})
    (λ n row apart. places_in_pairs (λ pair other. pair.0 < other.0) name n row apart)
    (λ n m row other before _ y z here there.
    let first : n ≡ y.0 = of_class n row y here in
    let second : m ≡ z.0 = of_class m other z there in
    omega arith)
    0 fields differ (λ i j d before within. tt)
  where
    of_class : (n : ℕ) (row : List Word) (pair : ℕ × ℕ) → Contains (places_in name n row) pair → n ≡ pair.0
    of_class n row pair there =
        let found = made_of (place_at name n) row pair there in
        ap (λ p. p.0) (only_same (is_name found.item name) (n, found.place) pair found.made)

-- the places of a name, where there are few classes and few fields in each
pub are_the_places : (fields : List (List Word)) (name : Word) (pairs : List (ℕ × ℕ)) → All (AllPairs (λ field other. field ≢ other)) fields → length fields ≤ 2 ^ 32 → All (λ row. length row ≤ 2 ^ 32) fields
    → pairs ≡ map capped_pair (places_of fields name) → AreThePairs (HasField fields name) pairs
are_the_places fields name pairs differ few each_few is =
    subst (AreThePairs (HasField fields name)) (sym (is ∙ capped_pairs (places_of fields name) (all_there Small (places_of fields name) small)))
    (record { listed = λ a b. (place_tells fields name a b, place_there fields name a b); rising = places_rise fields name differ })
  where
    small : (pair : ℕ × ℕ) → Contains (places_of fields name) pair → Small pair
    small pair there =
        let has = place_tells fields name pair.0 pair.1 there in
        let within = slice_get_within fields pair.0 has.row has.of_class in
        let inside = slice_get_within has.row pair.1 name has.of_field in
        let few_here : length has.row ≤ 2 ^ 32 = All-contains (λ row. length row ≤ 2 ^ 32) fields has.row each_few (stands_there fields has.row pair.0 has.of_class) in
        (omega arith, omega arith)

-- a method of a row, by its place in the text
pub record IsDeclared (methods : List MethodTree) (name : Word) (declared : Declared) : Type 0 where
  pub method : MethodTree
  pub place : ℕ
  pub stands : IsNumber methods method place
  pub named : method.name ≡ name
  pub of_class : declared.class ≡ capped method.number
  pub of_number : declared.number ≡ capped place
  pub takes : length method.params ≡ declared.params

-- a method of a row is one of the name
pub declared_tells : (methods : List MethodTree) (name : Word) (declared : Declared) → Contains (declared_of methods name) declared → IsDeclared methods name declared
declared_tells methods name declared there =
    let found = made_of (declared_at name) methods declared there in
    let made : Declared = record { class = capped found.item.number; number = capped found.place; params = length found.item.params } in
    let value : made ≡ declared = only_same (is_name found.item.name name) made declared found.made in
    record {
      method = found.item;
      place = found.place;
      stands = found.stands;
      named = same_name found.item.name name (only_true (is_name found.item.name name) made declared found.made);
      of_class = sym (ap (λ d. d.class) value);
      of_number = sym (ap (λ d. d.number) value);
      takes = ap (λ d. d.params) value;
    }

-- each method of the name is in its row
pub declared_there : (methods : List MethodTree) (name : Word) (number : ℕ) (method : MethodTree) → IsNumber methods method number → method.name ≡ name
    → Contains (declared_of methods name) (record { class = capped method.number; number = capped number; params = length method.params })
declared_there methods name number method stands named =
    let declared : Declared = record { class = capped method.number; number = capped number; params = length method.params } in
    each_there (declared_at name) 0 methods number method declared stands number (omega arith) (only_there (is_name method.name name) declared (own_name method.name name named))

-- the name is that of an array's size
pub is_length : (name slice : Word) (tells : Bool) → tells ≡ bytes_eq name slice → slice ≡ length_word → IsTrue tells ↔ (name ≡ length_word)
is_length name slice tells is spelt =
    (λ same. (bytes_eq-Decides name slice).0 (sym is ∙ same) ∙ spelt, λ same. is ∙ (bytes_eq-Decides name slice).1 (same ∙ sym spelt))

-- Rows by name, as one more value is put into one of them.
use Rattle.std.proofs.Common.{ℕ, ◌≡◌, ◌+◌, arith, refl, sym, ◌∙◌, ap, Bool, true, false, List, [], ◌∷◌, ◌++◌, length, append_assoc, append-nil}
use Rattle.std.proofs.lemmas.List.{length-append}
use Rattle.std.specs.Borrow.{Bor}
use Rattle.std.specs.BTreeMap.{BTreeMap, is_at}
use Rattle.dso_config_entries.specs.Words.{Word}
use Rattle.dso_class.specs.Declarations.{MethodTree}
use Rattle.dso_class.specs.declared.gathered_methods.Declared.{Declared}
use Rattle.dso_class.specs.Gathered.{by_name, is_name, only, capped, place_at, places_in, places_of, declared_at, declared_of, AreFieldRows, AreMethodRows}
use Rattle.dso_class.specs.Multimap.{row_of, longer}
use Rattle.dso_class.proofs.lists.NumberedItems.{each_push}

-- a row that is longer where a test holds
pub longer_only : {V : Type 0} (test : Bool) (row : List V) (value : V) → longer test row value ≡ row ++ only test value
longer_only true row value = refl
longer_only false row value = sym (append-nil row)

-- The rows of the fields of the classes before, and of fields of one more class.
pub record AreWithFields (before : List (List Word)) (class : ℕ) (fields : List Word) (rows : BTreeMap (Bor Word) (List (ℕ × ℕ))) : Type 0 where
  pub places : (name : Bor Word) → row_of by_name rows name ≡ places_of before name.now ++ places_in name.now class fields

-- one more of its fields
pub with_field : (before : List (List Word)) (class : ℕ) (fields : List Word) (old new : BTreeMap (Bor Word) (List (ℕ × ℕ))) (field : Bor Word) (number : ℕ) → number ≡ length fields
    → AreWithFields before class fields old → ((other : Bor Word) → row_of by_name new other ≡ longer (is_at (by_name field) other) (row_of by_name old other) (class, number))
    → AreWithFields before class (fields ++ field.now ∷ []) new
with_field before class fields old new field number counts are puts = record {
  places = λ name.
      let value = only (is_name field.now name.now) (class, number) in
      puts name ∙ longer_only (is_name field.now name.now) (row_of by_name old name) (class, number)
      ∙ ap (λ row. row ++ value) (are.places name)
      ∙ append_assoc (places_of before name.now) (places_in name.now class fields) value
      ∙ ap (λ rest. places_of before name.now ++ rest) (sym (each_push (place_at name.now class) 0 fields field.now number (omega arith)));
}

-- all of its fields
pub with_all_fields : (before : List (List Word)) (class : ℕ) (fields : List Word) (rows : BTreeMap (Bor Word) (List (ℕ × ℕ))) → length before ≡ class
    → AreWithFields before class fields rows → AreFieldRows (before ++ fields ∷ []) rows
with_all_fields before class fields rows counts are = record {
  places = λ name. are.places name ∙ sym (each_push (places_in name.now) 0 before fields class (omega arith));
}

-- one more method
pub with_method : (before : List MethodTree) (old new : BTreeMap (Bor Word) (List Declared)) (method : MethodTree) (name : Bor Word) (class number count : ℕ) → name.now ≡ method.name
    → class ≡ capped method.number → number ≡ capped (length before) → count ≡ length method.params → AreMethodRows before old
    → ((other : Bor Word) → row_of by_name new other ≡ longer (is_at (by_name name) other) (row_of by_name old other) (record { class = class; number = number; params = count }))
    → AreMethodRows (before ++ method ∷ []) new
with_method before old new method name class number count spelt is_class is_number takes are puts = record {
  all = λ other.
      let value : Declared = record { class = class; number = number; params = count } in
      let row = declared_of before other.now in
      let named = is_name method.name other.now in
      puts other ∙ longer_only (is_name name.now other.now) (row_of by_name old other) value
      ∙ ap (λ front. front ++ only (is_name name.now other.now) value) (are.all other)
      ∙ ap (λ word. row ++ only (is_name word other.now) value) spelt
      ∙ ap (λ n. row ++ only named (record { class = n; number = number; params = count })) is_class
      ∙ ap (λ n. row ++ only named (record { class = capped method.number; number = n; params = count })) is_number
      ∙ ap (λ n. row ++ only named (record { class = capped method.number; number = capped (length before); params = n })) takes
      ∙ sym (each_push (declared_at other.now) 0 before method (length before) (omega arith));
}

-- the number behind one more method
pub number_after : (before : List MethodTree) (method : MethodTree) (number after : ℕ) → number ≡ capped (length before) → after ≡ capped (number + 1) → after ≡ capped (length (before ++ method ∷ []))
number_after before method number after so_far one = omega (arith, so_far, one, length-append before (method ∷ []))

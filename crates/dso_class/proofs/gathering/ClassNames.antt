-- The names of the classes of a list of items that grows at its end.
use Rattle.std.proofs.Common.{◌≡◌, ℕ, ℤ, ◌+◌, ◌<◌, refl, sym, ap, ◌∙◌, List, [], ◌∷◌, ◌++◌, map, take, get_or, length, append-nil}
use Rattle.std.proofs.lemmas.List.{map-append}
use Rattle.dso_syntax.specs.declared.tree.Item.{Item}
use Rattle.dso_syntax.specs.declared.tree.Item.TheVariants as item
use Rattle.dso_syntax.specs.declared.tree.Ident.{Ident}
use Rattle.dso_syntax.specs.declared.tree.Member.{Member}
use Rattle.dso_syntax.specs.declared.tree.StmtTree.{StmtTree}
use Rattle.dso_config_entries.specs.Words.{Word}
use Rattle.dso_class.specs.Declarations.{classes_of, class_names}
use Rattle.dso_config_entries.proofs.lists.Last.{taken}

-- the classes of two lists
pub classes_append : (xs ys : List Item) → classes_of (xs ++ ys) ≡ classes_of xs ++ classes_of ys
classes_append [] ys = refl
classes_append (item.Class line name members ∷ rest) ys = ap (λ all. record { name = name.name; members = members } ∷ all) (classes_append rest ys)
classes_append (item.Thread line number number_line statements ∷ rest) ys = classes_append rest ys

-- their names
pub names_append : (xs ys : List Item) → class_names (xs ++ ys) ≡ class_names xs ++ class_names ys
names_append xs ys = ap (map (λ class. class.name)) (classes_append xs ys) ∙ map-append (λ class. class.name) (classes_of xs) (classes_of ys)

-- one more item, whose names these are
pub names_more : (xs : List Item) (i : ℕ) (x : Item) (names : List Word) → i < length xs → x ≡ get_or xs i x → class_names (x ∷ []) ≡ names
    → class_names (take (i + 1) xs) ≡ class_names (take i xs) ++ names
names_more xs i x names below is these =
    ap class_names (taken xs i x below is) ∙ names_append (take i xs) (x ∷ []) ∙ ap (λ more. class_names (take i xs) ++ more) these

-- one more class
pub class_more : (xs : List Item) (i : ℕ) (x : Item) (line : ℕ) (name : Ident) (members : List Member) (word : Word) → i < length xs → x ≡ get_or xs i x
    → x ≡ item.Class line name members → word ≡ name.name → class_names (take (i + 1) xs) ≡ class_names (take i xs) ++ word ∷ []
class_more xs i x line name members word below is same spelt = names_more xs i x (word ∷ []) below is (ap (λ y. class_names (y ∷ [])) same ∙ ap (λ w. w ∷ []) (sym spelt))

-- one more thread
pub thread_more : (xs : List Item) (i : ℕ) (x : Item) (line : ℕ) (number : ℤ) (number_line : ℕ) (statements : List StmtTree) → i < length xs → x ≡ get_or xs i x
    → x ≡ item.Thread line number number_line statements → class_names (take (i + 1) xs) ≡ class_names (take i xs)
thread_more xs i x line number number_line statements below is same =
    names_more xs i x [] below is (ap (λ y. class_names (y ∷ [])) same) ∙ append-nil (class_names (take i xs))

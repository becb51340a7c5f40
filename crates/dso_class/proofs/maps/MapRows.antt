-- The rows of methods with those of maps behind the others.
use Rattle.std.proofs.Common.{◌≡◌, ℕ, Bool, true, false, cond, codes, ap, subst, sym, refl, List, [], ◌∷◌, ◌++◌, append-nil}
use Rattle.std.specs.Borrow.{Bor}
use Rattle.std.specs.BTreeMap.{BTreeMap}
use Rattle.dso_config_entries.specs.Words.{Word}
use Rattle.dso_class.specs.declared.gathered_methods.Declared.{Declared}
use Rattle.dso_class.specs.Declarations.{MethodTree}
use Rattle.dso_class.specs.Gathered.{AreMethodRows}
use Rattle.dso_class.specs.Maps.{map_method, map_methods, map_parameter}

-- the methods of maps, one by one
abbrev pub get_of : ℕ → MethodTree
get_of number = map_method number (codes "get") (map_parameter (codes "k") ∷ [])

abbrev pub has_of : ℕ → MethodTree
has_of number = map_method number (codes "has") (map_parameter (codes "k") ∷ [])

abbrev pub size_of : ℕ → MethodTree
size_of number = map_method number (codes "size") []

abbrev pub put_of : ℕ → MethodTree
put_of number = map_method number (codes "put") (map_parameter (codes "k") ∷ map_parameter (codes "v") ∷ [])

abbrev pub remove_of : ℕ → MethodTree
remove_of number = map_method number (codes "remove") (map_parameter (codes "k") ∷ [])

-- one after the other is all of them
five : {A : Type 0} (before : List A) (a b c d e : A) → ((((before ++ a ∷ []) ++ b ∷ []) ++ c ∷ []) ++ d ∷ []) ++ e ∷ [] ≡ before ++ a ∷ b ∷ c ∷ d ∷ e ∷ []
five [] a b c d e = refl
five (x ∷ xs) a b c d e = ap (λ rest. x ∷ rest) (five xs a b c d e)

-- where none is made nothing is behind the others
pub none_there : (number : ℕ) (before : List MethodTree) (makes : Bool) (rows : BTreeMap (Bor Word) (List Declared)) → makes ≡ false → AreMethodRows before rows
    → AreMethodRows (before ++ cond makes (map_methods number) []) rows
none_there number before true rows is are = absurd (cc is)
none_there number before false rows is are = subst (λ all. AreMethodRows all rows) (sym (append-nil before)) are

-- where maps are made their methods are
pub map_rows : (number : ℕ) (before : List MethodTree) (makes : Bool) (rows : BTreeMap (Bor Word) (List Declared)) → makes ≡ true
    → AreMethodRows (((((before ++ get_of number ∷ []) ++ has_of number ∷ []) ++ size_of number ∷ []) ++ put_of number ∷ []) ++ remove_of number ∷ []) rows
    → AreMethodRows (before ++ cond makes (map_methods number) []) rows
map_rows number before makes rows is are =
    subst (λ b. AreMethodRows (before ++ cond b (map_methods number) []) rows) (sym is)
    (subst (λ all. AreMethodRows all rows) (five before (get_of number) (has_of number) (size_of number) (put_of number) (remove_of number)) are)

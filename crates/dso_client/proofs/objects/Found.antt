-- What is found behind a reference is found.
use Rattle.std.proofs.Common.{◌≡◌, refl, sym, ◌∙◌, ap, is_some, Bool, true, false, cond, ◌||◌, Option, Some, None, Bor, List, [], ◌∷◌, find}
use Rattle.std.specs.List.{list_any}
use Rattle.std.specs.Option.{option_copied}

pub copied_there : {A : Type 0} (found : Option (Bor A)) → is_some found ≡ is_some (option_copied found)
copied_there None = refl
copied_there (Some x) = refl

-- one is found where there is any
pub found_any : {A : Type 0} (test : A → Bool) (xs : List A) → is_some (find test xs) ≡ list_any test xs
found_any test [] = refl
found_any test (x ∷ xs) = by (test x) (found_any test xs)
  where
    by : (b : Bool) → is_some (find test xs) ≡ list_any test xs → is_some (cond b (Some x) (find test xs)) ≡ (b || list_any test xs)
    by true rest = refl
    by false rest = rest

-- none is found where there isn't any
pub none_any : {A : Type 0} (test : A → Bool) (xs : List A) → find test xs ≡ None → list_any test xs ≡ false
none_any test xs e = sym (found_any test xs) ∙ ap is_some e

pub one_any : {A : Type 0} (test : A → Bool) (xs : List A) (x : A) → find test xs ≡ Some x → list_any test xs ≡ true
one_any test xs x e = sym (found_any test xs) ∙ ap is_some e

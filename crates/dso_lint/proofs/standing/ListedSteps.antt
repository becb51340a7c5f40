-- The bodies of code, listed one after the other.
use Rattle.std.proofs.Common.{◌≡◌, ◌⊎◌, inl, inr, refl, ℕ, suc, ◌+◌, ◌<◌, ◌≤◌, arith, List, [], ◌∷◌, ◌++◌, length, map, take, get_or, sym, subst, ap, ◌∙◌, length-append, append_assoc}
use Rattle.std.proofs.lemmas.Bool.{cases_eq}
use Rattle.std.proofs.lemmas.List.{length-map, map-append, take_more, get_or_append_left, get_or_at, get_or-map}
use Rattle.std.proofs.lemmas.Option.{slice_get_cases, get_or_from_slice_get}
use Rattle.std.specs.Prelude.{slice_get, Some, None}
use Rattle.dso_machine.specs.declared.code.Code.{Code}
use Rattle.dso_machine.specs.declared.code.Method.{Method}
use Rattle.dso_lint.specs.declared.answer.Place.TheVariants as place
use Rattle.dso_lint.specs.declared.listed.Listed.{Listed}
use Rattle.dso_lint.specs.Listed.{IsListed, AreListed, routines, routine_of, routine_of_thread}
use Rattle.dso_lint.specs.Routines.{Routine, IsAt, of_method}

pub none_listed : AreListed [] []
none_listed = record { number = refl; each = λ p listed body low. absurd (omega (arith, low)) }

-- one more
pub one_more_listed : (bodies : List Routine) (all : List Listed) (body : Routine) (x : Listed) → AreListed bodies all → IsListed x body → AreListed (bodies ++ body ∷ []) (all ++ x ∷ [])
one_more_listed bodies all body x listed is = record {
  number = length-append all (x ∷ []) ∙ ap (λ n. n + 1) listed.number ∙ sym (length-append bodies (body ∷ []));
  each = λ p d e low. by p d e low (cases_eq p (length bodies));
}
  where
    by : (p : ℕ) (d : Listed) (e : Routine) → p < length (bodies ++ body ∷ []) → (p ≡ length bodies) ⊎ (p ≡ length bodies → ⊥) → IsListed (get_or (all ++ x ∷ []) p d) (get_or (bodies ++ body ∷ []) p e)
    by p d e low (inl same) =
        let mine : get_or (all ++ x ∷ []) p d ≡ x = get_or_at all x [] d p (listed.number ∙ sym same) in
        let its : get_or (bodies ++ body ∷ []) p e ≡ body = get_or_at bodies body [] e p (sym same) in
        subst (λ l. IsListed l (get_or (bodies ++ body ∷ []) p e)) (sym mine) (subst (IsListed x) (sym its) is)
    by p d e low (inr other) =
        let long = length-append bodies (body ∷ []) in
        let before : p < length bodies = omega (arith, low, long, other) in
        let here : p < length all = omega (arith, before, listed.number) in
        subst (λ l. IsListed l (get_or (bodies ++ body ∷ []) p e)) (sym (get_or_append_left all (x ∷ []) d p here))
        (subst (IsListed (get_or all p d)) (sym (get_or_append_left bodies (body ∷ []) e p before)) (listed.each p d e before))

-- of the first few things behind some bodies, one more
pub next_listed : {A : Type 0} (f : A → Routine) (before : List Routine) (xs : List A) (i : ℕ) (d : A) → i < length xs → (all : List Listed) (x : Listed) → AreListed (before ++ map f (take i xs)) all → IsListed x (f (get_or xs i d))
    → AreListed (before ++ map f (take (i + 1) xs)) (all ++ x ∷ [])
next_listed f before xs i d low all x listed is =
    let more = one_more_listed (before ++ map f (take i xs)) all (f (get_or xs i d)) x listed is in
    let together : (before ++ map f (take i xs)) ++ f (get_or xs i d) ∷ [] ≡ before ++ map f (take (i + 1) xs) =
    append_assoc before (map f (take i xs)) (f (get_or xs i d) ∷ []) ∙ ap (λ zs. before ++ zs) (sym (map-append f (take i xs) (get_or xs i d ∷ [])) ∙ ap (map f) (sym (take_more xs i d low))) in
    subst (λ bs. AreListed bs (all ++ x ∷ [])) together more

-- ---- a method's body in the list

-- the body of a method, and where it is listed
pub record MethodListed (code : Code) (all : List Listed) (k : ℕ) (d : Listed) : Type 0 where
  pub body : Routine
  pub at : IsAt code (place.Method (suc k)) body
  pub listed : IsListed (get_or all k d) body

pub method_listed : (code : Code) (all : List Listed) → AreListed (routines code) all → (k : ℕ) → k < length code.methods → (d : Listed) → MethodListed code all k d
method_listed code all listed k low d = by (slice_get_cases code.methods k).1
  where
    found : (m : Method) → slice_get code.methods k ≡ Some m → MethodListed code all k d
    found m is =
        let mapped : length (map routine_of code.methods) ≡ length code.methods = length-map code.methods routine_of in
        let before : k < length (map routine_of code.methods) = omega (arith, low, mapped) in
        let longer : length (routines code) ≡ length (map routine_of code.methods) + length (map routine_of_thread code.bodies) = length-append (map routine_of code.methods) (map routine_of_thread code.bodies) in
        let there : k < length (routines code) = omega (arith, before, longer) in
        let mine : get_or (routines code) k (routine_of m) ≡ routine_of m =
        get_or_append_left (map routine_of code.methods) (map routine_of_thread code.bodies) (routine_of m) k before ∙ get_or-map routine_of code.methods k m (routine_of m) low ∙ ap routine_of (get_or_from_slice_get code.methods k m m is) in
        record { body = routine_of m; at = ap of_method is; listed = subst (IsListed (get_or all k d)) mine (listed.each k d (routine_of m) there) }

    by : ((m : Method) × (k < length code.methods) × (slice_get code.methods k ≡ Some m) × (get_or code.methods k m ≡ m)) ⊎ ((length code.methods ≤ k) × (slice_get code.methods k ≡ None)) → MethodListed code all k d
    by (inl is) = found is.0 is.2
    by (inr past) = absurd (omega (arith, low, past.0))

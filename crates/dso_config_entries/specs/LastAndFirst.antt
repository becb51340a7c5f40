-- What is last in a list, and what is first.
use Rattle.std.specs.Prelude.{◌≡◌, List, [], ◌∷◌, ◌++◌, All, Contains, Option, Some, None, option_map}

-- the last item of a list with which P holds, none where it holds with no item
pub data LastWith {A : Type 0} (P : A → Type 0) : List A → Option A → Type 0 where
  last : (before after : List A) (x : A) → P x → All (λ y. P y → ⊥) after → LastWith P (before ++ x ∷ after) (Some x)
  nothing : {xs : List A} → All (λ y. P y → ⊥) xs → LastWith P xs None

-- what f gives of the last item of a list with which P holds, none where it holds with no item
pub record LastGives {A B : Type 0} (P : A → Type 0) (f : A → B) (xs : List A) (given : Option B) : Type 0 where
  pub item : Option A
  pub last : LastWith P xs item
  pub is : given ≡ option_map f item

-- the items of a list, each once, where it is first
pub data AreFirsts {A : Type 0} : List A → List A → Type 0 where
  empty : AreFirsts [] []
  again : {xs firsts : List A} {x : A} → AreFirsts xs firsts → Contains firsts x → AreFirsts (xs ++ x ∷ []) firsts
  fresh : {xs firsts : List A} {x : A} → AreFirsts xs firsts → (Contains firsts x → ⊥)
      → AreFirsts (xs ++ x ∷ []) (firsts ++ x ∷ [])

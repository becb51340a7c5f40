-- What an answer tells.
use Rattle.std.proofs.Common.{◌≡◌, refl, sym, ◌∙◌, ap, subst, Bool, true, false, is_some, Option, Some, None}

-- no, where the fact never holds
pub no : {F : Type 0} → (F → ⊥) → (false ≡ true → F) × (F → false ≡ true)
no never = (λ e. absurd (cc e), λ f. absurd (never f))

-- yes, where it holds
pub yes : {F : Type 0} → F → (true ≡ true → F) × (F → true ≡ true)
yes f = (λ e. f, λ g. refl)

-- what the first of two facts tells, where the second holds
pub told_by : {b : Bool} {F G : Type 0} → (b ≡ true → F) × (F → b ≡ true) → (F → G) → (G → F) → (b ≡ true → G) × (G → b ≡ true)
told_by tells to from = (λ e. to (tells.0 e), λ g. tells.1 (from g))

-- nothing is there
pub none_there : {A : Type 0} (o : Option A) → is_some o ≡ false → o ≡ None
none_there None e = refl
none_there (Some a) e = absurd (cc e)

pub some_there : {A : Type 0} (o : Option A) → is_some o ≡ true → o ≡ None → ⊥
some_there o e none = cc (sym e ∙ ap is_some none)

pub there_some : {A : Type 0} (o : Option A) → (o ≡ None → ⊥) → is_some o ≡ true
there_some None some = absurd (some refl)
there_some (Some a) some = refl

-- what is told of one value is told of another that is the same
pub told_at : {X : Type 0} {b : Bool} (F : X → Type 0) {x y : X} → x ≡ y → (b ≡ true → F x) × (F x → b ≡ true) → (b ≡ true → F y) × (F y → b ≡ true)
told_at F same tells = (λ e. subst F same (tells.0 e), λ f. tells.1 (subst F (sym same) f))

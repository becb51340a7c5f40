-- The opening values of a new object, made from the first on.
use Rattle.std.proofs.Common.{ℕ, zero, suc, ◌+◌, ◌≡◌, ◌∙◌, ap, [], ◌∷◌, ◌++◌, arith}
use Rattle.dso_base.specs.declared.shape.Shape.{Shape}
use Rattle.dso_base.specs.declared.value.ClassId.{ClassId}
use Rattle.dso_base.specs.Shape.{kind_of}
use Rattle.dso_base.specs.Block.{opening_value, opening_from}

-- the opening values of one more field, at the end
next_from : (shape : Shape) (class : ClassId) (f n : ℕ) → opening_from shape class f (suc n) ≡ opening_from shape class f n ++ opening_value (kind_of shape class (f + n)) ∷ []
next_from shape class f zero = ap (λ m. opening_value (kind_of shape class m) ∷ []) (omega arith)
next_from shape class f (suc n) = ap (λ vs. opening_value (kind_of shape class f) ∷ vs) (next_from shape class (suc f) n
    ∙ ap (λ m. opening_from shape class (suc f) n ++ opening_value (kind_of shape class m) ∷ []) (omega arith))

pub opening_more : (shape : Shape) (class : ClassId) (n : ℕ) → opening_from shape class 0 (n + 1) ≡ opening_from shape class 0 n ++ opening_value (kind_of shape class n) ∷ []
opening_more shape class n =
    let e : n + 1 ≡ suc n = omega arith in
    ap (opening_from shape class 0) e ∙ next_from shape class 0 n ∙ ap (λ m. opening_from shape class 0 n ++ opening_value (kind_of shape class m) ∷ []) (omega arith)

-- Lists of the expressions and statements that stand in others.
use Rattle.std.specs.Prelude.{◌≡◌, List, ◌++◌, All, Contains}
use Rattle.std.specs.Borrow.{Bor}

-- the list has what P says, and nothing else
pub record Lists {X : Type 0} (P : X → Type 0) (list : List (Bor X)) : Type 0 where
  pub only : All (λ item. P item.now) list
  pub all : (x : X) → P x → (item : Bor X) × Contains list item × (item.now ≡ x)

-- a list with what P says behind another
pub record Adds {X : Type 0} (P : X → Type 0) (old new : List (Bor X)) : Type 0 where
  pub added : List (Bor X)
  pub lists : Lists P added
  pub behind : new ≡ old ++ added

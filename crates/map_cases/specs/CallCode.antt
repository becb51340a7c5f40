-- The code of a thread that makes one call of a map: class 0 is that of the objects that are put, class 1 that of maps.
use Rattle.std.specs.Prelude.{◌≡◌, ℕ, List, [], ◌∷◌, length, slice_get, Some}
use Rattle.dso_base.specs.declared.shape.ClassShape.{ClassShape}
use Rattle.dso_base.specs.declared.shape.Shape.{Shape}
use Rattle.dso_map.specs.MapClass.{map_fields}
use Rattle.dso_machine.specs.declared.code.Code.{Code}
use Rattle.dso_machine.specs.declared.tree.Expr.{Expr}
use Rattle.dso_machine.specs.declared.tree.Expr.TheVariants as x
use Rattle.dso_machine.specs.declared.tree.Stmt.TheVariants as s
use Rattle.dso_machine.specs.Sound.{Scope, SoundExpr, map_arguments}

-- two classes, and one text
abbrev pub call_shape : Shape
call_shape = record {
  classes = record { fields = [] } ∷ record { fields = map_fields } ∷ [];
  roots = 0;
  names = 0;
  texts = 1;
}

-- the expression is sound over these
abbrev pub IsPart : Expr → Type 0
IsPart a = (scope : Scope) → scope.code.shape ≡ call_shape → SoundExpr scope a

-- no method, or one of maps that takes so many arguments
abbrev pub AreMethods : ℕ → List (ℕ × ℕ) → Type 0
AreMethods count [] = Unit {0}
AreMethods count (callee ∷ []) = (callee.0 ≡ 1) × (slice_get map_arguments callee.1 ≡ Some count)
AreMethods count callees = ⊥

-- one thread, which prints what the call gives
abbrev pub call_code : Expr → List (ℕ × ℕ) → List Expr → Code
call_code map callees args = record {
  shape = call_shape;
  methods = [];
  bodies = record {
    thread = record { client = 1; index = 1 };
    vars = 0;
    body = s.Print (x.Call map callees args) ∷ [];
  } ∷ [];
}

-- What the accesses at a place of a body are judged by.
use Rattle.std.specs.Prelude.{◌≡◌, Bool, true, false, List, Contains, Option, None, Some}
use Rattle.dso_machine.specs.declared.tree.FieldRef.{FieldRef}
use Rattle.dso_machine.specs.declared.tree.Expr.{Expr}
use Rattle.dso_machine.specs.declared.tree.Expr.TheVariants as x
use Rattle.dso_machine.specs.declared.tree.Stmt.{Stmt}
use Rattle.dso_machine.specs.declared.tree.Stmt.TheVariants as s
use Rattle.dso_lint.specs.declared.access.Scene.{Scene}
use Rattle.dso_lint.specs.Access.{Access, IsGuarded, IsLocked, Makes}
use Rattle.dso_lint.specs.Holds.{AreHolds}
use Rattle.dso_lint.specs.Rows.{chosen_by}
use Rattle.dso_lint.specs.Sites.{Inside, Site, StandsUnder, insides}

module _ (scene : Scene) (sites : List Site) where
  -- the scene has the good holds of these sites
  abbrev pub IsScene : Type 0
  IsScene = AreHolds scene.shape.now (chosen_by scene.row.now) scene.holds.now sites

  -- the object is locked
  abbrev pub IsLockedIn : Expr → Bool → Type 0
  IsLockedIn v write = IsLocked scene.shape.now (chosen_by scene.row.now) v write sites

  -- the access of an object is guarded
  abbrev pub IsGuardedIn : Expr → Option FieldRef → Bool → Type 0
  IsGuardedIn v field write = IsGuarded scene.shape.now (chosen_by scene.row.now) scene.named v field write sites

  -- what the expression itself reads is guarded
  pub record ReadsGuarded (e : Expr) : Type 0 where
    pub field : (v : Expr) (f : FieldRef) → e ≡ x.Field v f → IsGuardedIn v (Some f) false
    pub element : (v i : Expr) → e ≡ x.Elem v i → IsGuardedIn v None false

  -- what the statement itself writes is guarded
  pub record WritesGuarded (a : Stmt) : Type 0 where
    pub field : (v b : Expr) (f : FieldRef) → a ≡ s.PutField v f b → IsGuardedIn v (Some f) true
    pub element : (v i b : Expr) → a ≡ s.PutElem v i b → IsGuardedIn v None true

  -- each access that the statement itself makes is guarded
  abbrev pub MakesGuarded : Stmt → Type 0
  MakesGuarded a = (access : Access) → Makes a access → IsGuardedIn access.object access.field access.write

module _ (scene : Scene) where
  -- each access in the block is guarded, where these sites are around the block
  abbrev pub AllGuarded : List Site → List Stmt → Type 0
  AllGuarded sites block = (a : Stmt) (inner : List Site) → StandsUnder a inner sites block →
      MakesGuarded scene inner a

  -- so in the blocks of a statement, where these sites are around the statement
  abbrev pub InnerGuarded : List Site → Stmt → Type 0
  InnerGuarded sites a = (inside : Inside) → Contains (insides sites a) inside →
      AllGuarded inside.sites inside.block

-- The access rule: what is read and written is locked, or the method's own named lock guards it.
use Rattle.std.specs.Prelude.{◌≡◌, ◌⊎◌, ℕ, Bool, true, false, All, List, Contains, slice_get, Option, None, Some}
use Rattle.dso_base.specs.declared.lock.Grade.{Grade}
use Rattle.dso_base.specs.declared.lock.Grade.TheVariants as grade
use Rattle.dso_base.specs.declared.shape.FieldShape.{FieldShape}
use Rattle.dso_base.specs.declared.shape.Guard.{Guard}
use Rattle.dso_base.specs.declared.shape.Guard.TheVariants as guard
use Rattle.dso_base.specs.declared.shape.Shape.{Shape}
use Rattle.dso_base.specs.declared.value.ClassId.TheVariants.{Plain}
use Rattle.dso_base.specs.declared.value.Kind.TheVariants as kind
use Rattle.dso_base.specs.Shape.{fields_at, kind_of}
use Rattle.dso_machine.specs.declared.tree.FieldRef.{FieldRef}
use Rattle.dso_machine.specs.declared.tree.Expr.{Expr}
use Rattle.dso_machine.specs.declared.tree.Expr.TheVariants as x
use Rattle.dso_machine.specs.declared.tree.Stmt.{Stmt}
use Rattle.dso_machine.specs.declared.tree.Stmt.TheVariants as s
use Rattle.dso_lint.specs.Routines.{Routine}
use Rattle.dso_lint.specs.Trees.{StandsIn, Evaluates, Uses}
use Rattle.dso_lint.specs.Sites.{Site, StandsUnder, own_sites}
use Rattle.dso_lint.specs.Clean.{Chosen, IsClean}

-- whether what is locked at this grade may be written
abbrev pub writes : Grade → Bool
writes grade.Read = false
writes grade.Write = true
writes grade.Synchronous = true

-- a variable or `this`
pub data IsVariable : Expr → Type 0 where
  variable : (i : ℕ) → IsVariable (x.Var i)
  this : IsVariable x.This

-- some class has the field, with kind ref
abbrev pub IsRefField : Shape → FieldRef → Type 0
IsRefField shape f = (place : ℕ × ℕ) × Contains f.places place × (kind_of shape (Plain place.0) place.1 ≡ kind.Ref)

-- The block publishes nothing: it has no call, no root assignment, no element write, and no write to a field that some
-- class has with kind ref.
pub record IsQuiet (shape : Shape) (block : List Stmt) : Type 0 where
  pub no_call : (a : Expr) (callees : List (ℕ × ℕ)) (args : List Expr) → Uses block (x.Call a callees args) → ⊥
  pub no_root : (r : ℕ) (a : Expr) → StandsIn (s.PutRoot r a) block → ⊥
  pub no_element : (a b c : Expr) → StandsIn (s.PutElem a b c) block → ⊥
  pub no_reference : (a b : Expr) (f : FieldRef) → StandsIn (s.PutField a f b) block → IsRefField shape f → ⊥

-- the site has a good hold on v: it locks v, a variable or `this` that its block doesn't assign, and v is clean or the
-- block publishes nothing
pub record HoldsWell (shape : Shape) (chosen : Chosen) (v : Expr) (site : Site) : Type 0 where
  pub locks : site.lock ≡ v
  pub is_variable : IsVariable v
  pub stays : (i : ℕ) (a : Expr) → v ≡ x.Var i → StandsIn (s.Assign i a) site.block → ⊥
  pub good : IsClean chosen v ⊎ IsQuiet shape site.block

-- a site around has a good hold on v, and for a write it is at a grade that allows it
pub record IsLocked (shape : Shape) (chosen : Chosen) (v : Expr) (write : Bool) (sites : List Site) : Type 0 where
  pub site : Site
  pub around : Contains sites site
  pub holds : HoldsWell shape chosen v site
  pub allows : write ≡ true → writes site.grade ≡ true

-- the method's own named lock is this one, and for a write it is taken at a grade that allows it
pub record IsNamed (named : Option (ℕ × Grade)) (write : Bool) (lock : ℕ) : Type 0 where
  pub grade : Grade
  pub is : named ≡ Some (lock, grade)
  pub allows : write ≡ true → writes grade ≡ true

-- what a guard asks: that the object is locked, or that its named lock is held
abbrev pub ByLock : Type 0 → (ℕ → Type 0) → Guard → Type 0
ByLock own named guard.Own = own
ByLock own named (guard.Name lock) = named lock

-- what the guard of a field asks, and that of an object without the field
abbrev pub ByGuard : Type 0 → (ℕ → Type 0) → Option FieldShape → Type 0
ByGuard own named None = own
ByGuard own named (Some field) = ByLock own named field.guard

-- an access: of which expression's object, which field of it, None for an element, and whether it writes
pub record Access : Type 0 where
  pub object : Expr
  pub field : Option FieldRef
  pub write : Bool

-- the statement makes the access itself: it evaluates an expression that reads, or it writes
pub data Makes : Stmt → Access → Type 0 where
  reads_field : {a : Stmt} (v : Expr) (f : FieldRef) → Evaluates a (x.Field v f) →
      Makes a (record { object = v; field = Some f; write = false })
  reads_element : {a : Stmt} (v i : Expr) → Evaluates a (x.Elem v i) →
      Makes a (record { object = v; field = None; write = false })
  writes_field : (v : Expr) (f : FieldRef) (b : Expr) →
      Makes (s.PutField v f b) (record { object = v; field = Some f; write = true })
  writes_element : (v i b : Expr) → Makes (s.PutElem v i b) (record { object = v; field = None; write = true })

module _ (shape : Shape) (chosen : Chosen) (named : Option (ℕ × Grade)) where
  -- The access is guarded where these sites are around. An element is guarded by its array's monitor. A field is one
  -- of a variable or `this`, and guarded in each class that has it.
  abbrev pub IsGuarded : Expr → Option FieldRef → Bool → List Site → Type 0
  IsGuarded v None write sites = IsLocked shape chosen v write sites
  IsGuarded v (Some f) write sites = IsVariable v × All (λ place. ByGuard (IsLocked shape chosen v write sites)
      (IsNamed named write) (slice_get (fields_at shape place.0) place.1)) f.places

-- The access rule holds in the body: each access in it is guarded.
abbrev pub KeepsAccess : Shape → Chosen → Routine → Type 0
KeepsAccess shape chosen body = (a : Stmt) (sites : List Site) (access : Access) →
    StandsUnder a sites (own_sites body) body.statements → Makes a access →
    IsGuarded shape chosen body.named access.object access.field access.write sites

-- What a guard asks, by the lock that guards the field; and what an expression reads and a statement writes.
use Rattle.std.proofs.Common.{◌≡◌, ℕ, sym, subst, ap, ◌∙◌}
use Rattle.std.specs.Prelude.{Option, None, Some}
use Rattle.dso_base.specs.declared.lock.LockName.TheVariants.{Mon, Name}
use Rattle.dso_base.specs.declared.shape.FieldShape.{FieldShape}
use Rattle.dso_base.specs.declared.shape.Guard.{Guard}
use Rattle.dso_base.specs.declared.shape.Guard.TheVariants as guard
use Rattle.dso_base.specs.declared.value.Kind.{Kind}
use Rattle.dso_base.specs.Shape.{lock_of}
use Rattle.dso_machine.specs.declared.tree.FieldRef.{FieldRef}
use Rattle.dso_machine.specs.declared.tree.Expr.{Expr, Expr-F, out-Expr, out-roll-Expr}
use Rattle.dso_machine.specs.declared.tree.Expr.TheOpen as ef
use Rattle.dso_machine.specs.declared.tree.Expr.TheVariants as x
use Rattle.dso_machine.specs.declared.tree.Stmt.{Stmt, Stmt-F, out-Stmt, out-roll-Stmt}
use Rattle.dso_machine.specs.declared.tree.Stmt.TheOpen as sf
use Rattle.dso_machine.specs.declared.tree.Stmt.TheVariants as s
use Rattle.dso_lint.specs.Access.{ByGuard}

-- a field of this kind and guard
abbrev with_guard : Kind → Guard → Option FieldShape
with_guard kind g = Some (record { kind = kind; guard = g })

module _ (own : Type 0) (named : ℕ → Type 0) where
  own_with : (kind : Kind) (g : Guard) (o k : ℕ) → lock_of (with_guard kind g) o ≡ Mon k → (own → ByGuard own named (with_guard kind g)) × (ByGuard own named (with_guard kind g) → own)
  own_with kind guard.Own o k is = (λ so. so, λ so. so)
  own_with kind (guard.Name lock) o k is = absurd (cc is)

  name_with : (kind : Kind) (g : Guard) (o lock : ℕ) → lock_of (with_guard kind g) o ≡ Name lock → (named lock → ByGuard own named (with_guard kind g)) × (ByGuard own named (with_guard kind g) → named lock)
  name_with kind guard.Own o lock is = absurd (cc is)
  name_with kind (guard.Name other) o lock is = let same : other ≡ lock = cc is in (λ so. subst named (sym same) so, λ so. subst named same so)

  -- guarded by the object's monitor
  pub by_own : (field : Option FieldShape) (o k : ℕ) → lock_of field o ≡ Mon k → (own → ByGuard own named field) × (ByGuard own named field → own)
  by_own None o k is = (λ so. so, λ so. so)
  by_own (Some field) o k is = own_with field.kind field.guard o k is

  -- by a named lock
  pub by_name : (field : Option FieldShape) (o lock : ℕ) → lock_of field o ≡ Name lock → (named lock → ByGuard own named field) × (ByGuard own named field → named lock)
  by_name None o lock is = absurd (cc is)
  by_name (Some field) o lock is = name_with field.kind field.guard o lock is

  weaker_with : (other : Type 0) (kind : Kind) (g : Guard) → (own → other) → ByGuard own named (with_guard kind g) → ByGuard other named (with_guard kind g)
  weaker_with other kind guard.Own onward so = onward so
  weaker_with other kind (guard.Name lock) onward so = so

  -- what is guarded if this holds is guarded if what follows from it holds
  pub by_weaker : (other : Type 0) (field : Option FieldShape) → (own → other) → ByGuard own named field → ByGuard other named field
  by_weaker other None onward so = onward so
  by_weaker other (Some field) onward so = weaker_with other field.kind field.guard onward so

-- ---- an expression reads one thing, and a statement writes one

abbrev field_read : Expr-F Expr → Option (Expr × FieldRef)
field_read (ef.Field a f) = Some (a, f)
field_read other = None

pub field_same : (a b : Expr) (f g : FieldRef) → x.Field a f ≡ x.Field b g → (a ≡ b) × (f ≡ g)
field_same a b f g is =
    let out : out-Expr (x.Field a f) ≡ ef.Field a f = ap out-Expr (sym (x.rolls-Field a f)) ∙ out-roll-Expr (ef.Field a f) in
    let other : out-Expr (x.Field b g) ≡ ef.Field b g = ap out-Expr (sym (x.rolls-Field b g)) ∙ out-roll-Expr (ef.Field b g) in
    let both : field_read (ef.Field a f) ≡ field_read (ef.Field b g) = ap field_read (sym out ∙ ap out-Expr is ∙ other) in
    let first : Expr × FieldRef = (a, f) in
    let second : Expr × FieldRef = (b, g) in
    let same : first ≡ second = cc both in
    (ap (λ (p : Expr × FieldRef). p.0) same, ap (λ (p : Expr × FieldRef). p.1) same)

abbrev array_read : Expr-F Expr → Option Expr
array_read (ef.Elem a b) = Some a
array_read other = None

pub elem_same : (a b i j : Expr) → x.Elem a i ≡ x.Elem b j → a ≡ b
elem_same a b i j is =
    let out : out-Expr (x.Elem a i) ≡ ef.Elem a i = ap out-Expr (sym (x.rolls-Elem a i)) ∙ out-roll-Expr (ef.Elem a i) in
    let other : out-Expr (x.Elem b j) ≡ ef.Elem b j = ap out-Expr (sym (x.rolls-Elem b j)) ∙ out-roll-Expr (ef.Elem b j) in
    let both : array_read (ef.Elem a i) ≡ array_read (ef.Elem b j) = ap array_read (sym out ∙ ap out-Expr is ∙ other) in
    cc both

abbrev field_written : Stmt-F Stmt → Option (Expr × FieldRef)
field_written (sf.PutField a f b) = Some (a, f)
field_written other = None

pub put_field_same : (a b c d : Expr) (f g : FieldRef) → s.PutField a f c ≡ s.PutField b g d → (a ≡ b) × (f ≡ g)
put_field_same a b c d f g is =
    let out : out-Stmt (s.PutField a f c) ≡ sf.PutField a f c = ap out-Stmt (sym (s.rolls-PutField a f c)) ∙ out-roll-Stmt (sf.PutField a f c) in
    let other : out-Stmt (s.PutField b g d) ≡ sf.PutField b g d = ap out-Stmt (sym (s.rolls-PutField b g d)) ∙ out-roll-Stmt (sf.PutField b g d) in
    let both : field_written (sf.PutField a f c) ≡ field_written (sf.PutField b g d) = ap field_written (sym out ∙ ap out-Stmt is ∙ other) in
    let first : Expr × FieldRef = (a, f) in
    let second : Expr × FieldRef = (b, g) in
    let same : first ≡ second = cc both in
    (ap (λ (p : Expr × FieldRef). p.0) same, ap (λ (p : Expr × FieldRef). p.1) same)

abbrev array_written : Stmt-F Stmt → Option Expr
array_written (sf.PutElem a i b) = Some a
array_written other = None

pub put_elem_same : (a b i j c d : Expr) → s.PutElem a i c ≡ s.PutElem b j d → a ≡ b
put_elem_same a b i j c d is =
    let out : out-Stmt (s.PutElem a i c) ≡ sf.PutElem a i c = ap out-Stmt (sym (s.rolls-PutElem a i c)) ∙ out-roll-Stmt (sf.PutElem a i c) in
    let other : out-Stmt (s.PutElem b j d) ≡ sf.PutElem b j d = ap out-Stmt (sym (s.rolls-PutElem b j d)) ∙ out-roll-Stmt (sf.PutElem b j d) in
    let both : array_written (sf.PutElem a i c) ≡ array_written (sf.PutElem b j d) = ap array_written (sym out ∙ ap out-Stmt is ∙ other) in
    cc both

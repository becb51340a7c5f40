-- The accesses that a statement makes: what its expressions read, and what it writes.
use Rattle.std.proofs.Common.{◌≡◌, refl, ℕ, ◌<◌, true, false, List, length, get_or, sym, subst, ap, ◌∙◌}
use Rattle.std.specs.Prelude.{None, Some}
use Rattle.std.specs.Borrow.{Bor}
use Rattle.dso_machine.specs.declared.tree.FieldRef.{FieldRef}
use Rattle.dso_machine.specs.declared.tree.Expr.{Expr}
use Rattle.dso_machine.specs.declared.tree.Expr.TheVariants as x
use Rattle.dso_machine.specs.declared.tree.Stmt.{Stmt}
use Rattle.dso_machine.specs.declared.tree.Stmt.TheVariants as s
use Rattle.dso_lint.specs.declared.access.Scene.{Scene}
use Rattle.dso_lint.specs.Access.{Access, Makes, reads_field, reads_element, writes_field, writes_element}
use Rattle.dso_lint.specs.Lists.{Lists}
use Rattle.dso_lint.specs.Scenes.{IsGuardedIn, ReadsGuarded, WritesGuarded, MakesGuarded}
use Rattle.dso_lint.specs.Sites.{Site}
use Rattle.dso_lint.specs.Trees.{Evaluates}
use Rattle.dso_lint.proofs.guarding.Guards.{field_same, elem_same, put_field_same, put_elem_same}

module _ (scene : Scene) (sites : List Site) where
  -- ---- an expression

  pub reads_as_field : (e v : Expr) (f : FieldRef) → e ≡ x.Field v f → IsGuardedIn scene sites v (Some f) false → ReadsGuarded scene sites e
  reads_as_field e v f is so = record { field = field; element = λ w i other. absurd (cc (sym is ∙ other)) }
    where
      field : (w : Expr) (g : FieldRef) → e ≡ x.Field w g → IsGuardedIn scene sites w (Some g) false
      field w g other =
          let same = field_same v w f g (sym is ∙ other) in
          subst (λ (u : Expr). IsGuardedIn scene sites u (Some g) false) same.0 (subst (λ (h : FieldRef). IsGuardedIn scene sites v (Some h) false) same.1 so)

  pub reads_as_element : (e v i : Expr) → e ≡ x.Elem v i → IsGuardedIn scene sites v None false → ReadsGuarded scene sites e
  reads_as_element e v i is so = record {
    field = λ w g other. absurd (cc (sym is ∙ other));
    element = λ w j other. subst (λ (u : Expr). IsGuardedIn scene sites u None false) (elem_same v w i j (sym is ∙ other)) so;
  }

  -- ---- a statement

  pub writes_as_field : (a : Stmt) (v b : Expr) (f : FieldRef) → a ≡ s.PutField v f b → IsGuardedIn scene sites v (Some f) true → WritesGuarded scene sites a
  writes_as_field a v b f is so = record { field = field; element = λ w i c other. absurd (cc (sym is ∙ other)) }
    where
      field : (w c : Expr) (g : FieldRef) → a ≡ s.PutField w g c → IsGuardedIn scene sites w (Some g) true
      field w c g other =
          let same = put_field_same v w b c f g (sym is ∙ other) in
          subst (λ (u : Expr). IsGuardedIn scene sites u (Some g) true) same.0 (subst (λ (h : FieldRef). IsGuardedIn scene sites v (Some h) true) same.1 so)

  pub writes_as_element : (a : Stmt) (v i b : Expr) → a ≡ s.PutElem v i b → IsGuardedIn scene sites v None true → WritesGuarded scene sites a
  writes_as_element a v i b is so = record {
    field = λ w c g other. absurd (cc (sym is ∙ other));
    element = λ w j c other. subst (λ (u : Expr). IsGuardedIn scene sites u None true) (put_elem_same v w i j b c (sym is ∙ other)) so;
  }

  -- so where the array is written otherwise
  pub writes_at_element : (a : Stmt) (v w i b : Expr) → a ≡ s.PutElem w i b → v ≡ w → IsGuardedIn scene sites v None true → WritesGuarded scene sites a
  writes_at_element a v w i b is same so = writes_as_element a w i b is (subst (λ (u : Expr). IsGuardedIn scene sites u None true) same so)

  pub element_written : (a : Stmt) (v w i b : Expr) → a ≡ s.PutElem w i b → v ≡ w → WritesGuarded scene sites a → IsGuardedIn scene sites v None true
  element_written a v w i b is same so = subst (λ (u : Expr). IsGuardedIn scene sites u None true) (sym same) (so.element w i b is)

  -- ---- all that a statement makes

  -- so many of the expressions read what is guarded
  abbrev pub ReadSoFar : List (Bor Expr) → ℕ → Type 0
  ReadSoFar list count = (k : ℕ) (d : Bor Expr) → k < count → ReadsGuarded scene sites (get_or list k d).now

  one_guarded : (a : Stmt) (access : Access) → Makes a access → (list : List (Bor Expr)) → Lists (Evaluates a) list → ReadSoFar list (length list) → WritesGuarded scene sites a → IsGuardedIn scene sites access.object access.field access.write
  one_guarded a access (reads_field v f evaluates) list lists reads written =
      let at = lists.all (x.Field v f) evaluates in
      (reads at.1.0 at.0 at.1.1).field v f (ap (λ (b : Bor Expr). b.now) at.1.2 ∙ at.2)
  one_guarded a access (reads_element v i evaluates) list lists reads written =
      let at = lists.all (x.Elem v i) evaluates in
      (reads at.1.0 at.0 at.1.1).element v i (ap (λ (b : Bor Expr). b.now) at.1.2 ∙ at.2)
  one_guarded a access (writes_field v f b) list lists reads written = written.field v b f refl
  one_guarded a access (writes_element v i b) list lists reads written = written.element v i b refl

  pub makes_guarded : (a : Stmt) (list : List (Bor Expr)) → Lists (Evaluates a) list → ReadSoFar list (length list) → WritesGuarded scene sites a → MakesGuarded scene sites a
  makes_guarded a list lists reads written access makes = one_guarded a access makes list lists reads written

  pub reads_guarded : (a : Stmt) (e : Expr) → Evaluates a e → MakesGuarded scene sites a → ReadsGuarded scene sites e
  reads_guarded a e evaluates so = record {
    field = λ v f is. so (record { object = v; field = Some f; write = false }) (reads_field v f (subst (Evaluates a) is evaluates));
    element = λ v i is. so (record { object = v; field = None; write = false }) (reads_element v i (subst (Evaluates a) is evaluates));
  }

  pub writes_guarded : (a : Stmt) → MakesGuarded scene sites a → WritesGuarded scene sites a
  writes_guarded a so = record {
    field = λ v b f is.
        let access : Access = record { object = v; field = Some f; write = true } in
        so access (subst (λ (t : Stmt). Makes t access) (sym is) (writes_field v f b));
    element = λ v i b is.
        let access : Access = record { object = v; field = None; write = true } in
        so access (subst (λ (t : Stmt). Makes t access) (sym is) (writes_element v i b));
  }

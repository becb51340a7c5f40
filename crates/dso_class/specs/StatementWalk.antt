-- What the walk over statements owes beside that over expressions.
use Rattle.std.specs.Prelude.{◌≡◌, ℕ, List, [], ◌∷◌, ◌++◌}
use Rattle.dso_machine.specs.declared.tree.FieldRef.{FieldRef}
use Rattle.dso_machine.specs.declared.tree.Expr.{Expr}
use Rattle.dso_machine.specs.declared.tree.Expr.TheVariants as x
use Rattle.dso_machine.specs.declared.tree.Stmt.{Stmt}
use Rattle.dso_machine.specs.declared.tree.Stmt.TheVariants as t
use Rattle.dso_config_entries.specs.Words.{Word}
use Rattle.dso_class.specs.Mentions.{Step}
use Rattle.dso_class.specs.Numbers.{Numbers, IsNumber, IsFieldRef}

-- the names that are known behind statements
abbrev pub known_after : List Step → List Word → List Word
known_after [] known = known
known_after (a ∷ rest) known = known_after rest (a.names ++ known)

-- a field of an object is given a value: which fields of which classes have the name
pub record PutsField (n : Numbers) (object : Expr) (name : Word) (value : Expr) (given : Stmt) : Type 0 where
  pub field : FieldRef
  pub is : given ≡ t.PutField object field value
  pub place : IsFieldRef n.fields name field

-- what stands behind a bare name and a dot is given a value: a root, or the field of a variable
pub data PutsNamed (n : Numbers) (owner name : Word) (value : Expr) : Stmt → Type 0 where
  to_root : {i : ℕ} → IsNumber n.roots (record { class = owner; field = name }) i
      → PutsNamed n owner name value (t.PutRoot i value)
  to_field : {i : ℕ} {given : Stmt} → IsNumber n.variables owner i → PutsField n (x.Var i) name value given
      → PutsNamed n owner name value given

-- What names are numbers of, and what the code is in which they are: expressions and statements, form by form.
use Rattle.std.specs.Prelude.{◌≡◌, ◌↔◌, ℕ, ◌<◌, ℤ, Bool, List, [], ◌∷◌, length, AllPairs, Contains, IsTrue}
use Rattle.std.specs.Prelude.{Option, Some, None}
use Rattle.dso_base.specs.declared.lock.Grade.{Grade}
use Rattle.dso_base.specs.declared.op.Op.{Op}
use Rattle.dso_base.specs.declared.value.Kind.{Kind}
use Rattle.dso_base.specs.declared.value.Value.TheVariants as value
use Rattle.dso_config.specs.declared.config.RootEntry.{RootEntry}
use Rattle.dso_machine.specs.declared.tree.FieldRef.{FieldRef}
use Rattle.dso_machine.specs.declared.tree.Expr.{Expr}
use Rattle.dso_machine.specs.declared.tree.Expr.TheVariants as x
use Rattle.dso_machine.specs.declared.tree.Stmt.{Stmt}
use Rattle.dso_machine.specs.declared.tree.Stmt.TheVariants as t
use Rattle.dso_syntax.specs.declared.tree.Ident.{Ident}
use Rattle.dso_syntax.specs.declared.tree.ExprTree.{ExprTree}
use Rattle.dso_syntax.specs.declared.tree.ExprForm.TheVariants as e
use Rattle.dso_syntax.specs.declared.tree.StmtTree.{StmtTree}
use Rattle.dso_syntax.specs.declared.tree.StmtForm.TheVariants as s
use Rattle.dso_syntax.specs.Grammar.{expression}
use Rattle.dso_syntax.specs.ProgramGrammar.{statement}
use Rattle.dso_config_entries.specs.Words.{Word, length_word}
pub use Rattle.dso_config_entries.specs.LockNumbers.{IsNumber}
use Rattle.dso_class.specs.Declarations.{MethodTree}

-- What is numbered: each list has at a number's place what the number is of. The classes, the fields of each class,
-- the roots, the methods of all classes and the text literals are those of the text, with the class and the methods of
-- maps at the end where it makes a map; the variables and the level at which `synchronized` locks are those of a body.
pub record Numbers : Type 0 where
  pub classes : List Word
  pub fields : List (List Word)
  pub roots : List RootEntry
  pub methods : List MethodTree
  pub texts : List Word
  pub variables : List Word
  pub grade : Option Grade

-- the class of this number has a field of this name, of this number
pub record HasField (fields : List (List Word)) (name : Word) (class number : ℕ) : Type 0 where
  pub row : List Word
  pub of_class : IsNumber fields row class
  pub of_field : IsNumber row name number

-- the class of this number has a method of this name with so many arguments, of this number
pub record HasMethod (methods : List MethodTree) (name : Word) (count class number : ℕ) : Type 0 where
  pub declared : MethodTree
  pub of_method : IsNumber methods declared number
  pub of_class : declared.number ≡ class
  pub named : declared.name ≡ name
  pub takes : length declared.params ≡ count

-- the pairs are those of numbers with which P holds, by rising first number, each of which is in one pair
pub record AreThePairs (P : ℕ → ℕ → Type 0) (pairs : List (ℕ × ℕ)) : Type 0 where
  pub listed : (a b : ℕ) → Contains pairs (a, b) ↔ P a b
  pub rising : AllPairs (λ pair other. pair.0 < other.0) pairs

-- where a field of this name may be: each class that has one, and an array where the name is that of its size
pub record IsFieldRef (fields : List (List Word)) (name : Word) (field : FieldRef) : Type 0 where
  pub places : AreThePairs (HasField fields name) field.places
  pub size : IsTrue field.length ↔ (name ≡ length_word)

mutual
  -- An expression in numbers, form by form. Parentheses go. A class before a dot and a name is a root, any other
  -- expression there an object.
  pub data MeansExpr (n : Numbers) : ExprTree → Expr → Type 0 where
    number : {line : ℕ} {v : ℤ} → MeansExpr n (expression line (e.Number v)) (x.Const (value.Long v))
    text : {line i : ℕ} {content : Word} → IsNumber n.texts content i
        → MeansExpr n (expression line (e.Text content)) (x.Const (value.Text i))
    truth : {line : ℕ} {b : Bool} → MeansExpr n (expression line (e.Truth b)) (x.Const (value.Bool b))
    null : {line : ℕ} → MeansExpr n (expression line e.Null) (x.Const value.Null)
    this : {line : ℕ} → MeansExpr n (expression line e.This) x.This
    variable : {line i : ℕ} {name : Word} → IsNumber n.variables name i
        → MeansExpr n (expression line (e.Name name)) (x.Var i)
    parens : {line : ℕ} {a : ExprTree} {b : Expr} → MeansExpr n a b → MeansExpr n (expression line (e.Paren a)) b
    object : {line i : ℕ} {name : Ident} → IsNumber n.classes name.name i
        → MeansExpr n (expression line (e.NewObject name)) (x.NewObject i)
    array : {line : ℕ} {kind : Kind} {a : ExprTree} {b : Expr} → MeansExpr n a b
        → MeansExpr n (expression line (e.NewArray kind a)) (x.NewArray kind b)
    root : {line i : ℕ} (at : ℕ) {class : Word} {name : Ident}
        → IsNumber n.roots (record { class = class; field = name.name }) i
        → MeansExpr n (expression line (e.Field (expression at (e.Name class)) name)) (x.Root i)
    field : {line : ℕ} {a : ExprTree} {b : Expr} {name : Ident} {f : FieldRef} → MeansExpr n a b
        → IsFieldRef n.fields name.name f
        → MeansExpr n (expression line (e.Field a name)) (x.Field b f)
    element : {line : ℕ} {a c : ExprTree} {b d : Expr} → MeansExpr n a b → MeansExpr n c d
        → MeansExpr n (expression line (e.Elem a c)) (x.Elem b d)
    call : {line : ℕ} {a : ExprTree} {b : Expr} {name : Ident} {args : List ExprTree} {all : List Expr}
        {callees : List (ℕ × ℕ)}
        → MeansExpr n a b → AreThePairs (HasMethod n.methods name.name (length args)) callees → MeansExprs n args all
        → MeansExpr n (expression line (e.Call a name args)) (x.Call b callees all)
    unary : {line : ℕ} {o : Op} {a : ExprTree} {b : Expr} → MeansExpr n a b
        → MeansExpr n (expression line (e.Unary o a)) (x.Unary o b)
    binary : {line : ℕ} {o : Op} {a c : ExprTree} {b d : Expr} → MeansExpr n a b → MeansExpr n c d
        → MeansExpr n (expression line (e.Binary o a c)) (x.Binary o b d)

  -- Expressions in numbers, one by one.
  pub data MeansExprs (n : Numbers) : List ExprTree → List Expr → Type 0 where
    none : MeansExprs n [] []
    more : {a : ExprTree} {b : Expr} {rest : List ExprTree} {others : List Expr} → MeansExpr n a b
        → MeansExprs n rest others → MeansExprs n (a ∷ rest) (b ∷ others)

mutual
  -- A statement in numbers, form by form. A variable's declaration is an assignment.
  pub data MeansStmt (n : Numbers) : StmtTree → Stmt → Type 0 where
    variable : {line i : ℕ} {name : Ident} {a : ExprTree} {b : Expr} → IsNumber n.variables name.name i
        → MeansExpr n a b
        → MeansStmt n (statement line (s.Var name a)) (t.Assign i b)
    assign : {line i : ℕ} (at : ℕ) {name : Word} {a : ExprTree} {b : Expr} → IsNumber n.variables name i
        → MeansExpr n a b
        → MeansStmt n (statement line (s.Assign (expression at (e.Name name)) a)) (t.Assign i b)
    put_root : {line i : ℕ} (at from : ℕ) {class : Word} {name : Ident} {a : ExprTree} {b : Expr}
        → IsNumber n.roots (record { class = class; field = name.name }) i → MeansExpr n a b
        → MeansStmt n (statement line (s.Assign (expression at (e.Field (expression from (e.Name class)) name)) a))
        (t.PutRoot i b)
    put_field : {line : ℕ} (at : ℕ) {a c : ExprTree} {b d : Expr} {name : Ident} {f : FieldRef} → MeansExpr n a b
        → IsFieldRef n.fields name.name f → MeansExpr n c d
        → MeansStmt n (statement line (s.Assign (expression at (e.Field a name)) c)) (t.PutField b f d)
    put_element : {line : ℕ} (at : ℕ) {a c g : ExprTree} {b d h : Expr} → MeansExpr n a b → MeansExpr n c d
        → MeansExpr n g h
        → MeansStmt n (statement line (s.Assign (expression at (e.Elem a c)) g)) (t.PutElem b d h)
    evaluate : {line : ℕ} {a : ExprTree} {b : Expr} → MeansExpr n a b
        → MeansStmt n (statement line (s.Eval a)) (t.Eval b)
    conditional : {line : ℕ} {a : ExprTree} {b : Expr} {all others : List StmtTree} {these those : List Stmt}
        → MeansExpr n a b → MeansBlock n all these → MeansBlock n others those
        → MeansStmt n (statement line (s.If a all others)) (t.If b these those)
    loop : {line : ℕ} {a : ExprTree} {b : Expr} {all : List StmtTree} {these : List Stmt} → MeansExpr n a b
        → MeansBlock n all these
        → MeansStmt n (statement line (s.While a all)) (t.While b these)
    locked : {line : ℕ} {a : ExprTree} {b : Expr} {grade : Grade} {all : List StmtTree} {these : List Stmt}
        → MeansExpr n a b → n.grade ≡ Some grade → MeansBlock n all these
        → MeansStmt n (statement line (s.Sync a all)) (t.Sync b grade these)
    wait : {line : ℕ} {a : ExprTree} {b : Expr} → MeansExpr n a b → MeansStmt n (statement line (s.Wait a)) (t.Wait b)
    timed_wait : {line : ℕ} {a c : ExprTree} {b d : Expr} → MeansExpr n a b → MeansExpr n c d
        → MeansStmt n (statement line (s.TimedWait a c)) (t.TimedWait b d)
    notify : {line : ℕ} {a : ExprTree} {b : Expr} → MeansExpr n a b
        → MeansStmt n (statement line (s.Notify a)) (t.Notify b)
    notify_all : {line : ℕ} {a : ExprTree} {b : Expr} → MeansExpr n a b
        → MeansStmt n (statement line (s.NotifyAll a)) (t.NotifyAll b)
    print : {line : ℕ} {a : ExprTree} {b : Expr} → MeansExpr n a b
        → MeansStmt n (statement line (s.Print a)) (t.Print b)
    leave : {line : ℕ} → MeansStmt n (statement line (s.Return None)) (t.Return None)
    answer : {line : ℕ} {a : ExprTree} {b : Expr} → MeansExpr n a b
        → MeansStmt n (statement line (s.Return (Some a))) (t.Return (Some b))

  -- The statements of a block in numbers, one by one.
  pub data MeansBlock (n : Numbers) : List StmtTree → List Stmt → Type 0 where
    done : MeansBlock n [] []
    next : {a : StmtTree} {b : Stmt} {rest : List StmtTree} {others : List Stmt} → MeansStmt n a b
        → MeansBlock n rest others → MeansBlock n (a ∷ rest) (b ∷ others)

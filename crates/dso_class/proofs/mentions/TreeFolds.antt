-- The equations of folds over the trees of expressions and statements, form by form.
use Rattle.std.proofs.Common.{◌≡◌, ℕ, ℤ, Bool, List, map, Option, sym, ap, ◌∙◌}
use Rattle.dso_base.specs.declared.op.Op.{Op}
use Rattle.dso_base.specs.declared.value.Kind.{Kind}
use Rattle.dso_syntax.specs.declared.tree.Ident.{Ident}
use Rattle.dso_syntax.specs.declared.tree.ExprTree.{ExprTree, fold-ExprTree, fold-roll-ExprTree}
use Rattle.dso_syntax.specs.declared.tree.ExprTree.{ExprTree-F}
use Rattle.dso_syntax.specs.declared.tree.ExprForm.{ExprForm, fold-ExprForm, fold-roll-ExprForm}
use Rattle.dso_syntax.specs.declared.tree.ExprForm.TheOpen.{ExprForm-F}
use Rattle.dso_syntax.specs.declared.tree.ExprForm.TheVariants as e
use Rattle.dso_syntax.specs.declared.tree.StmtTree.{StmtTree, fold-StmtTree, fold-roll-StmtTree}
use Rattle.dso_syntax.specs.declared.tree.StmtTree.{StmtTree-F}
use Rattle.dso_syntax.specs.declared.tree.StmtForm.{StmtForm, fold-StmtForm, fold-roll-StmtForm}
use Rattle.dso_syntax.specs.declared.tree.StmtForm.TheOpen.{StmtForm-F}
use Rattle.dso_syntax.specs.declared.tree.StmtForm.TheVariants as s
use Rattle.dso_syntax.specs.Grammar.{expression}
use Rattle.dso_syntax.specs.ProgramGrammar.{statement}
use Rattle.dso_config_entries.specs.Words.{Word}

module _ {A B : Type 0} (f : ExprForm-F A B → A) (g : ExprTree-F A B → B) where
  -- an expression, by what its form gives
  expression_by : (line : ℕ) (form : ExprForm) (given : A) → fold-ExprForm A B f g form ≡ given → fold-ExprTree A B f g (expression line form) ≡ g (record { line = line; form = given })
  expression_by line form given is = fold-roll-ExprTree A B f g (record { line = line; form = form }) ∙ ap (λ one. g (record { line = line; form = one })) is

  -- each form of an expression
  pub at_Number : (line : ℕ) (v : ℤ) →
      fold-ExprTree A B f g (expression line (e.Number v)) ≡ g (record { line = line; form = f (ExprForm-F.Number v) })
  at_Number line v = expression_by line (e.Number v) (f (ExprForm-F.Number v)) (ap (fold-ExprForm A B f g) (sym (e.rolls-Number v)) ∙ fold-roll-ExprForm A B f g (ExprForm-F.Number v))

  pub at_Text : (line : ℕ) (content : Word) →
      fold-ExprTree A B f g (expression line (e.Text content)) ≡ g (record { line = line; form = f (ExprForm-F.Text content) })
  at_Text line content = expression_by line (e.Text content) (f (ExprForm-F.Text content)) (ap (fold-ExprForm A B f g) (sym (e.rolls-Text content)) ∙ fold-roll-ExprForm A B f g (ExprForm-F.Text content))

  pub at_Truth : (line : ℕ) (b : Bool) →
      fold-ExprTree A B f g (expression line (e.Truth b)) ≡ g (record { line = line; form = f (ExprForm-F.Truth b) })
  at_Truth line b = expression_by line (e.Truth b) (f (ExprForm-F.Truth b)) (ap (fold-ExprForm A B f g) (sym (e.rolls-Truth b)) ∙ fold-roll-ExprForm A B f g (ExprForm-F.Truth b))

  pub at_Null : (line : ℕ) →
      fold-ExprTree A B f g (expression line e.Null) ≡ g (record { line = line; form = f ExprForm-F.Null })
  at_Null line = expression_by line e.Null (f ExprForm-F.Null) (ap (fold-ExprForm A B f g) (sym e.rolls-Null) ∙ fold-roll-ExprForm A B f g ExprForm-F.Null)

  pub at_This : (line : ℕ) →
      fold-ExprTree A B f g (expression line e.This) ≡ g (record { line = line; form = f ExprForm-F.This })
  at_This line = expression_by line e.This (f ExprForm-F.This) (ap (fold-ExprForm A B f g) (sym e.rolls-This) ∙ fold-roll-ExprForm A B f g ExprForm-F.This)

  pub at_Name : (line : ℕ) (name : Word) →
      fold-ExprTree A B f g (expression line (e.Name name)) ≡ g (record { line = line; form = f (ExprForm-F.Name name) })
  at_Name line name = expression_by line (e.Name name) (f (ExprForm-F.Name name)) (ap (fold-ExprForm A B f g) (sym (e.rolls-Name name)) ∙ fold-roll-ExprForm A B f g (ExprForm-F.Name name))

  pub at_Paren : (line : ℕ) (a : ExprTree) →
      fold-ExprTree A B f g (expression line (e.Paren a)) ≡ g (record { line = line; form = f (ExprForm-F.Paren (fold-ExprTree A B f g a)) })
  at_Paren line a = expression_by line (e.Paren a) (f (ExprForm-F.Paren (fold-ExprTree A B f g a))) (ap (fold-ExprForm A B f g) (sym (e.rolls-Paren a)) ∙ fold-roll-ExprForm A B f g (ExprForm-F.Paren a))

  pub at_NewObject : (line : ℕ) (name : Ident) →
      fold-ExprTree A B f g (expression line (e.NewObject name)) ≡ g (record { line = line; form = f (ExprForm-F.NewObject name) })
  at_NewObject line name = expression_by line (e.NewObject name) (f (ExprForm-F.NewObject name)) (ap (fold-ExprForm A B f g) (sym (e.rolls-NewObject name)) ∙ fold-roll-ExprForm A B f g (ExprForm-F.NewObject name))

  pub at_NewArray : (line : ℕ) (kind : Kind) (a : ExprTree) →
      fold-ExprTree A B f g (expression line (e.NewArray kind a)) ≡ g (record { line = line; form = f (ExprForm-F.NewArray kind (fold-ExprTree A B f g a)) })
  at_NewArray line kind a = expression_by line (e.NewArray kind a) (f (ExprForm-F.NewArray kind (fold-ExprTree A B f g a))) (ap (fold-ExprForm A B f g) (sym (e.rolls-NewArray kind a)) ∙ fold-roll-ExprForm A B f g (ExprForm-F.NewArray kind a))

  pub at_Field : (line : ℕ) (a : ExprTree) (name : Ident) →
      fold-ExprTree A B f g (expression line (e.Field a name)) ≡ g (record { line = line; form = f (ExprForm-F.Field (fold-ExprTree A B f g a) name) })
  at_Field line a name = expression_by line (e.Field a name) (f (ExprForm-F.Field (fold-ExprTree A B f g a) name)) (ap (fold-ExprForm A B f g) (sym (e.rolls-Field a name)) ∙ fold-roll-ExprForm A B f g (ExprForm-F.Field a name))

  pub at_Call : (line : ℕ) (a : ExprTree) (name : Ident) (args : List ExprTree) →
      fold-ExprTree A B f g (expression line (e.Call a name args)) ≡ g (record { line = line; form = f (ExprForm-F.Call (fold-ExprTree A B f g a) name (map (fold-ExprTree A B f g) args)) })
  at_Call line a name args = expression_by line (e.Call a name args) (f (ExprForm-F.Call (fold-ExprTree A B f g a) name (map (fold-ExprTree A B f g) args))) (ap (fold-ExprForm A B f g) (sym (e.rolls-Call a name args)) ∙ fold-roll-ExprForm A B f g (ExprForm-F.Call a name args))

  pub at_Elem : (line : ℕ) (a : ExprTree) (b : ExprTree) →
      fold-ExprTree A B f g (expression line (e.Elem a b)) ≡ g (record { line = line; form = f (ExprForm-F.Elem (fold-ExprTree A B f g a) (fold-ExprTree A B f g b)) })
  at_Elem line a b = expression_by line (e.Elem a b) (f (ExprForm-F.Elem (fold-ExprTree A B f g a) (fold-ExprTree A B f g b))) (ap (fold-ExprForm A B f g) (sym (e.rolls-Elem a b)) ∙ fold-roll-ExprForm A B f g (ExprForm-F.Elem a b))

  pub at_Unary : (line : ℕ) (o : Op) (a : ExprTree) →
      fold-ExprTree A B f g (expression line (e.Unary o a)) ≡ g (record { line = line; form = f (ExprForm-F.Unary o (fold-ExprTree A B f g a)) })
  at_Unary line o a = expression_by line (e.Unary o a) (f (ExprForm-F.Unary o (fold-ExprTree A B f g a))) (ap (fold-ExprForm A B f g) (sym (e.rolls-Unary o a)) ∙ fold-roll-ExprForm A B f g (ExprForm-F.Unary o a))

  pub at_Binary : (line : ℕ) (o : Op) (a : ExprTree) (b : ExprTree) →
      fold-ExprTree A B f g (expression line (e.Binary o a b)) ≡ g (record { line = line; form = f (ExprForm-F.Binary o (fold-ExprTree A B f g a) (fold-ExprTree A B f g b)) })
  at_Binary line o a b = expression_by line (e.Binary o a b) (f (ExprForm-F.Binary o (fold-ExprTree A B f g a) (fold-ExprTree A B f g b))) (ap (fold-ExprForm A B f g) (sym (e.rolls-Binary o a b)) ∙ fold-roll-ExprForm A B f g (ExprForm-F.Binary o a b))

module _ {A B : Type 0} (f : StmtForm-F A B → A) (g : StmtTree-F A B → B) where
  -- a statement, by what its form gives
  statement_by : (line : ℕ) (form : StmtForm) (given : A) → fold-StmtForm A B f g form ≡ given → fold-StmtTree A B f g (statement line form) ≡ g (record { line = line; form = given })
  statement_by line form given is = fold-roll-StmtTree A B f g (record { line = line; form = form }) ∙ ap (λ one. g (record { line = line; form = one })) is

  -- each form of a statement
  pub at_Var : (line : ℕ) (name : Ident) (a : ExprTree) →
      fold-StmtTree A B f g (statement line (s.Var name a)) ≡ g (record { line = line; form = f (StmtForm-F.Var name a) })
  at_Var line name a = statement_by line (s.Var name a) (f (StmtForm-F.Var name a)) (ap (fold-StmtForm A B f g) (sym (s.rolls-Var name a)) ∙ fold-roll-StmtForm A B f g (StmtForm-F.Var name a))

  pub at_Assign : (line : ℕ) (a : ExprTree) (b : ExprTree) →
      fold-StmtTree A B f g (statement line (s.Assign a b)) ≡ g (record { line = line; form = f (StmtForm-F.Assign a b) })
  at_Assign line a b = statement_by line (s.Assign a b) (f (StmtForm-F.Assign a b)) (ap (fold-StmtForm A B f g) (sym (s.rolls-Assign a b)) ∙ fold-roll-StmtForm A B f g (StmtForm-F.Assign a b))

  pub at_Eval : (line : ℕ) (a : ExprTree) →
      fold-StmtTree A B f g (statement line (s.Eval a)) ≡ g (record { line = line; form = f (StmtForm-F.Eval a) })
  at_Eval line a = statement_by line (s.Eval a) (f (StmtForm-F.Eval a)) (ap (fold-StmtForm A B f g) (sym (s.rolls-Eval a)) ∙ fold-roll-StmtForm A B f g (StmtForm-F.Eval a))

  pub at_If : (line : ℕ) (a : ExprTree) (all : List StmtTree) (others : List StmtTree) →
      fold-StmtTree A B f g (statement line (s.If a all others)) ≡ g (record { line = line; form = f (StmtForm-F.If a (map (fold-StmtTree A B f g) all) (map (fold-StmtTree A B f g) others)) })
  at_If line a all others = statement_by line (s.If a all others) (f (StmtForm-F.If a (map (fold-StmtTree A B f g) all) (map (fold-StmtTree A B f g) others))) (ap (fold-StmtForm A B f g) (sym (s.rolls-If a all others)) ∙ fold-roll-StmtForm A B f g (StmtForm-F.If a all others))

  pub at_While : (line : ℕ) (a : ExprTree) (all : List StmtTree) →
      fold-StmtTree A B f g (statement line (s.While a all)) ≡ g (record { line = line; form = f (StmtForm-F.While a (map (fold-StmtTree A B f g) all)) })
  at_While line a all = statement_by line (s.While a all) (f (StmtForm-F.While a (map (fold-StmtTree A B f g) all))) (ap (fold-StmtForm A B f g) (sym (s.rolls-While a all)) ∙ fold-roll-StmtForm A B f g (StmtForm-F.While a all))

  pub at_Sync : (line : ℕ) (a : ExprTree) (all : List StmtTree) →
      fold-StmtTree A B f g (statement line (s.Sync a all)) ≡ g (record { line = line; form = f (StmtForm-F.Sync a (map (fold-StmtTree A B f g) all)) })
  at_Sync line a all = statement_by line (s.Sync a all) (f (StmtForm-F.Sync a (map (fold-StmtTree A B f g) all))) (ap (fold-StmtForm A B f g) (sym (s.rolls-Sync a all)) ∙ fold-roll-StmtForm A B f g (StmtForm-F.Sync a all))

  pub at_Wait : (line : ℕ) (a : ExprTree) →
      fold-StmtTree A B f g (statement line (s.Wait a)) ≡ g (record { line = line; form = f (StmtForm-F.Wait a) })
  at_Wait line a = statement_by line (s.Wait a) (f (StmtForm-F.Wait a)) (ap (fold-StmtForm A B f g) (sym (s.rolls-Wait a)) ∙ fold-roll-StmtForm A B f g (StmtForm-F.Wait a))

  pub at_TimedWait : (line : ℕ) (a : ExprTree) (b : ExprTree) →
      fold-StmtTree A B f g (statement line (s.TimedWait a b)) ≡ g (record { line = line; form = f (StmtForm-F.TimedWait a b) })
  at_TimedWait line a b = statement_by line (s.TimedWait a b) (f (StmtForm-F.TimedWait a b)) (ap (fold-StmtForm A B f g) (sym (s.rolls-TimedWait a b)) ∙ fold-roll-StmtForm A B f g (StmtForm-F.TimedWait a b))

  pub at_Notify : (line : ℕ) (a : ExprTree) →
      fold-StmtTree A B f g (statement line (s.Notify a)) ≡ g (record { line = line; form = f (StmtForm-F.Notify a) })
  at_Notify line a = statement_by line (s.Notify a) (f (StmtForm-F.Notify a)) (ap (fold-StmtForm A B f g) (sym (s.rolls-Notify a)) ∙ fold-roll-StmtForm A B f g (StmtForm-F.Notify a))

  pub at_NotifyAll : (line : ℕ) (a : ExprTree) →
      fold-StmtTree A B f g (statement line (s.NotifyAll a)) ≡ g (record { line = line; form = f (StmtForm-F.NotifyAll a) })
  at_NotifyAll line a = statement_by line (s.NotifyAll a) (f (StmtForm-F.NotifyAll a)) (ap (fold-StmtForm A B f g) (sym (s.rolls-NotifyAll a)) ∙ fold-roll-StmtForm A B f g (StmtForm-F.NotifyAll a))

  pub at_Print : (line : ℕ) (a : ExprTree) →
      fold-StmtTree A B f g (statement line (s.Print a)) ≡ g (record { line = line; form = f (StmtForm-F.Print a) })
  at_Print line a = statement_by line (s.Print a) (f (StmtForm-F.Print a)) (ap (fold-StmtForm A B f g) (sym (s.rolls-Print a)) ∙ fold-roll-StmtForm A B f g (StmtForm-F.Print a))

  pub at_Return : (line : ℕ) (a : Option ExprTree) →
      fold-StmtTree A B f g (statement line (s.Return a)) ≡ g (record { line = line; form = f (StmtForm-F.Return a) })
  at_Return line a = statement_by line (s.Return a) (f (StmtForm-F.Return a)) (ap (fold-StmtForm A B f g) (sym (s.rolls-Return a)) ∙ fold-roll-StmtForm A B f g (StmtForm-F.Return a))

-- What a statement mentions and means, by its form.
use Rattle.std.proofs.Common.{◌≡◌, ℕ, List, ◌∷◌, ◌++◌, map, Option, sym, subst, ap, ◌∙◌}
use Rattle.dso_machine.specs.declared.tree.Expr.{Expr}
use Rattle.dso_machine.specs.declared.tree.Stmt.{Stmt}
use Rattle.dso_syntax.specs.declared.tree.Ident.{Ident}
use Rattle.dso_syntax.specs.declared.tree.ExprTree.{ExprTree}
use Rattle.dso_syntax.specs.declared.tree.ExprForm.TheVariants as e
use Rattle.dso_syntax.specs.declared.tree.StmtTree.{StmtTree, out-StmtTree}
use Rattle.dso_syntax.specs.declared.tree.StmtForm.{StmtForm}
use Rattle.dso_syntax.specs.declared.tree.StmtForm.TheVariants as s
use Rattle.dso_syntax.specs.Grammar as grammar
use Rattle.dso_syntax.specs.ProgramGrammar as program
use Rattle.dso_config_entries.specs.Words.{Word}
use Rattle.dso_class.specs.Mentions.{Owner, step_of, statement, block, answer, expression, on, variable, synchronized}
use Rattle.dso_class.specs.Numbers.{Numbers, MeansExpr, MeansStmt, put_root, put_field}
use Rattle.dso_class.specs.StatementWalk.{PutsNamed, to_root, to_field}
use Rattle.dso_class.proofs.mentions.TreeFolds as folds

-- a statement is that of its line and its form
pub stmt_is : (tree : StmtTree) (form : StmtForm) → (out-StmtTree tree).form ≡ form → tree ≡ program.statement (out-StmtTree tree).line form
stmt_is tree form is = ap (λ same. program.statement (out-StmtTree tree).line same) is

-- what means a statement of this line and form means the tree
pub of_stmt : (n : Numbers) (tree : StmtTree) (form : StmtForm) (given : Stmt) → (out-StmtTree tree).form ≡ form → MeansStmt n (program.statement (out-StmtTree tree).line form) given → MeansStmt n tree given
of_stmt n tree form given is = subst (λ same. MeansStmt n same given) (sym (stmt_is tree form is))

-- what stands behind a bare name and a dot is given a value
pub named_means : (n : Numbers) (owner : Word) (name : Ident) (line : ℕ) (tree : ExprTree) (value : Expr) (given : Stmt) → MeansExpr n tree value → PutsNamed n owner name.name value given → (at from : ℕ)
    → MeansStmt n (program.statement at (s.Assign (grammar.expression from (e.Field (grammar.expression line (e.Name owner)) name)) tree)) given
named_means all owner name line tree value _ means (to_root numbered) at from = put_root from line numbered means
named_means all owner name line tree value _ means (to_field numbered puts) at from =
    subst (λ same. MeansStmt all (program.statement at (s.Assign (grammar.expression from (e.Field (grammar.expression line (e.Name owner)) name)) tree)) same) (sym puts.is) (put_field from (MeansExpr.variable numbered) puts.place means)

-- what each form of a statement mentions
pub at_var : (owner : Owner) (tree : StmtTree) (name : Ident) (a : ExprTree) (known : List Word) → (out-StmtTree tree).form ≡ s.Var name a → (statement owner tree).mentions known ≡ on name.line (variable name.name) ∷ (expression owner a).mentions known
at_var owner tree name a known is = ap (λ one. one.mentions known) (ap (statement owner) (stmt_is tree (s.Var name a) is) ∙ folds.at_Var (step_of owner) (λ tree. tree.form tree.line) (out-StmtTree tree).line name a)

pub at_assign : (owner : Owner) (tree : StmtTree) (a : ExprTree) (b : ExprTree) (known : List Word) → (out-StmtTree tree).form ≡ s.Assign a b → (statement owner tree).mentions known ≡ (expression owner a).mentions known ++ (expression owner b).mentions known
at_assign owner tree a b known is = ap (λ one. one.mentions known) (ap (statement owner) (stmt_is tree (s.Assign a b) is) ∙ folds.at_Assign (step_of owner) (λ tree. tree.form tree.line) (out-StmtTree tree).line a b)

pub at_eval : (owner : Owner) (tree : StmtTree) (a : ExprTree) (known : List Word) → (out-StmtTree tree).form ≡ s.Eval a → (statement owner tree).mentions known ≡ (expression owner a).mentions known
at_eval owner tree a known is = ap (λ one. one.mentions known) (ap (statement owner) (stmt_is tree (s.Eval a) is) ∙ folds.at_Eval (step_of owner) (λ tree. tree.form tree.line) (out-StmtTree tree).line a)

pub at_if : (owner : Owner) (tree : StmtTree) (a : ExprTree) (all : List StmtTree) (others : List StmtTree) (known : List Word) → (out-StmtTree tree).form ≡ s.If a all others → (statement owner tree).mentions known ≡ (expression owner a).mentions known ++ (block (map (statement owner) all) known ++ block (map (statement owner) others) known)
at_if owner tree a all others known is = ap (λ one. one.mentions known) (ap (statement owner) (stmt_is tree (s.If a all others) is) ∙ folds.at_If (step_of owner) (λ tree. tree.form tree.line) (out-StmtTree tree).line a all others)

pub at_while : (owner : Owner) (tree : StmtTree) (a : ExprTree) (all : List StmtTree) (known : List Word) → (out-StmtTree tree).form ≡ s.While a all → (statement owner tree).mentions known ≡ (expression owner a).mentions known ++ block (map (statement owner) all) known
at_while owner tree a all known is = ap (λ one. one.mentions known) (ap (statement owner) (stmt_is tree (s.While a all) is) ∙ folds.at_While (step_of owner) (λ tree. tree.form tree.line) (out-StmtTree tree).line a all)

pub at_sync : (owner : Owner) (tree : StmtTree) (a : ExprTree) (all : List StmtTree) (known : List Word) → (out-StmtTree tree).form ≡ s.Sync a all → (statement owner tree).mentions known ≡ on (out-StmtTree tree).line (synchronized owner.class owner.method) ∷ ((expression owner a).mentions known ++ block (map (statement owner) all) known)
at_sync owner tree a all known is = ap (λ one. one.mentions known) (ap (statement owner) (stmt_is tree (s.Sync a all) is) ∙ folds.at_Sync (step_of owner) (λ tree. tree.form tree.line) (out-StmtTree tree).line a all)

pub at_wait : (owner : Owner) (tree : StmtTree) (a : ExprTree) (known : List Word) → (out-StmtTree tree).form ≡ s.Wait a → (statement owner tree).mentions known ≡ (expression owner a).mentions known
at_wait owner tree a known is = ap (λ one. one.mentions known) (ap (statement owner) (stmt_is tree (s.Wait a) is) ∙ folds.at_Wait (step_of owner) (λ tree. tree.form tree.line) (out-StmtTree tree).line a)

pub at_timed_wait : (owner : Owner) (tree : StmtTree) (a : ExprTree) (b : ExprTree) (known : List Word) → (out-StmtTree tree).form ≡ s.TimedWait a b → (statement owner tree).mentions known ≡ (expression owner a).mentions known ++ (expression owner b).mentions known
at_timed_wait owner tree a b known is = ap (λ one. one.mentions known) (ap (statement owner) (stmt_is tree (s.TimedWait a b) is) ∙ folds.at_TimedWait (step_of owner) (λ tree. tree.form tree.line) (out-StmtTree tree).line a b)

pub at_notify : (owner : Owner) (tree : StmtTree) (a : ExprTree) (known : List Word) → (out-StmtTree tree).form ≡ s.Notify a → (statement owner tree).mentions known ≡ (expression owner a).mentions known
at_notify owner tree a known is = ap (λ one. one.mentions known) (ap (statement owner) (stmt_is tree (s.Notify a) is) ∙ folds.at_Notify (step_of owner) (λ tree. tree.form tree.line) (out-StmtTree tree).line a)

pub at_notify_all : (owner : Owner) (tree : StmtTree) (a : ExprTree) (known : List Word) → (out-StmtTree tree).form ≡ s.NotifyAll a → (statement owner tree).mentions known ≡ (expression owner a).mentions known
at_notify_all owner tree a known is = ap (λ one. one.mentions known) (ap (statement owner) (stmt_is tree (s.NotifyAll a) is) ∙ folds.at_NotifyAll (step_of owner) (λ tree. tree.form tree.line) (out-StmtTree tree).line a)

pub at_print : (owner : Owner) (tree : StmtTree) (a : ExprTree) (known : List Word) → (out-StmtTree tree).form ≡ s.Print a → (statement owner tree).mentions known ≡ (expression owner a).mentions known
at_print owner tree a known is = ap (λ one. one.mentions known) (ap (statement owner) (stmt_is tree (s.Print a) is) ∙ folds.at_Print (step_of owner) (λ tree. tree.form tree.line) (out-StmtTree tree).line a)

pub at_return : (owner : Owner) (tree : StmtTree) (a : Option ExprTree) (known : List Word) → (out-StmtTree tree).form ≡ s.Return a → (statement owner tree).mentions known ≡ answer owner a known
at_return owner tree a known is = ap (λ one. one.mentions known) (ap (statement owner) (stmt_is tree (s.Return a) is) ∙ folds.at_Return (step_of owner) (λ tree. tree.form tree.line) (out-StmtTree tree).line a)

-- How much there is to do before the next request or move.
use Rattle.std.specs.Prelude.{ℕ, ◌+◌, List, [], ◌∷◌, map, Option, None, Some}
use Rattle.dso_machine.specs.declared.machine.Core.{Core}
use Rattle.dso_machine.specs.declared.continuation.Monitor.{Monitor}
use Rattle.dso_machine.specs.declared.continuation.Monitor.TheVariants as monitor
use Rattle.dso_machine.specs.declared.continuation.Now.{Now}
use Rattle.dso_machine.specs.declared.continuation.Now.TheVariants as now
use Rattle.dso_machine.specs.declared.continuation.OnValue.{OnValue}
use Rattle.dso_machine.specs.declared.continuation.OnValue.TheVariants as then
use Rattle.dso_machine.specs.declared.continuation.Step.{Step}
use Rattle.dso_machine.specs.declared.continuation.Task.{Task}
use Rattle.dso_machine.specs.declared.continuation.Task.TheVariants as task
use Rattle.dso_machine.specs.declared.continuation.Writing.{Writing}
use Rattle.dso_machine.specs.declared.continuation.Writing.TheVariants as write
use Rattle.dso_machine.specs.declared.tree.Expr.{Expr, Expr-F, fold-Expr}
use Rattle.dso_machine.specs.declared.tree.Expr.TheOpen as e
use Rattle.dso_machine.specs.declared.tree.Stmt.{Stmt, Stmt-F, fold-Stmt}
use Rattle.dso_machine.specs.declared.tree.Stmt.TheOpen as s

-- the weight of a list of parts
abbrev pub list_weight : List ℕ → ℕ
list_weight [] = 3
list_weight (x ∷ xs) = x + list_weight xs + 2

-- the weight of an expression, by those of its parts
abbrev pub expr_weight_step : Expr-F ℕ → ℕ
expr_weight_step (e.Field a f) = a + 2
expr_weight_step (e.Elem a b) = a + b + 2
expr_weight_step (e.Call a callees args) = a + list_weight args + 2
expr_weight_step (e.NewArray kind a) = a + 2
expr_weight_step (e.Unary o a) = a + 2
expr_weight_step (e.Binary o a b) = a + b + 2
expr_weight_step leaf = 3

-- the weight of an expression
abbrev pub expr_weight : Expr → ℕ
expr_weight = fold-Expr ℕ expr_weight_step

-- the weight of arguments
abbrev pub arguments_weight : List Expr → ℕ
arguments_weight xs = list_weight (map expr_weight xs)

-- the weight of what may be returned
abbrev pub returned_weight : Option Expr → ℕ
returned_weight None = 3
returned_weight (Some a) = expr_weight a + 2

-- the weight of a statement, by those of its parts; a loop weighs little, since its turns are moves
abbrev pub stmt_weight_step : Stmt-F ℕ → ℕ
stmt_weight_step (s.Assign i a) = expr_weight a + 2
stmt_weight_step (s.PutField a f b) = expr_weight a + expr_weight b + 2
stmt_weight_step (s.PutElem a b c) = expr_weight a + expr_weight b + expr_weight c + 3
stmt_weight_step (s.PutRoot r a) = expr_weight a + 2
stmt_weight_step (s.Eval a) = expr_weight a + 1
stmt_weight_step (s.If a x y) = expr_weight a + list_weight x + list_weight y + 2
stmt_weight_step (s.While a x) = 4
stmt_weight_step (s.Sync a grade x) = expr_weight a + list_weight x + 2
stmt_weight_step (s.Wait a) = expr_weight a + 2
stmt_weight_step (s.TimedWait a b) = expr_weight a + expr_weight b + 2
stmt_weight_step (s.Notify a) = expr_weight a + 2
stmt_weight_step (s.NotifyAll a) = expr_weight a + 2
stmt_weight_step (s.Print a) = expr_weight a + 2
stmt_weight_step (s.Return a) = returned_weight a

-- the weight of a statement
abbrev pub stmt_weight : Stmt → ℕ
stmt_weight = fold-Stmt ℕ stmt_weight_step

-- the weight of statements
abbrev pub block_weight : List Stmt → ℕ
block_weight ss = list_weight (map stmt_weight ss)

-- the weight of what is written
abbrev pub write_weight : Writing → ℕ
write_weight (write.FieldOf f b) = expr_weight b + 1
write_weight (write.ElementOf b c) = expr_weight b + expr_weight c + 2
write_weight (write.ElementAt x c) = expr_weight c + 1
write_weight other = 1

-- the weight of what is done with a monitor
abbrev pub monitor_weight : Monitor → ℕ
monitor_weight (monitor.Sync grade x) = block_weight x + 1
monitor_weight (monitor.TimedWait b) = expr_weight b + 1
monitor_weight other = 1

-- the weight of what is done with a value
abbrev pub use_weight : OnValue → ℕ
use_weight (then.Array b) = expr_weight b + 1
use_weight (then.Object callees args) = arguments_weight args + 1
use_weight (then.Argument callees x before rest) = arguments_weight rest + 1
use_weight (then.First o b) = expr_weight b + 1
use_weight (then.If x y) = block_weight x + block_weight y + 1
use_weight (then.While a x) = block_weight x + 1
use_weight (then.Again a x) = 2
use_weight (then.Write w) = write_weight w
use_weight (then.Monitor m) = monitor_weight m
use_weight (then.Next ss) = block_weight ss + 1
use_weight other = 1

-- the weight of a task of the continuation
abbrev pub task_weight : Task → ℕ
task_weight (task.Then t) = use_weight t
task_weight (task.Back frame) = 1
task_weight (task.Leave l grade) = 1
task_weight (task.Close l) = 1
task_weight (task.Mapped call) = 1

-- the weight of a continuation
abbrev pub tasks_weight : List Task → ℕ
tasks_weight [] = 0
tasks_weight (t ∷ ts) = task_weight t + tasks_weight ts

-- the weight of what the thread is about to do
abbrev pub now_weight : Now → ℕ
now_weight (now.Evaluate a) = expr_weight a
now_weight (now.Arguments callees x before rest) = arguments_weight rest
now_weight (now.Execute s) = stmt_weight s
now_weight (now.Run ss) = block_weight ss
now_weight (now.Pace a) = 3
now_weight (now.Have end) = 2
now_weight other = 0

-- the weight of a task that may be there
abbrev pub then_weight : Option Task → ℕ
then_weight None = 0
then_weight (Some t) = task_weight t

-- the weight of what comes of a step
abbrev pub step_weight : Step → ℕ
step_weight step = now_weight step.now + then_weight step.then

-- the weight of all that is left of a thread: what it is about to do, and its continuation
abbrev pub weigh : Now → Core → ℕ
weigh a core = now_weight a + tasks_weight core.tasks

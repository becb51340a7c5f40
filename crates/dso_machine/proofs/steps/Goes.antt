-- A step, and what it goes on to at once.
use Rattle.std.proofs.Common.{◌≡◌, ◌∷◌, ◌++◌, List, Option, Some, None, ◌+◌, ◌<◌, ◌≤◌, refl, ap, sym, subst, arith}
use Rattle.std.specs.Option.{option_to_list}
use Rattle.std.specs.Prelude.{Result, Ok, Err, IfOk}
use Rattle.dso_base.specs.declared.no_memory.NoMemory.{NoMemory}
use Rattle.dso_base.specs.declared.request.Fault.{Fault}
use Rattle.dso_base.specs.declared.value.Value.{Value}
use Rattle.dso_machine.specs.declared.code.Code.{Code}
use Rattle.dso_machine.specs.declared.machine.Core.{Core}
use Rattle.dso_machine.specs.declared.continuation.End.TheVariants as end
use Rattle.dso_machine.specs.declared.continuation.Frame.{Frame}
use Rattle.dso_machine.specs.declared.continuation.Move.TheVariants as move
use Rattle.dso_machine.specs.declared.continuation.Now.{Now}
use Rattle.dso_machine.specs.declared.continuation.Now.TheVariants as now
use Rattle.dso_machine.specs.declared.continuation.OnValue.{OnValue}
use Rattle.dso_machine.specs.declared.continuation.OnValue.TheVariants as then
use Rattle.dso_machine.specs.declared.continuation.Step.{Step}
use Rattle.dso_machine.specs.declared.continuation.Task.{Task}
use Rattle.dso_machine.specs.declared.continuation.Task.TheVariants as task
use Rattle.dso_machine.specs.declared.tree.Expr.{Expr}
use Rattle.dso_machine.specs.declared.tree.Stmt.{Stmt}
use Rattle.dso_machine.specs.Continuation.{Opens, Executes, Uses, Keeps, MakesMove, alone, used, with_then}
use Rattle.dso_machine.specs.KnownValues.{Knows}
use Rattle.dso_machine.specs.Limits.{most_moves}
use Rattle.dso_machine.specs.Weight.{weigh, now_weight, task_weight, tasks_weight, step_weight}
use Rattle.dso_machine.proofs.standing.AfterReplies.{turned_on}
use Rattle.dso_machine.proofs.steps.Steps.{opens_keep, executes_keep, uses_keep, passes_fail, keeps_then, keeps_same}

module _ (code : Code) where
  -- an expression whose value is known has it
  pub has_value : (a : Expr) (v : Value) (core : Core) → Knows code a core.frame (Ok v) → Keeps code (now.Evaluate a) core (now.Have (end.Gives v)) core
  has_value a v core h = opens_keep code (now.Evaluate a) core (record { now = now.Have (end.Gives v); then = None }) (record { opens = λ n k m rs. h.knows n k m rs })

  -- an expression whose fault is known has failed
  pub has_failed : (a : Expr) (fault : Fault) (core : Core) → Knows code a core.frame (Err fault) → Keeps code (now.Evaluate a) core (now.Have (end.Fails fault)) core
  has_failed a fault core h = opens_keep code (now.Evaluate a) core (record { now = now.Have (end.Fails fault); then = None }) (record { opens = λ n k m rs. h.knows n k m rs })

  -- a known value is used by the task on top
  pub value_used : (a : Expr) (v : Value) (t : OnValue) (core : Core) (b : Now) (next : Core) → Knows code a core.frame (Ok v)
      → Keeps code (now.Have (end.Gives v)) (with_then (Some (task.Then t)) core) b next → Keeps code (now.Evaluate a) (with_then (Some (task.Then t)) core) b next
  value_used a v t core b next h k = keeps_then code _ _ _ _ _ _ (has_value a v (record core { tasks = task.Then t ∷ core.tasks }) h) k

  -- a known fault passes the task on top
  pub fault_passes : (a : Expr) (fault : Fault) (t : OnValue) (core : Core) → Knows code a core.frame (Err fault)
      → Keeps code (now.Evaluate a) (with_then (Some (task.Then t)) core) (now.Have (end.Fails fault)) core
  fault_passes a fault t core h = keeps_then code _ _ _ _ _ _ (has_failed a fault (record core { tasks = task.Then t ∷ core.tasks }) h) (passes_fail code fault t core)

  -- a known value is the end of the part
  pub value_closes : (a : Expr) (v : Value) (core : Core) (b : Now) (next : Core) → Knows code a core.frame (Ok v) → Keeps code (now.Have (end.Gives v)) core b next
      → Keeps code (now.Evaluate a) core b next
  value_closes a v core b next h k = keeps_then code _ _ _ _ _ _ (has_value a v core h) k

  -- a known fault is the end of the part
  pub fault_closes : (a : Expr) (fault : Fault) (core : Core) (b : Now) (next : Core) → Knows code a core.frame (Err fault) → Keeps code (now.Have (end.Fails fault)) core b next
      → Keeps code (now.Evaluate a) core b next
  fault_closes a fault core b next h k = keeps_then code _ _ _ _ _ _ (has_failed a fault core h) k

  -- a part is begun, and what comes of the step goes on
  pub opens_on : (a : Now) (core : Core) (step : Step) (b : Now) (next : Core) → Opens code a core.frame step → Keeps code step.now (with_then step.then core) b next → Keeps code a core b next
  opens_on a core step b next h k = keeps_then code _ _ _ _ _ _ (opens_keep code a core step h) k

  -- a statement is begun, and what comes of the step goes on
  pub executes_on : (s : Stmt) (core : Core) (step : Step) (b : Now) (next : Core) → Executes code s core.frame step → Keeps code step.now (with_then step.then core) b next
      → Keeps code (now.Execute s) core b next
  executes_on s core step b next h k = keeps_then code _ _ _ _ _ _ (executes_keep code s core step h) k

  -- a value is used, and what comes of the step goes on
  pub uses_on : (t : OnValue) (v : Value) (core : Core) (step : Step) (frame : Frame) (b : Now) (next : Core) → Uses code t v core.frame step frame
      → Keeps code step.now (with_then step.then (record core { frame = frame })) b next → Keeps code (now.Have (end.Gives v)) (record core { tasks = task.Then t ∷ core.tasks }) b next
  uses_on t v core step frame b next h k = keeps_then code _ _ _ _ _ _ (uses_keep code t v core step frame h) k

  -- after a move
  pub moves_on : (a b c : Now) (core mid last : Core) → MakesMove code a core b mid → Keeps code b mid c last → MakesMove code a core c last
  moves_on a b c core mid last x y = record { makes = λ N rs o h. y.keeps N rs o (x.makes N rs o h) }

-- a value that is known is used at once, and goes on if there is memory
pub used_at_once : (a : Expr) (v : Value) (t : OnValue) (core : Core) (result : Result Now NoMemory) (next : Core) → ((code : Code) → Knows code a core.frame (Ok v))
    → IfOk result (λ b. (code : Code) → Keeps code (now.Have (end.Gives v)) (with_then (Some (task.Then t)) core) b next)
    → IfOk result (λ b. (code : Code) → Keeps code (now.Evaluate a) (with_then (Some (task.Then t)) core) b next)
used_at_once a v t core (Ok b) next h k = λ code. value_used code a v t core b next (h code) (k code)
used_at_once a v t core (Err e) next h k = tt

-- a turn of a loop whose condition is known
pub turned_at_once : (a : Expr) (x : List Stmt) (v : Value) (core : Core) (result : Result Now NoMemory) (next : Core) → core.moves < most_moves
    → ((code : Code) → Knows code a core.frame (Ok v))
    → IfOk result (λ b. (code : Code) → Keeps code (now.Have (end.Gives v)) (with_then (Some (task.Then (then.While a x))) (record core { moves = core.moves + 1 })) b next)
    → IfOk result (λ b. (code : Code) → MakesMove code (now.Pace (move.Turn a x)) core b next)
turned_at_once a x v core (Ok b) next few h k = λ code.
    moves_on code _ _ _ _ _ _ (turned_on code core a x few) (value_used code a v (then.While a x) (record core { moves = core.moves + 1 }) b next (record { knows = (h code).knows }) (k code))
turned_at_once a x v core (Err e) next few h k = tt

-- a turn of a loop whose condition is known to fail
pub turned_to_fault : (code : Code) (a : Expr) (x : List Stmt) (fault : Fault) (core : Core) → core.moves < most_moves → Knows code a core.frame (Err fault)
    → MakesMove code (now.Pace (move.Turn a x)) core (now.Have (end.Fails fault)) (record core { moves = core.moves + 1 })
turned_to_fault code a x fault core few h =
    moves_on code _ _ _ _ _ _ (turned_on code core a x few) (fault_passes code a fault (then.While a x) (record core { moves = core.moves + 1 }) (record { knows = h.knows }))

-- a task that may be there is put on top, and what comes before it stays
pub put_on : (a : Now) (t : Option Task) (core : Core) (tasks : List Task) → tasks ≡ option_to_list t ++ core.tasks
    → (code : Code) → Keeps code a (with_then t core) a (record core { tasks = tasks })
put_on a None core tasks at = λ code. subst (λ ts. Keeps code a core a (record core { tasks = ts })) (sym at) (keeps_same code a core)
put_on a (Some t) core tasks at = λ code.
    let on : Core = record core { tasks = t ∷ core.tasks } in
    subst (λ ts. Keeps code a on a (record core { tasks = ts })) (sym at) (keeps_same code a on)

-- what was put on top weighs what the step weighs
pub put_weighs : (a : Now) (t : Option Task) (core : Core) (tasks : List Task) → tasks ≡ option_to_list t ++ core.tasks
    → weigh a (record core { tasks = tasks }) ≤ step_weight (record { now = a; then = t }) + tasks_weight core.tasks
put_weighs a None core tasks at =
    let y : tasks_weight tasks ≡ tasks_weight core.tasks = ap tasks_weight at in
    omega arith
put_weighs a (Some t) core tasks at =
    let y : tasks_weight tasks ≡ task_weight t + tasks_weight core.tasks = ap tasks_weight at in
    omega arith

-- a value is used in whatever frame, and what comes of the step is followed
pub uses_followed : (t : OnValue) (v : Value) (core : Core) (step : Step) (result : Result Now NoMemory) (next : Core)
    → ((code : Code) (frame : Frame) → Uses code t v frame step frame) → IfOk result (λ b. b ≡ step.now)
    → IfOk result (λ b. next ≡ with_then step.then core)
    → IfOk result (λ b. (code : Code) → Keeps code (now.Have (end.Gives v)) (with_then (Some (task.Then t)) core) b next)
uses_followed t v core step (Ok b) next uses is at = λ code.
    let on : Core = record core { tasks = task.Then t ∷ core.tasks } in
    subst (λ x. Keeps code (now.Have (end.Gives v)) on x next) (sym is)
    (subst (λ x. Keeps code (now.Have (end.Gives v)) on step.now x) (sym at) (uses_keep code t v core step core.frame (uses code core.frame)))
uses_followed t v core step (Err e) next uses is at = tt

-- statements that come next begin, if there is memory
pub next_goes : (v : Value) (ss : List Stmt) (core : Core) (result : Result Now NoMemory) (next : Core)
    → IfOk result (λ b. (code : Code) → Keeps code (now.Run ss) core b next)
    → IfOk result (λ b. (code : Code) → Keeps code (now.Have (end.Gives v)) (with_then (Some (task.Then (then.Next ss))) core) b next)
next_goes v ss core (Ok b) next k = λ code.
    uses_on code (then.Next ss) v core (alone (now.Run ss)) core.frame b next (record { uses = λ n k m u rs. refl }) (k code)
next_goes v ss core (Err e) next k = tt

-- the first of some statements begins, and the others come after it
pub first_goes : (ss : List Stmt) (s : Stmt) (rest : List Stmt) (core : Core) (tasks : List Task) (result : Result Now NoMemory) (next : Core) → ss ≡ s ∷ rest
    → tasks ≡ task.Then (then.Next rest) ∷ core.tasks
    → IfOk result (λ b. (code : Code) → Keeps code (now.Execute s) (record core { tasks = tasks }) b next)
    → IfOk result (λ b. (code : Code) → Keeps code (now.Run ss) core b next)
first_goes ss s rest core tasks (Ok b) next is at k = λ code.
    rw is (opens_on code (now.Run (s ∷ rest)) core (used (now.Execute s) (then.Next rest)) b next (record { opens = λ n k m u rs. refl }) (rw at at (k code)))
first_goes ss s rest core tasks (Err e) next is at k = tt

-- a part is begun, and goes on if there is memory
pub opens_goes : (a : Now) (core : Core) (step : Step) (result : Result Now NoMemory) (next : Core) → ((code : Code) → Opens code a core.frame step)
    → IfOk result (λ b. (code : Code) → Keeps code step.now (with_then step.then core) b next) → IfOk result (λ b. (code : Code) → Keeps code a core b next)
opens_goes a core step (Ok b) next h k = λ code. opens_on code a core step b next (h code) (k code)
opens_goes a core step (Err e) next h k = tt

-- a statement is begun, and goes on if there is memory
pub executes_goes : (s : Stmt) (core : Core) (step : Step) (result : Result Now NoMemory) (next : Core) → ((code : Code) → Executes code s core.frame step)
    → IfOk result (λ b. (code : Code) → Keeps code step.now (with_then step.then core) b next) → IfOk result (λ b. (code : Code) → Keeps code (now.Execute s) core b next)
executes_goes s core step (Ok b) next h k = λ code. executes_on code s core step b next (h code) (k code)
executes_goes s core step (Err e) next h k = tt

-- a value is used, and what comes of it goes on if there is memory
pub uses_goes : (t : OnValue) (v : Value) (core : Core) (step : Step) (frame : Frame) (result : Result Now NoMemory) (next : Core)
    → ((code : Code) → Uses code t v core.frame step frame) → IfOk result (λ b. (code : Code) → Keeps code step.now (with_then step.then (record core { frame = frame })) b next)
    → IfOk result (λ b. (code : Code) → Keeps code (now.Have (end.Gives v)) (record core { tasks = task.Then t ∷ core.tasks }) b next)
uses_goes t v core step frame (Ok b) next h k = λ code. uses_on code t v core step frame b next (h code) (k code)
uses_goes t v core step frame (Err e) next h k = tt

-- a value that is known closes the part, if there is memory
pub value_goes : (a : Expr) (v : Value) (core : Core) (result : Result Now NoMemory) (next : Core) → ((code : Code) → Knows code a core.frame (Ok v))
    → IfOk result (λ b. (code : Code) → Keeps code (now.Have (end.Gives v)) core b next) → (code : Code) → IfOk result (λ b. Keeps code (now.Evaluate a) core b next)
value_goes a v core (Ok b) next h k code = value_closes code a v core b next (h code) (k code)
value_goes a v core (Err e) next h k code = tt

-- a fault that is known closes the part, if there is memory
pub fault_goes : (a : Expr) (fault : Fault) (core : Core) (result : Result Now NoMemory) (next : Core) → ((code : Code) → Knows code a core.frame (Err fault))
    → IfOk result (λ b. (code : Code) → Keeps code (now.Have (end.Fails fault)) core b next) → (code : Code) → IfOk result (λ b. Keeps code (now.Evaluate a) core b next)
fault_goes a fault core (Ok b) next h k code = fault_closes code a fault core b next (h code) (k code)
fault_goes a fault core (Err e) next h k code = tt

pub ruleset begins = (value_used, fault_passes, keeps_same)

pub ruleset goes = (value_closes, fault_closes, opens_on, executes_on, uses_on)

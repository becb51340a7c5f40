-- What is left of a thread that runs: what it is about to do, and its continuation, in the words of what the code
-- means.
use Rattle.std.specs.Prelude.{◌≡◌, ℕ, ◌+◌, ◌*◌, ◌≤◌, ◌<◌, suc, List, [], ◌∷◌, ◌++◌, length, map, Option, None, Some}
use Rattle.dso_base.specs.declared.lock.LockName.TheVariants.{Mon}
use Rattle.dso_base.specs.declared.request.Reply.{Reply}
use Rattle.dso_base.specs.declared.request.Request.TheVariants as request
use Rattle.dso_base.specs.declared.value.Value.{Value}
use Rattle.dso_base.specs.declared.value.Value.TheVariants as value
use Rattle.dso_map.specs.declared.map_call.MapCall.{MapCall}
use Rattle.dso_map.specs.Calls.{rest_of}
use Rattle.dso_machine.specs.declared.code.Code.{Code}
use Rattle.dso_machine.specs.declared.code.ThreadBody.{ThreadBody}
use Rattle.dso_machine.specs.declared.machine.Core.{Core}
use Rattle.dso_machine.specs.declared.continuation.End.{End}
use Rattle.dso_machine.specs.declared.continuation.End.TheVariants as end
use Rattle.dso_machine.specs.declared.continuation.Frame as table_frame
use Rattle.dso_machine.specs.declared.continuation.Locked.{Locked}
use Rattle.dso_machine.specs.declared.continuation.Locked.TheVariants as locked
use Rattle.dso_machine.specs.declared.continuation.Monitor.{Monitor}
use Rattle.dso_machine.specs.declared.continuation.Monitor.TheVariants as monitor
use Rattle.dso_machine.specs.declared.continuation.Move.{Move}
use Rattle.dso_machine.specs.declared.continuation.Move.TheVariants as move
use Rattle.dso_machine.specs.declared.continuation.Now.{Now}
use Rattle.dso_machine.specs.declared.continuation.Now.TheVariants as now
use Rattle.dso_machine.specs.declared.continuation.OnReply.{OnReply}
use Rattle.dso_machine.specs.declared.continuation.OnReply.TheVariants as reply
use Rattle.dso_machine.specs.declared.continuation.OnValue.{OnValue}
use Rattle.dso_machine.specs.declared.continuation.OnValue.TheVariants as then
use Rattle.dso_machine.specs.declared.continuation.Step.{Step}
use Rattle.dso_machine.specs.declared.continuation.Task.{Task}
use Rattle.dso_machine.specs.declared.continuation.Task.TheVariants as task
use Rattle.dso_machine.specs.declared.continuation.Writing.{Writing}
use Rattle.dso_machine.specs.declared.continuation.Writing.TheVariants as write
use Rattle.dso_machine.specs.declared.tree.Expr.{Expr}
use Rattle.dso_machine.specs.declared.tree.Stmt.{Stmt}
use Rattle.dso_machine.specs.Calls.{back_in, under_monitor, call_in, call_on, arguments}
use Rattle.dso_machine.specs.Expressions.{field_of, field_in, element_of, element_in, new_array, a_boolean, second}
use Rattle.dso_machine.specs.Expressions.{expr}
use Rattle.dso_machine.specs.Limits.{most_moves}
use Rattle.dso_machine.specs.Maps.{told, told_reply, args_of}
use Rattle.dso_machine.specs.Outcome.{Environment, State, Outcome, Gives, Leaves, Fails, Over, Meaning, on_value}
use Rattle.dso_machine.specs.Outcome.{on_reply, on_next, on_next_beside, on_object, result_of, ask, asking, done, made}
use Rattle.dso_machine.specs.Outcome.{got, seen, tell, get, getting, moved, moving, settling, leave}
use Rattle.dso_machine.specs.Outcome.{entered, with_outer, letting_go, monitor_of}
use Rattle.dso_machine.specs.Statements.{assign, put_field, put_field_in, put_element, put_element_in, bind_null}
use Rattle.dso_machine.specs.Statements.{put_root, sync, unless_woken, timed_out, ticks, waiting, wait, timed_wait}
use Rattle.dso_machine.specs.Statements.{branch, turn, spun, stmt, block, methods}
use Rattle.dso_machine.specs.Values.{binary, unary}
use Rattle.dso_machine.specs.Next.{finish, whole}

-- a step after which nothing more is to be done
abbrev pub alone : Now → Step
alone a = record { now = a; then = None }

-- a step after which its value is used
abbrev pub used : Now → OnValue → Step
used a t = record { now = a; then = Some (task.Then t) }

-- the environment that a frame of the code stands for, where this is held for what comes after
abbrev pub environment_of : table_frame.Frame → List Value → Environment
environment_of frame outer = record { this = frame.this; vars = frame.vars; depth_left = frame.room; outer = outer }

-- how a part has ended
abbrev pub ended : End → Meaning
ended (end.Gives v) at = Gives v at
ended (end.Leaves v) at = Leaves v at
ended (end.Fails fault) at = Fails fault at

-- ---- what is held for what comes after a part, or after a request

-- by how a part has ended
abbrev pub end_values : End → List Value
end_values (end.Gives v) = v ∷ []
end_values (end.Leaves v) = v ∷ []
end_values (end.Fails fault) = []

-- by what is done under a lock
abbrev pub locked_values : Locked → List Value
locked_values (locked.Bind r v) = v ∷ []
locked_values other = []

-- by what is done with a reply
abbrev pub reply_values : OnReply → List Value
reply_values (reply.Call object callees args) = args
reply_values (reply.PutField object f v) = v ∷ []
reply_values (reply.PutElement object i v) = v ∷ []
reply_values (reply.Entered l grade part) = locked_values part
reply_values (reply.Left grade end) = end_values end
reply_values (reply.Settled end) = end_values end
reply_values (reply.Bind r v) = v ∷ []
reply_values other = []

-- by what is written
abbrev pub write_values : Writing → List Value
write_values (write.Field x f) = x ∷ []
write_values (write.ElementAt x c) = x ∷ []
write_values (write.Element x i) = x ∷ i ∷ []
write_values other = []

-- by what is done with a monitor
abbrev pub monitor_values : Monitor → List Value
monitor_values (monitor.WaitFor x) = x ∷ []
monitor_values other = []

-- by what is done with a value
abbrev pub use_values : OnValue → List Value
use_values (then.Index x) = x ∷ []
use_values (then.Argument callees x before rest) = x ∷ before
use_values (then.Second o x) = x ∷ []
use_values (then.Write w) = write_values w
use_values (then.Monitor m) = monitor_values m
use_values other = []

-- by a call of a map
abbrev pub map_values : MapCall → List Value
map_values call = value.Ref call.object ∷ args_of call.op

-- by a task of the continuation
abbrev pub task_values : Task → List Value
task_values (task.Then t) = use_values t
task_values (task.Back frame) = frame.this ∷ frame.vars
task_values (task.Leave l grade) = monitor_of l
task_values (task.Close l) = monitor_of l
task_values (task.Mapped call) = map_values call

-- by a continuation, the next task first
abbrev pub outer_of : List Task → List Value
outer_of [] = []
outer_of (t ∷ ts) = task_values t ++ outer_of ts

-- by what the thread is about to do
abbrev pub held_at : Now → List Value
held_at (now.Ask q on) = reply_values on
held_at other = []

-- Of this code, with at most n moves one inside another, and k turns of the loop that is spoken of.
module _ (code : Code) (n k : ℕ) where
  -- an expression
  abbrev pub expr_at : Expr → Meaning
  expr_at a = expr code (methods code n) a

  -- statements
  abbrev pub block_at : List Stmt → Meaning
  block_at ss = block code (methods code n) n ss

  -- a loop at its next turn
  abbrev pub loop_at : Expr → List Stmt → Meaning
  loop_at test body = moving (spun (expr_at test) (block_at body) k)

  -- what a move starts
  abbrev pub move_at : Move → Meaning
  move_at (move.Turn test body) = spun (expr_at test) (block_at body) k
  move_at (move.Body m) = methods code n m

  -- the body of a method that has its locks
  abbrev pub body_at : ℕ → Meaning
  body_at m = moving (methods code n m)

  -- what is done under a lock
  abbrev pub locked_at : Locked → Meaning
  locked_at (locked.Read r) at = get 0 r at
  locked_at (locked.Bind r v) at = on_value (bind_null r v) (getting (v ∷ []) 0 r at)
  locked_at (locked.Block ss) at = block_at ss at
  locked_at (locked.Monitor call) at = under_monitor call.synced call.object (body_at call.method) at
  locked_at (locked.Body m) at = body_at m at
  locked_at (locked.Map call) at = told call.object (rest_of call) at

  -- the arguments that are left, and then the call
  abbrev pub arguments_at : List (ℕ × ℕ) → Value → List Value → List Expr → Meaning
  arguments_at callees x before rest = arguments (call_on code (methods code n) callees x) x (map expr_at rest) before

  -- what is written
  abbrev pub written : Writing → Value → Meaning
  written (write.FieldOf f b) v at = on_next (put_field code.shape f) (expr_at b) v at
  written (write.Field x f) v at = put_field code.shape f x v at
  written (write.ElementOf b c) v at =
      on_next (λ x. on_next_beside (x ∷ []) (put_element x) (expr_at c)) (expr_at b) v at
  written (write.ElementAt x c) v at = on_next_beside (x ∷ []) (put_element x) (expr_at c) v at
  written (write.Element x i) v at = put_element x i v at
  written (write.Root r) v at = put_root r v at

  -- what is done with a monitor
  abbrev pub used_monitor : Monitor → Value → Meaning
  used_monitor (monitor.Sync grade body) v at = sync grade (block_at body) v at
  used_monitor monitor.Wait v at = on_object (λ object. wait 0 (Mon object)) v at
  used_monitor (monitor.TimedWait b) v at = on_next timed_wait (expr_at b) v at
  used_monitor (monitor.WaitFor x) v at = timed_wait x v at
  used_monitor monitor.Notify v at = on_object (λ object. tell (request.Notify (Mon object))) v at
  used_monitor monitor.NotifyAll v at = on_object (λ object. tell (request.NotifyAll (Mon object))) v at

  -- what is done with a value
  abbrev pub used_value : OnValue → Value → Meaning
  used_value (then.Field f) v at = field_of f v at
  used_value (then.Array b) v at = on_next element_of (expr_at b) v at
  used_value (then.Index x) v at = element_of x v at
  used_value (then.Object callees args) v at = arguments_at callees v [] args at
  used_value (then.Argument callees x before rest) v at = arguments_at callees x (before ++ v ∷ []) rest at
  used_value (then.Size kind) v at = new_array kind v at
  used_value (then.Operand o) v at = result_of (unary o v) at
  used_value (then.First o b) v at = second o (expr_at b) v at
  used_value (then.Second o x) v at = result_of (binary o x v) at
  used_value then.Boolean v at = a_boolean v at
  used_value (then.Assign i) v at = assign i v at
  used_value (then.If all others) v at = branch (block_at all) (block_at others) v at
  used_value (then.While test body) v at = turn (loop_at test body) (block_at body) v at
  used_value (then.Again test body) v at = loop_at test body at
  used_value (then.Write w) v at = written w v at
  used_value (then.Monitor m) v at = used_monitor m v at
  used_value then.Print v at = tell (request.Print v) at
  used_value then.Return v at = Leaves v at
  used_value (then.Next ss) v at = block_at ss at

  -- what is done with a reply
  abbrev pub heard : OnReply → Reply → Meaning
  heard reply.Done r at = done r at
  heard reply.Made r at = made r at
  heard reply.Got r at = got r at
  heard (reply.Field object f) r at = seen (field_in f object) r at
  heard (reply.Element object i) r at = seen (element_in i object) r at
  heard (reply.Call object callees args) r at = seen (call_in code (methods code n) callees args object) r at
  heard (reply.PutField object f v) r at = seen (put_field_in code.shape f v object) r at
  heard (reply.PutElement object i v) r at = seen (put_element_in i v object) r at
  heard (reply.Entered l grade part) r at = entered l grade (locked_at part) r at
  heard (reply.Left grade end) r at = on_value (λ v. settling (end_values end) grade (ended end)) (done r at)
  heard (reply.Settled end) r at = on_value (λ v. ended end) (done r at)
  heard (reply.Bind root v) r at = on_value (bind_null root v) (got r at)
  heard (reply.Waited l n) r at = on_value (λ v. waiting l n) (done r at)
  heard (reply.Ticked l n) r at = on_value (λ v. tell (request.Resume l)) (unless_woken (ticks l n) r at)
  heard (reply.TimedOut l) r at = on_value (λ v. tell (request.Resume l)) (timed_out r at)
  heard (reply.Paused a) r at = on_value (λ v. moved (move_at a)) (done r at)
  heard (reply.Map call) r at = told_reply call.object (rest_of call) r at

  -- what a task of the continuation makes of a part's outcome, where this is held for what comes after the task
  abbrev pub after_part : List Value → Task → Outcome → Outcome
  after_part outer (task.Then t) o = on_value (used_value t) (letting_go (use_values t) outer o)
  after_part outer (task.Back frame) o = back_in (environment_of frame outer) o
  after_part outer (task.Leave l grade) o = leave l grade (letting_go (monitor_of l) outer o)
  after_part outer (task.Close l) o = letting_go (monitor_of l) outer o
  after_part outer (task.Mapped call) o = letting_go (map_values call) outer o

  -- what the thread is about to do
  abbrev pub meant : Now → Meaning
  meant (now.Evaluate a) at = expr_at a at
  meant (now.Arguments callees x before rest) at = arguments_at callees x before rest at
  meant (now.Execute s) at = stmt code (methods code n) n s at
  meant (now.Run ss) at = block_at ss at
  meant (now.Pace a) at = moving (move_at a) at
  meant (now.Have end) at = ended end at
  meant (now.Ask q on) at = on_reply (heard on) (asking (reply_values on) q at)
  meant (now.End fault) at = on_reply (λ r at. Over) (ask (request.End fault) at)

  -- what the thread is about to do, with the task after it, if there is one
  abbrev pub meant_with : Option Task → Now → Meaning
  meant_with None a at = meant a at
  meant_with (Some t) a at =
      after_part at.environment.outer t (meant a (with_outer (task_values t ++ at.environment.outer) at))

  -- what a step comes to
  abbrev pub stepped : Step → Meaning
  stepped step = meant_with step.then step.now

-- ---- one step

-- where the thread stands, in this frame, where this is held for what comes after
abbrev pub in_frame : table_frame.Frame → List Value → ℕ → List Reply → State
in_frame frame outer moves rs = record { environment = environment_of frame outer; moves = moves; replies = rs }

-- What the thread is about to do in this frame comes to what the step comes to.
pub record Opens (code : Code) (a : Now) (frame : table_frame.Frame) (step : Step) : Type 0 where
  pub opens : (n k moves : ℕ) (outer : List Value) (rs : List Reply) →
      meant code n k a (in_frame frame outer moves rs) ≡ stepped code n k step (in_frame frame outer moves rs)

-- The execution of a statement comes to what the step comes to; its loop begins with all the moves that are counted.
pub record Executes (code : Code) (s : Stmt) (frame : table_frame.Frame) (step : Step) : Type 0 where
  pub executes : (n moves : ℕ) (outer : List Value) (rs : List Reply) →
      meant code n n (now.Execute s) (in_frame frame outer moves rs)
      ≡ stepped code n n step (in_frame frame outer moves rs)

-- What is done with a value comes to what the step comes to, in a frame that may be another.
pub record Uses (code : Code) (t : OnValue) (v : Value) (frame : table_frame.Frame) (step : Step)
    (next : table_frame.Frame) : Type 0 where
  pub uses : (n k moves : ℕ) (outer : List Value) (rs : List Reply) →
      used_value code n k t v (in_frame frame outer moves rs) ≡ stepped code n k step (in_frame next outer moves rs)

-- What is done with a reply comes to what the step comes to, in a frame that may be another, where a move may be made.
pub record Takes (code : Code) (on : OnReply) (r : Reply) (frame : table_frame.Frame) (step : Step)
    (next : table_frame.Frame) : Type 0 where
  pub takes : (n k moves : ℕ) (outer : List Value) (rs : List Reply) → moves < most_moves →
      heard code n k on r (in_frame frame outer moves rs) ≡ stepped code n k step (in_frame next outer moves rs)

-- ---- all that is left

-- two numbers of moves that are no less than N
pub record Fuel (N : ℕ) : Type 0 where
  pub n : ℕ
  pub k : ℕ
  pub n_enough : N ≤ n
  pub k_enough : N ≤ k

-- o is what the whole comes to, where the part before this continuation comes to p
abbrev pub Completes : Code → ℕ → List Task → Outcome → Outcome → Type 0
Completes code N [] p o = o ≡ finish p
Completes code N (t ∷ ts) p o =
    (fuel : Fuel N) × Completes code N ts (after_part code fuel.n fuel.k (outer_of ts) t p) o

-- where the thread stands, with these replies left
abbrev pub standing : Core → List Reply → State
standing core rs = record {
  environment = environment_of core.frame (outer_of core.tasks);
  moves = core.moves;
  replies = rs;
}

-- what the thread is about to do, and what is left after that, comes to o
pub record Means (code : Code) (N : ℕ) (a : Now) (core : Core) (rs : List Reply) (o : Outcome) : Type 0 where
  pub fuel : Fuel N
  pub rest : Completes code N core.tasks (meant code fuel.n fuel.k a (standing core rs)) o

-- with the task after a step on top of the continuation, if there is one
abbrev pub with_then : Option Task → Core → Core
with_then None core = core
with_then (Some t) core = record core { tasks = t ∷ core.tasks }

-- a step that makes no move: what it comes to stays
pub record Keeps (code : Code) (a : Now) (core : Core) (b : Now) (next : Core) : Type 0 where
  pub keeps : (N : ℕ) (rs : List Reply) (o : Outcome) → Means code N a core rs o → Means code N b next rs o

-- a move
pub record MakesMove (code : Code) (a : Now) (core : Core) (b : Now) (next : Core) : Type 0 where
  pub makes : (N : ℕ) (rs : List Reply) (o : Outcome) → Means code (suc N) a core rs o → Means code N b next rs o

-- the thread is at a request or at a move
abbrev pub IsSuspended : Now → Type 0
IsSuspended (now.Pace a) = Unit {0}
IsSuspended (now.Ask q on) = Unit {0}
IsSuspended (now.End fault) = Unit {0}
IsSuspended a = ⊥

-- the thread is at a request
abbrev pub IsAsk : Now → Type 0
IsAsk (now.Ask q on) = Unit {0}
IsAsk (now.End fault) = Unit {0}
IsAsk a = ⊥

-- What the thread is about to do comes to what all of its code comes to, after these replies and any that are still
-- to come: with so many moves as were made, of which there are not more than those replies allow.
pub record StandsAt (code : Code) (body : ThreadBody) (a : Now) (core : Core) (past : List Reply) : Type 0 where
  pub made : ℕ
  pub bounded : made ≤ most_moves * length past + core.moves
  pub few : core.moves ≤ most_moves
  pub means : (N : ℕ) (rs : List Reply) → Means code N a core rs (whole code body (made + N) (past ++ rs))

-- what stood for replies does so still
pub record Leads (code : Code) (a : Now) (core : Core) (b : Now) (next : Core) : Type 0 where
  pub leads : (body : ThreadBody) (past : List Reply) → StandsAt code body a core past → StandsAt code body b next past

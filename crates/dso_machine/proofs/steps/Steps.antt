-- Steps that keep what is left.
use Rattle.std.proofs.Common.{◌≡◌, ℕ, suc, List, [], ◌∷◌, ◌++◌, Option, Some, None, refl, sym, ap, ◌∙◌, subst, arith}
use Rattle.std.specs.Prelude.{Result, Ok, Err, IfOk}
use Rattle.dso_base.specs.declared.no_memory.NoMemory.{NoMemory}
use Rattle.dso_base.specs.declared.request.Reply.{Reply}
use Rattle.dso_base.specs.declared.request.Request.{Request}
use Rattle.dso_base.specs.declared.request.Request.TheVariants as request
use Rattle.dso_base.specs.declared.request.Fault.{Fault}
use Rattle.dso_base.specs.declared.lock.Grade.{Grade}
use Rattle.dso_base.specs.declared.lock.LockName.{LockName}
use Rattle.dso_base.specs.declared.lock.LockName.TheVariants.{Mon, Name}
use Rattle.dso_base.specs.declared.value.Value.{Value}
use Rattle.dso_base.specs.declared.value.Value.TheVariants as value
use Rattle.dso_map.specs.declared.map_call.MapCall.{MapCall}
use Rattle.dso_machine.specs.declared.code.Code.{Code}
use Rattle.dso_machine.specs.declared.machine.Core.{Core}
use Rattle.dso_machine.specs.declared.continuation.End.{End}
use Rattle.dso_machine.specs.declared.continuation.End.TheVariants as end
use Rattle.dso_machine.specs.declared.continuation.Frame.{Frame}
use Rattle.dso_machine.specs.declared.continuation.Now.{Now}
use Rattle.dso_machine.specs.declared.continuation.Now.TheVariants as now
use Rattle.dso_machine.specs.declared.continuation.OnReply.TheVariants as reply
use Rattle.dso_machine.specs.declared.continuation.OnValue.{OnValue}
use Rattle.dso_machine.specs.declared.continuation.Step.{Step}
use Rattle.dso_machine.specs.declared.continuation.Task.{Task}
use Rattle.dso_machine.specs.declared.continuation.Task.TheVariants as task
use Rattle.dso_machine.specs.declared.tree.Stmt.{Stmt}
use Rattle.dso_machine.specs.Next.{finish}
use Rattle.dso_machine.specs.Outcome.{State, Outcome, Over, on_value, on_reply, asked, ask, done, settling, letting_go, with_outer}
use Rattle.dso_machine.specs.Continuation.{Opens, Executes, Uses, Keeps, Means, Fuel, Completes, standing, meant, meant_with, after_part, ended, with_then, outer_of, use_values, map_values, used_value}
use Rattle.dso_machine.proofs.steps.Requests.{on_asked}

module _ (code : Code) where
  -- the same outcome is left to the same tasks
  pub along : (N : ℕ) (ts : List Task) (o p q : Outcome) → p ≡ q → Completes code N ts p o → Completes code N ts q o
  along N ts o p q e h = subst (λ x. Completes code N ts x o) e h

  -- what comes of a step is left, with the task that it puts on top
  pub goes_on : (N : ℕ) (fuel : Fuel N) (a : Now) (t : Option Task) (core : Core) (rs : List Reply) (o : Outcome)
      → Completes code N core.tasks (meant_with code fuel.n fuel.k t a (standing core rs)) o → Means code N a (with_then t core) rs o
  goes_on N fuel a None core rs o h = record { fuel = fuel; rest = h }
  goes_on N fuel a (Some t) core rs o h = record { fuel = fuel; rest = (fuel, h) }

  -- a part is begun
  pub opens_keep : (a : Now) (core : Core) (step : Step) → Opens code a core.frame step → Keeps code a core step.now (with_then step.then core)
  opens_keep a core step is = record {
    keeps = λ N rs o h.
        goes_on N h.fuel step.now step.then core rs o (along N core.tasks o _ _ (is.opens h.fuel.n h.fuel.k core.moves (outer_of core.tasks) rs) h.rest);
  }

  -- a statement is begun
  pub executes_keep : (s : Stmt) (core : Core) (step : Step) → Executes code s core.frame step → Keeps code (now.Execute s) core step.now (with_then step.then core)
  executes_keep s core step is = record {
    keeps = λ N rs o h.
        let fuel : Fuel N = record { n = h.fuel.n; k = h.fuel.n; n_enough = h.fuel.n_enough; k_enough = h.fuel.n_enough } in
        goes_on N fuel step.now step.then core rs o (along N core.tasks o _ _ (is.executes h.fuel.n core.moves (outer_of core.tasks) rs) h.rest);
  }

  -- the task on top is done
  pub pops : (a b : Now) (t : Task) (core next : Core) → next.tasks ≡ core.tasks
      → ((n k p q : ℕ) (rs : List Reply) → after_part code n k (outer_of core.tasks) t (meant code p q a (standing (record core { tasks = t ∷ core.tasks }) rs)) ≡ meant code n k b (standing next rs))
      → Keeps code a (record core { tasks = t ∷ core.tasks }) b next
  pops a b t core next same e = record {
    keeps = λ N rs o h. record {
      fuel = h.rest.0;
      rest = subst (λ ts. Completes code N ts (meant code h.rest.0.n h.rest.0.k b (standing next rs)) o) (sym same)
          (along N core.tasks o _ _ (e h.rest.0.n h.rest.0.k h.fuel.n h.fuel.k rs) h.rest.1);
    };
  }

  -- a return or a fault passes what waits for a value
  left_go : (vs outer : List Value) (e : End) (at : State) → letting_go vs outer (ended e (with_outer (vs ++ outer) at)) ≡ ended e (with_outer outer at)
  left_go [] outer e at = refl
  left_go (v ∷ vs) outer (end.Gives x) at = refl
  left_go (v ∷ vs) outer (end.Leaves x) at = refl
  left_go (v ∷ vs) outer (end.Fails fault) at = refl

  pub passes_leave : (v : Value) (t : OnValue) (core : Core) → Keeps code (now.Have (end.Leaves v)) (record core { tasks = task.Then t ∷ core.tasks }) (now.Have (end.Leaves v)) core
  passes_leave v t core = pops _ _ (task.Then t) core core refl (λ n k p q rs. ap (on_value (used_value code n k t)) (left_go (use_values t) (outer_of core.tasks) (end.Leaves v) (standing core rs)))

  pub passes_fail : (fault : Fault) (t : OnValue) (core : Core) → Keeps code (now.Have (end.Fails fault)) (record core { tasks = task.Then t ∷ core.tasks }) (now.Have (end.Fails fault)) core
  passes_fail fault t core = pops _ _ (task.Then t) core core refl (λ n k p q rs. ap (on_value (used_value code n k t)) (left_go (use_values t) (outer_of core.tasks) (end.Fails fault) (standing core rs)))

  -- a value is used by the task on top
  pub uses_keep : (t : OnValue) (v : Value) (core : Core) (step : Step) (frame : Frame) → Uses code t v core.frame step frame
      → Keeps code (now.Have (end.Gives v)) (record core { tasks = task.Then t ∷ core.tasks }) step.now (with_then step.then (record core { frame = frame }))
  uses_keep t v core step frame is = record {
    keeps = λ N rs o h.
        goes_on N h.rest.0 step.now step.then (record core { frame = frame }) rs o (along N core.tasks o _ _
        (ap (on_value (used_value code h.rest.0.n h.rest.0.k t)) (left_go (use_values t) (outer_of core.tasks) (end.Gives v) (standing core rs))
        ∙ is.uses h.rest.0.n h.rest.0.k core.moves (outer_of core.tasks) rs) h.rest.1);
  }

  -- a frame ends
  pub back_gives : (v : Value) (frame : Frame) (core : Core)
      → Keeps code (now.Have (end.Gives v)) (record core { tasks = task.Back frame ∷ core.tasks }) (now.Have (end.Gives value.Null)) (record core { frame = frame })
  back_gives v frame core = pops _ _ (task.Back frame) core (record core { frame = frame }) refl (λ n k p q rs. refl)

  pub back_leaves : (v : Value) (frame : Frame) (core : Core)
      → Keeps code (now.Have (end.Leaves v)) (record core { tasks = task.Back frame ∷ core.tasks }) (now.Have (end.Gives v)) (record core { frame = frame })
  back_leaves v frame core = pops _ _ (task.Back frame) core (record core { frame = frame }) refl (λ n k p q rs. refl)

  pub back_fails : (fault : Fault) (frame : Frame) (core : Core)
      → Keeps code (now.Have (end.Fails fault)) (record core { tasks = task.Back frame ∷ core.tasks }) (now.Have (end.Fails fault)) (record core { frame = frame })
  back_fails fault frame core = pops _ _ (task.Back frame) core (record core { frame = frame }) refl (λ n k p q rs. refl)

  -- the block of a private object ends
  closed_after : (n k p q : ℕ) (l : LockName) (e : End) (core : Core) (rs : List Reply)
      → after_part code n k (outer_of core.tasks) (task.Close l) (meant code p q (now.Have e) (standing (record core { tasks = task.Close l ∷ core.tasks }) rs)) ≡ meant code n k (now.Have e) (standing core rs)
  closed_after n k p q (Mon o) (end.Gives v) core rs = refl
  closed_after n k p q (Mon o) (end.Leaves v) core rs = refl
  closed_after n k p q (Mon o) (end.Fails fault) core rs = refl
  closed_after n k p q (Name i) e core rs = refl

  pub closes_block : (e : End) (l : LockName) (core : Core)
      → Keeps code (now.Have e) (record core { tasks = task.Close l ∷ core.tasks }) (now.Have e) core
  closes_block e l core = pops _ _ (task.Close l) core core refl (λ n k p q rs. closed_after n k p q l e core rs)

  -- a call of a map ends
  pub ends_map : (e : End) (call : MapCall) (core : Core)
      → Keeps code (now.Have e) (record core { tasks = task.Mapped call ∷ core.tasks }) (now.Have e) core
  ends_map e call core = pops _ _ (task.Mapped call) core core refl (λ n k p q rs. left_go (map_values call) (outer_of core.tasks) e (standing core rs))

  -- a lock is left at the end of a part
  left_after : (n k p q : ℕ) (l : LockName) (grade : Grade) (e : End) (core : Core) (rs : List Reply)
      → after_part code n k (outer_of core.tasks) (task.Leave l grade) (meant code p q (now.Have e) (standing (record core { tasks = task.Leave l grade ∷ core.tasks }) rs))
      ≡ meant code n k (now.Ask (request.Exit l) (reply.Left grade e)) (standing core rs)
  left_after n k p q (Mon o) grade (end.Gives v) core rs = sym (on_asked (λ x. settling (v ∷ []) grade (ended (end.Gives v))) done (v ∷ []) (request.Exit (Mon o)) (standing core rs) rs)
  left_after n k p q (Mon o) grade (end.Leaves v) core rs = sym (on_asked (λ x. settling (v ∷ []) grade (ended (end.Leaves v))) done (v ∷ []) (request.Exit (Mon o)) (standing core rs) rs)
  left_after n k p q (Mon o) grade (end.Fails fault) core rs = sym (on_asked (λ x. settling [] grade (ended (end.Fails fault))) done [] (request.Exit (Mon o)) (standing core rs) rs)
  left_after n k p q (Name i) grade (end.Gives v) core rs = sym (on_asked (λ x. settling (v ∷ []) grade (ended (end.Gives v))) done (v ∷ []) (request.Exit (Name i)) (standing core rs) rs)
  left_after n k p q (Name i) grade (end.Leaves v) core rs = sym (on_asked (λ x. settling (v ∷ []) grade (ended (end.Leaves v))) done (v ∷ []) (request.Exit (Name i)) (standing core rs) rs)
  left_after n k p q (Name i) grade (end.Fails fault) core rs = sym (on_asked (λ x. settling [] grade (ended (end.Fails fault))) done [] (request.Exit (Name i)) (standing core rs) rs)

  pub leaves_lock : (e : End) (l : LockName) (grade : Grade) (core : Core)
      → Keeps code (now.Have e) (record core { tasks = task.Leave l grade ∷ core.tasks }) (now.Ask (request.Exit l) (reply.Left grade e)) core
  leaves_lock e l grade core = pops _ _ (task.Leave l grade) core core refl (λ n k p q rs. left_after n k p q l grade e core rs)

  -- with no task left
  at_none : (N : ℕ) (ts : List Task) (o p q : Outcome) → ts ≡ [] → finish p ≡ finish q → Completes code N ts p o → Completes code N ts q o
  at_none N ts o p q e same h =
      let at : Completes code N [] p o = subst (λ x. Completes code N x p o) e h in
      let there : Completes code N [] q o = at ∙ same in
      subst (λ x. Completes code N x q o) (sym e) there

  finish_ended : (q : Request) (at : State) (rs : List Reply) → on_reply (λ r u. Over) (asked [] q at rs) ≡ finish (on_reply (λ r u. Over) (asked [] q at rs))
  finish_ended q at [] = refl
  finish_ended q at (r ∷ rs) = refl

  -- the thread ends
  ends : (e : End) (fault : Option Fault) (core : Core) → core.tasks ≡ [] → ((at : State) → finish (ended e at) ≡ on_reply (λ r u. Over) (ask (request.End fault) at)) → Keeps code (now.Have e) core (now.End fault) core
  ends e fault core none same = record {
    keeps = λ N rs o h. record {
      fuel = h.fuel;
      rest = at_none N core.tasks o _ _ none (same (standing core rs) ∙ finish_ended (request.End fault) (standing core rs) rs) h.rest;
    };
  }

  pub ends_gives : (v : Value) (core : Core) → core.tasks ≡ [] → Keeps code (now.Have (end.Gives v)) core (now.End None) core
  ends_gives v core none = ends (end.Gives v) None core none (λ at. refl)

  pub ends_leaves : (v : Value) (core : Core) → core.tasks ≡ [] → Keeps code (now.Have (end.Leaves v)) core (now.End None) core
  ends_leaves v core none = ends (end.Leaves v) None core none (λ at. refl)

  pub ends_fails : (fault : Fault) (core : Core) → core.tasks ≡ [] → Keeps code (now.Have (end.Fails fault)) core (now.End (Some fault)) core
  ends_fails fault core none = ends (end.Fails fault) (Some fault) core none (λ at. refl)

  -- a step after another
  pub keeps_then : (a b c : Now) (core mid last : Core) → Keeps code a core b mid → Keeps code b mid c last → Keeps code a core c last
  keeps_then a b c core mid last x y = record { keeps = λ N rs o h. y.keeps N rs o (x.keeps N rs o h) }

  pub keeps_same : (a : Now) (core : Core) → Keeps code a core a core
  keeps_same a core = record { keeps = λ N rs o h. h }

  -- fewer moves are enough for fewer
  abbrev pub weaker : (N : ℕ) → Fuel (suc N) → Fuel N
  weaker N fuel = record { n = fuel.n; k = fuel.k; n_enough = omega arith; k_enough = omega arith }

  pub weaken : (N : ℕ) (ts : List Task) (p o : Outcome) → Completes code (suc N) ts p o → Completes code N ts p o
  weaken N [] p o h = h
  weaken N (t ∷ ts) p o h = (weaker N h.0, weaken N ts (after_part code h.0.n h.0.k (outer_of ts) t p) o h.1)

pub ruleset steps = (opens_keep, executes_keep, uses_keep, passes_leave, passes_fail, back_gives, back_leaves, back_fails, leaves_lock, closes_block, ends_map, ends_gives, ends_leaves, ends_fails)

-- a part is begun, and what comes of the step is followed
pub followed : (code : Code) (a : Now) (core : Core) (step : Step) (result : Result Now NoMemory) (next : Core) → Opens code a core.frame step
    → IfOk result (λ b. b ≡ step.now) → IfOk result (λ b. next ≡ with_then step.then core) → IfOk result (λ b. Keeps code a core b next)
followed code a core step (Ok b) next opens is at =
    subst (λ x. Keeps code a core x next) (sym is) (subst (λ x. Keeps code a core step.now x) (sym at) (opens_keep code a core step opens))
followed code a core step (Err e) next opens is at = tt

-- the tasks that are left after the one on top are those of the machine without it
pub put_back : (t : Task) (core : Core) (ts : List Task) → core.tasks ≡ t ∷ ts → with_then (Some t) (record core { tasks = ts }) ≡ core
put_back t core ts is = ap (λ x. record core { tasks = x }) (sym is)

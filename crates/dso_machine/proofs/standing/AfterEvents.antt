-- For which events a thread stands, from its first request to its end.
use Rattle.std.proofs.Common.{◌≡◌, ◌≢◌, ℕ, ◌+◌, ◌-◌, ◌<◌, List, [], ◌∷◌, ◌++◌, Option, Some, None, refl, sym, ap, ◌∙◌, subst, append_assoc, arith, length-append}
use Rattle.std.proofs.lemmas.List.{append-nil}
use Rattle.std.specs.Prelude.{Result, Ok, Err, IfOk}
use Rattle.dso_base.specs.declared.no_memory.NoMemory.{NoMemory}
use Rattle.dso_base.specs.declared.lock.ThreadId.{ThreadId}
use Rattle.dso_base.specs.declared.request.Event.{Event}
use Rattle.dso_base.specs.declared.request.Event.TheVariants.{Act, Lost}
use Rattle.dso_base.specs.declared.request.Fault.{Fault}
use Rattle.dso_base.specs.declared.request.Reply.{Reply}
use Rattle.dso_base.specs.declared.request.Request.{Request}
use Rattle.dso_base.specs.declared.request.Request.TheVariants as request
use Rattle.dso_base.specs.declared.value.Value.TheVariants as value
use Rattle.dso_base.specs.Following.{IsListedFor}
use Rattle.dso_machine.specs.declared.code.Code.{Code}
use Rattle.dso_machine.specs.declared.code.ThreadBody.{ThreadBody}
use Rattle.dso_machine.specs.declared.machine.Core.{Core}
use Rattle.dso_machine.specs.declared.continuation.Frame.{Frame}
use Rattle.dso_machine.specs.declared.continuation.Now.{Now}
use Rattle.dso_machine.specs.declared.continuation.Now.TheVariants as now
use Rattle.dso_machine.specs.declared.continuation.OnReply.{OnReply}
use Rattle.dso_machine.specs.declared.continuation.Step.{Step}
use Rattle.dso_machine.specs.declared.continuation.Task.{Task}
use Rattle.dso_machine.specs.declared.continuation.Task.TheVariants as task
use Rattle.dso_machine.specs.declared.thread.Due.{Due}
use Rattle.dso_machine.specs.declared.thread.Due.TheVariants as due
use Rattle.dso_machine.specs.declared.thread.Thread.{Thread}
use Rattle.dso_machine.specs.Calls.{variables}
use Rattle.dso_machine.specs.Limits.{most_moves}
use Rattle.dso_machine.specs.Next.{body_of, replies_in, whole, enough_for, next_of, next_request, request_of}
use Rattle.dso_base.specs.declared.value.Value.{Value}
use Rattle.dso_machine.specs.Outcome.{Environment, Outcome, Wants, Over, on_value, leave, letting_go, monitor_of}
use Rattle.dso_machine.specs.Continuation.{Takes, Means, Completes, StandsAt, with_then, outer_of, environment_of, held_at, after_part, used_value, use_values, map_values}
use Rattle.dso_machine.specs.Standing.{ThreadStands, StandsFor, HearsAt, MeansHeard, IsEnded, IsAnswered, Resumes, asked_by, asked_at}
use Rattle.dso_machine.proofs.steps.Steps.{along, goes_on}

-- the machine of a thread before its first statement
abbrev pub first_core : ThreadBody → Core
first_core body = record { frame = record { this = value.Null; vars = variables body.vars []; room = 63 }; moves = 0; tasks = [] }

-- it stands for no replies
first_at : (code : Code) (body : ThreadBody) → StandsAt code body (now.Run body.body) (first_core body) []
first_at code body = record {
  made = 0;
  bounded = omega arith;
  few = omega arith;
  means = λ N rs.
      let e : N ≡ 0 + N = omega arith in
      subst (λ i. Means code N (now.Run body.body) (first_core body) rs (whole code body i rs)) e
      (record { fuel = record { n = N; k = N; n_enough = omega arith; k_enough = omega arith }; rest = refl });
}

pub stands_first : (code : Code) (t : ThreadId) (body : ThreadBody) → body_of t code.bodies ≡ Some body → ThreadStands code t (record { due = due.Going (now.Run body.body); core = first_core body }) []
stands_first code t body its = record { body = body; its = its; stands = first_at code body }

-- a task that is put on top makes no move
then_moves : (t : Option Task) (core : Core) → (with_then t core).moves ≡ core.moves
then_moves None core = refl
then_moves (Some t) core = refl

-- the reply that is there is taken
pub hears : (code : Code) (r : Reply) (on : OnReply) (core : Core) (step : Step) (frame : Frame) → Takes code on r core.frame step frame
    → Resumes code (due.Heard r on) core step.now (with_then step.then (record core { frame = frame }))
hears code r on core step frame takes = record {
  resumes = λ body past st. record {
    made = st.made;
    bounded = let h = st.bounded in omega arith;
    few = let h = st.rested in let same = then_moves step.then (record core { frame = frame }) in omega arith;
    means = λ N rs.
        let h : MeansHeard code N r on core rs (whole code body (st.made + N) (past ++ rs)) = st.means N rs in
        let few : core.moves < most_moves = let rested = st.rested in omega arith in
        goes_on code N h.fuel step.now step.then (record core { frame = frame }) rs _ (along code N core.tasks _ _ _ (takes.takes h.fuel.n h.fuel.k core.moves (outer_of core.tasks) rs few) h.rest);
  };
}

-- a request that is wanted passes what was held
let_wants : (vs outer : List Value) (q : Request) (env : Environment) → letting_go vs outer (Wants q env) ≡ Wants q env
let_wants [] outer q env = refl
let_wants (v ∷ vs) outer q env = refl

let_over : (vs outer : List Value) → letting_go vs outer Over ≡ Over
let_over [] outer = refl
let_over (v ∷ vs) outer = refl

-- it passes a task,
wants_past : (code : Code) (n k : ℕ) (outer : List Value) (t : Task) (q : Request) (env : Environment) → after_part code n k outer t (Wants q env) ≡ Wants q env
wants_past code n k outer (task.Then t) q env = ap (on_value (used_value code n k t)) (let_wants (use_values t) outer q env)
wants_past code n k outer (task.Back frame) q env = refl
wants_past code n k outer (task.Leave l grade) q env = ap (leave l grade) (let_wants (monitor_of l) outer q env)
wants_past code n k outer (task.Close l) q env = let_wants (monitor_of l) outer q env
wants_past code n k outer (task.Mapped call) q env = let_wants (map_values call) outer q env

over_past : (code : Code) (n k : ℕ) (outer : List Value) (t : Task) → after_part code n k outer t Over ≡ Over
over_past code n k outer (task.Then t) = ap (on_value (used_value code n k t)) (let_over (use_values t) outer)
over_past code n k outer (task.Back frame) = refl
over_past code n k outer (task.Leave l grade) = ap (leave l grade) (let_over (monitor_of l) outer)
over_past code n k outer (task.Close l) = let_over (monitor_of l) outer
over_past code n k outer (task.Mapped call) = let_over (map_values call) outer

-- and is what the whole asks
wants : (code : Code) (N : ℕ) (ts : List Task) (q : Request) (env : Environment) (o : Outcome) → Completes code N ts (Wants q env) o → o ≡ Wants q env
wants code N [] q env o h = h
wants code N (t ∷ ts) q env o h = wants code N ts q env o (subst (λ x. Completes code N ts x o) (wants_past code h.0.n h.0.k (outer_of ts) t q env) h.1)

overs : (code : Code) (N : ℕ) (ts : List Task) (o : Outcome) → Completes code N ts Over o → o ≡ Over
overs code N [] o h = h
overs code N (t ∷ ts) o h = overs code N ts o (subst (λ x. Completes code N ts x o) (over_past code h.0.n h.0.k (outer_of ts) t) h.1)

-- where a thread that is about to do this stands, by its core
abbrev pub environment_at : Now → Core → Environment
environment_at a core = environment_of core.frame (held_at a ++ outer_of core.tasks)

-- what a request that is out comes to
asks_out : (code : Code) (N : ℕ) (a : Now) (q : Request) (core : Core) (o : Outcome) → asked_by a ≡ Some q → Means code N a core [] o → o ≡ Wants q (environment_at a core)
asks_out code N (now.Ask p on) q core o is h = wants code N core.tasks p (environment_at (now.Ask p on) core) o h.rest ∙ ap (λ x. Wants x (environment_at (now.Ask p on) core)) (some_same p q is)
  where
    some_same : (p q : Request) → Some p ≡ Some q → p ≡ q
    some_same p q e = cc e
asks_out code N (now.End fault) q core o is h = wants code N core.tasks (request.End fault) (environment_at (now.End fault) core) o h.rest ∙ ap (λ x. Wants x (environment_at (now.End fault) core)) (some_same (request.End fault) q is)
  where
    some_same : (p q : Request) → Some p ≡ Some q → p ≡ q
    some_same p q e = cc e
asks_out code N a q core o is h = absurd (cc is)

-- a thread whose request is out wants it where it stands, by so many moves as are enough
pub wanted_at : (code : Code) (body : ThreadBody) (a : Now) (core : Core) (q : Request) (past : List Reply) → asked_by a ≡ Some q → StandsAt code body a core past
    → whole code body (enough_for past) past ≡ Wants q (environment_at a core)
wanted_at code body a core q past is st =
    let left : ℕ = enough_for past - st.made in
    let b = st.bounded in
    let f = st.few in
    let e : st.made + left ≡ enough_for past = omega arith in
    let means : Means code left a core [] (whole code body (enough_for past) past) = subst (λ i. Means code left a core [] (whole code body i past)) e
    (subst (λ xs. Means code left a core [] (whole code body (st.made + left) xs)) (append-nil past) (st.means left [])) in
    asks_out code left a q core _ is means

-- the theorem: the request that is out is the program's next one
pub asks_next : (code : Code) (t : ThreadId) (body : ThreadBody) (a : Now) (core : Core) (q : Request) (events : List Event) → body_of t code.bodies ≡ Some body → asked_by a ≡ Some q
    → StandsAt code body a core (replies_in events) → next_request code t events ≡ Some q
asks_next code t body a core q events its is st = ap (next_of code (replies_in events)) its ∙ ap request_of (wanted_at code body a core q (replies_in events) is st)

-- what comes of the step after a reply is followed
pub heard_followed : (code : Code) (r : Reply) (on : OnReply) (core : Core) (step : Step) (frame : Frame) (result : Result Now NoMemory) (next : Core) → Takes code on r core.frame step frame
    → IfOk result (λ a. a ≡ step.now) → IfOk result (λ a. next ≡ with_then step.then (record core { frame = frame })) → IfOk result (λ a. Resumes code (due.Heard r on) core a next)
heard_followed code r on core step frame (Ok a) next takes is at =
    subst (λ x. Resumes code (due.Heard r on) core x next) (sym is) (subst (λ x. Resumes code (due.Heard r on) core step.now x) (sym at) (hears code r on core step frame takes))
heard_followed code r on core step frame (Err e) next takes is at = tt

-- the replies of events and of one more
pub replies_more : (t : ThreadId) (q : Request) (r : Reply) (woken : Option ThreadId) (events : List Event) → replies_in (events ++ Act t q r woken ∷ []) ≡ replies_in events ++ r ∷ []
replies_more t q r woken [] = refl
replies_more t q r woken (Act u p s w ∷ events) = ap (λ xs. s ∷ xs) (replies_more t q r woken events)
replies_more t q r woken (Lost client ∷ events) = replies_more t q r woken events

-- a reply to a request, which leaves the moves at none
heard_at : (code : Code) (body : ThreadBody) (q : Request) (on : OnReply) (core : Core) (past : List Reply) (r : Reply) → StandsAt code body (now.Ask q on) core past
    → HearsAt code body r on (record core { moves = 0 }) (past ++ r ∷ [])
heard_at code body q on core past r st = record {
  made = st.made;
  bounded = let h = st.bounded in let f = st.few in omega (arith, length-append past (r ∷ []));
  rested = refl;
  means = λ N rs.
      let h : Means code N (now.Ask q on) core (r ∷ rs) (whole code body (st.made + N) (past ++ r ∷ rs)) = st.means N (r ∷ rs) in
      let e : past ++ r ∷ rs ≡ (past ++ r ∷ []) ++ rs = sym (append_assoc past (r ∷ []) rs) in
      let t : MeansHeard code N r on (record core { moves = 0 }) rs (whole code body (st.made + N) (past ++ r ∷ rs)) = record { fuel = h.fuel; rest = h.rest } in
      subst (λ xs. MeansHeard code N r on (record core { moves = 0 }) rs (whole code body (st.made + N) xs)) e t;
}

-- the reply to a thread's end
over_at : (code : Code) (body : ThreadBody) (fault : Option Fault) (core : Core) (past : List Reply) (r : Reply) → StandsAt code body (now.End fault) core past → IsEnded code body (past ++ r ∷ [])
over_at code body fault core past r st = record {
  made = st.made;
  bounded = let h = st.bounded in let f = st.few in omega (arith, length-append past (r ∷ []));
  over = λ N. overs code N core.tasks _ (st.means N (r ∷ [])).rest;
}

-- A reply to the request that is out is one event more.
pub answered_at : (code : Code) (body : ThreadBody) (d : Due) (core : Core) (past : List Reply) (r : Reply) (e : Due) → asked_at d ≢ None → IsAnswered d r e
    → StandsFor code body d core past → StandsFor code body e (record core { moves = 0 }) (past ++ r ∷ [])
answered_at code body (due.Going (now.Ask q on)) core past r e out is st = subst (λ x. StandsFor code body x (record core { moves = 0 }) (past ++ r ∷ [])) (sym is) (heard_at code body q on core past r st)
answered_at code body (due.Going (now.End fault)) core past r e out is st = subst (λ x. StandsFor code body x (record core { moves = 0 }) (past ++ r ∷ [])) (sym is) (over_at code body fault core past r st)
answered_at code body (due.Going (now.Evaluate a)) core past r e out is st = absurd is
answered_at code body (due.Going (now.Arguments callees x before rest)) core past r e out is st = absurd is
answered_at code body (due.Going (now.Execute s)) core past r e out is st = absurd is
answered_at code body (due.Going (now.Run ss)) core past r e out is st = absurd is
answered_at code body (due.Going (now.Pace a)) core past r e out is st = absurd is
answered_at code body (due.Going (now.Have end)) core past r e out is st = absurd is
answered_at code body (due.Heard s on) core past r e out is st = absurd is
answered_at code body due.Over core past r e out is st = absurd is

pub one_more : (code : Code) (t : ThreadId) (thread : Thread) (events : List Event) (q : Request) (r : Reply) (woken : Option ThreadId) (e : Due) → asked_at thread.due ≢ None
    → IsAnswered thread.due r e → ThreadStands code t thread events → ThreadStands code t (record { due = e; core = record thread.core { moves = 0 } }) (events ++ Act t q r woken ∷ [])
one_more code t thread events q r woken e out is st = record {
  body = st.body;
  its = st.its;
  stands = subst (λ past. StandsFor code st.body e (record thread.core { moves = 0 }) past) (sym (replies_more t q r woken events))
      (answered_at code st.body thread.due thread.core (replies_in events) r e out is st.stands);
}

-- where a reply is listed, a request is out
pub listed_out : (asked : Option Request) (r : Reply) → IsListedFor asked r → asked ≢ None
listed_out None r listed e = listed
listed_out (Some q) r listed e = cc e

-- A thread stands for its replies.
use Rattle.std.proofs.Common.{◌≡◌, ℕ, zero, suc, ◌+◌, ◌<◌, ◌≤◌, List, [], ◌∷◌, ◌++◌, refl, sym, ap, ◌∙◌, subst, arith}
use Rattle.std.proofs.lemmas.Bool.{lt-ltb, le-ltb}
use Rattle.std.specs.Prelude.{slice_get}
use Rattle.dso_base.specs.declared.request.Reply.{Reply}
use Rattle.dso_base.specs.declared.request.Request.TheVariants as request
use Rattle.dso_machine.specs.declared.code.Code.{Code}
use Rattle.dso_machine.specs.declared.code.ThreadBody.{ThreadBody}
use Rattle.dso_machine.specs.declared.machine.Core.{Core}
use Rattle.dso_machine.specs.declared.continuation.Move.{Move}
use Rattle.dso_machine.specs.declared.continuation.Move.TheVariants as move
use Rattle.dso_machine.specs.declared.continuation.Now.{Now}
use Rattle.dso_machine.specs.declared.continuation.Now.TheVariants as now
use Rattle.dso_machine.specs.declared.continuation.OnReply.TheVariants as reply
use Rattle.dso_machine.specs.declared.continuation.OnValue.TheVariants as then
use Rattle.dso_machine.specs.declared.continuation.Task.TheVariants as task
use Rattle.dso_machine.specs.declared.tree.Expr.{Expr}
use Rattle.dso_machine.specs.declared.tree.Stmt.{Stmt}
use Rattle.dso_machine.specs.Limits.{most_moves}
use Rattle.dso_machine.specs.Outcome.{State, Meaning, on_value, done, tell, moved, paced, moving}
use Rattle.dso_machine.specs.Continuation.{Keeps, MakesMove, Means, Fuel, Completes, StandsAt, Leads, standing, move_at}
use Rattle.dso_machine.specs.Next.{whole}
use Rattle.dso_machine.specs.Statements.{statements_of}
use Rattle.dso_machine.proofs.steps.Requests.{on_asked}
use Rattle.dso_machine.proofs.steps.Steps.{weaken, along}

-- what is known of a number above another
pub record Above (N k : ℕ) : Type 0 where
  pub less : ℕ
  pub is : k ≡ suc less
  pub enough : N ≤ less

above : (N k : ℕ) → suc N ≤ k → Above N k
above N zero h = absurd (omega arith)
above N (suc k) h = record { less = k; is = refl; enough = omega arith }

-- where fewer than the most moves were made, a move is made at once
at_once : (m : Meaning) (at : State) → at.moves < most_moves → moving m at ≡ moved m at
at_once m at few = ap (λ b. paced b m at) (lt-ltb at.moves most_moves few)

module _ (code : Code) where
  -- the start of a condition's evaluation
  pub turned_on : (core : Core) (a : Expr) (x : List Stmt) → core.moves < most_moves
      → MakesMove code (now.Pace (move.Turn a x)) core (now.Evaluate a) (record core { tasks = task.Then (then.While a x) ∷ core.tasks; moves = core.moves + 1 })
  turned_on core a x few = record {
    makes = λ N rs o h.
        let k : Above N h.fuel.k = above N h.fuel.k h.fuel.k_enough in
        let u : Fuel N = record { n = h.fuel.n; k = k.less; n_enough = omega arith; k_enough = k.enough } in
        let r : Completes code N core.tasks (moved (move_at code h.fuel.n h.fuel.k (move.Turn a x)) (standing core rs)) o =
        along code N core.tasks o _ _ (at_once (move_at code h.fuel.n h.fuel.k (move.Turn a x)) (standing core rs) few) (weaken code N core.tasks _ o h.rest) in
        record { fuel = u; rest = (u, subst (λ i. Completes code N core.tasks (moved (move_at code h.fuel.n i (move.Turn a x)) (standing core rs)) o) k.is r) };
  }

  -- the start of a method's body
  pub begun_on : (core : Core) (m : ℕ) → core.moves < most_moves
      → MakesMove code (now.Pace (move.Body m)) core (now.Run (statements_of (slice_get code.methods m))) (record core { moves = core.moves + 1 })
  begun_on core m few = record {
    makes = λ N rs o h.
        let n : Above N h.fuel.n = above N h.fuel.n h.fuel.n_enough in
        let u : Fuel N = record { n = n.less; k = h.fuel.k; n_enough = n.enough; k_enough = omega arith } in
        let r : Completes code N core.tasks (moved (move_at code h.fuel.n h.fuel.k (move.Body m)) (standing core rs)) o =
        along code N core.tasks o _ _ (at_once (move_at code h.fuel.n h.fuel.k (move.Body m)) (standing core rs) few) (weaken code N core.tasks _ o h.rest) in
        record { fuel = u; rest = subst (λ i. Completes code N core.tasks (moved (move_at code i h.fuel.k (move.Body m)) (standing core rs)) o) n.is r };
  }

-- the outcome that is left to the machine after a step
pub stands_on : (code : Code) (body : ThreadBody) (a : Now) (core : Core) (b : Now) (next : Core) (past : List Reply) → Keeps code a core b next → next.moves ≡ core.moves
    → StandsAt code body a core past → StandsAt code body b next past
stands_on code body a core b next past kept same st = record {
  made = st.made;
  bounded = let h = st.bounded in omega arith;
  few = let h = st.few in omega arith;
  means = λ N rs. kept.keeps N rs _ (st.means N rs);
}

-- after a move a thread stands for the same replies
pub stands_moved : (code : Code) (body : ThreadBody) (a : Now) (core : Core) (b : Now) (next : Core) (past : List Reply) → MakesMove code a core b next → next.moves ≡ core.moves + 1
    → core.moves < most_moves → StandsAt code body a core past → StandsAt code body b next past
stands_moved code body a core b next past makes more few st = record {
  made = st.made + 1;
  bounded = let h = st.bounded in omega arith;
  few = omega arith;
  means = λ N rs.
      let e : st.made + suc N ≡ (st.made + 1) + N = omega arith in
      subst (λ i. Means code N b next rs (whole code body i (past ++ rs))) e (makes.makes N rs _ (st.means (suc N) rs));
}

pub leads_on : (code : Code) (a : Now) (core : Core) (b : Now) (next : Core) → Keeps code a core b next → next.moves ≡ core.moves → Leads code a core b next
leads_on code a core b next kept same = record { leads = λ body past st. stands_on code body a core b next past kept same st }

pub leads_moved : (code : Code) (a : Now) (core : Core) (b : Now) (next : Core) → MakesMove code a core b next → next.moves ≡ core.moves + 1 → core.moves < most_moves → Leads code a core b next
leads_moved code a core b next makes more few = record { leads = λ body past st. stands_moved code body a core b next past makes more few st }

pub leads_then : (code : Code) (a : Now) (core : Core) (b : Now) (mid : Core) (c : Now) (last : Core) → Leads code a core b mid → Leads code b mid c last → Leads code a core c last
leads_then code a core b mid c last x y = record { leads = λ body past st. y.leads body past (x.leads body past st) }

-- where the most moves were made, the thread pauses first
paused_first : (m : Meaning) (at : State) → most_moves ≤ at.moves → moving m at ≡ on_value (λ v. moved m) (tell request.Pause at)
paused_first m at many = ap (λ b. paced b m at) (le-ltb at.moves most_moves many)

pub pauses : (code : Code) (a : Move) (core : Core) → most_moves ≤ core.moves → Keeps code (now.Pace a) core (now.Ask request.Pause (reply.Paused a)) core
pauses code a core many = record {
  keeps = λ N rs o h. record {
    fuel = h.fuel;
    rest = along code N core.tasks o _ _ (paused_first (move_at code h.fuel.n h.fuel.k a) (standing core rs) many
        ∙ sym (on_asked (λ v. moved (move_at code h.fuel.n h.fuel.k a)) done [] request.Pause (standing core rs) rs)) h.rest;
  };
}

pub ruleset turned = (turned_on)

pub ruleset begun = (begun_on)

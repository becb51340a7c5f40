-- What follows a request.
use Rattle.std.proofs.Common.{◌≡◌, ◌≢◌, refl, ℕ, zero, suc, ◌-◌, List, [], ◌∷◌, ◌∙◌, ap, arith}
use Rattle.dso_base.specs.declared.lock.Grade.TheVariants as grade
use Rattle.dso_base.specs.declared.lock.LockName.{LockName}
use Rattle.dso_base.specs.declared.request.Reply.{Reply}
use Rattle.dso_base.specs.declared.request.Request.{Request}
use Rattle.dso_base.specs.declared.request.Request.TheVariants as request
use Rattle.dso_base.specs.declared.value.Value.{Value}
use Rattle.dso_machine.specs.declared.code.Code.{Code}
use Rattle.dso_machine.specs.declared.continuation.End.{End}
use Rattle.dso_machine.specs.declared.continuation.Locked.TheVariants as locked
use Rattle.dso_machine.specs.declared.continuation.Now.TheVariants as now
use Rattle.dso_machine.specs.declared.continuation.OnReply.TheVariants as reply
use Rattle.dso_machine.specs.Outcome.{State, Meaning, on_value, on_reply, asked, done, got, tell, settling}
use Rattle.dso_machine.specs.Continuation.{meant, locked_at, ended, end_values}
use Rattle.dso_machine.specs.Statements.{bind_null, unless_woken, timed_out, ticks, ticking}

-- a value made of a reply may be used where the reply is
pub on_asked : (f : Value → Meaning) (g : Reply → Meaning) (vs : List Value) (q : Request) (at : State) (rs : List Reply) → on_reply (λ r u. on_value f (g r u)) (asked vs q at rs) ≡ on_value f (on_reply g (asked vs q at rs))
on_asked f g vs q at [] = refl
on_asked f g vs q at (r ∷ rs) = refl

-- a root that is to be bound is read first
pub binds : (code : Code) (n k : ℕ) (at : State) (root : ℕ) (v : Value) → meant code n k (now.Ask (request.Get 0 root) (reply.Bind root v)) at ≡ locked_at code n k (locked.Bind root v) at
binds code n k at root v = on_asked (bind_null root v) got (v ∷ []) (request.Get 0 root) at at.replies

-- where no tick is left, the wait times out
pub times_out : (code : Code) (n k : ℕ) (at : State) (l : LockName) → meant code n k (now.Ask (request.Timeout l) (reply.TimedOut l)) at ≡ ticking l 0 at
times_out code n k at l = on_asked (λ v. tell (request.Resume l)) timed_out [] (request.Timeout l) at at.replies

-- one of more ticks is the next
next_tick : (code : Code) (n k : ℕ) (at : State) (l : LockName) (left : ℕ) → meant code n k (now.Ask (request.Tick l) (reply.Ticked l left)) at ≡ ticking l (suc left) at
next_tick code n k at l left = on_asked (λ v. tell (request.Resume l)) (unless_woken (ticks l left)) [] (request.Tick l) at at.replies

-- so by the number of ticks
pub ticks_next : (code : Code) (n k : ℕ) (at : State) (l : LockName) (left : ℕ) → left ≢ 0 → meant code n k (now.Ask (request.Tick l) (reply.Ticked l (left - 1))) at ≡ ticking l left at
ticks_next code n k at l zero some = absurd (some refl)
ticks_next code n k at l (suc left) some =
    let less : suc left - 1 ≡ left = omega arith in
    ap (λ x. meant code n k (now.Ask (request.Tick l) (reply.Ticked l x)) at) less ∙ next_tick code n k at l left

-- a thread settles after an exit from an entry at synchronous write
pub settles : (code : Code) (n k : ℕ) (at : State) (e : End) → meant code n k (now.Ask request.Settle (reply.Settled e)) at ≡ settling (end_values e) grade.Synchronous (ended e) at
settles code n k at e = on_asked (λ v. ended e) done (end_values e) request.Settle at at.replies

pub ruleset ticks_on = (times_out, ticks_next)

pub ruleset settles_on = (settles)

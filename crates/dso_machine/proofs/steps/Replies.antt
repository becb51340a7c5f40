-- What is done with a reply, by what follows it.
use Rattle.std.proofs.Common.{◌≡◌, refl, ℕ, zero, suc, true, false}
use Rattle.dso_base.specs.declared.lock.Grade.{Grade}
use Rattle.dso_base.specs.declared.lock.Grade.TheVariants as grade
use Rattle.dso_base.specs.declared.lock.LockName.{LockName}
use Rattle.dso_base.specs.declared.request.Reply.{Reply}
use Rattle.dso_base.specs.declared.request.Reply.TheVariants.{Done, Val}
use Rattle.dso_base.specs.declared.request.Request.TheVariants as request
use Rattle.dso_base.specs.declared.value.Value.{Value}
use Rattle.dso_base.specs.declared.value.Value.TheVariants as value
use Rattle.dso_reply.specs.declared.leaving.AfterExit.TheVariants as exit
use Rattle.dso_reply.specs.declared.waiting.AfterWait.TheVariants as after
use Rattle.dso_reply.specs.declared.roots.Binding.TheVariants as binding
use Rattle.dso_reply.specs.Replies.{after_wait, after_tick, after_exit, binding_of}
use Rattle.dso_machine.specs.declared.code.Code.{Code}
use Rattle.dso_machine.specs.declared.continuation.End.{End}
use Rattle.dso_machine.specs.declared.continuation.OnReply.TheVariants as reply
use Rattle.dso_machine.specs.Outcome.{State, tell, unwanted, settling, put, Gives}
use Rattle.dso_machine.specs.Continuation.{heard, ended, end_values}
use Rattle.dso_machine.specs.Statements.{ticking}

module _ (code : Code) (n k : ℕ) (at : State) where
  -- a wait without a limit, with one, and where the reply isn't wanted
  pub waits_no_more : (l : LockName) (ticks : ℕ) (r : Reply) → after_wait r ticks ≡ after.Resumes → heard code n k (reply.Waited l ticks) r at ≡ tell (request.Resume l) at
  waits_no_more l zero Done is = refl
  waits_no_more l (suc m) Done is = cc is
  waits_no_more l ticks other is = cc is

  pub waits_on : (l : LockName) (ticks : ℕ) (r : Reply) → after_wait r ticks ≡ after.Ticks → heard code n k (reply.Waited l ticks) r at ≡ ticking l ticks at
  waits_on l zero Done is = cc is
  waits_on l (suc m) Done is = refl
  waits_on l ticks other is = cc is

  pub waits_wrongly : (l : LockName) (ticks : ℕ) (r : Reply) → after_wait r ticks ≡ after.Unwanted → heard code n k (reply.Waited l ticks) r at ≡ unwanted r at
  waits_wrongly l zero Done is = cc is
  waits_wrongly l (suc m) Done is = cc is
  waits_wrongly l ticks other is = refl

  -- a tick that told that the thread was woken, one that told that it wasn't, and no such reply
  pub tick_wakes : (l : LockName) (left : ℕ) (r : Reply) → after_tick r ≡ after.Resumes → heard code n k (reply.Ticked l left) r at ≡ tell (request.Resume l) at
  tick_wakes l left (Val (value.Bool true)) is = refl
  tick_wakes l left (Val (value.Bool false)) is = cc is
  tick_wakes l left (Val other) is = cc is
  tick_wakes l left other is = cc is

  pub tick_goes_on : (l : LockName) (left : ℕ) (r : Reply) → after_tick r ≡ after.Ticks → heard code n k (reply.Ticked l left) r at ≡ ticking l left at
  tick_goes_on l left (Val (value.Bool true)) is = cc is
  tick_goes_on l left (Val (value.Bool false)) is = refl
  tick_goes_on l left (Val other) is = cc is
  tick_goes_on l left other is = cc is

  pub tick_unwanted : (l : LockName) (left : ℕ) (r : Reply) → after_tick r ≡ after.Unwanted → heard code n k (reply.Ticked l left) r at ≡ unwanted r at
  tick_unwanted l left (Val (value.Bool true)) is = cc is
  tick_unwanted l left (Val (value.Bool false)) is = cc is
  tick_unwanted l left (Val other) is = refl
  tick_unwanted l left other is = refl

  -- a lock that was entered at synchronous write was left, another one, and no such reply
  pub exit_settles : (g : Grade) (end : End) (r : Reply) → after_exit r g ≡ exit.Settles → heard code n k (reply.Left g end) r at ≡ settling (end_values end) grade.Synchronous (ended end) at
  exit_settles grade.Synchronous end Done is = refl
  exit_settles grade.Write end Done is = cc is
  exit_settles grade.Read end Done is = cc is
  exit_settles g end other is = cc is

  pub exit_goes_on : (g : Grade) (end : End) (r : Reply) → after_exit r g ≡ exit.GoesOn → heard code n k (reply.Left g end) r at ≡ ended end at
  exit_goes_on grade.Synchronous end Done is = cc is
  exit_goes_on grade.Write end Done is = refl
  exit_goes_on grade.Read end Done is = refl
  exit_goes_on g end other is = cc is

  pub exit_unwanted : (g : Grade) (end : End) (r : Reply) → after_exit r g ≡ exit.Unwanted → heard code n k (reply.Left g end) r at ≡ unwanted r at
  exit_unwanted grade.Synchronous end Done is = cc is
  exit_unwanted grade.Write end Done is = cc is
  exit_unwanted grade.Read end Done is = cc is
  exit_unwanted g end other is = refl

  -- a root that was null, one that is bound, and no such reply
  pub root_bound : (root : ℕ) (v : Value) (r : Reply) → binding_of r ≡ binding.Binds → heard code n k (reply.Bind root v) r at ≡ put 0 root v at
  root_bound root v (Val value.Null) is = refl
  root_bound root v (Val other) is = cc is
  root_bound root v other is = cc is

  pub root_stays : (root : ℕ) (v : Value) (r : Reply) → binding_of r ≡ binding.Stays → heard code n k (reply.Bind root v) r at ≡ Gives value.Null at
  root_stays root v (Val value.Null) is = cc is
  root_stays root v (Val other) is = refl
  root_stays root v other is = cc is

  pub root_unwanted : (root : ℕ) (v : Value) (r : Reply) → binding_of r ≡ binding.Unwanted → heard code n k (reply.Bind root v) r at ≡ unwanted r at
  root_unwanted root v (Val value.Null) is = cc is
  root_unwanted root v (Val other) is = cc is
  root_unwanted root v other is = refl

pub ruleset waits_by_reply = (waits_no_more, waits_on, waits_wrongly)

pub ruleset ticks_by_reply = (tick_wakes, tick_goes_on, tick_unwanted)

pub ruleset exits_by_reply = (exit_settles, exit_goes_on, exit_unwanted)

pub ruleset binds_by_reply = (root_bound, root_stays, root_unwanted)

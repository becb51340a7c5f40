-- What a thread does after a reply, where the reply and a number or a grade alone decide it.
use Rattle.std.specs.Prelude.{ℕ, zero, suc, true, false}
use Rattle.dso_base.specs.declared.lock.Grade.{Grade}
use Rattle.dso_base.specs.declared.lock.Grade.TheVariants as grade
use Rattle.dso_base.specs.declared.request.Reply.{Reply}
use Rattle.dso_base.specs.declared.request.Reply.TheVariants.{Done, Val}
use Rattle.dso_base.specs.declared.value.Value.TheVariants as value
use Rattle.dso_reply.specs.declared.leaving.AfterExit.{AfterExit}
use Rattle.dso_reply.specs.declared.leaving.AfterExit.TheVariants as exit
use Rattle.dso_reply.specs.declared.waiting.AfterWait.{AfterWait}
use Rattle.dso_reply.specs.declared.waiting.AfterWait.TheVariants as wait
use Rattle.dso_reply.specs.declared.roots.Binding.{Binding}
use Rattle.dso_reply.specs.declared.roots.Binding.TheVariants as binding

-- a thread waits for so many ticks, 0 of which stand for no limit: with a limit its ticks come, else it has its lock
-- again
abbrev pub after_wait : Reply → ℕ → AfterWait
after_wait Done zero = wait.Resumes
after_wait Done (suc n) = wait.Ticks
after_wait r n = wait.Unwanted

-- a tick told the thread whether it was woken: then it has its lock again, else its ticks go on
abbrev pub after_tick : Reply → AfterWait
after_tick (Val (value.Bool true)) = wait.Resumes
after_tick (Val (value.Bool false)) = wait.Ticks
after_tick r = wait.Unwanted

-- behind the exit of an entry at synchronous write the thread settles
abbrev pub after_exit : Reply → Grade → AfterExit
after_exit Done grade.Synchronous = exit.Settles
after_exit Done grade.Write = exit.GoesOn
after_exit Done grade.Read = exit.GoesOn
after_exit r g = exit.Unwanted

-- the first assignment binds a root: one that is bound stays
abbrev pub binding_of : Reply → Binding
binding_of (Val value.Null) = binding.Binds
binding_of (Val v) = binding.Stays
binding_of r = binding.Unwanted

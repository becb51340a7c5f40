-- Without replies left nothing is over: what a tidy part comes to, and what is made of it.
use Rattle.std.proofs.Common.{◌≡◌, refl, ℕ, zero, suc, Bool, true, false, List, [], ◌∷◌, subst, sym}
use Rattle.dso_base.specs.declared.lock.Grade.{Grade}
use Rattle.dso_base.specs.declared.lock.Grade.TheVariants as grade
use Rattle.dso_base.specs.declared.lock.LockName.{LockName}
use Rattle.dso_base.specs.declared.request.Reply.{Reply}
use Rattle.dso_base.specs.declared.request.Reply.TheVariants.{Done, Val}
use Rattle.dso_base.specs.declared.value.Value.{Value}
use Rattle.dso_base.specs.declared.value.Value.TheVariants as value
use Rattle.dso_machine.specs.Calls.{back_in}
use Rattle.dso_machine.specs.Outcome.{Environment, State, Outcome, Wants, Gives, Leaves, Fails, Hears, Over, Stopped, Meaning, choose, on_value, restored, letting_go, unwanted, settling, leaving, leave}
use Rattle.dso_machine.specs.Statements.{unless_woken, timed_out, ticks, waiting}
use Rattle.dso_machine.specs.Unwinding.{with_replies, Hold}
use Rattle.dso_machine.proofs.protocol.Parts.{refilled}
use Rattle.dso_machine.proofs.unwinding.Tidy.{IsEnd, Phase, Tidy, IsTidy}
use Rattle.dso_machine.proofs.unwinding.Parts.{tidy_unwanted}

-- An outcome that is not over, after which no replies are left.
abbrev pub Live : Outcome → Type 0
Live (Wants q env) = Unit {0}
Live (Gives v u) = u.replies ≡ []
Live (Leaves v u) = u.replies ≡ []
Live (Fails f u) = u.replies ≡ []
Live (Hears r u) = ⊥
Live Over = ⊥
Live Stopped = Unit {0}

-- an end of a part is live where no replies are left
live_end : (e : Outcome) → IsEnd e → Live (refilled [] e)
live_end (Gives v u) end = refl
live_end (Leaves v u) end = refl
live_end (Fails fault u) end = refl
live_end (Wants q env) end = tt
live_end (Hears r u) end = end
live_end Over end = end
live_end Stopped end = tt

-- what a tidy part comes to is live where no replies are left
live_of : {p : Phase} {hs : List Hold} (o : List Reply → Outcome) → Tidy p hs o → Live (o [])
live_of o (Tidy.asks q is simple fails go) = subst Live (sym is) tt
live_of o (Tidy.enters l grade is entry fails inside other) = subst Live (sym is) tt
live_of o (Tidy.exits h is go) = subst Live (sym is) tt
live_of o (Tidy.settles is go) = subst Live (sym is) tt
live_of o (Tidy.waits l is fails asleep other) = subst Live (sym is) tt
live_of o (Tidy.ticks l is go) = subst Live (sym is) tt
live_of o (Tidy.times_out l is over woken) = subst Live (sym is) tt
live_of o (Tidy.resumes l more is go) = subst Live (sym is) tt
live_of o (Tidy.ends e is end) = subst Live (sym (is [])) (live_end e end)
live_of o (Tidy.stops is) = subst Live (sym (is [])) tt

-- so from a state without replies
pub live_from : (m : Meaning) → IsTidy m → (u : State) → Live (m (with_replies [] u))
live_from m tidy u = live_of (λ rs. m (with_replies rs u)) (tidy.from u)

-- a part that is live from each state without replies
pub record IsLive (m : Meaning) : Type 0 where
  pub at : (u : State) → Live (m (with_replies [] u))

-- so is a tidy one
pub live_tidy : (m : Meaning) → IsTidy m → IsLive m
live_tidy m tidy = record { at = live_from m tidy }

-- what is done with a value is live where no replies are left
value_at : (f : Value → Meaning) (v : Value) (u : State) (rs : List Reply) → rs ≡ [] → IsLive (f v) → Live (f v (with_replies rs u))
value_at f v u [] none live = live.at u
value_at f v u (r ∷ rs) none live = absurd (cc none)

-- and keeps an outcome live
pub live_value : (f : Value → Meaning) (o : Outcome) → Live o → ((v : Value) → IsLive (f v)) → Live (on_value f o)
live_value f (Gives v u) h g = value_at f v u u.replies h (g v)
live_value f (Wants q env) h g = tt
live_value f (Leaves v u) h g = h
live_value f (Fails x u) h g = h
live_value f (Hears r u) h g = absurd h
live_value f Over h g = absurd h
live_value f Stopped h g = tt

-- the environment of the caller keeps it live
pub live_back : (caller : Environment) (o : Outcome) → Live o → Live (back_in caller o)
live_back caller (Wants q env) h = tt
live_back caller (Gives v u) h = h
live_back caller (Leaves v u) h = h
live_back caller (Fails f u) h = h
live_back caller (Hears r u) h = absurd h
live_back caller Over h = absurd h
live_back caller Stopped h = tt

-- so does what was held before
live_restored : (outer : List Value) (o : Outcome) → Live o → Live (restored outer o)
live_restored outer (Wants q env) h = tt
live_restored outer (Gives v u) h = h
live_restored outer (Leaves v u) h = h
live_restored outer (Fails f u) h = h
live_restored outer (Hears r u) h = absurd h
live_restored outer Over h = absurd h
live_restored outer Stopped h = tt

pub live_letting_go : (vs outer : List Value) (o : Outcome) → Live o → Live (letting_go vs outer o)
live_letting_go [] outer o h = h
live_letting_go (v ∷ vs) outer o h = live_restored outer o h

-- where a lock is left without replies, its exit is wanted
exit_live : (vs : List Value) (l : LockName) (grade : Grade) (m : Meaning) (u : State) (rs : List Reply) → rs ≡ [] → Live (leaving vs l grade m (with_replies rs u))
exit_live vs l grade m u [] none = tt
exit_live vs l grade m u (r ∷ rs) none = absurd (cc none)

-- and that keeps an outcome live
pub live_leave : (l : LockName) (grade : Grade) (o : Outcome) → Live o → Live (leave l grade o)
live_leave l grade (Wants q env) h = tt
live_leave l grade (Gives v u) h = exit_live (v ∷ []) l grade (Gives v) u u.replies h
live_leave l grade (Leaves v u) h = exit_live (v ∷ []) l grade (Leaves v) u u.replies h
live_leave l grade (Fails f u) h = exit_live [] l grade (Fails f) u u.replies h
live_leave l grade (Hears r u) h = absurd h
live_leave l grade Over h = absurd h
live_leave l grade Stopped h = tt

-- a thread that settles asks for that
pub live_settling : (vs : List Value) (grade : Grade) (m : Meaning) → IsLive m → IsLive (settling vs grade m)
live_settling vs grade.Read m live = record { at = λ u. live.at u }
live_settling vs grade.Write m live = record { at = λ u. live.at u }
live_settling vs grade.Synchronous m live = record { at = λ u. tt }

-- one that waits asks for a tick, its timeout or its lock
pub live_ticks : (l : LockName) (n : ℕ) → IsLive (ticks l n)
live_ticks l zero = record { at = λ u. tt }
live_ticks l (suc n) = record { at = λ u. tt }

pub live_waiting : (l : LockName) (n : ℕ) → IsLive (waiting l n)
live_waiting l zero = record { at = λ u. tt }
live_waiting l (suc n) = record { at = λ u. tt }

-- a thread goes on after a tick, too:
live_choice : (woken : Bool) (m : Meaning) → IsLive m → IsLive (choose woken (Gives value.Null) m)
live_choice true m live = record { at = λ u. refl }
live_choice false m live = record { at = λ u. live.at u }

pub live_unless_woken : (m : Meaning) → IsLive m → (r : Reply) → IsLive (unless_woken m r)
live_unless_woken m live (Val (value.Bool woken)) = live_choice woken m live
live_unless_woken m live r = live_tidy (unwanted r) (tidy_unwanted r)

-- and after a timeout
pub live_timed_out : (r : Reply) → IsLive (timed_out r)
live_timed_out Done = record { at = λ u. refl }
live_timed_out (Val (value.Bool true)) = record { at = λ u. refl }
live_timed_out r = live_tidy (unwanted r) (tidy_unwanted r)

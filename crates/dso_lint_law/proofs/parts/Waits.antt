-- Waits: the lock is given up, and held as before at the end.
use Rattle.std.proofs.Common.{◌≡◌, refl, ℕ, zero, suc, Bool, true, false, cond, Option, None, Some, sym, ap, ◌∙◌}
use Rattle.std.specs.Prelude.{pos}
use Rattle.dso_base.specs.declared.lock.Level.TheVariants.{Write}
use Rattle.dso_base.specs.declared.lock.LockName.{LockName}
use Rattle.dso_base.specs.declared.lock.LockName.TheVariants.{Mon}
use Rattle.dso_base.specs.declared.request.Fault.TheVariants.{BadValue}
use Rattle.dso_base.specs.declared.request.Reply.{Reply}
use Rattle.dso_base.specs.declared.request.Reply.TheVariants.{Done, Val, Refused}
use Rattle.dso_base.specs.declared.request.Request.TheVariants as request
use Rattle.dso_base.specs.declared.shape.Shape.{Shape}
use Rattle.dso_base.specs.declared.value.Value.{Value}
use Rattle.dso_base.specs.declared.value.Value.TheVariants as value
use Rattle.dso_machine.specs.Outcome.{State, Outcome, Gives, Fails, Meaning, on_value, done, tell}
use Rattle.dso_machine.specs.Statements.{unless_woken, timed_out, ticks, ticking, waiting, wait, on_count, timed_wait}
use Rattle.dso_machine.specs.Unwinding.{with_replies}
use Rattle.dso_plain.specs.KeyTests.{is_lock}
use Rattle.dso_plain.specs.State.{Hold, level_of}
use Rattle.dso_plain.specs.After.{resumed, count_of}
use Rattle.dso_lint_law.proofs.parts.Views.{View, viewed, MayCome, Later, later_itself}
use Rattle.dso_lint_law.proofs.parts.Parts.{Obeys, Around, keeps_itself, Stands, stands_later, Any, Fine, Part, part_fails, part_object}
use Rattle.dso_lint_law.proofs.parts.Locks.{asked_at, same_lock, lock_self}

-- a hold at Write, given up and taken again with its count
back_again : (hold : Option Hold) → level_of hold ≡ Some Write → resumed (Some (count_of hold)) ≡ hold
back_again None is = absurd (cc is)
back_again (Some hold) is =
    let at_write : hold.level ≡ Write = cc is in
    ap (λ level. Some (record { level = level; count = hold.count })) (sym at_write)

module _ (shape : Shape) (c : Around) where
  -- A wait on a lock that is held at Write, from a view and a state.
  module _ (g : View) (l : LockName) (u : State) (stands : Stands shape c g u.environment) (held : level_of (g.holds l) ≡ Some Write) where
    -- the view while the thread waits, and after it
    abbrev waits_at : View
    waits_at = viewed (request.Wait l) Done g

    abbrev back_at : View
    back_at = viewed (request.Resume l) Done waits_at

    later_back : Later c.quiet g back_at
    later_back = record { holds = λ k. by k (is_lock l k) refl; class = λ o x is. is; shared = λ o is. is; own = λ q o is. is }
      where
        counted : cond (is_lock l l) (Some (count_of (g.holds l))) (g.asleep l) ≡ Some (count_of (g.holds l))
        counted = ap (λ b. cond b (Some (count_of (g.holds l))) (g.asleep l)) (lock_self l)

        by : (k : LockName) (b : Bool) → is_lock l k ≡ b → cond b (resumed (waits_at.asleep l)) (cond b None (g.holds k)) ≡ g.holds k
        by k true is = ap resumed counted ∙ back_again (g.holds l) held ∙ ap g.holds (sym (same_lock l k is))
        by k false is = refl

    abbrev End : Outcome → View → Type 0
    End = Fine shape c Any g u.environment

    -- what follows when the thread was told to go on
    after_resume : (r : Reply) → MayCome waits_at (request.Resume l) r → Obeys shape End (viewed (request.Resume l) r waits_at) (λ rs. done r (with_replies rs (asked_at u)))
    after_resume Done comes = Obeys.ends (Gives value.Null (asked_at u)) (λ rs. refl) (later_back, tt, stands_later shape c g back_at u.environment.this u.environment.vars later_back stands, keeps_itself c u.environment)
    after_resume r comes = absurd comes.listed

    keeps_resuming : Obeys shape End waits_at (λ rs. tell (request.Resume l) (with_replies rs (asked_at u)))
    keeps_resuming = Obeys.asks (request.Resume l) refl tt after_resume

    -- what follows its timeout
    after_timeout : (r : Reply) → MayCome waits_at (request.Timeout l) r → Obeys shape End (viewed (request.Timeout l) r waits_at) (λ rs. on_value (λ v. tell (request.Resume l)) (timed_out r (with_replies rs (asked_at u))))
    after_timeout Done comes = keeps_resuming
    after_timeout (Val (value.Bool true)) comes = keeps_resuming
    after_timeout r comes = absurd comes.listed

    -- what follows a tick
    after_tick : (n : ℕ) → Obeys shape End waits_at (λ rs. ticking l n (with_replies rs (asked_at u))) → (r : Reply) → MayCome waits_at (request.Tick l) r
        → Obeys shape End (viewed (request.Tick l) r waits_at) (λ rs. on_value (λ v. tell (request.Resume l)) (unless_woken (ticks l n) r (with_replies rs (asked_at u))))
    after_tick n then (Val (value.Bool true)) comes = keeps_resuming
    after_tick n then (Val (value.Bool false)) comes = then
    after_tick n then r comes = absurd comes.listed

    -- so many ticks, and its timeout
    keeps_ticking : (n : ℕ) → Obeys shape End waits_at (λ rs. ticking l n (with_replies rs (asked_at u)))
    keeps_ticking zero = Obeys.asks (request.Timeout l) refl tt after_timeout
    keeps_ticking (suc n) = Obeys.asks (request.Tick l) refl tt (after_tick n (keeps_ticking n))

    -- with and without a limit
    keeps_waiting : (n : ℕ) → Obeys shape End waits_at (λ rs. waiting l n (with_replies rs (asked_at u)))
    keeps_waiting zero = keeps_resuming
    keeps_waiting (suc n) = keeps_ticking (suc n)

  -- what follows each reply to a wait
  keeps_waited : (n : ℕ) (g : View) (l : LockName) (u : State) → Stands shape c g u.environment → (r : Reply) → MayCome g (request.Wait l) r
      → Obeys shape (Fine shape c Any g u.environment) (viewed (request.Wait l) r g) (λ rs. on_value (λ v. waiting l n) (done r (with_replies rs (asked_at u))))
  keeps_waited n g l u stands Done comes = keeps_waiting g l u stands comes.waits n
  keeps_waited n g l u stands (Refused fault) comes = Obeys.ends (Fails fault (asked_at u)) (λ rs. refl) (later_itself c.quiet g)
  keeps_waited n g l u stands r comes = absurd comes.listed

  -- a thread waits on a lock, and then has it again
  pub part_wait : (g : View) (n : ℕ) (l : LockName) → Part shape c Any g (wait n l)
  part_wait g n l = record { from = λ h u later stands. Obeys.asks (request.Wait l) refl tt (keeps_waited n h l u stands) }

  -- for as many ticks as a value says
  part_count : (g : View) (f : ℕ → Meaning) (v : Value) → ((n : ℕ) → Part shape c Any g (f n)) → Part shape c Any g (on_count f v)
  part_count g f (value.Long (pos n)) part = record { from = λ h u later stands. (part n).from h u later stands }
  part_count g f v part = record { from = λ h u later stands. (part_fails shape c Any g BadValue).from h u later stands }

  -- on the monitor of another one
  pub part_timed_wait : (g : View) (x v : Value) → Part shape c Any g (timed_wait x v)
  part_timed_wait g x v = part_object shape c Any g (λ object. on_count (λ n. wait n (Mon object)) v) x (λ object is. part_count g (λ n. wait n (Mon object)) v (λ n. part_wait g n (Mon object)))

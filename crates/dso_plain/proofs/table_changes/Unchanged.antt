-- Replies that change nothing.
use Rattle.std.proofs.Common.{ℕ, ◌≡◌, refl, Option}
use Rattle.dso_base.specs.declared.lock.Level.{Level}
use Rattle.dso_base.specs.declared.lock.LockName.{LockName}
use Rattle.dso_base.specs.declared.lock.ThreadId.{ThreadId}
use Rattle.dso_base.specs.declared.request.Reply.{Reply}
use Rattle.dso_base.specs.declared.request.Reply.TheVariants.{Done}
use Rattle.dso_base.specs.declared.request.Request.TheVariants.{Put, Enter, Wait, Timeout, Notify, NotifyAll}
use Rattle.dso_base.specs.declared.shape.Shape.{Shape}
use Rattle.dso_base.specs.declared.value.Value.{Value}
use Rattle.dso_plain.specs.State.{PlainState}
use Rattle.dso_plain.specs.After.{apply, change_of}

module _ (shape : Shape) (t : ThreadId) (woken : Option ThreadId) (s : PlainState) where
  pub still_put : (o f : ℕ) (v : Value) (reply : Reply) → (reply ≡ Done → ⊥) → s ≡ apply (change_of shape t (Put o f v) reply woken s) s
  still_put o f v Done ne = absurd (ne refl)
  still_put o f v reply ne = refl

  pub still_enter : (l : LockName) (x : Level) (reply : Reply) → (reply ≡ Done → ⊥) → s ≡ apply (change_of shape t (Enter l x) reply woken s) s
  still_enter l x Done ne = absurd (ne refl)
  still_enter l x reply ne = refl

  pub still_wait : (l : LockName) (reply : Reply) → (reply ≡ Done → ⊥) → s ≡ apply (change_of shape t (Wait l) reply woken s) s
  still_wait l Done ne = absurd (ne refl)
  still_wait l reply ne = refl

  pub still_timeout : (l : LockName) (reply : Reply) → (reply ≡ Done → ⊥) → s ≡ apply (change_of shape t (Timeout l) reply woken s) s
  still_timeout l Done ne = absurd (ne refl)
  still_timeout l reply ne = refl

  pub still_notify : (l : LockName) (reply : Reply) → (reply ≡ Done → ⊥) → s ≡ apply (change_of shape t (Notify l) reply woken s) s
  still_notify l Done ne = absurd (ne refl)
  still_notify l reply ne = refl

  pub still_notify_all : (l : LockName) (reply : Reply) → (reply ≡ Done → ⊥) → s ≡ apply (change_of shape t (NotifyAll l) reply woken s) s
  still_notify_all l Done ne = absurd (ne refl)
  still_notify_all l reply ne = refl

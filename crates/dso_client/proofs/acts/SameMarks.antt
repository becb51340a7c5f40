-- Whose mark an act leaves as it is.
use Rattle.std.proofs.Common.{◌≡◌, refl, ap, Bool, false, cond, ◌&&◌, ◌||◌, Option, List}
use Rattle.dso_base.specs.declared.journal.Entry.{Entry}
use Rattle.dso_base.specs.declared.lock.ThreadId.{ThreadId}
use Rattle.dso_base.specs.declared.request.Reply.{Reply}
use Rattle.dso_base.specs.declared.request.Reply.TheVariants.{Done}
use Rattle.dso_base.specs.declared.request.Request.{Request}
use Rattle.dso_base.specs.declared.request.Request.TheVariants.{Wait, Timeout, Notify, NotifyAll}
use Rattle.dso_base.specs.Following.{is_thread}
use Rattle.dso_law.specs.ClientWaiters.{is_listed, is_woken, marked_by_act}
use Rattle.dso_client.specs.LeaseReturns.{marks_all}

-- who is marked is as before, but for the acting thread and those that the act may have marked
pub marked_same : (t u : ThreadId) (es : List Entry) (request : Request) (reply : Reply) (woken : Option ThreadId)
    (before : Bool) → is_thread t u ≡ false → (marks_all request || is_woken t woken) ≡ false
    → marked_by_act t es u request reply woken before ≡ before
marked_same t u es (Wait l) Done woken before other unmarked = ap (λ b. cond b false before) other
marked_same t u es (Timeout l) Done woken before other unmarked = ap (λ b. (b && is_listed t l es) || before) other
marked_same t u es (Notify l) Done woken before other unmarked = ap (λ b. b || before) unmarked
marked_same t u es (NotifyAll l) Done woken before other unmarked = absurd (cc unmarked)
marked_same t u es request reply woken before other unmarked = refl

-- When a thread of the client may be woken.
use Rattle.std.specs.List.{list_any}
use Rattle.std.specs.Prelude.{◌≡◌, false, List}
use Rattle.dso_base.specs.declared.journal.Entry.{Entry}
use Rattle.dso_base.specs.declared.lock.LockName.{LockName}
use Rattle.dso_base.specs.declared.lock.ThreadId.{ThreadId}
use Rattle.dso_base.specs.Following.{is_thread}
use Rattle.dso_law.specs.ClientWaiters.{client_list, is_marked}
use Rattle.dso_law.specs.FitsDown.{IsWaitingOn}
use Rattle.dso_law.specs.Threads.{locks_of}

-- the thread waits on the lock, isn't marked, and isn't in the client's list
pub record MayWake (l : LockName) (t : ThreadId) (es : List Entry) : Type 0 where
  pub waits : IsWaitingOn l (locks_of t es).waiting
  pub unmarked : is_marked t es ≡ false
  pub unlisted : list_any (is_thread t) (client_list l es) ≡ false

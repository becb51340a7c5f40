-- The threads of the cluster, each with how its last record ended.
use Rattle.std.specs.BTreeMap.{BTreeMap}
use Rattle.dso_machine.specs.declared.code.Code.{Code}
use Rattle.dso_law.specs.Settings.{Settings}
use Rattle.dso_base.specs.Following.{is_thread}
use Rattle.std.specs.List.{list_any}
use Rattle.std.specs.Prelude.{Bool, false, is_some, Option, Some, None, map, List, ◌≡◌}
use Rattle.dso_base.specs.declared.lock.ThreadId.{ThreadId}
use Rattle.dso_base.specs.declared.record.Ending.{Ending}
use Rattle.dso_law.specs.ServerReadings.{is_end}
use Rattle.dso_lookup.specs.Maps.{look}
use Rattle.dso_lookup.specs.Orders.{thread_order}

-- how a thread's last record ended, None where it has none, or where there is no such thread
abbrev pub ending_there : Option (Option Ending) → Option Ending
ending_there None = None
ending_there (Some last) = last

-- whether it is the thread's end
abbrev pub ends_there : Option Ending → Bool
ends_there None = false
ends_there (Some ending) = is_end ending

-- whether there is such a thread
abbrev pub known_in : BTreeMap ThreadId (Option Ending) → ThreadId → Bool
known_in threads t = is_some (look thread_order threads t)

-- how each thread's last record ended
abbrev pub last_in : BTreeMap ThreadId (Option Ending) → ThreadId → Option Ending
last_in threads t = ending_there (look thread_order threads t)

-- the threads of a code, in the order of their bodies
abbrev pub threads_in : Code → List ThreadId
threads_in code = map (λ body. body.thread) code.bodies

-- the threads of the cluster are those of the code
abbrev pub RunsThreadsOf : Code → Settings → Type 0
RunsThreadsOf code p = (t : ThreadId) → list_any (is_thread t) p.threads ≡ list_any (is_thread t) (threads_in code)

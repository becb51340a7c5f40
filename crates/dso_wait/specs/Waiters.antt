-- Lists of waiting threads.
use Rattle.std.specs.Prelude.{ℕ, Bool, not, eqb, List, filter}
use Rattle.std.specs.List.{list_any}
use Rattle.dso_base.specs.declared.lock.ThreadId.{ThreadId}
use Rattle.dso_base.specs.Following.{is_thread}

-- whether the thread is in the list
abbrev pub is_listed : ThreadId → List ThreadId → Bool
is_listed t threads = list_any (is_thread t) threads

-- the list without the thread
abbrev pub without : ThreadId → List ThreadId → List ThreadId
without t threads = filter (λ u. not (is_thread t u)) threads

-- the list without the client's threads
abbrev pub without_client : ℕ → List ThreadId → List ThreadId
without_client client threads = filter (λ u. not (eqb u.client client)) threads

-- Where a client stands in a run.
use Rattle.std.specs.Prelude.{ℕ, Option, List}
use Rattle.dso_base.specs.declared.journal.Entry.{Entry}
use Rattle.dso_base.specs.declared.lock.ThreadId.{ThreadId}
use Rattle.dso_base.specs.declared.request.Request.{Request}
use Rattle.dso_law.specs.Settings.{Settings}

-- A point of a client's run: what the cluster runs by, the client's number, the next request of each thread, and the
-- client's entries, the newest first.
pub record RunPoint : Type 0 where
  pub settings : Settings
  pub client : ℕ
  pub next : ThreadId → Option Request
  pub entries : List Entry

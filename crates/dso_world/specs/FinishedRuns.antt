-- When threads have ended and a journal is finished, by what the nodes keep. Entries stand with the newest first.
use Rattle.std.specs.List.{list_any, AllByRecursion}
use Rattle.std.specs.Prelude.{◌≡◌, ◌≢◌, true, eqb, not, is_some, None, List}
use Rattle.dso_base.specs.declared.journal.Entry.{Entry}
use Rattle.dso_base.specs.declared.lock.ThreadId.{ThreadId}
use Rattle.dso_law.specs.Settings.{Settings, clients_of}
use Rattle.dso_legal.specs.Lawful.{IsLawful, next_after}
use Rattle.dso_legal.specs.Slots.{has_ended, is_finished}
use Rattle.dso_machine.specs.declared.code.Code.{Code}
use Rattle.dso_machine.specs.Next.{body_of, next_request}
use Rattle.dso_machine.specs.Sound.{IsSoundCode}
use Rattle.dso_world.specs.Busy.{is_busy}

-- Ends: in a lawful journal of sound code a thread of the code has ended exactly where it has no next request.
abbrev pub EndedAsksNothing : Type 0
EndedAsksNothing = (code : Code) (p : Settings) (es : List Entry) → IsSoundCode code → p.shape ≡ code.shape
    → IsLawful p (next_request code) es → (t : ThreadId) → body_of t code.bodies ≢ None
    → has_ended t es ≡ not (is_some (next_after (next_request code) es t))

-- Finished: where each thread is of one of the clients, a journal is finished exactly where no client is busy.
abbrev pub FinishedWhereNoneIsBusy : Type 0
FinishedWhereNoneIsBusy = (p : Settings) (es : List Entry)
    → AllByRecursion (λ t. list_any (eqb t.client) (clients_of p) ≡ true) p.threads
    → is_finished p es ≡ not (list_any (λ c. is_busy p c es) (clients_of p))

-- A message that was taken.
use Rattle.std.specs.List.{AllByRecursion}
use Rattle.std.proofs.Common.{◌≡◌, ℕ, refl, sym, ap, subst, Option, Some, List, [], ◌∷◌, map}
use Rattle.dso_base.specs.declared.journal.Entry.{Entry}
use Rattle.dso_base.specs.declared.journal.Sent.TheVariants.{ToServer}
use Rattle.dso_base.specs.declared.lock.ThreadId.{ThreadId}
use Rattle.dso_base.specs.declared.message.Down.{Down}
use Rattle.dso_base.specs.declared.message.Up.{Up}
use Rattle.dso_base.specs.declared.request.Request.{Request}
use Rattle.dso_law.specs.ClientRun.{next_in}
use Rattle.dso_law.specs.ClientStep.{ClientStep}
use Rattle.dso_law.specs.Entries.{events_in}
use Rattle.dso_law.specs.FitsDown.{FitsDown}
use Rattle.dso_law.specs.Settings.{Settings}
use Rattle.dso_law.specs.RunLaws.{IdsAreTaken}
use Rattle.dso_law.proofs.runs.IdsTaken.{ids_run_out}
use Rattle.dso_machine.specs.declared.code.Code.{Code}
use Rattle.dso_machine.specs.declared.thread.Thread.{Thread}
use Rattle.dso_machine.specs.Next.{next_request}
use Rattle.dso_machine.specs.Standing.{ThreadStands}
use Rattle.dso_client.specs.declared.client_state.ClientState.{ClientState}
use Rattle.dso_client.specs.declared.thread_context.ThreadContext.{ThreadContext}
use Rattle.dso_client.specs.ClientStands.{ClientStands, point}
use Rattle.dso_client.specs.CodeRuns.{Runs, ContextRuns, RunsCode}
use Rattle.dso_client.specs.Entries.{taken_entry}
use Rattle.dso_client.specs.ContextPlaces.{running}
use Rattle.dso_client.specs.TakenMessages.{IsQuiet, Settles}
use Rattle.dso_client.proofs.contexts.AtStart.{all_as}
use Rattle.dso_client.proofs.due.Leased.{quiet_lease}
use Rattle.dso_client.proofs.facts.All.{run_facts}

-- what holds of what is told of each, holds of all that is told
all_told : {X Y : Type 0} (tell : X → Y) (Q : Y → Type 0) (xs : List X) → AllByRecursion (λ x. Q (tell x)) xs → AllByRecursion Q (map tell xs)
all_told tell Q [] h = tt
all_told tell Q (x ∷ xs) h = (h.0, all_told tell Q xs h.1)

told_all : {X Y : Type 0} (tell : X → Y) (Q : Y → Type 0) (xs : List X) → AllByRecursion Q (map tell xs) → AllByRecursion (λ x. Q (tell x)) xs
told_all tell Q [] h = tt
told_all tell Q (x ∷ xs) h = (h.0, told_all tell Q xs h.1)

pub same_told : {X Y : Type 0} (tell : X → Y) (Q : Y → Type 0) (xs ys : List X) → map tell ys ≡ map tell xs → AllByRecursion (λ x. Q (tell x)) xs → AllByRecursion (λ x. Q (tell x)) ys
same_told tell Q xs ys same h = told_all tell Q ys (subst (AllByRecursion Q) (sym same) (all_told tell Q xs h))

-- a context runs the code, said of its parts
abbrev Told : Code → ThreadContext → Type 0
Told code context = (request : Request) → context.next ≡ Some request → Runs code context.id context.thread request

-- contexts with the same threads and next requests run the same code
pub runs_on : (code : Code) (old new : ClientState) → map running new.contexts.items ≡ map running old.contexts.items → RunsCode code old → RunsCode code new
runs_on code old new same h = all_as (Told code) (ContextRuns code) (λ context f. record { runs = f }) new.contexts.items
    (same_told running (λ (x : ThreadId × Thread × Option Request). (request : Request) → x.2 ≡ Some request → Runs code x.0 x.1 request) old.contexts.items new.contexts.items same
    (all_as (ContextRuns code) (Told code) (λ context s. s.runs) old.contexts.items h))

module _ (code : Code) (p : Settings) (c clock : ℕ) (m : Down) (es : List Entry) (old : ClientState) (h : ClientStands code p c old es) where
  pub quiet : IsQuiet (point code p c es)
  quiet l = quiet_lease p c (next_request code) es h.run l

  pub ids_taken : IdsAreTaken es
  ids_taken = ids_run_out p c (next_request code) es h.run

  pub took : (new : ClientState) (sent : List Up) → FitsDown p c m es → Settles clock m (point code p c es) sent new → map running new.contexts.items ≡ map running old.contexts.items
      → ClientStands code p c new (taken_entry clock c m sent ∷ es)
  took new sent fits settles same =
      let step : ClientStep p c (next_in (next_request code) es) (next_in (next_request code) (taken_entry clock c m sent ∷ es)) (taken_entry clock c m sent) es = record { fits = fits; event = refl; sends = ap (map ToServer) settles.sends } in
      record {
        shape = h.shape;
        run = (h.run, step);
        parts = record {
          number = settles.parts.number;
          places = settles.parts.places;
          numbered = settles.parts.numbered;
          contexts = settles.parts.contexts;
          table = settles.parts.table;
          lock_state = settles.parts.lock_state;
          sequences = settles.parts.sequences;
          facts = run_facts p c (next_request code) (taken_entry clock c m sent ∷ es) (h.run, step);
        };
        threads = same_told running (λ (x : ThreadId × Thread × Option Request). ThreadStands code x.0 x.1 (events_in x.0 es)) old.contexts.items new.contexts.items same h.threads;
      }

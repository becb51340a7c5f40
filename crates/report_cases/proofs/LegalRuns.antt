-- A legal history with one event more that follows the program.
use Rattle.std.proofs.Common.{◌≡◌, refl, sym, ◌∙◌, ap, subst, Bool, true, false, cond, Option, Some, List, [], ◌∷◌, ◌++◌}
use Rattle.dso_base.specs.declared.lock.ThreadId.{ThreadId}
use Rattle.dso_base.specs.declared.request.Event.{Event}
use Rattle.dso_base.specs.declared.request.Event.TheVariants.{Act, Lost}
use Rattle.dso_base.specs.declared.request.Reply.{Reply}
use Rattle.dso_base.specs.declared.request.Request.{Request}
use Rattle.dso_base.specs.Following.{is_thread, FollowsFrom, IsListedFor, Listed}
use Rattle.dso_class.specs.declared.program.Program.{Program}
use Rattle.dso_machine.specs.declared.code.Code.{Code}
use Rattle.dso_machine.specs.Next.{next_request}
use Rattle.dso_plain.specs.After.{after}
use Rattle.dso_plain.specs.History.{IsLegal, events_of, last_state}
use Rattle.dso_plain.specs.Possible.{May}
use Rattle.dso_plain.specs.State.{opening}
use Rattle.dso_plain.specs.HeapTables.{state_of}
use Rattle.dso_plain.proofs.independence.RunsSwap.{ends_in_parts}
use Rattle.dso_plain.proofs.keys.SameKeys.{same_thread}
use Rattle.dso_plain.proofs.histories.LegalGoesOn.{goes_on}
use Rattle.report_cases.specs.declared.legal_run.LegalRun.{LegalRun}
use Rattle.report_cases.specs.LegalRun.{IsLegalRun, IsNextEvent}

module _ (code : Code) (events : List Event) where
  -- a thread's part in an act that comes next follows the code, whether the act is the thread's or another's
  act_follows : (t u : ThreadId) (q : Request) (r : Reply) (woken : Option ThreadId) (b : Bool) → is_thread t u ≡ b → IsNextEvent code events (Act u q r woken)
      → FollowsFrom (next_request code) (Listed (next_request code)) t (events_of t events) (cond b (Act u q r woken ∷ []) [])
  act_follows t u q r woken true same next =
      let own : next_request code t (events_of t events) ≡ Some q = subst (λ v. next_request code v (events_of v events) ≡ Some q) (same_thread t u same) next.0 in
      ((own, subst (λ found. IsListedFor found r) (sym own) next.1), tt)
  act_follows t u q r woken false same next = tt

  -- each thread's part in an event that comes next follows the code
  event_follows : (t : ThreadId) (e : Event) → IsNextEvent code events e → FollowsFrom (next_request code) (Listed (next_request code)) t (events_of t events) (events_of t (e ∷ []))
  event_follows t (Act u q r woken) next = act_follows t u q r woken (is_thread t u) refl next
  event_follows t (Lost client) next = tt

-- a legal history is legal with one event more that comes next and is possible
pub legal_more : (p : Program) (run : LegalRun) (e : Event) → IsLegalRun p run → IsNextEvent p.code run.events.items e → May p.code.shape e (state_of run.plain)
    → IsLegal (next_request p.code) (Listed (next_request p.code)) p.code.shape (run.events.items ++ e ∷ [])
legal_more p run e is next may =
    goes_on (next_request p.code) (Listed (next_request p.code)) p.code.shape run.events.items (e ∷ []) is.legal
    (subst (May p.code.shape e) is.is_last may, tt) (λ t. event_follows p.code run.events.items t e next)

-- its last state is the one after the event
pub last_more : (p : Program) (run : LegalRun) (e : Event) → IsLegalRun p run → after p.code.shape e (state_of run.plain) ≡ last_state p.code.shape (run.events.items ++ e ∷ [])
last_more p run e is = ap (after p.code.shape e) is.is_last ∙ sym (ends_in_parts p.code.shape run.events.items (e ∷ []) (opening p.code.shape))

-- where there is no event more, a thread asks what it asked
pub asks_still : (code : Code) (t : ThreadId) (q : Request) (events next : List Event) → next ≡ events → next_request code t (events_of t events) ≡ Some q → next_request code t (events_of t next) ≡ Some q
asks_still code t q events next same asks = subst (λ es. next_request code t (events_of t es) ≡ Some q) (sym same) asks

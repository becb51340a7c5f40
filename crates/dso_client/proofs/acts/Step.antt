-- An act that is answered follows by the client rule.
use Rattle.std.specs.List.{AllByRecursion, list_any}
use Rattle.std.proofs.Common.{◌≡◌, ℕ, sym, ◌∙◌, ap, subst, true, eqb, Option, Some, List, ◌∷◌, ◌++◌, map}
use Rattle.dso_base.specs.declared.journal.Entry.{Entry}
use Rattle.dso_base.specs.declared.journal.Sent.TheVariants.{ToServer}
use Rattle.dso_base.specs.declared.lock.ThreadId.{ThreadId}
use Rattle.dso_base.specs.declared.message.Up.{Up}
use Rattle.dso_base.specs.declared.request.Event.TheVariants.{Act}
use Rattle.dso_base.specs.declared.request.Request.{Request}
use Rattle.dso_base.specs.Following.{is_thread}
use Rattle.dso_law.specs.ClientRun.{next_in}
use Rattle.dso_law.specs.ClientStep.{ClientStep, ActsOn, DoesOrAsks, Does, commits, returns, asks_again}
use Rattle.dso_law.specs.Entries.{events_in}
use Rattle.dso_law.specs.Settings.{Settings, threads_of}
use Rattle.dso_machine.specs.declared.code.Code.{Code}
use Rattle.dso_machine.specs.Next.{next_request}
use Rattle.dso_machine.specs.Standing.{ThreadStands}
use Rattle.dso_client.specs.declared.answered.Answered.{Answered}
use Rattle.dso_client.specs.declared.client_state.ClientState.{ClientState}
use Rattle.dso_client.specs.declared.thread_context.ThreadContext.{ThreadContext}
use Rattle.dso_client.specs.ClientStands.{ClientStands, point}
use Rattle.dso_client.specs.StateStands.{ClientPartsStand}
use Rattle.dso_client.specs.ActEffects.{acting, acting_entry, event_of, applied_entry}
use Rattle.dso_client.specs.Turns.{AnswersNext}
use Rattle.dso_client.proofs.asked.Step.{of_all}
use Rattle.dso_client.proofs.facts.All.{run_facts}

module _ (code : Code) (p : Settings) (clock : ℕ) (act : Answered) (es : List Entry) (old : ClientState) (h : ClientStands code p act.thread.client old es) where
  abbrev c : ℕ
  c = act.thread.client

  abbrev next : ThreadId → Option Request
  next = next_in (next_request code) es

  -- the next requests behind the act, whatever it sends
  abbrev pub later : ThreadId → Option Request
  later = next_in (next_request code) (applied_entry clock act.thread.client act ∷ es)

  -- what the rule has the act send
  abbrev pub sendings : List Up
  sendings = commits p act.thread (event_of act) es ++ returns p act.thread.client later (applied_entry clock act.thread.client act ∷ es)
      ++ asks_again p act.thread.client (next_in (next_request code) es) later (later act.thread) (applied_entry clock act.thread.client act ∷ es) es

  module _ (sent : List Up) (answers : AnswersNext (point code p act.thread.client es) act.thread act.request act.reply act.woken) (sends : sent ≡ sendings) where
    abbrev entry : Entry
    entry = acting_entry clock act.thread.client act sent

    does : Does p c act.thread act.request next later entry es
    does = record {
      reply = act.reply;
      answered = answers.replied;
      event = ap (λ woken. Some (Act act.thread act.request act.reply woken)) answers.wakes;
      sends = ap (map ToServer) sends ∙ ap (λ woken. map ToServer (commits p act.thread (Act act.thread act.request act.reply woken) es ++ returns p c later (applied_entry clock c act ∷ es)
          ++ asks_again p c next later (later act.thread) (applied_entry clock c act ∷ es) es)) answers.wakes;
    }

    acts_on : ActsOn p c act.thread (Some act.request) next later entry es
    acts_on = subst (λ need. DoesOrAsks p c act.thread act.request need next later entry es) (sym answers.met) does

    pub acted_stands : (new : ClientState) → list_any (is_thread act.thread) (threads_of p act.thread.client) ≡ true → next_in (next_request code) es act.thread ≡ Some act.request
        → ClientPartsStand (acting clock act sent later (point code p act.thread.client es)) new
        → AllByRecursion (λ (context : ThreadContext). ThreadStands code context.id context.thread (events_in context.id (applied_entry clock act.thread.client act ∷ es))) new.contexts.items
        → ClientStands code p act.thread.client new (acting_entry clock act.thread.client act sent ∷ es)
    acted_stands new its is parts threads =
        let step : ClientStep p c next (next_in (next_request code) (entry ∷ es)) entry es = record {
          its = of_all act.thread (λ t. eqb t.client c) p.threads its;
          acts = subst (λ request. ActsOn p c act.thread request next later entry es) (sym is) acts_on;
        } in
        record {
          shape = h.shape;
          run = (h.run, step);
          parts = record {
            number = parts.number;
            places = parts.places;
            numbered = parts.numbered;
            contexts = parts.contexts;
            table = parts.table;
            lock_state = parts.lock_state;
            sequences = parts.sequences;
            facts = run_facts p c (next_request code) (entry ∷ es) (h.run, step);
          };
          threads = threads;
        }

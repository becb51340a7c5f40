-- An act that asks follows by the client rule.
use Rattle.std.specs.List.{AllByRecursion, list_any}
use Rattle.std.proofs.Common.{◌≡◌, ℕ, refl, sym, ap, subst, Bool, true, false, cond, eqb, ◌||◌, Option, Some, List, [], ◌∷◌, ◌++◌, map, filter}
use Rattle.dso_base.specs.declared.journal.Entry.{Entry}
use Rattle.dso_base.specs.declared.journal.Sent.TheVariants.{ToServer}
use Rattle.dso_base.specs.declared.lock.ThreadId.{ThreadId}
use Rattle.dso_base.specs.declared.message.Up.{Up}
use Rattle.dso_base.specs.declared.message.Up.TheVariants as up
use Rattle.dso_base.specs.declared.request.Request.{Request}
use Rattle.dso_base.specs.Following.{is_thread}
use Rattle.dso_law.specs.ClientRun.{next_in}
use Rattle.dso_law.specs.ClientStep.{ClientStep, ActsOn, DoesOrAsks}
use Rattle.dso_law.specs.ClientWaiters.{client_list}
use Rattle.dso_law.specs.Entries.{events_in}
use Rattle.dso_law.specs.Settings.{Settings, threads_of}
use Rattle.dso_law.proofs.runs.Quiet.{nothing_is_due}
use Rattle.dso_machine.specs.declared.code.Code.{Code}
use Rattle.dso_machine.specs.Next.{next_request}
use Rattle.dso_machine.specs.Standing.{ThreadStands}
use Rattle.dso_client.specs.declared.client_state.ClientState.{ClientState}
use Rattle.dso_client.specs.declared.thread_context.ThreadContext.{ThreadContext}
use Rattle.dso_client.specs.AskedActs.{asked}
use Rattle.dso_client.specs.ClientStands.{ClientStands, point}
use Rattle.dso_client.specs.Entries.{asked_entry}
use Rattle.dso_client.specs.StateStands.{ClientPartsStand}
use Rattle.dso_client.specs.Openings.{thread_at}
use Rattle.dso_client.specs.Turns.{Asks}
use Rattle.dso_client.proofs.facts.All.{run_facts}

-- one of a part of a list is one of the list
pub of_all : (t : ThreadId) (test : ThreadId → Bool) (threads : List ThreadId) → list_any (is_thread t) (filter test threads) ≡ true → list_any (is_thread t) threads ≡ true
of_all t test [] h = h
of_all t test (u ∷ threads) h = by (of_all t test threads) (test u) h
  where
    behind : (a : Bool) → list_any (is_thread t) threads ≡ true → (a || list_any (is_thread t) threads) ≡ true
    behind true h = refl
    behind false h = h

    first : (list_any (is_thread t) (filter test threads) ≡ true → list_any (is_thread t) threads ≡ true) → (a : Bool) → (a || list_any (is_thread t) (filter test threads)) ≡ true
        → (a || list_any (is_thread t) threads) ≡ true
    first rest true h = refl
    first rest false h = rest h

    by : (list_any (is_thread t) (filter test threads) ≡ true → list_any (is_thread t) threads ≡ true) → (b : Bool) → list_any (is_thread t) (cond b (u ∷ filter test threads) (filter test threads)) ≡ true
        → (is_thread t u || list_any (is_thread t) threads) ≡ true
    by rest true h = first rest (is_thread t u) h
    by rest false h = behind (is_thread t u) (rest h)

module _ (code : Code) (p : Settings) (c clock index : ℕ) (m : Up) (es : List Entry) (old : ClientState) (h : ClientStands code p c old es) where
  abbrev next : ThreadId → Option Request
  next = next_in (next_request code) es

  abbrev entry : Entry
  entry = asked_entry clock c index m

  acts_on : (request : Request) → Asks (point code p c es) (thread_at c index) request m → ActsOn p c (thread_at c index) (Some request) next next entry es
  acts_on request asks = subst (λ need. DoesOrAsks p c (thread_at c index) request need next next entry es) (sym asks.lacks) (record {
    message = m;
    asked = asks.asked;
    event = refl;
    sends = sym (ap (λ locks. map ToServer (map (λ l. up.Return l (client_list l es)) locks ++ m ∷ [])) (nothing_is_due p c (next_request code) es h.run));
  })

  pub asked_stands : (request : Request) (new : ClientState) → list_any (is_thread (thread_at c index)) (threads_of p c) ≡ true → next (thread_at c index) ≡ Some request
      → Asks (point code p c es) (thread_at c index) request m → ClientPartsStand (asked clock index m (point code p c es)) new → new.contexts.items ≡ old.contexts.items → ClientStands code p c new (entry ∷ es)
  asked_stands request new its is asks parts same =
      let step : ClientStep p c next (next_in (next_request code) (entry ∷ es)) entry es = record {
        its = of_all (thread_at c index) (λ t. eqb t.client c) p.threads its;
        acts = subst (λ request. ActsOn p c (thread_at c index) request next next entry es) (sym is) (acts_on request asks);
      } in
      record {
        shape = h.shape;
        run = (h.run, step);
        parts = record {
          number = parts.number;
          places = parts.places;
          numbered = parts.numbered;
          contexts = parts.contexts;
          table = parts.table;
          lock_state = parts.lock_state;
          sequences = parts.sequences;
          facts = run_facts p c (next_request code) (entry ∷ es) (h.run, step);
        };
        threads = subst (AllByRecursion (λ (context : ThreadContext). ThreadStands code context.id context.thread (events_in context.id es))) (sym same) h.threads;
      }

-- A thread's slot in a journal: an entry of its client that doesn't touch it leaves it open or closed.
use Rattle.std.proofs.Common.{ℕ, ◌≡◌, sym, ◌∙◌, ap, Option, List, ◌∷◌}
use Rattle.dso_base.specs.declared.journal.Entry.{Entry}
use Rattle.dso_base.specs.declared.journal.Node.TheVariants.{Client}
use Rattle.dso_base.specs.declared.lock.ThreadId.{ThreadId}
use Rattle.dso_base.specs.declared.request.Event.{Event}
use Rattle.dso_base.specs.declared.request.Request.{Request}
use Rattle.dso_plain.proofs.keys.SameKeys.{number_self, same_number}
use Rattle.dso_law.specs.Entries.{entries_of, events_in}
use Rattle.dso_law.specs.ClientStep.{may_act}
use Rattle.dso_law.proofs.runs.Others.{same_events}
use Rattle.dso_legal.specs.Lawful.{next_after}
use Rattle.dso_legal.proofs.channels.AfterEntry.{own_turn}
use Rattle.dso_open_law.specs.OthersMayAct.{OnlyActorsGoOn}
use Rattle.dso_open_law.specs.OtherThreadsStay.{OtherThreadsStay}
use Rattle.dso_open_law.proofs.threads.Acting.{others_event, others_may_act}

module _ (next : ThreadId → List Event → Option Request) (c : ℕ) (e : Entry) (es : List Entry) (is : e.node ≡ Client c) where
  -- the next request of a thread of the client after an entry of it
  next_with : (t : ThreadId) → t.client ≡ c → next_after next (e ∷ es) t ≡ next t (events_in t (e ∷ entries_of (Client c) es))
  next_with t mine = ap (λ n. next t (events_in t (entries_of (Client n) (e ∷ es)))) mine ∙ ap (λ own. next t (events_in t own)) (own_turn c e es is).own

  -- only a thread that acts goes on
  pub only_actors : OnlyActorsGoOn c (next_after next es) (next_after next (e ∷ es)) e
  only_actors t its other =
      let mine : t.client ≡ c = same_number t.client c its in
      next_with t mine ∙ ap (next t) (same_events t e (entries_of (Client c) es) (others_event t e.event other)) ∙ ap (λ n. next t (events_in t (entries_of (Client n) es))) (sym mine)

-- Other threads stay.
pub other_threads_stay : OtherThreadsStay
other_threads_stay p next e es t is untouched =
    ap (may_act p t.client (next_after next (e ∷ es)) t) (own_turn t.client e es is).own
    ∙ others_may_act p t.client (next_after next es) (next_after next (e ∷ es)) e (entries_of (Client t.client) es) t (only_actors next t.client e es is) (number_self t.client) untouched

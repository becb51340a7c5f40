-- A client's entries of a lawful journal are a run of it.
use Rattle.std.proofs.Common.{ℕ, ◌≡◌, refl, sym, ◌∙◌, ap, subst, Bool, true, false, cond, eqb, Option, List, [], ◌∷◌}
use Rattle.dso_base.specs.declared.journal.Entry.{Entry}
use Rattle.dso_base.specs.declared.journal.Node.{Node}
use Rattle.dso_base.specs.declared.journal.Node.TheVariants.{Server, Client}
use Rattle.dso_base.specs.declared.lock.ThreadId.{ThreadId}
use Rattle.dso_base.specs.declared.request.Event.{Event}
use Rattle.dso_base.specs.declared.request.Request.{Request}
use Rattle.dso_plain.proofs.keys.SameKeys.{same_number}
use Rattle.dso_law.specs.Settings.{Settings}
use Rattle.dso_law.specs.Entries.{is_node, entries_of, events_in}
use Rattle.dso_law.specs.ClientRun.{ClientRun, AreSameFor, next_in}
use Rattle.dso_law.proofs.runs.OwnRequests.{own_requests}
use Rattle.dso_legal.specs.Lawful.{next_after, ClientFollows, NodeFollows, AllFollow}
use Rattle.dso_legal.specs.Runs.{ClientsRun}
use Rattle.dso_legal.proofs.records.BothEnds.{client_with}

module _ (p : Settings) (next : ThreadId → List Event → Option Request) (c : ℕ) where
  -- the next requests of the client's threads by its own entries
  own_next : (es : List Entry) → AreSameFor c (next_after next es) (next_in next (entries_of (Client c) es))
  own_next es t own = ap (λ n. next t (events_in t (entries_of (Client n) es))) (same_number t.client c own)

  -- and with one more entry of it
  more_next : (e : Entry) (es : List Entry) → entries_of (Client c) (e ∷ es) ≡ e ∷ entries_of (Client c) es → AreSameFor c (next_after next (e ∷ es)) (next_in next (e ∷ entries_of (Client c) es))
  more_next e es more t own = own_next (e ∷ es) t own ∙ ap (λ own_entries. next t (events_in t own_entries)) more

  -- one more entry of the client
  run_more : (e : Entry) (es : List Entry) → is_node (Client c) e.node ≡ true → ClientFollows p next c e es → ClientRun p c next (entries_of (Client c) es) → ClientRun p c next (e ∷ entries_of (Client c) es)
  run_more e es mine follows run =
      let more : entries_of (Client c) (e ∷ es) ≡ e ∷ entries_of (Client c) es = ap (λ b. cond b (e ∷ entries_of (Client c) es) (entries_of (Client c) es)) mine in (
        run,
        own_requests p c (next_after next es) (next_in next (entries_of (Client c) es)) (next_after next (e ∷ es)) (next_in next (e ∷ entries_of (Client c) es)) e (entries_of (Client c) es)
            (own_next es) (more_next e es more) follows.step,
      )

  run_at : (node : Node) (e : Entry) (es : List Entry) → e.node ≡ node → NodeFollows p next node e es → ClientRun p c next (entries_of (Client c) es) → ClientRun p c next (client_with c node e es)
  run_at Server e es is follows run = run
  run_at (Client d) e es is follows run = by (eqb c d) refl
    where
      by : (b : Bool) → eqb c d ≡ b → ClientRun p c next (cond b (e ∷ entries_of (Client c) es) (entries_of (Client c) es))
      by true mine = run_more e es (ap (is_node (Client c)) is ∙ mine) (subst (λ n. ClientFollows p next n e es) (sym (same_number c d mine)) follows) run
      by false other = run

  -- over a whole journal
  pub runs : (es : List Entry) → AllFollow p next es → ClientRun p c next (entries_of (Client c) es)
  runs [] follow = tt
  runs (e ∷ es) follow = run_at e.node e es refl follow.1.rule (runs es follow.0)

pub clients_run : ClientsRun
clients_run p next es lawful c = runs p next c es lawful.follow

-- What the server's loss of a client makes of the history, and of the lines and open blocks of the clients that are left.
use Rattle.std.proofs.Common.{ℕ, ◌≡◌, ◌≢◌, refl, sym, ◌∙◌, ap, subst, Bool, true, false, cond, eqb, ◌||◌, List, [], ◌∷◌, ◌++◌}
use Rattle.std.specs.Prelude.{Option, Some, None, drop}
use Rattle.dso_base.specs.declared.journal.Entry.{Entry}
use Rattle.dso_base.specs.declared.journal.Input.TheVariants as input
use Rattle.dso_base.specs.declared.journal.Node.TheVariants.{Server, Client}
use Rattle.dso_base.specs.declared.lock.LockName.{LockName}
use Rattle.dso_base.specs.declared.lock.ThreadId.{ThreadId}
use Rattle.dso_base.specs.declared.request.Event.{Event}
use Rattle.dso_base.specs.declared.request.Event.TheVariants.{Lost}
use Rattle.dso_base.specs.declared.request.Request.{Request}
use Rattle.dso_lookup.specs.Maps.{or_old}
use Rattle.dso_plain.specs.State.{PlainState, opening}
use Rattle.dso_plain.specs.History.{RunsButMarks, end_of, last_state}
use Rattle.dso_plain.proofs.independence.RunsSwap.{runs_but_marks_in_parts, ends_in_parts}
use Rattle.dso_plain.proofs.keys.SameKeys.{same_number}
use Rattle.dso_plain.proofs.loss.RunsSurvive.{left, loss}
use Rattle.dso_law.specs.Settings.{Settings}
use Rattle.dso_law.specs.Entries.{entries_of, by_taken_up}
use Rattle.dso_law.specs.Channels.{takes_up, up_in_flight}
use Rattle.dso_law.specs.Leases.{idle}
use Rattle.dso_law.specs.RequestNeeds.{is_enough}
use Rattle.dso_law.specs.ServerReadings.{loses, is_lost, is_of_lost, counted, number_by, last_number}
use Rattle.dso_law.specs.Granting.{standing_by, standing_with}
use Rattle.dso_law.specs.Threads.{open_block}
use Rattle.dso_legal.specs.Agreement.{messages}
use Rattle.dso_legal.specs.AsMade.{made_by, as_made}
use Rattle.dso_legal.specs.Committed.{ended_blocks}
use Rattle.dso_legal.specs.CopiesStand.{state_at}
use Rattle.dso_legal.specs.Lawful.{ServerFollows, NodeFollows, AllFollow}
use Rattle.dso_legal.specs.Line.{Line}
use Rattle.dso_legal.specs.PendingBlocks.{joined, pending}
use Rattle.dso_legal.proofs.blocks.SparedHistory.{history_spared}
use Rattle.dso_legal.proofs.blocks.StaysWithin.{open_apart_from, pending_apart_from}
use Rattle.dso_legal.proofs.central.ThreadEnds.{connected}
use Rattle.dso_legal.proofs.channels.AfterEntry.{ServerTurn, server_turn}
use Rattle.dso_legal.proofs.line.LineElsewhere.{LineStands, told_grow}
use Rattle.dso_legal.proofs.line.LineLost.{LineSurvives, line_survives}
use Rattle.dso_legal.proofs.line.LineParts.{IsMore, line_grows}

module _ (p : Settings) (next : ThreadId → List Event → Option Request) (e : Entry) (es : List Entry) (follow : AllFollow p next (e ∷ es)) (at : e.node ≡ Server) (d : ℕ) (lose : e.input ≡ input.Lose d) where
  rule : ServerFollows p next e es
  rule = subst (λ node. NodeFollows p next node e es) at follow.1.rule

  -- the state after the history, before the loss
  abbrev s : PlainState
  s = last_state p.shape (as_made es)

  counts : is_of_lost e.input (entries_of Server es) ≡ false
  counts = ap (λ i. is_of_lost i (entries_of Server es)) lose

  counted_now : counted (entries_of Server (e ∷ es)) ≡ e ∷ counted (entries_of Server es)
  counted_now = ap counted (server_turn 0 e es at).server ∙ ap (λ b. cond b (counted (entries_of Server es)) (e ∷ counted (entries_of Server es))) counts

  -- The history goes on by the loss,
  pub history_lost : as_made (e ∷ es) ≡ as_made es ++ Lost d ∷ []
  history_lost = (server_turn 0 e es at).history ∙ ap (λ i. as_made es ++ made_by i es) lose

  pub state_lost : last_state p.shape (as_made (e ∷ es)) ≡ left d s
  state_lost = ap (last_state p.shape) history_lost ∙ ends_in_parts p.shape (as_made es) (Lost d ∷ []) (opening p.shape)

  -- which may come, as the client isn't lost before,
  pub runs_lost : is_lost d (entries_of Server es) ≡ false → RunsButMarks p.shape (as_made es) (opening p.shape) → RunsButMarks p.shape (as_made (e ∷ es)) (opening p.shape)
  runs_lost alive runs = subst (λ h. RunsButMarks p.shape h (opening p.shape)) (sym history_lost)
      ((runs_but_marks_in_parts p.shape (as_made es) (Lost d ∷ []) (opening p.shape)).1 (runs, (connected p.shape (as_made es) d runs (history_spared d es alive), tt)))

  -- and leaves the lost client's threads no lock, nor those of clients lost before.
  pub gone_lost : (t : ThreadId) (l : LockName) → is_lost t.client (entries_of Server (e ∷ es)) ≡ true → (is_lost t.client (entries_of Server es) ≡ true → s.monitors (l, t) ≡ None)
      → (last_state p.shape (as_made (e ∷ es))).monitors (l, t) ≡ None
  gone_lost t l lost before = ap (λ (r : PlainState). r.monitors (l, t)) state_lost ∙ by (eqb t.client d) (sym lost_by ∙ lost)
    where
      lost_by : is_lost t.client (entries_of Server (e ∷ es)) ≡ (eqb t.client d || is_lost t.client (entries_of Server es))
      lost_by = ap (is_lost t.client) (server_turn 0 e es at).server ∙ ap (λ i. loses t.client i || is_lost t.client (entries_of Server es)) lose

      by : (b : Bool) → (b || is_lost t.client (entries_of Server es)) ≡ true → or_old (cond b (Some None) None) (s.monitors (l, t)) ≡ None
      by true lost = refl
      by false lost = before lost

  -- Of another client
  module _ (c : ℕ) (other : c ≢ d) where
    apart : eqb c d ≡ false
    apart = by (eqb c d) refl
      where
        by : (b : Bool) → eqb c d ≡ b → b ≡ false
        by true same = absurd (other (same_number c d same))
        by false ne = refl

    turn : ServerTurn c e es
    turn = server_turn c e es at

    -- the pending blocks stay,
    pending_lost : pending c (e ∷ es) ≡ pending c es
    pending_lost = ap (λ js. drop (last_number c js) (ended_blocks (entries_of (Client c) (e ∷ es)))) counted_now
        ∙ ap (λ i. drop (by_taken_up (number_by c) i (last_number c (counted (entries_of Server es)))) (ended_blocks (entries_of (Client c) (e ∷ es)))) lose
        ∙ ap (λ own. drop (last_number c (counted (entries_of Server es))) (ended_blocks own)) turn.own

    way_lost : messages (up_in_flight c (e ∷ es)) ≡ messages (up_in_flight c es)
    way_lost = turn.up ∙ ap (λ i. cond (takes_up c i) (drop 1 (messages (up_in_flight c es))) (messages (up_in_flight c es))) lose

    leases_grow : IsMore (λ l. standing_with c l (counted (entries_of Server es))) (λ l. standing_with c l (counted (entries_of Server (e ∷ es))))
    leases_grow l x enough = ap (λ js. is_enough x (standing_with c l js).lease) counted_now
        ∙ told_grow p next c e es follow.0 rule counts l x
        (ap (λ i. is_enough x (standing_by c l i (standing_with c l (counted (entries_of Server es)))).lease) lose ∙ ap (λ b. is_enough x (cond b idle (standing_with c l (counted (entries_of Server es)))).lease) apart ∙ enough)

    module _ (line : LineStands p c es) where
      passes : LineSurvives p.shape c d (messages (up_in_flight c es)) (pending c es) (λ l. standing_with c l (counted (entries_of Server es))) s
      passes = line_survives p.shape c d other (messages (up_in_flight c es)) (pending c es) (λ l. standing_with c l (counted (entries_of Server es))) s (pending_apart_from p next c es follow.0 d other) line

      -- the line stands again,
      pub line_lost : LineStands p c (e ∷ es)
      line_lost = subst (λ ms. Line p.shape c ms (pending c (e ∷ es)) (λ l. standing_with c l (counted (entries_of Server (e ∷ es)))) (last_state p.shape (as_made (e ∷ es)))) (sym way_lost)
          (subst (λ blocks. Line p.shape c (messages (up_in_flight c es)) blocks (λ l. standing_with c l (counted (entries_of Server (e ∷ es)))) (last_state p.shape (as_made (e ∷ es)))) (sym pending_lost)
          (subst (λ r. Line p.shape c (messages (up_in_flight c es)) (pending c es) (λ l. standing_with c l (counted (entries_of Server (e ∷ es)))) r) (sym state_lost)
          (line_grows p.shape c (messages (up_in_flight c es)) (pending c es) (λ l. standing_with c l (counted (entries_of Server es))) (λ l. standing_with c l (counted (entries_of Server (e ∷ es)))) (left d s) leases_grow passes.line)))

      -- the state at the client is that behind the loss,
      pub at_client_lost : state_at p c (e ∷ es) ≡ left d (state_at p c es)
      at_client_lost = ap (λ blocks. end_of p.shape (joined blocks) (last_state p.shape (as_made (e ∷ es)))) pending_lost ∙ ap (λ r. end_of p.shape (joined (pending c es)) r) state_lost ∙ passes.same

      -- and each open block runs there.
      pub opens_lost : (t : ThreadId) → RunsButMarks p.shape (open_block t (entries_of (Client c) es)) (state_at p c es) → RunsButMarks p.shape (open_block t (entries_of (Client c) (e ∷ es))) (state_at p c (e ∷ es))
      opens_lost t runs = subst (λ own. RunsButMarks p.shape (open_block t own) (state_at p c (e ∷ es))) (sym turn.own)
          (subst (λ r. RunsButMarks p.shape (open_block t (entries_of (Client c) es)) r) (sym at_client_lost)
          (loss p.shape d (open_block t (entries_of (Client c) es)) (state_at p c es) runs (open_apart_from p next c es follow.0 d other t)).still_runs)

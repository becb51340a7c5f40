use Rattle.std.specs.List.{list_any}
use Rattle.std.proofs.Common.{◌≡◌, ℕ, sym, subst, true, Some, ◌∷◌}
use Rattle.dso_base.specs.declared.request.Event.{Event}
use Rattle.dso_base.specs.Following.{is_thread}
use Rattle.dso_law.specs.ClientRun.{next_in}
use Rattle.dso_law.specs.Settings.{threads_of}
use Rattle.dso_machine.specs.Next.{next_request}
use Rattle.dso_client.specs.declared.answered.Answered.{Answered}
use Rattle.dso_client.specs.declared.turn.Turn.{Turn}
use Rattle.dso_client.specs.ThreadActs.{event_entry}
use Rattle.dso_client.specs.ClientStands.{ClientStands, point}
use Rattle.dso_client.specs.ActEffects.{event_of}
use Rattle.dso_client.specs.Openings.{thread_at}
use Rattle.dso_client.specs.Turns.{AnswersNext, IsTurn}
use Rattle.dso_client.proofs.acts.Causes.{exact_cause}
use Rattle.dso_client.proofs.thread_act.take_turn.Goals as goal

pub returns-in_ok-sent-in-AnswersNext-clause-acts : goal.returns-in_ok-sent-in-AnswersNext-clause-acts
returns-in_ok-sent-in-AnswersNext-clause-acts c = λ p k clock es h its is taken.
    let code = c.args.code.now in
    let old = c.args.kept.now in
    let new = c.act_answering.new.kept in
    let index = c.args.index in
    let request = c.args.next.0 in
    let reply = c.in-AnswersNext.reply in
    let woken = c.in-AnswersNext.woken in
    let sent = c.in_ok-sent-in-AnswersNext.sent.items in
    let act : Answered = record { thread = thread_at old.number index; request = request; reply = reply; woken = woken } in
    let answers = subst (λ (turn : Turn). IsTurn (point code p k es) (thread_at k index) request turn) c.in-AnswersNext.is taken in
    let P : ℕ → Type 0 = λ n. ClientStands code p n old es → list_any (is_thread (thread_at n index)) (threads_of p n) ≡ true
    → next_in (next_request code) es (thread_at n index) ≡ Some request → AnswersNext (point code p n es) (thread_at n index) request reply woken
    → ClientStands code p n new (event_entry clock n index (event_of act) sent ∷ es) in
    let stands : P old.number = λ h its is answers. c.in_ok-sent-in-AnswersNext.ensures.stands p clock es h its is answers in
    subst (λ (event : Event). ClientStands code p k new (event_entry clock k index event sent ∷ es)) (sym c.event_of.ensures) (subst P h.parts.number stands h its is answers)

pub returns-in_ok-sent-in-Asks-clause-acts : goal.returns-in_ok-sent-in-Asks-clause-acts
returns-in_ok-sent-in-Asks-clause-acts c = λ p k clock es h its is taken. record {
  message = c.in-Asks.message;
  alone = c.in_ok-sent-in-Asks.ensures.sent;
  stands = c.in_ok-sent-in-Asks.ensures.stands c.args.code.now p k clock es c.args.next.0 h its is
      (subst (λ (turn : Turn). IsTurn (point c.args.code.now p k es) (thread_at k c.args.index) c.args.next.0 turn) c.in-Asks.is taken);
}

pub returns-in-Waits-clause-acts : goal.returns-in-Waits-clause-acts
returns-in-Waits-clause-acts c = λ p k clock es h its is taken.
    let at = point c.args.code.now p k es in
    let waits = subst (λ (turn : Turn). IsTurn at (thread_at k c.args.index) c.args.next.0 turn) c.in-Waits.is taken in
    record {
      request = c.args.next.0;
      next = is;
      waits = waits;
      exact = exact_cause at (thread_at k c.args.index) c.args.next.0 c.in-Waits.cause waits;
    }

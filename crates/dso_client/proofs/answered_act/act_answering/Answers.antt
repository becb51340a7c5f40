use Rattle.std.specs.List.{list_any}
use Rattle.std.proofs.Common.{◌≡◌, ◌-◌, ◌^◌, ℕ, suc, refl, ◌∙◌, ap, true, Option, map}
use Rattle.dso_base.specs.declared.lock.ThreadId.{ThreadId}
use Rattle.dso_base.specs.declared.record.Txn.{Txn}
use Rattle.dso_base.specs.declared.request.Request.{Request}
use Rattle.dso_base.specs.Following.{is_thread}
use Rattle.dso_law.specs.Settings.{threads_of}
use Rattle.dso_client.specs.declared.client_state.ClientState.{ClientState}
use Rattle.dso_client.specs.declared.lock_state.LockState.{LockState}
use Rattle.dso_client.specs.declared.thread_context.ThreadContext.{ThreadContext}
use Rattle.dso_client.specs.ThreadActs.{HoldsAtMost}
use Rattle.dso_client.specs.AnsweredActs.{HasAnswered, StandsSent, TellsClosing}
use Rattle.dso_client.specs.CodeRuns.{RunsCode}
use Rattle.dso_client.specs.StateStands.{ClientPartsStand}
use Rattle.dso_client.specs.ActEffects.{acting}
use Rattle.dso_client.specs.RunPoints.{RunPoint}
use Rattle.dso_client.specs.LeaseReturns.{AreNextOfOthers, record_sent}
use Rattle.dso_client.specs.RunFacts.{RunFacts}
use Rattle.dso_client.specs.TakenMessages.{IsQuiet}
use Rattle.dso_client.proofs.replies.Outcomes.{if_ok, on_any}
use Rattle.dso_client.proofs.acts.Bounds.{most_kept}
use Rattle.dso_client.proofs.acts.Going.{waits_gone}
use Rattle.dso_client.proofs.contexts.ChangedContexts.{told_unchanged}
use Rattle.dso_client.proofs.acts.Whole.{answered_stands, runs_answered}
use Rattle.dso_client.proofs.answered_act.act_answering.Goals as goal

pub apply-requires-clause-counts : goal.apply-requires-clause-counts
apply-requires-clause-counts c = most_kept c.args.kept.now c.go_on_in.new.kept (ap (λ (kept : ClientState). kept.lock_state.holds) c.go_on_in.ensures.others)
    (waits_gone c.args.code.now c.args.act.thread.index c.args.act.reply c.args.kept.now.contexts.items c.go_on_in.new.kept.contexts.items c.in_ok-next.next c.in_ok-next.ensures.goes) (2 ^ 32 - 2) c.requires.counts

pub returns-clause-stands : goal.returns-clause-stands
returns-clause-stands c =
    let act = c.args.act in
    let old = c.args.kept.now in
    let then = c.set_next_in.new.kept in
    let new = c.send_rest.new.kept in
    let next = c.in_ok-next.next in
    let was_closing = c.closes-was_closing.result in
    if_ok c.send_rest.result
    (λ all. (clock : ℕ) (txn : Option Txn) (later : ThreadId → Option Request) (at : RunPoint) → ClientPartsStand (acting clock act (record_sent txn) later at) then → IsQuiet at → RunFacts at
    → list_any (is_thread act.thread) (threads_of at.settings at.client) ≡ true → next ≡ later act.thread → AreNextOfOthers act.thread at.next later → TellsClosing at next was_closing
    → c.in_ok-sent.sent.items ≡ record_sent txn → StandsSent clock at act txn later all.items new)
    (λ all. HasAnswered c.args.code.now act old new all.items)
    (λ all rests. λ p clock es h its is answers.
    answered_stands c.args.code.now p clock act es old h its is answers c.go_on_in.new.kept c.apply.new.kept c.hand_in.new.kept then new next was_closing c.in_ok-txn.txn c.in_ok-sent.sent.items all.items
    c.in_ok-next.ensures.goes c.go_on_in.ensures.others c.closes-was_closing.ensures c.in_ok-txn.ensures.stands (λ clock at. c.in_ok-sent.ensures.stands clock act at)
    (c.in_ok-sent.ensures.runs ∙ c.in_ok-txn.ensures.runs) c.set_next_in.ensures.contexts c.set_next_in.ensures.others rests (ap (λ (kept : ClientState). kept.contexts.items) c.send_rest.ensures.others))
    c.send_rest.ensures.stands

pub returns-clause-runs : goal.returns-clause-runs
returns-clause-runs c = on_any c.send_rest.result (RunsCode c.args.code.now c.send_rest.new.kept)
    (runs_answered c.args.code.now c.args.act.thread.index c.args.act.reply c.args.kept.now.contexts.items c.go_on_in.new.kept.contexts.items c.hand_in.new.kept.contexts.items c.send_rest.new.kept.contexts.items
    c.in_ok-next.next c.in_ok-next.ensures.goes c.requires.runs (c.in_ok-sent.ensures.runs ∙ c.in_ok-txn.ensures.runs)
    (ap (λ (kept : ClientState). kept.contexts.items) c.send_rest.ensures.others ∙ c.set_next_in.ensures.contexts))

pub returns-clause-holds : goal.returns-clause-holds
returns-clause-holds c =
    let old = c.args.kept.now in
    let gone = c.go_on_in.new.kept in
    let mid = c.apply.new.kept in
    let handed = c.hand_in.new.kept in
    let then = c.set_next_in.new.kept in
    let new = c.send_rest.new.kept in
    let index = c.args.act.thread.index in
    let next = c.in_ok-next.next in
    on_any c.send_rest.result ((most : ℕ) → HoldsAtMost most old → HoldsAtMost (suc most) new) (λ most h.
    let of_gone = most_kept old gone (ap (λ (kept : ClientState). kept.lock_state.holds) c.go_on_in.ensures.others)
    (waits_gone c.args.code.now index c.args.act.reply old.contexts.items gone.contexts.items next c.in_ok-next.ensures.goes) most h in
    let of_mid = c.in_ok-txn.ensures.holds most of_gone in
    let of_handed = most_kept mid handed (ap (λ (lock_state : LockState). lock_state.holds) c.hand_in.ensures.lock_state) c.in_ok-sent.ensures.waits (suc most) of_mid in
    let of_then = most_kept handed then (ap (λ (kept : ClientState). kept.lock_state.holds) c.set_next_in.ensures.others)
    (ap (map (λ (context : ThreadContext). context.waiting)) c.set_next_in.ensures.contexts ∙ told_unchanged (λ (context : ThreadContext). record context { next = next }) (λ (context : ThreadContext). context.waiting) (λ context. refl) handed.contexts.items index) (suc most) of_handed in
    most_kept then new c.send_rest.ensures.holds (ap (λ (kept : ClientState). map (λ (context : ThreadContext). context.waiting) kept.contexts.items) c.send_rest.ensures.others) (suc most) of_then)

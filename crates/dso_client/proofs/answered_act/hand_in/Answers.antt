use Rattle.std.proofs.Common.{◌≡◌, ℕ, sym, ◌∙◌, ap, refl, map, Some}
use Rattle.dso_law.specs.ClientStep.{commits}
use Rattle.dso_client.specs.declared.answered.Answered.{Answered}
use Rattle.dso_client.specs.declared.thread_context.ThreadContext.{ThreadContext}
use Rattle.dso_client.specs.AnsweredActs.{StandsHandedIn}
use Rattle.dso_client.specs.SentRecords.{MaySend, changed_context, with_record}
use Rattle.dso_client.specs.StateStands.{ClientPartsStand}
use Rattle.dso_client.specs.ActEffects.{event_of, applied}
use Rattle.dso_client.specs.Openings.{thread_at}
use Rattle.dso_client.specs.RunPoints.{RunPoint}
use Rattle.dso_client.specs.LeaseReturns.{record_sent}
use Rattle.dso_client.specs.RunFacts.{RunFacts}
use Rattle.dso_client.specs.ContextPlaces.{running}
use Rattle.dso_client.proofs.replies.Outcomes.{if_ok, on_ok}
use Rattle.dso_client.proofs.contexts.ChangedContexts.{told_unchanged}
use Rattle.dso_client.proofs.worked.Records.{may_send}
use Rattle.dso_client.proofs.answered_act.hand_in.Goals as goal

pub returns-in-Some-clause-stands : goal.returns-in-Some-clause-stands
returns-in-Some-clause-stands c =
    let txn = c.in-Some.txn in
    let old = c.args.kept.now in
    let new = c.hand_over.new.kept in
    let index = c.args.index in
    if_ok c.hand_over.result
    (λ sent. (clock : ℕ) (act : Answered) (at : RunPoint) → ClientPartsStand (applied clock act at) old → MaySend at txn → txn.thread ≡ thread_at at.client index → StandsHandedIn clock at act (Some txn) sent.items new)
    (λ sent. (clock : ℕ) (act : Answered) (at : RunPoint) → ClientPartsStand (applied clock act at) old → RunFacts at → act.thread ≡ thread_at at.client index
    → record_sent c.args.txn ≡ commits at.settings act.thread (event_of act) at.entries → StandsHandedIn clock at act c.args.txn sent.items new)
    (λ sent stands. λ clock act at h facts mine sends.
    let may = may_send clock at act txn facts (ap record_sent (sym c.in-Some.is) ∙ sends) in
    rw c.in-Some.is (stands clock act at h may.0 (may.1 ∙ mine)))
    c.hand_over.ensures.stands

pub returns-in-Some-clause-runs : goal.returns-in-Some-clause-runs
returns-in-Some-clause-runs c =
    let txn = c.in-Some.txn in
    let old = c.args.kept.now.contexts.items in
    let new = c.hand_over.new.kept.contexts.items in
    on_ok c.hand_over.result (new ≡ changed_context c.args.index (with_record txn.seq) old) (map running new ≡ map running old)
    (λ is. ap (map running) is ∙ told_unchanged (with_record txn.seq) running (λ context. refl) old c.args.index) c.hand_over.ensures.contexts

pub returns-in-Some-clause-waits : goal.returns-in-Some-clause-waits
returns-in-Some-clause-waits c =
    let txn = c.in-Some.txn in
    let old = c.args.kept.now.contexts.items in
    let new = c.hand_over.new.kept.contexts.items in
    on_ok c.hand_over.result (new ≡ changed_context c.args.index (with_record txn.seq) old) (map (λ (context : ThreadContext). context.waiting) new ≡ map (λ (context : ThreadContext). context.waiting) old)
    (λ is. ap (map (λ (context : ThreadContext). context.waiting)) is ∙ told_unchanged (with_record txn.seq) (λ (context : ThreadContext). context.waiting) (λ context. refl) old c.args.index) c.hand_over.ensures.contexts

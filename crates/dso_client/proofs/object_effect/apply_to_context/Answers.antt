use Rattle.std.proofs.Common.{◌≡◌, suc, ap, subst}
use Rattle.std.specs.Option.{IfSome}
use Rattle.dso_law.specs.Records.{records}
use Rattle.dso_client.specs.declared.answered.BlockEnd.{BlockEnd}
use Rattle.dso_client.specs.declared.thread_context.ThreadContext.{ThreadContext}
use Rattle.dso_client.specs.SentRecords.{IsActing, ending_in}
use Rattle.dso_client.proofs.worked.Records.{work_applied, context_closed, context_record}
use Rattle.dso_client.proofs.object_effect.apply_to_context.Goals as goal

pub returns-in_ok-txn-in-Some-clause-work : goal.returns-in_ok-txn-in-Some-clause-work
returns-in_ok-txn-in-Some-clause-work c = λ clock at h.
    let act = c.args.act in
    let shape = c.args.shape.now in
    let old = c.args.context.now in
    let mid = c.apply_to_hand.new.context in
    context_closed clock at act shape old mid (ap (λ (context : ThreadContext). context.id) c.in_ok-apply_to_hand.ensures.rest) c.in_ok-apply_to_hand.ensures.work c.in-Some.end.ending c.close.new.context
    (subst (λ end. IsActing at shape act (ending_in end) old) c.in-Some.is h) (ap (λ (context : ThreadContext). context.id) c.in_ok-txn-in-Some.ensures.rest) c.in_ok-txn-in-Some.ensures.left

pub returns-in_ok-txn-in-Some-clause-commits : goal.returns-in_ok-txn-in-Some-clause-commits
returns-in_ok-txn-in-Some-clause-commits c = λ at h numbered.
    let act = c.args.act in
    let shape = c.args.shape.now in
    let old = c.args.context.now in
    let mid = c.apply_to_hand.new.context in
    context_record 0 at act shape old mid (ap (λ (context : ThreadContext). context.id) c.in_ok-apply_to_hand.ensures.rest) c.in_ok-apply_to_hand.ensures.work c.in-Some.end.seq c.in-Some.end.ending c.in_ok-txn-in-Some.txn
    (subst (λ end. IsActing at shape act (ending_in end) old) c.in-Some.is h) c.in_ok-txn-in-Some.ensures.closed
    (subst (λ end. IfSome end (λ (end : BlockEnd). end.seq ≡ suc (records at.entries))) c.in-Some.is numbered)

pub returns-in-None-clause-work : goal.returns-in-None-clause-work
returns-in-None-clause-work c = λ clock at h.
    let act = c.args.act in
    let shape = c.args.shape.now in
    let old = c.args.context.now in
    let new = c.apply_to_hand.new.context in
    work_applied clock at act shape old new (ap (λ (context : ThreadContext). context.id) c.in_ok-apply_to_hand.ensures.rest) (subst (λ end. IsActing at shape act (ending_in end) old) c.in-None.is h) c.in_ok-apply_to_hand.ensures.work

use Rattle.std.proofs.Common.{◌≡◌, ◌∙◌, ap, refl, subst, true, ◌++◌}
use Rattle.std.specs.List.{AllByRecursion}
use Rattle.dso_lease.specs.Leases.{standing_in, was_entered}
use Rattle.dso_client.specs.ActEffects.{acting}
use Rattle.dso_client.specs.LeaseReturns.{AreGivenBack, Distinct, given_back, record_sent}
use Rattle.dso_client.proofs.due.AfterActs.{only_these, own_acted}
use Rattle.dso_client.proofs.due.Settled.{act_settles}
use Rattle.dso_client.proofs.lease_return.settle_act.Goals as goal

pub returns-clause-settles : goal.returns-clause-settles
returns-clause-settles c = λ clock txn later at h quiet facts its is_next others.
    let act = c.args.act in
    let mid = acting clock act (record_sent txn) later at in
    let old = c.args.kept.now in
    let new = record old { lock_state = c.return_all.new.lock_state } in
    let locks = c.in_ok-locks.locks.items in
    let slice = c.as_slice.result.now in
    let sent = c.return_all.new.sent.items in
    let is = c.in_ok-locks.ensures mid h (own_acted clock act later at txn its facts.holdless) is_next
    (only_these clock act later at its quiet others txn) in
    act_settles clock act later at txn old new locks sent h facts is
    (subst (λ locks. Distinct locks → AllByRecursion (λ l. was_entered (standing_in old.lock_state.leases l) ≡ true) locks
    → (sent ≡ given_back old.lock_state locks) × AreGivenBack locks old.lock_state new.lock_state) c.as_slice.ensures.value
    (λ distinct may.
    let given = c.in_ok-return_all.ensures.given distinct may in
    (given.0 ∙ ap (λ s. s ++ given_back old.lock_state slice) c.new-sent.ensures.items, given.1))) refl

use Rattle.std.proofs.Common.{◌≡◌, ◌∙◌, ap, true, [], ◌∷◌, ◌++◌}
use Rattle.std.specs.List.{AllByRecursion}
use Rattle.dso_lease.specs.Leases.{standing_in, was_entered}
use Rattle.dso_client.specs.LeaseReturns.{AreGivenBack, Distinct, given_back}
use Rattle.dso_client.proofs.replies.Outcomes.{on_ok}
use Rattle.dso_client.proofs.due.GivenBack.{one_given}
use Rattle.dso_client.proofs.due.Slices.{others, all_given}
use Rattle.dso_client.proofs.lease_return.+return_all.Goals as goal

pub returns-in_ok-push-in-len1-up-clause-given : goal.returns-in_ok-push-in-len1-up-clause-given
returns-in_ok-push-in-len1-up-clause-given t c =
    let locks = c.args.locks.now in
    let old = c.args.lock_state.now in
    let mid = c.give_back.new.lock_state in
    let new = c.return_all.new.lock_state in
    let before = c.args.sent.now.items in
    let sent = c.push.new.self.items in
    let after = c.return_all.new.sent.items in
    on_ok c.return_all.result
    (Distinct (others locks) → AllByRecursion (λ l. was_entered (standing_in mid.leases l) ≡ true) (others locks) → (after ≡ sent ++ given_back mid (others locks)) × AreGivenBack (others locks) mid new)
    (Distinct locks → AllByRecursion (λ l. was_entered (standing_in old.leases l) ≡ true) locks → (after ≡ before ++ given_back old locks) × AreGivenBack locks old new)
    (λ later. λ distinct may. all_given locks _ old mid new before sent after c.in-len1-up.len_at_least
    (one_given _ old mid c.give_back.ensures.given_up c.give_back.ensures.unlisted c.give_back.ensures.holds)
    (c.in_ok-push-in-len1-up.ensures.items ∙ ap (λ m. before ++ m ∷ []) c.give_back.ensures.message) later distinct may) c.return_all.ensures.given

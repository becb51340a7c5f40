use Rattle.std.proofs.Common.{◌∙◌, ap, subst, []}
use Rattle.dso_client.specs.LeaseReturns.{AddsDue, is_of, wanted_lock}
use Rattle.dso_client.proofs.due.Settled.{all_found}
use Rattle.dso_client.proofs.lease_return.due_locks.Goals as goal

pub returns : goal.returns
returns c = λ at h own is these.
    let act = c.args.act in
    let one = c.add_if_due.new.due.items in
    let two = c.add_if_due-2.new.due.items in
    let all = c.add_marked.new.due.items in
    let first = subst (λ lock. AddsDue at (λ k. is_of k lock) [] one) c.left_lock.ensures
    (subst (λ locks. AddsDue at (λ k. is_of k c.left_lock.result) locks one) c.new-locks.ensures.items
    (c.in_ok-add_if_due.ensures at h own)) in
    let second = subst (λ lock. AddsDue at (λ k. is_of k lock) one two) (c.wanted_lock.ensures ∙ ap wanted_lock is)
    (c.in_ok-add_if_due-2.ensures at h own) in
    all_found at act one two all these first second (c.in_ok-add_marked.ensures at h own)

use Rattle.std.proofs.Common.{◌≡◌, ◌∷◌, ◌≤◌, get_or, length, map, subst, sym}
use Rattle.dso_base.specs.declared.lock.Level.TheVariants.{Read}
use Rattle.dso_law.specs.Granting.{without_client}
use Rattle.dso_locks.specs.declared.queue.Request.{Request}
use Rattle.dso_locks.specs.Requests.{waiter_of}
use Rattle.dso_locks.proofs.Requests.{first_found}
use Rattle.dso_locks.proofs.queue.Queue.first.Goals as goal

pub returns-in-len1-up-clause-first : goal.returns-in-len1-up-clause-first
returns-in-len1-up-clause-first c =
    let none : Request = record { client = 0; level = Read } in
    let requests = c.self.inside.requests.items in
    let it = first_found requests none c.self.invariant (subst (λ all. 1 ≤ length all) c.as_slice.ensures.value c.in-len1-up.len_at_least) in
    subst (λ queue. queue ≡ waiter_of (get_or c.as_slice.result.now 0 none) ∷ without_client (get_or c.as_slice.result.now 0 none).client queue) c.self.view_is
    (subst (λ all. map waiter_of requests ≡ waiter_of (get_or all 0 none) ∷ without_client (get_or all 0 none).client (map waiter_of requests)) (sym c.as_slice.ensures.value) it)

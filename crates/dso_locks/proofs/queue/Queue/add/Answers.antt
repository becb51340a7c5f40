use Rattle.std.proofs.Common.{◌≡◌, ◌∷◌, [], map, false, eqb, ◌∙◌, ap, subst, sym}
use Rattle.std.proofs.lemmas.List.{map-append}
use Rattle.std.specs.List.{list_any}
use Rattle.dso_locks.specs.Requests.{waiter_of, AreDifferent}
use Rattle.dso_locks.proofs.Requests.{different_added}
use Rattle.dso_locks.proofs.queue.Queue.add.Goals as goal

pub invariant_of-self-2 : goal.invariant_of-self-2
invariant_of-self-2 c =
    let none : list_any (λ waiter. eqb waiter.client c.args.request.client) (map waiter_of c.self.inside.requests.items) ≡ false = ap (λ queue. list_any (λ waiter. eqb waiter.client c.args.request.client) queue) c.self.view_is ∙ c.requires in
    subst (λ queue. AreDifferent queue) (sym (ap (λ requests. map waiter_of requests) c.in_ok-push.ensures.items ∙ map-append waiter_of c.self.inside.requests.items (c.args.request ∷ []))) (different_added (waiter_of c.args.request) (map waiter_of c.self.inside.requests.items) none c.self.invariant)

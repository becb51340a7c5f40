use Rattle.std.proofs.Common.{rules, ◌∙◌, ap, not, eqb, map, subst, sym}
use Rattle.std.proofs.lemmas.Fn.{filter_same}
use Rattle.dso_law.specs.Granting.{without_client}
use Rattle.dso_locks.specs.Requests.{waiter_of, AreDifferent}
use Rattle.dso_locks.proofs.Requests.{without_mapped, different_without}
use Rattle.dso_locks.proofs.queue.Queue.drop_client.Goals as goal

pub invariant_of-self : goal.invariant_of-self
invariant_of-self c =
    let kept = filter_same _ (λ r. not (eqb r.client c.args.client)) _ (λ x b f' k. search rules) _ _ c.retain.ensures.filtered in
    subst (λ queue. AreDifferent queue) (sym (ap (λ requests. map waiter_of requests) kept ∙ without_mapped c.args.client c.self.inside.requests.items)) (different_without c.args.client (map waiter_of c.self.inside.requests.items) c.self.invariant)

pub returns : goal.returns
returns c =
    let kept = filter_same _ (λ r. not (eqb r.client c.args.client)) _ (λ x b f' k. search rules) _ _ c.retain.ensures.filtered in
    ap (λ requests. map waiter_of requests) kept ∙ (without_mapped c.args.client c.self.inside.requests.items ∙ ap (λ queue. without_client c.args.client queue) c.self.view_is)

use Rattle.std.proofs.Common.{◌∙◌, ap, eqb}
use Rattle.std.specs.List.{list_any}
use Rattle.dso_locks.proofs.Requests.{has_mapped}
use Rattle.dso_locks.proofs.queue.Queue.has.Goals as goal

pub returns : goal.returns
returns c = c.has_request.ensures ∙ (ap (λ requests. list_any (λ request. eqb request.client c.args.client) requests) c.as_slice.ensures.value ∙ (has_mapped c.args.client c.self.inside.requests.items ∙ ap (λ queue. list_any (λ waiter. eqb waiter.client c.args.client) queue) c.self.view_is))

use Rattle.std.proofs.Common.{rules, ◌∙◌, ap, not, eqb}
use Rattle.std.proofs.lemmas.Fn.{filter_same}
use Rattle.dso_wait.specs.Waiters.{without_client}
use Rattle.dso_wait.proofs.wait_list.WaitList.drop_client.Goals as goal

pub returns : goal.returns
returns c = filter_same _ (λ u. not (eqb u.client c.args.client)) _ (λ x b f' k. search rules) _ _ c.retain.ensures.filtered ∙ ap (λ xs. without_client c.args.client xs) c.self.view_is

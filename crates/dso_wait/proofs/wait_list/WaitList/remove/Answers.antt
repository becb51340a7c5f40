use Rattle.std.proofs.Common.{rules, ◌∙◌, ap, not}
use Rattle.std.proofs.lemmas.Fn.{filter_same}
use Rattle.dso_base.specs.Following.{is_thread}
use Rattle.dso_wait.specs.Waiters.{without}
use Rattle.dso_wait.proofs.wait_list.WaitList.remove.Goals as goal

pub returns-clause-others : goal.returns-clause-others
returns-clause-others c = filter_same _ (λ u. not (is_thread c.args.thread u)) _ (λ x b f' k. search rules) _ _ c.retain.ensures.filtered ∙ ap (λ xs. without c.args.thread xs) c.self.view_is

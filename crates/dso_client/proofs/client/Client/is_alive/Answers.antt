use Rattle.std.specs.List.{list_any}
use Rattle.std.proofs.Common.{subst, ap, ◌∙◌, is_some, count_by}
use Rattle.dso_client.specs.Threads.{TellsGoing}
use Rattle.dso_client.proofs.contexts.Going.{alive_told, any_counted}
use Rattle.dso_client.proofs.client.Client.is_alive.Goals as goal

pub returns : goal.returns
returns c = subst (λ kept. TellsGoing kept c.is_any_alive.result) c.self.view_is (record {
  alive = count_by (λ context. is_some context.next) c.self.inside.kept.contexts.items;
  threads = alive_told c.self.inside.kept;
  is = c.is_any_alive.ensures ∙ ap (list_any (λ context. is_some context.next)) c.as_slice.ensures.value
      ∙ any_counted (λ context. is_some context.next) c.self.inside.kept.contexts.items;
})

use Rattle.std.proofs.Common.{[], IfOk, subst, sym}
use Rattle.std.proofs.lemmas.Result.{IfOk-weaker}
use Rattle.std.specs.List.{AllByRecursion}
use Rattle.dso_client.specs.CodeRuns.{RunsSomeCode}
use Rattle.dso_client.specs.NamedObjects.{AddsThreads, HasNextOut, TellsNamed}
use Rattle.dso_client.specs.Spent.{WhileWhole}
use Rattle.dso_client.proofs.objects.NamedByThreads.{all_named, out_in_whole}
use Rattle.dso_client.proofs.client.Client.named.Goals as goal

pub returns-in-None-clause-named : goal.returns-in-None-clause-named
returns-in-None-clause-named c = subst (λ kept. IfOk c.named.result (λ named. TellsNamed kept named.items)) c.self.view_is
    (IfOk-weaker c.named.result _ _ (λ named adds. all_named c.self.inside.kept named.items
    (subst (λ contexts. AddsThreads contexts [] named.items) c.as_slice.ensures.value adds)) c.named.ensures)

pub named-requires : goal.named-requires
named-requires c = subst (AllByRecursion HasNextOut) (sym c.as_slice.ensures.value)
    (out_in_whole c.self.inside.kept c.in-None.is (subst (λ kept. WhileWhole kept (RunsSomeCode kept)) (sym c.self.view_is) c.requires.runs))

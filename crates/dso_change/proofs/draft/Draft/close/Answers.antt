use Rattle.std.proofs.Common.{ap, ◌∙◌, subst}
use Rattle.std.specs.BTreeMap.{IsOrdered}
use Rattle.std.specs.Ordering.{nat_cmp}
use Rattle.dso_change.specs.Hands.{values_of, sets_of}
use Rattle.dso_change.proofs.HandChanges.{record_closed}
use Rattle.dso_change.proofs.draft.Draft.close.Goals as goal

pub returns-clause-record : goal.returns-clause-record
returns-clause-record c = λ privates work once same. record_closed privates c.args.self.now work same c.args.seq c.args.thread c.args.ending c.in_ok-bodies_of.field-0 c.in_ok-list_of.field-0 c.replace-news.result.outs c.replace-news.result.notes once
    (subst (λ draft. IsOrdered nat_cmp draft.news) c.replace-news.ensures.value c.bodies_of.ensures.ordered)
    (c.in_ok-bodies_of.ensures.bodies ∙ ap (λ draft. values_of draft.news) c.replace-news.ensures.value)
    (c.in_ok-list_of.ensures ∙ ap (λ draft. sets_of draft.sets) c.replace-news.ensures.value)
    (ap (λ draft. draft.outs) c.replace-news.ensures.value)
    (ap (λ draft. draft.notes) c.replace-news.ensures.value)

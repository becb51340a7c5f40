use Rattle.std.proofs.Common.{◌+◌, take, subst, sym, ◌∙◌}
use Rattle.std.proofs.lemmas.Bool.{false≢true}
use Rattle.dso_config_entries.proofs.lists.Last as laws
use Rattle.dso_config_entries.proofs.entries.last_grade.Goals as goal
use Rattle.dso_config_entries.proofs.entries.last_grade.Goals.{then-matches_method, else-matches_method}

pub loop-entry-init : goal.loop-entry-init
loop-entry-init c = laws.gives_empty _ _

pub loop-entry-preserved : goal.loop-entry-preserved
loop-entry-preserved c =
    let below = c.loop-entry-test.true in
    let entries = c.args.entries.now in
    let i = c.loop-entry.entry-index in
    let entry = c.entry-item.result in
    elim c.if-matches_method.branch [
      | then-matches_method w ↦
          subst (laws.Gives (take (i + 1) entries) c.args.class.now c.args.method.now) (sym w.grade-is)
          (laws.taken_new _ (λ entry. entry.grade) entries i entry below c.entry-item.is (c.matches_method.ensures.0 w.if-matches_method.true))
      | else-matches_method w ↦
          subst (laws.Gives (take (i + 1) entries) c.args.class.now c.args.method.now) (sym w.grade-is)
          (laws.taken_kept _ (λ entry. entry.grade) entries i entry c.loop-entry.grade below c.entry-item.is c.loop-entry.invariant
          (λ holds. false≢true (sym w.if-matches_method.false ∙ c.matches_method.ensures.1 holds)))
    ]

pub returns : goal.returns
returns c = laws.taken_all _ _ c.args.entries.now c.loop-entry.entry-index c.loop-entry.grade c.loop-entry-test.false c.loop-entry.invariant

use Rattle.std.proofs.Common.{◌+◌, take, subst, sym, ◌∙◌, option_copied}
use Rattle.std.proofs.lemmas.Bool.{false≢true}
use Rattle.std.proofs.lemmas.List.Elements.{All-nil}
use Rattle.dso_config_entries.specs.LastAndFirst.{nothing}
use Rattle.dso_config_entries.proofs.lists.Last as laws
use Rattle.dso_config_entries.proofs.entries.last_named.Goals as goal
use Rattle.dso_config_entries.proofs.entries.last_named.Goals.{then-matches_method, else-matches_method}

pub loop-entry-init : goal.loop-entry-init
loop-entry-init c = nothing (All-nil _)

pub loop-entry-preserved : goal.loop-entry-preserved
loop-entry-preserved c =
    let below = c.loop-entry-test.true in
    let entries = c.args.entries.now in
    let i = c.loop-entry.entry-index in
    let entry = c.entry-item.result in
    elim c.if-matches_method.branch [
      | then-matches_method w ↦
          subst (λ item. laws.IsNamed (take (i + 1) entries) c.args.class.now c.args.method.now (option_copied item)) (sym w.last-is)
          (laws.last_new _ entries i entry below c.entry-item.is (c.matches_method.ensures.0 w.if-matches_method.true))
      | else-matches_method w ↦
          subst (λ item. laws.IsNamed (take (i + 1) entries) c.args.class.now c.args.method.now (option_copied item)) (sym w.last-is)
          (laws.last_kept _ entries i entry (option_copied c.loop-entry.last) below c.entry-item.is c.loop-entry.invariant
          (λ holds. false≢true (sym w.if-matches_method.false ∙ c.matches_method.ensures.1 holds)))
    ]

pub returns : goal.returns
returns c = laws.last_of_all _ c.args.entries.now c.loop-entry.entry-index (option_copied c.loop-entry.last) c.loop-entry-test.false c.loop-entry.invariant

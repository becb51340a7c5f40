use Rattle.std.proofs.Common.{subst, sym, ap, ◌∙◌, ◌+◌, ◌++◌, [], take, flat_map}
use Rattle.dso_config.specs.declared.config.RootEntry.{RootEntry}
use Rattle.dso_class.specs.Declarations.{all_statics, statics_of}
use Rattle.dso_class.specs.Gathered.{statics_named}
use Rattle.dso_config_entries.specs.LastAndFirst.{AreFirsts, empty}
use Rattle.dso_class.proofs.gathering.Items.{statics_with, with_thread}
use Rattle.dso_class.proofs.gathered_statics.all_statics.Goals as goal
use Rattle.dso_class.proofs.gathered_statics.all_statics.Goals.{in-Class+in_ok-add_statics-in-Class, in-Thread}

pub loop-item-init : goal.loop-item-init
loop-item-init c = subst (λ statics. AreFirsts {A = RootEntry} [] (statics_named statics)) (sym c.new-statics.ensures) empty

pub loop-item-preserved : goal.loop-item-preserved
loop-item-preserved c =
    let items = c.args.items.now in
    let i = c.loop-item.item-index in
    let item = c.item-item.result in
    elim c.match-item.branch [
      | in-Class+in_ok-add_statics-in-Class w ↦
          let more = statics_with items i item c.loop-item-test.true c.item-item.is w.in-Class.line w.in-Class.name w.in-Class.members w.in-Class.is in
          let spelt = ap (λ word. statics_of word w.in-Class.members) w.as_slice.ensures in
          let same_members = ap (λ members. statics_of w.as_slice.result.now members) w.as_slice-in-Class.ensures in
          subst (λ statics. AreFirsts (all_statics (take (i + 1) items)) (statics_named statics)) (sym w.statics-is)
          (subst (λ all. AreFirsts all (statics_named w.add_statics.new.statics)) (ap (λ rest. all_statics (take i items) ++ rest) (same_members ∙ spelt) ∙ sym more)
          (w.in_ok-add_statics-in-Class.ensures (all_statics (take i items)) c.loop-item.invariant))
      | in-Thread w ↦
          let same = ap (flat_map (λ class. statics_of class.name class.members)) (with_thread items i item c.loop-item-test.true c.item-item.is w.in-Thread.line w.in-Thread.number w.in-Thread.number_line w.in-Thread.body w.in-Thread.is) in
          subst (λ statics. AreFirsts (all_statics (take (i + 1) items)) (statics_named statics)) (sym w.statics-is)
          (subst (λ all. AreFirsts all (statics_named c.loop-item.statics)) (sym same) c.loop-item.invariant)
    ]

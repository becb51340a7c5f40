use Rattle.std.proofs.Common.{subst, sym, [], take, ◌+◌}
use Rattle.dso_class.specs.Declarations.{class_names}
use Rattle.dso_config_entries.specs.BorrowedWords.{words_of}
use Rattle.dso_config_entries.specs.LastAndFirst.{AreFirsts, empty}
use Rattle.dso_config_entries.specs.Words.{Word}
use Rattle.dso_class.proofs.gathering.ClassNames.{class_more, thread_more}
use Rattle.dso_class.proofs.gathered_classes.class_names.Goals as goal
use Rattle.dso_class.proofs.gathered_classes.class_names.Goals.{in-Class+in_ok-add-in-Class, in-Thread}

pub loop-item-init : goal.loop-item-init
loop-item-init c = subst (λ names. AreFirsts {A = Word} [] (words_of names)) (sym c.new-names.ensures) empty

pub loop-item-preserved : goal.loop-item-preserved
loop-item-preserved c =
    let items = c.args.items.now in
    let i = c.loop-item.item-index in
    let item = c.item-item.result in
    elim c.match-item.branch [
      | in-Class+in_ok-add-in-Class w ↦
          subst (λ names. AreFirsts (class_names (take (i + 1) items)) (words_of names)) (sym w.names-is)
          (subst (λ all. AreFirsts all (words_of w.add.new.words))
          (sym (class_more items i item w.in-Class.line w.in-Class.name w.in-Class.members w.as_slice.result.now c.loop-item-test.true c.item-item.is w.in-Class.is w.as_slice.ensures))
          (w.in_ok-add-in-Class.ensures.firsts (class_names (take i items)) c.loop-item.invariant))
      | in-Thread w ↦
          subst (λ names. AreFirsts (class_names (take (i + 1) items)) (words_of names)) (sym w.names-is)
          (subst (λ all. AreFirsts all (words_of c.loop-item.names))
          (sym (thread_more items i item w.in-Thread.line w.in-Thread.number w.in-Thread.number_line w.in-Thread.body c.loop-item-test.true c.item-item.is w.in-Thread.is))
          c.loop-item.invariant)
    ]

use Rattle.std.proofs.Common.{subst, sym, []}
use Rattle.dso_config_entries.specs.BorrowedWords.{words_of}
use Rattle.dso_config_entries.specs.LastAndFirst.{AreFirsts, empty}
use Rattle.dso_config_entries.specs.Words.{Word}
use Rattle.dso_config_entries.proofs.locking.LockNames.{named_words, named_there, named_absent, with_guards}
use Rattle.dso_config_entries.proofs.locks.lock_names.Goals as goal
use Rattle.dso_config_entries.proofs.locks.lock_names.Goals.{in-Some+in_ok-add_named-in-Some, in-None}

pub returns : goal.returns
returns c =
    let none = subst (λ names. AreFirsts {A = Word} [] (words_of names)) (sym c.new-names.ensures) empty in
    let named : AreFirsts (named_words c.args.config.now.named) (words_of c.match-config.names) = elim c.match-config.branch [
      | in-Some+in_ok-add_named-in-Some w ↦
          subst (λ names. AreFirsts (named_words c.args.config.now.named) (words_of names)) (sym w.names-is)
          (named_there c.args.config.now.named w.in-Some.entries w.as_slice.result.now w.in-Some.is w.as_slice.ensures (w.in_ok-add_named-in-Some.ensures [] none))
      | in-None w ↦
          subst (λ names. AreFirsts (named_words c.args.config.now.named) (words_of names)) (sym w.names-is)
          (named_absent c.args.config.now.named c.new-names.result w.in-None.is c.new-names.ensures)
    ] in
    with_guards c.args.config.now c.as_slice-2.result.now c.as_slice-2.ensures (c.in_ok-add_guards.ensures (named_words c.args.config.now.named) named)

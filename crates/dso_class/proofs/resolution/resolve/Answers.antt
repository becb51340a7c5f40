use Rattle.std.proofs.Common.{rules, refl, sym, subst, ◌∙◌, ◌≡◌, [], Err}
use Rattle.dso_class.specs.Assignable.{ItemsAssign}
use Rattle.dso_config_entries.specs.BorrowedWords.{words_of}
use Rattle.dso_class.specs.Symbols.{AreWordsOf}
use Rattle.dso_class.specs.TextProgram.{IsProgramOf, Source}
use Rattle.dso_class.proofs.grammar.Assignments.{given_assigns}
use Rattle.dso_class.proofs.walks.SettingOf.{gathered, setting_of, ready_of, few_names, few_literals}
use Rattle.dso_class.proofs.soundness.Program.{sound_program}
use Rattle.dso_class.proofs.walks.WholeText.{program_of_whole, told_whole}
use Rattle.dso_class.proofs.resolution.resolve.Goals as goal

pub walk-requires : goal.walk-requires
walk-requires c =
    let has =
    gathered c.args.config.now c.args.tree.now _ c.in_ok-tables.tables.makes_map c.as_slice-items.result.now c.in_ok-names.names c.len.result refl c.as_slice-items.ensures c.in_ok-names.ensures c.len.ensures c.min.ensures
    c.in_ok-tables.ensures c.in_ok-locks.ensures (c.in_ok-thread_class.ensures ∙ c.as_slice.ensures) (c.in_ok-thread_method.ensures ∙ c.as_slice-2.ensures)
    in
    record {
      assigns = subst ItemsAssign (sym c.as_slice-items.ensures) (given_assigns c.args.config.now c.args.tree.now c.requires.given);
      setting = ready_of c.args.config.now c.args.tree.now _ c.requires.given.in_range has;
    }

pub returns-in_err-resolved-clause-fault : goal.returns-in_err-resolved-clause-fault
returns-in_err-resolved-clause-fault c kind line is =
    let told : c.from_residual-in_err-resolved.result ≡ Err c.in_err-resolved.field-0.0 = search rules in
    let has =
    gathered c.args.config.now c.args.tree.now _ c.in_ok-tables.tables.makes_map c.as_slice-items.result.now c.in_ok-names.names c.len.result refl c.as_slice-items.ensures c.in_ok-names.ensures c.len.ensures c.min.ensures
    c.in_ok-tables.ensures c.in_ok-locks.ensures (c.in_ok-thread_class.ensures ∙ c.as_slice.ensures) (c.in_ok-thread_method.ensures ∙ c.as_slice-2.ensures)
    in
    let source : Source = record { config = c.args.config.now; ast = c.args.tree.now; locks = words_of c.in_ok-locks.locks; texts = [] } in
    told_whole source c.in_err-resolved.field-0.0 _ kind line told is (c.in_err-resolved.ensures source (setting_of c.args.config.now c.args.tree.now [] _ has) (sym c.as_slice-items.ensures))

pub program-requires-clause-few_locks : goal.program-requires-clause-few_locks
program-requires-clause-few_locks c = few_names c.args.config.now c.in_ok-locks.locks c.min.result c.len.result c.requires.given.in_range c.in_ok-locks.ensures c.min.ensures

pub program-requires-clause-few_texts : goal.program-requires-clause-few_texts
program-requires-clause-few_texts c =
    let has =
    gathered c.args.config.now c.args.tree.now _ c.in_ok-tables.tables.makes_map c.as_slice-items.result.now c.in_ok-names.names c.len.result refl c.as_slice-items.ensures c.in_ok-names.ensures c.len.ensures c.min.ensures
    c.in_ok-tables.ensures c.in_ok-locks.ensures (c.in_ok-thread_class.ensures ∙ c.as_slice.ensures) (c.in_ok-thread_method.ensures ∙ c.as_slice-2.ensures)
    in
    let source : Source = record { config = c.args.config.now; ast = c.args.tree.now; locks = words_of c.in_ok-locks.locks; texts = [] } in
    few_literals source _ (c.in_ok-resolved.ensures source (setting_of c.args.config.now c.args.tree.now [] _ has) (sym c.as_slice-items.ensures))

pub returns : goal.returns
returns c =
    let has =
    gathered c.args.config.now c.args.tree.now _ c.in_ok-tables.tables.makes_map c.as_slice-items.result.now c.in_ok-names.names c.len.result refl c.as_slice-items.ensures c.in_ok-names.ensures c.len.ensures c.min.ensures
    c.in_ok-tables.ensures c.in_ok-locks.ensures (c.in_ok-thread_class.ensures ∙ c.as_slice.ensures) (c.in_ok-thread_method.ensures ∙ c.as_slice-2.ensures)
    in
    let texts = words_of c.in_ok-resolved.resolved.texts in
    let source : Source = record { config = c.args.config.now; ast = c.args.tree.now; locks = words_of c.in_ok-locks.locks; texts = texts } in
    let set = setting_of c.args.config.now c.args.tree.now texts _ has in
    let whole = c.in_ok-resolved.ensures source set (sym c.as_slice-items.ensures) in
    let named = subst (λ items. AreWordsOf c.in_ok-tables.tables.makes_map items c.in_ok-names.names) c.as_slice-items.ensures c.in_ok-names.ensures in
    let is : IsProgramOf c.args.config.now c.args.tree.now c.in_ok-program.field-0 = program_of_whole source _ c.in_ok-names.names c.in_ok-resolved.resolved c.in_ok-program.field-0 refl set named whole c.in_ok-program.ensures in
    record { program = is; sound = sound_program c.args.config.now c.args.tree.now c.in_ok-program.field-0 c.requires.given is; fault = λ kind line differs. absurd (cc differs) }

use Rattle.std.proofs.Common.{◌≤◌, ◌^◌, length, arith}
use Rattle.dso_class.specs.Declarations.{class_names}
use Rattle.dso_config_entries.specs.BorrowedWords.{words_of}
use Rattle.dso_class.proofs.faultless.Text.{clean_text}
use Rattle.dso_class.proofs.lists.FirstOnes.{missing, numbered}
use Rattle.dso_class.proofs.tables.class_number.Goals as goal

pub returns-in-Some-clause-there : goal.returns-in-Some-clause-there
returns-in-Some-clause-there c source are = missing (class_names source.ast.items) (words_of c.args.tables.now.classes) c.args.name.now are.classes c.in-Some.ensures.none

pub returns-in-Some-clause-number : goal.returns-in-Some-clause-number
returns-in-Some-clause-number c source are fine =
    let clean = clean_text source.config source.ast fine in
    let few : length (class_names source.ast.items) ≤ 2 ^ 32 = omega (arith, clean.few_classes) in
    numbered (class_names source.ast.items) (words_of c.args.tables.now.classes) c.args.name.now c.in-Some.number c.narrow.result are.classes clean.classes_differ few c.in-Some.ensures.found c.narrow.ensures

pub returns-in-None-clause-there : goal.returns-in-None-clause-there
returns-in-None-clause-there c source are = missing (class_names source.ast.items) (words_of c.args.tables.now.classes) c.args.name.now are.classes c.in-None.ensures.none

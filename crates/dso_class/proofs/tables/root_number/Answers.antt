use Rattle.std.proofs.Common.{◌≤◌, ◌^◌, length, arith}
use Rattle.dso_class.specs.Declarations.{all_statics}
use Rattle.dso_class.specs.Gathered.{statics_named}
use Rattle.dso_class.proofs.faultless.Text.{clean_text}
use Rattle.dso_class.proofs.gathering.Distinct.{all_statics_differ}
use Rattle.dso_class.proofs.lists.FirstOnes.{missing, numbered}
use Rattle.dso_class.proofs.tables.root_number.Goals as goal

pub returns-in-Some-clause-there : goal.returns-in-Some-clause-there
returns-in-Some-clause-there c source are =
    missing (all_statics source.ast.items) (statics_named c.args.tables.now.statics) (record { class = c.args.class.now; field = c.args.field.now }) are.statics c.in-Some.ensures.none

pub returns-in-Some-clause-number : goal.returns-in-Some-clause-number
returns-in-Some-clause-number c source are fine =
    let clean = clean_text source.config source.ast fine in
    let few : length (all_statics source.ast.items) ≤ 2 ^ 32 = omega (arith, clean.few_statics) in
    numbered (all_statics source.ast.items) (statics_named c.args.tables.now.statics) (record { class = c.args.class.now; field = c.args.field.now }) c.in-Some.number c.narrow.result are.statics
    (all_statics_differ source.config source.ast clean) few c.in-Some.ensures.found c.narrow.ensures

pub returns-in-None-clause-there : goal.returns-in-None-clause-there
returns-in-None-clause-there c source are =
    missing (all_statics source.ast.items) (statics_named c.args.tables.now.statics) (record { class = c.args.class.now; field = c.args.field.now }) are.statics c.in-None.ensures.none

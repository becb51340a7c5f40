use Rattle.std.proofs.Common.{ap, sym, ◌∙◌, w64, Ok}
use Rattle.std.proofs.lemmas.Int.{wrapping_add_is, wrapping_sub_is}
use Rattle.dso_base.specs.declared.value.Value.TheVariants.{Long}
use Rattle.dso_machine.specs.Values.{binary_longs}
use Rattle.dso_machine.proofs.operators.binary_longs.Goals as goal

pub returns-in-Add : goal.returns-in-Add
returns-in-Add c =
    ap (λ sum. Ok (Long sum)) (wrapping_add_is w64 c.args.left c.args.right c.ranges.left c.ranges.right)
    ∙ ap (λ op. binary_longs op c.args.left c.args.right) (sym c.in-Add.is)

pub returns-in-Sub : goal.returns-in-Sub
returns-in-Sub c =
    ap (λ difference. Ok (Long difference)) (wrapping_sub_is w64 c.args.left c.args.right c.ranges.left c.ranges.right)
    ∙ ap (λ op. binary_longs op c.args.left c.args.right) (sym c.in-Sub.is)

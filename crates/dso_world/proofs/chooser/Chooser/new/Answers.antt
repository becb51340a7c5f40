use Rattle.std.proofs.Common.{◌/◌, ◌+◌, sym, subst, false, replicate, arith}
use Rattle.dso_world.specs.Flags.{AreCounts}
use Rattle.dso_world.proofs.flags.Blocks.{at_first, none_at_first}
use Rattle.dso_world.proofs.chooser.Chooser.new.Goals as goal

pub invariant_of-result : goal.invariant_of-result
invariant_of-result c =
    let slots = c.args.slots in
    let flags = c.in_ok-vec.ensures.items_if_clones_equal (λ y is. is) in
    let counts = c.in_ok-vec-2.ensures.items_if_clones_equal (λ y is. is) in (
      sym (none_at_first slots c.in_ok-vec.field-0.items flags),
      omega arith,
      omega arith,
      subst (λ flags. AreCounts flags c.in_ok-vec-2.field-0.items) (sym flags)
          (subst (AreCounts (replicate slots false)) (sym counts) (at_first slots (slots / 64 + 1) (omega arith) (omega arith))),
    )

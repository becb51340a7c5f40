use Rattle.std.proofs.Common.{◌-◌, ◌<◌, ◌≤◌, length, arith, refl}
use Rattle.dso_base.specs.declared.value.Value.TheVariants.{Null}
use Rattle.dso_plain.proofs.table_changes.PastPlaces.{stands_here, stands_nowhere}
use Rattle.dso_plain.proofs.reads.stands_in.Goals as goal

pub returns-then-same : goal.returns-then-same
returns-then-same c =
    let from : c.args.place ≤ c.loop-at.at - 1 = omega arith in
    let within : c.loop-at.at - 1 < length c.args.items.now = omega arith in
    (λ _. stands_here c.args.place c.args.value c.args.items.now (c.loop-at.at - 1) Null from within (c.if-same.ensures.0 refl), λ _. refl)

pub returns : goal.returns
returns c = (λ h. absurd (cc h), λ h. absurd (stands_nowhere c.args.place c.args.value c.args.items.now c.loop-at.at c.loop-at-test.false (c.loop-at.invariant.1 h)))

use Rattle.std.proofs.Common.{ℕ, ◌≡◌, ◌<◌, ◌-◌, arith, length, suc, subst, drop}
use Rattle.std.specs.BTreeSet.{contains}
use Rattle.std.specs.Ordering.{nat_cmp}
use Rattle.dso_lookup.specs.Search.{is_listed}
use Rattle.dso_change.proofs.Gathered.{one_listed}
use Rattle.dso_change.proofs.changes.set_of.Goals as goal

pub loop-at-preserved : goal.loop-at-preserved
loop-at-preserved c =
    let most = c.loop-at.invariant.0 in
    let more = c.loop-at-test.true in
    let next : c.loop-at.at ≡ suc (c.loop-at.at - 1) = omega arith in
    let within : c.loop-at.at - 1 < length c.args.objects.now = omega arith in
    (omega arith, one_listed c.loop-at.set c.insert.new.self c.args.objects.now (c.loop-at.at - 1) 0 within c.in_ok-insert.ensures.updates (subst (λ n. (o : ℕ) → contains nat_cmp c.loop-at.set o ≡ is_listed o (drop n c.args.objects.now)) next c.loop-at.invariant.1))

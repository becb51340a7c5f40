use Rattle.std.proofs.Common.{◌≡◌, ◌/◌, ◌<◌, ◌≤◌, ap, Some, length, slice_get, arith}
use Rattle.std.proofs.lemmas.List.{length-set}
use Rattle.dso_world.specs.Flags.{Row, set_count}
use Rattle.dso_world.proofs.flags.Blocks.{counted_there, few_there, written_count, written_counts}
use Rattle.dso_world.proofs.nodes.Stepped.{got}
use Rattle.dso_world.proofs.chooser.Chooser.set.Goals as goal

pub recounted-requires-clause-there : goal.recounted-requires-clause-there
recounted-requires-clause-there c =
    let inside = c.self.inside in
    let place = c.args.place in
    let long : length inside.flags.items ≡ length c.args.self.now.flags = ap (λ (row : Row). length row.flags) c.self.view_is in
    let within : place < length inside.flags.items = (let less = c.requires in omega (arith, less, long)) in
    let counts = c.self.invariant.3 in
    let counted : place / 64 < length inside.counts.items = (let all = counts.all in omega (arith, all, within)) in
    counted_there inside.flags.items inside.counts.items (place / 64) place c.index.result.now counts (got inside.counts.items (place / 64) c.index.result.now counted c.index.ensures) c.index-was.result.now
    (got inside.flags.items place c.index-was.result.now within c.index-was.ensures) (omega arith) (omega arith)

pub recounted-requires-clause-fits : goal.recounted-requires-clause-fits
recounted-requires-clause-fits c =
    let inside = c.self.inside in
    let place = c.args.place in
    let long : length inside.flags.items ≡ length c.args.self.now.flags = ap (λ (row : Row). length row.flags) c.self.view_is in
    let within : place < length inside.flags.items = (let less = c.requires in omega (arith, less, long)) in
    let counts = c.self.invariant.3 in
    let counted : place / 64 < length inside.counts.items = (let all = counts.all in omega (arith, all, within)) in
    let few : c.index.result.now ≤ 64 = few_there inside.flags.items inside.counts.items (place / 64) place c.index.result.now counts (got inside.counts.items (place / 64) c.index.result.now counted c.index.ensures) in
    omega (arith, few)

pub invariant_of-self : goal.invariant_of-self
invariant_of-self c =
    let inside = c.self.inside in
    let place = c.args.place in
    let was = c.index-was.result.now in
    let long : length inside.flags.items ≡ length c.args.self.now.flags = ap (λ (row : Row). length row.flags) c.self.view_is in
    let within : place < length inside.flags.items = (let less = c.requires in omega (arith, less, long)) in
    let counts = c.self.invariant.3 in
    let counted : place / 64 < length inside.counts.items = (let all = counts.all in omega (arith, all, within)) in
    let there : slice_get inside.flags.items place ≡ Some was = got inside.flags.items place was within c.index-was.ensures in
    let count : inside.count ≡ set_count inside.flags.items = c.self.invariant.0 in
    let begin : inside.begin ≤ length inside.flags.items = c.self.invariant.1 in
    let recounted = c.recounted-self-inside.ensures in (
      omega (arith, recounted, count, written_count place was c.args.to inside.flags.items there),
      omega (arith, begin, length-set inside.flags.items place c.args.to),
      c.self.invariant.2,
      written_counts inside.flags.items inside.counts.items (place / 64) place c.index.result.now c.recounted.result was c.args.to counts there
          (got inside.counts.items (place / 64) c.index.result.now counted c.index.ensures) (omega arith) (omega arith) c.recounted.ensures,
    )

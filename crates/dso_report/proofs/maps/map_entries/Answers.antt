use Rattle.std.proofs.Common.{◌≡◌, ap, ◌∙◌, arith}
use Rattle.dso_map.specs.Fields.{slots}
use Rattle.dso_map.proofs.Sizes.{slots_are}
use Rattle.dso_report.specs.MapEntries.{entries_below}
use Rattle.dso_report.proofs.maps.map_entries.Goals as goal

-- the entries of all slots are those of the map
pub returns : goal.returns
returns g c =
    let all : c.loop-slot.slot ≡ slots = omega (arith, slots_are, c.loop-slot-test.false, c.loop-slot.auto.slot-end) in
    c.loop-slot.invariant ∙ ap (entries_below (g.S.Seen.state c.args.seen.now) c.args.object) all

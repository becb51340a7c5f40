use Rattle.std.proofs.Common.{◌≡◌, ◌∙◌, ap, arith}
use Rattle.dso_map.specs.MapClass.{slot_fields}
use Rattle.dso_class.proofs.maps.MapFields.{all_made}
use Rattle.dso_class.proofs.map_class.fields_of_maps.Goals as goal

pub returns : goal.returns
returns c =
    let many : c.loop.counter ≡ 256 = omega (arith, c.loop-test.false, c.loop.auto.counter-end) in
    rw (c.in_ok-push-4.ensures.ok, c.own-2.ensures) (all_made c.loop.fields (c.loop.invariant ∙ ap slot_fields many))

use Rattle.std.proofs.Common.{ap, ◌∙◌, flat_map}
use Rattle.std.proofs.lemmas.List.{take_all}
use Rattle.dso_class.specs.Maps.{make_map}
use Rattle.dso_class.specs.Mentions.{of_member}
use Rattle.dso_class.proofs.maps.Making.{method_there, field_there, static_there}
use Rattle.dso_class.proofs.new_maps.in_members.Goals as goal
use Rattle.dso_class.proofs.new_maps.in_members.Goals.{in-Method, in-Field, in-Static}

pub loop-member-preserved : goal.loop-member-preserved
loop-member-preserved c class =
    let members = c.args.members.now in
    let i = c.loop-member.member-index in
    let member = c.member-item.result in
    let below = c.loop-member-test.true in
    let is = c.member-item.is in
    elim c.match-member.branch [
      | in-Method w ↦
          w.makes-is ∙ method_there class members i member c.loop-member.makes w.in_block-makes.result w.in-Method.line w.in-Method.synced w.in-Method.name w.in-Method.params w.in-Method.body w.as_slice.result.now below is
          (c.loop-member.invariant class) w.in-Method.is w.as_slice.ensures w.in_block-makes.ensures
      | in-Field w ↦ w.makes-is ∙ field_there class members i member c.loop-member.makes w.in-Field.line w.in-Field.kind w.in-Field.name below is (c.loop-member.invariant class) w.in-Field.is
      | in-Static w ↦ w.makes-is ∙ static_there class members i member c.loop-member.makes w.in-Static.line w.in-Static.name below is (c.loop-member.invariant class) w.in-Static.is
    ]

pub returns : goal.returns
returns c class = c.loop-member.invariant class ∙ ap (λ all. make_map (flat_map (of_member class) all)) (take_all c.loop-member.member-index c.args.members.now c.loop-member-test.false)

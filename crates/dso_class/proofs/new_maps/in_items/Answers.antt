use Rattle.std.proofs.Common.{ap, ◌∙◌, flat_map}
use Rattle.std.proofs.lemmas.List.{take_all}
use Rattle.dso_class.specs.Maps.{make_map}
use Rattle.dso_class.specs.Mentions.{of_item}
use Rattle.dso_class.proofs.maps.Making.{class_there, thread_there}
use Rattle.dso_class.proofs.new_maps.in_items.Goals as goal
use Rattle.dso_class.proofs.new_maps.in_items.Goals.{in-Class, in-Thread}

pub loop-item-preserved : goal.loop-item-preserved
loop-item-preserved c =
    let items = c.args.items.now in
    let i = c.loop-item.item-index in
    let item = c.item-item.result in
    let below = c.loop-item-test.true in
    let is = c.item-item.is in
    elim c.match-item.branch [
      | in-Class w ↦
          w.makes-is ∙ class_there items i item c.loop-item.makes w.in_members-makes.result w.in-Class.line w.in-Class.name w.in-Class.members w.as_slice.result.now below is c.loop-item.invariant w.in-Class.is w.as_slice.ensures
          w.in_members-makes.ensures
      | in-Thread w ↦
          w.makes-is ∙ thread_there items i item c.loop-item.makes w.in_block-makes.result w.in-Thread.line w.in-Thread.number w.in-Thread.number_line w.in-Thread.body w.as_slice-in-Thread.result.now below is c.loop-item.invariant w.in-Thread.is
          w.as_slice-in-Thread.ensures w.in_block-makes.ensures
    ]

pub returns : goal.returns
returns c = c.loop-item.invariant ∙ ap (λ all. make_map (flat_map of_item all)) (take_all c.loop-item.item-index c.args.items.now c.loop-item-test.false)

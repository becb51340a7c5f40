use Rattle.std.proofs.Common.{◌≤◌, sym, ◌∙◌, ap, [], length, map}
use Rattle.std.proofs.lemmas.Option.{slice_get-get_or}
use Rattle.dso_world.specs.WorldSteps.{slot_of}
use Rattle.dso_world.proofs.asking.First.{first_listed}
use Rattle.dso_world.proofs.worlds.Openings.{empty_journal, row_at_first, row_on, row_stands}
use Rattle.dso_world.proofs.opening.open_steps.Goals as goal

pub loop-place-init : goal.loop-place-init
loop-place-init c = row_at_first c.args.program.now c.requires.sound c.len.result c.as_slice-all.result.now c.in_ok-chooser.chooser (c.len.ensures ∙ ap length (sym c.as_slice-all.ensures)) c.in_ok-chooser.ensures

pub loop-place-preserved : goal.loop-place-preserved
loop-place-preserved c =
    let all = c.as_slice-all.result.now in
    let place = c.loop-place.place in
    c.set.ensures ∙ row_on c.args.program.now c.requires.sound c.args.nodes.now all place _ c.is_open.result c.loop-place.chooser c.requires.stands (ap (map slot_of) c.as_slice-all.ensures ∙ c.in_ok-steps.ensures)
    (slice_get-get_or all place _ c.loop-place-test.true) (c.is_open.ensures c.args.program.now) c.loop-place.invariant

pub returns : goal.returns
returns c =
    let all = c.as_slice-all.result.now in
    let past : length all ≤ c.loop-place.place = c.loop-place-test.false in
    record {
      steps = c.in_ok-steps.ensures;
      row = row_stands c.args.program.now c.requires.sound all c.loop-place.place c.loop-place.chooser (ap (map slot_of) c.as_slice-all.ensures ∙ c.in_ok-steps.ensures) past c.loop-place.invariant;
      asking = first_listed c.args.nodes.now c.args.program.now c.requires.sound c.in_ok-asking.asking c.requires.stands c.in_ok-asking.ensures;
      finished = c.is_finished.ensures [] (empty_journal c.args.program.now c.requires.sound) c.requires.stands;
    }

use Rattle.std.proofs.Common.{◌<◌, ◌≡◌, ◌∙◌, ap, length, arith}
use Rattle.std.proofs.lemmas.List.{length-map}
use Rattle.std.proofs.lemmas.Option.{slice_get_within}
use Rattle.dso_legal.specs.Slots.{is_open, slots}
use Rattle.dso_machine.specs.Next.{next_request}
use Rattle.dso_world.specs.NodeSteps.{FollowsAll}
use Rattle.dso_world.specs.WorldStands.{entries_in}
use Rattle.dso_world.specs.WorldSteps.{settings_of, slot_of}
use Rattle.dso_world.proofs.places.Clients.{of_a_client}
use Rattle.dso_world.proofs.places.Marking.{among_slots}
use Rattle.dso_world.proofs.worlds.EntryDraft.{made_so}
use Rattle.dso_world.proofs.world.World.make.Goals as goal

pub apply-requires : goal.apply-requires
apply-requires c =
    let can = c.requires in
    let p = settings_of c.args.program.now in
    let slot = slot_of c.args.step in
    record {
      es = entries_in c.args.self.now;
      journal = can.journal;
      its = of_a_client slot p (among_slots slot (slots p) c.args.place can.at);
      stands = can.parts.nodes;
      opened = can.opened;
    }

pub follow-requires-clause-place : goal.follow-requires-clause-place
follow-requires-clause-place c =
    let can = c.requires in
    let p = settings_of c.args.program.now in
    let opens = is_open p (next_request c.args.program.now.code) (entries_in c.args.self.now) in
    let flags = c.args.self.now.open_steps.chooser.flags in
    let within : c.args.place < length (slots p) = slice_get_within (slots p) c.args.place (slot_of c.args.step) can.at in
    let long : length flags ≡ length (slots p) = ap length can.parts.open_steps.row.flags ∙ length-map (slots p) opens in
    omega (arith, within, long)

pub returns-clause-made : goal.returns-clause-made
returns-clause-made c =
    let can = c.requires in
    let program = c.args.program.now in
    let step = c.args.step in
    let old = c.args.self.now in
    let slot = slot_of step in
    let its = of_a_client slot (settings_of program) (among_slots slot (slots (settings_of program)) c.args.place can.at) in
    let follows : FollowsAll program slot c.in_ok-entry.entry old.nodes.server c.apply.new.nodes (entries_in old) = c.in_ok-entry.ensures (entries_in old) can.journal its can.parts.nodes can.opened in
    made_so program step c.args.place old (record { spent = old.spent; nodes = c.apply.new.nodes; open_steps = c.follow.new.open_steps; weight = c.with_weight-self.result; journal = record { entries = c.push.new.self } })
    c.in_ok-entry.entry can follows c.follow.ensures c.with_weight-self.ensures c.in_ok-push.ensures.ok

use Rattle.std.proofs.Common.{◌≤◌, ◌^◌, length, sym, subst, arith}
use Rattle.dso_base.specs.declared.journal.Input.TheVariants as input
use Rattle.dso_legal.specs.Slots as slot
use Rattle.dso_world.specs.ClientSteps.{Steps}
use Rattle.dso_world.specs.SentMessages.{after_saying, client_entry}
use Rattle.dso_world.proofs.client_nodes.Acted.{Told, acted_steps, moves}
use Rattle.dso_world.proofs.client_nodes.Fits.{IsSmall, small}
use Rattle.dso_world.proofs.client_nodes.EntryDraft.{made_ok}
use Rattle.dso_world.proofs.client_step.act.Goals as goal

pub event_of-requires : goal.event_of-requires
event_of-requires c =
    let h = c.requires in
    let says : Told c.args.program.now c.args.thread c.args.client_node.now c.act.new.self c.in_ok-acted.messages.items c.in_ok-acted.acted =
    record { acts = c.in_ok-acted.ensures.acts; runs = c.in_ok-acted.ensures.runs; records = c.in_ok-acted.ensures.records; holds = c.in_ok-acted.ensures.holds } in
    moves c.args.program.now c.args.thread c.args.client_node.now c.act.new.self c.in_ok-acted.messages.items h.es h.journal h.stands h.opened c.in_ok-acted.acted says

pub say-requires-clause-clock : goal.say-requires-clause-clock
say-requires-clause-clock c =
    let h = c.requires in
    let few : length h.es ≤ 2 ^ 28 = h.journal.few in
    let fits : IsSmall (length h.es) c.args.client_node.now = small c.args.program.now c.args.thread.client c.args.client_node.now h.es h.journal h.stands in
    let last : c.args.client_node.now.clock ≤ length h.es = fits.clock in
    omega (arith, few, last)

pub say-requires-clause-seen : goal.say-requires-clause-seen
say-requires-clause-seen c =
    let h = c.requires in
    let few : length h.es ≤ 2 ^ 28 = h.journal.few in
    let fits : IsSmall (length h.es) c.args.client_node.now = small c.args.program.now c.args.thread.client c.args.client_node.now h.es h.journal h.stands in
    let seen : c.args.client_node.now.link.client.seen ≤ length h.es = fits.up_seen in
    omega (arith, few, seen)

pub returns : goal.returns
returns c =
    let program = c.args.program.now in
    let t = c.args.thread in
    let old = c.args.client_node.now in
    let kept = c.act.new.self in
    let messages = c.in_ok-acted.messages.items in
    let says : Told program t old kept messages c.in_ok-acted.acted =
    record { acts = c.in_ok-acted.ensures.acts; runs = c.in_ok-acted.ensures.runs; records = c.in_ok-acted.ensures.records; holds = c.in_ok-acted.ensures.holds } in
    made_ok c.say.result _ c.say.new.client_node _ (λ entry client_node. Steps program t.client (slot.Acts t) entry old client_node) c.say.ensures.entry c.say.ensures.after
    (subst (λ event. Steps program t.client (slot.Acts t) (client_entry t.client old.clock (record { heard = 0; input = input.Act t.index; event = event }) messages) old
    (after_saying (record { heard = 0; input = input.Act t.index; event = event }) messages (record old { client = kept }))) (sym c.in_ok-event.ensures)
    (acted_steps program t old kept messages c.in_ok-acted.acted
    (moves program t old kept messages c.requires.es c.requires.journal c.requires.stands c.requires.opened c.in_ok-acted.acted says) says))

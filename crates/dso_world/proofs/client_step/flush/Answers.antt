use Rattle.std.proofs.Common.{◌≤◌, ◌≡◌, ◌^◌, None, ap, length, sym, subst, arith}
use Rattle.dso_base.specs.declared.journal.Input.TheVariants as input
use Rattle.dso_class.specs.declared.program.Program.{Program}
use Rattle.dso_legal.specs.Slots as slot
use Rattle.dso_world.specs.declared.entry_draft.EntryDraft.{EntryDraft}
use Rattle.dso_world.specs.ClientSteps.{Steps}
use Rattle.dso_world.specs.SentMessages.{after_saying, client_entry}
use Rattle.dso_world.proofs.client_nodes.Fits.{IsSmall, small}
use Rattle.dso_world.proofs.client_nodes.EntryDraft.{made_ok}
use Rattle.dso_world.proofs.client_nodes.Taken.{flushed_steps}
use Rattle.dso_world.proofs.client_step.flush.Goals as goal

pub say-requires-clause-clock : goal.say-requires-clause-clock
say-requires-clause-clock c =
    let h = c.requires.1 in
    let few : length h.es ≤ 2 ^ 28 = h.journal.few in
    let fits : IsSmall (length h.es) c.args.client_node.now = small c.requires.0 c.args.number c.args.client_node.now h.es h.journal h.stands in
    let last : c.args.client_node.now.clock ≤ length h.es = fits.clock in
    let none : c.of-made.result.heard ≡ 0 = ap (λ (made : EntryDraft). made.heard) c.of-made.ensures in
    omega (arith, few, last, none)

pub say-requires-clause-seen : goal.say-requires-clause-seen
say-requires-clause-seen c =
    let h = c.requires.1 in
    let few : length h.es ≤ 2 ^ 28 = h.journal.few in
    let fits : IsSmall (length h.es) c.args.client_node.now = small c.requires.0 c.args.number c.args.client_node.now h.es h.journal h.stands in
    let seen : c.args.client_node.now.link.client.seen ≤ length h.es = fits.up_seen in
    omega (arith, few, seen)

pub returns : goal.returns
returns c =
    let number = c.args.number in
    let old = c.args.client_node.now in
    let kept = c.flush.new.self in
    let object = c.in-Some.object in
    made_ok c.say.result _ c.say.new.client_node _ (λ entry client_node. (program : Program) → Steps program number (slot.Flushes number) entry old client_node) c.say.ensures.entry c.say.ensures.after
    (subst (λ (made : EntryDraft). (program : Program) → Steps program number (slot.Flushes number) (client_entry number old.clock made c.in_ok-messages.messages.items) old
    (after_saying made c.in_ok-messages.messages.items (record old { client = kept }))) (sym c.of-made.ensures)
    (subst (λ messages. (program : Program) → Steps program number (slot.Flushes number) (client_entry number old.clock (record { heard = 0; input = input.Flush object; event = None }) messages) old
    (after_saying (record { heard = 0; input = input.Flush object; event = None }) messages (record old { client = kept }))) (sym c.in_ok-messages.ensures)
    (λ program. flushed_steps program number old object kept c.in-Some.ensures.made c.in-Some.ensures.runs)))

use Rattle.std.proofs.Common.{◌≤◌, ◌≡◌, ◌∙◌, ◌^◌, None, Some, [], ap, length, sym, subst, arith}
use Rattle.dso_base.specs.declared.journal.Input.TheVariants as input
use Rattle.dso_legal.specs.Slots as slot
use Rattle.dso_session.specs.declared.frame.Accepted.TheVariants as accepted
use Rattle.dso_world.specs.declared.entry_draft.EntryDraft.{EntryDraft}
use Rattle.dso_world.specs.ClientSteps.{Steps}
use Rattle.dso_world.specs.SentMessages.{after_saying, client_entry}
use Rattle.dso_world.proofs.client_nodes.Fits.{IsSmall, small}
use Rattle.dso_world.proofs.client_nodes.EntryDraft.{made_ok}
use Rattle.dso_world.proofs.client_nodes.Taken.{heard_few, not_other, not_up, rejoined_steps, seen_few, taken_steps}
use Rattle.dso_world.proofs.client_step.take_down.Goals as goal

pub unreachable-requires : goal.unreachable-requires
unreachable-requires c =
    let h = c.requires in
    not_up c.args.program.now c.args.number c.args.client_node.now h.es h.journal h.stands h.opened c.in_default.field-0 c.in-Some-Up.heard
    (sym c.in_ok-both.ensures.answer ∙ c.in-Some-Up.is ∙ ap (λ a. Some a) (c.in-Some-Up.field-0-is ∙ ap (λ b. accepted.Up b c.in-Some-Up.heard) c.in_default.is))

pub say-requires-clause-clock : goal.say-requires-clause-clock
say-requires-clause-clock c =
    let h = c.requires in
    let few : length h.es ≤ 2 ^ 28 = h.journal.few in
    let fits : IsSmall (length h.es) c.args.client_node.now = small c.args.program.now c.args.number c.args.client_node.now h.es h.journal h.stands in
    let last : c.args.client_node.now.clock ≤ length h.es = fits.clock in
    let heard : c.in-Some-Up.heard ≤ length h.es = heard_few c.args.program.now c.args.number c.args.client_node.now h.es h.journal h.stands h.opened c.in-Down.message c.in-Some-Up.heard
    (sym c.in_ok-both.ensures.answer ∙ c.in-Some-Up.is ∙ ap (λ a. Some a) (c.in-Some-Up.field-0-is ∙ ap (λ b. accepted.Up b c.in-Some-Up.heard) c.in-Down.is)) in
    let is : c.of-made.result.heard ≡ c.in-Some-Up.heard = ap (λ (made : EntryDraft). made.heard) c.of-made.ensures in
    omega (arith, few, last, heard, is)

pub say-requires-clause-seen : goal.say-requires-clause-seen
say-requires-clause-seen c =
    let h = c.requires in
    let few : length h.es ≤ 2 ^ 28 = h.journal.few in
    let seen = subst (λ line. line.client.seen ≤ length h.es) (sym c.in_ok-both.ensures.after) (seen_few c.args.program.now c.args.number c.args.client_node.now h.es h.journal h.stands h.opened) in
    omega (arith, few, seen)

pub say-requires-in-Some-Rejoined-clause-clock : goal.say-requires-in-Some-Rejoined-clause-clock
say-requires-in-Some-Rejoined-clause-clock c =
    let h = c.requires in
    let few : length h.es ≤ 2 ^ 28 = h.journal.few in
    let fits : IsSmall (length h.es) c.args.client_node.now = small c.args.program.now c.args.number c.args.client_node.now h.es h.journal h.stands in
    let last : c.args.client_node.now.clock ≤ length h.es = fits.clock in
    let none : c.of-made-in-Some-Rejoined.result.heard ≡ 0 = ap (λ (made : EntryDraft). made.heard) c.of-made-in-Some-Rejoined.ensures in
    omega (arith, few, last, none)

pub say-requires-in-Some-Rejoined-clause-seen : goal.say-requires-in-Some-Rejoined-clause-seen
say-requires-in-Some-Rejoined-clause-seen c =
    let h = c.requires in
    let few : length h.es ≤ 2 ^ 28 = h.journal.few in
    let seen = subst (λ line. line.client.seen ≤ length h.es) (sym c.in_ok-both.ensures.after) (seen_few c.args.program.now c.args.number c.args.client_node.now h.es h.journal h.stands h.opened) in
    omega (arith, few, seen)

pub unreachable-requires-in-Some-Again : goal.unreachable-requires-in-Some-Again
unreachable-requires-in-Some-Again c =
    let h = c.requires in
    not_other c.args.program.now c.args.number c.args.client_node.now h.es h.journal h.stands h.opened _ (sym c.in_ok-both.ensures.answer ∙ c.in-Some-Again.is ∙ ap (λ a. Some a) c.in-Some-Again.field-0-is) tt

pub unreachable-requires-in-Some-Gap : goal.unreachable-requires-in-Some-Gap
unreachable-requires-in-Some-Gap c =
    let h = c.requires in
    not_other c.args.program.now c.args.number c.args.client_node.now h.es h.journal h.stands h.opened _ (sym c.in_ok-both.ensures.answer ∙ c.in-Some-Gap.is ∙ ap (λ a. Some a) c.in-Some-Gap.field-0-is) tt

pub unreachable-requires-in-Some-OldConnection : goal.unreachable-requires-in-Some-OldConnection
unreachable-requires-in-Some-OldConnection c =
    let h = c.requires in
    not_other c.args.program.now c.args.number c.args.client_node.now h.es h.journal h.stands h.opened _ (sym c.in_ok-both.ensures.answer ∙ c.in-Some-OldConnection.is ∙ ap (λ a. Some a) c.in-Some-OldConnection.field-0-is) tt

pub unreachable-requires-in-None : goal.unreachable-requires-in-None
unreachable-requires-in-None c =
    let h = c.requires in
    not_other c.args.program.now c.args.number c.args.client_node.now h.es h.journal h.stands h.opened None (sym c.in_ok-both.ensures.answer ∙ c.in-None.is) tt

pub returns-in_ok-messages-in-Some-Up : goal.returns-in_ok-messages-in-Some-Up
returns-in_ok-messages-in-Some-Up c =
    let program = c.args.program.now in
    let number = c.args.number in
    let old = c.args.client_node.now in
    let kept = c.take.new.self in
    let message = c.in-Down.message in
    let messages = c.in_ok-messages-in-Some-Up.messages.items in
    made_ok c.say.result _ c.say.new.client_node _ (λ entry client_node. Steps program number (slot.TakesDown number) entry old client_node) c.say.ensures.entry c.say.ensures.after
    (subst (λ (made : EntryDraft). Steps program number (slot.TakesDown number) (client_entry number old.clock made messages) old (after_saying made messages (record old { client = kept; link = c.take_down.new.self }))) (sym c.of-made.ensures)
    (subst (λ line. Steps program number (slot.TakesDown number) (client_entry number old.clock (record { heard = c.in-Some-Up.heard; input = input.TookDown message; event = None }) messages) old
    (after_saying (record { heard = c.in-Some-Up.heard; input = input.TookDown message; event = None }) messages (record old { client = kept; link = line }))) (sym c.in_ok-both.ensures.after)
    (taken_steps program number old message c.in-Some-Up.heard
    (sym c.in_ok-both.ensures.answer ∙ c.in-Some-Up.is ∙ ap (λ a. Some a) (c.in-Some-Up.field-0-is ∙ ap (λ b. accepted.Up b c.in-Some-Up.heard) c.in-Down.is))
    kept messages c.in_ok-messages-in-Some-Up.ensures.takes c.in_ok-messages-in-Some-Up.ensures.runs)))

pub returns-in-Some-Rejoined : goal.returns-in-Some-Rejoined
returns-in-Some-Rejoined c =
    let program = c.args.program.now in
    let number = c.args.number in
    let old = c.args.client_node.now in
    made_ok c.say-in-Some-Rejoined.result _ c.say-in-Some-Rejoined.new.client_node _ (λ entry client_node. Steps program number (slot.TakesDown number) entry old client_node) c.say-in-Some-Rejoined.ensures.entry c.say-in-Some-Rejoined.ensures.after
    (subst (λ (made : EntryDraft). Steps program number (slot.TakesDown number) (client_entry number old.clock made c.new.result.items) old (after_saying made c.new.result.items (record old { link = c.take_down.new.self }))) (sym c.of-made-in-Some-Rejoined.ensures)
    (subst (λ messages. Steps program number (slot.TakesDown number) (client_entry number old.clock (record { heard = 0; input = input.Rejoin number; event = None }) messages) old
    (after_saying (record { heard = 0; input = input.Rejoin number; event = None }) messages (record old { link = c.take_down.new.self }))) (sym c.new.ensures.items)
    (subst (λ line. Steps program number (slot.TakesDown number) (client_entry number old.clock (record { heard = 0; input = input.Rejoin number; event = None }) []) old
    (after_saying (record { heard = 0; input = input.Rejoin number; event = None }) [] (record old { link = line }))) (sym c.in_ok-both.ensures.after)
    (rejoined_steps program number old c.in-Some-Rejoined.field-0-0
    (sym c.in_ok-both.ensures.answer ∙ c.in-Some-Rejoined.is ∙ ap (λ a. Some a) c.in-Some-Rejoined.field-0-is)))))

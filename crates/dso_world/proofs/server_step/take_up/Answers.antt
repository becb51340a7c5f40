use Rattle.std.proofs.Common.{◌≡◌, ◌<◌, ◌^◌, refl, sym, ◌∙◌, ap, subst, cond, suc, eqb, Some, None, List, []}
use Rattle.dso_base.specs.declared.journal.Entry.{Entry}
use Rattle.dso_base.specs.declared.journal.Input.TheVariants as input
use Rattle.dso_base.specs.declared.message.Up.{Up}
use Rattle.dso_law.specs.Channels.{Letter}
use Rattle.dso_legal.specs.Slots as slot
use Rattle.dso_session.specs.declared.frame.Accepted.TheVariants as accepted
use Rattle.dso_base.specs.declared.both.Both.TheVariants as both
use Rattle.dso_world.specs.declared.entry_draft.EntryDraft.{EntryDraft}
use Rattle.dso_world.specs.declared.nodes.Nodes.{Nodes}
use Rattle.dso_world.specs.NodeSteps.{FollowsAll, HasTold, Heard, StepsAll, course_heard, with_line}
use Rattle.dso_world.specs.Link.{taken_up}
use Rattle.dso_world.specs.PastOf.{past_of}
use Rattle.dso_world.specs.SentMessages.{clock_after, server_entry}
use Rattle.dso_world.proofs.nodes.Outcomes.{both_ok}
use Rattle.dso_world.proofs.nodes.Ready.{clock_small, room_of, same_few}
use Rattle.dso_world.proofs.nodes.Served.{rejoined_follows_all}
use Rattle.dso_world.proofs.nodes.TakenUp.{message_heard, no_other, rejoin_stands}
use Rattle.dso_world.proofs.nodes.Told.{same_length}
use Rattle.dso_world.proofs.places.Clients.{numbered_so}
use Rattle.dso_client.proofs.replies.Outcomes.{if_ok}
use Rattle.dso_world.proofs.server_step.take_up.Goals as goal

pub take_frame-requires : goal.take_frame-requires
take_frame-requires c = let range = numbered_so c.args.number c.args.program.now.clients c.requires.its in range.0

pub unreachable-requires : goal.unreachable-requires
unreachable-requires c =
    let r = c.requires in
    let down = c.in_default.field-0 in
    let clk = c.in-Some-Up.clock in
    let is : c.in_ok-both.field-0 ≡ Some (accepted.Up (both.Down down) clk) = c.in-Some-Up.is ∙ ap (λ x. Some x) (c.in-Some-Up.field-0-is ∙ ap (λ b. accepted.Up b clk) c.in_default.is) in
    no_other c.args.program.now c.args.number c.args.nodes.now r.es r.journal r.its r.stands r.opened c.in_ok-both.field-0 c.in_ok-both.ensures.answer
    (λ message clock same. let both_are = sym is ∙ same in cc both_are) (λ seen same. let both_are = sym is ∙ same in cc both_are)

pub unreachable-requires-in-Some-Again : goal.unreachable-requires-in-Some-Again
unreachable-requires-in-Some-Again c =
    let r = c.requires in
    let is : c.in_ok-both.field-0 ≡ Some (accepted.Again c.in-Some-Again.field-0-0) = c.in-Some-Again.is ∙ ap (λ x. Some x) c.in-Some-Again.field-0-is in
    no_other c.args.program.now c.args.number c.args.nodes.now r.es r.journal r.its r.stands r.opened c.in_ok-both.field-0 c.in_ok-both.ensures.answer
    (λ message clock same. let both_are = sym is ∙ same in cc both_are) (λ seen same. let both_are = sym is ∙ same in cc both_are)

pub unreachable-requires-in-Some-Gap : goal.unreachable-requires-in-Some-Gap
unreachable-requires-in-Some-Gap c =
    let r = c.requires in
    let is : c.in_ok-both.field-0 ≡ Some (accepted.Gap c.in-Some-Gap.field-0-0) = c.in-Some-Gap.is ∙ ap (λ x. Some x) c.in-Some-Gap.field-0-is in
    no_other c.args.program.now c.args.number c.args.nodes.now r.es r.journal r.its r.stands r.opened c.in_ok-both.field-0 c.in_ok-both.ensures.answer
    (λ message clock same. let both_are = sym is ∙ same in cc both_are) (λ seen same. let both_are = sym is ∙ same in cc both_are)

pub unreachable-requires-in-Some-OldConnection : goal.unreachable-requires-in-Some-OldConnection
unreachable-requires-in-Some-OldConnection c =
    let r = c.requires in
    let is : c.in_ok-both.field-0 ≡ Some (accepted.OldConnection c.in-Some-OldConnection.field-0-0) = c.in-Some-OldConnection.is ∙ ap (λ x. Some x) c.in-Some-OldConnection.field-0-is in
    no_other c.args.program.now c.args.number c.args.nodes.now r.es r.journal r.its r.stands r.opened c.in_ok-both.field-0 c.in_ok-both.ensures.answer
    (λ message clock same. let both_are = sym is ∙ same in cc both_are) (λ seen same. let both_are = sym is ∙ same in cc both_are)

pub unreachable-requires-in-None : goal.unreachable-requires-in-None
unreachable-requires-in-None c =
    let r = c.requires in
    no_other c.args.program.now c.args.number c.args.nodes.now r.es r.journal r.its r.stands r.opened c.in_ok-both.field-0 c.in_ok-both.ensures.answer
    (λ message clock same. let both_are = sym c.in-None.is ∙ same in cc both_are) (λ seen same. let both_are = sym c.in-None.is ∙ same in cc both_are)

pub hear-requires : goal.hear-requires
hear-requires c =
    let r = c.requires in
    let old = c.args.nodes.now in
    record {
      es = r.es;
      heard = message_heard c.args.program.now c.args.number old r.es r.journal r.its r.stands r.opened c.take_frame.new.client_nodes.items c.in_ok-both.ensures.after c.in-Up.message c.in-Some-Up.clock
          (sym c.in_ok-both.ensures.answer ∙ c.in-Some-Up.is ∙ ap (λ x. Some x) (c.in-Some-Up.field-0-is ∙ ap (λ b. accepted.Up b c.in-Some-Up.clock) c.in-Up.is))
          (record old { client_nodes = c.take_frame.new.client_nodes }) refl refl refl;
    }

pub tell_all-requires-clause-clock : goal.tell_all-requires-clause-clock
tell_all-requires-clause-clock c =
    let r = c.requires in
    subst (λ (made : EntryDraft). clock_after c.args.nodes.now.clock made.heard < 2 ^ 64) (sym c.of-made.ensures) (clock_small c.args.program.now r.es r.journal c.args.nodes.now r.stands.clock)

pub tell_all-requires-clause-room : goal.tell_all-requires-clause-room
tell_all-requires-clause-room c =
    let r = c.requires in
    let program = c.args.program.now in
    let number = c.args.number in
    let joined = rejoin_stands program number c.args.nodes.now r.es r.journal r.its r.stands r.opened c.take_frame.new.client_nodes.items c.in_ok-both.ensures.after c.in-Some-Rejoined.field-0-0
    (sym c.in_ok-both.ensures.answer ∙ c.in-Some-Rejoined.is ∙ ap (λ x. Some x) c.in-Some-Rejoined.field-0-is) in
    room_of program r.es r.journal (course_heard program number r.es) (λ d. cond (eqb d number) (past_of both.Up both.Down number r.es) (past_of both.Up both.Down d r.es)) c.take_frame.new.client_nodes.items
    (same_few program r.es r.journal number) joined.1

pub returns-in-Up : goal.returns-in-Up
returns-in-Up c =
    let old = c.args.nodes.now in
    let letter : Letter Up = record { message = c.in-Up.message; clock = c.in-Some-Up.clock } in
    let between : Nodes = record old { client_nodes = c.take_frame.new.client_nodes } in
    if_ok c.hear.result
    (λ entry. (es : List Entry) → Heard c.args.program.now c.args.number letter between es → FollowsAll c.args.program.now (slot.TakesUp c.args.number) entry old.server c.hear.new.nodes es)
    (λ entry. StepsAll c.args.program.now c.args.number (slot.TakesUp c.args.number) entry old c.hear.new.nodes)
    (λ entry follows. λ es journal its stands opened. follows es (message_heard c.args.program.now c.args.number old es journal its stands opened c.take_frame.new.client_nodes.items c.in_ok-both.ensures.after c.in-Up.message c.in-Some-Up.clock
    (sym c.in_ok-both.ensures.answer ∙ c.in-Some-Up.is ∙ ap (λ x. Some x) (c.in-Some-Up.field-0-is ∙ ap (λ b. accepted.Up b c.in-Some-Up.clock) c.in-Up.is))
    between refl refl refl)) c.hear.ensures

pub returns-in-Some-Rejoined : goal.returns-in-Some-Rejoined
returns-in-Some-Rejoined c =
    let program = c.args.program.now in
    let number = c.args.number in
    let old = c.args.nodes.now in
    let between : Nodes = record old { client_nodes = c.take_frame.new.client_nodes } in
    let rejoining : EntryDraft = record { heard = 0; input = input.Rejoin number; event = None } in
    both_ok c.tell_all.result (λ entry. entry ≡ server_entry old.clock c.of-made.result c.new.result.items) (HasTold c.of-made.result c.new.result.items between c.tell_all.new.nodes)
    (λ entry. StepsAll program number (slot.TakesUp number) entry old c.tell_all.new.nodes)
    (λ entry is told. λ es journal its stands opened.
    let joined = rejoin_stands program number old es journal its stands opened c.take_frame.new.client_nodes.items c.in_ok-both.ensures.after c.in-Some-Rejoined.field-0-0
    (sym c.in_ok-both.ensures.answer ∙ c.in-Some-Rejoined.is ∙ ap (λ x. Some x) c.in-Some-Rejoined.field-0-is) in
    let told_none : HasTold rejoining [] between c.tell_all.new.nodes = subst (λ made. HasTold made [] between c.tell_all.new.nodes) c.of-made.ensures
    (subst (λ messages. HasTold c.of-made.result messages between c.tell_all.new.nodes) c.new.ensures.items told) in
    subst (λ entry. FollowsAll program (slot.TakesUp number) entry old.server c.tell_all.new.nodes es)
    (sym (is ∙ ap (λ made. server_entry old.clock made c.new.result.items) c.of-made.ensures ∙ ap (λ messages. server_entry old.clock rejoining messages) c.new.ensures.items))
    (rejoined_follows_all program number old es journal its stands between c.tell_all.new.nodes
    (same_length (λ place. with_line number taken_up (suc place)) old.client_nodes.items c.take_frame.new.client_nodes.items c.in_ok-both.ensures.after ∙ stands.count) refl refl joined.0 joined.1 told_none))
    c.tell_all.ensures.entry c.tell_all.ensures.told

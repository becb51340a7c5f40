use Rattle.std.proofs.Common.{◌≡◌, ◌<◌, ◌^◌, inl, inr, refl, sym, ◌∙◌, ap, subst, None, List}
use Rattle.dso_base.specs.declared.journal.Entry.{Entry}
use Rattle.dso_base.specs.declared.journal.Input.TheVariants as input
use Rattle.dso_base.specs.declared.journal.Node.TheVariants as node
use Rattle.dso_base.specs.declared.message.Up.{Up}
use Rattle.dso_law.specs.Channels.{Letter}
use Rattle.dso_law.specs.Entries.{entries_of}
use Rattle.dso_legal.specs.Slots as slot
use Rattle.dso_server.specs.Answering.{IsTaken, WasTaken}
use Rattle.dso_world.specs.declared.entry_draft.EntryDraft.{EntryDraft}
use Rattle.dso_world.specs.NodeSteps.{FollowsAll, HasTold, Heard}
use Rattle.dso_world.specs.SentMessages.{clock_after, server_entry}
use Rattle.dso_world.specs.WorldSteps.{settings_of}
use Rattle.dso_world.proofs.nodes.Known.{heard_is_known}
use Rattle.dso_world.proofs.nodes.Outcomes.{both_ok}
use Rattle.dso_world.proofs.nodes.Ready.{heard_clock, heard_room, no_bad_message}
use Rattle.dso_world.proofs.nodes.Served.{heard_follows}
use Rattle.dso_world.proofs.server_step.hear.Goals as goal

pub tell_all-requires : goal.tell_all-requires
tell_all-requires c =
    let program = c.args.program.now in
    let incoming = c.args.incoming in
    let letter : Letter Up = record { message = incoming.message; clock = incoming.clock } in
    record {
      clock = subst (λ (made : EntryDraft). clock_after c.args.nodes.now.clock made.heard < 2 ^ 64) (sym c.of-made.ensures) (heard_clock program incoming.client letter c.args.nodes.now c.requires.es c.requires.heard);
      room = heard_room program incoming.client letter c.args.nodes.now c.requires.es c.requires.heard;
    }

pub unreachable-requires : goal.unreachable-requires
unreachable-requires c =
    let program = c.args.program.now in
    let incoming = c.args.incoming in
    let nodes = c.args.nodes.now in
    let heard = c.requires.heard in
    no_bad_message program incoming.client (record { message = incoming.message; clock = incoming.clock }) nodes c.requires.es heard c.in-BadMessage.field-0 c.in_ok-taken.messages.items c.take.new.self
    (subst (λ taken. IsTaken (settings_of program) incoming.client incoming.message taken c.in_ok-taken.messages.items nodes.server c.take.new.self (entries_of node.Server c.requires.es)) c.in-BadMessage.is
    (c.in_ok-taken.ensures.taken (settings_of program) (entries_of node.Server c.requires.es) refl heard.stands.server heard.its (heard_is_known program incoming.client (record { message = incoming.message; clock = incoming.clock }) nodes c.requires.es heard)))

pub returns : goal.returns
returns c =
    let program = c.args.program.now in
    let incoming = c.args.incoming in
    let nodes = c.args.nodes.now in
    let letter : Letter Up = record { message = incoming.message; clock = incoming.clock } in
    let messages = c.in_ok-taken.messages.items in
    let hearing : EntryDraft = record { heard = incoming.clock; input = input.TookUp incoming.client incoming.message; event = None } in
    let was : WasTaken c.in_ok-taken.taken = elim c.in-Done.is [ inl done ↦ subst WasTaken (sym done) tt | inr gone ↦ subst WasTaken (sym gone) tt ] in
    both_ok c.tell_all.result (λ entry. entry ≡ server_entry nodes.clock c.of-made.result messages) (HasTold c.of-made.result messages (record nodes { server = c.take.new.self }) c.tell_all.new.nodes)
    (λ entry. (es : List Entry) → Heard program incoming.client letter nodes es → FollowsAll program (slot.TakesUp incoming.client) entry nodes.server c.tell_all.new.nodes es)
    (λ entry is told. λ es heard.
    subst (λ entry. FollowsAll program (slot.TakesUp incoming.client) entry nodes.server c.tell_all.new.nodes es) (sym (is ∙ ap (λ made. server_entry nodes.clock made messages) c.of-made.ensures))
    (heard_follows program incoming.client letter nodes es heard c.in_ok-taken.taken messages c.take.new.self was
    (c.in_ok-taken.ensures.taken (settings_of program) (entries_of node.Server es) refl heard.stands.server heard.its (heard_is_known program incoming.client letter nodes es heard)) c.in_ok-taken.ensures.given c.tell_all.new.nodes
    (subst (λ made. HasTold made messages (record nodes { server = c.take.new.self }) c.tell_all.new.nodes) c.of-made.ensures told)
    (heard_is_known program incoming.client letter nodes es heard)))
    c.tell_all.ensures.entry c.tell_all.ensures.told

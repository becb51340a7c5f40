use Rattle.std.proofs.Common.{◌≡◌, ◌<◌, ◌^◌, sym, ◌∙◌, ap, subst, None}
use Rattle.dso_base.specs.declared.journal.Input.TheVariants as input
use Rattle.dso_base.specs.declared.journal.Node.TheVariants as node
use Rattle.dso_class.specs.declared.program.Program.{Program}
use Rattle.dso_law.specs.Entries.{entries_of}
use Rattle.dso_legal.specs.Slots as slot
use Rattle.dso_world.specs.declared.entry_draft.EntryDraft.{EntryDraft}
use Rattle.dso_world.specs.NodeSteps.{FollowsAll, HasTold, StepsAll}
use Rattle.dso_world.specs.SentMessages.{clock_after, server_entry}
use Rattle.dso_world.specs.WorldSteps.{settings_of}
use Rattle.dso_world.proofs.nodes.Outcomes.{both_ok}
use Rattle.dso_world.proofs.nodes.Ready.{clock_small, room}
use Rattle.dso_world.proofs.nodes.Served.{lost_follows_all}
use Rattle.dso_world.proofs.server_step.lose.Goals as goal

pub tell_all-requires-clause-clock : goal.tell_all-requires-clause-clock
tell_all-requires-clause-clock c =
    let r = c.requires.1 in
    subst (λ (made : EntryDraft). clock_after c.args.nodes.now.clock made.heard < 2 ^ 64) (sym c.of-made.ensures) (clock_small c.requires.0 r.es r.journal c.args.nodes.now r.stands.clock)

pub tell_all-requires-clause-room : goal.tell_all-requires-clause-room
tell_all-requires-clause-room c = let r = c.requires.1 in room c.requires.0 r.es r.journal c.args.nodes.now r.stands

pub returns : goal.returns
returns c =
    let number = c.args.number in
    let old = c.args.nodes.now in
    let server = c.lose.new.self in
    let messages = c.in_ok-messages.messages.items in
    let losing : EntryDraft = record { heard = 0; input = input.Lose number; event = None } in
    both_ok c.tell_all.result (λ entry. entry ≡ server_entry old.clock c.of-made.result messages) (HasTold c.of-made.result messages (record old { server = server }) c.tell_all.new.nodes)
    (λ entry. (program : Program) → StepsAll program number (slot.Loses number) entry old c.tell_all.new.nodes)
    (λ entry is told. λ program es journal its stands opened.
    subst (λ entry. FollowsAll program (slot.Loses number) entry old.server c.tell_all.new.nodes es) (sym (is ∙ ap (λ made. server_entry old.clock made messages) c.of-made.ensures))
    (lost_follows_all program number old es journal its stands messages server (c.in_ok-messages.ensures.lost (settings_of program) (entries_of node.Server es) stands.server)
    c.in_ok-messages.ensures.given opened c.tell_all.new.nodes
    (subst (λ made. HasTold made messages (record old { server = server }) c.tell_all.new.nodes) c.of-made.ensures told)))
    c.tell_all.ensures.entry c.tell_all.ensures.told

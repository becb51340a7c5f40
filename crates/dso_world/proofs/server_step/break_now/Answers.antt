use Rattle.std.proofs.Common.{suc, ◌≡◌, ◌<◌, ◌^◌, refl, sym, ◌∙◌, ap, subst, None, []}
use Rattle.dso_base.specs.declared.journal.Input.TheVariants as input
use Rattle.dso_class.specs.declared.program.Program.{Program}
use Rattle.dso_legal.specs.Slots as slot
use Rattle.dso_world.specs.declared.entry_draft.EntryDraft.{EntryDraft}
use Rattle.dso_world.specs.declared.nodes.Nodes.{Nodes}
use Rattle.dso_world.specs.Link.{cut}
use Rattle.dso_world.specs.NodeSteps.{FollowsAll, HasTold, StepsAll, with_line}
use Rattle.dso_world.specs.SentMessages.{clock_after, server_entry}
use Rattle.dso_world.proofs.nodes.Cut.{break_left, cut_room, cut_stands, even}
use Rattle.dso_world.proofs.nodes.Outcomes.{both_ok}
use Rattle.dso_world.proofs.nodes.Ready.{clock_small}
use Rattle.dso_world.proofs.nodes.Served.{broke_follows_all}
use Rattle.dso_world.proofs.nodes.Told.{same_length}
use Rattle.dso_world.proofs.places.Clients.{numbered_so}
use Rattle.dso_world.proofs.server_step.break_now.Goals as goal

pub break_line-requires-clause-there : goal.break_line-requires-clause-there
break_line-requires-clause-there c = let range = numbered_so c.args.number c.requires.0.clients c.requires.1.its in range.0

pub break_line-requires-clause-few : goal.break_line-requires-clause-few
break_line-requires-clause-few c = let r = c.requires.1 in break_left c.requires.0 c.args.number c.args.nodes.now r.es r.journal r.its r.stands

pub tell_all-requires-clause-clock : goal.tell_all-requires-clause-clock
tell_all-requires-clause-clock c =
    let r = c.requires.1 in
    subst (λ (made : EntryDraft). clock_after c.args.nodes.now.clock made.heard < 2 ^ 64) (sym c.of-made.ensures) (clock_small c.requires.0 r.es r.journal c.args.nodes.now r.stands.clock)

pub tell_all-requires-clause-room : goal.tell_all-requires-clause-room
tell_all-requires-clause-room c =
    let r = c.requires.1 in
    cut_room c.requires.0 c.args.number c.args.nodes.now r.es r.journal r.its r.stands r.opened c.break_line.new.client_nodes.items c.in_ok-break_line.ensures

pub returns : goal.returns
returns c =
    let number = c.args.number in
    let old = c.args.nodes.now in
    let client_nodes = c.break_line.new.client_nodes.items in
    let between : Nodes = record old { client_nodes = c.break_line.new.client_nodes } in
    let breaking : EntryDraft = record { heard = 0; input = input.Break number; event = None } in
    both_ok c.tell_all.result (λ entry. entry ≡ server_entry old.clock c.of-made.result c.new.result.items) (HasTold c.of-made.result c.new.result.items between c.tell_all.new.nodes)
    (λ entry. (program : Program) → StepsAll program number (slot.Breaks number) entry old c.tell_all.new.nodes)
    (λ entry is told. λ program es journal its stands opened.
    let told_none : HasTold breaking [] between c.tell_all.new.nodes = subst (λ made. HasTold made [] between c.tell_all.new.nodes) c.of-made.ensures
    (subst (λ messages. HasTold c.of-made.result messages between c.tell_all.new.nodes) c.new.ensures.items told) in
    subst (λ entry. FollowsAll program (slot.Breaks number) entry old.server c.tell_all.new.nodes es)
    (sym (is ∙ ap (λ made. server_entry old.clock made c.new.result.items) c.of-made.ensures ∙ ap (λ messages. server_entry old.clock breaking messages) c.new.ensures.items))
    (broke_follows_all program number old es journal its stands (even program number old es journal its stands opened) opened between c.tell_all.new.nodes
    (same_length (λ place. with_line number cut (suc place)) old.client_nodes.items client_nodes c.in_ok-break_line.ensures ∙ stands.count) refl refl
    (cut_stands program number old es journal its stands opened client_nodes c.in_ok-break_line.ensures) told_none))
    c.tell_all.ensures.entry c.tell_all.ensures.told

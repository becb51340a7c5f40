use Rattle.std.proofs.Common.{ap, ◌∙◌, ◌||◌}
use Rattle.std.specs.List.{list_any}
use Rattle.dso_base.specs.Naming.{note_names}
use Rattle.dso_change.specs.Hands.{with_references}
use Rattle.dso_lookup.specs.Search.{is_listed}
use Rattle.std.proofs.lemmas.Result.{on_ok_weaker}
use Rattle.dso_txn.proofs.NamesInHand.{hand_named}
use Rattle.dso_txn.proofs.open_block.OpenBlock.named.Goals as goal

pub returns : goal.returns
returns c = on_ok_weaker c.add_notes.result (λ noted work once same.
    hand_named c.args.privates.now c.args.self.now work c.args.into.now.items c.add_bodies.new.into.items c.add_bodies-2.new.into.items c.add_sets.new.into.items
    c.add_values.new.into.items c.add_notes.new.into.items c.add_bodies.ensures.ordered c.add_bodies-2.ensures.ordered
    c.in_ok-add_bodies.ensures.named c.in_ok-add_bodies-2.ensures.named c.in_ok-add_sets.ensures
    (c.in_ok-add_values.ensures ∙ ap (λ values. with_references values c.add_sets.new.into.items) c.as_slice.ensures)
    (λ o. noted o ∙ ap (λ notes. is_listed o c.add_values.new.into.items || list_any (λ note. note_names note o) notes) c.as_slice-2.ensures) once same) c.add_notes.ensures

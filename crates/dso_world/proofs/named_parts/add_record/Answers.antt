use Rattle.std.proofs.Common.{◌≡◌, subst}
use Rattle.std.specs.List.{list_any}
use Rattle.dso_base.specs.Naming.{body_with_names, ending_names, note_names, record_names, set_names}
use Rattle.dso_change.specs.Hands.{with_references}
use Rattle.dso_txn.specs.NamedInHand.{AddsNamed}
use Rattle.dso_world.proofs.collecting.Added.{ok_then, record_added}
use Rattle.dso_world.proofs.named_parts.add_record.Goals as goal

pub returns : goal.returns
returns c =
    let txn = c.args.txn.now in
    let old = c.args.into.now.items in
    let news = c.add_bodies.new.into.items in
    let sets = c.add_sets.new.into.items in
    let outs = c.add_values.new.into.items in
    let notes = c.add_notes.new.into.items in
    ok_then c.add_ending.result (AddsNamed (ending_names txn.ending) notes c.add_ending.new.into.items) (AddsNamed (record_names txn) old c.add_ending.new.into.items)
    (record_added txn old news sets outs notes c.add_ending.new.into.items
    (subst (λ xs. AddsNamed (λ o. list_any (λ body. body_with_names body o) xs) old news) c.as_slice.ensures c.in_ok-add_bodies.ensures)
    (subst (λ xs. AddsNamed (λ o. list_any (λ set. set_names set o) xs) news sets) c.as_slice-2.ensures c.in_ok-add_sets.ensures)
    (subst (λ xs. outs ≡ with_references xs sets) c.as_slice-3.ensures c.in_ok-add_values.ensures)
    (subst (λ xs. AddsNamed (λ o. list_any (λ note. note_names note o) xs) outs notes) c.as_slice-4.ensures c.in_ok-add_notes.ensures)) c.add_ending.ensures

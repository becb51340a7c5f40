use Rattle.std.proofs.Common.{◌≡◌, sym, ◌∙◌, ap, subst, false, insert}
use Rattle.std.specs.List.{list_any}
use Rattle.dso_plain.specs.KeyTests.{is_lock}
use Rattle.dso_law.specs.Leases.{insert_lock}
use Rattle.dso_client.proofs.due.Settled.{adds_one}
use Rattle.dso_client.proofs.lease_return.add_due.Goals as goal

pub returns : goal.returns
returns c = λ at h own.
    let l = c.args.lock in
    let n = c.place-at.result in
    let old = c.args.due.now.items in
    let absent = ap (list_any (is_lock l)) (sym c.as_slice.ensures.value) ∙ (sym c.is_among.ensures ∙ c.if-is_among.false) in
    let placed = subst (λ locks. list_any (is_lock l) locks ≡ false → insert locks n l ≡ insert_lock l locks) c.as_slice-2.ensures.value c.place-at.ensures.placed absent in
    adds_one at l old c.insert.new.self.items absent (sym (c.is_lease_due.ensures at h own) ∙ c.if-not-is_lease_due.false) (c.in_ok-insert.ensures.items ∙ placed)

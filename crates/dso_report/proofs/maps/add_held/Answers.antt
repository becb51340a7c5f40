use Rattle.std.proofs.Common.{◌≡◌, Some, sym, ap, ◌∙◌, rules, w64}
use Rattle.std.proofs.lemmas.Int.{to_z-of_z}
use mir.Val.{SFits}
use Rattle.dso_base.specs.declared.value.Value.TheVariants as value
use Rattle.dso_report.specs.MapEntries.{with_entry, with_slot}
use Rattle.dso_report.proofs.maps.add_held.Goals as goal

-- the slot holds an object
pub returns-in_ok-add_entry : goal.returns-in_ok-add_entry
returns-in_ok-add_entry c =
    let fits : SFits w64 c.args.key = c.ranges.key in
    let holds : c.args.held ≡ Some (value.Ref c.in-Some-Ref.object) = search (rules, c.in-Some-Ref.is, c.in-Some-Ref.field-0-is, c.in-Some-Ref.object-is) in
    let added : c.add_entry.new.entries.items ≡ with_entry (record { key = c.args.key; object = c.in-Some-Ref.object }) c.args.entries.now.items = simp to_z-of_z at c.in_ok-add_entry.ensures in
    added ∙ ap (λ held. with_slot c.args.key held c.args.entries.now.items) (sym holds)

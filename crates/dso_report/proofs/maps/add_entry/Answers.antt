use Rattle.std.proofs.Common.{ap, ◌∙◌, ℕ}
use Rattle.std.specs.List.{position_or_len}
use Rattle.std.specs.Prelude.{insert, int_lt}
use Rattle.dso_report.specs.declared.maps.MapEntry.{MapEntry}
use Rattle.dso_report.proofs.maps.add_entry.Goals as goal

-- the entry stands in front of the first with a greater key
pub returns : goal.returns
returns c =
    let test = λ (other : MapEntry). int_lt c.args.entry.key other.key in
    c.in_ok-insert.ensures.items
    ∙ ap (λ (n : ℕ). insert c.args.entries.now.items n c.args.entry) (c.place_for-place.ensures.place ∙ ap (position_or_len test) c.as_slice.ensures.value)

use Rattle.std.proofs.Common.{sym, ◌∙◌, ap}
use Rattle.dso_lookup.specs.Rows.{in_row}
use Rattle.dso_lookup.proofs.rows.first_in.Goals as goal

pub returns-in-Some-first_key_value : goal.returns-in-Some-first_key_value
returns-in-Some-first_key_value g c = (c.in-Some-first_key_value.field-0-0.now, ap (λ row. in_row g.K.Ord.cmp row c.in-Some-first_key_value.field-0-0.now) (sym c.in-Some.ensures.value) ∙ c.in-Some-first_key_value.ensures.value)

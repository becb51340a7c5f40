use Rattle.std.proofs.Common.{ap, ◌∙◌, map}
use Rattle.dso_class.specs.Gathered.{all_fields, capped_pair}
use Rattle.dso_class.proofs.faultless.Text.{clean_text}
use Rattle.dso_class.proofs.gathering.Distinct.{few_fields, each_few_fields, fields_differ}
use Rattle.dso_class.proofs.gathering.FieldsAndMethods.{are_the_places, is_length}
use Rattle.dso_class.proofs.tables.field_ref.Goals as goal

pub returns : goal.returns
returns c source are fine =
    let clean = clean_text source.config source.ast fine in
    record {
      places = are_the_places (all_fields source.ast.items) c.args.name.now c.in_ok-new.field-0 (fields_differ source.config source.ast clean) (few_fields source.config source.ast clean)
          (each_few_fields source.config source.ast clean) (c.in_ok-new.ensures.ok ∙ c.in_ok-places.ensures ∙ ap (map capped_pair) (c.row.ensures ∙ are.fields.places c.args.name));
      size = is_length c.args.name.now c.as_slice.result.now c.eq.result c.eq.ensures c.as_slice.ensures;
    }

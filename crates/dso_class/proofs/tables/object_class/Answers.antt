use Rattle.std.proofs.Common.{sym, ap, ◌∙◌, length}
use Rattle.std.proofs.lemmas.List.{length-map}
use Rattle.dso_config_entries.specs.BorrowedWords.{words_of}
use Rattle.dso_class.proofs.faultless.Text.{clean_text}
use Rattle.dso_class.proofs.maps.Reachable.{of_maps, missing_class, map_number, number_or_none}
use Rattle.dso_class.proofs.tables.object_class.Goals as goal

pub returns-then-is_made_map-clause-there : goal.returns-then-is_made_map-clause-there
returns-then-is_made_map-clause-there c source are =
    let made = c.is_made_map.ensures.0 c.if-is_made_map.true in
    (λ none. absurd (cc none), λ missing. absurd (missing (of_maps source.ast c.args.name.now (sym are.makes ∙ made.0) made.1)))

pub returns-then-is_made_map-clause-number : goal.returns-then-is_made_map-clause-number
returns-then-is_made_map-clause-number c source are fine =
    let made = c.is_made_map.ensures.0 c.if-is_made_map.true in
    map_number source.config source.ast (clean_text source.config source.ast fine) c.args.name.now (words_of c.args.tables.now.classes) (length c.as_slice.result.now) c.narrow.result (sym are.makes ∙ made.0) made.1 are.classes
    (ap length c.as_slice.ensures ∙ sym (length-map c.args.tables.now.classes (λ word. word.now))) c.narrow.ensures

pub returns-clause-there : goal.returns-clause-there
returns-clause-there c source are =
    missing_class source.ast c.args.name.now (λ made. cc (sym (c.is_made_map.ensures.1 (are.makes ∙ made.0, made.1)) ∙ c.if-is_made_map.false)) (c.class_number.ensures.there source are)

pub returns-clause-number : goal.returns-clause-number
returns-clause-number c source are fine = number_or_none source.ast c.args.name.now c.class_number.result (c.class_number.ensures.number source are fine)

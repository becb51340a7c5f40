use Rattle.dso_class.specs.Maps.{map_word}
use Rattle.dso_class.proofs.rules.RefusedClasses.{all_of, is_word}
use Rattle.dso_class.proofs.tables.is_made_map.Goals as goal

pub returns : goal.returns
returns c =
    all_of c.args.tables.now.makes_map c.eq.result (λ is. is, λ is. is)
    (is_word c.args.name.now c.map_name.result.now map_word c.eq.result c.eq.ensures c.map_name.ensures)

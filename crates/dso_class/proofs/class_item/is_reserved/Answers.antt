use Rattle.dso_config_entries.specs.Words.{thread_word}
use Rattle.dso_class.specs.Maps.{map_word}
use Rattle.dso_class.proofs.rules.RefusedClasses.{either, is_word}
use Rattle.dso_class.proofs.class_item.is_reserved.Goals as goal

pub returns : goal.returns
returns c =
    either c.eq.result c.eq-2.result (is_word c.args.name.now c.as_slice.result.now thread_word c.eq.result c.eq.ensures c.as_slice.ensures)
    (is_word c.args.name.now c.map_name.result.now map_word c.eq-2.result c.eq-2.ensures c.map_name.ensures)

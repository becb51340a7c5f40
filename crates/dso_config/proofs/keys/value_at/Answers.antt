use Rattle.toml.proofs.Views.{table_get}
use Rattle.dso_config.proofs.keys.value_at.Goals as goal

-- what the map of a table finds
pub returns : goal.returns
returns c = table_get c.get.result c.args.key.now c.args.table.now.entries c.get.ensures.value

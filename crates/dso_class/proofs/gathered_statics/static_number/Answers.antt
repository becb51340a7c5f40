use Rattle.dso_class.specs.Gathered.{static_named}
use Rattle.dso_config_entries.proofs.lists.Keyed.{found_where, none_where}
use Rattle.dso_class.proofs.gathering.Statics.{by_static, same_static, tied_static}
use Rattle.dso_class.proofs.gathered_statics.static_number.Goals as goal

pub returns-clause-found : goal.returns-clause-found
returns-clause-found c = found_where by_static static_named same_static tied_static c.number.result c.args.statics.now (c.args.class, c.args.field) c.number.ensures

pub returns-clause-none : goal.returns-clause-none
returns-clause-none c = none_where by_static static_named same_static tied_static c.number.result c.args.statics.now (c.args.class, c.args.field) c.number.ensures

use Rattle.dso_class.specs.Gathered.{static_named}
use Rattle.dso_config_entries.proofs.lists.Keyed.{firsts}
use Rattle.dso_class.proofs.gathering.Statics.{by_static, same_static, tied_static}
use Rattle.dso_class.proofs.gathered_statics.add_static.Goals as goal

pub returns : goal.returns
returns c all before =
    firsts by_static static_named same_static tied_static all c.args.statics.now c.add.new.self (c.args.class, c.args.field) c.in_ok-add.field-0 before c.in_ok-add.ensures.fresh c.in_ok-add.ensures.added

use Rattle.std.proofs.Common.{rules, ◌≡◌, ◌∙◌, ap}
use Rattle.std.specs.BTreeMap.{keys}
use Rattle.dso_lookup.specs.Search.{is_listed}
use Rattle.dso_store.proofs.Collected.{key_there}
use Rattle.dso_store.proofs.collecting.objects_in.Goals as goal

pub returns-clause-there : goal.returns-clause-there
returns-clause-there c o =
    let all : c.loop-object.objects.items ≡ keys c.args.bodies.now = search rules in
    ap (is_listed o) all ∙ key_there o c.args.bodies.now.entries

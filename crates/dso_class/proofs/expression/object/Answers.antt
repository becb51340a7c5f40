use Rattle.std.proofs.Common.{refl}
use Rattle.dso_class.specs.Numbers.{object}
use Rattle.dso_class.proofs.walks.BodyParts.{one_made}
use Rattle.dso_class.proofs.expression.object.Goals as goal

pub returns : goal.returns
returns c texts scope source before is has = one_made _ refl refl (λ n number. object number) (c.in_ok-new_object.ensures texts scope source before is has)

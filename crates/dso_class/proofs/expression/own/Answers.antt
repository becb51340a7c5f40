use Rattle.std.proofs.Common.{refl}
use Rattle.dso_class.specs.Numbers.{this}
use Rattle.dso_class.proofs.walks.BodyParts.{one_made}
use Rattle.dso_class.proofs.expression.own.Goals as goal

pub returns : goal.returns
returns c texts scope source before is has = one_made _ refl refl (λ n given. this) (c.in_ok-this.ensures texts scope source before is has)

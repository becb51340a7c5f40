use Rattle.std.proofs.Common.{refl}
use Rattle.dso_class.specs.Numbers.{text}
use Rattle.dso_class.proofs.walks.BodyParts.{one_made}
use Rattle.dso_class.proofs.expression.literal.Goals as goal

pub returns : goal.returns
returns c place scope source before is has = one_made _ refl refl (λ n number. text number) (c.in_ok-text.ensures place scope source before is has)

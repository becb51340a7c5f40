use Rattle.std.proofs.Common.{refl, ap}
use Rattle.dso_class.specs.Numbers.{variable}
use Rattle.dso_class.specs.BodyWalk.{bare_used, known_in}
use Rattle.dso_class.proofs.walks.BodyParts.{one_made}
use Rattle.dso_class.proofs.expression.name.Goals as goal

pub returns-in_ok-alone-in-Value : goal.returns-in_ok-alone-in-Value
returns-in_ok-alone-in-Value c texts source before is has =
    one_made _ (ap (λ role. bare_used role c.args.line c.args.name.now (known_in c.args.scope.now)) c.in-Value.is) refl (λ n number. variable number) (c.in_ok-alone-in-Value.ensures _ texts source before is has)

pub returns-in_ok-called-in-Object : goal.returns-in_ok-called-in-Object
returns-in_ok-called-in-Object c texts source before is has =
    one_made _ (ap (λ role. bare_used role c.args.line c.args.name.now (known_in c.args.scope.now)) c.in-Object.is) refl (λ n number. variable number) (c.in_ok-called-in-Object.ensures texts source before is has)

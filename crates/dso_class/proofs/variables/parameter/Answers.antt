use Rattle.std.proofs.Common.{arith, sym, ◌∙◌}
use Rattle.dso_class.specs.declared.fault.NameKind.TheVariants as kind
use Rattle.dso_class.specs.declared.fault.What.TheVariants as what
use Rattle.dso_class.specs.Mentions as mention
use Rattle.dso_class.specs.Numbers.{IsNumber}
use Rattle.dso_class.specs.BodyWalk.{owner_in}
use Rattle.dso_class.proofs.walks.Declaring.{parameter_taken, parameter_many, parameter_free}
use Rattle.dso_class.proofs.walks.BodyParts.{failed_alone}
use Rattle.dso_class.proofs.variables.parameter.Goals as goal

pub returns-then-is_taken-clause-walked : goal.returns-then-is_taken-clause-walked
returns-then-is_taken-clause-walked c texts source before is has count =
    failed_alone c.args.name.now.line (mention.parameter c.args.name.now.name) kind.Twice (λ n number. IsNumber n.variables c.args.name.now.name number)
    (parameter_taken ((c.is_taken.ensures texts source before is has).0 c.if-is_taken.true))

pub returns-then-count-ge-MOST_PARAMETERS-clause-walked : goal.returns-then-count-ge-MOST_PARAMETERS-clause-walked
returns-then-count-ge-MOST_PARAMETERS-clause-walked c texts source before is has count =
    failed_alone c.args.name.now.line (mention.parameter c.args.name.now.name) (kind.TooMany what.Parameters) (λ n number. IsNumber n.variables c.args.name.now.name number)
    (parameter_many (λ taken. cc (sym c.if-is_taken.false ∙ (c.is_taken.ensures texts source before is has).1 taken)) (omega (arith, count, c.if-count-ge-MOST_PARAMETERS.true)))

pub returns-clause-walked : goal.returns-clause-walked
returns-clause-walked c texts source before is has count =
    c.put.ensures.walked texts source (owner_in c.args.place.now) before (mention.parameter c.args.name.now.name) has
    (parameter_free (λ taken. cc (sym c.if-is_taken.false ∙ (c.is_taken.ensures texts source before is has).1 taken)) (omega (arith, count, c.if-count-ge-MOST_PARAMETERS.false)))

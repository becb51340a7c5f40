use Rattle.std.proofs.Common.{sym, ◌∙◌}
use Rattle.dso_class.specs.declared.fault.NameKind.TheVariants as kind
use Rattle.dso_class.specs.Mentions as mention
use Rattle.dso_class.specs.Numbers.{IsNumber}
use Rattle.dso_class.specs.BodyWalk.{owner_in}
use Rattle.dso_class.proofs.walks.Declaring.{variable_taken, variable_free}
use Rattle.dso_class.proofs.walks.BodyParts.{failed_alone}
use Rattle.dso_class.proofs.variables.variable.Goals as goal

pub returns-then-is_taken-clause-walked : goal.returns-then-is_taken-clause-walked
returns-then-is_taken-clause-walked c texts source before is has =
    failed_alone c.args.name.now.line (mention.variable c.args.name.now.name) kind.Twice (λ n number. IsNumber n.variables c.args.name.now.name number)
    (variable_taken ((c.is_taken.ensures texts source before is has).0 c.if-is_taken.true))

pub returns-clause-walked : goal.returns-clause-walked
returns-clause-walked c texts source before is has =
    c.put.ensures.walked texts source (owner_in c.args.place.now) before (mention.variable c.args.name.now.name) has
    (variable_free (λ taken. cc (sym c.if-is_taken.false ∙ (c.is_taken.ensures texts source before is has).1 taken)))

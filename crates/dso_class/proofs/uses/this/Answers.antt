use Rattle.std.proofs.Common.{◌∷◌, [], if◌then◌else◌, Err, refl, ap}
use Rattle.dso_class.specs.declared.fault.NameKind.TheVariants as kind
use Rattle.dso_class.specs.declared.fault.NameFault.TheVariants as fault
use Rattle.dso_class.specs.Mentions.{on, this}
use Rattle.dso_class.specs.BodyWalk.{IsWalked, met_in, owner_in}
use Rattle.dso_class.proofs.rules.InBodies.{this_fault}
use Rattle.dso_class.proofs.walks.BodyParts.{failed_alone, only_fails}
use Rattle.dso_class.proofs.uses.this.Goals as goal

pub returns-then-place : goal.returns-then-place
returns-then-place c texts scope source before is has =
    let told = fault.At kind.UnknownVariable c.args.line in
    let broken : IsWalked {A = Unit {0}} source (owner_in c.args.place.now) before (on c.args.line this ∷ []) (met_in texts scope) (met_in texts scope) (λ n given. Unit {0}) (Err told) =
    failed_alone c.args.line this kind.UnknownVariable (λ n given. Unit {0}) this_fault in
    only_fails told (ap (λ within. if within then on c.args.line this ∷ [] else []) c.if-place.true) refl broken

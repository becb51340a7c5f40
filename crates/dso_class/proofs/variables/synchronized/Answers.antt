use Rattle.std.proofs.Common.{◌≡◌, Some, None, refl, sym, subst}
use Rattle.dso_class.specs.declared.fault.NameKind.TheVariants as kind
use Rattle.dso_class.specs.Mentions as mention
use Rattle.dso_class.specs.TextProgram.{IsAutolock}
use Rattle.dso_class.proofs.locking.LastEntry.{autolock_unique, synchronized_fine, synchronized_fault}
use Rattle.dso_class.proofs.walks.BodyParts.{failed_alone, right_alone}
use Rattle.dso_class.proofs.variables.synchronized.Goals as goal

pub returns-in-Some : goal.returns-in-Some
returns-in-Some c texts scope source before is has =
    let class = c.args.place.now.class.now in
    let method = c.args.place.now.method.now in
    let given : IsAutolock source.config class method (Some c.in-Some.grade) = subst (λ config. IsAutolock config class method (Some c.in-Some.grade)) (sym is.config) c.in-Some.ensures in
    record {
      answer = right_alone c.args.line (mention.synchronized class method) (λ n. n.grade ≡ Some c.in-Some.grade) refl refl refl has (synchronized_fine given)
          (λ words grade goes. autolock_unique source.config class method goes.autolock given);
    }

pub returns-in-None : goal.returns-in-None
returns-in-None c texts scope source before is has =
    let class = c.args.place.now.class.now in
    let method = c.args.place.now.method.now in
    failed_alone c.args.line (mention.synchronized class method) kind.NoAutolock (λ n grade. n.grade ≡ Some grade)
    (synchronized_fault (subst (λ config. IsAutolock config class method None) (sym is.config) c.in-None.ensures))

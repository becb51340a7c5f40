use Rattle.std.proofs.Common.{rules, ap, [], ◌∷◌}
use Rattle.dso_class.specs.Declarations.{statics_of}
use Rattle.dso_class.proofs.gathering.NamesSoFar.{static_pushed, static_stays}
use Rattle.dso_class.proofs.names.push_statics.Goals as goal
use Rattle.dso_class.proofs.names.push_statics.Goals.{in-Static+in_ok-clone-in-Static+in_ok-clone-in-Static-2+in_ok-push-in-Static, in-Field, in-Method}

pub loop-member-preserved : goal.loop-member-preserved
loop-member-preserved c =
    let members = c.args.members.now in
    let class = c.args.class.now in
    let initial = c.args.roots.now in
    let i = c.loop-member.member-index in
    let member = c.member-item.result in
    let old = c.loop-member.roots in
    let new = c.match-member.roots in
    elim c.match-member.branch [
      | in-Static+in_ok-clone-in-Static+in_ok-clone-in-Static-2+in_ok-push-in-Static w ↦
          static_pushed class members i member initial old new (record { class = class; field = w.in-Static.name.name } ∷ []) c.loop-member-test.true c.member-item.is (ap (λ x. statics_of class (x ∷ [])) w.in-Static.is) c.loop-member.invariant (search rules)
      | in-Field w ↦ static_stays class members i member initial old new c.loop-member-test.true c.member-item.is (ap (λ x. statics_of class (x ∷ [])) w.in-Field.is) c.loop-member.invariant w.roots-is
      | in-Method w ↦ static_stays class members i member initial old new c.loop-member-test.true c.member-item.is (ap (λ x. statics_of class (x ∷ [])) w.in-Method.is) c.loop-member.invariant w.roots-is
    ]

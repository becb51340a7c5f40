use Rattle.std.proofs.Common.{subst, sym, ap, ◌+◌, ◌++◌, [], ◌∷◌, append-nil, take}
use Rattle.std.proofs.lemmas.List.{take_all}
use Rattle.dso_class.specs.Declarations.{statics_of}
use Rattle.dso_class.specs.Gathered.{statics_named}
use Rattle.dso_config_entries.specs.LastAndFirst.{AreFirsts}
use Rattle.dso_class.proofs.gathering.Items.{one_static, no_static}
use Rattle.dso_class.proofs.gathered_statics.add_statics.Goals as goal
use Rattle.dso_class.proofs.gathered_statics.add_statics.Goals.{in-Static+in_ok-add_static-in-Static, in-Field, in-Method}

pub loop-member-init : goal.loop-member-init
loop-member-init c before firsts = subst (λ all. AreFirsts all (statics_named c.args.statics.now)) (sym (append-nil before)) firsts

pub loop-member-preserved : goal.loop-member-preserved
loop-member-preserved c before firsts =
    let class = c.args.class.now in
    let members = c.args.members.now in
    let i = c.loop-member.member-index in
    let member = c.member-item.result in
    let so_far = c.loop-member.invariant before firsts in
    elim c.match-member.branch [
      | in-Static+in_ok-add_static-in-Static w ↦
          subst (λ statics. AreFirsts (before ++ statics_of class (take (i + 1) members)) (statics_named statics)) (sym w.statics-is)
          (one_static before class members i member c.loop-member-test.true c.member-item.is (statics_named w.add_static.new.statics) w.in-Static.line w.in-Static.name w.as_slice.result.now w.in-Static.is w.as_slice.ensures
          (w.in_ok-add_static-in-Static.ensures (before ++ statics_of class (take i members)) so_far))
      | in-Field w ↦
          subst (λ statics. AreFirsts (before ++ statics_of class (take (i + 1) members)) (statics_named statics)) (sym w.statics-is)
          (no_static before class members i member c.loop-member-test.true c.member-item.is (statics_named c.loop-member.statics) (ap (λ y. statics_of class (y ∷ [])) w.in-Field.is) so_far)
      | in-Method w ↦
          subst (λ statics. AreFirsts (before ++ statics_of class (take (i + 1) members)) (statics_named statics)) (sym w.statics-is)
          (no_static before class members i member c.loop-member-test.true c.member-item.is (statics_named c.loop-member.statics) (ap (λ y. statics_of class (y ∷ [])) w.in-Method.is) so_far)
    ]

pub returns : goal.returns
returns c before firsts =
    subst (λ all. AreFirsts (before ++ statics_of c.args.class.now all) (statics_named c.loop-member.statics)) (take_all c.loop-member.member-index c.args.members.now c.loop-member-test.false)
    (c.loop-member.invariant before firsts)

use Rattle.std.proofs.Common.{rules, ap, [], ◌∷◌}
use Rattle.dso_class.specs.Gathered.{named_fields}
use Rattle.dso_class.proofs.gathering.Items.{field_names_append}
use Rattle.dso_class.proofs.gathering.NamesSoFar.{pushed, stays}
use Rattle.dso_class.proofs.names.fields_of_class.Goals as goal
use Rattle.dso_class.proofs.names.fields_of_class.Goals.{in-Field+in_ok-clone-in-Field+in_ok-push-in-Field, in-Static, in-Method}

pub loop-member-preserved : goal.loop-member-preserved
loop-member-preserved c =
    let members = c.args.members.now in
    let i = c.loop-member.member-index in
    let member = c.member-item.result in
    let old = c.loop-member.words in
    let new = c.match-member.words in
    elim c.match-member.branch [
      | in-Field+in_ok-clone-in-Field+in_ok-push-in-Field w ↦
          pushed named_fields field_names_append members i member old new (w.in-Field.name.name ∷ []) c.loop-member-test.true c.member-item.is (ap (λ x. named_fields (x ∷ [])) w.in-Field.is) c.loop-member.invariant (search rules)
      | in-Static w ↦ stays named_fields field_names_append members i member old new c.loop-member-test.true c.member-item.is (ap (λ x. named_fields (x ∷ [])) w.in-Static.is) c.loop-member.invariant w.words-is
      | in-Method w ↦ stays named_fields field_names_append members i member old new c.loop-member-test.true c.member-item.is (ap (λ x. named_fields (x ∷ [])) w.in-Method.is) c.loop-member.invariant w.words-is
    ]

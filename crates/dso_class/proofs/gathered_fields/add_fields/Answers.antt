use Rattle.std.proofs.Common.{arith, subst, sym, ap, ◌∙◌, ◌+◌, [], ◌∷◌, take}
use Rattle.std.proofs.lemmas.List.{take_all}
use Rattle.dso_class.specs.Gathered.{named_fields}
use Rattle.dso_class.proofs.gathering.Items.{one_field, no_field, count_field, count_no_field}
use Rattle.dso_class.proofs.gathering.Multimap.{AreWithFields, with_all_fields}
use Rattle.dso_class.proofs.gathered_fields.add_fields.Goals as goal
use Rattle.dso_class.proofs.gathered_fields.add_fields.Goals.{in-Field+in_ok-push-in-Field, in-Static, in-Method}

pub loop-member-preserved : goal.loop-member-preserved
loop-member-preserved c =
    let class = c.args.class in
    let members = c.args.members.now in
    let i = c.loop-member.member-index in
    let member = c.member-item.result in
    let below = c.loop-member-test.true in
    let is = c.member-item.is in
    let counts = c.loop-member.invariant.0 in
    let bound = c.loop-member.invariant.1 in
    elim c.match-member.branch [
      | in-Field+in_ok-push-in-Field w ↦
          let more = count_field members i member below is w.in-Field.line w.in-Field.kind w.in-Field.name w.in-Field.is in (
            w.number-is ∙ ap (λ n. n + 1) counts ∙ sym more,
            omega (arith, w.number-is),
            λ before rows. subst (AreWithFields before class (named_fields (take (i + 1) members))) (sym w.rows-is)
                (one_field before class members i member below is w.in-Field.line w.in-Field.kind w.in-Field.name w.as_slice.result c.loop-member.number c.loop-member.rows w.push.new.rows w.in-Field.is w.as_slice.ensures counts
                (c.loop-member.invariant.2 before rows) w.in_ok-push-in-Field.ensures),
          )
      | in-Static w ↦
          let none = ap (λ y. named_fields (y ∷ [])) w.in-Static.is in (
            w.number-is ∙ counts ∙ sym (count_no_field members i member below is none),
            omega (arith, w.number-is),
            λ before rows. subst (AreWithFields before class (named_fields (take (i + 1) members))) (sym w.rows-is)
                (no_field before class members i member below is c.loop-member.rows none (c.loop-member.invariant.2 before rows)),
          )
      | in-Method w ↦
          let none = ap (λ y. named_fields (y ∷ [])) w.in-Method.is in (
            w.number-is ∙ counts ∙ sym (count_no_field members i member below is none),
            omega (arith, w.number-is),
            λ before rows. subst (AreWithFields before class (named_fields (take (i + 1) members))) (sym w.rows-is)
                (no_field before class members i member below is c.loop-member.rows none (c.loop-member.invariant.2 before rows)),
          )
    ]

pub returns : goal.returns
returns c before counts rows =
    with_all_fields before c.args.class (named_fields c.args.members.now) c.loop-member.rows counts
    (subst (λ all. AreWithFields before c.args.class (named_fields all) c.loop-member.rows) (take_all c.loop-member.member-index c.args.members.now c.loop-member-test.false)
    (c.loop-member.invariant.2 before rows))

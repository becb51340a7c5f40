use Rattle.std.proofs.Common.{subst, sym, ap, ◌∙◌, ◌+◌, ◌++◌, [], ◌∷◌, take}
use Rattle.dso_class.specs.Declarations.{methods_of}
use Rattle.dso_class.specs.Gathered.{AreMethodRows}
use Rattle.dso_class.proofs.gathering.Items.{one_method, no_method, number_method, number_no_method}
use Rattle.dso_class.proofs.gathered_methods.add_methods.Goals as goal
use Rattle.dso_class.proofs.gathered_methods.add_methods.Goals.{in-Method+in_ok-push-in-Method, in-Field, in-Static}

pub loop-member-preserved : goal.loop-member-preserved
loop-member-preserved c =
    let members = c.args.members.now in
    let i = c.loop-member.member-index in
    let member = c.member-item.result in
    let below = c.loop-member-test.true in
    let is = c.member-item.is in
    let so_far = c.loop-member.invariant.0 in
    let rows = c.loop-member.invariant.1 in
    elim c.match-member.branch [
      | in-Method+in_ok-push-in-Method w ↦ (
        λ number name before first. w.number-is
            ∙ number_method number name members i member below is before w.in-Method.line w.in-Method.synced w.in-Method.name w.in-Method.params w.in-Method.body c.loop-member.number w.next-number.result w.in-Method.is
            (so_far number name before first) w.next-number.ensures,
        λ number name before class first were. subst (AreMethodRows (before ++ methods_of number name (take (i + 1) members))) (sym w.rows-is)
            (one_method number name members i member below is before w.in-Method.line w.in-Method.synced w.in-Method.name w.in-Method.params w.in-Method.body w.as_slice.result c.args.class c.loop-member.number w.len.result
            c.loop-member.rows w.push.new.rows w.in-Method.is w.as_slice.ensures class (so_far number name before first) w.len.ensures (rows number name before class first were) w.in_ok-push-in-Method.ensures),
      )
      | in-Field w ↦ (
        λ number name before first. w.number-is
            ∙ number_no_method number name members i member below is before c.loop-member.number (ap (λ y. methods_of number name (y ∷ [])) w.in-Field.is) (so_far number name before first),
        λ number name before class first were. subst (AreMethodRows (before ++ methods_of number name (take (i + 1) members))) (sym w.rows-is)
            (no_method number name members i member below is before c.loop-member.rows (ap (λ y. methods_of number name (y ∷ [])) w.in-Field.is) (rows number name before class first were)),
      )
      | in-Static w ↦ (
        λ number name before first. w.number-is
            ∙ number_no_method number name members i member below is before c.loop-member.number (ap (λ y. methods_of number name (y ∷ [])) w.in-Static.is) (so_far number name before first),
        λ number name before class first were. subst (AreMethodRows (before ++ methods_of number name (take (i + 1) members))) (sym w.rows-is)
            (no_method number name members i member below is before c.loop-member.rows (ap (λ y. methods_of number name (y ∷ [])) w.in-Static.is) (rows number name before class first were)),
      )
    ]

use Rattle.std.proofs.Common.{sym, ◌∙◌}
use Rattle.std.specs.Ordering.{nat_cmp}
use Rattle.dso_lookup.specs.Maps.{look}
use Rattle.dso_change.proofs.Gathered.{one_moved, none_moved}
use Rattle.dso_change.proofs.publish.move_all.Goals as goal

pub loop-object-preserved : goal.loop-object-preserved
loop-object-preserved c =
    let moved = one_moved c.loop-object.left c.pop_first.new.self c.in-Some.object (look nat_cmp c.loop-object.privates) (look nat_cmp c.loop-object.news) (look nat_cmp c.move_one.new.privates) (look nat_cmp c.move_one.new.news) c.in-Some.ensures.member c.in-Some.ensures.updates c.in_ok-move_one.ensures.privates c.in_ok-move_one.ensures.news in
    record { privates = moved.0 ∙ c.loop-object.invariant.privates; news = moved.1 ∙ c.loop-object.invariant.news }

pub returns-clause-privates : goal.returns-clause-privates
returns-clause-privates c = sym (none_moved c.loop-object.left (look nat_cmp c.loop-object.privates) (look nat_cmp c.loop-object.news) (λ h. absurd (cc (c.in_default.ensures.variant.1 h)))).0 ∙ c.loop-object.invariant.privates

pub returns-clause-news : goal.returns-clause-news
returns-clause-news c = sym (none_moved c.loop-object.left (look nat_cmp c.loop-object.privates) (look nat_cmp c.loop-object.news) (λ h. absurd (cc (c.in_default.ensures.variant.1 h)))).1 ∙ c.loop-object.invariant.news

use Rattle.std.proofs.Common.{◌≡◌}
use Rattle.std.specs.Ordering.{nat_cmp}
use Rattle.std.specs.BTreeSet.{contains, btree_set_len}
use Rattle.dso_change.specs.Hands.{kept, joined}
use Rattle.dso_lookup.specs.Maps.{look}
use Rattle.dso_change.proofs.publish.move_all.Given as goal

abbrev pub invariant-loop-object : goal.invariant-loop-object
invariant-loop-object l = record {
  privates : kept (contains nat_cmp l.left) (look nat_cmp l.privates) ≡ kept (contains nat_cmp l.initial.left) (look nat_cmp l.initial.privates);
  news : joined (contains nat_cmp l.left) (look nat_cmp l.privates) (look nat_cmp l.news) ≡ joined (contains nat_cmp l.initial.left) (look nat_cmp l.initial.privates) (look nat_cmp l.initial.news);
}

abbrev pub decreases-loop-object : goal.decreases-loop-object
decreases-loop-object l = btree_set_len l.left

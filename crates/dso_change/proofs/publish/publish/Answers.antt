use Rattle.std.specs.Ordering.{nat_cmp}
use Rattle.dso_lookup.specs.Maps.{look}
use Rattle.dso_change.proofs.Gathered.{on_both}
use Rattle.dso_change.proofs.HandChanges.{same_privates, published_moved}
use Rattle.dso_change.proofs.Published.{found_is_published}
use Rattle.dso_change.proofs.publish.publish.Goals as goal

pub returns : goal.returns
returns c = on_both c.move_all.result (λ keeps joins work once same. published_moved c.args.privates.now c.args.draft.now work same c.move_all.new.privates c.move_all.new.news c.args.value c.in_ok-found.found once (found_is_published (look nat_cmp c.args.privates.now) work.privates c.args.value c.in_ok-found.found (same_privates c.args.privates.now c.args.draft.now work same) c.in_ok-found.ensures) keeps joins) c.move_all.ensures.privates c.move_all.ensures.news

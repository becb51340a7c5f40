use Rattle.dso_config_entries.proofs.lists.BorrowedWords.{grown, none_yet, all_now}
use Rattle.dso_config_entries.proofs.locks.add_named.Goals as goal

pub loop-entry-init : goal.loop-entry-init
loop-entry-init c before firsts = none_yet before (λ entry. entry.name) c.args.entries.now firsts

pub loop-entry-preserved : goal.loop-entry-preserved
loop-entry-preserved c before firsts =
    grown before (λ entry. entry.name) c.args.entries.now c.loop-entry.entry-index c.entry-item.result c.as_slice.result.now c.loop-entry-test.true c.entry-item.is c.as_slice.ensures
    (c.in_ok-add.ensures.firsts _ (c.loop-entry.invariant before firsts))

pub returns : goal.returns
returns c before firsts = all_now before (λ entry. entry.name) c.args.entries.now c.loop-entry.entry-index c.loop-entry-test.false (c.loop-entry.invariant before firsts)

use Rattle.std.proofs.Common.{◌≡◌, ◌+◌, ◌∙◌, ap, drop}
use Rattle.dso_base.specs.declared.record.Choice.TheVariants.{There}
use Rattle.dso_legal.specs.JournalPassTables.{waiters_in, lists_left}
use Rattle.dso_legal.proofs.blocks.WokenByBlocks.{more_gone, one_gone}
use Rattle.dso_legal.proofs.resolving.wake_first.Goals as goal

pub returns-in_ok-put-in-Some-clause-left : goal.returns-in_ok-put-in-Some-clause-left
returns-in_ok-put-in-Some-clause-left c =
    let lists = waiters_in c.args.lists.now.waiters in
    let at = c.gone_of-at.result in
    let left : drop (at + 1) (lists c.args.lock) ≡ drop 1 (lists_left lists c.args.gone.now c.args.lock) = one_gone (lists c.args.lock) at ∙ ap (λ n. drop 1 (drop n (lists c.args.lock))) c.gone_of-at.ensures in
    more_gone lists c.args.lock There (at + 1) c.args.gone.now c.put.new.map c.in_ok-put-in-Some.ensures left

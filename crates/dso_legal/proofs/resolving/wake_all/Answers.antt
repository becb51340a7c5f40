use Rattle.std.proofs.Common.{◌≡◌, ◌∙◌, ap, [], drop, length}
use Rattle.std.proofs.Math.Seq.{drop-length}
use Rattle.dso_base.specs.declared.record.Choice.TheVariants.{All}
use Rattle.dso_legal.specs.JournalPassTables.{waiters_in}
use Rattle.dso_legal.proofs.blocks.WokenByBlocks.{more_gone}
use Rattle.dso_legal.proofs.resolving.wake_all.Goals as goal

pub returns : goal.returns
returns c =
    let lists = waiters_in c.args.lists.now.waiters in
    let all : drop (length c.waiters.result.now) (lists c.args.lock) ≡ [] = ap (λ list. drop (length list) (lists c.args.lock)) c.waiters.ensures ∙ drop-length (lists c.args.lock) in
    more_gone lists c.args.lock All (length c.waiters.result.now) c.args.gone.now c.put.new.map c.in_ok-put.ensures all

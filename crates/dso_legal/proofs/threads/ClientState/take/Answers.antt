use Rattle.std.proofs.Common.{rules, ◌≡◌}
use Rattle.std.specs.Option.{option_to_list}
use Rattle.dso_base.specs.declared.request.Event.TheVariants.{Act}
use Rattle.dso_legal.proofs.journal_pass.Tables.{client_taken}
use Rattle.dso_legal.proofs.threads.ClientState.take.Goals as goal

pub returns-in_ok-add_block-in-Act : goal.returns-in_ok-add_block-in-Act
returns-in_ok-add_block-in-Act c =
    let act = c.in-Act in
    let is : Act act.thread act.request act.reply act.woken ≡ c.args.event.now = search rules in
    client_taken act.thread act.request act.reply act.woken c.args.event.now c.args.self.now c.act_in.new.threads c.add_block.new.blocks (option_to_list c.in_ok-ended-in-Act.ended) is c.in_ok-ended-in-Act.ensures.threads c.in_ok-ended-in-Act.ensures.ended c.in_ok-add_block-in-Act.ensures

use Rattle.std.proofs.Common.{ap, ◌∙◌}
use Rattle.dso_txn.specs.InHand.{sets_in, in_body, put_value}
use Rattle.dso_txn.proofs.LastSet.{value_put}
use Rattle.dso_txn.proofs.open_block.OpenBlock.value.Goals as goal

pub returns-in-None : goal.returns-in-None
returns-in-None c = c.copied-in-None.ensures ∙ (c.get-in-None.ensures.value ∙ (value_put c.args.object c.args.field c.args.self.now.draft.sets.entries ∙ ap (λ body. in_body c.args.field body (put_value c.args.object c.args.field (sets_in c.args.self.now))) c.in-None.ensures.value))

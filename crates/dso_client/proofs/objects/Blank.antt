-- Nothing in hand.
use Rattle.std.proofs.Common.{◌≡◌, ap, None, [], map}
use Rattle.std.proofs.Math.Path.{fun_ext}
use Rattle.std.specs.BTreeMap.{is_at}
use Rattle.std.specs.Map.{lookup}
use Rattle.std.specs.Ordering.{nat_cmp}
use Rattle.dso_base.specs.Block.{start}
use Rattle.dso_change.specs.Hands.{IsBlank, hand_of, set_of_entry}
use Rattle.dso_txn.specs.InHand.{bodies_in, news_in, hand_in}
use Rattle.dso_txn.specs.declared.open_block.OpenBlock.{OpenBlock}
use Rattle.dso_txn.specs.declared.privates.Privates.{Privates}

-- a blank block published nothing
no_news : (block : OpenBlock) → IsBlank block.draft → news_in block ≡ (λ _. None)
no_news block blank = fun_ext (λ o. ap (λ es. lookup (is_at (nat_cmp o)) es) blank.news)

pub blank_hand : (privates : Privates) (block : OpenBlock) → bodies_in privates ≡ (λ _. None) → IsBlank block.draft → hand_in privates block ≡ hand_of (start [])
blank_hand privates block none blank = λ i. record {
  privates = none i;
  news = no_news block blank i;
  sets = ap (λ es. map set_of_entry es) blank.sets i;
  outs = blank.outs i;
  notes = blank.notes i;
}

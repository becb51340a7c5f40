-- The work in hand as a client keeps it, changed by an act.
use Rattle.std.proofs.Common.{◌≡◌, ap}
use Rattle.dso_base.specs.Block.{Work, start}
use Rattle.dso_change.specs.Hands.{Hand, IsBlank, hand_of}
use Rattle.dso_change.proofs.HandChanges.{hand_begun}
use Rattle.dso_txn.specs.declared.open_block.OpenBlock.{OpenBlock}
use Rattle.dso_txn.specs.declared.privates.Privates.{Privates}
use Rattle.dso_txn.specs.InHand.{hand_in}

-- a blank block leaves the private objects alone
pub hand_left : (privates : Privates) (old new : OpenBlock) (work : Work) → hand_in privates old ≡ hand_of work → IsBlank new.draft → hand_in privates new ≡ hand_of (start work.privates)
hand_left privates old new work same blank = hand_begun privates.bodies new.draft work.privates (ap (λ (hand : Hand). hand.privates) same) blank

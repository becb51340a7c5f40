-- A thread's own objects, as its context keeps them.
use Rattle.std.proofs.Common.{◌≡◌, ℕ, ap}
use Rattle.dso_base.specs.Block.{Work, body_in}
use Rattle.dso_change.specs.Hands.{Hand, hand_of}
use Rattle.dso_law.specs.Threads.{or_else}
use Rattle.dso_txn.specs.InHand.{bodies_in, news_in, hand_in}
use Rattle.dso_txn.specs.declared.open_block.OpenBlock.{OpenBlock}
use Rattle.dso_txn.specs.declared.privates.Privates.{Privates}

-- private objects are those of the work
pub private_tells : (privates : Privates) (block : OpenBlock) (work : Work) (o : ℕ) → hand_in privates block ≡ hand_of work
    → bodies_in privates o ≡ body_in o work.privates
private_tells privates block work o e = ap (λ (hand : Hand). hand.privates o) e

-- and both
pub own_tells : (privates : Privates) (block : OpenBlock) (work : Work) (o : ℕ) → hand_in privates block ≡ hand_of work
    → or_else (bodies_in privates o) (news_in block o) ≡ or_else (body_in o work.privates) (body_in o work.news)
own_tells privates block work o e = ap (λ (hand : Hand). or_else (hand.privates o) (hand.news o)) e

-- A history in blocks: between two events of a thread that don't end its block no other thread acts.
use Rattle.std.proofs.Common.{◌≡◌, ◌⊎◌, Bool, true, false, Option, Some, None, List, [], ◌∷◌}
use Rattle.dso_base.specs.declared.lock.ThreadId.{ThreadId}
use Rattle.dso_base.specs.declared.request.Event.{Event}
use Rattle.dso_base.specs.declared.request.Event.TheVariants.{Act, Lost}
use Rattle.dso_base.specs.declared.request.Request.{Request}
use Rattle.dso_base.specs.declared.request.Request.TheVariants.{Exit, Wait, Timeout, End}

-- whether a block may end with the request
abbrev pub may_end : Request → Bool
may_end (Exit l) = true
may_end (Wait l) = true
may_end (Timeout l) = true
may_end (End fault) = true
may_end q = false

-- The events go on in blocks, in the block of this thread or between two.
abbrev pub GoesInBlocks : Option ThreadId → List Event → Type 0
GoesInBlocks current [] = current ≡ None
GoesInBlocks current (Act t q r woken ∷ events) = ((u : ThreadId) → current ≡ Some u → t ≡ u)
    × (GoesInBlocks (Some t) events ⊎ ((may_end q ≡ true) × GoesInBlocks None events))
GoesInBlocks current (Lost client ∷ events) = (current ≡ None) × GoesInBlocks None events

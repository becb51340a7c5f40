-- The history has no loss of a client that isn't lost: blocks are of acts alone, and only the server's losses stand beside them.
use Rattle.std.specs.List.{AllByRecursion}
use Rattle.std.proofs.Common.{ℕ, zero, suc, ◌≡◌, refl, subst, Bool, true, false, cond, is_some, Option, Some, None, List, [], ◌∷◌, ◌++◌}
use Rattle.std.proofs.lemmas.Bool.{or_parts}
use Rattle.dso_base.specs.declared.journal.Entry.{Entry}
use Rattle.dso_base.specs.declared.journal.Input.{Input}
use Rattle.dso_base.specs.declared.journal.Input.TheVariants as input
use Rattle.dso_base.specs.declared.journal.Node.{Node}
use Rattle.dso_base.specs.declared.journal.Node.TheVariants.{Server, Client}
use Rattle.dso_base.specs.declared.lock.ThreadId.{ThreadId}
use Rattle.dso_base.specs.declared.message.Up.{Up}
use Rattle.dso_base.specs.declared.message.Up.TheVariants as up
use Rattle.dso_base.specs.declared.record.Ending.{Ending}
use Rattle.dso_base.specs.declared.request.Event.{Event}
use Rattle.dso_base.specs.declared.request.Event.TheVariants.{Act, Lost}
use Rattle.dso_plain.specs.History.{is_act_of}
use Rattle.dso_plain.proofs.keys.SameKeys.{thread_self}
use Rattle.dso_law.specs.Entries.{is_node, entries_of, by_event}
use Rattle.dso_law.specs.ServerReadings.{loses, is_lost}
use Rattle.dso_law.specs.Threads.{ending_of, locks_of, open_block, block_after}
use Rattle.dso_legal.specs.Committed.{block_if, ended_by, ended_blocks, block_numbered}
use Rattle.dso_legal.specs.AsMade.{made_by, made_at, as_made}
use Rattle.dso_legal.proofs.blocks.LocksOfEvents.{NoLosses, NoLossOf, no_loss_of}

-- with an act of the thread at its end
pub no_losses_back : (t : ThreadId) (events : List Event) (event : Event) → NoLosses events → is_act_of t event ≡ true → NoLosses (events ++ event ∷ [])
no_losses_back t [] (Act u request reply woken) h its = tt
no_losses_back t [] (Lost client) h its = absurd (cc its)
no_losses_back t (Act u request reply woken ∷ events) event h its = no_losses_back t events event h its
no_losses_back t (Lost client ∷ events) event h its = absurd h

-- after one more event of its thread
block_spared : (t : ThreadId) (ending : Option Ending) (event : Event) (block : List Event) → NoLosses block → is_act_of t event ≡ true → NoLosses (cond (is_some ending) [] (block ++ event ∷ []))
block_spared t None event block h its = no_losses_back t block event h its
block_spared t (Some ending) event block h its = tt

-- an open block has no loss
pub open_spared : (t : ThreadId) (own : List Entry) → NoLosses (open_block t own)
open_spared t [] = tt
open_spared t (e ∷ own) = by e.event (open_spared t own)
  where
    at : (event : Event) (b : Bool) → is_act_of t event ≡ b → NoLosses (open_block t own) → NoLosses (cond b (block_after event (locks_of t own) (open_block t own)) (open_block t own))
    at event true its h = block_spared t (ending_of event (locks_of t own)) event (open_block t own) h its
    at event false its h = h

    by : (event : Option Event) → NoLosses (open_block t own) → NoLosses (by_event (λ event block. cond (is_act_of t event) (block_after event (locks_of t own) block) block) event (open_block t own))
    by None h = h
    by (Some event) h = at event (is_act_of t event) refl h

-- what holds of each of two lists holds of each of both
each_append : {X : Type 0} (P : X → Type 0) (xs ys : List X) → AllByRecursion P xs → AllByRecursion P ys → AllByRecursion P (xs ++ ys)
each_append P [] ys h k = k
each_append P (x ∷ xs) ys h k = (h.0, each_append P xs ys h.1 k)

-- nor has a block that an event ends
ended_spared : (event : Event) (own : List Entry) → AllByRecursion NoLosses (ended_by event own)
ended_spared (Lost client) own = tt
ended_spared (Act t request reply woken) own = by (ending_of (Act t request reply woken) (locks_of t own))
  where
    by : (ending : Option Ending) → AllByRecursion NoLosses (block_if ending (open_block t own ++ Act t request reply woken ∷ []))
    by None = tt
    by (Some ending) = (no_losses_back t (open_block t own) (Act t request reply woken) (open_spared t own) (thread_self t), tt)

-- so no ended block has one
pub ended_blocks_spared : (own : List Entry) → AllByRecursion NoLosses (ended_blocks own)
ended_blocks_spared [] = tt
ended_blocks_spared (e ∷ own) = by e.event (ended_blocks_spared own)
  where
    by : (event : Option Event) → AllByRecursion NoLosses (ended_blocks own) → AllByRecursion NoLosses (by_event (λ event blocks. blocks ++ ended_by event own) event (ended_blocks own))
    by None h = h
    by (Some event) h = each_append NoLosses (ended_blocks own) (ended_by event own) h (ended_spared event own)

-- nor the block of a number
numbered_spared : (n : ℕ) (blocks : List (List Event)) → AllByRecursion NoLosses blocks → NoLosses (block_numbered n blocks)
numbered_spared zero blocks h = tt
numbered_spared (suc n) [] h = tt
numbered_spared (suc zero) (block ∷ blocks) h = h.0
numbered_spared (suc (suc n)) (block ∷ blocks) h = numbered_spared (suc n) blocks h.1

-- two lists without a loss of the client
pub no_loss_parts : (c : ℕ) (first second : List Event) → NoLossOf c first → NoLossOf c second → NoLossOf c (first ++ second)
no_loss_parts c [] second h k = k
no_loss_parts c (Act t request reply woken ∷ first) second h k = no_loss_parts c first second h k
no_loss_parts c (Lost client ∷ first) second h k = (h.0, no_loss_parts c first second h.1 k)

module _ (c : ℕ) where
  -- a record's block
  taken_spared : (b : Bool) (d n : ℕ) (es : List Entry) → NoLossOf c (cond b [] (block_numbered n (ended_blocks (entries_of (Client d) es))))
  taken_spared true d n es = tt
  taken_spared false d n es = no_loss_of c (block_numbered n (ended_blocks (entries_of (Client d) es)))
      (numbered_spared n (ended_blocks (entries_of (Client d) es)) (ended_blocks_spared (entries_of (Client d) es)))

  -- a message taken
  record_spared : (d : ℕ) (m : Up) (es : List Entry) → NoLossOf c (made_by (input.TookUp d m) es)
  record_spared d (up.Commit txn) es = taken_spared (is_lost d (entries_of Server es)) d txn.seq es
  record_spared d m es = tt

  -- what an entry of the server gives that doesn't lose the client
  given_spared : (i : Input) (es : List Entry) → loses c i ≡ false → NoLossOf c (made_by i es)
  given_spared (input.TookUp d m) es none = record_spared d m es
  given_spared (input.Lose d) es none = (none, tt)
  given_spared other es none = tt

  -- one more entry
  at_node : (node : Node) (e : Entry) (es : List Entry) → e.node ≡ node → is_lost c (entries_of Server (e ∷ es)) ≡ false → (is_lost c (entries_of Server es) ≡ false → NoLossOf c (as_made es)) → NoLossOf c (as_made es ++ made_at node e.input es)
  at_node Server e es is none before =
      let parts = or_parts (loses c e.input) (is_lost c (entries_of Server es)) (subst (λ node. is_lost c (cond (is_node Server node) (e ∷ entries_of Server es) (entries_of Server es)) ≡ false) is none) in
      no_loss_parts c (as_made es) (made_by e.input es) (before parts.1) (given_spared e.input es parts.0)
  at_node (Client d) e es is none before = no_loss_parts c (as_made es) [] (before (subst (λ node. is_lost c (cond (is_node Server node) (e ∷ entries_of Server es) (entries_of Server es)) ≡ false) is none)) tt

  -- The history has no loss of a client that isn't lost.
  pub history_spared : (es : List Entry) → is_lost c (entries_of Server es) ≡ false → NoLossOf c (as_made es)
  history_spared [] none = tt
  history_spared (e ∷ es) none = at_node e.node e es refl none (history_spared es)

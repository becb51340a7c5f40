-- What each kind of entry does to a client's blocks, and to the state that the client stands at.
use Rattle.std.proofs.Common.{ℕ, ◌≡◌, sym, ◌∙◌, ap, false, Option, List, [], ◌∷◌, ◌++◌}
use Rattle.std.proofs.lemmas.List.{append-nil}
use Rattle.dso_base.specs.declared.journal.Entry.{Entry}
use Rattle.dso_base.specs.declared.journal.Node.{Node}
use Rattle.dso_base.specs.declared.journal.Node.TheVariants.{Server, Client}
use Rattle.dso_base.specs.declared.lock.ThreadId.{ThreadId}
use Rattle.dso_base.specs.declared.record.Txn.{Txn}
use Rattle.dso_base.specs.declared.request.Event.{Event}
use Rattle.dso_base.specs.declared.request.Request.{Request}
use Rattle.dso_plain.specs.State.{opening}
use Rattle.dso_plain.specs.History.{end_of, last_state}
use Rattle.dso_plain.proofs.independence.RunsSwap.{ends_in_parts}
use Rattle.dso_law.specs.Settings.{Settings}
use Rattle.dso_law.specs.Entries.{entries_of}
use Rattle.dso_law.specs.ServerReadings.{is_lost}
use Rattle.dso_legal.specs.AsMade.{made_at, as_made}
use Rattle.dso_legal.specs.CopiesStand.{state_at}
use Rattle.dso_legal.specs.Lawful.{MayFollow, AllFollow}
use Rattle.dso_legal.specs.PendingBlocks.{joined, pending}
use Rattle.dso_legal.proofs.blocks.ClientBlocks.{joined_more}
use Rattle.dso_legal.proofs.records.ClientRecords.{EndsNone, EndsBlock, block_ended}
use Rattle.dso_legal.proofs.records.Handing.{says_its_own}
use Rattle.dso_legal.proofs.records.HandedIn.{TakesBlock, KeepsBoth, ends_none, pending_ended}
use Rattle.dso_legal.proofs.blocks.Histories.{history_takes}

module _ (p : Settings) (next : ThreadId → List Event → Option Request) (c : ℕ) (es : List Entry) (follow : AllFollow p next es) (alive : is_lost c (entries_of Server es) ≡ false) (e : Entry) (follows : MayFollow p next e es) where
  -- An entry of the client that ends no block leaves them.
  pub own_keeps : e.node ≡ Client c → EndsNone e (entries_of (Client c) es) → KeepsBoth c e es
  own_keeps at none = ends_none p next c es follow alive e (says_its_own p next c e es at) none

  -- A block that ends is pending, behind the others.
  pub own_ends : e.node ≡ Client c → (ends : EndsBlock p e (entries_of (Client c) es)) → pending c (e ∷ es) ≡ pending c es ++ block_ended ends ∷ []
  own_ends at ends = pending_ended p next c es follow alive e (says_its_own p next c e es at) ends

  -- Where the server takes the record of the client's block, the client stands where it stood.
  pub state_taken : (txn : Txn) → TakesBlock p c txn e es → state_at p c (e ∷ es) ≡ state_at p c es
  state_taken txn takes = ap (λ h. end_of p.shape (joined (pending c (e ∷ es))) (last_state p.shape h)) (history_takes p next e es follows follow c txn alive takes)
      ∙ ap (end_of p.shape (joined (pending c (e ∷ es)))) (ends_in_parts p.shape (as_made es) takes.block (opening p.shape))
      ∙ sym (ends_in_parts p.shape takes.block (joined (pending c (e ∷ es))) (last_state p.shape (as_made es)))
      ∙ sym (ap (λ blocks. end_of p.shape (joined blocks) (last_state p.shape (as_made es))) takes.first)

  -- Where a block of the client ends, it stands where the block leaves it.
  pub state_ended : e.node ≡ Client c → (ends : EndsBlock p e (entries_of (Client c) es)) → state_at p c (e ∷ es) ≡ end_of p.shape (block_ended ends) (state_at p c es)
  state_ended at ends =
      let blocks : List (List Event) = pending c (e ∷ es) in
      ap (λ given. end_of p.shape (joined blocks) (last_state p.shape given)) (stays e.node at)
      ∙ ap (λ blocks. end_of p.shape (joined blocks) (last_state p.shape (as_made es))) (own_ends at ends)
      ∙ ap (λ events. end_of p.shape events (last_state p.shape (as_made es))) (joined_more (pending c es) (block_ended ends))
      ∙ ends_in_parts p.shape (joined (pending c es)) (block_ended ends) (last_state p.shape (as_made es))
    where
      stays : (node : Node) → node ≡ Client c → as_made es ++ made_at node e.input es ≡ as_made es
      stays node at = ap (λ node. as_made es ++ made_at node e.input es) at ∙ append-nil (as_made es)

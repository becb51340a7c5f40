-- The history that a journal commits goes in blocks.
use Rattle.std.proofs.Common.{◌≡◌, inl, inr, refl, sym, ◌∙◌, subst, true, Option, Some, None, List, [], ◌∷◌, ◌++◌}
use Rattle.dso_base.specs.declared.journal.Entry.{Entry}
use Rattle.dso_base.specs.declared.lock.ThreadId.{ThreadId}
use Rattle.dso_base.specs.declared.record.Ending.{Ending}
use Rattle.dso_base.specs.declared.request.Event.{Event}
use Rattle.dso_base.specs.declared.request.Event.TheVariants.{Act, Lost}
use Rattle.dso_base.specs.declared.request.Reply.{Reply}
use Rattle.dso_base.specs.declared.request.Request.{Request}
use Rattle.dso_base.specs.declared.request.Request.TheVariants.{Exit, Wait, Timeout, End}
use Rattle.dso_plain.specs.Touches.{AreActsOf}
use Rattle.dso_law.specs.Settings.{Settings}
use Rattle.dso_law.specs.Threads.{Locks, ending_by, ending_of}
use Rattle.dso_legal.specs.AsMade.{as_made}
use Rattle.dso_legal.specs.Committed.{committed}
use Rattle.dso_legal.specs.Lawful.{AllFollow}
use Rattle.dso_legal.specs.PendingBlocks.{locks_through, EndsWith}
use Rattle.dso_legal.specs.Resolved.{AreResolved}
use Rattle.dso_legal.proofs.blocks.Histories.{Gives, gives}
use Rattle.dso_legal.proofs.blocks.ResolvedBlocks.{history_resolved}
use Rattle.dso_legal.proofs.maps.Blocks.{may_end, GoesInBlocks}

-- a block that ends, and then others
goes_both : (current : Option ThreadId) (xs ys : List Event) → GoesInBlocks current xs → GoesInBlocks None ys → GoesInBlocks current (xs ++ ys)
goes_both current [] ys first second = subst (λ o. GoesInBlocks o ys) (sym first) second
goes_both current (Act t q r woken ∷ xs) ys first second = (
  first.0,
  elim first.1 [
    | inl block ↦ inl (goes_both (Some t) xs ys block second)
    | inr last ↦ inr (last.0, goes_both None xs ys last.1 second)
  ],
)
goes_both current (Lost client ∷ xs) ys first second = (first.0, goes_both None xs ys first.1 second)

-- an ending is of a request with which a block may end
ending_ends : (q : Request) (r : Reply) (locks : Locks) (ending : Ending) → ending_by q r locks ≡ Some ending → may_end q ≡ true
ending_ends (Exit l) r locks ending is = refl
ending_ends (Wait l) r locks ending is = refl
ending_ends (Timeout l) r locks ending is = refl
ending_ends (End fault) r locks ending is = refl
ending_ends q r locks ending is = absurd (cc is)

-- acts of a thread, of which the last ends the block
acts_go : (t : ThreadId) (earlier : List Event) (last : Event) (locks : Locks) (ending : Ending) → AreActsOf t (earlier ++ last ∷ []) → ending_of last locks ≡ Some ending
    → (current : Option ThreadId) → ((u : ThreadId) → current ≡ Some u → t ≡ u) → GoesInBlocks current (earlier ++ last ∷ [])
acts_go t [] (Act u q r woken) locks ending acts ends current same = ((λ w is. acts.0 ∙ same w is), inr (ending_ends q r locks ending ends, refl))
acts_go t [] (Lost client) locks ending acts ends current same = absurd acts.0
acts_go t (Act u q r woken ∷ earlier) last locks ending acts ends current same =
    ((λ w is. acts.0 ∙ same w is), inl (acts_go t earlier last locks ending acts.1 ends (Some u) (λ w is. sym acts.0 ∙ one u w is)))
  where
    one : (u w : ThreadId) → Some u ≡ Some w → u ≡ w
    one u w is = cc is
acts_go t (Lost client ∷ earlier) last locks ending acts ends current same = absurd acts.0

-- a block that ends
block_goes : (t : ThreadId) (ending : Ending) (block : List Event) (locks : Locks) → AreActsOf t block → EndsWith t ending block locks → GoesInBlocks None block
block_goes t ending block locks acts ends = subst (GoesInBlocks None) (sym ends.whole)
    (acts_go t ends.earlier ends.last (locks_through t ends.earlier locks) ending (subst (AreActsOf t) ends.whole acts) ends.ends None (λ u is. absurd (cc is)))

-- what is resolved goes in the same blocks
resolved_goes : (current : Option ThreadId) (mades events : List Event) → AreResolved mades events → GoesInBlocks current mades → GoesInBlocks current events
resolved_goes current [] [] are goes = goes
resolved_goes current [] (event ∷ events) are goes = absurd are
resolved_goes current (made ∷ mades) [] are goes = absurd are
resolved_goes current (Act t q r woken ∷ mades) (event ∷ events) are goes = subst (λ e. GoesInBlocks current (e ∷ events)) (sym are.0.same) (
  goes.0,
  elim goes.1 [
    | inl block ↦ inl (resolved_goes (Some t) mades events are.1 block)
    | inr last ↦ inr (last.0, resolved_goes None mades events are.1 last.1)
  ],
)
resolved_goes current (Lost client ∷ mades) (event ∷ events) are goes = subst (λ e. GoesInBlocks current (e ∷ events)) (sym are.0.same) (goes.0, resolved_goes None mades events are.1 goes.1)

module _ (p : Settings) (next : ThreadId → List Event → Option Request) where
  -- the history as made, entry by entry
  made_goes : (es : List Entry) → AllFollow p next es → GoesInBlocks None (as_made es)
  made_goes [] follow = refl
  made_goes (e ∷ es) follow = by (gives p next e es follow.1 follow.0) (made_goes es follow.0)
    where
      by : Gives p next e es follow.1 follow.0 → GoesInBlocks None (as_made es) → GoesInBlocks None (as_made (e ∷ es))
      by (inl block) before = subst (GoesInBlocks None) (sym block.grows) (goes_both None (as_made es) block.takes.block before
          (block_goes block.txn.thread block.txn.ending block.takes.block _ block.takes.its.acts block.takes.its.ends))
      by (inr (inl loss)) before = subst (GoesInBlocks None) (sym loss.grows) (goes_both None (as_made es) (Lost loss.client ∷ []) before (refl, refl))
      by (inr (inr none)) before = subst (GoesInBlocks None) (sym none) before

  -- So the history that is committed.
  pub committed_goes : (es : List Entry) → AllFollow p next es → GoesInBlocks None (committed es)
  committed_goes es follow = resolved_goes None (as_made es) (committed es) (history_resolved es) (made_goes es follow)

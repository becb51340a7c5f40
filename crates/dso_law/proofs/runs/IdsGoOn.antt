-- The ids ahead, entry by entry.
use Rattle.std.proofs.Common.{ℕ, suc, ◌+◌, ◌*◌, ◌≡◌, refl, ◌∙◌, ap, subst, cond, ltb, Option, Some, None, List, [], ◌∷◌, ◌++◌, length, arith}
use Rattle.dso_base.specs.declared.journal.Entry.{Entry}
use Rattle.dso_base.specs.declared.journal.Input.{Input}
use Rattle.dso_base.specs.declared.journal.Input.TheVariants as input
use Rattle.dso_base.specs.declared.lock.ThreadId.{ThreadId}
use Rattle.dso_base.specs.declared.message.Down.TheVariants as down
use Rattle.dso_base.specs.declared.request.Event.{Event}
use Rattle.dso_base.specs.declared.request.Event.TheVariants.{Act, Lost}
use Rattle.dso_base.specs.declared.request.Reply.{Reply}
use Rattle.dso_base.specs.declared.request.Reply.TheVariants.{Made}
use Rattle.dso_base.specs.declared.request.Request.{Request}
use Rattle.dso_law.specs.Settings.{Settings, batch_size}
use Rattle.dso_law.specs.Entries.{by_event, by_taken_down}
use Rattle.dso_law.specs.Records.{batches, batches_by_taken, made, made_by, made_by_reply, id_at}
use Rattle.dso_law.specs.IdsAhead.{ids_from}
use Rattle.dso_law.specs.ClientStep.{ClientStepOn}
use Rattle.dso_law.specs.ClientRun.{ClientRun, next_in}
use Rattle.dso_law.specs.RunLaws.{IsMaking, IdsAheadGoOn}
use Rattle.dso_law.proofs.core.Ids.{more}
use Rattle.dso_law.proofs.runs.IdsTaken.{ids_run_out}

-- one more, or none
made_reply : (reply : Reply) (n : ℕ) → made_by_reply reply 0 ≡ 1 → made_by_reply reply n ≡ suc n
made_reply (Made o) n is = refl
made_reply reply n is = absurd (cc is)

made_event : (event : Option Event) (n : ℕ) → IsMaking event → by_event made_by event n ≡ suc n
made_event None n is = absurd is
made_event (Some (Act t request reply woken)) n is = made_reply reply n is
made_event (Some (Lost client)) n is = absurd (cc is)

none_reply : (reply : Reply) (n : ℕ) → (made_by_reply reply 0 ≡ 1 → ⊥) → made_by_reply reply n ≡ n
none_reply (Made o) n never = absurd (never refl)
none_reply reply n never = refl

none_event : (event : Option Event) (n : ℕ) → (IsMaking event → ⊥) → by_event made_by event n ≡ n
none_event None n never = refl
none_event (Some (Act t request reply woken)) n never = none_reply reply n never
none_event (Some (Lost client)) n never = refl

-- no batch comes with an object, and without a batch taken they stay
no_batch : (i : Input) (bs : List ℕ) → ((first : ℕ) → i ≡ input.TookDown (down.Ids first) → ⊥) → by_taken_down batches_by_taken i bs ≡ bs
no_batch (input.TookDown (down.Ids first)) bs never = absurd (never first refl)
no_batch (input.TookDown m) bs never = refl
no_batch i bs never = refl

module _ (p : Settings) (c : ℕ) (next : ThreadId → List Event → Option Request) (e : Entry) (es : List Entry) where
  -- an entry that takes a batch has no event
  no_making : (first : ℕ) → e.input ≡ input.TookDown (down.Ids first) → ClientRun p c next (e ∷ es) → IsMaking e.event → ⊥
  no_making first is run making =
      let step = subst (λ i. ClientStepOn p c i (next_in next es) (next_in next (e ∷ es)) e es) is run.1 in
      subst IsMaking step.event making

  -- an object made takes the first
  takes_first : ClientRun p c next (e ∷ es) → IsMaking e.event → (k : ℕ) → ids_from k (e ∷ es) ≡ ids_from (suc k) es
  takes_first run making k =
      let same : by_taken_down batches_by_taken e.input (batches es) ≡ batches es = no_batch e.input (batches es) (λ first is. no_making first is run making) in
      let one : by_event made_by e.event (made es) ≡ suc (made es) = made_event e.event (made es) making in
      let moved : suc (made es) + k ≡ made es + suc k = omega arith in
      ap (λ bs. id_at bs (by_event made_by e.event (made es) + k)) same ∙ ap (λ n. id_at (batches es) (n + k)) one ∙ ap (id_at (batches es)) moved

  -- a batch that comes is all that is ahead
  batch_ahead : ClientRun p c next (e ∷ es) → (first : ℕ) → e.input ≡ input.TookDown (down.Ids first) → (k : ℕ) → ids_from k (e ∷ es) ≡ cond (ltb k batch_size) (Some (first + k)) None
  batch_ahead run first is k =
      let step = subst (λ i. ClientStepOn p c i (next_in next es) (next_in next (e ∷ es)) e es) is run.1 in
      let all : made es ≡ batch_size * length (batches es) = (ids_run_out p c next es run.0).all step.fits.asked in
      ap (λ i. id_at (by_taken_down batches_by_taken i (batches es)) (by_event made_by e.event (made es) + k)) is
      ∙ ap (λ n. id_at (batches es ++ first ∷ []) (n + k)) (none_event e.event (made es) (no_making first is run) ∙ all)
      ∙ more (batches es) first k

  -- any other entry leaves them
  left : (IsMaking e.event → ⊥) → ((first : ℕ) → e.input ≡ input.TookDown (down.Ids first) → ⊥) → (k : ℕ) → ids_from k (e ∷ es) ≡ ids_from k es
  left never none k = ap (λ bs. id_at bs (by_event made_by e.event (made es) + k)) (no_batch e.input (batches es) none) ∙ ap (λ n. id_at (batches es) (n + k)) (none_event e.event (made es) never)

pub ids_ahead_go_on : IdsAheadGoOn
ids_ahead_go_on p c next e es run = record { made_one = takes_first p c next e es run; batch = batch_ahead p c next e es run; otherwise = left p c next e es }

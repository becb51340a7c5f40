-- What is kept of the threads once a request was answered.
use Rattle.std.specs.List.{AllByRecursion}
use Rattle.std.proofs.Common.{◌≡◌, ◌≢◌, ℕ, suc, refl, sym, ◌∙◌, ap, false, cond, Option, Some, List, [], ◌∷◌, map, length}
use Rattle.dso_base.specs.declared.lock.ThreadId.{ThreadId}
use Rattle.dso_base.specs.declared.request.Request.{Request}
use Rattle.dso_base.specs.Following.{is_thread}
use Rattle.dso_base.specs.Block.{start, worked}
use Rattle.dso_change.specs.Hands.{hand_of}
use Rattle.dso_law.specs.Threads.{open_block, privates_before, block_after, privates_after, locks_of, work_of}
use Rattle.dso_machine.specs.declared.thread.Thread.{Thread}
use Rattle.dso_txn.specs.InHand.{hand_in}
use Rattle.dso_client.specs.declared.answered.Answered.{Answered}
use Rattle.dso_client.specs.declared.lock_state.LockState.{LockState}
use Rattle.dso_client.specs.declared.thread_context.ThreadContext.{ThreadContext}
use Rattle.dso_client.specs.SentRecords.{HasWork}
use Rattle.dso_client.specs.ActEffects.{event_of, applied}
use Rattle.dso_client.specs.ContextEffects.{RestStands, AppliesTo, ApplyTo}
use Rattle.dso_client.specs.LockStateStands.{LockStateStands}
use Rattle.dso_client.specs.Openings.{thread_at, first_threads}
use Rattle.dso_client.specs.RunPoints.{RunPoint}
use Rattle.dso_client.specs.ContextPlaces.{context_in, running}
use Rattle.dso_client.specs.ContextStands.{ContextStands}
use Rattle.dso_client.specs.ThreadProgress.{with_context}
use Rattle.dso_client.proofs.contexts.ContextsFound.{all_at, context_is}
use Rattle.dso_client.proofs.acts.Places.{context_set}
use Rattle.dso_client.proofs.heard.Wakes.{all_from}
use Rattle.dso_client.proofs.sent.Parts.{other_thread}

pub rest_of : (at : RunPoint) (context : ThreadContext) → ContextStands at context → RestStands at context
rest_of at context h = record { next = h.next; seen = h.seen; waiting = h.waiting; marked = h.marked; last = h.last }

pub whole_of : (at : RunPoint) (context : ThreadContext) → RestStands at context → HasWork at context → ContextStands at context
whole_of at context h work = record { next = h.next; work = work; seen = h.seen; waiting = h.waiting; marked = h.marked; last = h.last }

-- the work of another thread goes on as it was
pub work_goes_on : (clock : ℕ) (at : RunPoint) (act : Answered) (context : ThreadContext) → is_thread context.id act.thread ≡ false → HasWork at context → HasWork (applied clock act at) context
work_goes_on clock at act context other work = work ∙ ap (λ b. hand_of (worked at.settings.shape (cond b (block_after (event_of act) (locks_of context.id at.entries) (open_block context.id at.entries)) (open_block context.id at.entries))
    (start (cond b (privates_after at.settings.shape (event_of act) (locks_of context.id at.entries) (open_block context.id at.entries) (privates_before at.settings.shape context.id at.entries))
    (privates_before at.settings.shape context.id at.entries))))) (sym other)

-- what is told of threads is told by what runs of them
ids_run : (contexts : List ThreadContext)
    → map (λ (r : ThreadId × Thread × Option Request). r.0) (map running contexts) ≡ map (λ context. context.id) contexts
ids_run [] = refl
ids_run (context ∷ contexts) = ap (λ ids. context.id ∷ ids) (ids_run contexts)

pub same_ids : (old new : List ThreadContext) → map running new ≡ map running old
    → map (λ context. context.id) new ≡ map (λ context. context.id) old
same_ids old new runs = sym (ids_run new) ∙ (ap (map (λ (r : ThreadId × Thread × Option Request). r.0)) runs ∙ ids_run old)

-- all is kept as it stood, and the work stands with the act
pub record WorkLives (clock : ℕ) (act : Answered) (at : RunPoint) (context : ThreadContext) : Type 0 where
  pub rest : RestStands at context
  pub work : HasWork (applied clock act at) context

module _ (clock : ℕ) (at : RunPoint) (act : Answered) (its : act.thread.client ≡ at.client) where
  -- the acting thread has worked
  pub work_lives : (old : List ThreadContext) (context new : ThreadContext) → map (λ context. context.id) old ≡ first_threads at.client (length old) → context_in old act.thread.index ≡ Some context → AllByRecursion (ContextStands at) old
      → RestStands at new → HasWork (applied clock act at) new → AllByRecursion (WorkLives clock act at) (with_context act.thread.index new old)
  work_lives old context new numbered there stands rest work = context_set (ContextStands at) (WorkLives clock act at) old act.thread.index context new there stands (record { rest = rest; work = work })
      (λ k other differ is h. record { rest = rest_of at other h; work = work_goes_on clock at act other (apart k other differ is) h.work })
    where
      apart : (k : ℕ) (other : ThreadContext) → k ≢ act.thread.index → context_in old k ≡ Some other → is_thread other.id act.thread ≡ false
      apart k other differ is = ap (λ t. is_thread t act.thread) (context_is at.client old k other numbered is)
          ∙ (ap (λ c. is_thread (thread_at at.client k) (thread_at c act.thread.index)) its ∙ other_thread at.client k act.thread.index differ)

  -- and then all goes on
  pub contexts_live : (lock_state : LockState) (old new : List ThreadContext) → LockStateStands at lock_state
      → map (λ context. context.id) old ≡ first_threads at.client (length old) → ApplyTo lock_state act old new
      → AllByRecursion (WorkLives clock act at) old → AllByRecursion (ContextStands (applied clock act at)) new
  contexts_live lock_state old new stands numbered applies h = all_from (ContextStands (applied clock act at)) new (λ k y e.
      let before = applies.each (suc k) y e in
      one (suc k) before.0 y before.2 (context_is at.client old (suc k) before.0 numbered before.1)
      (all_at (WorkLives clock act at) old k before.0 h before.1))
    where
      same_id : (k : ℕ) (x y : ThreadContext) → AppliesTo lock_state act k x y → y.id ≡ x.id
      same_id k x y l = ap (λ (r : ThreadId × Thread × Option Request). r.0) l.runs

      same_work : (k : ℕ) (x y : ThreadContext) → AppliesTo lock_state act k x y
          → hand_in y.privates y.block ≡ hand_in x.privates x.block
      same_work k x y l = (λ i. hand_in (l.privates i) (l.block i))

      one : (k : ℕ) (x y : ThreadContext) → AppliesTo lock_state act k x y → x.id ≡ thread_at at.client k
          → WorkLives clock act at x → ContextStands (applied clock act at) y
      one k x y l id w = whole_of (applied clock act at) y (l.rest clock at id stands w.rest) (same_work k x y l
          ∙ w.work ∙ ap (λ t. hand_of (work_of at.settings.shape t (applied clock act at).entries)) (sym (same_id k x y l)))

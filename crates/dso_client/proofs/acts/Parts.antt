-- All parts once a request was answered, before anything is sent.
use Rattle.std.specs.List.{AllByRecursion, list_any}
use Rattle.std.specs.Option.{option_and_then}
use Rattle.std.proofs.Common.{◌≡◌, ℕ, refl, sym, ◌∙◌, ap, subst, Option, Some, List, map, length}
use Rattle.std.proofs.lemmas.List.{length-map}
use Rattle.dso_base.specs.declared.record.Ending.{Ending}
use Rattle.dso_base.specs.declared.record.Txn.{Txn}
use Rattle.dso_base.specs.declared.shape.Shape.{Shape}
use Rattle.dso_base.specs.Following.{is_thread}
use Rattle.dso_law.specs.Settings.{threads_of}
use Rattle.dso_law.specs.Threads.{ending_by, locks_of}
use Rattle.dso_client.specs.declared.answered.Answered.{Answered}
use Rattle.dso_client.specs.declared.client_state.ClientState.{ClientState}
use Rattle.dso_client.specs.declared.thread_context.ThreadContext.{ThreadContext}
use Rattle.dso_client.specs.AnsweredActs.{IsAnswering, StandsApplied}
use Rattle.dso_client.specs.SentRecords.{IsApplied, Applies, WorksAlone, with_work}
use Rattle.dso_client.specs.ThreadProgress.{with_context}
use Rattle.dso_client.specs.SequencesStand.{SequencesStand}
use Rattle.dso_client.specs.ActEffects.{applied}
use Rattle.dso_client.specs.ContextEffects.{RestStands, ApplyTo}
use Rattle.dso_client.specs.LockStateStands.{LockStateStands}
use Rattle.dso_client.specs.Openings.{thread_at, first_threads}
use Rattle.dso_client.specs.RunPoints.{RunPoint}
use Rattle.dso_client.specs.ContextPlaces.{context_in}
use Rattle.dso_client.specs.ContextStands.{ContextStands}
use Rattle.dso_client.specs.TableStands.{TableStands}
use Rattle.dso_client.proofs.contexts.ContextsFound.{context_is, context_there}
use Rattle.dso_client.proofs.acts.Places.{changed_is, context_of_all, set_there}
use Rattle.dso_client.proofs.contexts.ChangedContexts.{told_unchanged}
use Rattle.dso_client.proofs.acts.Contexts.{WorkLives, same_ids, work_lives, contexts_live}

module _ (at : RunPoint) (shape : Shape) (act : Answered) (old : ClientState) (h : IsAnswering at shape act old) where
  -- the acting thread, by the client's number
  pub actor : act.thread ≡ thread_at at.client act.thread.index
  actor = ap (λ c. thread_at c act.thread.index) h.mine

  -- has a context
  pub acting_context : (context : ThreadContext) × (context_in old.contexts.items act.thread.index ≡ Some context)
  acting_context = context_there at.client old.contexts.items act.thread.index h.stands.numbered
      (ap (list_any (is_thread (thread_at at.client act.thread.index))) h.stands.places ∙ (ap (λ t. list_any (is_thread t) (threads_of at.settings at.client)) (sym actor) ∙ h.its))

  context_its : (context : ThreadContext) → context_in old.contexts.items act.thread.index ≡ Some context → context.id ≡ act.thread
  context_its context there = context_is at.client old.contexts.items act.thread.index context h.stands.numbered there ∙ sym actor

  -- the lock that it waits on
  pub waits_so : option_and_then (λ (context : ThreadContext). context.waiting) (context_in old.contexts.items act.thread.index) ≡ (locks_of act.thread at.entries).waiting
  waits_so =
      let context = acting_context in
      ap (option_and_then (λ (context : ThreadContext). context.waiting)) context.1
      ∙ ((context_of_all (ContextStands at) old.contexts.items act.thread.index context.0 h.stands.contexts context.1).waiting ∙ ap (λ t. (locks_of t at.entries).waiting) (context_its context.0 context.1))

  -- what the objects are to live with
  pub applies : (ending : Option Ending) → ending ≡ ending_by act.request act.reply (locks_of act.thread at.entries) → Applies at shape act act.thread.index ending old
  applies ending ends = record {
    its = actor;
    table = h.stands.table;
    sequences = h.stands.sequences;
    acting = λ context there. record {
      shape_is = h.shape_is;
      its = context_its context there;
      work = (context_of_all (ContextStands at) old.contexts.items act.thread.index context h.stands.contexts there).work;
      once = h.stands.facts.once act.thread;
      ends = ends;
    };
    met = h.answers.met;
  }

  module _ (clock : ℕ) (mid new : ClientState) (txn : Option Txn) (alone : WorksAlone act.thread.index old.contexts.items mid.contexts.items) (applied_so : IsApplied clock at act act.thread.index txn mid)
      (number : mid.number ≡ old.number) (lock_state : mid.lock_state ≡ old.lock_state) (contexts : ApplyTo mid.lock_state act mid.contexts.items new.contexts.items)
      (locks : LockStateStands (applied clock act at) new.lock_state) (others : new ≡ record mid { contexts = new.contexts; lock_state = new.lock_state }) where
    abbrev worked : ThreadContext
    worked = with_work alone.privates alone.block acting_context.0

    set : mid.contexts.items ≡ with_context act.thread.index worked old.contexts.items
    set = alone.contexts ∙ changed_is old.contexts.items act.thread.index (with_work alone.privates alone.block) acting_context.0 acting_context.1

    worked_there : context_in mid.contexts.items act.thread.index ≡ Some worked
    worked_there = ap (λ contexts. context_in contexts act.thread.index) set ∙ set_there old.contexts.items act.thread.index acting_context.0 worked acting_context.1

    rest : RestStands at worked
    unfolding acting_context
    rest =
        let s = context_of_all (ContextStands at) old.contexts.items act.thread.index acting_context.0 h.stands.contexts acting_context.1 in
        record { next = s.next; seen = s.seen; waiting = s.waiting; marked = s.marked; last = s.last }

    all_work : AllByRecursion (WorkLives clock act at) mid.contexts.items
    all_work = subst (AllByRecursion (WorkLives clock act at)) (sym set)
        (work_lives clock at act h.mine old.contexts.items acting_context.0 worked h.stands.numbered acting_context.1 h.stands.contexts rest (applied_so.work worked worked_there))

    ids_worked : map (λ (context : ThreadContext). context.id) mid.contexts.items ≡ map (λ (context : ThreadContext). context.id) old.contexts.items
    ids_worked = ap (map (λ (context : ThreadContext). context.id)) alone.contexts
        ∙ told_unchanged (with_work alone.privates alone.block) (λ (context : ThreadContext). context.id) (λ context. refl) old.contexts.items act.thread.index

    -- contexts of the same threads are numbered as those were
    numbered_as : (contexts : List ThreadContext)
        → map (λ (context : ThreadContext). context.id) contexts ≡ map (λ (context : ThreadContext). context.id) old.contexts.items
        → map (λ (context : ThreadContext). context.id) contexts ≡ first_threads at.client (length contexts)
    numbered_as contexts same =
        let many : length old.contexts.items ≡ length contexts
        = sym (length-map old.contexts.items (λ (context : ThreadContext). context.id))
        ∙ (ap length (sym same) ∙ length-map contexts (λ (context : ThreadContext). context.id)) in
        same ∙ (h.stands.numbered ∙ ap (first_threads at.client) many)

    all_contexts : AllByRecursion (ContextStands (applied clock act at)) new.contexts.items
    all_contexts = contexts_live clock at act h.mine mid.lock_state mid.contexts.items new.contexts.items
        (subst (LockStateStands at) (sym lock_state) h.stands.lock_state) (numbered_as mid.contexts.items ids_worked) contexts all_work

    ids : map (λ (context : ThreadContext). context.id) new.contexts.items ≡ map (λ (context : ThreadContext). context.id) old.contexts.items
    ids = same_ids mid.contexts.items new.contexts.items contexts.runs ∙ ids_worked

    pub stands_applied : StandsApplied clock at act txn new
    stands_applied = record {
      parts = record {
        number = ap (λ (kept : ClientState). kept.number) others ∙ (number ∙ h.stands.number);
        places = ids ∙ h.stands.places;
        numbered = numbered_as new.contexts.items ids;
        contexts = all_contexts;
        table = subst (TableStands (applied clock act at)) (sym (ap (λ (kept : ClientState). kept.table) others)) applied_so.table;
        lock_state = locks;
        sequences = subst (SequencesStand (applied clock act at)) (sym (ap (λ (kept : ClientState). kept.sequences) others)) applied_so.sequences;
      };
      commits = applied_so.commits;
    }

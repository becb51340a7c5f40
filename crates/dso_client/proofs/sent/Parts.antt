-- All that a client keeps once a record was sent.
use Rattle.std.specs.List.{AllByRecursion, list_any}
use Rattle.std.proofs.Common.{◌≡◌, ◌≢◌, ℕ, suc, ◌+◌, refl, sym, ◌∙◌, ap, arith, subst, Bool, true, false, cond, eqb, ◌&&◌, ◌||◌, Option, Some, [], ◌∷◌, map, length}
use Rattle.std.proofs.lemmas.Bool.{eq-eqb, ne_eqb}
use Rattle.std.proofs.lemmas.List.Folds.{list_any-append}
use Rattle.dso_base.specs.declared.lock.ThreadId.{ThreadId}
use Rattle.dso_base.specs.declared.message.Up.TheVariants.{Commit}
use Rattle.dso_base.specs.declared.record.Txn.{Txn}
use Rattle.dso_base.specs.declared.request.Request.{Request}
use Rattle.dso_base.specs.Following.{is_thread}
use Rattle.dso_plain.proofs.keys.SameKeys.{thread_self}
use Rattle.dso_law.specs.Records.{unacked}
use Rattle.dso_txn.specs.declared.unacked.Unacked.{Unacked}
use Rattle.dso_txn.specs.Numbers.{numbers_in, with_number}
use Rattle.dso_client.specs.declared.answered.Answered.{Answered}
use Rattle.dso_client.specs.declared.client_state.ClientState.{ClientState}
use Rattle.dso_client.specs.declared.sequences.Sequences.{Sequences}
use Rattle.dso_client.specs.declared.lock_state.LockState.{LockState}
use Rattle.dso_client.specs.declared.thread_context.ThreadContext.{ThreadContext}
use Rattle.dso_client.specs.SentRecords.{changed_context, with_record}
use Rattle.dso_client.specs.StateStands.{ClientPartsStand}
use Rattle.dso_client.specs.SequencesStand.{SequencesStand}
use Rattle.dso_client.specs.ActEffects.{acting}
use Rattle.dso_client.specs.LockStateStands.{LockStateStands}
use Rattle.dso_client.specs.Openings.{thread_at, first_threads}
use Rattle.dso_client.specs.RunPoints.{RunPoint}
use Rattle.dso_client.specs.ContextStands.{ContextStands, last_record}
use Rattle.dso_client.specs.TableStands.{TableStands}
use Rattle.dso_client.proofs.contexts.ChangedContexts.{all_changed, told_unchanged, length_unchanged}
use Rattle.dso_client.proofs.flushed.Flushed.{at_number}

-- one thread of a client isn't another
pub other_thread : (c k index : ℕ) → k ≢ index → is_thread (thread_at c k) (thread_at c index) ≡ false
other_thread c k index differ = ap (λ b. b && eqb index k) (eq-eqb c c refl) ∙ ne_eqb index k (λ same. differ (sym same))

module _ (clock : ℕ) (act : Answered) (next : ThreadId → Option Request) (at : RunPoint) (txn : Txn) where
  -- one more number
  one_more : (here there : Bool) → cond here true there ≡ (there || (here || false))
  one_more true true = refl
  one_more true false = refl
  one_more false true = refl
  one_more false false = refl

  counted_up : (n m : ℕ) → n ≡ m → n + 1 ≡ suc m
  counted_up n m e = omega (arith, e)

  pub sequences_sent : (old : Sequences) (unacked_now : Unacked) → SequencesStand (acting clock act [] next at) old → numbers_in unacked_now ≡ with_number txn.seq true (numbers_in old.unacked)
      → SequencesStand (acting clock act (Commit txn ∷ []) next at) (record old { unacked = unacked_now; records = old.records + 1 })
  sequences_sent old unacked_now h is = record {
    ids = h.ids;
    bounded = h.bounded;
    end = h.end;
    asking = h.asking;
    records = counted_up old.records _ h.records;
    unacked = λ n. ap (λ numbers. numbers n) is ∙ (at_number txn.seq true (numbers_in old.unacked) n ∙ (ap (cond (eqb txn.seq n) true) (h.unacked n)
        ∙ (one_more (eqb txn.seq n) (list_any (λ txn. eqb txn.seq n) (unacked at.entries)) ∙ sym (list_any-append (λ txn. eqb txn.seq n) (unacked at.entries) (txn ∷ [])))));
  }

  pub lock_state_sent : (part : LockState) → LockStateStands (acting clock act [] next at) part → LockStateStands (acting clock act (Commit txn ∷ []) next at) part
  lock_state_sent part h = record { holds = h.holds; leases = h.leases; lists = h.lists }

  -- the thread of the record
  pub context_sent : (context : ThreadContext) → context.id ≡ txn.thread → ContextStands (acting clock act [] next at) context → ContextStands (acting clock act (Commit txn ∷ []) next at) (with_record txn.seq context)
  context_sent context its h = record {
    next = h.next;
    work = h.work;
    seen = h.seen;
    waiting = h.waiting;
    marked = h.marked;
    last = sym (ap (λ b. cond b (Some txn.seq) (last_record context.id at.entries)) (ap (λ t. is_thread context.id t) (sym its) ∙ thread_self context.id));
  }

  -- and each other
  pub context_unsent : (context : ThreadContext) → is_thread context.id txn.thread ≡ false → ContextStands (acting clock act [] next at) context → ContextStands (acting clock act (Commit txn ∷ []) next at) context
  context_unsent context other h = record {
    next = h.next;
    work = h.work;
    seen = h.seen;
    waiting = h.waiting;
    marked = h.marked;
    last = h.last ∙ sym (ap (λ b. cond b (Some txn.seq) (last_record context.id at.entries)) other);
  }

  pub parts_sent : (index : ℕ) (old new : ClientState) → ClientPartsStand (acting clock act [] next at) old → txn.thread ≡ thread_at at.client index
      → TableStands (acting clock act (Commit txn ∷ []) next at) new.table → SequencesStand (acting clock act (Commit txn ∷ []) next at) new.sequences
      → new.number ≡ old.number → new.lock_state ≡ old.lock_state → new.contexts.items ≡ changed_context index (with_record txn.seq) old.contexts.items
      → ClientPartsStand (acting clock act (Commit txn ∷ []) next at) new
  parts_sent index old new h its of_table of_sequences number lock_state contexts =
      let ids : map (λ (context : ThreadContext). context.id) new.contexts.items ≡ map (λ (context : ThreadContext). context.id) old.contexts.items = ap (map (λ (context : ThreadContext). context.id)) contexts
      ∙ told_unchanged (with_record txn.seq) (λ context. context.id) (λ context. refl) old.contexts.items index in
      let many : length new.contexts.items ≡ length old.contexts.items = ap length contexts ∙ length_unchanged (with_record txn.seq) (λ context. refl) old.contexts.items index in
      record {
        number = number ∙ h.number;
        places = ids ∙ h.places;
        numbered = ids ∙ (h.numbered ∙ ap (first_threads at.client) (sym many));
        contexts = subst (AllByRecursion (ContextStands (acting clock act (Commit txn ∷ []) next at))) (sym contexts)
            (all_changed (with_record txn.seq) at.client index (ContextStands (acting clock act [] next at)) (ContextStands (acting clock act (Commit txn ∷ []) next at))
            (λ context is s. context_sent context (is ∙ sym its) s)
            (λ context k is differ s. context_unsent context (ap (λ t. is_thread t txn.thread) is ∙ (ap (λ t. is_thread (thread_at at.client k) t) its ∙ other_thread at.client k index differ)) s)
            old.contexts.items h.numbered h.contexts);
        table = of_table;
        lock_state = subst (LockStateStands (acting clock act (Commit txn ∷ []) next at)) (sym lock_state) (lock_state_sent old.lock_state h.lock_state);
        sequences = of_sequences;
      }

-- A client before its first entry stands for no entries.
use Rattle.std.proofs.Common.{◌≡◌, ℕ, zero, suc, ◌+◌, ◌≤◌, refl, sym, ◌∙◌, ap, arith, Bool, true, false, ◌&&◌, Some, None, List, [], ◌∷◌, map, length, slice_get, subst}
use Rattle.std.proofs.lemmas.Bool.{le-ltb}
use Rattle.std.specs.List.{AllByRecursion}
use Rattle.std.specs.Map.{lookup}
use Rattle.std.specs.BTreeMap.{is_at}
use Rattle.std.specs.Prelude.{cond, eqb, ltb}
use Rattle.std.specs.Option.{option_map, option_map_or, unwrap_or}
use Rattle.dso_hold.specs.Holds.{count_at}
use Rattle.dso_lookup.specs.Orders.{lock_order}
use Rattle.dso_law.specs.Settings.{Settings, threads_of}
use Rattle.dso_machine.specs.declared.code.Code.{Code}
use Rattle.dso_table.specs.declared.tables.ObjectTables.{ObjectTables}
use Rattle.dso_table.specs.States.{State, nothing_known, body_of, is_asked}
use Rattle.dso_table.specs.ObjectTables.{state_in}
use Rattle.dso_client.specs.declared.client_state.ClientState.{ClientState}
use Rattle.dso_client.specs.declared.sequences.Sequences.{Sequences}
use Rattle.dso_client.specs.declared.lock_state.LockState.{LockState}
use Rattle.dso_client.specs.declared.thread_context.ThreadContext.{ThreadContext}
use Rattle.dso_client.specs.ThreadActs.{HoldsAtMost, count_again}
use Rattle.dso_client.specs.ClientStands.{ClientStands, point}
use Rattle.dso_client.specs.SequencesStand.{SequencesStand, ids_in}
use Rattle.dso_client.specs.LockStateStands.{LockStateStands, as_hold}
use Rattle.dso_client.specs.Openings.{IsOpening, IsEmptyLockState, AreUnusedSequences, first_threads}
use Rattle.dso_client.specs.RunFacts.{RunFacts}
use Rattle.dso_client.specs.ContextPlaces.{context_in}
use Rattle.dso_client.specs.ContextStands.{ContextStands}
use Rattle.dso_client.specs.TableStands.{TableStands}

-- what holds of each, holds of each in other words
pub all_as : {X : Type 0} (P Q : X → Type 0) → ((x : X) → P x → Q x) → (xs : List X) → AllByRecursion P xs → AllByRecursion Q xs
all_as P Q turns [] h = tt
all_as P Q turns (x ∷ xs) h = (turns x h.0, all_as P Q turns xs h.1)

neither : (b : Bool) → false ≡ (b && false)
neither true = refl
neither false = refl

module _ (code : Code) (p : Settings) (c : ℕ) (shape : p.shape ≡ code.shape) where
  context_stands : (context : ThreadContext) → IsOpening code context → ContextStands (point code p c []) context
  context_stands context h = record { next = h.next; work = h.work; seen = h.seen; waiting = h.waiting; marked = h.unmarked; last = h.last }

  table_stands : (table : ObjectTables) (resident : ℕ) → p.resident ≡ resident → state_in table ≡ nothing_known resident → TableStands (point code p c []) table
  table_stands table resident room is = record {
    bodies = λ o. ap (λ (s : State). body_of (s.standing o)) is;
    asked = λ o. ap (λ (s : State). is_asked (s.standing o)) is;
    marks = λ o. ap (λ (s : State). s.marks o) is;
    opened = λ t o. ap (λ (s : State). s.opened (t, o)) is;
    wanted = λ t o. ap (λ (s : State). s.wanted (t, o)) is ∙ neither (eqb t.client c);
    room = ap (λ (s : State). s.limit) is ∙ sym room;
    count = ap (λ (s : State). s.residents) is;
    acked = subst (λ n. n ≤ 0) (sym (ap (λ (s : State). s.acked) is)) (omega arith);
    order = ap (λ (s : State). s.used) is;
  }

  lock_state_stands : (lock_state : LockState) → IsEmptyLockState lock_state → LockStateStands (point code p c []) lock_state
  lock_state_stands lock_state h = record {
    holds = λ t l. ap (λ holds. option_map as_hold (holds (l, t))) h.holds;
    leases = λ l. ap (λ leases. leases l) h.leases;
    lists = λ l. ap (λ es. unwrap_or (lookup (is_at (lock_order l)) es) []) h.lists;
  }

  no_id : (k : ℕ) → cond (ltb (1 + k) 1) (Some (1 + k)) None ≡ None
  no_id k =
      let most : 1 ≤ 1 + k = omega arith in
      ap (λ b. cond b (Some (1 + k)) None) (le-ltb (1 + k) 1 most)

  sequences_stands : (sequences : Sequences) → AreUnusedSequences sequences → SequencesStand (point code p c []) sequences
  sequences_stands sequences h = record {
    ids = λ k. ap (λ pool. ids_in pool k) h.pool ∙ no_id k;
    bounded = let next = ap (λ pool. pool.next) h.pool in let end = ap (λ pool. pool.end) h.pool in omega (arith, next, end);
    end = ap (λ pool. pool.end) h.pool;
    asking = h.asking;
    records = h.records;
    unacked = λ n. ap (λ numbers. numbers n) h.unacked;
  }

  facts : RunFacts (point code p c [])
  facts = record {
    apart = λ l e. absurd (cc e);
    settled = λ t. refl;
    numbered = record { acked = 0; numbers = tt; whole = refl };
    strangers = λ t e. refl;
    waitless = λ t e. refl;
    unwanted = λ t o e its. refl;
    holdless = λ t e. refl;
    counted = λ t l. tt;
    owed = λ t. tt;
    once = λ t. record { privates = tt; apart = λ o e. absurd (cc e); news = tt };
    changed = λ t o e. absurd (cc e);
  }

  pub stands_at_start : (kept : ClientState) (threads resident : ℕ) → kept.number ≡ c → p.resident ≡ resident → threads_of p c ≡ first_threads c threads
      → map (λ context. context.id) kept.contexts.items ≡ first_threads c threads → length kept.contexts.items ≡ threads → AllByRecursion (IsOpening code) kept.contexts.items
      → state_in kept.table ≡ nothing_known resident → IsEmptyLockState kept.lock_state → AreUnusedSequences kept.sequences → ClientStands code p c kept []
  stands_at_start kept threads resident number room ours ids many opening table lock_state sequences = record {
    shape = shape;
    run = tt;
    parts = record {
      number = number;
      places = ids ∙ sym ours;
      numbered = ids ∙ ap (first_threads c) (sym many);
      contexts = all_as (IsOpening code) (ContextStands (point code p c [])) context_stands kept.contexts.items opening;
      table = table_stands kept.table resident room table;
      lock_state = lock_state_stands kept.lock_state lock_state;
      sequences = sequences_stands kept.sequences sequences;
      facts = facts;
    };
    threads = all_as (IsOpening code) _ (λ context h. h.stands) kept.contexts.items opening;
  }

-- and no lock is held, nor to be held again
none_again : (code : Code) (contexts : List ThreadContext) → AllByRecursion (IsOpening code) contexts → (place : ℕ) → count_again (slice_get contexts place) ≤ 0
none_again code [] opening place = omega arith
none_again code (context ∷ contexts) opening zero = subst (λ waiting. option_map_or (λ one. one.count) waiting 0 ≤ 0) (sym opening.0.waiting) (omega arith)
none_again code (context ∷ contexts) opening (suc place) = none_again code contexts opening.1 place

pub holds_none : (code : Code) (kept : ClientState) → AllByRecursion (IsOpening code) kept.contexts.items → IsEmptyLockState kept.lock_state → HoldsAtMost 0 kept
holds_none code kept opening lock_state = record {
  held = λ t l. subst (λ holds. count_at (holds (l, t)) ≤ 0) (sym lock_state.holds) (omega arith);
  waiting = λ index. at index;
}
  where
    at : (index : ℕ) → count_again (context_in kept.contexts.items index) ≤ 0
    at zero = omega arith
    at (suc place) = none_again code kept.contexts.items opening place

-- A table of threads after one is written.
use Rattle.std.proofs.Common.{ℕ, ◌≡◌, ◌+◌, ◌<◌, ◌≤◌, refl, sym, ◌∙◌, ap, Bool, true, false, cond, eqb, ◌&&◌, ◌||◌, filter, is_some, length, get_or, drop, Option, Some, None, List, [], ◌∷◌}
use Rattle.std.proofs.Math.Path.{fun_ext}
use Rattle.std.proofs.lemmas.List.{drop_all, drop_more}
use Rattle.std.specs.BTreeMap.{BTreeMap, is_at}
use Rattle.std.specs.List.{list_any}
use Rattle.dso_base.specs.declared.lock.ThreadId.{ThreadId}
use Rattle.dso_base.specs.declared.record.Ending.{Ending}
use Rattle.dso_base.specs.Following.{is_thread}
use Rattle.dso_lookup.specs.Maps.{look, writes, or_old, written}
use Rattle.dso_lookup.specs.Orders.{thread_order}
use Rattle.dso_plain.proofs.keys.SameKeys.{same_thread, thread_self}
use Rattle.dso_plain.proofs.keys.TableOrders.{thread_at}
use Rattle.dso_lookup.proofs.Tests.{same_tests}
use Rattle.dso_server.specs.Threads.{known_in, last_in, ending_there}

-- a thread is told from another either way
pub thread_either_way : (t u : ThreadId) → is_thread t u ≡ is_thread u t
thread_either_way t u = same_tests (is_thread t u) (is_thread u t) (λ e. ap (λ w. is_thread w t) (same_thread t u e) ∙ thread_self t) (λ e. ap (λ w. is_thread w u) (same_thread u t e) ∙ thread_self u)

-- what is written at a thread
pub written_thread : {V : Type 0} (t : ThreadId) (v : V) (f : ThreadId → Option V) → written (writes (is_at (thread_order t)) (λ _. Some v)) f ≡ (λ u. cond (is_thread u t) (Some v) (f u))
written_thread {V} t v f = fun_ext (λ u. ap (λ b. or_old (cond b (Some (Some v)) None) (f u)) (thread_at t u ∙ thread_either_way t u) ∙ by (is_thread u t) (f u))
  where
    by : (b : Bool) (x : Option V) → or_old (cond b (Some (Some v)) None) x ≡ cond b (Some v) x
    by true x = refl
    by false x = refl

module _ (old new : BTreeMap ThreadId (Option Ending)) (thread : ThreadId) (ending : Option Ending) (put : look thread_order new ≡ written (writes (is_at (thread_order thread)) (λ _. Some ending)) (look thread_order old)) where
  -- the thread is known, besides those before
  pub known_written : known_in new ≡ (λ t. cond (is_thread t thread) true (known_in old t))
  known_written = ap (λ f t. is_some (f t)) (put ∙ written_thread thread ending (look thread_order old)) ∙ fun_ext (λ t. by (is_thread t thread) (look thread_order old t))
    where
      by : (b : Bool) (x : Option (Option Ending)) → is_some (cond b (Some ending) x) ≡ cond b true (is_some x)
      by true x = refl
      by false x = refl

  -- and has this ending
  pub last_written : last_in new ≡ (λ t. cond (is_thread t thread) ending (last_in old t))
  last_written = ap (λ f t. ending_there (f t)) (put ∙ written_thread thread ending (look thread_order old)) ∙ fun_ext (λ t. by (is_thread t thread) (look thread_order old t))
    where
      by : (b : Bool) (x : Option (Option Ending)) → ending_there (cond b (Some ending) x) ≡ cond b ending (ending_there x)
      by true x = refl
      by false x = refl

-- the threads that are known, with those that are left
abbrev pub with_left : (ThreadId → Bool) → List ThreadId → ThreadId → Bool
with_left known left t = known t || list_any (is_thread t) left

-- one more thread is known
pub known_next : (threads : List ThreadId) (none : ThreadId) (i : ℕ) (now next : ThreadId → Bool) → i < length threads → next ≡ (λ t. cond (is_thread t (get_or threads i none)) true (now t)) → with_left next (drop (i + 1) threads) ≡ with_left now (drop i threads)
known_next threads none i now next less put = ap (λ f. with_left f (drop (i + 1) threads)) put ∙ (fun_ext (λ t. by (is_thread t (get_or threads i none)) (now t) (list_any (is_thread t) (drop (i + 1) threads))) ∙ ap (λ left. with_left now left) (sym (drop_more threads i none less)))
  where
    by : (b x rest : Bool) → (cond b true x || rest) ≡ (x || (b || rest))
    by true true rest = refl
    by true false rest = refl
    by false x rest = refl

-- none is left
pub known_all : (threads : List ThreadId) (i : ℕ) (now : ThreadId → Bool) → length threads ≤ i → with_left now (drop i threads) ≡ now
known_all threads i now least = ap (λ left. with_left now left) (drop_all i threads least) ∙ fun_ext (λ t. by (now t))
  where
    by : (b : Bool) → (b || false) ≡ b
    by true = refl
    by false = refl

-- no thread has an ending yet
pub none_last : (now next : ThreadId → Option Ending) (thread : ThreadId) → now ≡ (λ _. None) → next ≡ (λ t. cond (is_thread t thread) None (now t)) → next ≡ (λ _. None)
none_last now next thread none put = put ∙ (ap (λ f t. cond (is_thread t thread) None (f t)) none ∙ fun_ext (λ t. by (is_thread t thread)))
  where
    by : (b : Bool) → cond {A = Option Ending} b None None ≡ None
    by true = refl
    by false = refl

-- a thread is one of a client's threads where it is the client's and one of all
pub threads_of_client : (t : ThreadId) (c : ℕ) (threads : List ThreadId) → list_any (is_thread t) (filter (λ u. eqb u.client c) threads) ≡ (eqb t.client c && list_any (is_thread t) threads)
threads_of_client t c [] = none (eqb t.client c)
  where
    none : (b : Bool) → false ≡ (b && false)
    none true = refl
    none false = refl
threads_of_client t c (u ∷ threads) = by (eqb u.client c) refl (is_thread t u) refl (threads_of_client t c threads)
  where
    same : is_thread t u ≡ true → eqb t.client c ≡ eqb u.client c
    same e = ap (λ w. eqb w.client c) (sym (same_thread t u e))

    by : (b : Bool) → eqb u.client c ≡ b → (its : Bool) → is_thread t u ≡ its → list_any (is_thread t) (filter (λ w. eqb w.client c) threads) ≡ (eqb t.client c && list_any (is_thread t) threads)
        → list_any (is_thread t) (cond b (u ∷ filter (λ w. eqb w.client c) threads) (filter (λ w. eqb w.client c) threads)) ≡ (eqb t.client c && (its || list_any (is_thread t) threads))
    by true e true i rest = rw (i, same i, e) refl
    by true e false i rest = rw i rest
    by false e true i rest = rest ∙ rw (same i, e) refl
    by false e false i rest = rest

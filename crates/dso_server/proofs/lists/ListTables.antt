-- The table of waiters as threads come one after the other.
use Rattle.std.proofs.Common.{ℕ, ◌+◌, ◌<◌, ◌≤◌, ◌≡◌, refl, sym, ◌∙◌, ap, Bool, true, false, cond, List, [], ◌∷◌, ◌++◌, length, get_or, drop, append_assoc}
use Rattle.std.proofs.Math.Path.{fun_ext}
use Rattle.std.proofs.lemmas.List.{append-nil, drop_all, drop_more}
use Rattle.dso_base.specs.declared.lock.LockName.{LockName}
use Rattle.dso_base.specs.declared.lock.ThreadId.{ThreadId}
use Rattle.dso_plain.specs.KeyTests.{is_lock}
use Rattle.dso_server.specs.Waiters.{lists_returned}

-- one more of the threads comes
pub returned_next : (lock : LockName) (threads : List ThreadId) (none : ThreadId) (i : ℕ) (now next : LockName → List ThreadId) → i < length threads → next ≡ lists_returned lock (get_or threads i none ∷ []) now
    → lists_returned lock (drop (i + 1) threads) next ≡ lists_returned lock (drop i threads) now
returned_next lock threads none i now next less put = ap (λ f. lists_returned lock (drop (i + 1) threads) f) put ∙ (fun_ext (λ k. by (is_lock lock k) (now k)) ∙ ap (λ left. lists_returned lock left now) (sym (drop_more threads i none less)))
  where
    by : (b : Bool) (list : List ThreadId) → cond b (cond b (list ++ get_or threads i none ∷ []) list ++ drop (i + 1) threads) (cond b (list ++ get_or threads i none ∷ []) list) ≡ cond b (list ++ get_or threads i none ∷ drop (i + 1) threads) list
    by true list = append_assoc list (get_or threads i none ∷ []) (drop (i + 1) threads)
    by false list = refl

-- none is left
pub returned_all : (lock : LockName) (threads : List ThreadId) (i : ℕ) (now : LockName → List ThreadId) → length threads ≤ i → lists_returned lock (drop i threads) now ≡ now
returned_all lock threads i now least = ap (λ left. lists_returned lock left now) (drop_all i threads least) ∙ fun_ext (λ k. by (is_lock lock k) (now k))
  where
    by : (b : Bool) (list : List ThreadId) → cond b (list ++ []) list ≡ list
    by true list = append-nil list
    by false list = refl

-- How many threads a client may have.
use Rattle.std.proofs.Common.{ℕ, zero, suc, ◌≤◌, ◌≡◌, ◌≢◌, refl, ap, subst, Bool, true, false, cond, Some, None, List, [], ◌∷◌, eqb, filter, length, map, arith}
use Rattle.dso_base.specs.declared.lock.ThreadId.{ThreadId}
use Rattle.dso_base.specs.Following.{is_thread}
use Rattle.dso_client.specs.Openings.{HasThreads, thread_at}
use Rattle.dso_machine.specs.declared.code.Code.{Code}
use Rattle.dso_machine.specs.declared.code.ThreadBody.{ThreadBody}
use Rattle.dso_machine.specs.Limits.{most_threads}
use Rattle.dso_machine.specs.Next.{body_of}
use Rattle.dso_machine.specs.Sound.{IsSoundBody, IsSoundCode}
use Rattle.dso_plain.proofs.keys.SameKeys.{same_thread}
use Rattle.dso_cell.specs.CellOpenings.{count_in}
use Rattle.std.proofs.lemmas.List.Elements.{recursion_from_All}
use Rattle.std.specs.List.{AllByRecursion}

-- a thread that has a sound body has a small index
small_index : (code : Code) (t : ThreadId) (bodies : List ThreadBody) → AllByRecursion (IsSoundBody code) bodies → body_of t bodies ≢ None → t.index ≤ most_threads
small_index code t [] all there = absurd (there refl)
small_index code t (body ∷ bodies) all there = by (is_thread t body.thread) refl (small_index code t bodies all.1) there
  where
    by : (here : Bool) → is_thread t body.thread ≡ here → (body_of t bodies ≢ None → t.index ≤ most_threads) → cond here (Some body) (body_of t bodies) ≢ None → t.index ≤ most_threads
    by true is later there = subst (λ u. u.index ≤ most_threads) (same_thread t body.thread is) all.0.index_to_last
    by false is later there = later there

-- so a client has few threads
pub few_threads : (code : Code) (c n : ℕ) → IsSoundCode code → HasThreads code c n → n ≤ most_threads
few_threads code c zero sound there = omega arith
few_threads code c (suc n) sound there =
    small_index code (thread_at c (suc n)) code.bodies (recursion_from_All (IsSoundBody code) code.bodies sound.bodies) (there (suc n) (omega arith) (omega arith))

-- a body for each thread
pub as_many_bodies : (c : ℕ) (bodies : List ThreadBody) → count_in c bodies ≡ length (filter (λ t. eqb t.client c) (map (λ body. body.thread) bodies))
as_many_bodies c [] = refl
as_many_bodies c (body ∷ bodies) = by (eqb body.thread.client c) (as_many_bodies c bodies)
  where
    by : (its : Bool) → count_in c bodies ≡ length (filter (λ t. eqb t.client c) (map (λ body. body.thread) bodies))
        → length (cond its (body ∷ filter (λ body. eqb body.thread.client c) bodies) (filter (λ body. eqb body.thread.client c) bodies))
        ≡ length (cond its (body.thread ∷ filter (λ t. eqb t.client c) (map (λ body. body.thread) bodies)) (filter (λ t. eqb t.client c) (map (λ body. body.thread) bodies)))
    by true same = ap suc same
    by false same = same

-- The threads of a cluster that runs sound code, where they are the code's, by client and then by index.
use Rattle.std.specs.List.{All, AllByRecursion, AllPairs, list_any}
use Rattle.std.specs.List.Sorted.{IsPermutation}
use Rattle.std.proofs.Common.{ℕ, zero, suc, ◌<◌, ◌≤◌, ◌≡◌, ◌≢◌, refl, sym, ◌∙◌, ap, subst, Bool, true, false, cond, eqb, ◌||◌, Some, None, List, [], ◌∷◌, ◌++◌, filter, length, map, arith}
use Rattle.std.proofs.lemmas.Bool.{eq-eqb, eqb-false, eqb-true}
use Rattle.std.proofs.lemmas.List.{map-append}
use Rattle.std.proofs.lemmas.List.Elements.{All-filter, All-map, All-weaker, recursion_from_All}
use Rattle.std.proofs.lemmas.List.Folds.{list_any-append}
use Rattle.std.proofs.lemmas.List.Sorted.{All-permutation, list_any-IsPermutation}
use Rattle.dso_base.specs.declared.lock.ThreadId.{ThreadId}
use Rattle.dso_base.specs.Following.{is_thread}
use Rattle.dso_class.specs.TextProgram.{IsThreadBefore}
use Rattle.dso_client.specs.Openings.{HasThreads, first_threads, thread_at}
use Rattle.dso_law.specs.Settings.{up_to}
use Rattle.dso_lookup.proofs.Tests.{left_holds, right_holds}
use Rattle.dso_machine.specs.declared.code.Code.{Code}
use Rattle.dso_machine.specs.declared.code.ThreadBody.{ThreadBody}
use Rattle.dso_machine.specs.Limits.{most_threads}
use Rattle.dso_machine.specs.Next.{body_of}
use Rattle.dso_machine.specs.Sound.{IsSoundCode, IsSoundBody, threads_of}
use Rattle.dso_plain.proofs.keys.SameKeys.{same_thread, thread_self}
use Rattle.dso_world.proofs.programs.Numbered.{are_first, has_index, its_index}

-- a thread among those of the bodies has one of them
has_body : (t : ThreadId) (bodies : List ThreadBody) → list_any (is_thread t) (map (λ body. body.thread) bodies) ≡ true → body_of t bodies ≢ None
has_body t [] is = absurd (cc is)
has_body t (body ∷ bodies) is = by (is_thread t body.thread) is (has_body t bodies)
  where
    by : (here : Bool) → (here || list_any (is_thread t) (map (λ body. body.thread) bodies)) ≡ true → (list_any (is_thread t) (map (λ body. body.thread) bodies) ≡ true → body_of t bodies ≢ None)
        → cond here (Some body) (body_of t bodies) ≢ None
    by true is later = λ none. cc none
    by false is later = later is

-- what holds of each number up to the last is found of one of them
pub listed : (f : ℕ → Bool) (n last : ℕ) → f n ≡ true → 1 ≤ n → n ≤ last → list_any f (up_to last) ≡ true
listed f n zero is from to = absurd (omega (arith, from, to))
listed f n (suc last) is from to = list_any-append f (up_to last) (suc last ∷ []) ∙ by (eqb n (suc last)) refl (listed f n last is from)
  where
    by : (here : Bool) → eqb n (suc last) ≡ here → (n ≤ last → list_any f (up_to last) ≡ true) → (list_any f (up_to last) || (f (suc last) || false)) ≡ true
    by true same later = right_holds (list_any f (up_to last)) (f (suc last) || false) (left_holds (f (suc last)) false (ap f (sym (eqb-true n (suc last) same)) ∙ is))
    by false other later = left_holds (list_any f (up_to last)) (f (suc last) || false) (later (omega (arith, to, eqb-false n (suc last) other)))

pub any_told : {X Y : Type 0} (told : X → Y) (test : Y → Bool) (xs : List X) → list_any test (map told xs) ≡ list_any (λ x. test (told x)) xs
any_told told test [] = refl
any_told told test (x ∷ xs) = ap (λ b. test (told x) || b) (any_told told test xs)

-- what holds of each of a list with one at its end holds of that
last_has : {X : Type 0} (P : X → Type 0) (xs : List X) (x : X) → AllByRecursion P (xs ++ x ∷ []) → P x
last_has P [] x all = all.0
last_has P (y ∷ xs) x all = last_has P xs x all.1

-- where the indices of the first so many are small, there are few of them
few_first : (c most n : ℕ) → AllByRecursion (λ t. t.index ≤ most) (first_threads c n) → n ≤ most
few_first c most zero all = omega arith
few_first c most (suc n) all = last_has (λ t. t.index ≤ most) (map (thread_at c) (up_to n)) (thread_at c (suc n)) (subst (AllByRecursion (λ t. t.index ≤ most)) (map-append (thread_at c) (up_to n) (suc n ∷ [])) all)

-- what holds of all of some threads holds of each
of_each : (P : ThreadId → Type 0) (t : ThreadId) (threads : List ThreadId) → AllByRecursion P threads → list_any (is_thread t) threads ≡ true → P t
of_each P t [] all is = absurd (cc is)
of_each P t (u ∷ threads) all is = by (is_thread t u) refl is (of_each P t threads all.1)
  where
    by : (here : Bool) → is_thread t u ≡ here → (here || list_any (is_thread t) threads) ≡ true → (list_any (is_thread t) threads ≡ true → P t) → P t
    by true same is later = subst P (same_thread t u same) all.0
    by false other is later = later is

module _ (code : Code) (sound : IsSoundCode code) (threads : List ThreadId) (moved : IsPermutation (threads_of code) threads) where
  -- A thread of the cluster has a body in the code,
  pub body_there : (t : ThreadId) → list_any (is_thread t) threads ≡ true → body_of t code.bodies ≢ None
  body_there t is = has_body t code.bodies (list_any-IsPermutation (is_thread t) (threads_of code) threads moved ∙ is)

  each_there : (ts : List ThreadId) → ((t : ThreadId) → list_any (is_thread t) ts ≡ true → list_any (is_thread t) threads ≡ true) → AllByRecursion (λ t. body_of t code.bodies ≢ None) ts
  each_there [] sub = tt
  each_there (t ∷ ts) sub = (
    body_there t (sub t (left_holds (is_thread t t) (list_any (is_thread t) ts) (thread_self t))),
    each_there ts (λ u is. sub u (right_holds (is_thread u t) (list_any (is_thread u) ts) is)),
  )

  -- so each of them has,
  pub bodies_there : AllByRecursion (λ t. body_of t code.bodies ≢ None) threads
  bodies_there = each_there threads (λ t is. is)

  -- and the threads are those of the code.
  pub runs_threads : (t : ThreadId) → list_any (is_thread t) threads ≡ list_any (is_thread t) (threads_of code)
  runs_threads t = sym (list_any-IsPermutation (is_thread t) (threads_of code) threads moved)

  -- what holds of the thread of each sound body holds of each thread
  of_bodies : (P : ThreadId → Type 0) → ((body : ThreadBody) → IsSoundBody code body → P body.thread) → All P threads
  of_bodies P so = All-permutation P (threads_of code) threads moved (All-map P (λ body. body.thread) code.bodies (All-weaker (IsSoundBody code) (λ body. P body.thread) so code.bodies sound.bodies))

  -- Each thread is of one of the clients.
  pub clients_listed : (clients : ℕ) → All (λ thread. thread.client ≤ clients) threads → AllByRecursion (λ t. list_any (eqb t.client) (up_to clients) ≡ true) threads
  clients_listed clients there = each threads (recursion_from_All (λ t. 1 ≤ t.client) threads (of_bodies (λ t. 1 ≤ t.client) (λ body fine. fine.client_from_one))) (recursion_from_All (λ thread. thread.client ≤ clients) threads there)
    where
      each : (ts : List ThreadId) → AllByRecursion (λ t. 1 ≤ t.client) ts → AllByRecursion (λ t. t.client ≤ clients) ts → AllByRecursion (λ t. list_any (eqb t.client) (up_to clients) ≡ true) ts
      each [] from to = tt
      each (t ∷ ts) from to = (listed (eqb t.client) t.client clients (eq-eqb t.client t.client refl) from.0 to.0, each ts from.1 to.1)

  module _ (rise : AllPairs IsThreadBefore threads) (c : ℕ) where
    abbrev own : List ThreadId
    own = filter (λ t. eqb t.client c) threads

    -- Those of a client are the first so many,
    pub own_first : own ≡ first_threads c (length own)
    own_first = are_first (threads_of code) threads moved sound.threads_gapless c rise (of_bodies (λ t. 0 < t.index) (λ body fine. fine.index_from_one))

    -- with indices up to what a client may have,
    own_low : AllByRecursion (λ t. t.index ≤ most_threads) own
    own_low = recursion_from_All (λ t. t.index ≤ most_threads) own (All-filter (λ t. eqb t.client c) (λ t. t.index ≤ most_threads) threads (of_bodies (λ t. t.index ≤ most_threads) (λ body fine. fine.index_to_last)))

    pub own_index : (t : ThreadId) → list_any (is_thread t) own ≡ true → t.index ≤ most_threads
    own_index t is = of_each (λ t. t.index ≤ most_threads) t own own_low is

    -- no more than a client may have,
    pub own_few : length own ≤ most_threads
    own_few = few_first c most_threads (length own) (subst (AllByRecursion (λ t. t.index ≤ most_threads)) own_first own_low)

    -- and each of these has a body.
    pub own_there : HasThreads code c (length own)
    own_there index from to = body_there (thread_at c index) (sym (its_index c index threads) ∙ ap (has_index index) own_first
        ∙ any_told (thread_at c) (λ t. eqb t.index index) (up_to (length own)) ∙ listed (λ i. eqb i index) index (length own) (eq-eqb index index refl) from to)

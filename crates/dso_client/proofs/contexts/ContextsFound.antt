-- The context of a thread is where its index says.
use Rattle.std.specs.List.{AllByRecursion, list_any}
use Rattle.std.proofs.Common.{◌≡◌, ℕ, zero, suc, ◌+◌, ◌<◌, refl, sym, ◌∙◌, ap, subst, arith, Bool, true, false, cond, ◌||◌, is_some, inl, inr, Option, Some, None, List, [], ◌∷◌, ◌++◌, map, length, slice_get, count_by, fold}
use Rattle.std.proofs.lemmas.Bool.Decides.{eqb_tells}
use Rattle.std.proofs.lemmas.List.{length-append}
use Rattle.std.proofs.lemmas.Option.{slice_get-map, slice_get_within}
use Rattle.std.specs.Option.{option_map}
use Rattle.dso_base.specs.declared.lock.ThreadId.{ThreadId}
use Rattle.dso_base.specs.Following.{is_thread}
use Rattle.dso_law.specs.Settings.{up_to, threads_of}
use Rattle.dso_plain.proofs.keys.SameKeys.{same_thread, thread_self}
use Rattle.dso_client.specs.declared.client_state.ClientState.{ClientState}
use Rattle.dso_client.specs.declared.thread_context.ThreadContext.{ThreadContext}
use Rattle.dso_client.specs.StateStands.{StateStands}
use Rattle.dso_client.specs.Openings.{thread_at, first_threads}
use Rattle.dso_client.specs.RunPoints.{RunPoint}
use Rattle.dso_client.specs.ContextPlaces.{context_in}
use Rattle.dso_client.specs.ContextStands.{ContextStands}

-- what holds of each holds of the one at a place
pub all_at : {X : Type 0} (P : X → Type 0) (xs : List X) (at : ℕ) (x : X) → AllByRecursion P xs → slice_get xs at ≡ Some x → P x
all_at P [] at x h e = absurd (cc e)
all_at P (y ∷ ys) zero x h e = subst P (cc e) h.0
all_at P (y ∷ ys) (suc at) x h e = all_at P ys at x h.1 e

-- one more element stands behind the others
at_end : (xs : List ℕ) (x i : ℕ) → i ≡ length xs → slice_get (xs ++ x ∷ []) i ≡ Some x
at_end [] x zero e = refl
at_end [] x (suc i) e = absurd (cc e)
at_end (y ∷ ys) x zero e = absurd (cc e)
at_end (y ∷ ys) x (suc i) e = at_end ys x i (cc e)

before_end : (xs : List ℕ) (x i : ℕ) → i < length xs → slice_get (xs ++ x ∷ []) i ≡ slice_get xs i
before_end [] x i less = absurd (omega (arith, less))
before_end (y ∷ ys) x zero less = refl
before_end (y ∷ ys) x (suc i) less = before_end ys x i (omega (arith, less))

many_up_to : (n : ℕ) → length (up_to n) ≡ n
many_up_to zero = refl
many_up_to (suc n) =
    let rest = many_up_to n in
    let all : length (up_to n ++ suc n ∷ []) ≡ length (up_to n) + 1 = length-append (up_to n) (suc n ∷ []) in
    omega (arith, rest, all)

-- the numbers up to n, counted from 0
pub number_at_place : (n i : ℕ) → i < n → slice_get (up_to n) i ≡ Some (suc i)
number_at_place zero i less = absurd (omega (arith, less))
number_at_place (suc n) i less = elim (eqb_tells i n) [
  | inl h ↦ at_end (up_to n) (suc n) i (h.1 ∙ sym (many_up_to n)) ∙ ap (λ k. Some (suc k)) (sym h.1)
  | inr h ↦
      let many = many_up_to n in
      let differ = h.1 in
      let less_still : i < length (up_to n) = omega (arith, many, less, differ) in
      let within : i < n = omega (arith, less, differ) in
      before_end (up_to n) (suc n) i less_still ∙ number_at_place n i within
]

-- the context at an index is that of the thread
pub context_is : (c : ℕ) (contexts : List ThreadContext) (index : ℕ) (context : ThreadContext) → map (λ context. context.id) contexts ≡ first_threads c (length contexts) → context_in contexts index ≡ Some context
    → context.id ≡ thread_at c index
context_is c contexts zero context numbered e = absurd (cc e)
context_is c contexts (suc at) context numbered e =
    let n = length contexts in
    let found : slice_get (map (λ (context : ThreadContext). context.id) contexts) at ≡ Some context.id = slice_get-map (λ (context : ThreadContext). context.id) contexts at ∙ ap (option_map (λ (context : ThreadContext). context.id)) e in
    let numbers : slice_get (first_threads c n) at ≡ Some (thread_at c (suc at)) = slice_get-map (thread_at c) (up_to n) at
    ∙ ap (option_map (thread_at c)) (number_at_place n at (slice_get_within contexts at context e)) in
    let same : Some context.id ≡ Some (thread_at c (suc at)) = sym found ∙ (ap (λ threads. slice_get threads at) numbered ∙ numbers) in
    cc same

-- a thread of a list stands at some place
place_of : (t : ThreadId) (xs : List ThreadId) → list_any (is_thread t) xs ≡ true → (k : ℕ) × (slice_get xs k ≡ Some t)
place_of t [] e = absurd (cc e)
place_of t (x ∷ xs) e = by (is_thread t x) refl e (place_of t xs)
  where
    by : (b : Bool) → is_thread t x ≡ b → (b || list_any (is_thread t) xs) ≡ true → (list_any (is_thread t) xs ≡ true → (k : ℕ) × (slice_get xs k ≡ Some t))
        → (k : ℕ) × (slice_get (x ∷ xs) k ≡ Some t)
    by true is e rest = (0, ap Some (same_thread t x is))
    by false is e rest = let later = rest e in (suc later.0, later.1)

right_true : (b : Bool) → (b || true) ≡ true
right_true true = refl
right_true false = refl

-- and what stands at a place is among them
among : (t : ThreadId) (xs : List ThreadId) (k : ℕ) → slice_get xs k ≡ Some t → list_any (is_thread t) xs ≡ true
among t [] k e = absurd (cc e)
among t (x ∷ xs) zero e =
    let same : x ≡ t = cc e in
    ap (λ x. is_thread t x || list_any (is_thread t) xs) same ∙ ap (λ b. b || list_any (is_thread t) xs) (thread_self t)
among t (x ∷ xs) (suc k) e = ap (λ b. is_thread t x || b) (among t xs k e) ∙ right_true (is_thread t x)

-- what is told of something that may be there, is told of something
mapped : {A B : Type 0} (f : A → B) (x : Option A) (y : B) → option_map f x ≡ Some y → (a : A) × (x ≡ Some a) × (f a ≡ y)
mapped f None y e = absurd (cc e)
mapped f (Some a) y e = (a, refl, cc e)

-- a thread of the client has a context
pub context_of : (c : ℕ) (contexts : List ThreadContext) (t : ThreadId)
    → map (λ context. context.id) contexts ≡ first_threads c (length contexts)
    → list_any (is_thread t) (map (λ context. context.id) contexts) ≡ true
    → (context : ThreadContext) × (context_in contexts t.index ≡ Some context) × (context.id ≡ t)
context_of c contexts t numbered its =
    let place = place_of t (map (λ context. context.id) contexts) its in
    let one = mapped (λ (context : ThreadContext). context.id) (slice_get contexts place.0) t
    (sym (slice_get-map (λ (context : ThreadContext). context.id) contexts place.0) ∙ place.1) in
    let id = context_is c contexts (suc place.0) one.0 numbered one.1 in
    let same : t.index ≡ suc place.0 = ap (λ (t : ThreadId). t.index) (sym one.2 ∙ id) in
    (one.0, ap (context_in contexts) same ∙ one.1, one.2)

-- so the one with an index
pub context_there : (c : ℕ) (contexts : List ThreadContext) (index : ℕ) → map (λ context. context.id) contexts ≡ first_threads c (length contexts)
    → list_any (is_thread (thread_at c index)) (map (λ context. context.id) contexts) ≡ true → (context : ThreadContext) × (context_in contexts index ≡ Some context)
context_there c contexts index numbered its =
    let one = context_of c contexts (thread_at c index) numbered its in
    (one.0, one.1)

module _ (at : RunPoint) (kept : ClientState) (stands : StateStands at kept) (index : ℕ) where
  -- a context that is found stands, and is that of the thread
  pub found_stands : (context : ThreadContext) → Some context ≡ context_in kept.contexts.items index → ContextStands at context
  found_stands context e = by index (sym e)
    where
      by : (index : ℕ) → context_in kept.contexts.items index ≡ Some context → ContextStands at context
      by zero e = absurd (cc e)
      by (suc k) e = all_at (ContextStands at) kept.contexts.items k context stands.contexts e

  pub found_is : (context : ThreadContext) → Some context ≡ context_in kept.contexts.items index → context.id ≡ thread_at at.client index
  found_is context e = context_is at.client kept.contexts.items index context stands.numbered (sym e)

  -- and there is one for each thread of the client
  pub never_missing : list_any (is_thread (thread_at at.client index)) (threads_of at.settings at.client) ≡ true → None ≡ context_in kept.contexts.items index → ⊥
  never_missing its e =
      let one = context_there at.client kept.contexts.items index stands.numbered (ap (list_any (is_thread (thread_at at.client index))) stands.places ∙ its) in
      absurd (cc (e ∙ one.1))

  -- where it has no such thread there is none
  pub is_missing : list_any (is_thread (thread_at at.client index)) (threads_of at.settings at.client) ≡ false → context_in kept.contexts.items index ≡ None
  is_missing none = by (context_in kept.contexts.items index) refl
    where
      ids : List ThreadId
      ids = map (λ context. context.id) kept.contexts.items

      not_at : (n : ℕ) (context : ThreadContext) → n ≡ index → context_in kept.contexts.items n ≡ Some context → ⊥
      not_at zero context same e = cc e
      not_at (suc k) context same e =
          let id = found_is context (sym e ∙ ap (context_in kept.contexts.items) same) in
          let its : slice_get ids k ≡ Some (thread_at at.client index)
          = slice_get-map (λ (context : ThreadContext). context.id) kept.contexts.items k ∙ (ap (option_map (λ (context : ThreadContext). context.id)) e ∙ ap Some id) in
          cc (sym (among (thread_at at.client index) ids k its) ∙ (ap (list_any (is_thread (thread_at at.client index))) stands.places ∙ none))

      by : (found : Option ThreadContext) → context_in kept.contexts.items index ≡ found → context_in kept.contexts.items index ≡ None
      by None e = e
      by (Some context) e = absurd (not_at index context refl e)

-- the threads that have a next request, by their contexts: counted from a number on
alive_from : (at : RunPoint) (n : ℕ) (contexts : List ThreadContext) → AllByRecursion (ContextStands at) contexts
    → fold (λ (n : ℕ) (context : ThreadContext). n + cond (is_some context.next) 1 0) n contexts ≡ fold (λ (n : ℕ) t. n + cond (is_some (at.next t)) 1 0) n (map (λ context. context.id) contexts)
alive_from at n [] h = refl
alive_from at n (context ∷ contexts) h = ap (λ b. fold (λ (n : ℕ) (context : ThreadContext). n + cond (is_some context.next) 1 0) (n + cond b 1 0) contexts) (ap is_some h.0.next)
    ∙ alive_from at (n + cond (is_some (at.next context.id)) 1 0) contexts h.1

pub count_alive : (at : RunPoint) (contexts : List ThreadContext) → AllByRecursion (ContextStands at) contexts
    → count_by (λ context. is_some context.next) contexts ≡ count_by (λ t. is_some (at.next t)) (map (λ context. context.id) contexts)
count_alive at contexts h = alive_from at 0 contexts h

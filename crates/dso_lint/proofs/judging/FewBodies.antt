-- How many bodies sound code has: of one thread at most one, and few threads there may be.
use Rattle.std.proofs.Common.{◌≡◌, ◌≢◌, ◌⊎◌, inl, inr, ℕ, ◌+◌, ◌*◌, ◌<◌, ◌≤◌, arith, List, length, map, get_or, eqb, true, sym, ap, ◌∙◌}
use Rattle.std.specs.Prelude.{AllPairs, Contains, slice_get, Some, None}
use Rattle.std.specs.List.{list_any}
use Rattle.std.proofs.lemmas.Bool.Decides.{Decides-eqb}
use Rattle.std.proofs.lemmas.List.{length-map, get_or-map}
use Rattle.std.proofs.lemmas.Option.{slice_get_cases}
use Rattle.std.proofs.lemmas.Map.Made.{IsDistinct-from_AllPairs}
use Rattle.std.proofs.lemmas.Map.Steps.{length-le_from_distinct_below}
use Rattle.std.proofs.lemmas.Map.Views.{Contains-from_any}
use Rattle.dso_base.specs.declared.lock.ThreadId.{ThreadId}
use Rattle.dso_machine.specs.declared.code.Code.{Code}
use Rattle.dso_machine.specs.declared.code.ThreadBody.{ThreadBody}
use Rattle.dso_machine.specs.Sound.{IsSoundCode, threads_of}

-- a thread as one number
abbrev number_of : ThreadId → ℕ
number_of t = t.client * 17 + t.index

-- so of a body
abbrev body_number : ThreadBody → ℕ
body_number b = number_of b.thread

same_thread : (t u : ThreadId) → t.client ≡ u.client → t.index ≡ u.index → t ≡ u
same_thread t u client index = ap (λ (c : ℕ). record t { client = c }) client ∙ ap (λ (n : ℕ). record { client = u.client; index = n }) index

number_tells : (t u : ThreadId) → t.index ≤ 16 → u.index ≤ 16 → number_of t ≡ number_of u → t ≡ u
number_tells t u low few same = same_thread t u (omega (arith, low, few, same)) (omega (arith, low, few, same))

module _ (code : Code) (sound : IsSoundCode code) where
  abbrev bodies : List ThreadBody
  bodies = code.bodies

  abbrev numbers : List ℕ
  numbers = map body_number bodies

  long : length numbers ≡ length bodies
  long = length-map bodies body_number

  number_at : (i : ℕ) (d : ℕ) (b : ThreadBody) → i < length bodies → get_or numbers i d ≡ body_number (get_or bodies i b)
  number_at i d b low = get_or-map body_number bodies i b d low

  thread_at : (i : ℕ) (t : ThreadId) (b : ThreadBody) → i < length bodies → get_or (threads_of code) i t ≡ (get_or bodies i b).thread
  thread_at i t b low = get_or-map (λ (body : ThreadBody). body.thread) bodies i b t low

  -- no two bodies have one number
  apart : (b : ThreadBody) → AllPairs (λ (m k : ℕ). m ≢ k) numbers
  apart b i j d low within same =
      let last : j < length bodies = omega (arith, within, long) in
      let first : i < length bodies = omega (arith, low, last) in
      let mine : ThreadBody = get_or bodies i b in
      let other : ThreadBody = get_or bodies j b in
      let numbered : body_number mine ≡ body_number other = sym (number_at i d b first) ∙ same ∙ number_at j d b last in
      let one : mine.thread ≡ other.thread = number_tells mine.thread other.thread (sound.bodies i b first).index_to_last (sound.bodies j b last).index_to_last numbered in
      let few : j < length (threads_of code) = omega (arith, last, length-map bodies (λ (body : ThreadBody). body.thread)) in
      sound.threads_differ i j b.thread low few (thread_at i b.thread b first ∙ one ∙ sym (thread_at j b.thread b last))

  -- each number is low
  below : (b : ThreadBody) (q : ℕ) → list_any (eqb q) numbers ≡ true → q < 289
  below b q there =
      let at : Contains numbers q = Contains-from_any (λ x y. (Decides-eqb x y).0) q numbers there in
      let low : at.0 < length bodies = omega (arith, at.1, long) in
      let body = sound.bodies at.0 b low in
      let is : q ≡ body_number (get_or bodies at.0 b) = sym at.2 ∙ number_at at.0 q b low in
      omega (arith, is, body.client_to_last, body.index_to_last)

  few_by : (b : ThreadBody) → length bodies ≤ 289
  few_by b =
      let few = length-le_from_distinct_below numbers 289 (IsDistinct-from_AllPairs Decides-eqb numbers (apart b)) (below b) in
      omega (arith, few, long)

  -- sound code has few bodies of threads
  pub few_bodies : length code.bodies ≤ 289
  few_bodies = by (slice_get_cases code.bodies 0).1
    where
      by : ((b : ThreadBody) × (0 < length code.bodies) × (slice_get code.bodies 0 ≡ Some b) × (get_or code.bodies 0 b ≡ b)) ⊎ ((length code.bodies ≤ 0) × (slice_get code.bodies 0 ≡ None)) → length code.bodies ≤ 289
      by (inl is) = few_by is.0
      by (inr past) = omega (arith, past.0)

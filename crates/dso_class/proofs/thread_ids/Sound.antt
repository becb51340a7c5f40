-- Threads whose indices count those of their client: they differ, their indices rise from one with no gap, and none is above the number of them.
use Rattle.std.proofs.Common.{◌≡◌, ◌≢◌, ℕ, suc, pred, ◌≤◌, ◌<◌, arith, refl, sym, ap, ◌∙◌, subst, eqb, Bool, Some, List, take, get_or, length, map, count_by, slice_get, AllPairs, Contains, option_map}
use Rattle.std.proofs.lemmas.Bool.{eqb-true, eq-eqb}
use Rattle.std.proofs.lemmas.List.{length-map}
use Rattle.std.proofs.lemmas.Option.{slice_get-map, get_or_from_slice_get, slice_get_within}
use Rattle.dso_base.specs.declared.lock.ThreadId.{ThreadId}
use Rattle.dso_machine.specs.declared.code.ThreadBody.{ThreadBody}
use Rattle.dso_machine.specs.Sound.{HasNoGap}
use Rattle.dso_class.specs.TextProgram.{AreCounted}
use Rattle.dso_class.proofs.lists.CountedFronts.{IsCounted, count_more, count_rises, count_front, counted}
use Rattle.dso_class.proofs.lists.SideBySide.{stands_at}

-- the thread of a body
abbrev pub thread_of : ThreadBody → ThreadId
thread_of body = body.thread

-- whether a body is of this client
abbrev pub is_of : ℕ → ThreadBody → Bool
is_of client body = eqb body.thread.client client

-- the thread that stands at a place
thread_at : (bodies : List ThreadBody) (k : ℕ) (body : ThreadBody) (d : ThreadId) → slice_get bodies k ≡ Some body → get_or (map thread_of bodies) k d ≡ body.thread
thread_at bodies k body d is = get_or_from_slice_get (map thread_of bodies) k body.thread d (slice_get-map thread_of bodies k ∙ ap (option_map thread_of) is)

-- the threads that are listed at a place have a body there
body_at : (bodies : List ThreadBody) (k : ℕ) → k < length (map thread_of bodies) → (body : ThreadBody) × (slice_get bodies k ≡ Some body)
body_at bodies k within = stands_at bodies k (subst (λ n. k < n) (length-map bodies thread_of) within)

module _ (bodies : List ThreadBody) (are : AreCounted bodies) where
  -- the index counts the body itself too
  index_counts : (k : ℕ) (body : ThreadBody) → slice_get bodies k ≡ Some body → body.thread.index ≡ count_by (is_of body.thread.client) (take (suc k) bodies)
  index_counts k body is = are k body is ∙ sym (count_more (is_of body.thread.client) bodies k body is (eq-eqb body.thread.client body.thread.client refl))

  -- an index is from one, and no more than the client's bodies
  pub index_from_one : (k : ℕ) (body : ThreadBody) → slice_get bodies k ≡ Some body → 1 ≤ body.thread.index
  index_from_one k body is = omega (arith, are k body is)

  -- an index is no more than the number of the client's bodies
  pub index_to_last : (k : ℕ) (body : ThreadBody) → slice_get bodies k ≡ Some body → body.thread.index ≤ count_by (is_of body.thread.client) bodies
  index_to_last k body is = omega (arith, index_counts k body is, count_front (is_of body.thread.client) bodies (suc k))

  -- of two bodies of one client the later has the greater index
  later_index : (i j : ℕ) (here there : ThreadBody) → i < j → slice_get bodies i ≡ Some here → slice_get bodies j ≡ Some there → here.thread.client ≡ there.thread.client → here.thread.index < there.thread.index
  later_index i j here there before is_here is_there same =
      let front = index_counts i here is_here in
      let whole : there.thread.index ≡ suc (count_by (is_of here.thread.client) (take j bodies)) = are j there is_there ∙ ap (λ client. suc (count_by (is_of client) (take j bodies))) (sym same) in
      omega (arith, front, whole, count_rises (is_of here.thread.client) bodies (suc i) j before)

  -- all threads differ
  pub threads_differ : AllPairs (λ thread other. thread ≢ other) (map thread_of bodies)
  threads_differ i j d before within same =
      let there = body_at bodies j within in
      let here = body_at bodies i (omega (arith, before, within)) in
      let one : here.0.thread ≡ there.0.thread = sym (thread_at bodies i here.0 d here.1) ∙ same ∙ thread_at bodies j there.0 d there.1 in
      let less = later_index i j here.0 there.0 before here.1 there.1 (ap (λ thread. thread.client) one) in
      absurd (omega (arith, less, ap (λ thread. thread.index) one))

  -- a thread is known by its client and index
  known_by : (client index : ℕ) (thread : ThreadId) → thread.client ≡ client → thread.index ≡ index → thread ≡ record { client = client; index = index }
  known_by client index thread of_client of_index = ap (λ (c : ℕ). record thread { client = c }) of_client ∙ ap (λ (n : ℕ). record { client = client; index = n }) of_index

  -- the thread of a body that was counted
  from_count : (client lower : ℕ) → 1 ≤ lower → IsCounted (is_of client) bodies (pred lower) → Contains (map thread_of bodies) (record { client = client; index = lower })
  from_count client lower from_one found =
      let of_client : found.item.thread.client ≡ client = eqb-true found.item.thread.client client found.passes in
      let counts = are found.place found.item found.stands ∙ ap (λ c. suc (count_by (is_of c) (take found.place bodies))) of_client ∙ ap suc found.before in
      let of_index : found.item.thread.index ≡ lower = omega (arith, counts, from_one) in
      let is = known_by client lower found.item.thread of_client of_index in (
        found.place,
        subst (λ n. found.place < n) (sym (length-map bodies thread_of)) (slice_get_within bodies found.place found.item found.stands),
        thread_at bodies found.place found.item (record { client = client; index = lower }) found.stands ∙ is,
      )

  -- with an index each lower one is there
  pub threads_gapless : HasNoGap (map thread_of bodies)
  threads_gapless client index lower there from_one below =
      let body = body_at bodies there.0 there.1 in
      let is : body.0.thread ≡ record { client = client; index = index } = sym (thread_at bodies there.0 body.0 (record { client = client; index = index }) body.1) ∙ there.2 in
      let of_client : body.0.thread.client ≡ client = ap (λ thread. thread.client) is in
      let of_index : body.0.thread.index ≡ index = ap (λ thread. thread.index) is in
      let counts = index_counts there.0 body.0 body.1 ∙ ap (λ c. count_by (is_of c) (take (suc there.0) bodies)) of_client in
      from_count client lower from_one (counted (is_of client) bodies (suc there.0) (pred lower) (omega (arith, counts, of_index, from_one, below)))

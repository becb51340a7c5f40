-- The threads of each client of a sound program are numbered from 1 on, in order.
use Rattle.std.specs.List.{All, AllPairs, Contains, list_any}
use Rattle.std.specs.List.Sorted.{IsPermutation}
use Rattle.std.proofs.Common.{ℕ, zero, suc, ◌+◌, ◌<◌, ◌≤◌, ◌≡◌, inl, inr, refl, sym, ◌∙◌, ap, subst, Bool, true, false, cond, eqb, ◌&&◌, ◌||◌, List, [], ◌∷◌, ◌++◌, filter, length, map, slice_index_or, arith}
use Rattle.std.proofs.lemmas.Bool.{eq-eqb, eqb-true}
use Rattle.std.proofs.lemmas.List.Elements.{All-head, All-tail, All-filter, filter_passes}
use Rattle.std.proofs.lemmas.List.Kept.{AllPairs-filter}
use Rattle.std.proofs.lemmas.List.Sorted.{list_any-IsPermutation}
use Rattle.std.proofs.lemmas.Map.Views.{Contains-from_any}
use Rattle.dso_base.specs.declared.lock.ThreadId.{ThreadId}
use Rattle.dso_base.specs.Following.{is_thread}
use Rattle.dso_class.specs.TextProgram.{IsThreadBefore}
use Rattle.dso_client.specs.Openings.{first_threads, thread_at}
use Rattle.dso_law.specs.Settings.{up_to}
use Rattle.dso_machine.specs.Sound.{HasNoGap}
use Rattle.dso_plain.proofs.keys.SameKeys.{same_thread, thread_self}

-- the threads are all of client c, and their indices rise, all above k
abbrev pub RiseAbove : ℕ → ℕ → List ThreadId → Type 0
RiseAbove c k [] = Unit {0}
RiseAbove c k (t ∷ ts) = (t.client ≡ c) × (k < t.index) × RiseAbove c t.index ts

-- whether a thread of this index is among them
abbrev pub has_index : ℕ → List ThreadId → Bool
has_index i ts = list_any (λ t. eqb t.index i) ts

-- with an index among them, each lower one above k is there too
abbrev pub IsGapless : ℕ → List ThreadId → Type 0
IsGapless k ts = (index lower : ℕ) → has_index index ts ≡ true → k < lower → lower ≤ index → has_index lower ts ≡ true

-- n numbers behind k
abbrev pub behind : ℕ → ℕ → List ℕ
behind k zero = []
behind k (suc n) = suc k ∷ behind (suc k) n

or_left : (a b : Bool) → a ≡ true → (a || b) ≡ true
or_left true b e = refl
or_left false b e = absurd (cc e)

or_right : (a b : Bool) → b ≡ true → (a || b) ≡ true
or_right true b e = refl
or_right false b e = e

-- none of those above an index has it
none_lower : (c k i : ℕ) (ts : List ThreadId) → RiseAbove c k ts → i ≤ k → has_index i ts ≡ true → ⊥
none_lower c k i [] rise less is = absurd (cc is)
none_lower c k i (t ∷ ts) rise less is =
    let above : k < t.index = rise.1 in
    by (eqb t.index i) refl is (none_lower c t.index i ts rise.2 (omega (arith, less, above)))
  where
    by : (here : Bool) → eqb t.index i ≡ here → (here || has_index i ts) ≡ true → (has_index i ts ≡ true → ⊥) → ⊥
    by true same e later =
        let at : t.index ≡ i = eqb-true t.index i same in
        let above : k < t.index = rise.1 in
        absurd (omega (arith, at, above, less))
    by false other e later = later e

-- the first of them has the first index
first_index : (c k : ℕ) (t : ThreadId) (ts : List ThreadId) → RiseAbove c k (t ∷ ts) → IsGapless k (t ∷ ts) → t.index ≡ suc k
first_index c k t ts rise gapless =
    let above : k < t.index = rise.1 in
    by (eqb t.index (suc k)) refl (gapless t.index (suc k) (or_left (eqb t.index t.index) (has_index t.index ts) (eq-eqb t.index t.index refl)) (omega arith) (omega (arith, above)))
  where
    by : (here : Bool) → eqb t.index (suc k) ≡ here → (here || has_index (suc k) ts) ≡ true → t.index ≡ suc k
    by true same e = eqb-true t.index (suc k) same
    by false other e = let above : k < t.index = rise.1 in absurd (none_lower c t.index (suc k) ts rise.2 (omega (arith, above)) e)

-- the others have no gap behind it
rest_gapless : (k : ℕ) (t : ThreadId) (ts : List ThreadId) → t.index ≡ suc k → IsGapless k (t ∷ ts) → IsGapless (suc k) ts
rest_gapless k t ts first gapless index lower there above less =
    by (eqb t.index lower) refl (gapless index lower (or_right (eqb t.index index) (has_index index ts) there) (omega (arith, above)) less)
  where
    by : (here : Bool) → eqb t.index lower ≡ here → (here || has_index lower ts) ≡ true → has_index lower ts ≡ true
    by true same e = let at : t.index ≡ lower = eqb-true t.index lower same in absurd (omega (arith, at, first, above))
    by false other e = e

-- so they are the threads of the numbers behind k
pub are_numbered : (c k : ℕ) (ts : List ThreadId) → RiseAbove c k ts → IsGapless k ts → ts ≡ map (thread_at c) (behind k (length ts))
are_numbered c k [] rise gapless = refl
are_numbered c k (t ∷ ts) rise gapless =
    let first : t.index ≡ suc k = first_index c k t ts rise gapless in
    let its : t.client ≡ c = rise.0 in
    let is : t ≡ thread_at c (suc k) = ap (λ client. record { client = client; index = t.index }) its ∙ ap (λ index. thread_at c index) first in
    ap (λ u. u ∷ ts) is ∙ ap (λ us. thread_at c (suc k) ∷ us)
    (are_numbered c (suc k) ts (subst (λ i. RiseAbove c i ts) first rise.2) (rest_gapless k t ts first gapless))

-- the last of the numbers behind k
behind_more : (k n : ℕ) → behind k (suc n) ≡ behind k n ++ suc (k + n) ∷ []
behind_more k zero =
    let same : suc k ≡ suc (k + 0) = omega arith in
    ap (λ m. m ∷ []) same
behind_more k (suc n) =
    let same : suc (suc k + n) ≡ suc (k + suc n) = omega arith in
    ap (λ ns. suc k ∷ ns) (behind_more (suc k) n ∙ ap (λ m. behind (suc k) n ++ m ∷ []) same)

pub up_to_behind : (n : ℕ) → behind 0 n ≡ up_to n
up_to_behind zero = refl
up_to_behind (suc n) =
    let same : suc (0 + n) ≡ suc n = omega arith in
    behind_more 0 n ∙ ap (λ m. behind 0 n ++ m ∷ []) same ∙ ap (λ ns. ns ++ suc n ∷ []) (up_to_behind n)

-- threads that stand by client and index, all of one client
rise_so : (c k : ℕ) (ts : List ThreadId) → All (λ t. t.client ≡ c) ts → All (λ t. k < t.index) ts → AllPairs IsThreadBefore ts → RiseAbove c k ts
rise_so c k [] its above rise = tt
rise_so c k (t ∷ ts) its above rise = (here, All-head (λ u. k < u.index) t ts above, rise_so c t.index ts later (λ i d within. by (slice_index_or ts i d) (later i d within) (rise 0 (suc i) d (omega arith) (omega (arith, within)))) (λ i j d less within. rise (suc i) (suc j) d (omega (arith, less)) (omega (arith, within))))
  where
    here : t.client ≡ c
    here = All-head (λ u. u.client ≡ c) t ts its

    later : All (λ u. u.client ≡ c) ts
    later = All-tail (λ u. u.client ≡ c) t ts its

    by : (u : ThreadId) → u.client ≡ c → IsThreadBefore t u → t.index < u.index
    by u same (inl less) = absurd (omega (arith, less, same, here))
    by u same (inr both) = both.1

-- a thread of a list is found there
found : (t : ThreadId) (ts : List ThreadId) → Contains ts t → list_any (is_thread t) ts ≡ true
found t [] (k, within, is) = absurd (omega (arith, within))
found t (u ∷ ts) (zero, within, is) = or_left (is_thread t u) (list_any (is_thread t) ts) (ap (is_thread t) is ∙ thread_self t)
found t (u ∷ ts) (suc k, within, is) = or_right (is_thread t u) (list_any (is_thread t) ts) (found t ts (k, omega (arith, within), is))

-- an index among a client's threads is that of a thread among all
pub its_index : (c i : ℕ) (ts : List ThreadId) → has_index i (filter (λ t. eqb t.client c) ts) ≡ list_any (is_thread (thread_at c i)) ts
its_index c i [] = refl
its_index c i (t ∷ ts) = by (eqb t.client c) (its_index c i ts)
  where
    by : (its : Bool) → has_index i (filter (λ t. eqb t.client c) ts) ≡ list_any (is_thread (thread_at c i)) ts
        → has_index i (cond its (t ∷ filter (λ t. eqb t.client c) ts) (filter (λ t. eqb t.client c) ts)) ≡ ((its && eqb t.index i) || list_any (is_thread (thread_at c i)) ts)
    by true later = ap (λ b. eqb t.index i || b) later
    by false later = later

module _ (known threads : List ThreadId) (moved : IsPermutation known threads) (gapless : HasNoGap known) where
  -- a client's threads have no gap
  its_gapless : (c : ℕ) → IsGapless 0 (filter (λ t. eqb t.client c) threads)
  its_gapless c index lower there above less =
      let same : (i : ℕ) → has_index i (filter (λ t. eqb t.client c) threads) ≡ list_any (is_thread (thread_at c i)) known = λ i. its_index c i threads ∙ sym (list_any-IsPermutation (is_thread (thread_at c i)) known threads moved) in
      same lower ∙ found (thread_at c lower) known (gapless c index lower (Contains-from_any (λ x y e. sym (same_thread x y e)) (thread_at c index) known (sym (same index) ∙ there)) above less)

  -- they are the first so many
  pub are_first : (c : ℕ) → AllPairs IsThreadBefore threads → All (λ t. 0 < t.index) threads
      → filter (λ t. eqb t.client c) threads ≡ first_threads c (length (filter (λ t. eqb t.client c) threads))
  are_first c rise above =
      let its = filter (λ t. eqb t.client c) threads in
      are_numbered c 0 its
      (rise_so c 0 its (λ i d within. eqb-true _ c (filter_passes (λ t. eqb t.client c) threads i d within)) (All-filter (λ t. eqb t.client c) (λ t. 0 < t.index) threads above) (AllPairs-filter IsThreadBefore (λ t. eqb t.client c) threads rise))
      (its_gapless c)
      ∙ ap (map (thread_at c)) (up_to_behind (length its))

-- Each slot stands once among the slots of a cluster.
use Rattle.std.specs.List.{AllPairs, flat_map}
use Rattle.std.proofs.Common.{ℕ, zero, suc, ◌+◌, ◌<◌, ◌≤◌, ◌≡◌, ◌≢◌, refl, sym, ◌∙◌, ap, subst, Bool, true, false, cond, eqb, ◌&&◌, Some, List, [], ◌∷◌, ◌++◌, filter, length, map, slice_get, slice_index_or, arith}
use Rattle.std.proofs.lemmas.Bool.{eq-eqb, eqb-true, ne_eqb}
use Rattle.std.proofs.lemmas.List.{length-append}
use Rattle.std.proofs.lemmas.List.Elements.{filter-append}
use Rattle.dso_base.specs.declared.lock.ThreadId.{ThreadId}
use Rattle.dso_base.specs.Following.{is_thread}
use Rattle.dso_law.specs.Settings.{Settings, clients_of, threads_of, up_to}
use Rattle.dso_legal.specs.Slots.{Slot, Acts, TakesDown, Flushes, TakesUp, Loses, Breaks, client_slots, slots}
use Rattle.dso_world.specs.ChosenSlot.{is_slot, slots_up_to}
use Rattle.dso_world.specs.Laws.{RoundsGoOn}

-- how often a slot stands in a list
abbrev times : Slot → List Slot → ℕ
times slot list = length (filter (is_slot slot) list)

pub same_slot : (slot : Slot) → is_slot slot slot ≡ true
same_slot (Acts t) = ap (λ b. b && eqb t.index t.index) (eq-eqb t.client t.client refl) ∙ eq-eqb t.index t.index refl
same_slot (TakesDown c) = eq-eqb c c refl
same_slot (Flushes c) = eq-eqb c c refl
same_slot (TakesUp c) = eq-eqb c c refl
same_slot (Loses c) = eq-eqb c c refl
same_slot (Breaks c) = eq-eqb c c refl

times_both : (slot : Slot) (xs ys : List Slot) → times slot (xs ++ ys) ≡ times slot xs + times slot ys
times_both slot xs ys = ap length (filter-append (is_slot slot) xs ys) ∙ length-append (filter (is_slot slot) xs) (filter (is_slot slot) ys)

-- one that stands at a place stands there once at least
times_there : (slot : Slot) (list : List Slot) (place : ℕ) → slice_get list place ≡ Some slot → 1 ≤ times slot list
times_there slot [] place is = absurd (cc is)
times_there slot (first ∷ rest) zero is =
    let same : first ≡ slot = cc is in
    by (is_slot slot first) (ap (is_slot slot) same ∙ same_slot slot)
  where
    by : (here : Bool) → here ≡ true → 1 ≤ length (cond here (first ∷ filter (is_slot slot) rest) (filter (is_slot slot) rest))
    by true is = omega arith
    by false is = absurd (cc is)
times_there slot (first ∷ rest) (suc place) is = by (is_slot slot first) (times_there slot rest place is)
  where
    by : (here : Bool) → 1 ≤ times slot rest → 1 ≤ length (cond here (first ∷ filter (is_slot slot) rest) (filter (is_slot slot) rest))
    by true later = omega arith
    by false later = later

-- the slots up to one that stands once end with it
up_to_place : (slot : Slot) (list : List Slot) (place : ℕ) → slice_get list place ≡ Some slot → times slot list ≤ 1 → length (slots_up_to slot list) ≡ place + 1
up_to_place slot [] place is once = absurd (cc is)
up_to_place slot (first ∷ rest) zero is once =
    let same : first ≡ slot = cc is in
    by (is_slot slot first) (ap (is_slot slot) same ∙ same_slot slot)
  where
    by : (here : Bool) → here ≡ true → length (cond here (first ∷ []) (first ∷ slots_up_to slot rest)) ≡ 1
    by true is = refl
    by false is = absurd (cc is)
up_to_place slot (first ∷ rest) (suc place) is once = by (is_slot slot first) once (λ few. up_to_place slot rest place is few)
  where
    by : (here : Bool) → length (cond here (first ∷ filter (is_slot slot) rest) (filter (is_slot slot) rest)) ≤ 1 → (times slot rest ≤ 1 → length (slots_up_to slot rest) ≡ place + 1)
        → length (cond here (first ∷ []) (first ∷ slots_up_to slot rest)) ≡ suc place + 1
    by true few later = absurd (omega (arith, few, times_there slot rest place is))
    by false few later = omega (arith, later few)

-- how often a number stands in a list
abbrev count_of : ℕ → List ℕ → ℕ
count_of n list = length (filter (eqb n) list)

count_both : (n : ℕ) (xs ys : List ℕ) → count_of n (xs ++ ys) ≡ count_of n xs + count_of n ys
count_both n xs ys = ap length (filter-append (eqb n) xs ys) ∙ length-append (filter (eqb n) xs) (filter (eqb n) ys)

-- a greater number stands not at all among those up to one, and each number once at most
none_above : (n last : ℕ) → last < n → count_of n (up_to last) ≡ 0
none_above n zero above = refl
none_above n (suc last) above =
    let other : eqb n (suc last) ≡ false = ne_eqb n (suc last) (λ same. absurd (omega (arith, above, same))) in
    count_both n (up_to last) (suc last ∷ []) ∙ ap (λ b. count_of n (up_to last) + length (cond b (suc last ∷ []) [])) other
    ∙ omega (arith, none_above n last (omega (arith, above)))

once_up_to : (n last : ℕ) → count_of n (up_to last) ≤ 1
once_up_to n zero = omega arith
once_up_to n (suc last) = by (eqb n (suc last)) refl (once_up_to n last)
  where
    by : (its : Bool) → eqb n (suc last) ≡ its → count_of n (up_to last) ≤ 1 → count_of n (up_to (suc last)) ≤ 1
    by true is before =
        let same : n ≡ suc last = eqb-true n (suc last) is in
        let none : count_of n (up_to last) ≡ 0 = none_above n last (omega (arith, same)) in
        let all : count_of n (up_to (suc last)) ≡ count_of n (up_to last) + length (cond true (suc last ∷ []) []) = count_both n (up_to last) (suc last ∷ []) ∙ ap (λ b. count_of n (up_to last) + length (cond b (suc last ∷ []) [])) is in
        omega (arith, all, none)
    by false is before =
        let all : count_of n (up_to (suc last)) ≡ count_of n (up_to last) + length (cond false (suc last ∷ []) []) = count_both n (up_to last) (suc last ∷ []) ∙ ap (λ b. count_of n (up_to last) + length (cond b (suc last ∷ []) [])) is in
        omega (arith, all, before)

-- a slot of one client stands as often as the client, where it stands there once at most and elsewhere not at all
module _ (slot : Slot) (f : ℕ → List Slot) (owner : ℕ) (own : times slot (f owner) ≤ 1) (others : (c : ℕ) → eqb owner c ≡ false → times slot (f c) ≡ 0) where
  times_flat : (cs : List ℕ) → times slot (flat_map f cs) ≤ count_of owner cs
  times_flat [] = omega arith
  times_flat (c ∷ cs) = by (eqb owner c) refl (times_flat cs)
    where
      by : (its : Bool) → eqb owner c ≡ its → times slot (flat_map f cs) ≤ count_of owner cs → times slot (f c ++ flat_map f cs) ≤ length (cond its (c ∷ filter (eqb owner) cs) (filter (eqb owner) cs))
      by true is later =
          let here : times slot (f c) ≤ 1 = subst (λ k. times slot (f k) ≤ 1) (eqb-true owner c is) own in
          omega (arith, times_both slot (f c) (flat_map f cs), here, later)
      by false is later = omega (arith, times_both slot (f c) (flat_map f cs), others c is, later)

-- it stands nowhere where it stands with none
times_nowhere : (slot : Slot) (f : ℕ → List Slot) → ((c : ℕ) → times slot (f c) ≡ 0) → (cs : List ℕ) → times slot (flat_map f cs) ≡ 0
times_nowhere slot f none [] = refl
times_nowhere slot f none (c ∷ cs) = times_both slot (f c) (flat_map f cs) ∙ omega (arith, none c, times_nowhere slot f none cs)

-- it stands nowhere among those made of a kind that it isn't of
none_made : {X : Type 0} (make : X → Slot) (slot : Slot) → ((x : X) → is_slot slot (make x) ≡ false) → (xs : List X) → times slot (map make xs) ≡ 0
none_made make slot none [] = refl
none_made make slot none (x ∷ xs) = ap (λ b. length (cond b (make x ∷ filter (is_slot slot) (map make xs)) (filter (is_slot slot) (map make xs)))) (none x) ∙ none_made make slot none xs

-- the takings up of clients
takings : (d : ℕ) (cs : List ℕ) → times (TakesUp d) (map TakesUp cs) ≡ count_of d cs
takings d [] = refl
takings d (c ∷ cs) = by (eqb d c) (takings d cs)
  where
    by : (its : Bool) → times (TakesUp d) (map TakesUp cs) ≡ count_of d cs → length (cond its (TakesUp c ∷ filter (is_slot (TakesUp d)) (map TakesUp cs)) (filter (is_slot (TakesUp d)) (map TakesUp cs))) ≡ length (cond its (c ∷ filter (eqb d) cs) (filter (eqb d) cs))
    by true later = ap (λ n. suc n) later
    by false later = later

-- how often a thread stands in a list
abbrev thread_count : ThreadId → List ThreadId → ℕ
thread_count t ts = length (filter (is_thread t) ts)

acts_made : (t : ThreadId) (ts : List ThreadId) → times (Acts t) (map Acts ts) ≡ thread_count t ts
acts_made t [] = refl
acts_made t (u ∷ ts) = by (is_thread t u) (acts_made t ts)
  where
    by : (its : Bool) → times (Acts t) (map Acts ts) ≡ thread_count t ts → length (cond its (Acts u ∷ filter (is_slot (Acts t)) (map Acts ts)) (filter (is_slot (Acts t)) (map Acts ts))) ≡ length (cond its (u ∷ filter (is_thread t) ts) (filter (is_thread t) ts))
    by true later = ap (λ n. suc n) later
    by false later = later

both : (a b : Bool) → (a && b) ≡ true → (a ≡ true) × (b ≡ true)
both true b is = (refl, is)
both false b is = absurd (cc is)

same_thread : (t u : ThreadId) → is_thread t u ≡ true → t ≡ u
same_thread t u is =
    let h = both (eqb u.client t.client) (eqb u.index t.index) is in
    λ i. record { client = sym (eqb-true u.client t.client h.0) i; index = sym (eqb-true u.index t.index h.1) i }

no_thread : (t : ThreadId) (ts : List ThreadId) → ((j : ℕ) (d : ThreadId) → j < length ts → t ≢ slice_index_or ts j d) → thread_count t ts ≡ 0
no_thread t [] none = refl
no_thread t (u ∷ ts) none = by (is_thread t u) refl (no_thread t ts (λ j d within. none (suc j) d (omega (arith, within))))
  where
    by : (its : Bool) → is_thread t u ≡ its → thread_count t ts ≡ 0 → length (cond its (u ∷ filter (is_thread t) ts) (filter (is_thread t) ts)) ≡ 0
    by true is later = absurd (none 0 u (omega arith) (same_thread t u is))
    by false is later = later

one_thread : (t : ThreadId) (ts : List ThreadId) → AllPairs (λ one other. one ≢ other) ts → thread_count t ts ≤ 1
one_thread t [] once = omega arith
one_thread t (u ∷ ts) once = by (is_thread t u) refl (one_thread t ts (λ i j d before within. once (suc i) (suc j) d (omega (arith, before)) (omega (arith, within))))
  where
    by : (its : Bool) → is_thread t u ≡ its → thread_count t ts ≤ 1 → length (cond its (u ∷ filter (is_thread t) ts) (filter (is_thread t) ts)) ≤ 1
    by true is later =
        let none : thread_count t ts ≡ 0 = no_thread t ts (λ j d within. subst (λ x. x ≢ slice_index_or ts j d) (sym (same_thread t u is)) (once 0 (suc j) d (omega arith) (omega (arith, within)))) in
        omega arith
    by false is later = later

-- of one client's threads no more
fewer_own : (t : ThreadId) (c : ℕ) (ts : List ThreadId) → thread_count t (filter (λ u. eqb u.client c) ts) ≤ thread_count t ts
fewer_own t c [] = omega arith
fewer_own t c (u ∷ ts) = by (eqb u.client c) (is_thread t u) refl (fewer_own t c ts)
  where
    by : (its here : Bool) → is_thread t u ≡ here → thread_count t (filter (λ u. eqb u.client c) ts) ≤ thread_count t ts
        → thread_count t (cond its (u ∷ filter (λ u. eqb u.client c) ts) (filter (λ u. eqb u.client c) ts)) ≤ length (cond here (u ∷ filter (is_thread t) ts) (filter (is_thread t) ts))
    by false true is later = omega (arith, later)
    by false false is later = later
    by true true is later = let one : thread_count t (u ∷ filter (λ u. eqb u.client c) ts) ≡ suc (thread_count t (filter (λ u. eqb u.client c) ts)) = ap (λ b. length (cond b (u ∷ filter (is_thread t) (filter (λ u. eqb u.client c) ts)) (filter (is_thread t) (filter (λ u. eqb u.client c) ts)))) is in omega (arith, later, one)
    by true false is later = let none : thread_count t (u ∷ filter (λ u. eqb u.client c) ts) ≡ thread_count t (filter (λ u. eqb u.client c) ts) = ap (λ b. length (cond b (u ∷ filter (is_thread t) (filter (λ u. eqb u.client c) ts)) (filter (is_thread t) (filter (λ u. eqb u.client c) ts)))) is in omega (arith, later, none)

-- and of another's none
none_other : (t : ThreadId) (c : ℕ) (ts : List ThreadId) → eqb t.client c ≡ false → thread_count t (filter (λ u. eqb u.client c) ts) ≡ 0
none_other t c [] other = refl
none_other t c (u ∷ ts) other = by (eqb u.client c) (is_thread t u) refl refl (none_other t c ts other)
  where
    by : (its here : Bool) → eqb u.client c ≡ its → is_thread t u ≡ here → thread_count t (filter (λ u. eqb u.client c) ts) ≡ 0 → thread_count t (cond its (u ∷ filter (λ u. eqb u.client c) ts) (filter (λ u. eqb u.client c) ts)) ≡ 0
    by false here are is later = later
    by true true are is later = absurd (cc (sym other ∙ ap (λ (x : ThreadId). eqb x.client c) (same_thread t u is) ∙ are))
    by true false are is later = ap (λ b. length (cond b (u ∷ filter (is_thread t) (filter (λ u. eqb u.client c) ts)) (filter (is_thread t) (filter (λ u. eqb u.client c) ts)))) is ∙ later

module _ (p : Settings) (once : AllPairs (λ one other. one ≢ other) p.threads) where
  -- as often as in the three parts
  parts : (slot : Slot) → times slot (slots p) ≡ times slot (flat_map (client_slots p) (clients_of p)) + times slot (map TakesUp (clients_of p)) + times slot (flat_map (λ c. Loses c ∷ Breaks c ∷ []) (clients_of p))
  parts slot = times_both slot (flat_map (client_slots p) (clients_of p) ++ map TakesUp (clients_of p)) (flat_map (λ c. Loses c ∷ Breaks c ∷ []) (clients_of p))
      ∙ ap (λ n. n + times slot (flat_map (λ c. Loses c ∷ Breaks c ∷ []) (clients_of p))) (times_both slot (flat_map (client_slots p) (clients_of p)) (map TakesUp (clients_of p)))

  -- a client's own slots
  client_part : (slot : Slot) (c : ℕ) → times slot (client_slots p c) ≡ times slot (map Acts (threads_of p c)) + times slot (TakesDown c ∷ Flushes c ∷ [])
  client_part slot c = times_both slot (map Acts (threads_of p c)) (TakesDown c ∷ Flushes c ∷ [])

  stands_once : (slot : Slot) → times slot (slots p) ≤ 1
  stands_once (Acts t) =
      let own : times (Acts t) (client_slots p t.client) ≤ 1 = omega (arith, client_part (Acts t) t.client, acts_made t (threads_of p t.client), fewer_own t t.client p.threads, one_thread t p.threads once) in
      let all : times (Acts t) (flat_map (client_slots p) (clients_of p)) ≤ count_of t.client (clients_of p) =
      times_flat (Acts t) (client_slots p) t.client own (λ c other. client_part (Acts t) c ∙ omega (arith, acts_made t (threads_of p c), none_other t c p.threads other)) (clients_of p) in
      omega (arith, parts (Acts t), all, once_up_to t.client p.clients, none_made TakesUp (Acts t) (λ c. refl) (clients_of p), times_nowhere (Acts t) (λ c. Loses c ∷ Breaks c ∷ []) (λ c. refl) (clients_of p))
  stands_once (TakesDown d) =
      let one : times (TakesDown d) (TakesDown d ∷ Flushes d ∷ []) ≡ 1 = ap (λ b. length (cond b (TakesDown d ∷ []) [])) (eq-eqb d d refl) in
      let own : times (TakesDown d) (client_slots p d) ≤ 1 = omega (arith, client_part (TakesDown d) d, none_made Acts (TakesDown d) (λ t. refl) (threads_of p d), one) in
      let all : times (TakesDown d) (flat_map (client_slots p) (clients_of p)) ≤ count_of d (clients_of p) =
      times_flat (TakesDown d) (client_slots p) d own (λ c other. client_part (TakesDown d) c ∙ ap (λ n. n + times (TakesDown d) (TakesDown c ∷ Flushes c ∷ [])) (none_made Acts (TakesDown d) (λ t. refl) (threads_of p c)) ∙ ap (λ b. 0 + length (cond b (TakesDown c ∷ []) [])) other) (clients_of p) in
      omega (arith, parts (TakesDown d), all, once_up_to d p.clients, none_made TakesUp (TakesDown d) (λ c. refl) (clients_of p), times_nowhere (TakesDown d) (λ c. Loses c ∷ Breaks c ∷ []) (λ c. refl) (clients_of p))
  stands_once (Flushes d) =
      let one : times (Flushes d) (TakesDown d ∷ Flushes d ∷ []) ≡ 1 = ap (λ b. length (cond b (Flushes d ∷ []) [])) (eq-eqb d d refl) in
      let own : times (Flushes d) (client_slots p d) ≤ 1 = omega (arith, client_part (Flushes d) d, none_made Acts (Flushes d) (λ t. refl) (threads_of p d), one) in
      let all : times (Flushes d) (flat_map (client_slots p) (clients_of p)) ≤ count_of d (clients_of p) =
      times_flat (Flushes d) (client_slots p) d own (λ c other. client_part (Flushes d) c ∙ ap (λ n. n + times (Flushes d) (TakesDown c ∷ Flushes c ∷ [])) (none_made Acts (Flushes d) (λ t. refl) (threads_of p c)) ∙ ap (λ b. 0 + length (cond b (Flushes c ∷ []) [])) other) (clients_of p) in
      omega (arith, parts (Flushes d), all, once_up_to d p.clients, none_made TakesUp (Flushes d) (λ c. refl) (clients_of p), times_nowhere (Flushes d) (λ c. Loses c ∷ Breaks c ∷ []) (λ c. refl) (clients_of p))
  stands_once (TakesUp d) =
      omega (
        arith,
        parts (TakesUp d),
        takings d (clients_of p),
        once_up_to d p.clients,
        times_nowhere (TakesUp d) (client_slots p) (λ c. client_part (TakesUp d) c ∙ omega (arith, none_made Acts (TakesUp d) (λ t. refl) (threads_of p c))) (clients_of p),
        times_nowhere (TakesUp d) (λ c. Loses c ∷ Breaks c ∷ []) (λ c. refl) (clients_of p),
      )
  stands_once (Loses d) =
      let one : times (Loses d) (Loses d ∷ Breaks d ∷ []) ≤ 1 = subst (λ b. length (cond b (Loses d ∷ []) []) ≤ 1) (sym (eq-eqb d d refl)) (omega arith) in
      let all : times (Loses d) (flat_map (λ c. Loses c ∷ Breaks c ∷ []) (clients_of p)) ≤ count_of d (clients_of p) =
      times_flat (Loses d) (λ c. Loses c ∷ Breaks c ∷ []) d one (λ c other. ap (λ b. length (cond b (Loses c ∷ []) [])) other) (clients_of p) in
      omega (
        arith,
        parts (Loses d),
        all,
        once_up_to d p.clients,
        none_made TakesUp (Loses d) (λ c. refl) (clients_of p),
        times_nowhere (Loses d) (client_slots p) (λ c. client_part (Loses d) c ∙ omega (arith, none_made Acts (Loses d) (λ t. refl) (threads_of p c))) (clients_of p),
      )
  stands_once (Breaks d) =
      let one : times (Breaks d) (Loses d ∷ Breaks d ∷ []) ≤ 1 = subst (λ b. length (cond b (Breaks d ∷ []) []) ≤ 1) (sym (eq-eqb d d refl)) (omega arith) in
      let all : times (Breaks d) (flat_map (λ c. Loses c ∷ Breaks c ∷ []) (clients_of p)) ≤ count_of d (clients_of p) =
      times_flat (Breaks d) (λ c. Loses c ∷ Breaks c ∷ []) d one (λ c other. ap (λ b. length (cond b (Breaks c ∷ []) [])) other) (clients_of p) in
      omega (
        arith,
        parts (Breaks d),
        all,
        once_up_to d p.clients,
        none_made TakesUp (Breaks d) (λ c. refl) (clients_of p),
        times_nowhere (Breaks d) (client_slots p) (λ c. client_part (Breaks d) c ∙ omega (arith, none_made Acts (Breaks d) (λ t. refl) (threads_of p c))) (clients_of p),
      )

pub rounds_go_on : RoundsGoOn
rounds_go_on p once slot place is = up_to_place slot (slots p) place is (stands_once p once slot)

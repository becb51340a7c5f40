-- Requests of a lock, each of another client.
use Rattle.std.proofs.Common.{ℕ, ◌≤◌, ◌≡◌, arith, length, get_or, refl, sym, ◌∙◌, ap, Bool, true, false, cond, not, eqb, ◌||◌, List, [], ◌∷◌, ◌++◌, map, filter}
use Rattle.std.proofs.lemmas.Bool.{eq-eqb, eqb-true}
use Rattle.std.specs.List.{list_any}
use Rattle.dso_law.specs.Granting.{Waiter, without_client}
use Rattle.dso_locks.specs.declared.queue.Request.{Request}
use Rattle.dso_locks.specs.Requests.{waiter_of, AreDifferent}

-- a client has a request in both forms or in none
pub has_mapped : (c : ℕ) (requests : List Request) → list_any (λ request. eqb request.client c) requests ≡ list_any (λ waiter. eqb waiter.client c) (map waiter_of requests)
has_mapped c [] = refl
has_mapped c (request ∷ requests) = ap (λ b. eqb request.client c || b) (has_mapped c requests)

-- those of other clients in both forms
pub without_mapped : (c : ℕ) (requests : List Request) → map waiter_of (filter (λ request. not (eqb request.client c)) requests) ≡ without_client c (map waiter_of requests)
without_mapped c [] = refl
without_mapped c (request ∷ requests) = by (eqb request.client c) (without_mapped c requests)
  where
    by : (b : Bool) → map waiter_of (filter (λ other. not (eqb other.client c)) requests) ≡ without_client c (map waiter_of requests)
        → map waiter_of (cond (not b) (request ∷ filter (λ other. not (eqb other.client c)) requests) (filter (λ other. not (eqb other.client c)) requests)) ≡ cond (not b) (waiter_of request ∷ without_client c (map waiter_of requests)) (without_client c (map waiter_of requests))
    by true onward = onward
    by false onward = ap (λ queue. waiter_of request ∷ queue) onward

-- neither of two tests holds
neither : (a b : Bool) → (a || b) ≡ false → (a ≡ false) × (b ≡ false)
neither true b e = absurd (cc e)
neither false b e = (refl, e)

-- without a client that has no request all stay
pub without_none : (c : ℕ) (queue : List Waiter) → list_any (λ waiter. eqb waiter.client c) queue ≡ false → without_client c queue ≡ queue
without_none c [] e = refl
without_none c (waiter ∷ queue) e =
    let h = neither (eqb waiter.client c) (list_any (λ other. eqb other.client c) queue) e in
    rw (h.0, without_none c queue h.1) refl

-- the first request of all that differ stands before those of other clients
pub first_apart : (waiter : Waiter) (queue : List Waiter) → AreDifferent (waiter ∷ queue) → waiter ∷ queue ≡ waiter ∷ without_client waiter.client (waiter ∷ queue)
first_apart waiter queue differ = rw (eq-eqb waiter.client waiter.client refl, without_none waiter.client queue differ.0) refl

-- a client that has none in a queue has none without some of it
none_without : (c d : ℕ) (queue : List Waiter) → list_any (λ waiter. eqb waiter.client c) queue ≡ false → list_any (λ waiter. eqb waiter.client c) (without_client d queue) ≡ false
none_without c d [] e = refl
none_without c d (waiter ∷ queue) e =
    let h = neither (eqb waiter.client c) (list_any (λ other. eqb other.client c) queue) e in
    by (eqb waiter.client d) h.0 (none_without c d queue h.1)
  where
    by : (b : Bool) → eqb waiter.client c ≡ false → list_any (λ other. eqb other.client c) (without_client d queue) ≡ false
        → list_any (λ other. eqb other.client c) (cond (not b) (waiter ∷ without_client d queue) (without_client d queue)) ≡ false
    by true here onward = onward
    by false here onward = rw (here, onward) refl

-- some of requests that differ do
pub different_without : (d : ℕ) (queue : List Waiter) → AreDifferent queue → AreDifferent (without_client d queue)
different_without d [] differ = tt
different_without d (waiter ∷ queue) differ = by (eqb waiter.client d) (different_without d queue differ.1)
  where
    by : (b : Bool) → AreDifferent (without_client d queue) → AreDifferent (cond (not b) (waiter ∷ without_client d queue) (without_client d queue))
    by true onward = onward
    by false onward = (none_without waiter.client d queue differ.0, onward)

-- a client's number is told from another either way
flipped : (a b : ℕ) → eqb a b ≡ false → eqb b a ≡ false
flipped a b e = by (eqb b a) refl
  where
    by : (t : Bool) → eqb b a ≡ t → t ≡ false
    by true h = absurd (cc (sym e ∙ eq-eqb a b (sym (eqb-true b a h))))
    by false h = refl

-- a client has none in a queue with one more of another client
none_added : (c : ℕ) (waiter : Waiter) (queue : List Waiter) → list_any (λ other. eqb other.client c) queue ≡ false → eqb waiter.client c ≡ false → list_any (λ other. eqb other.client c) (queue ++ waiter ∷ []) ≡ false
none_added c waiter [] e apart = rw apart refl
none_added c waiter (first ∷ queue) e apart =
    let h = neither (eqb first.client c) (list_any (λ other. eqb other.client c) queue) e in
    rw (h.0, none_added c waiter queue h.1 apart) refl

-- one more request of a client that has none
pub different_added : (waiter : Waiter) (queue : List Waiter) → list_any (λ other. eqb other.client waiter.client) queue ≡ false → AreDifferent queue → AreDifferent (queue ++ waiter ∷ [])
different_added waiter [] e differ = (refl, tt)
different_added waiter (first ∷ queue) e differ =
    let h = neither (eqb first.client waiter.client) (list_any (λ other. eqb other.client waiter.client) queue) e in
    (none_added first.client waiter queue differ.0 (flipped first.client waiter.client h.0), different_added waiter queue h.1 differ.1)

-- what comes first among requests that differ stands before those of other clients
pub first_found : (requests : List Request) (none : Request) → AreDifferent (map waiter_of requests) → 1 ≤ length requests → map waiter_of requests ≡ waiter_of (get_or requests 0 none) ∷ without_client (get_or requests 0 none).client (map waiter_of requests)
first_found [] none differ some = absurd (omega arith)
first_found (request ∷ requests) none differ some = first_apart (waiter_of request) (map waiter_of requests) differ

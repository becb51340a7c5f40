-- A journal is finished exactly where no client keeps it going.
use Rattle.std.specs.List.{list_any, AllByRecursion}
use Rattle.std.proofs.Common.{ℕ, ◌≡◌, refl, sym, ◌∙◌, ap, Bool, true, false, cond, eqb, not, ◌&&◌, ◌||◌, List, [], ◌∷◌, filter}
use Rattle.dso_base.specs.declared.journal.Entry.{Entry}
use Rattle.dso_base.specs.declared.journal.Node.TheVariants.{Server}
use Rattle.dso_base.specs.declared.lock.ThreadId.{ThreadId}
use Rattle.dso_plain.proofs.keys.SameKeys.{number_self, same_number}
use Rattle.dso_lookup.proofs.Tests.{both, left_holds, right_holds, same_tests}
use Rattle.dso_law.specs.Settings.{Settings, clients_of, threads_of}
use Rattle.dso_law.specs.Channels.{down_in_flight, up_in_flight}
use Rattle.dso_law.specs.Entries.{entries_of}
use Rattle.dso_law.specs.ServerReadings.{is_lost}
use Rattle.dso_legal.specs.Slots.{has_ended, is_any, is_loss_or_break_due, is_finished, is_over, is_quiet}
use Rattle.dso_world.specs.Busy.{is_busy}

-- ---- lists of which one passes

any_same : {X : Type 0} (f g : X → Bool) → ((x : X) → f x ≡ g x) → (xs : List X) → list_any f xs ≡ list_any g xs
any_same f g same xs = ap (λ test. list_any test xs) (λ i x. same x i)

four : (a b c d : Bool) → ((a || b) || (c || d)) ≡ ((a || c) || (b || d))
four true b c d = refl
four false true true d = refl
four false true false d = refl
four false false c d = refl

any_either : {X : Type 0} (f g : X → Bool) (xs : List X) → list_any (λ x. f x || g x) xs ≡ (list_any f xs || list_any g xs)
any_either f g [] = refl
any_either f g (x ∷ xs) = ap (λ b. (f x || g x) || b) (any_either f g xs) ∙ four (f x) (g x) (list_any f xs) (list_any g xs)

-- one that passes is found
found : (f : ℕ → Bool) (c : ℕ) (cs : List ℕ) → list_any (eqb c) cs ≡ true → f c ≡ true → list_any f cs ≡ true
found f c [] its is = its
found f c (d ∷ cs) its is = by (eqb c d) refl its (λ there. found f c cs there is)
  where
    by : (b : Bool) → eqb c d ≡ b → (b || list_any (eqb c) cs) ≡ true → (list_any (eqb c) cs ≡ true → list_any f cs ≡ true) → (f d || list_any f cs) ≡ true
    by true same its later = left_holds (f d) (list_any f cs) (ap f (sym (same_number c d same)) ∙ is)
    by false other its later = right_holds (f d) (list_any f cs) (later its)

-- what passes one test passes the other
any_wider : {X : Type 0} (f g : X → Bool) → ((x : X) → f x ≡ true → g x ≡ true) → (xs : List X) → list_any f xs ≡ true → list_any g xs ≡ true
any_wider f g then [] is = is
any_wider f g then (x ∷ xs) is = by (f x) refl is (any_wider f g then xs)
  where
    by : (b : Bool) → f x ≡ b → (b || list_any f xs) ≡ true → (list_any f xs ≡ true → list_any g xs ≡ true) → (g x || list_any g xs) ≡ true
    by true here is later = left_holds (g x) (list_any g xs) (then x here)
    by false none is later = right_holds (g x) (list_any g xs) (later is)

-- ---- threads, by their clients

and_both : (a b : Bool) → a ≡ true → b ≡ true → (a && b) ≡ true
and_both true b first second = second
and_both false b first second = absurd (cc first)

module _ (alive : ℕ → Bool) (on : ThreadId → Bool) where
  -- a thread that goes on, of a client that is alive
  abbrev goes : ThreadId → Bool
  goes t = alive t.client && on t

  -- a client that is alive, of which one of these threads goes on
  abbrev has_one : List ThreadId → ℕ → Bool
  has_one threads c = alive c && list_any on (filter (λ t. eqb t.client c) threads)

  -- with one thread more
  has_more : (t : ThreadId) (threads : List ThreadId) (c : ℕ) → has_one threads c ≡ true → has_one (t ∷ threads) c ≡ true
  has_more t threads c is =
      let both_are = both (alive c) (list_any on (filter (λ t. eqb t.client c) threads)) is in
      and_both (alive c) (list_any on (filter (λ t. eqb t.client c) (t ∷ threads))) both_are.0 (by (eqb t.client c) both_are.1)
    where
      by : (its : Bool) → list_any on (filter (λ t. eqb t.client c) threads) ≡ true → list_any on (cond its (t ∷ filter (λ t. eqb t.client c) threads) (filter (λ t. eqb t.client c) threads)) ≡ true
      by true is = right_holds (on t) (list_any on (filter (λ t. eqb t.client c) threads)) is
      by false is = is

  has_first : (t : ThreadId) (threads : List ThreadId) → goes t ≡ true → has_one (t ∷ threads) t.client ≡ true
  has_first t threads is =
      let both_are = both (alive t.client) (on t) is in
      and_both (alive t.client) (list_any on (filter (λ u. eqb u.client t.client) (t ∷ threads))) both_are.0
      (ap (λ b. list_any on (cond b (t ∷ filter (λ u. eqb u.client t.client) threads) (filter (λ u. eqb u.client t.client) threads))) (number_self t.client)
      ∙ left_holds (on t) (list_any on (filter (λ u. eqb u.client t.client) threads)) both_are.1)

  -- where one thread goes on, its client has one
  up : (cs : List ℕ) (threads : List ThreadId) → AllByRecursion (λ t. list_any (eqb t.client) cs ≡ true) threads → list_any goes threads ≡ true → list_any (has_one threads) cs ≡ true
  up cs [] there is = absurd (cc is)
  up cs (t ∷ threads) there is = by (goes t) refl is (up cs threads there.1)
    where
      by : (b : Bool) → goes t ≡ b → (b || list_any goes threads) ≡ true → (list_any goes threads ≡ true → list_any (has_one threads) cs ≡ true) → list_any (has_one (t ∷ threads)) cs ≡ true
      by true here is later = found (has_one (t ∷ threads)) t.client cs there.0 (has_first t threads here)
      by false none is later = any_wider (has_one threads) (has_one (t ∷ threads)) (has_more t threads) cs (later is)

  -- where a client has one, it goes on
  one_goes : (c : ℕ) (threads : List ThreadId) → alive c ≡ true → list_any on (filter (λ t. eqb t.client c) threads) ≡ true → list_any goes threads ≡ true
  one_goes c [] its is = is
  one_goes c (t ∷ threads) its is = by (eqb t.client c) refl (on t) refl is (one_goes c threads its)
    where
      by : (own : Bool) → eqb t.client c ≡ own → (going : Bool) → on t ≡ going → list_any on (cond own (t ∷ filter (λ t. eqb t.client c) threads) (filter (λ t. eqb t.client c) threads)) ≡ true
          → (list_any on (filter (λ t. eqb t.client c) threads) ≡ true → list_any goes threads ≡ true) → (goes t || list_any goes threads) ≡ true
      by false other going on_is is later = right_holds (goes t) (list_any goes threads) (later is)
      by true same true here is later = left_holds (goes t) (list_any goes threads) (and_both (alive t.client) (on t) (ap alive (same_number t.client c same) ∙ its) here)
      by true same false none is later = right_holds (goes t) (list_any goes threads) (later (ap (λ b. b || list_any on (filter (λ t. eqb t.client c) threads)) (sym none) ∙ is))

  down : (cs : List ℕ) (threads : List ThreadId) → list_any (has_one threads) cs ≡ true → list_any goes threads ≡ true
  down [] threads is = absurd (cc is)
  down (c ∷ cs) threads is = by (has_one threads c) refl is (down cs threads)
    where
      by : (b : Bool) → has_one threads c ≡ b → (b || list_any (has_one threads) cs) ≡ true → (list_any (has_one threads) cs ≡ true → list_any goes threads ≡ true) → list_any goes threads ≡ true
      by true here is later = let both_are = both (alive c) (list_any on (filter (λ t. eqb t.client c) threads)) here in one_goes c threads both_are.0 both_are.1
      by false none is later = later is

  by_client : (cs : List ℕ) (threads : List ThreadId) → AllByRecursion (λ t. list_any (eqb t.client) cs ≡ true) threads → list_any goes threads ≡ list_any (has_one threads) cs
  by_client cs threads there = same_tests (list_any goes threads) (list_any (has_one threads) cs) (up cs threads there) (down cs threads)

-- ---- finished

none_of_three : (a b c : Bool) → (not a && (not b && not c)) ≡ not (a || (b || c))
none_of_three true b c = refl
none_of_three false true c = refl
none_of_three false false c = refl

nor : (a b : Bool) → not (a || b) ≡ (not a && not b)
nor true b = refl
nor false b = refl

-- the parts that keep a client busy, as its word has them and side by side
side_by_side : (due lost on flying : Bool) → ((not lost && on) || (not (lost || not flying) || due)) ≡ (due || (not lost && (on || not (lost || not flying))))
side_by_side true true on flying = refl
side_by_side false true on flying = refl
side_by_side true false true flying = refl
side_by_side false false true flying = refl
side_by_side true false false true = refl
side_by_side true false false false = refl
side_by_side false false false true = refl
side_by_side false false false false = refl

module _ (p : Settings) (es : List Entry) where
  -- a client that isn't lost has a thread that has not ended
  abbrev has_on : ℕ → Bool
  has_on = has_one (λ c. not (is_lost c (entries_of Server es))) (λ t. not (has_ended t es)) p.threads

  -- Finished: where each thread is of one of the clients, the journal is finished exactly where no client is busy.
  pub finished_is : AllByRecursion (λ t. list_any (eqb t.client) (clients_of p) ≡ true) p.threads → is_finished p es ≡ not (list_any (λ c. is_busy p c es) (clients_of p))
  finished_is there =
      let cs = clients_of p in
      let threads : list_any (λ t. not (is_over p es t)) p.threads ≡ list_any has_on cs =
      any_same (λ t. not (is_over p es t)) (goes (λ c. not (is_lost c (entries_of Server es))) (λ t. not (has_ended t es))) (λ t. nor (is_lost t.client (entries_of Server es)) (has_ended t es)) p.threads
      ∙ by_client (λ c. not (is_lost c (entries_of Server es))) (λ t. not (has_ended t es)) cs p.threads there in
      none_of_three (list_any (λ t. not (is_over p es t)) p.threads) (list_any (λ c. not (is_quiet p c es)) cs) (list_any (λ c. is_loss_or_break_due p c es) cs)
      ∙ ap (λ b. not (b || (list_any (λ c. not (is_quiet p c es)) cs || list_any (λ c. is_loss_or_break_due p c es) cs))) threads
      ∙ ap (λ b. not (list_any has_on cs || b)) (sym (any_either (λ c. not (is_quiet p c es)) (λ c. is_loss_or_break_due p c es) cs))
      ∙ ap not (sym (any_either has_on (λ c. not (is_quiet p c es) || is_loss_or_break_due p c es) cs))
      ∙ ap not (any_same (λ c. has_on c || (not (is_quiet p c es) || is_loss_or_break_due p c es)) (λ c. is_busy p c es)
      (λ c. side_by_side (is_loss_or_break_due p c es) (is_lost c (entries_of Server es)) (list_any (λ t. not (has_ended t es)) (threads_of p c)) (is_any (up_in_flight c es) || is_any (down_in_flight c es))) cs)

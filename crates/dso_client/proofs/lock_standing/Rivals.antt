-- Which other thread of a client holds a lock in conflict, by its list of holds.
use Rattle.std.specs.List.{list_any, AllByRecursion}
use Rattle.std.proofs.Common.{◌≡◌, ℕ, zero, suc, ◌<◌, refl, sym, ◌∙◌, ap, subst, arith, Bool, true, false, cond, eqb, not, ◌&&◌, ◌||◌, find, Some, None, List, [], ◌∷◌, ◌++◌, map, length}
use Rattle.std.proofs.lemmas.Bool.{eq-eqb, le-ltb, lt-ltb}
use Rattle.std.specs.Ordering.{is_lt, nat_cmp, ordering_then}
use Rattle.std.specs.declared.cmp.Ordering.TheVariants.{Less, Equal, Greater}
use Rattle.dso_base.specs.declared.lock.Level.{Level}
use Rattle.dso_base.specs.declared.lock.LockName.{LockName}
use Rattle.dso_base.specs.declared.lock.ThreadId.{ThreadId}
use Rattle.dso_base.specs.Following.{is_thread}
use Rattle.dso_hold.specs.Holds as hold
use Rattle.dso_hold.specs.Holds.{IsFirstInConflict, IsInConflict, NoConflict, is_before}
use Rattle.dso_plain.proofs.keys.SameKeys.{same_thread, thread_self}
use Rattle.dso_law.specs.RequestNeeds.{conflicts, hold_level, is_in_conflict}
use Rattle.dso_law.specs.Settings.{threads_of, up_to}
use Rattle.dso_law.specs.Threads.{hold_in, hold_of}
use Rattle.dso_client.specs.declared.client_state.ClientState.{ClientState}
use Rattle.dso_client.specs.StateStands.{StateStands}
use Rattle.dso_client.specs.Openings.{first_threads, thread_at}
use Rattle.dso_client.specs.RunPoints.{RunPoint}
use Rattle.dso_client.proofs.applied.Entered.{excludes_conflicts, none_conflicts}

-- ---- lists of threads that rise

-- each thread stands before all that follow it
abbrev Rising : List ThreadId → Type 0
Rising [] = Unit {0}
Rising (t ∷ threads) = AllByRecursion (λ u. is_before t u ≡ true) threads × Rising threads

-- one more, behind all
all_behind : (t last : ThreadId) (threads : List ThreadId) → AllByRecursion (λ u. is_before t u ≡ true) threads → is_before t last ≡ true → AllByRecursion (λ u. is_before t u ≡ true) (threads ++ last ∷ [])
all_behind t last [] all before = (before, tt)
all_behind t last (u ∷ threads) all before = (all.0, all_behind t last threads all.1 before)

rising_on : (threads : List ThreadId) (last : ThreadId) → Rising threads → AllByRecursion (λ t. is_before t last ≡ true) threads → Rising (threads ++ last ∷ [])
rising_on [] last rises before = (tt, tt)
rising_on (t ∷ threads) last rises before = (all_behind t last threads rises.0 before.0, rising_on threads last rises.1 before.1)

-- a list with one more, mapped
mapped_on : {A B : Type 0} (f : A → B) (xs : List A) (x : A) → map f (xs ++ x ∷ []) ≡ map f xs ++ f x ∷ []
mapped_on f [] x = refl
mapped_on f (y ∷ xs) x = ap (λ ys. f y ∷ ys) (mapped_on f xs x)

less_than : (i j : ℕ) → i < j → nat_cmp i j ≡ Less
less_than i j less = ap (λ b. cond b Less (cond (eqb i j) Equal Greater)) (lt-ltb i j less)

equal_self : (n : ℕ) → nat_cmp n n ≡ Equal
equal_self n = ap (λ b. cond b Less (cond (eqb n n) Equal Greater)) (le-ltb n n (omega arith)) ∙ ap (λ b. cond b Equal Greater) (eq-eqb n n refl)

-- of one client the thread of the lower index stands first
lower_first : (c i j : ℕ) → i < j → is_before (thread_at c i) (thread_at c j) ≡ true
lower_first c i j less = ap (λ o. is_lt (ordering_then o (nat_cmp i j))) (equal_self c) ∙ ap is_lt (less_than i j less)

below : (c n last : ℕ) → n < last → AllByRecursion (λ t. is_before t (thread_at c last) ≡ true) (first_threads c n)
below c zero last less = tt
below c (suc n) last less = subst (AllByRecursion (λ t. is_before t (thread_at c last) ≡ true)) (sym (mapped_on (thread_at c) (up_to n) (suc n)))
    (all_on (first_threads c n) (thread_at c (suc n)) (below c n last (omega (arith, less))) (lower_first c (suc n) last less))
  where
    all_on : (threads : List ThreadId) (t : ThreadId) → AllByRecursion (λ t. is_before t (thread_at c last) ≡ true) threads → is_before t (thread_at c last) ≡ true
        → AllByRecursion (λ t. is_before t (thread_at c last) ≡ true) (threads ++ t ∷ [])
    all_on [] t all it = (it, tt)
    all_on (u ∷ threads) t all it = (all.0, all_on threads t all.1 it)

-- the first threads of a client rise
first_rise : (c n : ℕ) → Rising (first_threads c n)
first_rise c zero = tt
first_rise c (suc n) = subst Rising (sym (mapped_on (thread_at c) (up_to n) (suc n)))
    (rising_on (first_threads c n) (thread_at c (suc n)) (first_rise c n) (below c n (suc n) (omega arith)))

-- ---- what is found in them

none_found : (test : ThreadId → Bool) (threads : List ThreadId) → ((t : ThreadId) → test t ≡ false) → find test threads ≡ None
none_found test [] fails = refl
none_found test (t ∷ threads) fails = ap (λ b. cond b (Some t) (find test threads)) (fails t) ∙ none_found test threads fails

-- a thread that is in a list that all stand behind
behind_it : (t u : ThreadId) (threads : List ThreadId) → AllByRecursion (λ v. is_before t v ≡ true) threads → list_any (is_thread u) threads ≡ true → is_before t u ≡ true
behind_it t u [] all its = absurd (cc its)
behind_it t u (v ∷ threads) all its = by (is_thread u v) refl its (behind_it t u threads all.1)
  where
    by : (b : Bool) → is_thread u v ≡ b → (b || list_any (is_thread u) threads) ≡ true → (list_any (is_thread u) threads ≡ true → is_before t u ≡ true) → is_before t u ≡ true
    by true same its later = ap (is_before t) (sym (same_thread u v same)) ∙ all.0
    by false same its later = later its

-- who passes, and before whom none does, is found
first_found : (test : ThreadId → Bool) (u : ThreadId) (threads : List ThreadId) → Rising threads → list_any (is_thread u) threads ≡ true → test u ≡ true
    → ((t : ThreadId) → test t ≡ true → is_before t u ≡ false) → find test threads ≡ Some u
first_found test u [] rises its passes first = absurd (cc its)
first_found test u (t ∷ threads) rises its passes first = by (is_thread u t) refl its (test t) refl (λ there. first_found test u threads rises.1 there passes first)
  where
    by : (a : Bool) → is_thread u t ≡ a → (a || list_any (is_thread u) threads) ≡ true → (b : Bool) → test t ≡ b → (list_any (is_thread u) threads ≡ true → find test threads ≡ Some u)
        → cond b (Some t) (find test threads) ≡ Some u
    by true same its true is later = ap Some (same_thread u t same)
    by true same its false is later = absurd (cc (sym is ∙ (ap test (same_thread u t same) ∙ passes)))
    by false same its true is later = absurd (cc (sym (first t is) ∙ behind_it t u threads rises.0 its))
    by false same its false is later = later its

-- ---- rivals

both_true : (a b : Bool) → (not a && b) ≡ true → (a ≡ false) × (b ≡ true)
both_true true b e = absurd (cc e)
both_true false b e = (refl, e)

module _ (at : RunPoint) (kept : ClientState) (stands : StateStands at kept) (t : ThreadId) (l : LockName) (level : Level) where
  abbrev is_rival : ThreadId → Bool
  is_rival = is_in_conflict at.settings at.client at.next t l level at.entries

  rival_there : (u : ThreadId) → IsInConflict t l level (hold.hold_in kept.lock_state.holds) u → is_rival u ≡ true
  rival_there u rival = by (is_thread t u) refl
    where
      conflicting : conflicts level (hold_level (hold_of u l at.entries)) ≡ true
      conflicting = sym (excludes_conflicts level (hold.hold_in kept.lock_state.holds (l, u)) ∙ ap (λ held. conflicts level (hold_level held)) (stands.lock_state.holds u l)) ∙ rival.excludes

      by : (b : Bool) → is_thread t u ≡ b → (not b && conflicts level (hold_level (hold_of u l at.entries))) ≡ true
      by true e = absurd (rival.other (same_thread t u e))
      by false e = conflicting

  is_in : (u : ThreadId) → is_rival u ≡ true → IsInConflict t l level (hold.hold_in kept.lock_state.holds) u
  is_in u e =
      let parts = both_true (is_thread t u) (conflicts level (hold_level (hold_of u l at.entries))) e in
      record {
        other = λ same. absurd (cc (sym parts.0 ∙ (ap (is_thread t) same ∙ thread_self t)));
        excludes = excludes_conflicts level (hold.hold_in kept.lock_state.holds (l, u)) ∙ (ap (λ held. conflicts level (hold_level held)) (stands.lock_state.holds u l) ∙ parts.1);
      }

  pub none_rivals : NoConflict t l level (hold.hold_in kept.lock_state.holds) → find is_rival (threads_of at.settings at.client) ≡ None
  none_rivals none = none_found is_rival (threads_of at.settings at.client) (λ u. by u (is_rival u) refl)
    where
      by : (u : ThreadId) (b : Bool) → is_rival u ≡ b → b ≡ false
      by u true e = absurd (none u (is_in u e))
      by u false e = refl

  pub first_rival : (u : ThreadId) → IsFirstInConflict t l level (hold.hold_in kept.lock_state.holds) u → find is_rival (threads_of at.settings at.client) ≡ Some u
  first_rival u first = first_found is_rival u (threads_of at.settings at.client)
      (subst Rising (sym stands.numbered ∙ stands.places) (first_rise at.client (length kept.contexts.items)))
      (by (list_any (is_thread u) (threads_of at.settings at.client)) refl) passes (λ v e. first.first v (is_in v e))
    where
      passes : is_rival u ≡ true
      passes = rival_there u first.conflict

      by : (b : Bool) → list_any (is_thread u) (threads_of at.settings at.client) ≡ b → b ≡ true
      by true its = refl
      by false stranger =
          let parts = both_true (is_thread t u) (conflicts level (hold_level (hold_of u l at.entries))) passes in
          let none : conflicts level (hold_level (hold_of u l at.entries)) ≡ false = ap (λ holds. conflicts level (hold_level (hold_in l holds))) (stands.facts.holdless u stranger) ∙ none_conflicts level in
          absurd (cc (sym none ∙ parts.1))

-- The first threads of a row of holds.
use Rattle.std.proofs.Common.{ℕ, ◌≡◌, ◌≢◌, refl, sym, ◌∙◌, ap, Bool, true, false, cond, eqb, not, ◌&&◌, is_some, Option, Some, None, List, [], ◌∷◌}
use Rattle.std.proofs.lemmas.Bool.{eq-eqb, eqb-true}
use Rattle.std.proofs.lemmas.Cmp.{nat_cmp_total}
use Rattle.std.specs.BTreeMap.{is_at}
use Rattle.std.specs.List.{AllByRecursion}
use Rattle.std.specs.List.Sorted.{IsStrictlySortedBy}
use Rattle.std.specs.Map.{keys_of, lookup}
use Rattle.std.specs.Ordering.{is_eq, is_lt, nat_cmp, ordering_reverse, ordering_then}
use Rattle.std.specs.declared.cmp.Ordering.{Ordering}
use Rattle.std.specs.declared.cmp.Ordering.TheVariants.{Less, Equal, Greater}
use Rattle.dso_base.specs.declared.lock.ThreadId.{ThreadId}
use Rattle.dso_hold.specs.declared.held.Held.{Held}
use Rattle.dso_hold.specs.Holds.{is_before}
use Rattle.dso_lookup.specs.Orders.{thread_order}
use Rattle.dso_lookup.proofs.Tests.{number_at}
use Rattle.dso_hold.proofs.Places.{same_thread}

-- how a thread of these holds
abbrev pub held_by : List (ThreadId × Held) → ThreadId → Option Held
held_by holders u = lookup (is_at (thread_order u)) holders

-- two orders one after the other, the other way round
then_reversed : (a b : Ordering) → ordering_then (ordering_reverse a) (ordering_reverse b) ≡ ordering_reverse (ordering_then a b)
then_reversed Less b = refl
then_reversed Equal b = refl
then_reversed Greater b = refl

reversed : (t u : ThreadId) → thread_order t u ≡ ordering_reverse (thread_order u t)
reversed t u = (λ i. ordering_then (nat_cmp_total.antisymm t.client u.client i) (nat_cmp_total.antisymm t.index u.index i)) ∙ then_reversed (nat_cmp u.client t.client) (nat_cmp u.index t.index)

both_equal : (a b : Ordering) → is_eq a ≡ true → is_eq b ≡ true → is_eq (ordering_then a b) ≡ true
both_equal Less b e f = absurd (cc e)
both_equal Equal b e f = f
both_equal Greater b e f = absurd (cc e)

number_self : (n : ℕ) → is_eq (nat_cmp n n) ≡ true
number_self n = number_at n n ∙ eq-eqb n n refl

thread_self : (t : ThreadId) → is_at (thread_order t) t ≡ true
thread_self t = both_equal (nat_cmp t.client t.client) (nat_cmp t.index t.index) (number_self t.client) (number_self t.index)

equal_not_less : (o : Ordering) → is_eq o ≡ true → is_lt o ≡ false
equal_not_less Less e = absurd (cc e)
equal_not_less Equal e = refl
equal_not_less Greater e = refl

-- a thread among these stands behind one that all of them stand behind
behind : (t u : ThreadId) (holders : List (ThreadId × Held)) → AllByRecursion (λ v. thread_order t v ≡ Less) (keys_of holders) → is_some (held_by holders u) ≡ true → thread_order t u ≡ Less
behind t u [] all e = absurd (cc e)
behind t u (x ∷ rest) all e = by (behind t u rest all.1) (is_at (thread_order u) x.0) refl e
  where
    by : (is_some (held_by rest u) ≡ true → thread_order t u ≡ Less) → (b : Bool) → is_at (thread_order u) x.0 ≡ b → is_some (cond b (Some x.1) (held_by rest u)) ≡ true → thread_order t u ≡ Less
    by later true at e = ap (thread_order t) (sym (same_thread u x.0 at)) ∙ all.0
    by later false at e = later e

-- the first thread holds as it stands there
pub first_held : (t : ThreadId) (held : Held) (rest : List (ThreadId × Held)) → held_by ((t, held) ∷ rest) t ≡ Some held
first_held t held rest = ap (λ b. cond b (Some held) (held_by rest t)) (thread_self t)

-- none stands before the first
pub first_least : (t : ThreadId) (held : Held) (rest : List (ThreadId × Held)) → IsStrictlySortedBy thread_order (keys_of ((t, held) ∷ rest)) → (u : ThreadId) → is_some (held_by ((t, held) ∷ rest) u) ≡ true → is_before u t ≡ false
unfolding IsStrictlySortedBy
first_least t held rest sorted u e = by (is_at (thread_order u) t) refl e
  where
    by : (b : Bool) → is_at (thread_order u) t ≡ b → is_some (cond b (Some held) (held_by rest u)) ≡ true → is_before u t ≡ false
    by true at e = equal_not_less (thread_order u t) at
    by false at e = ap is_lt (reversed u t ∙ ap ordering_reverse (behind t u rest sorted.0 e))

-- behind the first the threads still rise
pub rest_rises : (t : ThreadId) (held : Held) (rest : List (ThreadId × Held)) → IsStrictlySortedBy thread_order (keys_of ((t, held) ∷ rest)) → IsStrictlySortedBy thread_order (keys_of rest)
unfolding IsStrictlySortedBy
rest_rises t held rest sorted = sorted.1

-- another thread is among the rest
pub other_held : (t : ThreadId) (held : Held) (rest : List (ThreadId × Held)) (u : ThreadId) → u ≢ t → held_by ((t, held) ∷ rest) u ≡ held_by rest u
other_held t held rest u other = by (is_at (thread_order u) t) refl
  where
    by : (b : Bool) → is_at (thread_order u) t ≡ b → cond b (Some held) (held_by rest u) ≡ held_by rest u
    by true at = absurd (other (sym (same_thread u t at)))
    by false at = refl

-- the second thread stands behind the first
pub second_differs : (t u : ThreadId) (held other : Held) (rest : List (ThreadId × Held)) → IsStrictlySortedBy thread_order (keys_of ((t, held) ∷ (u, other) ∷ rest)) → u ≢ t
unfolding IsStrictlySortedBy
second_differs t u held other rest sorted same = absurd (cc (sym (ap is_eq (ap (thread_order t) (sym same) ∙ sorted.0.0)) ∙ thread_self t))

-- a thread that doesn't differ in a number is the same
pub not_other : (t u : ThreadId) → not (eqb t.client u.client && eqb t.index u.index) ≡ false → t ≡ u
not_other t u e = by (eqb t.client u.client) refl (eqb t.index u.index) refl e
  where
    by : (a : Bool) → eqb t.client u.client ≡ a → (b : Bool) → eqb t.index u.index ≡ b → not (a && b) ≡ false → t ≡ u
    by true f true g e = λ i. record { client = eqb-true t.client u.client f i; index = eqb-true t.index u.index g i }
    by true f false g e = absurd (cc e)
    by false f b g e = absurd (cc e)

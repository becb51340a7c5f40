-- Lists that aren't empty, by their first element and the others.
use Rattle.std.specs.List.{list_any, AllByRecursion}
use Rattle.std.proofs.Common.{◌≡◌, suc, ◌-◌, ◌≤◌, ◌∙◌, ap, subst, arith, true, List, [], ◌∷◌, ◌++◌, map, length, take, drop, get_or}
use Rattle.std.proofs.lemmas.List.{take_all}
use Rattle.dso_base.specs.declared.lock.LockName.{LockName}
use Rattle.dso_base.specs.declared.message.Up.{Up}
use Rattle.dso_base.specs.declared.message.Up.TheVariants as up
use Rattle.dso_lease.specs.Leases.{standing_in, was_entered}
use Rattle.dso_client.specs.declared.lock_state.LockState.{LockState}
use Rattle.dso_client.specs.declared.thread_context.ThreadContext.{ThreadContext}
use Rattle.dso_client.specs.LockStateStands.{list_at}
use Rattle.dso_client.specs.RunPoints.{RunPoint}
use Rattle.dso_client.specs.LeaseReturns.{AddsDue, AreGivenBack, Distinct, given_back, is_of, is_wanted_by, wanted_lock}
use Rattle.dso_client.specs.ContextStands.{ContextStands}
use Rattle.dso_client.proofs.due.GivenBack.{more_given, rest_may}
use Rattle.dso_client.proofs.due.Settled.{adds_both}

-- the others, as a slice has them
abbrev pub others : {X : Type 0} → List X → List X
others xs = take (length xs - 1) (drop 1 xs)

pub others_are : {X : Type 0} (x : X) (xs : List X) → others (x ∷ xs) ≡ xs
others_are x xs =
    let many : suc (length xs) - 1 ≡ length xs = omega arith in
    ap (λ n. take n xs) many ∙ take_all (length xs) xs (omega arith)

-- one lease that is given back, and then the others
pub all_given : (locks : List LockName) (other : LockName) (old mid new : LockState) (before sent after : List Up) → 1 ≤ length locks
    → (was_entered (standing_in old.leases (get_or locks 0 other)) ≡ true → AreGivenBack (get_or locks 0 other ∷ []) old mid)
    → sent ≡ before ++ up.Return (get_or locks 0 other) (list_at old.lists (get_or locks 0 other)) ∷ []
    → (Distinct (others locks) → AllByRecursion (λ l. was_entered (standing_in mid.leases l) ≡ true) (others locks) → (after ≡ sent ++ given_back mid (others locks)) × AreGivenBack (others locks) mid new)
    → Distinct locks → AllByRecursion (λ l. was_entered (standing_in old.leases l) ≡ true) locks → (after ≡ before ++ given_back old locks) × AreGivenBack locks old new
all_given [] other old mid new before sent after some one said later distinct may = absurd (omega (arith, some))
all_given (l ∷ rest) other old mid new before sent after some one said later distinct may =
    let first = one may.0 in
    let more = subst (λ rest. Distinct rest → AllByRecursion (λ l. was_entered (standing_in mid.leases l) ≡ true) rest → (after ≡ sent ++ given_back mid rest) × AreGivenBack rest mid new) (others_are l rest) later in
    more_given l rest old mid first new before sent after distinct.0 said (more distinct.1 (rest_may l rest old mid first distinct.0 may.1))

-- the lock that one thread wants, and then those of the others
pub all_wanted : (at : RunPoint) (contexts : List ThreadContext) (one_context : ThreadContext) (old mid new : List LockName) → 1 ≤ length contexts → one_context ≡ get_or contexts 0 one_context
    → AddsDue at (λ k. is_of k (wanted_lock one_context.next)) old mid
    → (AllByRecursion (ContextStands at) (others contexts) → AddsDue at (λ k. list_any (is_wanted_by at k) (map (λ (context : ThreadContext). context.id) (others contexts))) mid new)
    → AllByRecursion (ContextStands at) contexts → AddsDue at (λ k. list_any (is_wanted_by at k) (map (λ (context : ThreadContext). context.id) contexts)) old new
all_wanted at [] one_context old mid new some its one later h = absurd (omega (arith, some))
all_wanted at (context ∷ contexts) one_context old mid new some its one later h =
    let more = subst (λ rest. AllByRecursion (ContextStands at) rest → AddsDue at (λ k. list_any (is_wanted_by at k) (map (λ (context : ThreadContext). context.id) rest)) mid new) (others_are context contexts) later in
    adds_both at (λ k. is_wanted_by at k context.id) (λ k. list_any (is_wanted_by at k) (map (λ (context : ThreadContext). context.id) contexts)) old mid new
    (subst (λ next. AddsDue at (λ k. is_of k (wanted_lock next)) old mid) (ap (λ (x : ThreadContext). x.next) its ∙ h.0.next) one) (more h.1)

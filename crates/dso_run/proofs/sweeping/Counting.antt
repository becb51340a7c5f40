-- How many objects are garbage: none at first, more by the collections, and at the end those of all collections.
use Rattle.std.proofs.Common.{ℕ, zero, suc, ◌≡◌, ◌≢◌, ◌≤◌, ◌<◌, ◌+◌, ◌*◌, ◌↔◌, ◌||◌, ◌⊎◌, inl, inr, refl, sym, ◌∙◌, ap, arith, Bool, true, false, eqb, cond, Option, Some, None, List, [], ◌∷◌, ◌++◌, length}
use Rattle.std.specs.List.{IsDistinct}
use Rattle.std.proofs.lemmas.Bool.{eqb-true}
use Rattle.std.proofs.Math.Nat.{lt_of_mul-lt-mul_right, mul-le-mul_right, suc-mul}
use Rattle.std.proofs.lemmas.List.{length-append}
use Rattle.dso_base.specs.declared.journal.Entry.{Entry}
use Rattle.dso_base.specs.declared.lock.ThreadId.{ThreadId}
use Rattle.dso_base.specs.declared.record.Body.{Body}
use Rattle.dso_base.specs.declared.request.Event.{Event}
use Rattle.dso_base.specs.declared.request.Request.{Request}
use Rattle.dso_base.specs.declared.value.Value.{Value}
use Rattle.dso_base.specs.Reached.{Reaches}
use Rattle.dso_gc.specs.Garbage.{IsIn}
use Rattle.dso_law.specs.Settings.{Settings}
use Rattle.dso_legal.specs.Collection.{IsGarbageAfter, IsSwept}
use Rattle.dso_lookup.specs.Search.{is_listed}
use Rattle.dso_run.specs.Swept.{AreSoMany}
use Rattle.dso_run.proofs.sweeping.Lists.{distinct_both, listed_both, suffix_of}

-- there are none where there is none
pub none_so_many : {IsOne : ℕ → Type 0} → ((o : ℕ) → IsOne o → ⊥) → AreSoMany IsOne 0
unfolding IsDistinct
none_so_many none = record {
  objects = [];
  different = tt;
  many = refl;
  exact = λ o. (λ is. absurd (cc is), λ one. absurd (none o one));
}

-- as many are of what is the same
pub same_so_many : {One Other : ℕ → Type 0} (count : ℕ) → ((o : ℕ) → One o ↔ Other o) → AreSoMany One count → AreSoMany Other count
same_so_many count same are = record {
  objects = are.objects;
  different = are.different;
  many = are.many;
  exact = λ o. (λ is. (same o).0 ((are.exact o).0 is), λ other. (are.exact o).1 ((same o).1 other));
}

-- what is listed in one of two lists is listed in the first, or in the second
in_either : (first second : Bool) → (first || second) ≡ true → (first ≡ true) ⊎ (second ≡ true)
in_either true second is = inl refl
in_either false second is = inr is

-- with those that are new there are so many more
pub more_so_many : {Before After : ℕ → Type 0} (count more : ℕ) → ((o : ℕ) → Before o → After o) → AreSoMany Before count
    → AreSoMany (λ o. After o × (Before o → ⊥)) more → AreSoMany After (count + more)
more_so_many {Before} {After} count more stays before newly = record {
  objects = before.objects ++ newly.objects;
  different = distinct_both before.objects newly.objects before.different newly.different
      (λ o was is. ((newly.exact o).0 is).1 ((before.exact o).0 was));
  many =
      let both = length-append before.objects newly.objects in
      let first = before.many in
      let second = newly.many in
      omega (arith, both, first, second);
  exact = λ o. (
    λ is. found o (in_either (is_listed o before.objects) (is_listed o newly.objects) (sym (listed_both before.objects newly.objects o) ∙ is)),
    λ after. listed_both before.objects newly.objects o ∙ listed o (is_listed o before.objects) refl after,
  );
}
  where
    found : (o : ℕ) → IsIn before.objects o ⊎ IsIn newly.objects o → After o
    found o (inl was) = stays o ((before.exact o).0 was)
    found o (inr is) = ((newly.exact o).0 is).0

    listed : (o : ℕ) (was : Bool) → is_listed o before.objects ≡ was → After o → (was || is_listed o newly.objects) ≡ true
    listed o true is after = refl
    listed o false is after =
        (newly.exact o).1 (after, λ one. let found : is_listed o before.objects ≡ true = (before.exact o).1 one in cc (is, found))

-- a program's settings, what its threads ask next, and what they hold
module _ (p : Settings) (next : ThreadId → List Event → Option Request) (frames : ThreadId → List Event → List Value) where
  -- before the first entry there is object 0 alone, which is a start
  only_root : (o : ℕ) (body : Body) → cond (eqb o 0) (Some body) None ≢ None → o ≡ 0
  only_root o body some = by (eqb o 0) refl some
    where
      by : (is : Bool) → eqb o 0 ≡ is → cond is (Some body) None ≢ None → o ≡ 0
      by true is some = eqb-true o 0 is
      by false is some = absurd (some refl)

  pub no_garbage_at_first : (o : ℕ) → IsGarbageAfter p next frames [] o → ⊥
  no_garbage_at_first o garbage = garbage.unreached (Reaches.begins o (inl (only_root o _ garbage.there)))

  -- AT THE END, where the last collection was after the greatest multiple of n entries:
  module _ (n : ℕ) (es later first : List Entry) (times count : ℕ) (whole : es ≡ later ++ first) (multiple : length first ≡ times * n) (few : length later < n)
      (stays : (between less : List Entry) → first ≡ between ++ less → (o : ℕ) → IsGarbageAfter p next frames less o → IsGarbageAfter p next frames first o) where
    -- what was garbage after the last is garbage after one
    swept_then : (o : ℕ) → IsGarbageAfter p next frames first o → IsSwept p next frames n es o
    swept_then o garbage = by times first whole multiple garbage
      where
        by : (times : ℕ) (first : List Entry) → es ≡ later ++ first → length first ≡ times * n → IsGarbageAfter p next frames first o → IsSwept p next frames n es o
        by zero [] whole multiple garbage = absurd (no_garbage_at_first o garbage)
        by zero (e ∷ first) whole multiple garbage = absurd (omega (arith, multiple))
        by (suc times) first whole multiple garbage =
            record { times = times; later = later; first = first; whole = whole; count = multiple; garbage = garbage }

    -- no multiple of n entries is greater than that of the last
    no_later : (rounds more : ℕ) → length later + times * n ≡ more + suc rounds * n → suc rounds * n ≤ times * n
    no_later rounds more same =
        let next : suc times * n ≡ times * n + n = suc-mul times n in
        let fewer : suc rounds * n < suc times * n = omega (arith, same, few, next) in
        let before : suc rounds < suc times = lt_of_mul-lt-mul_right n fewer in
        mul-le-mul_right n (omega (arith, before))

    -- and what was garbage after one is garbage after the last
    garbage_then : (o : ℕ) → IsSwept p next frames n es o → IsGarbageAfter p next frames first o
    garbage_then o swept =
        let long = length-append later first in
        let other = length-append swept.later swept.first in
        let same : later ++ first ≡ swept.later ++ swept.first = sym whole ∙ swept.whole in
        let lengths : length (later ++ first) ≡ length (swept.later ++ swept.first) = ap length same in
        let counted = swept.count in
        let less = no_later swept.times (length swept.later) (omega (arith, long, other, lengths, multiple, counted)) in
        let between = suffix_of later first swept.later swept.first same (omega (arith, less, multiple, counted)) in
        stays between.0 swept.first between.1 o swept.garbage

    -- so there are as many of all collections as were garbage after the last
    pub swept_count : AreSoMany (IsGarbageAfter p next frames first) count → AreSoMany (IsSwept p next frames n es) count
    swept_count are = same_so_many count (λ o. (swept_then o, garbage_then o)) are

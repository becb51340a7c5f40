-- Each object is made by one thread: how often an object stands in lists of those made.
use Rattle.std.specs.List.{list_any, AllByRecursion}
use Rattle.std.proofs.Common.{ℕ, ◌+◌, ◌<◌, ◌≤◌, ◌≡◌, ◌⊎◌, inl, inr, refl, sym, ◌∙◌, ap, subst, Bool, true, false, cond, eqb, ◌||◌, Option, Some, None, List, [], ◌∷◌, ◌++◌, arith}
use Rattle.dso_base.specs.declared.journal.Entry.{Entry}
use Rattle.dso_base.specs.declared.lock.ThreadId.{ThreadId}
use Rattle.dso_base.specs.declared.request.Event.{Event}
use Rattle.dso_base.specs.declared.request.Event.TheVariants.{Act, Lost}
use Rattle.dso_base.specs.declared.request.Reply.{Reply}
use Rattle.dso_base.specs.declared.request.Reply.TheVariants.{Made}
use Rattle.dso_base.specs.declared.request.Request.TheVariants.{New}
use Rattle.dso_base.specs.Following.{is_thread}
use Rattle.dso_plain.specs.History.{is_act_of}
use Rattle.dso_plain.specs.Touches.{Makes, MakesIn}
use Rattle.dso_plain.proofs.keys.SameKeys.{same_number, number_self, same_thread}
use Rattle.dso_law.specs.Entries.{by_event, add_event, events_in}
use Rattle.dso_legal.specs.MadeOnce.{objects_by_reply, objects_by, objects_made, objects_of_by, objects_of, Falls}
use Rattle.dso_legal.proofs.objects.BodyCounts.{none_more, count_reply}
use Rattle.dso_legal.proofs.leases.LeaseSteps.{no_both}
use Rattle.dso_legal.proofs.ids.Making.{fails}

both_grow : (r a b n : ℕ) → a + b ≤ n → a + b ≤ r + n
both_grow r a b n le = omega (arith, le)

left_grows : (r a b n : ℕ) → a + b ≤ n → (r + a) + b ≤ r + n
left_grows r a b n le = omega (arith, le)

right_grows : (r a b n : ℕ) → a + b ≤ n → a + (r + b) ≤ r + n
right_grows r a b n le = omega (arith, le)

one_grows : (r a n : ℕ) → a ≤ n → r + a ≤ r + n
one_grows r a n le = omega (arith, le)

other_grows : (r a n : ℕ) → a ≤ n → a ≤ r + n
other_grows r a n le = omega (arith, le)

module _ (o : ℕ) where
  -- how often the object is listed
  abbrev pub count_listed : List ℕ → ℕ
  count_listed [] = 0
  count_listed (x ∷ xs) = cond (eqb x o) 1 0 + count_listed xs

  pub count_replied : (reply : Reply) (objects : List ℕ) → count_listed (objects_by_reply reply objects) ≡ count_reply o reply + count_listed objects
  count_replied (Made x) objects = refl
  count_replied reply objects = none_more (count_listed objects)

  -- what a thread made, its client did
  within_event : (t : ThreadId) (event : Option Event) (mine all : List ℕ) → count_listed mine ≤ count_listed all → count_listed (by_event (objects_of_by t) event mine) ≤ count_listed (by_event objects_by event all)
  within_event t None mine all le = le
  within_event t (Some (Lost client)) mine all le = le
  within_event t (Some (Act w request reply woken)) mine all le = by (is_thread t w)
    where
      by : (b : Bool) → count_listed (cond b (objects_by_reply reply mine) mine) ≤ count_listed (objects_by_reply reply all)
      by true = subst (λ n. n ≤ count_listed (objects_by_reply reply all)) (sym (count_replied reply mine)) (subst (λ n. count_reply o reply + count_listed mine ≤ n) (sym (count_replied reply all))
          (one_grows (count_reply o reply) (count_listed mine) (count_listed all) le))
      by false = subst (λ n. count_listed mine ≤ n) (sym (count_replied reply all)) (other_grows (count_reply o reply) (count_listed mine) (count_listed all) le)

  pub within : (t : ThreadId) (es : List Entry) → count_listed (objects_of t es) ≤ count_listed (objects_made es)
  within t [] = omega arith
  within t (e ∷ es) = within_event t e.event (objects_of t es) (objects_made es) (within t es)

  -- what two threads made, their client did
  apart_event : (t u : ThreadId) → is_thread t u ≡ false → (event : Option Event) (mine other all : List ℕ) → count_listed mine + count_listed other ≤ count_listed all
      → count_listed (by_event (objects_of_by t) event mine) + count_listed (by_event (objects_of_by u) event other) ≤ count_listed (by_event objects_by event all)
  apart_event t u apart None mine other all le = le
  apart_event t u apart (Some (Lost client)) mine other all le = le
  apart_event t u apart (Some (Act w request reply woken)) mine other all le = subst (λ n. count_listed (cond (is_thread t w) (objects_by_reply reply mine) mine) + count_listed (cond (is_thread u w) (objects_by_reply reply other) other) ≤ n)
      (sym (count_replied reply all)) (by (is_thread t w) (is_thread u w) refl refl)
    where
      by : (a b : Bool) → is_thread t w ≡ a → is_thread u w ≡ b → count_listed (cond a (objects_by_reply reply mine) mine) + count_listed (cond b (objects_by_reply reply other) other) ≤ count_reply o reply + count_listed all
      by true true x y = no_both (is_thread t u) (subst (λ v. is_thread t v ≡ true) (same_thread u w y) x) apart
      by true false x y = subst (λ n. n + count_listed other ≤ count_reply o reply + count_listed all) (sym (count_replied reply mine)) (left_grows (count_reply o reply) (count_listed mine) (count_listed other) (count_listed all) le)
      by false true x y = subst (λ n. count_listed mine + n ≤ count_reply o reply + count_listed all) (sym (count_replied reply other)) (right_grows (count_reply o reply) (count_listed mine) (count_listed other) (count_listed all) le)
      by false false x y = both_grow (count_reply o reply) (count_listed mine) (count_listed other) (count_listed all) le

  pub apart : (t u : ThreadId) → is_thread t u ≡ false → (es : List Entry) → count_listed (objects_of t es) + count_listed (objects_of u es) ≤ count_listed (objects_made es)
  apart t u other [] = omega arith
  apart t u other (e ∷ es) = apart_event t u other e.event (objects_of t es) (objects_of u es) (objects_made es) (apart t u other es)

  -- a falling list has the object once
  less_differs : (m : ℕ) → m < o → eqb m o ≡ false
  less_differs m lt = fails (eqb m o) (λ e. itself (subst (λ n. n < o) (same_number m o e) lt))
    where
      itself : o < o → ⊥
      itself less = omega (arith, less)

  none_below : (xs : List ℕ) → AllByRecursion (λ m. m < o) xs → count_listed xs ≡ 0
  none_below [] h = refl
  none_below (x ∷ xs) h = ap (λ b. cond b 1 0 + count_listed xs) (less_differs x h.0) ∙ sym (none_more (count_listed xs)) ∙ none_below xs h.1

  pub falls_once : (xs : List ℕ) → Falls xs → count_listed xs ≤ 1
  falls_once [] h = omega arith
  falls_once (x ∷ xs) h = by (eqb x o) refl (falls_once xs h.1)
    where
      just_one : (n : ℕ) → n ≡ 0 → 1 + n ≤ 1
      just_one n e = omega (arith, e)

      by : (b : Bool) → eqb x o ≡ b → count_listed xs ≤ 1 → cond b 1 0 + count_listed xs ≤ 1
      by true is le = just_one (count_listed xs) (none_below xs (subst (λ n. AllByRecursion (λ m. m < n) xs) (same_number x o is) h.0))
      by false is le = subst (λ n. n ≤ 1) (none_more (count_listed xs)) le

  or_later : (a b : Bool) → b ≡ true → (a || b) ≡ true
  or_later true b e = refl
  or_later false b e = e

  -- what is counted is in the list
  pub listed_if : (xs : List ℕ) → 1 ≤ count_listed xs → list_any (eqb o) xs ≡ true
  listed_if [] le = absurd (never le)
    where
      never : 1 ≤ 0 → ⊥
      never one = omega (arith, one)
  listed_if (x ∷ xs) le = by (eqb x o) refl le (listed_if xs)
    where
      by : (b : Bool) → eqb x o ≡ b → 1 ≤ cond b 1 0 + count_listed xs → (1 ≤ count_listed xs → list_any (eqb o) xs ≡ true) → (eqb o x || list_any (eqb o) xs) ≡ true
      by true is some _ = ap (λ b. b || list_any (eqb o) xs) (subst (λ n. eqb o n ≡ true) (sym (same_number x o is)) (number_self o))
      by false is some rest = or_later (eqb o x) (list_any (eqb o) xs) (rest (subst (λ n. 1 ≤ n) (sym (none_more (count_listed xs))) some))

  -- what the events of a thread make, it made
  makes_split : (events : List Event) (event : Event) → MakesIn (events ++ event ∷ []) o → MakesIn events o ⊎ Makes event o
  makes_split [] event (inl makes) = inr makes
  makes_split [] event (inr none) = absurd none
  makes_split (first ∷ events) event (inl makes) = inl (inl makes)
  makes_split (first ∷ events) event (inr later) = elim (makes_split events event later) [
    | inl makes ↦ inl (inr makes)
    | inr makes ↦ inr makes
  ]

  one_at_least : (n : ℕ) → 1 ≤ 1 + n
  one_at_least n = omega arith

  makes_one : (event : Event) (objects : List ℕ) → Makes event o → 1 ≤ count_listed (objects_by event objects)
  makes_one (Act t (New class n) (Made x) woken) objects makes = subst (λ y. 1 ≤ cond (eqb y o) 1 0 + count_listed objects) makes
      (subst (λ b. 1 ≤ cond b 1 0 + count_listed objects) (sym (number_self o)) (one_at_least (count_listed objects)))
  makes_one (Act t request reply woken) objects makes = absurd makes
  makes_one (Lost client) objects makes = absurd makes

  still_listed : (event : Event) (objects : List ℕ) → 1 ≤ count_listed objects → 1 ≤ count_listed (objects_by event objects)
  still_listed (Act t request reply woken) objects le = subst (λ n. 1 ≤ n) (sym (count_replied reply objects)) (later_too (count_reply o reply) (count_listed objects) le)
    where
      later_too : (r n : ℕ) → 1 ≤ n → 1 ≤ r + n
      later_too r n some = omega (arith, some)
  still_listed (Lost client) objects le = le

  makes_event : (t : ThreadId) (event : Option Event) (events : List Event) (objects : List ℕ) → (MakesIn events o → 1 ≤ count_listed objects)
      → MakesIn (by_event (add_event t) event events) o → 1 ≤ count_listed (by_event (objects_of_by t) event objects)
  makes_event t None events objects h makes = h makes
  makes_event t (Some event) events objects h makes = by (is_act_of t event) makes
    where
      by : (b : Bool) → MakesIn (cond b (events ++ event ∷ []) events) o → 1 ≤ count_listed (cond b (objects_by event objects) objects)
      by true its = elim (makes_split events event its) as (λ w. 1 ≤ count_listed (objects_by event objects)) [
        | inl before ↦ still_listed event objects (h before)
        | inr now ↦ makes_one event objects now
      ]
      by false its = h its

  pub makes_counts : (t : ThreadId) (es : List Entry) → MakesIn (events_in t es) o → 1 ≤ count_listed (objects_of t es)
  makes_counts t [] makes = absurd makes
  makes_counts t (e ∷ es) makes = makes_event t e.event (events_in t es) (objects_of t es) (makes_counts t es) makes

-- not two, where at most one is
pub not_two : (a b n : ℕ) → a + b ≤ n → n ≤ 1 → 1 ≤ a → 1 ≤ b → ⊥
not_two a b n le few some more = omega (arith, le, few, some, more)

pub at_least : (a b : ℕ) → 1 ≤ a → a ≤ b → 1 ≤ b
at_least a b some le = omega (arith, some, le)

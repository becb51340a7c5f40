-- One look at a body after the other: what the rows lose is forced, and what is left to do waits.
use Rattle.std.proofs.Common.{◌≡◌, ◌⊎◌, inl, inr, refl, ℕ, suc, ◌+◌, ◌<◌, ◌≤◌, arith, Bool, true, false, cond, List, [], ◌∷◌, ◌++◌, length, get_or, set, sym, subst, ap, ◌∙◌, length-append, get_or-set_other, get_or-set_same}
use Rattle.std.specs.Prelude.{Contains, None}
use Rattle.std.proofs.lemmas.Bool.{cases_eq, cases_lt}
use Rattle.std.proofs.lemmas.List.{get_or_default, get_or_past, length-set}
use Rattle.std.proofs.lemmas.List.Elements.{Contains-append_left, Contains-push, Contains-push_cases}
use Rattle.dso_machine.specs.declared.code.Code.{Code}
use Rattle.dso_lint.specs.declared.answer.Place.TheVariants as place
use Rattle.dso_lint.specs.declared.listed.Listed.{Listed}
use Rattle.dso_lint.specs.declared.marks.Marks.{Marks}
use Rattle.dso_lint.specs.declared.row.Row.{Row}
use Rattle.dso_lint.specs.Clean.{Choice, KeepsRules}
use Rattle.dso_lint.specs.CleanRows.{AreBelow, AreClean, AreFirst, IsExposed, IsSettledRow, LooksAt, LosesThis, MarksExposed, StillWait, Strips, this_count}
use Rattle.dso_lint.specs.Listed.{AreListed, IsListed, routines}
use Rattle.dso_lint.specs.Routines.{Routine, IsAt}
use Rattle.dso_lint.specs.Rows.{KeepsAssigned, chosen_by}
use Rattle.dso_lint.proofs.cleanness.CleanGrows.{clean_grows}
use Rattle.dso_lint.proofs.cleanness.Choices.{IsDone, RowHolds, RowsHold, are_clean, assigned_by, hold_first, long, place_method, place_of, stands_at}

-- ---- numbers that wait

pub below_none : AreBelow 0 []
below_none = record { only = λ p never. absurd (omega (arith, never.1)); all = λ p low. absurd (omega (arith, low)) }

pub below_more : (k : ℕ) (numbers : List ℕ) → AreBelow k numbers → AreBelow (k + 1) (numbers ++ k ∷ [])
below_more k numbers so = record {
  only = λ p is. only p (Contains-push_cases numbers k p is);
  all = λ p low. all p low (cases_eq p k);
}
  where
    only : (p : ℕ) → Contains numbers p ⊎ (k ≡ p) → p < k + 1
    only p (inl was) = let before = so.only p was in omega (arith, before)
    only p (inr same) = omega (arith, same)

    all : (p : ℕ) → p < k + 1 → (p ≡ k) ⊎ (p ≡ k → ⊥) → Contains (numbers ++ k ∷ []) p
    all p low (inl same) = subst (Contains (numbers ++ k ∷ [])) (sym same) (Contains-push numbers k)
    all p low (inr differs) = Contains-append_left numbers (k ∷ []) p (so.all p (omega (arith, low, differs)))

-- what isn't true is false
not_true : (b : Bool) → (b ≡ true → ⊥) → b ≡ false
not_true true never = absurd (never refl)
not_true false never = refl

-- what is false stays so where it may only be lost
lost : (marked b : Bool) → b ≡ false → cond marked false b ≡ false
lost true b is = refl
lost false b is = is

module _ (code : Code) where
  abbrev n : ℕ
  n = length code.methods

  abbrev all : List Routine
  all = routines code

  -- between two looks: all that the rows have lost is forced, and where a body doesn't wait nothing is left to do
  pub record GoesOn (rows : List Row) (waiting : List ℕ) : Type 0 where
    pub holds : RowsHold code rows
    pub done : (p : ℕ) → p < length all → Contains waiting p ⊎ IsDone code rows p

  pub goes_first : (rows : List Row) (waiting : List ℕ) → AreFirst all n rows → AreBelow (length all) waiting → GoesOn rows waiting
  goes_first rows waiting first below = record { holds = hold_first code rows first; done = λ p low. inl (below.all p low) }

  -- where none waits the rows are those of the clean variables
  pub goes_last : (rows : List Row) (waiting : List ℕ) → waiting ≡ [] → GoesOn rows waiting → AreClean code rows
  goes_last rows waiting none so = are_clean code rows so.holds (λ p low. by p (so.done p low))
    where
      by : (p : ℕ) → Contains waiting p ⊎ IsDone code rows p → IsDone code rows p
      by p (inl waits) =
          let never = subst (λ w. Contains w p) none waits in
          absurd (omega (arith, never.1))
      by p (inr is) = is

  -- ---- a look

  module _ (number : ℕ) (d0 : Routine) (old new : List Row) (before after : List ℕ) (low : number < length all) (holds : RowsHold code old)
      (looks : LooksAt (get_or all number d0) n number old new before after) where
    abbrev body : Routine
    body = get_or all number d0

    abbrev mid : List Row
    mid = set old number looks.row

    same_body : (d : Routine) → body ≡ get_or all number d
    same_body d = get_or_default all number d0 d low

    within : number < length old
    within = omega (arith, low, holds.number)

    at_number : (e : Row) → get_or mid number e ≡ looks.row
    at_number e = get_or-set_same old number looks.row e within

    elsewhere : (p : ℕ) (e : Row) → (p ≡ number → ⊥) → get_or mid p e ≡ get_or old p e
    elsewhere p e differs = get_or-set_other old number p looks.row e differs

    -- what the row holds once it is settled
    row_holds : RowHolds code number body looks.row
    row_holds =
        let e = looks.row in
        let so = holds.each number d0 e low in
        let is = looks.settled e in
        let settles = is.right so.covers in
        record {
          params = λ i under. not_true ((chosen_by looks.row).variable i) (λ still. cc (sym (is.below.variable i still) ∙ so.params i under));
          covers = λ i a stands. subst (λ m. i < m) (sym is.number) (so.covers i a stands);
          thread = λ high. is.this ∙ so.thread high;
          below = λ other keeps. settles.forced (other (place_of code number)) (assigned_by code other keeps number d0 low) (so.below other keeps);
        }

    hold_settled : RowsHold code mid
    hold_settled = record { number = length-set old number looks.row ∙ holds.number; each = λ p d e few. by p d e few (cases_eq p number) }
      where
        by : (p : ℕ) (d : Routine) (e : Row) → p < length all → (p ≡ number) ⊎ (p ≡ number → ⊥) → RowHolds code p (get_or all p d) (get_or mid p e)
        by p d e few (inl same) =
            let mine : RowHolds code number (get_or all number d) looks.row = subst (λ b. RowHolds code number b looks.row) (same_body d) row_holds in
            let here : RowHolds code number (get_or all number d) (get_or mid number e) = subst (RowHolds code number (get_or all number d)) (sym (at_number e)) mine in
            subst (λ k. RowHolds code k (get_or all k d) (get_or mid k e)) (sym same) here
        by p d e few (inr differs) = subst (RowHolds code p (get_or all p d)) (sym (elsewhere p e differs)) (holds.each p d e few)

    -- no choice that keeps the rules has the `this` of a method that is exposed here
    forced : (other : Choice) → KeepsRules code other → (p : ℕ) (d : Routine) → p < length all → p < n → IsExposed body looks.row p → (other (place_of code p)).this ≡ true → ⊥
    forced other keeps p d few under by so_is =
        let callee : IsAt code (place.Method (suc p)) (get_or all p d) = subst (λ at. IsAt code at (get_or all p d)) (place_method code p under) (stands_at code p d few) in
        let chosen : (other (place.Method (suc p))).this ≡ true = ap (λ at. (other at).this) (sym (place_method code p under)) ∙ so_is in
        let clean = keeps.receivers (place_of code number) body (get_or all p d) by.receiver by.callees by.args by.class p (stands_at code number d0 low) by.uses by.may callee chosen in
        let grown = clean_grows (other (place_of code number)) (chosen_by looks.row) (row_holds.below other keeps) by.receiver clean in
        cc (sym grown ∙ by.unclean)

    in_mid : (p : ℕ) → p < length all → p < length mid
    in_mid p few = omega (arith, few, hold_settled.number)

    abbrev marked_at : ℕ → Bool
    marked_at p = get_or looks.marks.marked.items p false

    loses_at : (p : ℕ) (e : Row) → p < length all → LosesThis (marked_at p) (get_or mid p e) (get_or new p e)
    loses_at p e few = looks.strips.each p e (in_mid p few)

    hold_looked : RowsHold code new
    hold_looked = record {
      number = looks.strips.wait.number ∙ hold_settled.number;
      each = λ p d e few. one p d e few (hold_settled.each p d e few) (loses_at p e few);
    }
      where
        one : (p : ℕ) (d : Routine) (e : Row) → p < length all → RowHolds code p (get_or all p d) (get_or mid p e) → LosesThis (marked_at p) (get_or mid p e) (get_or new p e)
            → RowHolds code p (get_or all p d) (get_or new p e)
        one p d e few so loses = record {
          params = λ i under. subst (λ v. get_or v.items i true ≡ false) (sym loses.variables) (so.params i under);
          covers = λ i a stands. subst (λ v. i < length v.items) (sym loses.variables) (so.covers i a stands);
          thread = λ high. loses.this ∙ lost (marked_at p) (get_or mid p e).this (so.thread high);
          below = λ other keeps. record {
            variable = λ i so_is. subst (λ v. get_or v.items i true ≡ true) (sym loses.variables) ((so.below other keeps).variable i so_is);
            this = λ so_is. loses.this ∙ kept other keeps so_is (marked_at p) refl;
          };
        }
          where
            kept : (other : Choice) → KeepsRules code other → (other (place_of code p)).this ≡ true → (b : Bool) → marked_at p ≡ b → cond b false (get_or mid p e).this ≡ true
            kept other keeps so_is false is = (so.below other keeps).this so_is
            kept other keeps so_is true is =
                let under : p < n = under_marks is (cases_lt p n) in
                absurd (forced other keeps p d few under (looks.exposed.only p is) so_is)
              where
                under_marks : marked_at p ≡ true → (p < n) ⊎ (n ≤ p) → p < n
                under_marks is (inl few) = few
                under_marks is (inr high) = absurd (cc (sym is ∙ get_or_past looks.marks.marked.items p false (omega (arith, high, looks.exposed.number))))

    -- a `this` that wasn't clean before isn't now
    stays_lost : (m : ℕ) (f : Row) → m < length all → (get_or old m f).this ≡ false → (get_or new m f).this ≡ false
    stays_lost m f few was = (loses_at m f few).this ∙ lost (marked_at m) (get_or mid m f).this (by (cases_eq m number))
      where
        by : (m ≡ number) ⊎ (m ≡ number → ⊥) → (get_or mid m f).this ≡ false
        by (inl same) =
            let mine : (get_or old number f).this ≡ false = subst (λ k. (get_or old k f).this ≡ false) same was in
            let here : (get_or mid number f).this ≡ false = ap (λ (row : Row). row.this) (at_number f) ∙ (looks.settled f).this ∙ mine in
            subst (λ k. (get_or mid k f).this ≡ false) (sym same) here
        by (inr differs) = ap (λ (row : Row). row.this) (elsewhere m f differs) ∙ was

    method_few : (m : ℕ) → m < n → m < length all
    method_few m under = omega (arith, under, long code)

    -- at the body that was looked at nothing is left to do, unless its own row has changed since
    done_here : ((e : Row) → get_or new number e ≡ get_or mid number e) → IsDone code new number
    done_here same = record { assigned = assigned; unexposed = unexposed }
      where
        row_at : (e : Row) → get_or new number e ≡ looks.row
        row_at e = same e ∙ at_number e

        assigned : (d : Routine) (e : Row) → KeepsAssigned (get_or all number d).statements (chosen_by (get_or new number e))
        assigned d e =
            let settles = (looks.settled e).right (holds.each number d0 e low).covers in
            let mine = subst (λ (b : Routine). KeepsAssigned b.statements (chosen_by looks.row)) (same_body d) settles.keeps in
            subst (λ row. KeepsAssigned (get_or all number d).statements (chosen_by row)) (sym (row_at e)) mine

        unexposed : (m : ℕ) (d : Routine) (e f : Row) → m < n → IsExposed (get_or all number d) (get_or new number e) m → (get_or new m f).this ≡ false
        unexposed m d e f under by =
            let its : IsExposed (get_or all number d) looks.row m = subst (λ row. IsExposed (get_or all number d) row m) (row_at e) by in
            let mine : IsExposed body looks.row m = subst (λ b. IsExposed b looks.row m) (sym (same_body d)) its in
            let marked : marked_at m ≡ true = looks.exposed.all m under mine in
            (loses_at m f (method_few m under)).this ∙ ap (λ b. cond b false (get_or mid m f).this) marked

    -- at another one nothing is left to do if there was nothing before, and its row is as it was
    done_there : (p : ℕ) → (p ≡ number → ⊥) → ((e : Row) → get_or new p e ≡ get_or mid p e) → IsDone code old p → IsDone code new p
    done_there p differs same was = record {
      assigned = λ d e. subst (λ row. KeepsAssigned (get_or all p d).statements (chosen_by row)) (sym (row_at e)) (was.assigned d e);
      unexposed = λ m d e f under by.
          let before : IsExposed (get_or all p d) (get_or old p e) m = subst (λ row. IsExposed (get_or all p d) row m) (row_at e) by in
          stays_lost m f (method_few m under) (was.unexposed m d e f under before);
    }
      where
        row_at : (e : Row) → get_or new p e ≡ get_or old p e
        row_at e = same e ∙ elsewhere p e differs

    done_looked : (waiting : List ℕ) → waiting ≡ before ++ number ∷ [] → (p : ℕ) → p < length all → Contains waiting p ⊎ IsDone code old p → Contains after p ⊎ IsDone code new p
    done_looked waiting taken p few was = by (looks.strips.waits p (in_mid p few)) (cases_eq p number) was
      where
        other : (p ≡ number → ⊥) → Contains before p ⊎ (number ≡ p) → Contains after p
        other differs (inl is) = looks.strips.kept p is
        other differs (inr same) = absurd (differs (sym same))

        by : Contains after p ⊎ ((e : Row) → get_or new p e ≡ get_or mid p e) → (p ≡ number) ⊎ (p ≡ number → ⊥) → Contains waiting p ⊎ IsDone code old p → Contains after p ⊎ IsDone code new p
        by (inl waits) any so = inl waits
        by (inr same) (inl here) so =
            let mine : (e : Row) → get_or new number e ≡ get_or mid number e = subst (λ k. (e : Row) → get_or new k e ≡ get_or mid k e) here same in
            inr (subst (IsDone code new) (sym here) (done_here mine))
        by (inr same) (inr differs) (inl waits) = inl (other differs (Contains-push_cases before number p (subst (λ w. Contains w p) taken waits)))
        by (inr same) (inr differs) (inr is) = inr (done_there p differs same is)

  -- what the look at a number that was taken from those that wait leaves
  pub goes_looked : (number : ℕ) (d : Routine) (old new : List Row) (waiting before after : List ℕ) → number < length all → waiting ≡ before ++ number ∷ [] → LooksAt (get_or all number d) n number old new before after
      → GoesOn old waiting → GoesOn new after
  goes_looked number d old new waiting before after low taken looks so = record {
    holds = hold_looked number d old new before after low so.holds looks;
    done = λ p few. done_looked number d old new before after low so.holds looks waiting taken p few (so.done p few);
  }

-- ---- the parts of a look

-- what a row of a list is at one default it is at each
settled_at : (body : Routine) (old : List Row) (number : ℕ) (before row : Row) → number < length old → get_or old number before ≡ before → IsSettledRow body before row → (d : Row) → IsSettledRow body (get_or old number d) row
settled_at body old number before row low here is d =
    let same : get_or old number d ≡ before = get_or_default old number d before low ∙ here in
    subst (λ r. IsSettledRow body r row) (sym same) is

pub looks_at : (body : Routine) (methods number : ℕ) (old new : List Row) (row own : Row) (before after : List ℕ) (marks : Marks) → number < length old → get_or old number own ≡ own → IsSettledRow body own row → MarksExposed body row methods marks
    → Strips marks.marked.items (set old number row) new before after → LooksAt body methods number old new before after
looks_at body methods number old new row own before after marks low here settled exposed strips = record {
  row = row;
  settled = settled_at body old number own row low here settled;
  marks = marks;
  exposed = exposed;
  strips = strips;
}

-- ---- the loop over what waits

-- The rows of so many bodies between two looks: each number that waits is that of a body, and the code's rows go on.
pub record Looking (bodies : List Listed) (methods : ℕ) (rows : List Row) (waiting : List ℕ) : Type 0 where
  pub number : length rows ≡ length bodies
  pub low : (p : ℕ) → Contains waiting p → p < length bodies
  pub goes : (code : Code) → AreListed (routines code) bodies → methods ≡ length code.methods → GoesOn code rows waiting

pub looking_first : (bodies : List Listed) (methods : ℕ) (rows : List Row) (waiting : List ℕ) → length rows ≡ length bodies
    → ((all : List Routine) → AreListed all bodies → AreFirst all methods rows) → AreBelow (length bodies) waiting → Looking bodies methods rows waiting
looking_first bodies methods rows waiting number first below = record {
  number = number;
  low = below.only;
  goes = λ code listed same. goes_first code rows waiting (subst (λ m. AreFirst (routines code) m rows) same (first (routines code) listed)) (subst (λ size. AreBelow size waiting) listed.number below);
}

-- the number that is taken from those that wait is that of a body
pub taken_low : (bodies : List Listed) (methods : ℕ) (rows : List Row) (waiting rest : List ℕ) (number : ℕ) → waiting ≡ rest ++ number ∷ [] → Looking bodies methods rows waiting → number < length bodies
taken_low bodies methods rows waiting rest number taken so = so.low number (subst (λ w. Contains w number) (sym taken) (Contains-push rest number))

module _ (bodies : List Listed) (methods : ℕ) (old new : List Row) (waiting before after : List ℕ) (number : ℕ) (taken : waiting ≡ before ++ number ∷ []) (so : Looking bodies methods old waiting) where
  -- the one that is looked at, with the rest of those that wait
  pub looking_next : (listed : Listed) → StillWait old new before after
      → ((body : Routine) → IsListed (get_or bodies number listed) body → LooksAt body methods number old new before after) → Looking bodies methods new after
  looking_next listed wait looks = record {
    number = wait.number ∙ so.number;
    low = λ p is. low p (wait.only p is);
    goes = λ code are same.
        let d : Routine = record { statements = []; params = 0; named = None; synced = None } in
        let low = taken_low bodies methods old waiting before number taken so in
        let few : number < length (routines code) = omega (arith, low, are.number) in
        let look = looks (get_or (routines code) number d) (are.each number listed d few) in
        goes_looked code number d old new waiting before after few taken (subst (λ m. LooksAt (get_or (routines code) number d) m number old new before after) same look) (so.goes code are same);
  }
    where
      low : (p : ℕ) → Contains before p ⊎ (p < length old) → p < length bodies
      low p (inl was) = so.low p (subst (λ w. Contains w p) (sym taken) (Contains-append_left before (number ∷ []) p was))
      low p (inr is) = let same = so.number in omega (arith, is, same)

  -- each look leaves less to do
  pub looking_less : StillWait old new before after → this_count new + length after < this_count old + length waiting
  looking_less wait =
      let longer : length waiting ≡ length before + 1 = ap length taken ∙ length-append before (number ∷ []) in
      let sum = wait.sum in
      omega (arith, longer, sum)

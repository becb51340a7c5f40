-- The choice that the rows of all bodies stand for: it is the largest that keeps the rules.
use Rattle.std.proofs.Common.{◌≡◌, ◌⊎◌, inl, inr, refl, ℕ, zero, suc, ◌+◌, ◌-◌, ◌<◌, ◌≤◌, arith, true, false, cond, List, length, map, get_or, sym, subst, ap, ◌∙◌, length-append}
use Rattle.std.specs.Prelude.{Contains, nat_lt, slice_get, Option, None, Some}
use Rattle.std.proofs.lemmas.Bool.{cases_Bool, cases_lt, le-ltb, lt-ltb}
use Rattle.std.proofs.lemmas.List.{length-map, get_or_append_left, get_or-append_right, get_or-map}
use Rattle.std.proofs.lemmas.Option.{slice_get_cases, slice_get_within, get_or_from_slice_get}
use Rattle.dso_machine.specs.declared.code.Code.{Code}
use Rattle.dso_machine.specs.declared.code.Method.{Method}
use Rattle.dso_machine.specs.declared.code.ThreadBody.{ThreadBody}
use Rattle.dso_machine.specs.declared.tree.Expr.{Expr}
use Rattle.dso_machine.specs.declared.tree.Expr.TheVariants as x
use Rattle.dso_machine.specs.declared.tree.Stmt.TheVariants as s
use Rattle.dso_lint.specs.declared.answer.Place.{Place}
use Rattle.dso_lint.specs.declared.answer.Place.TheVariants as place
use Rattle.dso_lint.specs.declared.row.Row.{Row}
use Rattle.dso_lint.specs.Clean.{Chosen, Choice, IsClean, KeepsRules, is_clean}
use Rattle.dso_lint.specs.CleanRows.{AreClean, AreFirst, IsExposed, IsFirst, chosen_in, choice_of}
use Rattle.dso_lint.specs.Listed.{routines, routine_of, routine_of_thread}
use Rattle.dso_lint.specs.Routines.{Routine, IsAt, of_method, of_thread}
use Rattle.dso_lint.specs.Rows.{Covers, IsBelow, KeepsAssigned, chosen_by}
use Rattle.dso_lint.specs.Trees.{StandsIn, Uses}
use Rattle.dso_lint.proofs.calling.Calling.{method_low}

module _ {X : Type 0} where
  -- an item of a list at a place that it has
  item_at : (xs : List X) (k : ℕ) → k < length xs → X
  item_at xs k low = by (slice_get_cases xs k).1
    where
      by : ((item : X) × (k < length xs) × (slice_get xs k ≡ Some item) × (get_or xs k item ≡ item)) ⊎ ((length xs ≤ k) × (slice_get xs k ≡ None)) → X
      by (inl is) = is.0
      by (inr past) = absurd (omega (arith, low, past.0))

module _ (code : Code) where
  abbrev n : ℕ
  n = length code.methods

  abbrev all : List Routine
  all = routines code

  pub long : length all ≡ length code.methods + length code.bodies
  long =
      let ms : length (map routine_of code.methods) ≡ length code.methods = length-map code.methods routine_of in
      let ts : length (map routine_of_thread code.bodies) ≡ length code.bodies = length-map code.bodies routine_of_thread in
      let both = length-append (map routine_of code.methods) (map routine_of_thread code.bodies) in
      omega (arith, ms, ts, both)

  -- the place of a body by its number
  abbrev pub place_of : ℕ → Place
  place_of p = cond (nat_lt p n) (place.Method (suc p)) (place.Thread (suc (p - n)))

  pub place_method : (p : ℕ) → p < n → place_of p ≡ place.Method (suc p)
  place_method p low = ap (λ b. cond b (place.Method (suc p)) (place.Thread (suc (p - n)))) (lt-ltb p n low)

  place_thread : (p : ℕ) → n ≤ p → place_of p ≡ place.Thread (suc (p - n))
  place_thread p high = ap (λ b. cond b (place.Method (suc p)) (place.Thread (suc (p - n)))) (le-ltb p n high)

  method_body : (k : ℕ) (m : Method) (d : Routine) → slice_get code.methods k ≡ Some m → get_or all k d ≡ routine_of m
  method_body k m d is =
      let low = slice_get_within code.methods k m is in
      let ms : length (map routine_of code.methods) ≡ length code.methods = length-map code.methods routine_of in
      let before : k < length (map routine_of code.methods) = omega (arith, low, ms) in
      get_or_append_left (map routine_of code.methods) (map routine_of_thread code.bodies) d k before ∙ get_or-map routine_of code.methods k m d low ∙ ap routine_of (get_or_from_slice_get code.methods k m m is)

  thread_body : (k : ℕ) (b : ThreadBody) (d : Routine) → slice_get code.bodies k ≡ Some b → get_or all (n + k) d ≡ routine_of_thread b
  thread_body k b d is =
      let low = slice_get_within code.bodies k b is in
      let back : n + k - n ≡ k = omega (arith) in
      get_or-append_right (map routine_of code.methods) (map routine_of_thread code.bodies) n (n + k) d (length-map code.methods routine_of) (omega (arith))
      ∙ ap (λ i. get_or (map routine_of_thread code.bodies) i d) back ∙ get_or-map routine_of_thread code.bodies k b d low ∙ ap routine_of_thread (get_or_from_slice_get code.bodies k b b is)

  -- each body of the list stands at its place
  pub stands_at : (p : ℕ) (d : Routine) → p < length all → IsAt code (place_of p) (get_or all p d)
  stands_at p d low = by (cases_lt p n)
    where
      in_methods : p < n → ((m : Method) × (p < length code.methods) × (slice_get code.methods p ≡ Some m) × (get_or code.methods p m ≡ m)) ⊎ ((length code.methods ≤ p) × (slice_get code.methods p ≡ None))
          → IsAt code (place_of p) (get_or all p d)
      in_methods few (inl is) =
          subst (λ at. IsAt code at (get_or all p d)) (sym (place_method p few)) (ap of_method is.2 ∙ ap Some (sym (method_body p is.0 d is.2)))
      in_methods few (inr past) = absurd (omega (arith, few, past.0))

      in_threads : n ≤ p → ((b : ThreadBody) × (p - n < length code.bodies) × (slice_get code.bodies (p - n) ≡ Some b) × (get_or code.bodies (p - n) b ≡ b)) ⊎ ((length code.bodies ≤ p - n) × (slice_get code.bodies (p - n) ≡ None))
          → IsAt code (place_of p) (get_or all p d)
      in_threads high (inl is) =
          let back : n + (p - n) ≡ p = omega (arith, high) in
          let body : get_or all p d ≡ routine_of_thread is.0 = ap (λ i. get_or all i d) (sym back) ∙ thread_body (p - n) is.0 d is.2 in
          subst (λ at. IsAt code at (get_or all p d)) (sym (place_thread p high)) (ap of_thread is.2 ∙ ap Some (sym body))
      in_threads high (inr past) = absurd (omega (arith, high, low, long, past.0))

      by : (p < n) ⊎ (n ≤ p) → IsAt code (place_of p) (get_or all p d)
      by (inl few) = in_methods few (slice_get_cases code.methods p).1
      by (inr high) = in_threads high (slice_get_cases code.bodies (p - n)).1

  -- a body that stands at a place has a number in the list
  pub record HasNumber (at : Place) (body : Routine) : Type 0 where
    pub number : ℕ
    pub low : number < length all
    pub is_place : at ≡ place_of number
    pub is_body : (d : Routine) → get_or all number d ≡ body

  pub number_of : (at : Place) (body : Routine) → IsAt code at body → HasNumber at body
  number_of (place.Method zero) body is = absurd (cc is)
  number_of (place.Method (suc k)) body is = by (slice_get code.methods k) refl is
    where
      by : (o : Option Method) → slice_get code.methods k ≡ o → of_method o ≡ Some body → HasNumber (place.Method (suc k)) body
      by None so never = absurd (cc never)
      by (Some m) so same =
          let low = slice_get_within code.methods k m so in
          let body_is : routine_of m ≡ body = cc same in
          record { number = k; low = omega (arith, low, long); is_place = sym (place_method k low); is_body = λ d. method_body k m d so ∙ body_is }
  number_of (place.Thread zero) body is = absurd (cc is)
  number_of (place.Thread (suc k)) body is = by (slice_get code.bodies k) refl is
    where
      by : (o : Option ThreadBody) → slice_get code.bodies k ≡ o → of_thread o ≡ Some body → HasNumber (place.Thread (suc k)) body
      by None so never = absurd (cc never)
      by (Some b) so same =
          let low = slice_get_within code.bodies k b so in
          let body_is : routine_of_thread b ≡ body = cc same in
          let back : n + k - n ≡ k = omega (arith) in
          let there : place_of (n + k) ≡ place.Thread (suc k) = place_thread (n + k) (omega (arith)) ∙ ap (λ i. place.Thread (suc i)) back in
          record { number = n + k; low = omega (arith, low, long); is_place = sym there; is_body = λ d. thread_body k b d so ∙ body_is }

  -- ---- what holds of each row

  pub record RowHolds (p : ℕ) (body : Routine) (row : Row) : Type 0 where
    pub params : (i : ℕ) → i < body.params → (chosen_by row).variable i ≡ false
    pub covers : Covers body.statements row
    pub thread : n ≤ p → row.this ≡ false
    pub below : (other : Choice) → KeepsRules code other → IsBelow (other (place_of p)) (chosen_by row)

  pub record RowsHold (rows : List Row) : Type 0 where
    pub number : length rows ≡ length all
    pub each : (p : ℕ) (d : Routine) (e : Row) → p < length all → RowHolds p (get_or all p d) (get_or rows p e)

  -- nothing is left to do at a body: its row keeps the rule on assignments, and exposes no method of a clean `this`
  pub record IsDone (rows : List Row) (p : ℕ) : Type 0 where
    pub assigned : (d : Routine) (e : Row) → KeepsAssigned (get_or all p d).statements (chosen_by (get_or rows p e))
    pub unexposed : (m : ℕ) (d : Routine) (e f : Row) → m < n → IsExposed (get_or all p d) (get_or rows p e) m → (get_or rows m f).this ≡ false

  pub assigned_by : (other : Choice) → KeepsRules code other → (p : ℕ) (d : Routine) → p < length all → KeepsAssigned (get_or all p d).statements (other (place_of p))
  assigned_by other keeps p d low i a stands so_is = keeps.assigned (place_of p) (get_or all p d) i a (stands_at p d low) stands so_is

  pub hold_first : (rows : List Row) → AreFirst all n rows → RowsHold rows
  hold_first rows are = record { number = are.number; each = λ p d e low. one p d e low (are.each p d e low) }
    where
      one : (p : ℕ) (d : Routine) (e : Row) → p < length all → IsFirst (get_or all p d) (nat_lt p n) (get_or rows p e) → RowHolds p (get_or all p d) (get_or rows p e)
      one p d e low first = record {
        params = first.params;
        covers = first.covers;
        thread = λ high. first.this ∙ le-ltb p n high;
        below = λ other keeps. record { variable = λ i so_is. by_number other keeps i so_is (cases_lt i (get_or all p d).params); this = λ so_is. by_place other keeps so_is (cases_lt p n) };
      }
        where
          by_number : (other : Choice) → KeepsRules code other → (i : ℕ) → (other (place_of p)).variable i ≡ true → (i < (get_or all p d).params) ⊎ ((get_or all p d).params ≤ i) → (chosen_by (get_or rows p e)).variable i ≡ true
          by_number other keeps i so_is (inl few) = absurd (cc (sym so_is ∙ keeps.params (place_of p) (get_or all p d) i (stands_at p d low) few))
          by_number other keeps i so_is (inr high) = first.rest i high

          by_place : (other : Choice) → KeepsRules code other → (other (place_of p)).this ≡ true → (p < n) ⊎ (n ≤ p) → (get_or rows p e).this ≡ true
          by_place other keeps so_is (inl few) = first.this ∙ lt-ltb p n few
          by_place other keeps so_is (inr high) =
              let never : (other (place_of p)).this ≡ false = ap (λ at. (other at).this) (place_thread p high) ∙ keeps.no_thread (suc (p - n)) in
              absurd (cc (sym so_is ∙ never))

  -- ---- the choice of rows to which nothing is left to do

  module _ (rows : List Row) (holds : RowsHold rows) (keep : (p : ℕ) → p < length all → IsDone rows p) where
    abbrev choice : Choice
    choice = choice_of n rows

    in_range : (p : ℕ) → p < length all → p < length rows
    in_range p low = omega (arith, low, holds.number)

    -- a row is what is chosen at its body's place
    pub chosen_at : (p : ℕ) (e : Row) → p < length all → choice (place_of p) ≡ chosen_by (get_or rows p e)
    chosen_at p e low = by (slice_get_cases rows p).1 (cases_lt p n)
      where
        by : ((row : Row) × (p < length rows) × (slice_get rows p ≡ Some row) × (get_or rows p row ≡ row)) ⊎ ((length rows ≤ p) × (slice_get rows p ≡ None)) → (p < n) ⊎ (n ≤ p) → choice (place_of p) ≡ chosen_by (get_or rows p e)
        by (inl is) (inl under) =
            ap choice (place_method p under) ∙ ap (λ b. chosen_in true (cond b (slice_get rows p) None)) (lt-ltb p n under) ∙ ap (chosen_in true) is.2 ∙ ap chosen_by (sym (get_or_from_slice_get rows p is.0 e is.2))
        by (inl is) (inr high) =
            let back : n + (p - n) ≡ p = omega (arith, high) in
            ap choice (place_thread p high) ∙ ap (λ i. chosen_in false (slice_get rows i)) back ∙ ap (chosen_in false) is.2 ∙ ap chosen_by (sym (get_or_from_slice_get rows p is.0 e is.2))
        by (inr past) other = absurd (omega (arith, past.0, in_range p low))

    -- so at the place of a body
    record ChosenRow (at : Place) (body : Routine) : Type 0 where
      pub number : HasNumber at body
      pub row : Row
      pub is : choice at ≡ chosen_by (get_or rows number.number row)

    chosen_row : (at : Place) (body : Routine) → IsAt code at body → ChosenRow at body
    chosen_row at body is =
        let number = number_of at body is in
        let row = item_at rows number.number (in_range number.number number.low) in
        record { number = number; row = row; is = ap choice number.is_place ∙ chosen_at number.number row number.low }

    keeps : KeepsRules code choice
    keeps = record { params = params; assigned = assigned; receivers = receivers; no_thread = no_thread }
      where
        params : (at : Place) (body : Routine) (i : ℕ) → IsAt code at body → i < body.params → (choice at).variable i ≡ false
        params at body i is under =
            let c = chosen_row at body is in
            ap (λ (ch : Chosen). ch.variable i) c.is ∙ (holds.each c.number.number body c.row c.number.low).params i (subst (λ b. i < b.params) (sym (c.number.is_body body)) under)

        assigned : (at : Place) (body : Routine) (i : ℕ) (a : Expr) → IsAt code at body → StandsIn (s.Assign i a) body.statements → (choice at).variable i ≡ true → IsClean (choice at) a
        assigned at body i a is stands so_is =
            let c = chosen_row at body is in
            let mine = (keep c.number.number c.number.low).assigned body c.row i a (subst (λ b. StandsIn (s.Assign i a) b.statements) (sym (c.number.is_body body)) stands) (ap (λ (ch : Chosen). ch.variable i) (sym c.is) ∙ so_is) in
            subst (λ ch. IsClean ch a) (sym c.is) mine

        receivers : (at : Place) (body callee : Routine) (a : Expr) (callees : List (ℕ × ℕ)) (args : List Expr) (class m : ℕ) → IsAt code at body → Uses body.statements (x.Call a callees args) → Contains callees (class, m)
            → IsAt code (place.Method (suc m)) callee → (choice (place.Method (suc m))).this ≡ true → IsClean (choice at) a
        receivers at body callee a callees args class m is uses may there so_is = by (cases_Bool (is_clean (choice at) a))
          where
            c : ChosenRow at body
            c = chosen_row at body is

            under : m < n
            under = method_low code m callee there

            low : m < length all
            low = omega (arith, under, long)

            its : Row
            its = item_at rows m (in_range m low)

            clean : (get_or rows m its).this ≡ true
            clean = ap (λ (ch : Chosen). ch.this) (sym (chosen_at m its low)) ∙ ap (λ at. (choice at).this) (place_method m under) ∙ so_is

            by : (is_clean (choice at) a ≡ true) ⊎ (is_clean (choice at) a ≡ false) → IsClean (choice at) a
            by (inl so) = so
            by (inr un) =
                let exposed : IsExposed (get_or all c.number.number body) (get_or rows c.number.number c.row) m = record {
                  receiver = a;
                  callees = callees;
                  args = args;
                  class = class;
                  uses = subst (λ b. Uses b.statements (x.Call a callees args)) (sym (c.number.is_body body)) uses;
                  may = may;
                  unclean = ap (λ ch. is_clean ch a) (sym c.is) ∙ un;
                } in
                absurd (cc (sym clean ∙ (keep c.number.number c.number.low).unexposed m body c.row its under exposed))

        no_thread : (k : ℕ) → (choice (place.Thread k)).this ≡ false
        no_thread zero = refl
        no_thread (suc k) = by (slice_get_cases rows (n + k)).1
          where
            by : ((row : Row) × (n + k < length rows) × (slice_get rows (n + k) ≡ Some row) × (get_or rows (n + k) row ≡ row)) ⊎ ((length rows ≤ n + k) × (slice_get rows (n + k) ≡ None)) → (choice (place.Thread (suc k))).this ≡ false
            by (inl is) =
                let low : n + k < length all = omega (arith, is.1, holds.number) in
                ap (λ o. (chosen_in false o).this) is.2 ∙ ap (λ (row : Row). row.this) (sym is.3) ∙ (holds.each (n + k) (item_at all (n + k) low) is.0 low).thread (omega (arith))
            by (inr past) = ap (λ o. (chosen_in false o).this) past.1

    -- a choice at the place of a row is within it
    within : (other : Choice) → KeepsRules code other → (at : Place) (p : ℕ) → at ≡ place_of p → p < length all → IsBelow (other at) (choice at)
    within other rules at p is low =
        let e = item_at rows p (in_range p low) in
        let mine : IsBelow (other (place_of p)) (choice (place_of p)) = subst (IsBelow (other (place_of p))) (sym (chosen_at p e low)) ((holds.each p (item_at all p low) e low).below other rules) in
        subst (λ q. IsBelow (other q) (choice q)) (sym is) mine

    largest : (other : Choice) → KeepsRules code other → (at : Place) → IsBelow (other at) (choice at)
    largest other rules (place.Method zero) = record { variable = λ i is. refl; this = λ is. refl }
    largest other rules (place.Method (suc k)) = by (cases_lt k n)
      where
        by : (k < n) ⊎ (n ≤ k) → IsBelow (other (place.Method (suc k))) (choice (place.Method (suc k)))
        by (inl under) = within other rules (place.Method (suc k)) k (sym (place_method k under)) (omega (arith, under, long))
        by (inr high) = subst (λ b. IsBelow (other (place.Method (suc k))) (chosen_in true (cond b (slice_get rows k) None))) (sym (le-ltb k n high)) (record { variable = λ i is. refl; this = λ is. refl })
    largest other rules (place.Thread zero) = record { variable = λ i is. refl; this = λ is. sym (rules.no_thread 0) ∙ is }
    largest other rules (place.Thread (suc k)) = by (slice_get_cases rows (n + k)).1
      where
        by : ((row : Row) × (n + k < length rows) × (slice_get rows (n + k) ≡ Some row) × (get_or rows (n + k) row ≡ row)) ⊎ ((length rows ≤ n + k) × (slice_get rows (n + k) ≡ None)) → IsBelow (other (place.Thread (suc k))) (choice (place.Thread (suc k)))
        by (inl is) =
            let back : n + k - n ≡ k = omega (arith) in
            within other rules (place.Thread (suc k)) (n + k) (sym (place_thread (n + k) (omega (arith)) ∙ ap (λ i. place.Thread (suc i)) back)) (omega (arith, is.1, holds.number))
        by (inr past) = subst (λ o. IsBelow (other (place.Thread (suc k))) (chosen_in false o)) (sym past.1) (record { variable = λ i is. refl; this = λ is. sym (rules.no_thread (suc k)) ∙ is })

    pub are_clean : AreClean code rows
    are_clean = record {
      number = holds.number ∙ long;
      chosen_at = λ p row low. chosen_at p row (omega (arith, low, holds.number));
      clean = record {
        keeps = keeps;
        largest = λ other rules. record { variable = λ at. (largest other rules at).variable; this = λ at. (largest other rules at).this };
      };
    }

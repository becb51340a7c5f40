-- Marks, one after the other.
use Rattle.std.proofs.Common.{◌≡◌, ◌⊎◌, inl, inr, refl, ℕ, ◌+◌, ◌<◌, arith, Bool, true, false, cond, List, [], ◌∷◌, ◌++◌, length, get_or, set, take, sym, subst, ap, ◌∙◌, append_assoc, append-nil, get_or-set_other, get_or-set_same, length-append}
use Rattle.std.specs.Prelude.{Contains, count_by, Option}
use Rattle.std.specs.Borrow.{Bor}
use Rattle.std.proofs.lemmas.Bool.{cases_eq}
use Rattle.std.proofs.lemmas.List.{length-set, take_more}
use Rattle.std.proofs.lemmas.List.Elements.{All-contains, Contains-push, Contains-push_cases, Contains-append_left}
use Rattle.std.proofs.lemmas.List.Sums.{sum_by-set}
use Rattle.dso_machine.specs.declared.tree.Expr.{Expr}
use Rattle.dso_machine.specs.declared.tree.Stmt.{Stmt}
use Rattle.dso_lint.specs.declared.marks.Marks.{Marks}
use Rattle.dso_lint.specs.declared.row.Row.{Row}
use Rattle.dso_lint.specs.Lists.{Lists}
use Rattle.dso_lint.specs.Marked.{IsMarked, AreTidy, MarksMore, Counts, IsCounted, IsCallTo, HasCallTo}
use Rattle.dso_machine.specs.declared.tree.Expr.TheVariants as x
use Rattle.dso_lint.specs.Trees.{Uses}
use Rattle.dso_lint.proofs.standing.Trees.{Some_of, of_none, call_same}

-- nothing is marked
pub marks_none : (P : ℕ → Type 0) (marks : Marks) → ((m : ℕ) → P m → ⊥) → MarksMore P marks marks
marks_none P marks never = record {
  size = refl;
  kept = λ m is. is;
  added = λ m low is. absurd (never m is);
  only = λ m is. inl is;
  more = [];
  behind = sym (append-nil marks.found.items);
  tidy = λ tidy. tidy;
}

-- nothing is marked that unmarked, or that isn't one of the numbers
pub marks_known : (P : ℕ → Type 0) (marks : Marks) → ((m : ℕ) → m < length marks.marked.items → P m → IsMarked marks m) → MarksMore P marks marks
marks_known P marks known = record {
  size = refl;
  kept = λ m is. is;
  added = known;
  only = λ m is. inl is;
  more = [];
  behind = sym (append-nil marks.found.items);
  tidy = λ tidy. tidy;
}

pub marks_both : (P Q : ℕ → Type 0) (old mid new : Marks) → MarksMore P old mid → MarksMore Q mid new → MarksMore (λ m. P m ⊎ Q m) old new
marks_both P Q old mid new a b = record {
  size = b.size ∙ a.size;
  kept = λ m is. b.kept m (a.kept m is);
  added = added;
  only = λ m is. only m (b.only m is);
  more = a.more ++ b.more;
  behind = b.behind ∙ ap (λ xs. xs ++ b.more) a.behind ∙ append_assoc old.found.items a.more b.more;
  tidy = λ tidy. b.tidy (a.tidy tidy);
}
  where
    added : (m : ℕ) → m < length old.marked.items → P m ⊎ Q m → IsMarked new m
    added m low (inl is) = b.kept m (a.added m low is)
    added m low (inr is) = b.added m (subst (λ n. m < n) (sym a.size) low) is

    first : (m : ℕ) → IsMarked old m ⊎ P m → IsMarked old m ⊎ (P m ⊎ Q m)
    first m (inl was) = inl was
    first m (inr is) = inr (inl is)

    only : (m : ℕ) → IsMarked mid m ⊎ Q m → IsMarked old m ⊎ (P m ⊎ Q m)
    only m (inl was) = first m (a.only m was)
    only m (inr is) = inr (inr is)

pub marks_as : (P Q : ℕ → Type 0) (old new : Marks) → ((m : ℕ) → P m → Q m) → ((m : ℕ) → Q m → P m) → MarksMore P old new → MarksMore Q old new
marks_as P Q old new so back a = record {
  size = a.size;
  kept = a.kept;
  added = λ m low is. a.added m low (back m is);
  only = λ m is. by m (a.only m is);
  more = a.more;
  behind = a.behind;
  tidy = a.tidy;
}
  where
    by : (m : ℕ) → IsMarked old m ⊎ P m → IsMarked old m ⊎ Q m
    by m (inl was) = inl was
    by m (inr is) = inr (so m is)

-- ---- one number more

module _ (old new : Marks) (n : ℕ) (low : n < length old.marked.items) (unmarked : get_or old.marked.items n false ≡ false) (marked : new.marked.items ≡ set old.marked.items n true) (found : new.found.items ≡ old.found.items ++ n ∷ []) where
  now : IsMarked new n
  now = subst (λ xs. get_or xs n false ≡ true) (sym marked) (get_or-set_same old.marked.items n true false low)

  other : (m : ℕ) → (m ≡ n → ⊥) → get_or new.marked.items m false ≡ get_or old.marked.items m false
  other m differs = ap (λ xs. get_or xs m false) marked ∙ get_or-set_other old.marked.items n m true false differs

  kept : (m : ℕ) → IsMarked old m → IsMarked new m
  kept m is = by (cases_eq m n)
    where
      by : (m ≡ n) ⊎ (m ≡ n → ⊥) → IsMarked new m
      by (inl same) = subst (IsMarked new) (sym same) now
      by (inr differs) = other m differs ∙ is

  only : (m : ℕ) → IsMarked new m → IsMarked old m ⊎ (n ≡ m)
  only m is = by (cases_eq m n)
    where
      by : (m ≡ n) ⊎ (m ≡ n → ⊥) → IsMarked old m ⊎ (n ≡ m)
      by (inl same) = inr (sym same)
      by (inr differs) = inl (sym (other m differs) ∙ is)

  tidy : AreTidy old → AreTidy new
  tidy was = record { found = there; marked = back; counted = counted }
    where
      there : (m : ℕ) → IsMarked new m → Contains new.found.items m
      there m is = subst (λ xs. Contains xs m) (sym found) (by (only m is))
        where
          by : IsMarked old m ⊎ (n ≡ m) → Contains (old.found.items ++ n ∷ []) m
          by (inl before) = Contains-append_left old.found.items (n ∷ []) m (was.found m before)
          by (inr same) = subst (Contains (old.found.items ++ n ∷ [])) same (Contains-push old.found.items n)

      back : (m : ℕ) → Contains new.found.items m → IsMarked new m
      back m is = by (Contains-push_cases old.found.items n m (subst (λ xs. Contains xs m) found is))
        where
          by : Contains old.found.items m ⊎ (n ≡ m) → IsMarked new m
          by (inl before) = kept m (was.marked m before)
          by (inr same) = subst (IsMarked new) same now

      counted : count_by (λ mark. mark) new.marked.items ≡ length new.found.items
      counted =
          let f : Bool → ℕ = λ b. cond b 1 0 in
          let sums = sum_by-set f old.marked.items n true false low in
          let none_before : f (get_or old.marked.items n false) ≡ 0 = ap f unmarked in
          let as_new : count_by (λ mark. mark) new.marked.items ≡ count_by (λ mark. mark) (set old.marked.items n true) = ap (count_by (λ mark. mark)) marked in
          let longer : length new.found.items ≡ length old.found.items + 1 = ap length found ∙ length-append old.found.items (n ∷ []) in
          omega (arith, sums, none_before, as_new, longer, was.counted)

  pub marks_one : MarksMore (λ m. n ≡ m) old new
  marks_one = record {
    size = ap length marked ∙ length-set old.marked.items n true;
    kept = kept;
    added = λ m high same. subst (IsMarked new) same now;
    only = only;
    more = n ∷ [];
    behind = found;
    tidy = tidy;
  }

-- ---- for a list of things, one after the other

module _ {Y : Type 0} (R : Y → ℕ → Type 0) where
  -- one of the list marks the number
  abbrev pub OfAny : List Y → ℕ → Type 0
  OfAny ys m = Some_of (λ y. R y m) ys

  pub marks_of_none : (marks : Marks) → MarksMore (OfAny []) marks marks
  marks_of_none marks = marks_none (OfAny []) marks (λ m one. of_none (λ y. R y m) one)

  pub marks_of_push : (ys : List Y) (y : Y) (old mid new : Marks) → MarksMore (OfAny ys) old mid → MarksMore (R y) mid new → MarksMore (OfAny (ys ++ y ∷ [])) old new
  marks_of_push ys y old mid new a b = marks_as (λ m. OfAny ys m ⊎ R y m) (OfAny (ys ++ y ∷ [])) old new so back (marks_both (OfAny ys) (R y) old mid new a b)
    where
      so : (m : ℕ) → OfAny ys m ⊎ R y m → OfAny (ys ++ y ∷ []) m
      so m (inl one) = (one.0, Contains-append_left ys (y ∷ []) one.0 one.1, one.2)
      so m (inr is) = (y, Contains-push ys y, is)

      back : (m : ℕ) → OfAny (ys ++ y ∷ []) m → OfAny ys m ⊎ R y m
      back m one = by (Contains-push_cases ys y one.0 one.1)
        where
          by : Contains ys one.0 ⊎ (y ≡ one.0) → OfAny ys m ⊎ R y m
          by (inl there) = inl (one.0, there, one.2)
          by (inr same) = inr (subst (λ z. R z m) (sym same) one.2)

  pub marks_of_more : (ys : List Y) (i : ℕ) (d : Y) → i < length ys → (old mid new : Marks) → MarksMore (OfAny (take i ys)) old mid → MarksMore (R (get_or ys i d)) mid new
      → MarksMore (OfAny (take (i + 1) ys)) old new
  marks_of_more ys i d low old mid new a b = subst (λ all. MarksMore (OfAny all) old new) (sym (take_more ys i d low)) (marks_of_push (take i ys) (get_or ys i d) old mid new a b)

-- ---- what is marked for a callee, and for an expression

abbrev pub IsOf : ℕ × ℕ → ℕ → Type 0
IsOf callee m = callee.1 ≡ m

abbrev pub CallsBy : Option (Bor Row) → Bor Expr → ℕ → Type 0
CallsBy row e m = IsCallTo row e.now m

-- each of the callees
pub marks_callees : (callees : List (ℕ × ℕ)) (old new : Marks) → MarksMore (OfAny IsOf callees) old new → MarksMore (λ m. (class : ℕ) × Contains callees (class, m)) old new
marks_callees callees old new a = marks_as (OfAny IsOf callees) (λ m. (class : ℕ) × Contains callees (class, m)) old new
    (λ m one. (one.0.0, subst (λ n. Contains callees (one.0.0, n)) one.2 one.1)) (λ m is. ((is.0, m), is.1, refl)) a

-- each call that the block makes
pub marks_calls : (row : Option (Bor Row)) (block : List Stmt) (expressions : List (Bor Expr)) (old new : Marks) → Lists (Uses block) expressions → MarksMore (OfAny (CallsBy row) expressions) old new
    → MarksMore (HasCallTo row block) old new
marks_calls row block expressions old new lists a = marks_as (OfAny (CallsBy row) expressions) (HasCallTo row block) old new so back a
  where
    so : (m : ℕ) → OfAny (CallsBy row) expressions m → HasCallTo row block m
    so m one = (one.0.now, All-contains (λ (e : Bor Expr). Uses block e.now) expressions one.0 lists.only one.1, one.2)

    back : (m : ℕ) → HasCallTo row block m → OfAny (CallsBy row) expressions m
    back m call =
        let at = lists.all call.0 call.1 in
        (at.0, at.1, subst (λ e. IsCallTo row e m) (sym at.2) call.2)

-- a call that counts, and one that doesn't
pub marks_counted : (row : Option (Bor Row)) (receiver : Expr) (callees : List (ℕ × ℕ)) (old new : Marks) → Counts row receiver → MarksMore (λ m. (class : ℕ) × Contains callees (class, m)) old new
    → MarksMore (IsCounted row receiver callees) old new
marks_counted row receiver callees old new counts a = marks_as (λ m. (class : ℕ) × Contains callees (class, m)) (IsCounted row receiver callees) old new
    (λ m is. record { class = is.0; may = is.1; counts = counts }) (λ m is. (is.class, is.may)) a

pub marks_uncounted : (row : Option (Bor Row)) (receiver : Expr) (callees : List (ℕ × ℕ)) (marks : Marks) → (Counts row receiver → ⊥) → MarksMore (IsCounted row receiver callees) marks marks
marks_uncounted row receiver callees marks never = marks_none (IsCounted row receiver callees) marks (λ m is. never is.counts)

-- the call itself
pub marks_call : (row : Option (Bor Row)) (e receiver : Expr) (callees : List (ℕ × ℕ)) (args : List Expr) (old new : Marks) → e ≡ x.Call receiver callees args
    → MarksMore (IsCounted row receiver callees) old new → MarksMore (IsCallTo row e) old new
marks_call row e receiver callees args old new is a = marks_as (IsCounted row receiver callees) (IsCallTo row e) old new so back a
  where
    so : (m : ℕ) → IsCounted row receiver callees m → IsCallTo row e m
    so m one = record { receiver = receiver; callees = callees; args = args; class = one.class; is = is; may = one.may; counts = one.counts }

    back : (m : ℕ) → IsCallTo row e m → IsCounted row receiver callees m
    back m call =
        let same = call_same call.receiver receiver call.callees callees call.args args (sym call.is ∙ is) in
        record { class = call.class; may = subst (λ cs. Contains cs (call.class, m)) same.1 call.may; counts = subst (Counts row) same.0 call.counts }

-- ---- numbers themselves

abbrev pub IsNumber : ℕ → ℕ → Type 0
IsNumber number m = number ≡ m

pub marks_numbers : (numbers : List ℕ) (old new : Marks) → MarksMore (OfAny IsNumber numbers) old new → MarksMore (λ m. Contains numbers m) old new
marks_numbers numbers old new a = marks_as (OfAny IsNumber numbers) (λ m. Contains numbers m) old new (λ m one. subst (Contains numbers) one.2 one.1) (λ m is. (m, is, refl)) a

-- a number if it is wanted
pub marks_wanted : (number : ℕ) (wanted : Bool) (old new : Marks) → wanted ≡ true → MarksMore (IsNumber number) old new → MarksMore (λ m. (number ≡ m) × (wanted ≡ true)) old new
marks_wanted number wanted old new is a = marks_as (IsNumber number) (λ m. (number ≡ m) × (wanted ≡ true)) old new (λ m same. (same, is)) (λ m both. both.0) a

pub marks_unwanted : (number : ℕ) (wanted : Bool) (marks : Marks) → wanted ≡ false → MarksMore (λ m. (number ≡ m) × (wanted ≡ true)) marks marks
marks_unwanted number wanted marks not = marks_none (λ m. (number ≡ m) × (wanted ≡ true)) marks (λ m both. absurd (cc (sym both.1 ∙ not)))

-- The order of use after a change: who is in it, how many, and that it still agrees.
use Rattle.std.proofs.Common.{ℕ, suc, ◌+◌, ◌-◌, ◌≡◌, ◌≤◌, refl, sym, ◌∙◌, ap, subst, arith, Bool, true, false, cond, not, eqb, ◌&&◌, ◌||◌, List, ◌∷◌, ◌++◌, length, take, drop}
use Rattle.std.proofs.Math.Path.{fun_ext}
use Rattle.std.proofs.lemmas.Bool.{eqb-true, eq-eqb}
use Rattle.std.proofs.lemmas.List.{take-append-drop, take_all, length-append, length-take}
use Rattle.std.proofs.lemmas.List.Folds.{list_any-append}
use Rattle.std.specs.BTreeSet.{contains}
use Rattle.std.specs.Ordering.{nat_cmp}
use Rattle.dso_lookup.specs.Search.{is_listed}
use Rattle.dso_table.specs.declared.order.Order.{Order}
use Rattle.dso_table.specs.States.{without, with_at}
use Rattle.dso_table.specs.ObjectTables.{used_in, limit_in, is_ordered, number_in, IsEachOnce, OrderAgrees}
use Rattle.dso_table.proofs.lists.Lists.{neither, listed_without, without_absent, length_without, once_without, once_front, apart_rest}
use Rattle.dso_table.proofs.lists.Numbers.{either_way, with_at_told}

-- what is told of the order after a change: who is used, who is in it, how many, and that it agrees
pub record IsMoved (new : Order) (objects : List ℕ) (are_in : ℕ → Bool) (n : ℕ) : Type 0 where
  pub used : used_in new ≡ objects
  pub members : is_ordered new ≡ are_in
  pub number : number_in new ≡ n
  pub agrees : OrderAgrees new

-- an order with these objects used last and these others
pub moved : (new : Order) (used : List ℕ) (others members : ℕ → Bool) (n : ℕ) → used_in new ≡ used → ((p : ℕ) → contains nat_cmp new.others p ≡ others p) → ((p : ℕ) → (is_listed p used || others p) ≡ members p) → length new.others.keys + length used ≡ n → IsEachOnce used → length used ≤ limit_in new → ((p : ℕ) → is_listed p used ≡ true → others p ≡ false) → IsMoved new used members n
moved new used others members n is rest all number once fits apart = record {
  used = is;
  members = fun_ext (λ p. ap (λ xs. is_listed p xs || contains nat_cmp new.others p) is ∙ (ap (λ b. is_listed p used || b) (rest p) ∙ all p));
  number = ap (λ xs. length new.others.keys + length xs) is ∙ number;
  agrees = record {
    once = subst (λ xs. IsEachOnce xs) (sym is) once;
    fits = subst (λ xs. length xs ≤ limit_in new) (sym is) fits;
    apart = λ p e. rest p ∙ apart p (sym (ap (λ xs. is_listed p xs) is) ∙ e);
  };
}

-- an object isn't in a list without it
absent_from : (o : ℕ) (xs : List ℕ) → is_listed o (without o xs) ≡ false
absent_from o xs = listed_without o o xs ∙ by (is_listed o xs) (eqb o o) (eq-eqb o o refl)
  where
    by : (a b : Bool) → b ≡ true → (a && not b) ≡ false
    by true true e = refl
    by true false e = absurd (cc e)
    by false b e = refl

-- who is in a list where a listed object went first
first_listed : (o p : ℕ) (xs : List ℕ) → is_listed o xs ≡ true → is_listed p (o ∷ without o xs) ≡ is_listed p xs
first_listed o p xs there = by (eqb o p) refl
  where
    by : (b : Bool) → eqb o p ≡ b → (b || is_listed p (without o xs)) ≡ is_listed p xs
    by true e = sym (ap (λ q. is_listed q xs) (sym (eqb-true o p e)) ∙ there)
    by false e = listed_without o p xs ∙ (ap (λ b. is_listed p xs && not b) (either_way p o ∙ e) ∙ all (is_listed p xs))
      where
        all : (a : Bool) → (a && not false) ≡ a
        all true = refl
        all false = refl

module _ (old new : Order) (agrees : OrderAgrees old) (o : ℕ) (limit : limit_in new ≡ limit_in old) where
  -- an object that is among those used last goes before them
  pub moved_first : used_in new ≡ o ∷ without o (used_in old) → is_listed o (used_in old) ≡ true → new.others ≡ old.others → IsMoved new (take (limit_in old) (o ∷ without o (used_in old))) (is_ordered old) (number_in old)
  moved_first used there same = moved new (take (limit_in old) front) (contains nat_cmp old.others) (is_ordered old) (number_in old) (used ∙ sym whole) (λ p. ap (λ set. contains nat_cmp set p) same) (λ p. ap (λ b. b || contains nat_cmp old.others p) (listed p)) (ap (λ set. length set.keys + length (take (limit_in old) front)) same ∙ ap (λ xs. length old.others.keys + length xs) whole ∙ omega (arith, shorter)) (subst (λ xs. IsEachOnce xs) (sym whole) (absent_from o (used_in old), once_without o (used_in old) agrees.once)) (subst (λ n. length (take (limit_in old) front) ≤ n) (sym limit) (subst (λ xs. length xs ≤ limit_in old) (sym whole) (omega (arith, shorter, agrees.fits)))) (λ p e. agrees.apart p (sym (listed p) ∙ e))
    where
      front : List ℕ
      front = o ∷ without o (used_in old)

      shorter : length (without o (used_in old)) + 1 ≡ length (used_in old)
      shorter = length_without o (used_in old) agrees.once there

      whole : take (limit_in old) front ≡ front
      whole = take_all (limit_in old) front (omega (arith, shorter, agrees.fits))

      listed : (p : ℕ) → is_listed p (take (limit_in old) front) ≡ is_listed p (used_in old)
      listed p = ap (λ xs. is_listed p xs) whole ∙ first_listed o p (used_in old) there

  -- an object that was among the others goes before those used last, and those for which there is no room join the others
  pub moved_in : (m : ℕ) → limit_in old ≡ suc m → used_in new ≡ o ∷ take m (used_in old) → is_ordered old o ≡ true → is_listed o (used_in old) ≡ false → ((p : ℕ) → contains nat_cmp new.others p ≡ (not (eqb p o) && (contains nat_cmp old.others p || is_listed p (drop m (used_in old))))) → length new.others.keys + 1 ≡ length old.others.keys + length (drop m (used_in old)) → IsMoved new (take (limit_in old) (o ∷ without o (used_in old))) (is_ordered old) (number_in old)
  moved_in m some used there absent rest number = subst (λ xs. IsMoved new xs (is_ordered old) (number_in old)) (sym cut) (moved new (o ∷ kept) (λ p. not (eqb p o) && (contains nat_cmp old.others p || is_listed p gone)) (is_ordered old) (number_in old) used rest all (omega (arith, number, parts)) (front.0, once_front gone kept once) (subst (λ n. length (o ∷ kept) ≤ n) (sym (limit ∙ some)) (omega (arith, length-take m (used_in old)))) apart)
    where
      kept : List ℕ
      kept = take m (used_in old)

      gone : List ℕ
      gone = drop m (used_in old)

      split : kept ++ gone ≡ used_in old
      split = take-append-drop m (used_in old)

      cut : take (limit_in old) (o ∷ without o (used_in old)) ≡ o ∷ kept
      cut = ap (λ n. take n (o ∷ without o (used_in old))) some ∙ ap (λ xs. o ∷ take m xs) (without_absent o (used_in old) absent)

      once : IsEachOnce (kept ++ gone)
      once = subst (λ xs. IsEachOnce xs) (sym split) agrees.once

      parts : length kept + length gone ≡ length (used_in old)
      parts = sym (length-append kept gone) ∙ ap (λ xs. length xs) split

      either : (p : ℕ) → (is_listed p kept || is_listed p gone) ≡ is_listed p (used_in old)
      either p = sym (list_any-append (λ q. eqb q p) kept gone) ∙ ap (λ xs. is_listed p xs) split

      front : (is_listed o kept ≡ false) × (is_listed o gone ≡ false)
      front = neither (is_listed o kept) (is_listed o gone) (either o ∙ absent)

      all : (p : ℕ) → (is_listed p (o ∷ kept) || (not (eqb p o) && (contains nat_cmp old.others p || is_listed p gone))) ≡ is_ordered old p
      all p = by (eqb o p) (either_way p o) refl
        where
          turned : (k g c : Bool) → (k || (c || g)) ≡ ((k || g) || c)
          turned true g c = refl
          turned false true true = refl
          turned false true false = refl
          turned false false true = refl
          turned false false false = refl

          by : (b : Bool) → eqb p o ≡ b → eqb o p ≡ b → ((b || is_listed p kept) || (not (eqb p o) && (contains nat_cmp old.others p || is_listed p gone))) ≡ is_ordered old p
          by true e f = sym (ap (λ q. is_ordered old q) (sym (eqb-true o p f)) ∙ there)
          by false e f = ap (λ b. is_listed p kept || (not b && (contains nat_cmp old.others p || is_listed p gone))) e ∙ (turned (is_listed p kept) (is_listed p gone) (contains nat_cmp old.others p) ∙ ap (λ b. b || contains nat_cmp old.others p) (either p))

      apart : (p : ℕ) → is_listed p (o ∷ kept) ≡ true → (not (eqb p o) && (contains nat_cmp old.others p || is_listed p gone)) ≡ false
      apart p e = by (eqb o p) (either_way p o) refl e
        where
          by : (b : Bool) → eqb p o ≡ b → eqb o p ≡ b → (b || is_listed p kept) ≡ true → (not (eqb p o) && (contains nat_cmp old.others p || is_listed p gone)) ≡ false
          by true e f h = ap (λ b. not b && (contains nat_cmp old.others p || is_listed p gone)) e
          by false e f h =
              let c : contains nat_cmp old.others p ≡ false = agrees.apart p (sym (either p) ∙ ap (λ b. b || is_listed p gone) h) in
              let g : is_listed p gone ≡ false = apart_rest gone kept once p h in
              ap (λ b. not b && (contains nat_cmp old.others p || is_listed p gone)) e ∙ (ap (λ b. b || is_listed p gone) c ∙ g)

  -- an object that is in the order is taken out of it
  pub moved_out : used_in new ≡ without o (used_in old) → ((p : ℕ) → contains nat_cmp new.others p ≡ (not (eqb p o) && contains nat_cmp old.others p)) → is_ordered old o ≡ true → length new.others.keys + cond (contains nat_cmp old.others o) 1 0 ≡ length old.others.keys → IsMoved new (without o (used_in old)) (with_at o false (is_ordered old)) (number_in old - 1)
  moved_out used rest there number = moved new (without o (used_in old)) (λ p. not (eqb p o) && contains nat_cmp old.others p) (with_at o false (is_ordered old)) (number_in old - 1) used rest all (count (is_listed o (used_in old)) (contains nat_cmp old.others o) refl refl there number) (once_without o (used_in old) agrees.once) (subst (λ n. length (without o (used_in old)) ≤ n) (sym limit) (omega (arith, agrees.fits, shorter (is_listed o (used_in old)) refl))) apart
    where
      shorter : (b : Bool) → is_listed o (used_in old) ≡ b → length (without o (used_in old)) ≤ length (used_in old)
      shorter true e = omega (arith, length_without o (used_in old) agrees.once e)
      shorter false e = omega (arith, ap (λ xs. length xs) (without_absent o (used_in old) e))

      all : (p : ℕ) → (is_listed p (without o (used_in old)) || (not (eqb p o) && contains nat_cmp old.others p)) ≡ with_at o false (is_ordered old) p
      all p = ap (λ b. b || (not (eqb p o) && contains nat_cmp old.others p)) (listed_without o p (used_in old)) ∙ (by (eqb p o) (is_listed p (used_in old)) (contains nat_cmp old.others p) ∙ sym (with_at_told o false (is_ordered old) p))
        where
          by : (b l c : Bool) → ((l && not b) || (not b && c)) ≡ cond b false (l || c)
          by true true c = refl
          by true false c = refl
          by false true c = refl
          by false false c = refl

      apart : (p : ℕ) → is_listed p (without o (used_in old)) ≡ true → (not (eqb p o) && contains nat_cmp old.others p) ≡ false
      apart p e = by (is_listed p (used_in old)) (eqb p o) refl (sym (listed_without o p (used_in old)) ∙ e)
        where
          by : (l b : Bool) → is_listed p (used_in old) ≡ l → (l && not b) ≡ true → (not b && contains nat_cmp old.others p) ≡ false
          by true true is e = refl
          by true false is e = agrees.apart p is
          by false b is e = absurd (cc e)

      count : (l c : Bool) → is_listed o (used_in old) ≡ l → contains nat_cmp old.others o ≡ c → (is_listed o (used_in old) || contains nat_cmp old.others o) ≡ true → length new.others.keys + cond (contains nat_cmp old.others o) 1 0 ≡ length old.others.keys → length new.others.keys + length (without o (used_in old)) ≡ number_in old - 1
      count true true is has there number = absurd (cc (sym (agrees.apart o is) ∙ has))
      count true false is has there number =
          let more : length new.others.keys + 0 ≡ length old.others.keys = sym (ap (λ b. length new.others.keys + cond b 1 0) has) ∙ number in
          omega (arith, more, length_without o (used_in old) agrees.once is)
      count false true is has there number =
          let more : length new.others.keys + 1 ≡ length old.others.keys = sym (ap (λ b. length new.others.keys + cond b 1 0) has) ∙ number in
          omega (arith, more, ap (λ xs. length xs) (without_absent o (used_in old) is))
      count false false is has there number = absurd (cc (sym (ap (λ b. b || contains nat_cmp old.others o) is ∙ has) ∙ there))

-- A search for the object that is flushed next: what was looked at is not flushable.
use Rattle.std.proofs.Common.{ℕ, ◌≡◌, ◌≢◌, ◌≤◌, refl, sym, ◌∙◌, ap, subst, arith, Bool, true, false, ◌||◌, eqb, List, [], ◌∷◌, ◌++◌, append_assoc, append-nil}
use Rattle.std.proofs.lemmas.Bool.{eqb-true}
use Rattle.std.proofs.lemmas.Cmp.{nat_cmp_total}
use Rattle.std.proofs.lemmas.Map.Keys.{ge_from_not_lt}
use Rattle.std.specs.BTreeMap.{is_at}
use Rattle.std.specs.BTreeSet.{contains}
use Rattle.std.specs.List.{list_any, AllByRecursion}
use Rattle.std.specs.List.Sorted.{IsStrictlySortedBy}
use Rattle.std.specs.Map.{keys_of}
use Rattle.std.specs.Ordering.{is_lt, nat_cmp, ordering_reverse}
use Rattle.std.specs.declared.cmp.Ordering.TheVariants.{Less}
use Rattle.dso_lookup.specs.Search.{is_listed}
use Rattle.dso_table.specs.declared.tables.ObjectTables.{ObjectTables}
use Rattle.dso_table.specs.ObjectTables.{used_in, state_in, TablesAgree}
use Rattle.dso_table.specs.Victims.{IsFlushable, IsLeastUnused, IsLeastRecent}
use Rattle.dso_table.proofs.lists.Numbers.{at_it, is_at_itself}

-- the object is among these, by their order
abbrev pub among : ℕ → List ℕ → Bool
among p objects = list_any (is_at (nat_cmp p)) objects

-- These of the others are left, by rising id, and each flushable one is among them.
pub record AreLeft (tables : ObjectTables) (rest : List ℕ) : Type 0 where
  pub rising : IsStrictlySortedBy nat_cmp rest
  pub others : (p : ℕ) → among p rest ≡ true → contains nat_cmp tables.order.others p ≡ true
  pub flushable : (p : ℕ) → IsFlushable (state_in tables) p → contains nat_cmp tables.order.others p ≡ true → among p rest ≡ true

-- an object that is the first or among the rest
first_or_rest : (x p : ℕ) (rest : List ℕ) → among p (x ∷ rest) ≡ true → (p ≢ x → among p rest ≡ true)
first_or_rest x p rest e other = by (is_at (nat_cmp p) x) refl e
  where
    by : (b : Bool) → is_at (nat_cmp p) x ≡ b → (b || among p rest) ≡ true → among p rest ≡ true
    by true at e = absurd (other (sym (at_it p x at)))
    by false at e = e

-- all of them are left at first
pub all_left : (tables : ObjectTables) (rest : List ℕ) → rest ≡ tables.order.others.keys → IsStrictlySortedBy nat_cmp tables.order.others.keys → AreLeft tables rest
all_left tables rest is sorted = record {
  rising = subst (λ xs. IsStrictlySortedBy nat_cmp xs) (sym is) sorted;
  others = λ p e. ap (λ xs. among p xs) (sym is) ∙ e;
  flushable = λ p f e. ap (λ xs. among p xs) is ∙ e;
}

-- the first isn't flushable: the others are left
pub fewer_left : (tables : ObjectTables) (x : ℕ) (rest : List ℕ) → AreLeft tables (x ∷ rest) → (IsFlushable (state_in tables) x → ⊥) → AreLeft tables rest
unfolding IsStrictlySortedBy
fewer_left tables x rest left not_it = record {
  rising = left.rising.1;
  others = λ p e. left.others p (or_right (is_at (nat_cmp p) x) (among p rest) e);
  flushable = λ p f e. first_or_rest x p rest (left.flushable p f e) (λ same. not_it (subst (λ q. IsFlushable (state_in tables) q) same f));
}
  where
    or_right : (a b : Bool) → b ≡ true → (a || b) ≡ true
    or_right true b e = refl
    or_right false b e = e

-- who isn't listed can't be
not_listed : (b : Bool) → (b ≡ true → ⊥) → b ≡ false
not_listed true h = absurd (h refl)
not_listed false h = refl

-- an object among those behind another is no less
below : (x p : ℕ) (rest : List ℕ) → AllByRecursion (λ y. nat_cmp x y ≡ Less) rest → among p rest ≡ true → x ≤ p
below x p [] all e = absurd (cc e)
below x p (y ∷ rest) all e = by (below x p rest all.1) (is_at (nat_cmp p) y) refl e
  where
    by : (among p rest ≡ true → x ≤ p) → (b : Bool) → is_at (nat_cmp p) y ≡ b → (b || among p rest) ≡ true → x ≤ p
    by later true at e = omega (arith, at_it p y at, ge_from_not_lt y x (ap (λ r. is_lt r) (nat_cmp_total.antisymm y x ∙ ap (λ r. ordering_reverse r) all.0)))
    by later false at e = later e

module _ (tables : ObjectTables) (agree : TablesAgree tables) where
  -- a flushable object that isn't among those used last is among the others
  in_others : (p : ℕ) → IsFlushable (state_in tables) p → is_listed p (used_in tables.order) ≡ false → contains nat_cmp tables.order.others p ≡ true
  in_others p f unused = sym (ap (λ b. b || contains nat_cmp tables.order.others p) unused) ∙ (sym (agree.residents p) ∙ f.resident)

  -- none is left: each flushable object is among those used last
  pub none_left : AreLeft tables [] → (p : ℕ) → IsFlushable (state_in tables) p → is_listed p (used_in tables.order) ≡ true
  none_left left p f = by (is_listed p (used_in tables.order)) refl
    where
      by : (b : Bool) → is_listed p (used_in tables.order) ≡ b → b ≡ true
      by true e = refl
      by false e = absurd (cc (left.flushable p f (in_others p f e)))

  -- the first that is left is flushable: it is the one of least id
  pub found_left : (x : ℕ) (rest : List ℕ) → AreLeft tables (x ∷ rest) → IsFlushable (state_in tables) x → IsLeastUnused (state_in tables) x
  unfolding IsStrictlySortedBy
  found_left x rest left f = record {
    flushable = f;
    unused = not_listed (is_listed x (used_in tables.order)) (λ used. absurd (cc (sym (agree.order.apart x used) ∙ left.others x (here x rest))));
    least = λ p g unused. least p (left.flushable p g (in_others p g unused));
  }
    where
      here : (n : ℕ) (ns : List ℕ) → among n (n ∷ ns) ≡ true
      here n ns = ap (λ b. b || among n ns) (is_at_itself n)

      least : (p : ℕ) → among p (x ∷ rest) ≡ true → x ≤ p
      least p e = by (is_at (nat_cmp p) x) refl e
        where
          by : (b : Bool) → is_at (nat_cmp p) x ≡ b → (b || among p rest) ≡ true → x ≤ p
          by true at e = omega (arith, at_it p x at)
          by false at e = below x p rest left.rising.0 e

-- Of the objects used last these are left, the later ones; of the others none is flushable.
pub record AreLater (tables : ObjectTables) (rest : List ℕ) : Type 0 where
  pub passed : List ℕ
  pub splits : used_in tables.order ≡ rest ++ passed
  pub unflushable : (p : ℕ) → IsFlushable (state_in tables) p → is_listed p passed ≡ false

-- all of them are left at first
pub all_later : (tables : ObjectTables) (rest : List ℕ) → used_in tables.order ≡ rest → AreLater tables rest
all_later tables rest is = record { passed = []; splits = is ∙ sym (append-nil rest); unflushable = λ p f. refl }

-- the last isn't flushable: the others are left
pub fewer_later : (tables : ObjectTables) (x : ℕ) (all rest : List ℕ) → all ≡ rest ++ x ∷ [] → AreLater tables all → (IsFlushable (state_in tables) x → ⊥) → AreLater tables rest
fewer_later tables x all rest is left not_it = record {
  passed = x ∷ left.passed;
  splits = left.splits ∙ (ap (λ xs. xs ++ left.passed) is ∙ append_assoc rest (x ∷ []) left.passed);
  unflushable = λ p f. by p f (eqb x p) refl;
}
  where
    by : (p : ℕ) → IsFlushable (state_in tables) p → (b : Bool) → eqb x p ≡ b → (b || is_listed p left.passed) ≡ false
    by p f true e = absurd (not_it (subst (λ q. IsFlushable (state_in tables) q) (sym (eqb-true x p e)) f))
    by p f false e = left.unflushable p f

-- the last that is left is flushable: it is the one that was used longest ago
pub found_later : (tables : ObjectTables) (x : ℕ) (all rest : List ℕ) → all ≡ rest ++ x ∷ [] → AreLater tables all → ((p : ℕ) → IsFlushable (state_in tables) p → is_listed p (used_in tables.order) ≡ true) → IsFlushable (state_in tables) x → IsLeastRecent (state_in tables) x
found_later tables x all rest is left used f = record {
  flushable = f;
  all_used = used;
  later = rest;
  earlier = left.passed;
  stands = left.splits ∙ (ap (λ xs. xs ++ left.passed) is ∙ append_assoc rest (x ∷ []) left.passed);
  longest = left.unflushable;
}

-- none is left: no object is flushable
pub none_later : (tables : ObjectTables) → AreLater tables [] → ((p : ℕ) → IsFlushable (state_in tables) p → is_listed p (used_in tables.order) ≡ true) → (p : ℕ) → IsFlushable (state_in tables) p → ⊥
none_later tables left used p f = absurd (cc (sym (left.unflushable p f) ∙ (ap (λ xs. is_listed p xs) (sym left.splits) ∙ used p f)))

-- the keys of entries with one more behind them
pub keys_behind : (es : List (ℕ × Unit {0})) (e : ℕ × Unit {0}) → keys_of (es ++ e ∷ []) ≡ keys_of es ++ e.0 ∷ []
keys_behind [] e = refl
keys_behind (f ∷ es) e = ap (λ xs. f.0 ∷ xs) (keys_behind es e)

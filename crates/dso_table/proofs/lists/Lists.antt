-- Lists in which each object stands once: who is listed, how many, and without one of them.
use Rattle.std.proofs.Common.{ℕ, zero, suc, ◌+◌, ◌≡◌, refl, sym, ◌∙◌, ap, arith, Bool, true, false, cond, not, eqb, nat_eq, ◌&&◌, ◌||◌, List, [], ◌∷◌, ◌++◌, length, take, is_some, Some, None}
use Rattle.std.proofs.lemmas.Bool.{eqb-true}
use Rattle.std.proofs.lemmas.List.Folds.{list_any-append}
use Rattle.std.specs.Map.{keys_of, remove_entry, lookup, lookup_entry}
use Rattle.lru.specs.LruCache.{promoted}
use Rattle.dso_lookup.specs.Search.{is_listed}
use Rattle.dso_table.specs.States.{without}
use Rattle.dso_table.specs.ObjectTables.{IsEachOnce}
use Rattle.dso_table.proofs.lists.Numbers.{either_way}

-- neither of two tests holds
pub neither : (a b : Bool) → (a || b) ≡ false → (a ≡ false) × (b ≡ false)
neither true b e = absurd (cc e)
neither false b e = (refl, e)

-- who is in the list without an object
pub listed_without : (o p : ℕ) (xs : List ℕ) → is_listed p (without o xs) ≡ (is_listed p xs && not (eqb p o))
listed_without o p [] = refl
listed_without o p (x ∷ xs) = by (listed_without o p xs) (eqb x o) (eqb x p) refl refl
  where
    gone : (l d : Bool) → d ≡ true → (l && not d) ≡ not d
    gone true d e = refl
    gone false true e = refl
    gone false false e = absurd (cc e)

    by : is_listed p (without o xs) ≡ (is_listed p xs && not (eqb p o)) → (b c : Bool) → eqb x o ≡ b → eqb x p ≡ c → is_listed p (cond (not b) (x ∷ without o xs) (without o xs)) ≡ ((c || is_listed p xs) && not (eqb p o))
    by rest true true e f = rest ∙ gone (is_listed p xs) (eqb p o) (either_way p o ∙ (sym (ap (λ y. eqb y p) (eqb-true x o e)) ∙ f))
    by rest true false e f = rest
    by rest false true e f = ap (λ b. b || is_listed p (without o xs)) f ∙ sym (ap (λ b. not b) (sym (ap (λ y. eqb y o) (eqb-true x p f)) ∙ e))
    by rest false false e f = ap (λ b. b || is_listed p (without o xs)) f ∙ rest

-- an object that isn't listed takes nothing away
pub without_absent : (o : ℕ) (xs : List ℕ) → is_listed o xs ≡ false → without o xs ≡ xs
without_absent o [] e = refl
without_absent o (x ∷ xs) e =
    let h = neither (eqb x o) (is_listed o xs) e in
    ap (λ b. cond (not b) (x ∷ without o xs) (without o xs)) h.0 ∙ ap (λ ys. x ∷ ys) (without_absent o xs h.1)

-- a listed object stands once, so the list without it is shorter by one
pub length_without : (o : ℕ) (xs : List ℕ) → IsEachOnce xs → is_listed o xs ≡ true → length (without o xs) + 1 ≡ length xs
length_without o [] once e = absurd (cc e)
length_without o (x ∷ xs) once e = by (length_without o xs once.1) (eqb x o) refl e
  where
    by : (is_listed o xs ≡ true → length (without o xs) + 1 ≡ length xs) → (b : Bool) → eqb x o ≡ b → (b || is_listed o xs) ≡ true → length (cond (not b) (x ∷ without o xs) (without o xs)) + 1 ≡ suc (length xs)
    by rest true is e = ap (λ ys. length ys + 1) (without_absent o xs (ap (λ y. is_listed y xs) (sym (eqb-true x o is)) ∙ once.0)) ∙ omega arith
    by rest false is e = omega (arith, rest e)

-- the list without an object has each of the others once
pub once_without : (o : ℕ) (xs : List ℕ) → IsEachOnce xs → IsEachOnce (without o xs)
once_without o [] once = tt
once_without o (x ∷ xs) once = by (once_without o xs once.1) (eqb x o)
  where
    by : IsEachOnce (without o xs) → (b : Bool) → IsEachOnce (cond (not b) (x ∷ without o xs) (without o xs))
    by rest true = rest
    by rest false = (listed_without o x xs ∙ ap (λ b. b && not (eqb x o)) once.0, rest)

module _ (ys : List ℕ) where
  -- so has the front of a list
  pub once_front : (xs : List ℕ) → IsEachOnce (xs ++ ys) → IsEachOnce xs
  once_front [] once = tt
  once_front (x ∷ xs) once = ((neither (is_listed x xs) (is_listed x ys) (sym (list_any-append (λ q. eqb q x) xs ys) ∙ once.0)).0, once_front xs once.1)

  -- and who is in the front isn't in the rest
  pub apart_rest : (xs : List ℕ) → IsEachOnce (xs ++ ys) → (p : ℕ) → is_listed p xs ≡ true → is_listed p ys ≡ false
  apart_rest [] once p e = absurd (cc e)
  apart_rest (x ∷ xs) once p e = by (apart_rest xs once.1 p) (eqb x p) refl e
    where
      by : (is_listed p xs ≡ true → is_listed p ys ≡ false) → (b : Bool) → eqb x p ≡ b → (b || is_listed p xs) ≡ true → is_listed p ys ≡ false
      by rest true is e = ap (λ q. is_listed q ys) (sym (eqb-true x p is)) ∙ (neither (is_listed x xs) (is_listed x ys) (sym (list_any-append (λ q. eqb q x) xs ys) ∙ once.0)).1
      by rest false is e = rest e

module _ {V : Type 0} where
  -- the keys without the entry of an object
  pub keys_removed : (o : ℕ) (es : List (ℕ × V)) → IsEachOnce (keys_of es) → keys_of (remove_entry (nat_eq o) es) ≡ without o (keys_of es)
  keys_removed o [] once = refl
  keys_removed o (e ∷ es) once = by (keys_removed o es once.1) (nat_eq o e.0) (eqb e.0 o) refl (either_way e.0 o)
    where
      by : keys_of (remove_entry (nat_eq o) es) ≡ without o (keys_of es) → (b c : Bool) → eqb e.0 o ≡ c → c ≡ b → keys_of (cond b es (e ∷ remove_entry (nat_eq o) es)) ≡ cond (not c) (e.0 ∷ without o (keys_of es)) (without o (keys_of es))
      by rest true true is same = sym (without_absent o (keys_of es) (ap (λ q. is_listed q (keys_of es)) (sym (eqb-true e.0 o is)) ∙ once.0))
      by rest true false is same = absurd (cc same)
      by rest false true is same = absurd (cc same)
      by rest false false is same = ap (λ xs. e.0 ∷ xs) rest

  -- the entry of an object that is there
  pub entry_there : (o : ℕ) (es : List (ℕ × V)) → is_some (lookup (nat_eq o) es) ≡ true → (e : ℕ × V) × (lookup_entry (nat_eq o) es ≡ Some e) × (e.0 ≡ o)
  entry_there o [] there = absurd (cc there)
  entry_there o (e ∷ es) there = by (entry_there o es) (nat_eq o e.0) refl there
    where
      by : (is_some (lookup (nat_eq o) es) ≡ true → (f : ℕ × V) × (lookup_entry (nat_eq o) es ≡ Some f) × (f.0 ≡ o)) → (b : Bool) → nat_eq o e.0 ≡ b → is_some (cond b (Some e.1) (lookup (nat_eq o) es)) ≡ true → (f : ℕ × V) × (cond b (Some e) (lookup_entry (nat_eq o) es) ≡ Some f) × (f.0 ≡ o)
      by rest true is there = (e, refl, sym (eqb-true o e.0 is))
      by rest false is there = rest there

  -- no entry where the object is not
  pub entry_absent : (o : ℕ) (es : List (ℕ × V)) → is_some (lookup (nat_eq o) es) ≡ false → lookup_entry (nat_eq o) es ≡ None
  entry_absent o [] absent = refl
  entry_absent o (e ∷ es) absent = by (entry_absent o es) (nat_eq o e.0) absent
    where
      by : (is_some (lookup (nat_eq o) es) ≡ false → lookup_entry (nat_eq o) es ≡ None) → (b : Bool) → is_some (cond b (Some e.1) (lookup (nat_eq o) es)) ≡ false → cond b (Some e) (lookup_entry (nat_eq o) es) ≡ None
      by rest true absent = absurd (cc absent)
      by rest false absent = rest absent

  -- whether the object is there, by its entry or by the keys
  pub listed_keys : (o : ℕ) (es : List (ℕ × V)) → is_some (lookup (nat_eq o) es) ≡ is_listed o (keys_of es)
  listed_keys o [] = refl
  listed_keys o (e ∷ es) = by (listed_keys o es) (nat_eq o e.0) (eqb e.0 o) (either_way e.0 o)
    where
      by : is_some (lookup (nat_eq o) es) ≡ is_listed o (keys_of es) → (b c : Bool) → c ≡ b → is_some (cond b (Some e.1) (lookup (nat_eq o) es)) ≡ (c || is_listed o (keys_of es))
      by rest true true same = refl
      by rest true false same = absurd (cc same)
      by rest false true same = absurd (cc same)
      by rest false false same = rest

  -- the keys where the entry of an object went first
  pub keys_promoted : (o : ℕ) (es : List (ℕ × V)) → IsEachOnce (keys_of es) → is_some (lookup (nat_eq o) es) ≡ true → keys_of (promoted (nat_eq o) es) ≡ o ∷ without o (keys_of es)
  keys_promoted o es once there =
      let h = entry_there o es there in
      rw h.1 (ap (λ q. q ∷ keys_of (remove_entry (nat_eq o) es)) h.2 ∙ ap (λ xs. o ∷ xs) (keys_removed o es once))

  -- the keys of the first entries
  pub keys_taken : (n : ℕ) (es : List (ℕ × V)) → keys_of (take n es) ≡ take n (keys_of es)
  keys_taken zero es = refl
  keys_taken (suc n) [] = refl
  keys_taken (suc n) (e ∷ es) = ap (λ xs. e.0 ∷ xs) (keys_taken n es)

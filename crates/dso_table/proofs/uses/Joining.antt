-- The two parts of an order, where an object is pushed before those used last.
use Rattle.std.proofs.Common.{ℕ, zero, suc, ◌+◌, ◌-◌, ◌≡◌, ◌<◌, refl, sym, ◌∙◌, ap, subst, arith, Bool, true, false, cond, not, eqb, nat_eq, ◌||◌, List, [], ◌∷◌, length, take, drop, slice_get, Some}
use Rattle.std.specs.BTreeMap.{is_at}
use Rattle.std.specs.BTreeSet.{BTreeSet, contains}
use Rattle.std.specs.Map.{keys_of}
use Rattle.std.specs.Option.{option_map_or}
use Rattle.std.specs.Ordering.{nat_cmp}
use Rattle.std.proofs.lemmas.Bool.{eqb-true, eq-eqb}
use Rattle.std.proofs.lemmas.List.{take-append-drop}
use Rattle.std.proofs.lemmas.List.Folds.{list_any-append}
use Rattle.lru.specs.LruCache.{LruCache, put_entries}
use Rattle.dso_lookup.specs.Search.{is_listed}
use Rattle.dso_table.specs.ObjectTables.{JoinedBy}
use Rattle.dso_table.proofs.lists.Lists.{entry_absent, listed_keys}
use Rattle.dso_table.proofs.lists.Numbers.{at_number, either_way}

-- a new entry goes before the first of the others
pub put_absent : (recent : LruCache ℕ (Unit {0})) (o : ℕ) → is_listed o (keys_of recent.entries) ≡ false → put_entries nat_eq recent o tt ≡ (o, tt) ∷ take (recent.cap - 1) recent.entries
put_absent recent o absent = rw (entry_absent o recent.entries (listed_keys o recent.entries ∙ absent)) refl

-- the key at the end of a list
key_at_end : (n : ℕ) (es : List (ℕ × Unit {0})) (last : ℕ × Unit {0}) → length es ≡ suc n → slice_get es n ≡ Some last → drop n (keys_of es) ≡ last.0 ∷ []
key_at_end n [] last e is = absurd (omega (arith, e))
key_at_end zero (f ∷ []) last e is = ap (λ p. option_map_or (λ q. q.0 ∷ []) p []) is
key_at_end zero (f ∷ g ∷ es) last e is = absurd (omega (arith, e))
key_at_end (suc n) (f ∷ es) last e is = key_at_end n es last (omega (arith, e)) is

-- the last key
pub last_key : (es : List (ℕ × Unit {0})) (last : ℕ × Unit {0}) → 0 < length es → slice_get es (length es - 1) ≡ Some last → drop (length es - 1) (keys_of es) ≡ last.0 ∷ []
last_key es last some is = key_at_end (length es - 1) es last (omega (arith, some)) is

-- it is among the keys
pub last_listed : (es : List (ℕ × Unit {0})) (last : ℕ × Unit {0}) → 0 < length es → slice_get es (length es - 1) ≡ Some last → is_listed last.0 (keys_of es) ≡ true
last_listed es last some is = ap (λ xs. is_listed last.0 xs) (sym (take-append-drop (length es - 1) (keys_of es))) ∙ (list_any-append (λ q. eqb q last.0) (take (length es - 1) (keys_of es)) (drop (length es - 1) (keys_of es)) ∙ (ap (λ xs. is_listed last.0 (take (length es - 1) (keys_of es)) || is_listed last.0 xs) (last_key es last some is) ∙ by (is_listed last.0 (take (length es - 1) (keys_of es))) (eqb last.0 last.0) (eq-eqb last.0 last.0 refl)))
  where
    by : (a b : Bool) → b ≡ true → (a || (b || false)) ≡ true
    by true b e = refl
    by false true e = refl
    by false false e = absurd (cc e)

module _ (others mid : BTreeSet ℕ) (o : ℕ) (absent : contains nat_cmp others o ≡ false) (has : (q : ℕ) → contains nat_cmp mid q ≡ cond (is_at (nat_cmp o) q) true (contains nat_cmp others q)) where
  -- an object that wasn't among them joined the others
  pub joined_one : (added : Bool) → added ≡ not (contains nat_cmp others o) → length mid.keys ≡ length others.keys + cond added 1 0 → JoinedBy (o ∷ []) others mid
  joined_one added is len = record {
    has = λ q. has q ∙ by (is_at (nat_cmp o) q) (eqb o q) (contains nat_cmp others q) (at_number o q ∙ either_way q o);
    number = subst (λ b. length mid.keys ≡ length others.keys + cond b 1 0) (is ∙ ap (λ b. not b) absent) len;
  }
    where
      by : (a b c : Bool) → a ≡ b → cond a true c ≡ (c || (b || false))
      by true true true e = refl
      by true true false e = refl
      by true false c e = absurd (cc e)
      by false true c e = absurd (cc e)
      by false false true e = refl
      by false false false e = refl

  -- and left them again
  pub left_again : (after : BTreeSet ℕ) (was : Bool) → length mid.keys ≡ length others.keys + 1 → ((q : ℕ) → contains nat_cmp after q ≡ cond (is_at (nat_cmp o) q) false (contains nat_cmp mid q)) → was ≡ contains nat_cmp mid o → length after.keys + cond was 1 0 ≡ length mid.keys → JoinedBy [] others after
  left_again after was more gone test len =
      let there : contains nat_cmp mid o ≡ true = has o ∙ ap (λ b. cond b true (contains nat_cmp others o)) (at_number o o ∙ eq-eqb o o refl) in
      let fewer : length after.keys + 1 ≡ length mid.keys = subst (λ b. length after.keys + cond b 1 0 ≡ length mid.keys) (test ∙ there) len in
      record {
        has = λ q. gone q ∙ (ap (λ b. cond (is_at (nat_cmp o) q) false b) (has q) ∙ by q (is_at (nat_cmp o) q) (eqb q o) (at_number o q) refl);
        number = omega (arith, more, fewer);
      }
    where
      by : (q : ℕ) (a b : Bool) → a ≡ b → eqb q o ≡ b → cond a false (cond a true (contains nat_cmp others q)) ≡ (contains nat_cmp others q || false)
      by q true true e f = sym (ap (λ p. contains nat_cmp others p || false) (eqb-true q o f) ∙ ap (λ b. b || false) absent)
      by q true false e f = absurd (cc e)
      by q false true e f = absurd (cc e)
      by q false false e f = or_false (contains nat_cmp others q)
        where
          or_false : (b : Bool) → b ≡ (b || false)
          or_false true = refl
          or_false false = refl

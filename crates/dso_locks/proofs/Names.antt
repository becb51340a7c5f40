-- Lists of locks in the order of the table, and one more lock in it.
use Rattle.std.proofs.Common.{ℕ, ◌<◌, ◌≡◌, refl, sym, ◌∙◌, ap, subst, arith, Bool, true, false, cond, ltb, ◌||◌, Some, None, List, [], ◌∷◌, ◌++◌}
use Rattle.std.proofs.lemmas.Bool.{ltb-true, lt-ltb}
use Rattle.std.specs.BTreeMap.{insert_entry, is_at}
use Rattle.std.specs.Cmp.{ranked}
use Rattle.std.specs.List.{AllByRecursion, list_any}
use Rattle.std.specs.List.Sorted.{IsStrictlySortedBy}
use Rattle.std.specs.Map.{keys_of, lookup}
use Rattle.std.specs.Ordering.{nat_cmp, is_eq, is_lt, match_ordering, MatchOrdering}
use Rattle.std.specs.declared.cmp.Ordering.{Ordering}
use Rattle.std.specs.declared.cmp.Ordering.TheVariants.{Less, Equal, Greater}
use Rattle.dso_base.specs.declared.lock.LockName.{LockName}
use Rattle.dso_base.specs.declared.lock.LockName.TheVariants.{Mon, Name}
use Rattle.dso_law.specs.Leases.{is_lock_before, insert_lock}
use Rattle.dso_law.proofs.client.ClientLaws.{lock_either_way}
use Rattle.dso_lookup.specs.Orders.{lock_order}
use Rattle.dso_plain.specs.KeyTests.{is_lock}
use Rattle.dso_plain.proofs.keys.SameKeys.{same_lock}
use Rattle.dso_plain.proofs.keys.TableOrders.{lock_at}

-- a number stands before another by its order where it is less
number_before : (a b : ℕ) → ltb a b ≡ is_lt (nat_cmp a b)
number_before a b = by (nat_cmp a b) (ranked a b (nat_cmp a b) refl) (ltb a b) refl
  where
    by : (r : Ordering) → MatchOrdering r (a < b) (a ≡ b) (b < a) → (t : Bool) → ltb a b ≡ t → t ≡ is_lt r
    by Less h true e = refl
    by Less h false e = sym e ∙ lt-ltb a b h
    by Equal h true e =
        let less = ltb-true a b e in
        absurd (omega arith)
    by Equal h false e = refl
    by Greater h true e =
        let less = ltb-true a b e in
        absurd (omega arith)
    by Greater h false e = refl

-- the order of the table is that of the locks
before_at : (l key : LockName) → is_lock_before l key ≡ is_lt (lock_order l key)
before_at (Mon o) (Mon key) = number_before o key
before_at (Name o) (Name key) = number_before o key
before_at (Mon o) (Name key) = refl
before_at (Name o) (Mon key) = refl

-- a lock that comes before another isn't it
before_isnt : (l key : LockName) → lock_order l key ≡ Less → is_lock l key ≡ false
before_isnt l key e = sym (lock_at l key) ∙ ap (λ r. is_eq r) e

-- of two locks one comes before the other
not_both : (l k : LockName) → is_lock_before l k ≡ true → is_lock_before k l ≡ true → ⊥
not_both (Mon o) (Mon p) a b =
    let h = ltb-true o p a in
    let g = ltb-true p o b in
    omega arith
not_both (Name o) (Name p) a b =
    let h = ltb-true o p a in
    let g = ltb-true p o b in
    omega arith
not_both (Mon o) (Name p) a b = cc b
not_both (Name o) (Mon p) a b = cc a

module _ {V : Type 0} where
  -- a lock that is found among those behind another comes behind it
  among : (first l : LockName) (v : V) (es : List (LockName × V)) → AllByRecursion (λ k. lock_order first k ≡ Less) (keys_of es) → lookup (is_at (lock_order l)) es ≡ Some v → lock_order first l ≡ Less
  among first l v [] all e = absurd (cc e)
  among first l v (x ∷ xs) all e = by (is_at (lock_order l) x.0) refl e (among first l v xs all.1)
    where
      by : (b : Bool) → is_at (lock_order l) x.0 ≡ b → cond b (Some x.1) (lookup (is_at (lock_order l)) xs) ≡ Some v → (lookup (is_at (lock_order l)) xs ≡ Some v → lock_order first l ≡ Less) → lock_order first l ≡ Less
      by true is e onward = ap (λ k. lock_order first k) (sym (same_lock l x.0 (sym (lock_at l x.0) ∙ is))) ∙ all.0
      by false is e onward = onward e

  -- the keys of a table with one more are the locks with one more
  pub inserted_keys : (l : LockName) (v : V) (es : List (LockName × V)) → keys_of (insert_entry lock_order es l v) ≡ insert_lock l (keys_of es)
  inserted_keys l v [] = refl
  inserted_keys l v (e ∷ es) = by (lock_order l e.0) (is_lock l e.0) (is_lock_before l e.0) (sym (lock_at l e.0)) (before_at l e.0) (inserted_keys l v es)
    where
      by : (r : Ordering) (same before : Bool) → same ≡ is_eq r → before ≡ is_lt r → keys_of (insert_entry lock_order es l v) ≡ insert_lock l (keys_of es)
          → keys_of (match_ordering r ((l, v) ∷ e ∷ es) ((e.0, v) ∷ es) (e ∷ insert_entry lock_order es l v)) ≡ cond same (e.0 ∷ keys_of es) (cond before (l ∷ e.0 ∷ keys_of es) (e.0 ∷ insert_lock l (keys_of es)))
      by Less same before s b onward = rw (s, b) refl
      by Equal same before s b onward = rw s refl
      by Greater same before s b onward = rw (s, b) (ap (λ ks. e.0 ∷ ks) onward)

  -- a key that a table in order has isn't one more
  pub found_kept : (l : LockName) (v : V) (es : List (LockName × V)) → IsStrictlySortedBy lock_order (keys_of es) → lookup (is_at (lock_order l)) es ≡ Some v → insert_lock l (keys_of es) ≡ keys_of es
  unfolding IsStrictlySortedBy
  found_kept l v [] sorted e = absurd (cc e)
  found_kept l v (first ∷ es) sorted e = by (is_lock l first.0) (is_lock_before l first.0) (lock_at l first.0) refl e (found_kept l v es sorted.1)
    where
      by : (same before : Bool) → is_at (lock_order l) first.0 ≡ same → is_lock_before l first.0 ≡ before → cond (is_at (lock_order l) first.0) (Some first.1) (lookup (is_at (lock_order l)) es) ≡ Some v
          → (lookup (is_at (lock_order l)) es ≡ Some v → insert_lock l (keys_of es) ≡ keys_of es)
          → cond same (first.0 ∷ keys_of es) (cond before (l ∷ first.0 ∷ keys_of es) (first.0 ∷ insert_lock l (keys_of es))) ≡ first.0 ∷ keys_of es
      by true before s b e onward = refl
      by false true s b e onward = absurd (not_both l first.0 b (before_at first.0 l ∙ ap (λ r. is_lt r) (among first.0 l v es sorted.0 (subst (λ t. cond t (Some first.1) (lookup (is_at (lock_order l)) es) ≡ Some v) s e))))
      by false false s b e onward = ap (λ ks. first.0 ∷ ks) (onward (subst (λ t. cond t (Some first.1) (lookup (is_at (lock_order l)) es) ≡ Some v) s e))

  -- a lock that is none of the keys is not found
  pub none_found : (l : LockName) (es : List (LockName × V)) → list_any (is_lock l) (keys_of es) ≡ false → lookup (is_at (lock_order l)) es ≡ None
  none_found l [] e = refl
  none_found l (first ∷ es) e = by (is_lock l first.0) (lock_at l first.0) e (none_found l es)
    where
      by : (b : Bool) → is_at (lock_order l) first.0 ≡ b → (b || list_any (is_lock l) (keys_of es)) ≡ false → (list_any (is_lock l) (keys_of es) ≡ false → lookup (is_at (lock_order l)) es ≡ None) → cond (is_at (lock_order l) first.0) (Some first.1) (lookup (is_at (lock_order l)) es) ≡ None
      by true s e onward = absurd (cc e)
      by false s e onward = rw s (onward e)

-- a lock that stands behind others in order is none of them
pub none_before : (l : LockName) (done rest : List LockName) → IsStrictlySortedBy lock_order (done ++ l ∷ rest) → list_any (is_lock l) done ≡ false
unfolding IsStrictlySortedBy
none_before l [] rest sorted = refl
none_before l (first ∷ done) rest sorted = rw (lock_either_way l first ∙ before_isnt first l (one done sorted.0)) (none_before l done rest sorted.1)
  where
    one : (ks : List LockName) → AllByRecursion (λ k. lock_order first k ≡ Less) (ks ++ l ∷ rest) → lock_order first l ≡ Less
    one [] all = all.0
    one (k ∷ ks) all = one ks all.1

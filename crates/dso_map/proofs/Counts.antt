-- How many slots have a value, and how many keys a map has.
use Rattle.std.proofs.Common.{◌≡◌, ◌≢◌, ◌≤◌, ◌<◌, ◌⊎◌, inl, inr, refl, sym, ap, subst, ◌∙◌, ℕ, zero, suc, ◌+◌, Bool, true, false, not, ℤ, List, [], ◌∷◌, length, None, arith}
use Rattle.std.specs.Prelude.{AllPairs, Contains}
use Rattle.std.proofs.lemmas.Bool.{cases_eq}
use Rattle.std.proofs.lemmas.List.Elements.{All-weaker, All-contains_itself}
use Rattle.std.proofs.lemmas.List.Kept.{AllPairs-cons}
use Rattle.std.specs.Ordering.{int_eq}
use Rattle.std.proofs.lemmas.Bool.Decides.{Decides-int_eq}
use Rattle.dso_base.specs.declared.value.Value.{Value}
use Rattle.dso_base.specs.declared.value.Value.TheVariants as value
use Rattle.dso_map.specs.Bodies.{MapBody}
use Rattle.dso_map.specs.Fields.{slots}
use Rattle.dso_map.specs.Talk.{is_null}
use Rattle.dso_map.specs.Fields.MapField.{Held}
use Rattle.dso_map.specs.SoundMap.{touched, key, one_more, count, IsSoundMap}
use Rattle.dso_map.specs.Contents.{Content, value_in, Holds, HasKeys}

-- whether the slot has a value
abbrev pub full : MapBody → ℕ → Bool
full b i = not (is_null (b (Held i)))

-- one, where it is so
one_more_is : (t : Bool) (n : ℕ) → one_more t n ≡ one_more t 0 + n
one_more_is true n = omega arith
one_more_is false n = omega arith

one_at_most : (t : Bool) → one_more t 0 ≤ 1
one_at_most true = omega arith
one_at_most false = omega arith

-- there are no more than slots
pub few : (b : MapBody) (n : ℕ) → count b n ≤ n
few b zero = omega arith
few b (suc n) = omega (arith, one_more_is (full b n) (count b n), one_at_most (full b n), few b n)

-- a slot without a value leaves fewer
pub fewer : (b : MapBody) (n i : ℕ) → i < n → full b i ≡ false → count b n < n
fewer b zero i less is = absurd (omega (arith, less))
fewer b (suc n) i less is = pick (λ below. fewer b n i below is) (cases_eq i n)
  where
    pick : (i < n → count b n < n) → (i ≡ n) ⊎ (i ≡ n → ⊥) → one_more (full b n) (count b n) < suc n
    pick again (inl same) = let none : one_more (full b n) (count b n) ≡ count b n = ap (λ t. one_more t (count b n)) (ap (full b) (sym same) ∙ is) in omega (arith, none, few b n)
    pick again (inr other) = omega (arith, one_more_is (full b n) (count b n), one_at_most (full b n), again (omega (arith, less, other)))

-- where all have one, there are as many
pub all_full : (b : MapBody) (n : ℕ) → ((i : ℕ) → i < n → full b i ≡ true) → count b n ≡ n
all_full b zero all = refl
all_full b (suc n) all = ap (λ t. one_more t (count b n)) (all n (omega arith)) ∙ ap suc (all_full b n (λ i less. all i (omega (arith, less))))

-- the same count, where the slots are the same
pub same_count : (b c : MapBody) (n : ℕ) → ((i : ℕ) → i < n → full c i ≡ full b i) → count c n ≡ count b n
same_count b c zero same = refl
same_count b c (suc n) same = ap (λ t. one_more t (count c n)) (same n (omega arith)) ∙ ap (one_more (full b n)) (same_count b c n (λ i less. same i (omega (arith, less))))

-- one slot that changes
pub one_changed : (b c : MapBody) (n i : ℕ) → i < n → ((j : ℕ) → j < n → i ≢ j → full c j ≡ full b j) → count c n + one_more (full b i) 0 ≡ count b n + one_more (full c i) 0
one_changed b c zero i less same = absurd (omega (arith, less))
one_changed b c (suc n) i less same = pick (λ below. one_changed b c n i below (λ j lower unlike. same j (omega (arith, lower)) unlike)) (cases_eq i n)
  where
    pick : (i < n → count c n + one_more (full b i) 0 ≡ count b n + one_more (full c i) 0) → (i ≡ n) ⊎ (i ≡ n → ⊥) → one_more (full c n) (count c n) + one_more (full b i) 0 ≡ one_more (full b n) (count b n) + one_more (full c i) 0
    pick again (inl is) =
        let before : count c n ≡ count b n = same_count b c n (λ j below. same j (omega (arith, below)) (λ eq. omega (arith, eq, is, below))) in
        let b_here : one_more (full b i) 0 ≡ one_more (full b n) 0 = ap (λ x. one_more (full b x) 0) is in
        let c_here : one_more (full c i) 0 ≡ one_more (full c n) 0 = ap (λ x. one_more (full c x) 0) is in
        omega (arith, before, b_here, c_here, one_more_is (full b n) (count b n), one_more_is (full c n) (count c n))
    pick again (inr other) =
        let here : one_more (full c n) 0 ≡ one_more (full b n) 0 = ap (λ t. one_more t 0) (same n (omega arith) other) in
        omega (arith, here, again (omega (arith, less, other)), one_more_is (full b n) (count b n), one_more_is (full c n) (count c n))

-- ---- keys

-- an item is the first or a later one
first_or_later : (x : ℤ) (xs : List ℤ) (k : ℤ) → Contains (x ∷ xs) k → (x ≡ k) ⊎ Contains xs k
first_or_later x xs k (zero, below, same) = inl same
first_or_later x xs k (suc n, below, same) = inr (n, omega (arith, below), same)

first_there : (x : ℤ) (xs : List ℤ) (k : ℤ) → x ≡ k → Contains (x ∷ xs) k
first_there x xs k same = (0, omega arith, same)

later_there : (x : ℤ) (xs : List ℤ) (k : ℤ) → Contains xs k → Contains (x ∷ xs) k
later_there x xs k (n, below, same) = (suc n, omega (arith, below), same)

-- the key in front, where the slot has a value
abbrev with_key : Bool → ℤ → List ℤ → List ℤ
with_key true k ks = k ∷ ks
with_key false k ks = ks

-- the keys of the first slots that have a value
abbrev keys_of : MapBody → ℕ → List ℤ
keys_of b zero = []
keys_of b (suc n) = with_key (full b n) (key b n) (keys_of b n)

keys_number : (b : MapBody) (n : ℕ) → length (keys_of b n) ≡ count b n
keys_number b zero = refl
keys_number b (suc n) = by (keys_number b n) (full b n)
  where
    by : length (keys_of b n) ≡ count b n → (t : Bool) → length (with_key t (key b n) (keys_of b n)) ≡ one_more t (count b n)
    by again true = ap suc again
    by again false = again

-- a slot with a value and this key
record HasSlot (b : MapBody) (n : ℕ) (k : ℤ) : Type 0 where
  i : ℕ
  less : i < n
  is : full b i ≡ true
  own : key b i ≡ k

keys_are : (b : MapBody) (n : ℕ) (k : ℤ) → Contains (keys_of b n) k → HasSlot b n k
keys_are b zero k (n, below, same) = absurd (omega (arith, below))
keys_are b (suc n) k one = by (keys_are b n k) (full b n) refl one
  where
    later : HasSlot b n k → HasSlot b (suc n) k
    later slot = record { i = slot.i; less = let l : slot.i < n = slot.less in omega (arith, l); is = slot.is; own = slot.own }

    pick : (Contains (keys_of b n) k → HasSlot b n k) → full b n ≡ true → (key b n ≡ k) ⊎ Contains (keys_of b n) k → HasSlot b (suc n) k
    pick again is (inl same) = record { i = n; less = omega arith; is = is; own = same }
    pick again is (inr one) = later (again one)

    by : (Contains (keys_of b n) k → HasSlot b n k) → (t : Bool) → full b n ≡ t → Contains (with_key t (key b n) (keys_of b n)) k → HasSlot b (suc n) k
    by again true is one = pick again is (first_or_later (key b n) (keys_of b n) k one)
    by again false is one = later (again one)

keys_have : (b : MapBody) (n i : ℕ) → i < n → full b i ≡ true → Contains (keys_of b n) (key b i)
keys_have b zero i less is = absurd (omega (arith, less))
keys_have b (suc n) i less is = pick (λ below. keys_have b n i below is) (cases_eq i n)
  where
    pick : (i < n → Contains (keys_of b n) (key b i)) → (i ≡ n) ⊎ (i ≡ n → ⊥) → Contains (with_key (full b n) (key b n) (keys_of b n)) (key b i)
    pick again (inl same) = subst (λ t. Contains (with_key t (key b n) (keys_of b n)) (key b i)) (sym (ap (full b) (sym same) ∙ is)) (first_there (key b n) (keys_of b n) (key b i) (ap (key b) (sym same)))
    pick again (inr other) = by (full b n)
      where
        by : (t : Bool) → Contains (with_key t (key b n) (keys_of b n)) (key b i)
        by true = later_there (key b n) (keys_of b n) (key b i) (again (omega (arith, less, other)))
        by false = again (omega (arith, less, other))

-- whether some touched slot has the key
pub data FindsKey (b : MapBody) (n : ℕ) (k : ℤ) : Type 0 where
  at : (i : ℕ) → i < n → touched b i ≡ true → key b i ≡ k → FindsKey b n k
  nowhere : ((i : ℕ) → i < n → touched b i ≡ true → key b i ≢ k) → FindsKey b n k

pub find_key : (b : MapBody) (n : ℕ) (k : ℤ) → FindsKey b n k
find_key b zero k = FindsKey.nowhere (λ i less. absurd (omega (arith, less)))
find_key b (suc n) k = on (find_key b n k)
  where
    last : ((i : ℕ) → i < n → touched b i ≡ true → key b i ≢ k) → (t : Bool) → touched b n ≡ t → (s : Bool) → int_eq (key b n) k ≡ s → FindsKey b (suc n) k
    last none true is true own = FindsKey.at n (omega arith) is (grind (arith, Decides-int_eq))
    last none true is false own = FindsKey.nowhere (λ i less was same. pick i less was same (cases_eq i n))
      where
        pick : (i : ℕ) → i < suc n → touched b i ≡ true → key b i ≡ k → (i ≡ n) ⊎ (i ≡ n → ⊥) → ⊥
        pick i less was same (inl eq) = let here : key b n ≡ k = subst (λ x. key b x ≡ k) eq same in grind (arith, Decides-int_eq)
        pick i less was same (inr other) = none i (omega (arith, less, other)) was same
    last none false is s own = FindsKey.nowhere (λ i less was same. pick i less was same (cases_eq i n))
      where
        pick : (i : ℕ) → i < suc n → touched b i ≡ true → key b i ≡ k → (i ≡ n) ⊎ (i ≡ n → ⊥) → ⊥
        pick i less was same (inl eq) = cc (sym (ap (touched b) eq ∙ is) ∙ was)
        pick i less was same (inr other) = none i (omega (arith, less, other)) was same

    on : FindsKey b n k → FindsKey b (suc n) k
    on (FindsKey.at i less was own) = FindsKey.at i (omega (arith, less)) was own
    on (FindsKey.nowhere none) = last none (touched b n) refl (int_eq (key b n) k) refl

module _ (b : MapBody) (sound : IsSoundMap b) where
  -- a slot with a value was touched
  pub full_touched : (i : ℕ) → i < slots → full b i ≡ true → (t : Bool) → touched b i ≡ t → t ≡ true
  full_touched i less is true was = refl
  full_touched i less is false was = cc (ap (λ v. not (is_null v)) (sym (sound.empty i less was)) ∙ is)

  keys_differ : (n : ℕ) → n ≤ slots → AllPairs (λ k l. k ≢ l) (keys_of b n)
  keys_differ zero le = λ i j d before within. absurd (omega (arith, within))
  keys_differ (suc n) le = by (keys_differ n (omega (arith, le))) (full b n) refl
    where
      by : AllPairs (λ k l. k ≢ l) (keys_of b n) → (t : Bool) → full b n ≡ t → AllPairs (λ k l. k ≢ l) (with_key t (key b n) (keys_of b n))
      by again true is = AllPairs-cons (λ k l. k ≢ l) (key b n) (keys_of b n) (All-weaker (Contains (keys_of b n)) (λ l. key b n ≢ l) (λ l one same. clash (keys_are b n (key b n) (subst (Contains (keys_of b n)) (sym same) one))) (keys_of b n) (All-contains_itself (keys_of b n))) again
        where
          clash : HasSlot b n (key b n) → ⊥
          clash slot =
              let below : slot.i < n = slot.less in
              let same : slot.i ≡ n = sound.differ slot.i n (omega (arith, below, le)) (omega (arith, le)) (full_touched slot.i (omega (arith, below, le)) slot.is (touched b slot.i) refl) (full_touched n (omega (arith, le)) is (touched b n) refl) slot.own in
              omega (arith, below, same)
      by again false is = again

  -- what a touched slot's value says of its key
  module _ (m : Content) (holds : Holds b m) where
    there : (v : Value) → is_null v ≡ false → value_in v ≡ None → ⊥
    there value.Null is none = cc is
    there (value.Long n) is none = cc none
    there (value.Bool n) is none = cc none
    there (value.Text n) is none = cc none
    there (value.Ref n) is none = cc none

    empty : (v : Value) → is_null v ≡ true → value_in v ≡ None
    empty value.Null is = refl
    empty (value.Long n) is = absurd (cc is)
    empty (value.Bool n) is = absurd (cc is)
    empty (value.Text n) is = absurd (cc is)
    empty (value.Ref n) is = absurd (cc is)

    -- The map has as many keys as the body has slots with a value.
    pub has_keys : HasKeys m (count b slots)
    has_keys = record {
      keys = keys_of b slots;
      number = keys_number b slots;
      differ = keys_differ slots (omega arith);
      are = λ k. (λ one none. here k none (keys_are b slots k one), λ some. found k some (find_key b slots k));
    }
      where
        here : (k : ℤ) → m k ≡ None → HasSlot b slots k → ⊥
        here k none slot = there (b (Held slot.i)) (of_full (is_null (b (Held slot.i))) slot.is) (sym (holds.there slot.i slot.less (full_touched slot.i slot.less slot.is (touched b slot.i) refl)) ∙ ap m slot.own ∙ none)
          where
            of_full : (t : Bool) → not t ≡ true → t ≡ false
            of_full true is = absurd (cc is)
            of_full false is = refl

        found : (k : ℤ) → m k ≢ None → FindsKey b slots k → Contains (keys_of b slots) k
        found k some (FindsKey.nowhere none) = absurd (some (holds.only k none))
        found k some (FindsKey.at i less was own) = by (is_null (b (Held i))) refl
          where
            by : (t : Bool) → is_null (b (Held i)) ≡ t → Contains (keys_of b slots) k
            by true is = absurd (some (ap m (sym own) ∙ holds.there i less was ∙ empty (b (Held i)) is))
            by false is = subst (Contains (keys_of b slots)) own (keys_have b slots i less (ap not is))

-- What filling or emptying a slot leaves of a body and of what it holds.
use Rattle.std.proofs.Common.{◌≡◌, ◌≢◌, ◌≤◌, ◌<◌, ◌⊎◌, inl, inr, refl, sym, ap, subst, ◌∙◌, ℕ, Bool, true, false, cond, ℤ, pos, None, arith}
use Rattle.std.proofs.lemmas.Bool.{cases_eq}
use Rattle.std.specs.Ordering.{int_eq}
use Rattle.std.proofs.lemmas.Bool.Decides.{Decides-int_eq}
use Rattle.dso_base.specs.declared.value.Value.{Value}
use Rattle.dso_base.specs.declared.value.Value.TheVariants as value
use Rattle.dso_map.specs.Bodies.{MapBody}
use Rattle.dso_map.specs.Fields.{MapField, IsMapField, slots, field_takes}
use Rattle.dso_map.specs.Talk.{slot_of, is_true, long_of}
use Rattle.dso_map.specs.Fields.MapField.{Touched, Key, Held, Size}
use Rattle.dso_map.specs.SoundMap.{touched, key, count, IsReached, IsSoundMap}
use Rattle.dso_map.specs.Contents.{Content, value_in, Holds, with}
use Rattle.dso_map.specs.KeptMaps.{IsApart}
use Rattle.dso_map.proofs.Counts.{FindsKey, find_key}

-- the other body has this key and value in the slot, its count as its size, and all else as before
pub record Fills (b c : MapBody) (k : ℤ) (i : ℕ) (v : Value) : Type 0 where
  pub touched_ : c (Touched i) ≡ value.Bool true
  pub key_ : c (Key i) ≡ value.Long k
  pub held : c (Held i) ≡ v
  pub fits : field_takes (Held i) v ≡ true
  pub others : (f : MapField) → IsApart i f → c f ≡ b f
  pub size : c Size ≡ value.Long (pos (count c slots))

-- the slot stands on the path of the key behind touched slots, no other touched slot has the key, and what the slot had is
-- the key's own, or nothing
pub record MayFill (b : MapBody) (k : ℤ) (i : ℕ) : Type 0 where
  pub d : ℕ
  pub within : d < slots
  pub is : slot_of k d ≡ i
  pub before : (e : ℕ) → e < d → touched b (slot_of k e) ≡ true
  pub below : i < slots
  pub no_other : (j : ℕ) → j < slots → i ≢ j → touched b j ≡ true → key b j ≢ k
  pub old : touched b i ≡ true → (key b i ≡ k) ⊎ (b (Held i) ≡ value.Null)

module _ (b c : MapBody) (k : ℤ) (i : ℕ) (v : Value) (sound : IsSoundMap b) (may : MayFill b k i) (fills : Fills b c k i v) where
  own_touched : touched c i ≡ true
  own_touched = ap is_true fills.touched_

  own_key : key c i ≡ k
  own_key = ap long_of fills.key_

  same_touched : (j : ℕ) → i ≢ j → touched c j ≡ touched b j
  same_touched j other = ap is_true (fills.others (Touched j) other)

  same_key : (j : ℕ) → i ≢ j → key c j ≡ key b j
  same_key j other = ap long_of (fills.others (Key j) other)

  -- what was touched still is
  still_touched : (j : ℕ) → touched b j ≡ true → touched c j ≡ true
  still_touched j was = pick (cases_eq i j)
    where
      pick : (i ≡ j) ⊎ (i ≡ j → ⊥) → touched c j ≡ true
      pick (inl same) = subst (λ x. touched c x ≡ true) same own_touched
      pick (inr other) = same_touched j other ∙ was

  own_path : IsReached c i
  own_path = record {
    place = may.d;
    within = may.within;
    is = ap (λ x. slot_of x may.d) own_key ∙ may.is;
    up_to = λ e le. pick e le (cases_eq e may.d);
  }
    where
      pick : (e : ℕ) → e ≤ may.d → (e ≡ may.d) ⊎ (e ≡ may.d → ⊥) → touched c (slot_of (key c i) e) ≡ true
      pick e le (inl same) = subst (λ x. touched c x ≡ true) (sym (ap (λ x. slot_of x e) own_key ∙ ap (slot_of k) same ∙ may.is)) own_touched
      pick e le (inr other) = subst (λ x. touched c (slot_of x e) ≡ true) (sym own_key) (still_touched (slot_of k e) (may.before e (omega (arith, le, other))))

  other_path : (j : ℕ) → i ≢ j → IsReached b j → IsReached c j
  other_path j other path = record {
    place = path.place;
    within = path.within;
    is = ap (λ x. slot_of x path.place) (same_key j other) ∙ path.is;
    up_to = λ e le. subst (λ x. touched c (slot_of x e) ≡ true) (sym (same_key j other)) (still_touched (slot_of (key b j) e) (path.up_to e le));
  }

  pub filled_sound : IsSoundMap c
  filled_sound = record {
    kinds = kind;
    differ = λ j l j_less l_less j_touched l_touched same. differ j l j_less l_less j_touched l_touched same (cases_eq i j) (cases_eq i l);
    paths = λ j less is. path j less is (cases_eq i j);
    empty = λ j less is. empty j less is (cases_eq i j);
    size = fills.size;
  }
    where
      at : (f : MapField) (v w : Value) → v ≡ w → field_takes f w ≡ true → field_takes f v ≡ true
      at f v w same is = ap (field_takes f) same ∙ is

      kind : (f : MapField) → IsMapField f → field_takes f (c f) ≡ true
      kind Size there = at Size (c Size) _ fills.size refl
      kind (Touched j) less = pick (cases_eq i j)
        where
          pick : (i ≡ j) ⊎ (i ≡ j → ⊥) → field_takes (Touched j) (c (Touched j)) ≡ true
          pick (inl same) = subst (λ x. field_takes (Touched x) (c (Touched x)) ≡ true) same (ap (field_takes (Touched i)) fills.touched_)
          pick (inr other) = ap (field_takes (Touched j)) (fills.others (Touched j) other) ∙ sound.kinds (Touched j) less
      kind (Key j) less = pick (cases_eq i j)
        where
          pick : (i ≡ j) ⊎ (i ≡ j → ⊥) → field_takes (Key j) (c (Key j)) ≡ true
          pick (inl same) = subst (λ x. field_takes (Key x) (c (Key x)) ≡ true) same (ap (field_takes (Key i)) fills.key_)
          pick (inr other) = ap (field_takes (Key j)) (fills.others (Key j) other) ∙ sound.kinds (Key j) less
      kind (Held j) less = pick (cases_eq i j)
        where
          pick : (i ≡ j) ⊎ (i ≡ j → ⊥) → field_takes (Held j) (c (Held j)) ≡ true
          pick (inl same) = subst (λ x. field_takes (Held x) (c (Held x)) ≡ true) same (ap (field_takes (Held i)) fills.held ∙ fills.fits)
          pick (inr other) = ap (field_takes (Held j)) (fills.others (Held j) other) ∙ sound.kinds (Held j) less

      differ : (j l : ℕ) → j < slots → l < slots → touched c j ≡ true → touched c l ≡ true → key c j ≡ key c l → (i ≡ j) ⊎ (i ≡ j → ⊥) → (i ≡ l) ⊎ (i ≡ l → ⊥) → j ≡ l
      differ j l j_less l_less j_t l_t same (inl a) (inl b) = sym a ∙ b
      differ j l j_less l_less j_t l_t same (inl a) (inr other) = absurd (may.no_other l l_less other (sym (same_touched l other) ∙ l_t) (sym (same_key l other) ∙ sym same ∙ ap (key c) (sym a) ∙ own_key))
      differ j l j_less l_less j_t l_t same (inr other) (inl a) = absurd (may.no_other j j_less other (sym (same_touched j other) ∙ j_t) (sym (same_key j other) ∙ same ∙ ap (key c) (sym a) ∙ own_key))
      differ j l j_less l_less j_t l_t same (inr one) (inr other) = sound.differ j l j_less l_less (sym (same_touched j one) ∙ j_t) (sym (same_touched l other) ∙ l_t) (sym (same_key j one) ∙ same ∙ same_key l other)

      path : (j : ℕ) → j < slots → touched c j ≡ true → (i ≡ j) ⊎ (i ≡ j → ⊥) → IsReached c j
      path j less is (inl same) = subst (IsReached c) same own_path
      path j less is (inr other) = other_path j other (sound.paths j less (sym (same_touched j other) ∙ is))

      empty : (j : ℕ) → j < slots → touched c j ≡ false → (i ≡ j) ⊎ (i ≡ j → ⊥) → c (Held j) ≡ value.Null
      empty j less is (inl same) = cc (sym (subst (λ x. touched c x ≡ true) same own_touched) ∙ is)
      empty j less is (inr other) = fills.others (Held j) other ∙ sound.empty j less (sym (same_touched j other) ∙ is)

  -- another key's value is what it was
  with_other : (m : Content) (x : ℤ) (t : Bool) → int_eq k x ≡ t → (k ≡ x → ⊥) → cond t (value_in v) (m x) ≡ m x
  with_other m x true is other = absurd (other (grind (arith, Decides-int_eq)))
  with_other m x false is other = refl

  with_own : (m : Content) (t : Bool) → int_eq k k ≡ t → cond t (value_in v) (m k) ≡ value_in v
  with_own m true is = refl
  with_own m false is = absurd (grind (arith, Decides-int_eq))

  pub filled_holds : (m : Content) → Holds b m → Holds c (with k (value_in v) m)
  filled_holds m holds = record { there = λ j less is. there j less is (cases_eq i j); only = only }
    where
      there : (j : ℕ) → j < slots → touched c j ≡ true → (i ≡ j) ⊎ (i ≡ j → ⊥) → with k (value_in v) m (key c j) ≡ value_in (c (Held j))
      there j less is (inl same) = subst (λ x. with k (value_in v) m (key c x) ≡ value_in (c (Held x))) same
          (ap (with k (value_in v) m) own_key ∙ with_own m (int_eq k k) refl ∙ ap value_in (sym fills.held))
      there j less is (inr other) =
          let was : touched b j ≡ true = sym (same_touched j other) ∙ is in
          ap (with k (value_in v) m) (same_key j other) ∙ with_other m (key b j) (int_eq k (key b j)) refl (λ same. may.no_other j less other was (sym same)) ∙ holds.there j less was
          ∙ ap value_in (sym (fills.others (Held j) other))

      only : (x : ℤ) → ((j : ℕ) → j < slots → touched c j ≡ true → key c j ≢ x) → with k (value_in v) m x ≡ None
      only x none = with_other m x (int_eq k x) refl not_own ∙ by (find_key b slots x)
        where
          not_own : k ≡ x → ⊥
          not_own same = none i may.below own_touched (own_key ∙ same)

          by : FindsKey b slots x → m x ≡ None
          by (FindsKey.nowhere nobody) = holds.only x nobody
          by (FindsKey.at j less was own) = pick (cases_eq i j)
            where
              gone : (key b i ≡ k) ⊎ (b (Held i) ≡ value.Null) → i ≡ j → m x ≡ None
              gone (inl same) eq = absurd (not_own (sym same ∙ ap (key b) eq ∙ own))
              gone (inr null) eq = ap m (sym own) ∙ holds.there j less was ∙ ap (λ y. value_in (b (Held y))) (sym eq) ∙ ap value_in null

              pick : (i ≡ j) ⊎ (i ≡ j → ⊥) → m x ≡ None
              pick (inl eq) = gone (may.old (ap (touched b) eq ∙ was)) eq
              pick (inr other) = absurd (none j less (same_touched j other ∙ was) (same_key j other ∙ own))

-- Each call keeps a sound body sound, and does to its map what the table says.
use Rattle.std.proofs.Common.{◌≡◌, ◌≢◌, ◌≤◌, ◌<◌, ◌⊎◌, inl, inr, refl, sym, ap, subst, ◌∙◌, ℕ, zero, suc, ◌+◌, Bool, true, false, cond, not, ℤ, pos, Option, None, Some, arith}
use Rattle.std.specs.Prelude.{eqb, is_some}
use Rattle.std.proofs.lemmas.Bool.{ne_eqb, eq-eqb}
use Rattle.std.specs.Ordering.{int_eq}
use Rattle.std.proofs.lemmas.Bool.Decides.{Decides-int_eq}
use Rattle.std.specs.Prelude.{◌*◌}
use Rattle.dso_base.specs.declared.value.Value.{Value}
use Rattle.dso_base.specs.declared.value.Value.TheVariants as value
use Rattle.dso_map.specs.declared.map_op.MapOp.{MapOp}
use Rattle.dso_map.specs.declared.map_op.MapOp.TheVariants as op
use Rattle.dso_map.specs.Bodies.{MapBody, set, left_by, given_by, asked_by}
use Rattle.dso_map.specs.Fields.{MapField, slots, field_takes}
use Rattle.dso_map.specs.Talk.{Talk, slot_of, is_true, is_null, more, less, either, resizes, fills, found, missing, talk}
use Rattle.dso_map.specs.Fields.MapField.{Touched, Key, Held, Size}
use Rattle.dso_map.specs.Talk.Talk.{Gets, Puts, Ends}
use Rattle.dso_map.specs.SoundMap.{touched, key, one_more, count, IsReached, IsSoundMap}
use Rattle.dso_map.specs.Contents.{Content, value_in, Holds, HasKeys, Same, with, or_null, IsFull, HasRoom, Meets}
use Rattle.dso_map.specs.KeptMaps.{IsApart, IsQuestion, KeepsMap, PutsObject}
use Rattle.dso_map.proofs.Paths.{longs, Comes, Passed, IsHole, PathEnds, slot_below, null_is, bound, whole_path}
use Rattle.dso_map.proofs.Counts.{full, few, fewer, all_full, one_changed, has_keys}
use Rattle.dso_map.proofs.Updates.{Fills, MayFill, filled_sound, filled_holds}
use Rattle.dso_map.proofs.Round.{HasPlace, on_path}
use Rattle.dso_map.proofs.Sizes.{slots_are, one_more_fits, one_less_fits}

-- a talk that keeps what a call has to
record KeepsBy (op : MapOp) (b : MapBody) (t : Talk) (n : ℕ) : Type 0 where
  few : asked_by t b ≤ n
  sound : IsSoundMap (left_by t b)
  meets : (m : Content) → Holds b m → (n : Content) × Holds (left_by t b) n × Meets op (given_by t b) m n
  slot : ℕ
  within : slot < slots
  only : (f : MapField) → IsApart slot f → left_by t b f ≡ b f
  asks : IsQuestion op → left_by t b ≡ b

-- what comes to it keeps it
before : (op : MapOp) (b : MapBody) (s t : Talk) (m n : ℕ) → Comes b s t m → KeepsBy op b t n → KeepsBy op b s (m + n)
before op b s t m n comes keeps = record {
  few = let a : asked_by s b ≤ m + asked_by t b = comes.asked in let c : asked_by t b ≤ n = keeps.few in omega (arith, a, c);
  sound = subst IsSoundMap (sym comes.left) keeps.sound;
  meets = λ map holds. let after : (n : Content) × Holds (left_by t b) n × Meets op (given_by t b) map n = keeps.meets map holds in
      (after.0, subst (λ x. Holds x after.0) (sym comes.left) after.1, subst (λ r. Meets op r map after.0) (sym comes.given) after.2);
  slot = keeps.slot;
  within = keeps.within;
  only = λ f apart. ap (λ (x : MapBody). x f) comes.left ∙ keeps.only f apart;
  asks = λ is. comes.left ∙ keeps.asks is;
}

same_map : (m : Content) → Same m m
same_map m k = refl

-- a talk that writes nothing
reads : (op : MapOp) (b : MapBody) (t : Talk) (n : ℕ) → IsSoundMap b → asked_by t b ≤ n → left_by t b ≡ b → ((m : Content) → Holds b m → Meets op (given_by t b) m m) → KeepsBy op b t n
reads op b t n sound few same meets = record {
  few = few;
  sound = subst IsSoundMap (sym same) sound;
  meets = λ m holds. (m, subst (λ x. Holds x m) (sym same) holds, meets m holds);
  slot = 0;
  within = omega (arith, slots_are);
  only = λ f apart. ap (λ (x : MapBody). x f) same;
  asks = λ is. same;
}

-- a talk that fills a slot
writes : (op : MapOp) (b : MapBody) (t : Talk) (k : ℤ) (i : ℕ) (v : Value) (n : ℕ) → (IsQuestion op → ⊥) → IsSoundMap b → asked_by t b ≤ n → MayFill b k i → Fills b (left_by t b) k i v
    → ((m : Content) → Holds b m → Meets op (given_by t b) m (with k (value_in v) m)) → KeepsBy op b t n
writes op b t k i v n writing sound few may fills meets = record {
  few = few;
  sound = filled_sound b (left_by t b) k i v sound may fills;
  meets = λ m holds. (with k (value_in v) m, filled_holds b (left_by t b) k i v sound may fills m holds, meets m holds);
  slot = i;
  within = may.below;
  only = fills.others;
  asks = λ is. absurd (writing is);
}

-- ---- values

or_value : (v : Value) → or_null (value_in v) ≡ v
or_value value.Null = refl
or_value (value.Long n) = refl
or_value (value.Bool n) = refl
or_value (value.Text n) = refl
or_value (value.Ref n) = refl

some_value : (v : Value) → is_some (value_in v) ≡ not (is_null v)
some_value value.Null = refl
some_value (value.Long n) = refl
some_value (value.Bool n) = refl
some_value (value.Text n) = refl
some_value (value.Ref n) = refl

true_is : (v : Value) → is_true v ≡ true → v ≡ value.Bool true
true_is (value.Bool b) is = ap value.Bool is
true_is value.Null is = absurd (cc is)
true_is (value.Long b) is = absurd (cc is)
true_is (value.Text b) is = absurd (cc is)
true_is (value.Ref b) is = absurd (cc is)

-- a reference to an object fits
pub ref_taken : (i o : ℕ) → o ≢ 0 → field_takes (Held i) (value.Ref o) ≡ true
ref_taken i zero real = absurd (real refl)
ref_taken i (suc o) real = refl

-- ---- fields

-- a field of the slot
abbrev IsOf : ℕ → MapField → Type 0
IsOf i (Touched j) = j ≡ i
IsOf i (Key j) = j ≡ i
IsOf i (Held j) = j ≡ i
IsOf i Size = Unit {0}

-- what is written into it leaves the fields apart
set_apart : (i : ℕ) (f g : MapField) (v : Value) (b : MapBody) → IsOf i f → IsApart i g → set f v b g ≡ b g
set_apart i (Touched j) (Touched l) v b is apart = ap (λ t. cond t v (b (Touched l))) (ne_eqb l j (λ same. apart (sym (same ∙ is))))
set_apart i (Key j) (Key l) v b is apart = ap (λ t. cond t v (b (Key l))) (ne_eqb l j (λ same. apart (sym (same ∙ is))))
set_apart i (Held j) (Held l) v b is apart = ap (λ t. cond t v (b (Held l))) (ne_eqb l j (λ same. apart (sym (same ∙ is))))
set_apart i f Size v b is apart = absurd apart
set_apart i (Touched j) (Key l) v b is apart = refl
set_apart i (Touched j) (Held l) v b is apart = refl
set_apart i (Key j) (Touched l) v b is apart = refl
set_apart i (Key j) (Held l) v b is apart = refl
set_apart i (Held j) (Touched l) v b is apart = refl
set_apart i (Held j) (Key l) v b is apart = refl
set_apart i Size (Touched l) v b is apart = refl
set_apart i Size (Key l) v b is apart = refl
set_apart i Size (Held l) v b is apart = refl

-- and stands there
own : (i : ℕ) (v w : Value) → cond (eqb i i) v w ≡ v
own i v w = ap (λ t. cond t v w) (eq-eqb i i refl)

-- the count where one slot that had no value has one
grown : (b c : MapBody) (i : ℕ) → i < slots → ((f : MapField) → IsApart i f → c f ≡ b f) → full b i ≡ false → full c i ≡ true → count c slots ≡ suc (count b slots)
grown b c i less others no_ yes_ =
    let moved : count c slots + one_more (full b i) 0 ≡ count b slots + one_more (full c i) 0 = one_changed b c slots i less (λ j below unlike. ap (λ v. not (is_null v)) (others (Held j) unlike)) in
    let none : one_more (full b i) 0 ≡ 0 = ap (λ t. one_more t 0) no_ in
    let one : one_more (full c i) 0 ≡ 1 = ap (λ t. one_more t 0) yes_ in
    omega (arith, moved, none, one)

shrunk : (b c : MapBody) (i : ℕ) → i < slots → ((f : MapField) → IsApart i f → c f ≡ b f) → full b i ≡ true → full c i ≡ false → count b slots ≡ suc (count c slots)
shrunk b c i less others yes_ no_ =
    let moved : count c slots + one_more (full b i) 0 ≡ count b slots + one_more (full c i) 0 = one_changed b c slots i less (λ j below unlike. ap (λ v. not (is_null v)) (others (Held j) unlike)) in
    let one : one_more (full b i) 0 ≡ 1 = ap (λ t. one_more t 0) yes_ in
    let none : one_more (full c i) 0 ≡ 0 = ap (λ t. one_more t 0) no_ in
    omega (arith, moved, none, one)

level : (b c : MapBody) (i : ℕ) → i < slots → ((f : MapField) → IsApart i f → c f ≡ b f) → full b i ≡ true → full c i ≡ true → count c slots ≡ count b slots
level b c i less others was is =
    let moved : count c slots + one_more (full b i) 0 ≡ count b slots + one_more (full c i) 0 = one_changed b c slots i less (λ j below unlike. ap (λ v. not (is_null v)) (others (Held j) unlike)) in
    let one : one_more (full b i) 0 ≡ 1 = ap (λ t. one_more t 0) was in
    let other : one_more (full c i) 0 ≡ 1 = ap (λ t. one_more t 0) is in
    omega (arith, moved, one, other)

module _ (b : MapBody) (k : ℤ) (sound : IsSoundMap b) where
  -- where the path ended before the key, no touched slot has it
  absent : (d : ℕ) → Passed b k d → (touched b (slot_of k d) ≡ false) ⊎ (d ≡ slots) → (i : ℕ) → i < slots → touched b i ≡ true → key b i ≢ k
  absent d passed end i less is same = at (sound.paths i less is)
    where
      at : IsReached b i → ⊥
      at path =
          let on : slot_of k path.place ≡ i = ap (λ x. slot_of x path.place) (sym same) ∙ path.is in
          by end (cases path.place d) on
        where
          cases : (a e : ℕ) → (a < e) ⊎ (e ≤ a)
          cases a e = grind arith

          by : (touched b (slot_of k d) ≡ false) ⊎ (d ≡ slots) → (path.place < d) ⊎ (d ≤ path.place) → slot_of k path.place ≡ i → ⊥
          by end (inl short) on = passed.others path.place short (ap (key b) on ∙ same)
          by (inl untouched) (inr long) on = cc (sym (subst (λ x. touched b (slot_of x d) ≡ true) same (path.up_to d long)) ∙ untouched)
          by (inr all) (inr long) on = let below : path.place < slots = path.within in omega (arith, all, long, below)

  -- there is room where a slot has no value
  room : (m : Content) → Holds b m → (i : ℕ) → i < slots → full b i ≡ false → HasRoom m k
  room m holds i less empty = inr (count b slots, has_keys b sound m holds, fewer b slots i less empty)

  -- a slot that is the key's may be filled
  own_slot : (d : ℕ) → d < slots → touched b (slot_of k d) ≡ true → key b (slot_of k d) ≡ k → MayFill b k (slot_of k d)
  own_slot d less is same = from (sound.paths (slot_of k d) (slot_below k d) is)
    where
      from : IsReached b (slot_of k d) → MayFill b k (slot_of k d)
      from path = record {
        d = path.place;
        within = path.within;
        is = ap (λ x. slot_of x path.place) (sym same) ∙ path.is;
        before = λ e below. subst (λ x. touched b (slot_of x e) ≡ true) same (path.up_to e (omega (arith, below)));
        below = slot_below k d;
        no_other = λ j j_less unlike was its. unlike (sound.differ (slot_of k d) j (slot_below k d) j_less is was (same ∙ sym its));
        old = λ was. inl same;
      }

  -- ---- what is read

  get_found : (d : ℕ) → d < slots → touched b (slot_of k d) ≡ true → key b (slot_of k d) ≡ k → KeepsBy (op.Get k) b (found (op.Get k) (slot_of k d)) 5
  get_found d less is same = reads (op.Get k) b _ 5 sound (omega arith) refl
      (λ m holds. (sym (ap or_null (ap m (sym same) ∙ holds.there (slot_of k d) (slot_below k d) is) ∙ or_value (b (Held (slot_of k d)))), same_map m))

  has_found : (d : ℕ) → d < slots → touched b (slot_of k d) ≡ true → key b (slot_of k d) ≡ k → KeepsBy (op.Has k) b (found (op.Has k) (slot_of k d)) 5
  has_found d less is same = reads (op.Has k) b _ 5 sound (omega arith) refl
      (λ m holds. (ap value.Bool (sym (ap is_some (ap m (sym same) ∙ holds.there (slot_of k d) (slot_below k d) is) ∙ some_value (b (Held (slot_of k d))))), same_map m))

  get_missing : (end hole : Option ℕ) → ((i : ℕ) → i < slots → touched b i ≡ true → key b i ≢ k) → KeepsBy (op.Get k) b (missing (op.Get k) end hole) 5
  get_missing end hole none = reads (op.Get k) b _ 5 sound (omega arith) refl (λ m holds. (sym (ap or_null (holds.only k none)), same_map m))

  has_missing : (end hole : Option ℕ) → ((i : ℕ) → i < slots → touched b i ≡ true → key b i ≢ k) → KeepsBy (op.Has k) b (missing (op.Has k) end hole) 5
  has_missing end hole none = reads (op.Has k) b _ 5 sound (omega arith) refl (λ m holds. (ap value.Bool (sym (ap is_some (holds.only k none))), same_map m))

  -- ---- what is written

  -- where the slot's value is null or not, as it fits
  null_then : (v : Value) (t : Bool) → is_null v ≡ t → not (is_null v) ≡ not t
  null_then v t is = ap not is

  module _ (o : ℕ) (real : o ≢ 0) where
    -- the object fits
    object_fits : (i : ℕ) → field_takes (Held i) (value.Ref o) ≡ true
    object_fits i = ref_taken i o real

    -- the slot of the key has no value yet: it gets one
    put_empty : (i : ℕ) → MayFill b k i → touched b i ≡ true → key b i ≡ k → is_null (b (Held i)) ≡ true
        → KeepsBy (op.Put k o) b (Gets (Held i) (λ v. Puts (Held i) (value.Ref o) (resizes more))) 8
    put_empty i may is same null = writes (op.Put k o) b _ k i (value.Ref o) 8 (λ is. is) sound (omega arith) may filled (λ m holds. inr (room m holds i may.below (ap not null), refl, same_map _))
      where
        c : MapBody
        c = set Size (more (b Size)) (set (Held i) (value.Ref o) b)

        others : (f : MapField) → IsApart i f → c f ≡ b f
        others f apart = set_apart i Size f (more (b Size)) (set (Held i) (value.Ref o) b) tt apart ∙ set_apart i (Held i) f (value.Ref o) b refl apart

        held_ : c (Held i) ≡ value.Ref o
        held_ = own i (value.Ref o) (b (Held i))

        filled : Fills b c k i (value.Ref o)
        filled = record {
          touched_ = true_is (b (Touched i)) is;
          key_ = longs b sound i may.below ∙ ap value.Long same;
          held = held_;
          fits = object_fits i;
          others = others;
          size = one_more_fits (b Size) (count b slots) sound.size (fewer b slots i may.below (ap not null)) ∙ ap (λ n. value.Long (pos n)) (sym (grown b c i may.below others (ap not null) (ap (λ v. not (is_null v)) held_)));
        }

    -- the slot of the key has a value: it gets another
    put_over : (i : ℕ) → MayFill b k i → touched b i ≡ true → key b i ≡ k → is_null (b (Held i)) ≡ false
        → KeepsBy (op.Put k o) b (Gets (Held i) (λ v. Puts (Held i) (value.Ref o) (Ends (value.Bool true)))) 8
    put_over i may is same null = writes (op.Put k o) b _ k i (value.Ref o) 8 (λ is. is) sound (omega arith) may filled (λ m holds. inr (inl (there m holds), refl, same_map _))
      where
        there : (m : Content) → Holds b m → m k ≢ None
        there m holds none = by (b (Held i)) null (sym (ap m (sym same) ∙ holds.there i may.below is) ∙ none)
          where
            by : (v : Value) → is_null v ≡ false → value_in v ≡ None → ⊥
            by value.Null is none = cc is
            by (value.Long n) is none = cc none
            by (value.Bool n) is none = cc none
            by (value.Text n) is none = cc none
            by (value.Ref n) is none = cc none

        c : MapBody
        c = set (Held i) (value.Ref o) b

        others : (f : MapField) → IsApart i f → c f ≡ b f
        others f apart = set_apart i (Held i) f (value.Ref o) b refl apart

        held_ : c (Held i) ≡ value.Ref o
        held_ = own i (value.Ref o) (b (Held i))

        filled : Fills b c k i (value.Ref o)
        filled = record {
          touched_ = true_is (b (Touched i)) is;
          key_ = longs b sound i may.below ∙ ap value.Long same;
          held = held_;
          fits = object_fits i;
          others = others;
          size = sound.size ∙ ap (λ n. value.Long (pos n)) (sym (level b c i may.below others (ap not null) (ap (λ v. not (is_null v)) held_)));
        }

    -- a slot without a value, whose key nobody has, gets both
    put_hole : (i : ℕ) → MayFill b k i → touched b i ≡ true → is_null (b (Held i)) ≡ true → KeepsBy (op.Put k o) b (fills i k o) 8
    put_hole i may is null = writes (op.Put k o) b _ k i (value.Ref o) 8 (λ is. is) sound (omega arith) may filled (λ m holds. inr (room m holds i may.below (ap not null), refl, same_map _))
      where
        c : MapBody
        c = set Size (more (b Size)) (set (Held i) (value.Ref o) (set (Key i) (value.Long k) b))

        others : (f : MapField) → IsApart i f → c f ≡ b f
        others f apart = set_apart i Size f (more (b Size)) (set (Held i) (value.Ref o) (set (Key i) (value.Long k) b)) tt apart ∙ set_apart i (Held i) f (value.Ref o) (set (Key i) (value.Long k) b) refl apart ∙ set_apart i (Key i) f (value.Long k) b refl apart

        held_ : c (Held i) ≡ value.Ref o
        held_ = own i (value.Ref o) (b (Held i))

        filled : Fills b c k i (value.Ref o)
        filled = record {
          touched_ = true_is (b (Touched i)) is;
          key_ = own i (value.Long k) (b (Key i));
          held = held_;
          fits = object_fits i;
          others = others;
          size = one_more_fits (b Size) (count b slots) sound.size (fewer b slots i may.below (ap not null)) ∙ ap (λ n. value.Long (pos n)) (sym (grown b c i may.below others (ap not null) (ap (λ v. not (is_null v)) held_)));
        }

    -- an untouched slot is touched, and gets both
    put_fresh : (i : ℕ) → MayFill b k i → is_null (b (Held i)) ≡ true → KeepsBy (op.Put k o) b (Puts (Touched i) (value.Bool true) (fills i k o)) 8
    put_fresh i may null = writes (op.Put k o) b _ k i (value.Ref o) 8 (λ is. is) sound (omega arith) may filled (λ m holds. inr (room m holds i may.below (ap not null), refl, same_map _))
      where
        c : MapBody
        c = set Size (more (b Size)) (set (Held i) (value.Ref o) (set (Key i) (value.Long k) (set (Touched i) (value.Bool true) b)))

        others : (f : MapField) → IsApart i f → c f ≡ b f
        others f apart = set_apart i Size f (more (b Size)) (set (Held i) (value.Ref o) (set (Key i) (value.Long k) (set (Touched i) (value.Bool true) b))) tt apart
            ∙ set_apart i (Held i) f (value.Ref o) (set (Key i) (value.Long k) (set (Touched i) (value.Bool true) b)) refl apart ∙ set_apart i (Key i) f (value.Long k) (set (Touched i) (value.Bool true) b) refl apart
            ∙ set_apart i (Touched i) f (value.Bool true) b refl apart

        held_ : c (Held i) ≡ value.Ref o
        held_ = own i (value.Ref o) (b (Held i))

        filled : Fills b c k i (value.Ref o)
        filled = record {
          touched_ = own i (value.Bool true) (b (Touched i));
          key_ = own i (value.Long k) (b (Key i));
          held = held_;
          fits = object_fits i;
          others = others;
          size = one_more_fits (b Size) (count b slots) sound.size (fewer b slots i may.below (ap not null)) ∙ ap (λ n. value.Long (pos n)) (sym (grown b c i may.below others (ap not null) (ap (λ v. not (is_null v)) held_)));
        }

    put_found : (d : ℕ) → d < slots → touched b (slot_of k d) ≡ true → key b (slot_of k d) ≡ k → KeepsBy (op.Put k o) b (found (op.Put k o) (slot_of k d)) 8
    put_found d less is same = by (is_null (b (Held (slot_of k d)))) refl
      where
        i : ℕ
        i = slot_of k d

        may : MayFill b k i
        may = own_slot d less is same

        by : (t : Bool) → is_null (b (Held i)) ≡ t → KeepsBy (op.Put k o) b (found (op.Put k o) i) 8
        by true null = before (op.Put k o) b (found (op.Put k o) i) (Gets (Held i) (λ v. Puts (Held i) (value.Ref o) (resizes more))) 0 8
            (same_talk (ap (λ t. either t (resizes more) (Ends (value.Bool true))) null)) (put_empty i may is same null)
          where
            same_talk : either (is_null (b (Held i))) (resizes more) (Ends (value.Bool true)) ≡ resizes more → Comes b (found (op.Put k o) i) (Gets (Held i) (λ v. Puts (Held i) (value.Ref o) (resizes more))) 0
            same_talk eq = record { left = ap (λ t. left_by t (set (Held i) (value.Ref o) b)) eq; given = ap (λ t. given_by t (set (Held i) (value.Ref o) b)) eq; asked = le (ap (λ t. suc (suc (asked_by t (set (Held i) (value.Ref o) b)))) eq) }
              where
                le : {x y : ℕ} → x ≡ y → x ≤ 0 + y
                le {x} {y} same = omega (arith, same)
        by false null = before (op.Put k o) b (found (op.Put k o) i) (Gets (Held i) (λ v. Puts (Held i) (value.Ref o) (Ends (value.Bool true)))) 0 8
            (same_talk (ap (λ t. either t (resizes more) (Ends (value.Bool true))) null)) (put_over i may is same null)
          where
            same_talk : either (is_null (b (Held i))) (resizes more) (Ends (value.Bool true)) ≡ Ends (value.Bool true) → Comes b (found (op.Put k o) i) (Gets (Held i) (λ v. Puts (Held i) (value.Ref o) (Ends (value.Bool true)))) 0
            same_talk eq = record { left = ap (λ t. left_by t (set (Held i) (value.Ref o) b)) eq; given = ap (λ t. given_by t (set (Held i) (value.Ref o) b)) eq; asked = le (ap (λ t. suc (suc (asked_by t (set (Held i) (value.Ref o) b)))) eq) }
              where
                le : {x y : ℕ} → x ≡ y → x ≤ 0 + y
                le {x} {y} same = omega (arith, same)

    -- the path ended at a slot that wasn't touched
    put_at_end : (d : ℕ) → d < slots → touched b (slot_of k d) ≡ false → Passed b k d → (hole : Option ℕ) → KeepsBy (op.Put k o) b (missing (op.Put k o) (Some (slot_of k d)) hole) 8
    put_at_end d less untouched passed hole = put_fresh (slot_of k d) may (ap is_null (sound.empty (slot_of k d) (slot_below k d) untouched))
      where
        may : MayFill b k (slot_of k d)
        may = record {
          d = d;
          within = less;
          is = refl;
          before = passed.touched_;
          below = slot_below k d;
          no_other = λ j j_less unlike was. absent d passed (inl untouched) j j_less was;
          old = λ was. cc (sym untouched ∙ was);
        }

    -- it went through all of them
    put_behind_all : Passed b k slots → (hole : Option ℕ) → IsHole b k slots hole → KeepsBy (op.Put k o) b (missing (op.Put k o) None hole) 8
    put_behind_all passed _ (IsHole.none all) = reads (op.Put k o) b _ 8 sound (omega arith) refl (λ m holds. inl (is_full m holds, refl, same_map m))
      where
        every : (i : ℕ) → i < slots → full b i ≡ true
        every i less = at (on_path k i less)
          where
            at : HasPlace k i → full b i ≡ true
            at path = subst (λ x. full b x ≡ true) path.is (ap not (all path.place path.within))

        is_full : (m : Content) → Holds b m → IsFull m k
        is_full m holds = record { absent = holds.only k (absent slots passed (inr refl)); all = subst (HasKeys m) (all_full b slots every) (has_keys b sound m holds) }
    put_behind_all passed _ (IsHole.some e less null) = put_hole (slot_of k e) may (passed.touched_ e less) (ap is_null null)
      where
        may : MayFill b k (slot_of k e)
        may = record {
          d = e;
          within = less;
          is = refl;
          before = λ l below. passed.touched_ l (omega (arith, below, less));
          below = slot_below k e;
          no_other = λ j j_less unlike was. absent slots passed (inr refl) j j_less was;
          old = λ was. inr null;
        }

  -- the slot of the key has no value: nothing is written
  remove_empty : (i : ℕ) → i < slots → touched b i ≡ true → key b i ≡ k → is_null (b (Held i)) ≡ true → KeepsBy (op.Remove k) b (Gets (Held i) (λ v. Ends (value.Bool false))) 8
  remove_empty i less is same null = record {
    few = omega arith;
    sound = sound;
    meets = λ m holds. (with k None m, holds_without m holds, (ap value.Bool (sym (ap is_some (none m holds))), same_map _));
    slot = i;
    within = less;
    only = λ f apart. refl;
    asks = λ is. refl;
  }
    where
      none : (m : Content) → Holds b m → m k ≡ None
      none m holds = ap m (sym same) ∙ holds.there i less is ∙ ap value_in (null_is (b (Held i)) null)

      at : (m : Content) → m k ≡ None → (x : ℤ) (t : Bool) → int_eq k x ≡ t → cond t None (m x) ≡ m x
      at m none x true is = sym none ∙ ap m (let eq : k ≡ x = grind (arith, Decides-int_eq) in eq)
      at m none x false is = refl

      holds_without : (m : Content) → Holds b m → Holds b (with k None m)
      holds_without m holds = record {
        there = λ j j_less was. at m (none m holds) (key b j) (int_eq k (key b j)) refl ∙ holds.there j j_less was;
        only = λ x nobody. at m (none m holds) x (int_eq k x) refl ∙ holds.only x nobody;
      }

  -- the key isn't there: nothing is written
  remove_missing : (end hole : Option ℕ) → ((i : ℕ) → i < slots → touched b i ≡ true → key b i ≢ k) → KeepsBy (op.Remove k) b (missing (op.Remove k) end hole) 8
  remove_missing end hole nobody = record {
    few = omega arith;
    sound = sound;
    meets = λ m holds. (with k None m, holds_without m holds, (ap value.Bool (sym (ap is_some (holds.only k nobody))), same_map _));
    slot = 0;
    within = omega (arith, slots_are);
    only = λ f apart. refl;
    asks = λ is. refl;
  }
    where
      at : (m : Content) → m k ≡ None → (x : ℤ) (t : Bool) → int_eq k x ≡ t → cond t None (m x) ≡ m x
      at m none x true is = sym none ∙ ap m (let eq : k ≡ x = grind (arith, Decides-int_eq) in eq)
      at m none x false is = refl

      holds_without : (m : Content) → Holds b m → Holds b (with k None m)
      holds_without m holds = record {
        there = λ j j_less was. at m (holds.only k nobody) (key b j) (int_eq k (key b j)) refl ∙ holds.there j j_less was;
        only = λ x none. at m (holds.only k nobody) x (int_eq k x) refl ∙ holds.only x none;
      }

  -- the slot of the key has a value: it is taken out
  remove_full : (i : ℕ) → MayFill b k i → touched b i ≡ true → key b i ≡ k → is_null (b (Held i)) ≡ false → KeepsBy (op.Remove k) b (Gets (Held i) (λ v. Puts (Held i) value.Null (resizes less))) 8
  remove_full i may is same null = writes (op.Remove k) b _ k i value.Null 8 (λ is. is) sound (omega arith) may filled (λ m holds. (ap value.Bool (sym (ap is_some (ap m (sym same) ∙ holds.there i may.below is) ∙ some_value (b (Held i)) ∙ ap not null)), same_map _))
    where
      c : MapBody
      c = set Size (less (b Size)) (set (Held i) value.Null b)

      others : (f : MapField) → IsApart i f → c f ≡ b f
      others f apart = set_apart i Size f (less (b Size)) (set (Held i) value.Null b) tt apart ∙ set_apart i (Held i) f value.Null b refl apart

      held_ : c (Held i) ≡ value.Null
      held_ = own i value.Null (b (Held i))

      one_less : count b slots ≡ suc (count c slots)
      one_less = shrunk b c i may.below others (ap not null) (ap (λ v. not (is_null v)) held_)

      filled : Fills b c k i value.Null
      filled = record {
        touched_ = true_is (b (Touched i)) is;
        key_ = longs b sound i may.below ∙ ap value.Long same;
        held = held_;
        fits = refl;
        others = others;
        size = one_less_fits (b Size) (count c slots) (sound.size ∙ ap (λ n. value.Long (pos n)) one_less) (omega (arith, one_less, few b slots));
      }

  -- a talk with the same clauses
  alike : (op : MapOp) (t u : Talk) → left_by t b ≡ left_by u b → given_by t b ≡ given_by u b → asked_by t b ≡ asked_by u b → KeepsBy op b u 8 → KeepsBy op b t 8
  alike op t u left given asked keeps = before op b t u 0 8 (record { left = left; given = given; asked = omega (arith, asked) }) keeps

  remove_found : (d : ℕ) → d < slots → touched b (slot_of k d) ≡ true → key b (slot_of k d) ≡ k → KeepsBy (op.Remove k) b (found (op.Remove k) (slot_of k d)) 8
  remove_found d below is same = by (is_null (b (Held (slot_of k d)))) refl
    where
      i : ℕ
      i = slot_of k d

      rest : Bool → Talk
      rest t = either t (Ends (value.Bool false)) (Puts (Held i) value.Null (resizes less))

      by : (t : Bool) → is_null (b (Held i)) ≡ t → KeepsBy (op.Remove k) b (found (op.Remove k) i) 8
      by true null = alike (op.Remove k) _ (Gets (Held i) (λ v. Ends (value.Bool false))) (ap (λ t. left_by (rest t) b) null) (ap (λ t. given_by (rest t) b) null) (ap (λ t. suc (asked_by (rest t) b)) null) (remove_empty i (slot_below k d) is same null)
      by false null = alike (op.Remove k) _ (Gets (Held i) (λ v. Puts (Held i) value.Null (resizes less))) (ap (λ t. left_by (rest t) b) null) (ap (λ t. given_by (rest t) b) null) (ap (λ t. suc (asked_by (rest t) b)) null) (remove_full i (own_slot d below is same) is same null)

-- ---- all calls

bound_is : (n : ℕ) → bound n ≡ 3 * n
bound_is zero = refl
bound_is (suc n) = omega (arith, bound_is n)

-- what is asked on the way and at the end of a path is few
few_enough : (op : MapOp) (b : MapBody) (n : ℕ) → n ≤ 8 → KeepsBy op b (talk op) (bound slots + n) → KeepsMap op b
few_enough op b n le keeps = record { few = let f : asked_by (talk op) b ≤ bound slots + n = keeps.few in omega (arith, f, le, bound_is slots, slots_are); sound = keeps.sound; meets = keeps.meets; slot = keeps.slot; within = keeps.within; only = keeps.only; asks = keeps.asks }

pub keeps : (op : MapOp) (b : MapBody) → PutsObject op → IsSoundMap b → KeepsMap op b
keeps (op.Get k) b real sound = by (whole_path b sound (op.Get k) tt)
  where
    by : PathEnds (op.Get k) b k (talk (op.Get k)) (bound slots) → KeepsMap (op.Get k) b
    by (PathEnds.at_key d less is own comes) = few_enough (op.Get k) b 5 (omega arith) (before (op.Get k) b (talk (op.Get k)) (found (op.Get k) (slot_of k d)) (bound slots) 5 comes (get_found b k sound d less is own))
    by (PathEnds.at_end d less is passed hole has comes) = few_enough (op.Get k) b 5 (omega arith) (before (op.Get k) b (talk (op.Get k)) (missing (op.Get k) (Some (slot_of k d)) hole) (bound slots) 5 comes (get_missing b k sound (Some (slot_of k d)) hole (absent b k sound d passed (inl is))))
    by (PathEnds.behind_all passed hole has comes) = few_enough (op.Get k) b 5 (omega arith) (before (op.Get k) b (talk (op.Get k)) (missing (op.Get k) None hole) (bound slots) 5 comes (get_missing b k sound None hole (absent b k sound slots passed (inr refl))))
keeps (op.Has k) b real sound = by (whole_path b sound (op.Has k) tt)
  where
    by : PathEnds (op.Has k) b k (talk (op.Has k)) (bound slots) → KeepsMap (op.Has k) b
    by (PathEnds.at_key d less is own comes) = few_enough (op.Has k) b 5 (omega arith) (before (op.Has k) b (talk (op.Has k)) (found (op.Has k) (slot_of k d)) (bound slots) 5 comes (has_found b k sound d less is own))
    by (PathEnds.at_end d less is passed hole has comes) = few_enough (op.Has k) b 5 (omega arith) (before (op.Has k) b (talk (op.Has k)) (missing (op.Has k) (Some (slot_of k d)) hole) (bound slots) 5 comes (has_missing b k sound (Some (slot_of k d)) hole (absent b k sound d passed (inl is))))
    by (PathEnds.behind_all passed hole has comes) = few_enough (op.Has k) b 5 (omega arith) (before (op.Has k) b (talk (op.Has k)) (missing (op.Has k) None hole) (bound slots) 5 comes (has_missing b k sound None hole (absent b k sound slots passed (inr refl))))
keeps (op.Remove k) b real sound = by (whole_path b sound (op.Remove k) tt)
  where
    by : PathEnds (op.Remove k) b k (talk (op.Remove k)) (bound slots) → KeepsMap (op.Remove k) b
    by (PathEnds.at_key d less is own comes) = few_enough (op.Remove k) b 8 (omega arith) (before (op.Remove k) b (talk (op.Remove k)) (found (op.Remove k) (slot_of k d)) (bound slots) 8 comes (remove_found b k sound d less is own))
    by (PathEnds.at_end d less is passed hole has comes) = few_enough (op.Remove k) b 8 (omega arith) (before (op.Remove k) b (talk (op.Remove k)) (missing (op.Remove k) (Some (slot_of k d)) hole) (bound slots) 8 comes (remove_missing b k sound (Some (slot_of k d)) hole (absent b k sound d passed (inl is))))
    by (PathEnds.behind_all passed hole has comes) = few_enough (op.Remove k) b 8 (omega arith) (before (op.Remove k) b (talk (op.Remove k)) (missing (op.Remove k) None hole) (bound slots) 8 comes (remove_missing b k sound None hole (absent b k sound slots passed (inr refl))))
keeps (op.Put k o) b real sound = by (whole_path b sound (op.Put k o) (IsHole.none (λ e less. absurd (omega (arith, less)))))
  where
    by : PathEnds (op.Put k o) b k (talk (op.Put k o)) (bound slots) → KeepsMap (op.Put k o) b
    by (PathEnds.at_key d less is own comes) = few_enough (op.Put k o) b 8 (omega arith) (before (op.Put k o) b (talk (op.Put k o)) (found (op.Put k o) (slot_of k d)) (bound slots) 8 comes (put_found b k sound o real d less is own))
    by (PathEnds.at_end d less is passed hole has comes) = few_enough (op.Put k o) b 8 (omega arith) (before (op.Put k o) b (talk (op.Put k o)) (missing (op.Put k o) (Some (slot_of k d)) hole) (bound slots) 8 comes (put_at_end b k sound o real d less is passed hole))
    by (PathEnds.behind_all passed hole has comes) = few_enough (op.Put k o) b 8 (omega arith) (before (op.Put k o) b (talk (op.Put k o)) (missing (op.Put k o) None hole) (bound slots) 8 comes (put_behind_all b k sound o real passed hole has))
keeps op.Size b real sound = record {
  few = omega arith;
  sound = sound;
  meets = λ m holds. (m, holds, ((count b slots, has_keys b sound m holds, sound.size), same_map m));
  slot = 0;
  within = omega (arith, slots_are);
  only = λ f apart. refl;
  asks = λ is. refl;
}

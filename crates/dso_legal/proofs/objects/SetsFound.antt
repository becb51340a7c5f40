-- What a put of a field makes of the values that the sets of a block give.
use Rattle.std.proofs.Common.{ℕ, ◌≡◌, refl, sym, ◌∙◌, ap, Bool, true, false, cond, eqb, ltb, ◌&&◌, ◌||◌, Option, Some, List, [], ◌∷◌, arith}
use Rattle.std.proofs.lemmas.Bool.Decides.{nat_tests}
use Rattle.dso_base.specs.declared.record.Set.{Set}
use Rattle.dso_base.specs.declared.value.Value.{Value}
use Rattle.dso_base.specs.Block.{is_same_field, is_field_before, insert_set}
use Rattle.dso_law.specs.FitsUp.{Rises}
use Rattle.dso_law.specs.Copies.{is_set_of, value_by_set, value_by_sets}

-- what comes after a set is none of its field
not_again : (a b c d p g : ℕ) → (eqb a p && eqb c g) ≡ true → (ltb a b || (eqb a b && ltb c d)) ≡ true → (eqb b p && eqb d g) ≡ false
not_again a b c d p g is before = grind (arith, nat_tests)

-- what comes after what comes after a set comes after it
after_after : (a b c d e f : ℕ) → (ltb a b || (eqb a b && ltb d e)) ≡ true → (ltb b c || (eqb b c && ltb e f)) ≡ true → (ltb a c || (eqb a c && ltb d f)) ≡ true
after_after a b c d e f first second = grind (arith, nat_tests)

-- sets of one field are of a third together
same_set : (a b c d p g : ℕ) → (eqb a b && eqb c d) ≡ true → (eqb a p && eqb c g) ≡ (eqb b p && eqb d g)
same_set a b c d p g same = grind (arith, nat_tests)

-- without the second, the rest still rises
rises_over : (a b : Set) (sets : List Set) → Rises is_field_before (a ∷ b ∷ sets) → Rises is_field_before (a ∷ sets)
rises_over a b [] h = tt
rises_over a b (c ∷ sets) h = (after_after a.object b.object c.object a.field b.field c.field h.0 h.1.0, h.1.1)

-- what rises behind the first does
behind : (a : Set) (sets : List Set) → Rises is_field_before (a ∷ sets) → Rises is_field_before sets
behind a [] h = tt
behind a (b ∷ sets) h = h.1

module _ (p g : ℕ) where
  -- the sets behind one of the field leave its value
  later_leave : (a : Set) (sets : List Set) (x : Option Value) → is_set_of p g a ≡ true → Rises is_field_before (a ∷ sets) → value_by_sets p g sets x ≡ x
  later_leave a [] x is h = refl
  later_leave a (b ∷ sets) x is h =
      ap (λ other. value_by_sets p g sets (cond other (Some b.value) x)) (not_again a.object b.object a.field b.field p g is h.0)
      ∙ later_leave a sets x is (rises_over a b sets h)

  -- the value of the field is that of the set which was put
  put_here : (set : Set) (sets : List Set) (x : Option Value) → is_set_of p g set ≡ true → Rises is_field_before sets → value_by_sets p g (insert_set set sets) x ≡ Some set.value
  put_here set [] x is h = ap (λ b. cond b (Some set.value) x) is
  put_here set (first ∷ rest) x is h = by (is_same_field set first) (is_field_before set first) refl refl (put_here set rest (value_by_set p g x first) is (behind first rest h))
    where
      now : (sets : List Set) → value_by_sets p g sets (Some set.value) ≡ Some set.value → value_by_sets p g (set ∷ sets) x ≡ Some set.value
      now sets e = ap (λ b. value_by_sets p g sets (cond b (Some set.value) x)) is ∙ e

      by : (s b : Bool) → is_same_field set first ≡ s → is_field_before set first ≡ b → value_by_sets p g (insert_set set rest) (value_by_set p g x first) ≡ Some set.value
          → value_by_sets p g (cond s (set ∷ rest) (cond b (set ∷ first ∷ rest) (first ∷ insert_set set rest))) x ≡ Some set.value
      by true b same before later = now rest (later_leave first rest (Some set.value) (sym (same_set set.object first.object set.field first.field p g same) ∙ is) h)
      by false true same before later = now (first ∷ rest) (later_leave set (first ∷ rest) (Some set.value) is (before, h))
      by false false same before later = later

  -- and that of any other field stays
  put_elsewhere : (set : Set) (sets : List Set) (x : Option Value) → is_set_of p g set ≡ false → value_by_sets p g (insert_set set sets) x ≡ value_by_sets p g sets x
  put_elsewhere set [] x isnt = ap (λ b. cond b (Some set.value) x) isnt
  put_elsewhere set (first ∷ rest) x isnt = by (is_same_field set first) (is_field_before set first) refl (put_elsewhere set rest (value_by_set p g x first) isnt)
    where
      past : (sets : List Set) → value_by_sets p g (set ∷ sets) x ≡ value_by_sets p g sets x
      past sets = ap (λ b. value_by_sets p g sets (cond b (Some set.value) x)) isnt

      by : (s b : Bool) → is_same_field set first ≡ s → value_by_sets p g (insert_set set rest) (value_by_set p g x first) ≡ value_by_sets p g rest (value_by_set p g x first)
          → value_by_sets p g (cond s (set ∷ rest) (cond b (set ∷ first ∷ rest) (first ∷ insert_set set rest))) x ≡ value_by_sets p g (first ∷ rest) x
      by true b same later = past rest ∙ ap (λ b. value_by_sets p g rest (cond b (Some first.value) x)) (sym (sym (same_set set.object first.object set.field first.field p g same) ∙ isnt))
      by false true same later = past (first ∷ rest)
      by false false same later = later

  -- A put's set in its place, among sets that rise: the field has its value, any other what it had.
  pub value_put : (set : Set) (sets : List Set) (x : Option Value) → Rises is_field_before sets → value_by_sets p g (insert_set set sets) x ≡ cond (is_set_of p g set) (Some set.value) (value_by_sets p g sets x)
  value_put set sets x h = by (is_set_of p g set) refl
    where
      by : (b : Bool) → is_set_of p g set ≡ b → value_by_sets p g (insert_set set sets) x ≡ cond b (Some set.value) (value_by_sets p g sets x)
      by true is = put_here set sets x is h
      by false isnt = put_elsewhere set sets x isnt

-- Which fields sets are of, and what they make of a value.
use Rattle.std.specs.List.{list_any}
use Rattle.std.proofs.Common.{ℕ, ◌≡◌, ◌≢◌, refl, sym, ◌∙◌, ap, Bool, true, false, cond, eqb, ◌&&◌, ◌||◌, Option, Some, None, List, [], ◌∷◌, filter}
use Rattle.dso_base.specs.declared.record.Set.{Set}
use Rattle.dso_base.specs.declared.value.Value.{Value}
use Rattle.dso_plain.proofs.keys.SameKeys.{same_number, number_self}
use Rattle.dso_lookup.proofs.Tests.{both}
use Rattle.dso_law.specs.Copies.{is_set_of, value_by_sets}
use Rattle.dso_legal.specs.Residency.{is_set}
use Rattle.dso_legal.proofs.copies.FieldMoves.{sets_other, apart}

-- a value that is there stays there as sets come
there_stays : (o f : ℕ) (sets : List Set) (v : Value) → value_by_sets o f sets (Some v) ≢ None
there_stays o f [] v e = absurd (cc e)
there_stays o f (set ∷ sets) v e = by (is_set_of o f set) e (λ w. there_stays o f sets w)
  where
    by : (b : Bool) → value_by_sets o f sets (cond b (Some set.value) (Some v)) ≡ None → ((w : Value) → value_by_sets o f sets (Some w) ≢ None) → ⊥
    by true e stays = stays set.value e
    by false e stays = stays v e

-- where one of the sets is of the field, they give it a value
pub gives_value : (o f : ℕ) (sets : List Set) (before : Option Value) → list_any (is_set_of o f) sets ≡ true → value_by_sets o f sets before ≢ None
gives_value o f [] before is e = absurd (cc is)
gives_value o f (set ∷ sets) before is e = by (is_set_of o f set) is e (gives_value o f sets before)
  where
    by : (b : Bool) → (b || list_any (is_set_of o f) sets) ≡ true → value_by_sets o f sets (cond b (Some set.value) before) ≡ None → (list_any (is_set_of o f) sets ≡ true → value_by_sets o f sets before ≢ None) → ⊥
    by true is e later = there_stays o f sets set.value e
    by false is e later = later is e

-- sets that give the field no value leave it
pub no_value : (o f : ℕ) (sets : List Set) (before : Option Value) → value_by_sets o f sets None ≡ None → value_by_sets o f sets before ≡ before
no_value o f sets before none = by (list_any (is_set_of o f) sets) refl
  where
    by : (b : Bool) → list_any (is_set_of o f) sets ≡ b → value_by_sets o f sets before ≡ before
    by true is = absurd (gives_value o f sets None is none)
    by false is = sets_other o f sets before is

-- a set of the field is one of the object
of_object : (o f : ℕ) (set : Set) → is_set_of o f set ≡ true → set.object ≡ o
of_object o f set is = same_number set.object o (both (eqb set.object o) (eqb set.field f) is).0

-- the sets of objects that a test tells say the same of a field of such an object
pub value_kept : (keep : ℕ → Bool) (o f : ℕ) (sets : List Set) (v : Option Value) → keep o ≡ true → value_by_sets o f (filter (λ set. keep set.object) sets) v ≡ value_by_sets o f sets v
value_kept keep o f [] v kept = refl
value_kept keep o f (set ∷ sets) v kept = by (keep set.object) (is_set_of o f set) refl refl (λ w. value_kept keep o f sets w kept)
  where
    by : (k b : Bool) → keep set.object ≡ k → is_set_of o f set ≡ b → ((w : Option Value) → value_by_sets o f (filter (λ set. keep set.object) sets) w ≡ value_by_sets o f sets w)
        → value_by_sets o f (cond k (set ∷ filter (λ set. keep set.object) sets) (filter (λ set. keep set.object) sets)) v ≡ value_by_sets o f sets (cond b (Some set.value) v)
    by true b k is later = ap (λ x. value_by_sets o f (filter (λ set. keep set.object) sets) (cond x (Some set.value) v)) is ∙ later (cond b (Some set.value) v)
    by false true k is later = absurd (apart kept (sym (ap keep (of_object o f set is)) ∙ k))
    by false false k is later = later v

-- a filter leaves no set that wasn't there
pub has_filtered : {X : Type 0} (test keep : X → Bool) (xs : List X) → list_any test (filter keep xs) ≡ true → list_any test xs ≡ true
has_filtered test keep [] is = is
has_filtered test keep (x ∷ xs) is = by (keep x) (test x) refl is (has_filtered test keep xs)
  where
    by : (k b : Bool) → test x ≡ b → list_any test (cond k (x ∷ filter keep xs) (filter keep xs)) ≡ true → (list_any test (filter keep xs) ≡ true → list_any test xs ≡ true) → (b || list_any test xs) ≡ true
    by k true t is later = refl
    by true false t is later = later (sym (ap (λ z. z || list_any test (filter keep xs)) t) ∙ is)
    by false false t is later = later is

-- where one of the sets is of the object, they give one of its fields a value
pub gives_some : (o : ℕ) (sets : List Set) → ((f : ℕ) → value_by_sets o f sets None ≡ None) → is_set o sets ≡ false
gives_some o [] none = refl
gives_some o (set ∷ sets) none = by (eqb set.object o) refl (gives_some o sets)
  where
    here : eqb set.object o ≡ true → list_any (is_set_of o set.field) (set ∷ sets) ≡ true
    here is = ap (λ b. (b && eqb set.field set.field) || list_any (is_set_of o set.field) sets) is ∙ ap (λ b. b || list_any (is_set_of o set.field) sets) (number_self set.field)

    rest : (f : ℕ) → value_by_sets o f sets None ≡ None
    rest f = unset (list_any (is_set_of o f) sets) refl
      where
        more : (b : Bool) → list_any (is_set_of o f) sets ≡ true → (b || list_any (is_set_of o f) sets) ≡ true
        more true is = refl
        more false is = is

        unset : (b : Bool) → list_any (is_set_of o f) sets ≡ b → value_by_sets o f sets None ≡ None
        unset true is = absurd (gives_value o f (set ∷ sets) None (more (is_set_of o f set) is) (none f))
        unset false is = sets_other o f sets None is

    by : (b : Bool) → eqb set.object o ≡ b → (((f : ℕ) → value_by_sets o f sets None ≡ None) → is_set o sets ≡ false) → (b || is_set o sets) ≡ false
    by true is later = absurd (gives_value o set.field (set ∷ sets) None (here is) (none set.field))
    by false is later = later rest

-- Places in a list to which things are added at the end.
use Rattle.std.proofs.Common.{ℕ, suc, is_some, ◌≡◌, refl, sym, ◌∙◌, ap, subst, inl, inr, Bool, true, false, cond, Option, Some, None, List, [], ◌∷◌, ◌++◌, length, map, Contains, slice_get}
use Rattle.std.proofs.Math.Path.{fun_ext}
use Rattle.std.specs.declared.cmp.Ordering.{Ordering}
use Rattle.std.specs.declared.cmp.Ordering.TheVariants.{Less, Equal, Greater}
use Rattle.std.specs.Ordering.{is_eq}
use Rattle.std.proofs.lemmas.List.Elements.{All-nil, All-cons, All-contains, Contains-append_cases}
use Rattle.std.proofs.lemmas.Option.{slice_get_within, get_or_from_slice_get}
use Rattle.std.specs.Option.{option_map, unwrap_or}
use Rattle.std.specs.Cmp.{IsTotalOrder, tied_back}
use Rattle.std.specs.BTreeMap.{is_at}
use Rattle.dso_config_entries.specs.FirstPlace.{here_or_behind, place_by, place_of}

-- the place of a list's items, else that of one more item behind so many
abbrev pub then_last : Option ℕ → Bool → ℕ → Option ℕ
then_last (Some place) last count = Some place
then_last None true count = Some count
then_last None false count = None

-- an item that isn't asked for changes nothing
then_last_other : (place : Option ℕ) (count : ℕ) → then_last place false count ≡ place
then_last_other (Some place) count = refl
then_last_other None count = refl

-- one more item before them
then_last_behind : (place : Option ℕ) (last : Bool) (count : ℕ) → option_map suc (then_last place last count) ≡ then_last (option_map suc place) last (suc count)
then_last_behind (Some place) last count = refl
then_last_behind None true count = refl
then_last_behind None false count = refl

-- one more item alone
alone : (last : Bool) → here_or_behind last None ≡ then_last None last 0
alone true = refl
alone false = refl

-- one more item behind a first one
behind_first : (first last : Bool) (place : Option ℕ) (count : ℕ) → here_or_behind first (then_last place last count) ≡ then_last (here_or_behind first place) last (suc count)
behind_first true last place count = refl
behind_first false last place count = then_last_behind place last count

-- one more item at the end
pub place_push : {A : Type 0} (test : A → Bool) (xs : List A) (x : A) → place_by test (xs ++ x ∷ []) ≡ then_last (place_by test xs) (test x) (length xs)
place_push test [] x = alone (test x)
place_push test (y ∷ ys) x = ap (here_or_behind (test y)) (place_push test ys x) ∙ behind_first (test y) (test x) (place_by test ys) (length ys)

-- an answer that is `Equal`
pub equal_is : (r : Ordering) → is_eq r ≡ true → r ≡ Equal
equal_is Less e = absurd (cc e)
equal_is Equal e = refl
equal_is Greater e = absurd (cc e)

module _ {A : Type 0} {R : A → A → Ordering} (o : IsTotalOrder R) where
  -- equal things have one place
  pub same_place : (x y : A) (xs : List A) → is_at (R x) y ≡ true → place_of R xs x ≡ place_of R xs y
  same_place x y xs e = ap (λ test. place_by test xs) (fun_ext (λ z. ap is_eq (o.congr x y z (equal_is (R x y) e))))

  -- equal things are so both ways
  turned : (x y : A) → is_at (R x) y ≡ true → is_at (R y) x ≡ true
  turned x y e = ap is_eq (tied_back o x y (equal_is (R x y) e))

  unturned : (x y : A) (b : Bool) → is_at (R x) y ≡ false → is_at (R y) x ≡ b → b ≡ false
  unturned x y false e h = refl
  unturned x y true e h = absurd (cc (sym e ∙ turned y x h))

  -- a thing that a map of the places doesn't have has no place
  pub placeless : (xs : List A) (x : A) {old : A → Option ℕ} {has : Bool} → ((q : A) → old q ≡ place_of R xs q) → has ≡ is_some (old x) → has ≡ false → place_of R xs x ≡ None
  placeless xs x {old} was tells fails = sym (was x) ∙ by (old x) (sym tells ∙ fails)
    where
      by : (found : Option ℕ) → is_some found ≡ false → found ≡ None
      by None e = refl
      by (Some place) e = absurd (cc e)

  -- A map that has the places of a list's things has those of the longer list once the new thing's is put in.
  pub added : {old new : A → Option ℕ} (xs : List A) (x : A) (count : ℕ) → count ≡ length xs → place_of R xs x ≡ None → ((q : A) → old q ≡ place_of R xs q)
      → ((q : A) → new q ≡ cond (is_at (R x) q) (Some count) (old q)) → (q : A) → new q ≡ place_of R (xs ++ x ∷ []) q
  added {old} {new} xs x count counts absent was puts q = puts q ∙ ap (λ n. cond (is_at (R x) q) (Some n) (old q)) counts ∙ by (is_at (R x) q) refl ∙ sym (place_push (is_at (R q)) xs x)
    where
      by : (b : Bool) → is_at (R x) q ≡ b → cond b (Some (length xs)) (old q) ≡ then_last (place_of R xs q) (is_at (R q) x) (length xs)
      by true e = rw (sym (same_place x q xs e) ∙ absent, turned x q e) refl
      by false e = was q ∙ sym (then_last_other (place_of R xs q) (length xs)) ∙ ap (λ b. then_last (place_of R xs q) b (length xs)) (sym (unturned x q (is_at (R q) x) e refl))

-- the same is in both
some_same : {A : Type 0} {x y : A} → Some x ≡ Some y → x ≡ y
some_same {x = x} e = ap (λ found. unwrap_or found x) e

-- what a list of one item has, and the empty list
only : {B : Type 0} (y x : B) → Contains (y ∷ []) x → y ≡ x
only y x there = All-contains (λ z. y ≡ z) (y ∷ []) x (All-cons (λ z. y ≡ z) y [] refl (All-nil (λ z. y ≡ z))) there

pub nowhere : {B : Type 0} (x : B) → Contains [] x → ⊥
nowhere x there = All-contains (λ z. ⊥) [] x (All-nil (λ z. ⊥)) there

-- what stands at a place is there
pub stands_there : {B : Type 0} (xs : List B) (x : B) (n : ℕ) → slice_get xs n ≡ Some x → Contains xs x
stands_there xs x n e = (n, slice_get_within xs n x e, get_or_from_slice_get xs n x x e)

-- what is found at a place, and that nothing was missed, where f reads all that the order compares
module _ {A B : Type 0} (R : A → A → Ordering) (f : A → B) where
  -- the first item stands at the place that is told, or the place is told behind it
  number_cons : (x : B) (y : B) (ys : List B) (b : Bool) (place : Option ℕ) (n : ℕ) → (b ≡ true → y ≡ x) → ((m : ℕ) → place ≡ Some m → slice_get ys m ≡ Some x)
      → here_or_behind b place ≡ Some n → slice_get (y ∷ ys) n ≡ Some x
  number_cons x y ys true place n same behind e = subst (λ m. slice_get (y ∷ ys) m ≡ Some x) (some_same e) (ap Some (same refl))
  number_cons x y ys false None n same behind e = absurd (cc e)
  number_cons x y ys false (Some m) n same behind e = subst (λ m. slice_get (y ∷ ys) m ≡ Some x) (some_same e) (behind m refl)

  -- the thing has the number that its place tells
  pub is_number : ((x y : A) → R x y ≡ Equal → f y ≡ f x) → (x : A) (xs : List A) (n : ℕ) → place_of R xs x ≡ Some n → slice_get (map f xs) n ≡ Some (f x)
  is_number exact x [] n e = absurd (cc e)
  is_number exact x (y ∷ ys) n e = number_cons (f x) (f y) (map f ys) (is_at (R x) y) (place_of R ys x) n (λ b. exact x y (equal_is (R x y) b)) (λ m. is_number exact x ys m) e

  -- a thing that has a place nowhere isn't there
  none_cons : (x : A) (y : A) (ys : List A) (b : Bool) (place : Option ℕ) → is_at (R x) y ≡ b → (f y ≡ f x → is_at (R x) y ≡ true) → (place ≡ None → Contains (map f ys) (f x) → ⊥)
      → here_or_behind b place ≡ None → Contains (f y ∷ map f ys) (f x) → ⊥
  none_cons x y ys true place t same behind e there = absurd (cc e)
  none_cons x y ys false (Some m) t same behind e there = absurd (cc e)
  none_cons x y ys false None t same behind e there = elim (Contains-append_cases (f y ∷ []) (map f ys) (f x) there) [
    | inl first ↦ cc (sym t ∙ same (only (f y) (f x) first))
    | inr rest ↦ behind refl rest
  ]

  pub is_absent : ((x y : A) → f y ≡ f x → is_at (R x) y ≡ true) → (x : A) (xs : List A) → place_of R xs x ≡ None → Contains (map f xs) (f x) → ⊥
  is_absent same x [] e there = nowhere (f x) there
  is_absent same x (y ∷ ys) e there = none_cons x y ys (is_at (R x) y) (place_of R ys x) refl (same x y) (is_absent same x ys) e there

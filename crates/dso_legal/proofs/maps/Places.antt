-- The number of a map's field tells the field.
use Rattle.std.proofs.Common.{ℕ, ◌≡◌, ◌⊎◌, inl, inr, refl, sym, ◌∙◌, eqb, arith, ◌+◌, ◌*◌}
use Rattle.std.proofs.lemmas.Bool.{ne_eqb, eq-eqb, cases_eq}
use Rattle.dso_map.proofs.Sizes.{slots_are}
use Rattle.dso_map.specs.Bodies.{is_field}
use Rattle.dso_map.specs.Fields.{MapField, IsMapField, place_of}
use Rattle.dso_map.specs.Fields.MapField.{Touched, Key, Held, Size}

-- two numbers that are the same, and their multiples
same_tests : (i j m n : ℕ) → (m ≡ n → i ≡ j) → (i ≡ j → m ≡ n) → eqb m n ≡ eqb i j
same_tests i j m n back on = by (cases_eq i j)
  where
    by : (i ≡ j) ⊎ (i ≡ j → ⊥) → eqb m n ≡ eqb i j
    by (inl same) = eq-eqb m n (on same) ∙ sym (eq-eqb i j same)
    by (inr other) = ne_eqb m n (λ same. other (back same)) ∙ sym (ne_eqb i j other)

-- Two fields of a map have one number where they are one.
pub place_test : (f g : MapField) → IsMapField f → IsMapField g → eqb (place_of g) (place_of f) ≡ is_field f g
place_test (Touched i) (Touched j) a b = same_tests j i (3 * j) (3 * i) (λ e. omega (arith, e)) (λ e. omega (arith, e))
place_test (Key i) (Key j) a b = same_tests j i (3 * j + 1) (3 * i + 1) (λ e. omega (arith, e)) (λ e. omega (arith, e))
place_test (Held i) (Held j) a b = same_tests j i (3 * j + 2) (3 * i + 2) (λ e. omega (arith, e)) (λ e. omega (arith, e))
place_test Size Size a b = eq-eqb 768 768 refl
place_test (Touched i) (Key j) a b = ne_eqb (3 * j + 1) (3 * i) (λ e. omega (arith, e))
place_test (Touched i) (Held j) a b = ne_eqb (3 * j + 2) (3 * i) (λ e. omega (arith, e))
place_test (Touched i) Size a b = ne_eqb 768 (3 * i) (λ e. omega (arith, e, a, slots_are))
place_test (Key i) (Touched j) a b = ne_eqb (3 * j) (3 * i + 1) (λ e. omega (arith, e))
place_test (Key i) (Held j) a b = ne_eqb (3 * j + 2) (3 * i + 1) (λ e. omega (arith, e))
place_test (Key i) Size a b = ne_eqb 768 (3 * i + 1) (λ e. omega (arith, e, a, slots_are))
place_test (Held i) (Touched j) a b = ne_eqb (3 * j) (3 * i + 2) (λ e. omega (arith, e))
place_test (Held i) (Key j) a b = ne_eqb (3 * j + 1) (3 * i + 2) (λ e. omega (arith, e))
place_test (Held i) Size a b = ne_eqb 768 (3 * i + 2) (λ e. omega (arith, e, a, slots_are))
place_test Size (Touched j) a b = ne_eqb (3 * j) 768 (λ e. omega (arith, e, b, slots_are))
place_test Size (Key j) a b = ne_eqb (3 * j + 1) 768 (λ e. omega (arith, e, b, slots_are))
place_test Size (Held j) a b = ne_eqb (3 * j + 2) 768 (λ e. omega (arith, e, b, slots_are))

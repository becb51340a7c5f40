-- What is found in a table of sets is the value that was put.
use Rattle.std.proofs.Common.{ℕ, ◌≡◌, refl, ◌∙◌, ap, Bool, true, false, cond, ◌&&◌, Some, List, [], ◌∷◌, map, find}
use Rattle.std.specs.Map.{lookup}
use Rattle.std.specs.Option.{option_map}
use Rattle.std.specs.Ordering.{is_eq, nat_cmp, ordering_then}
use Rattle.std.specs.declared.cmp.Ordering.{Ordering}
use Rattle.std.specs.declared.cmp.Ordering.TheVariants.{Less, Equal, Greater}
use Rattle.dso_base.specs.declared.value.Value.{Value}
use Rattle.dso_change.specs.Hands.{set_of_entry}
use Rattle.dso_lookup.proofs.Tests.{number_at}
use Rattle.dso_txn.specs.InHand.{is_of_field, put_value}

-- two orders one after the other take for the same what both take for the same
both_equal : (a b : Ordering) → is_eq (ordering_then a b) ≡ (is_eq a && is_eq b)
both_equal Less b = refl
both_equal Equal b = refl
both_equal Greater b = refl

-- one field is another
field_at : (o f : ℕ) (e : (ℕ × ℕ) × Value) → is_eq (ordering_then (nat_cmp o e.0.0) (nat_cmp f e.0.1)) ≡ is_of_field o f (set_of_entry e)
field_at o f e = both_equal (nat_cmp o e.0.0) (nat_cmp f e.0.1) ∙ (λ i. number_at o e.0.0 i && number_at f e.0.1 i)

-- the value at the field's entry
pub value_put : (o f : ℕ) (es : List ((ℕ × ℕ) × Value)) → lookup (λ key. is_eq (ordering_then (nat_cmp o key.0) (nat_cmp f key.1))) es ≡ put_value o f (map set_of_entry es)
value_put o f [] = refl
value_put o f (e ∷ es) = ap (λ b. cond b (Some e.1) (lookup (λ key. is_eq (ordering_then (nat_cmp o key.0) (nat_cmp f key.1))) es)) (field_at o f e) ∙ by (is_of_field o f (set_of_entry e)) (value_put o f es)
  where
    by : (b : Bool) → lookup (λ key. is_eq (ordering_then (nat_cmp o key.0) (nat_cmp f key.1))) es ≡ put_value o f (map set_of_entry es)
        → cond b (Some e.1) (lookup (λ key. is_eq (ordering_then (nat_cmp o key.0) (nat_cmp f key.1))) es) ≡ option_map (λ set. set.value) (cond b (Some (set_of_entry e)) (find (is_of_field o f) (map set_of_entry es)))
    by true rest = refl
    by false rest = rest

-- The first of two needs.
use Rattle.std.proofs.Common.{◌≡◌, refl, Bool, true, false, not, Some, None}
use Rattle.dso_law.specs.RequestNeeds.{Need, first_unmet, unless}

-- both are met
pub both_met : (admitted any : Bool) (lease others : Need) → admitted ≡ true → any ≡ false → None ≡ first_unmet (unless admitted lease) (unless (not any) others)
both_met true false lease others a n = refl
both_met true true lease others a n = absurd (cc n)
both_met false any lease others a n = absurd (cc a)

-- the first is met, and the second isn't
pub second_unmet : (admitted any : Bool) (lease others : Need) → admitted ≡ true → any ≡ true → Some others ≡ first_unmet (unless admitted lease) (unless (not any) others)
second_unmet true true lease others a n = refl
second_unmet true false lease others a n = absurd (cc n)
second_unmet false any lease others a n = absurd (cc a)

-- the first isn't
pub lease_unmet : (admitted any : Bool) (lease others : Need) → admitted ≡ false → Some lease ≡ first_unmet (unless admitted lease) (unless (not any) others)
lease_unmet false any lease others a = refl
lease_unmet true any lease others a = absurd (cc a)

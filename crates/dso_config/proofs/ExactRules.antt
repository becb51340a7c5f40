-- What a table says and what is wrong with it exclude each other, and one of the two there is.
use Rattle.std.proofs.Common.{codes, ◌≡◌, ℕ, List, [], ◌∷◌, Option, Some, None, refl}
use Rattle.std.specs.Option.{option_and_then}
use Rattle.toml.specs.Data.{Members}
use Rattle.dso_config.specs.declared.fault.ConfigFault.{ConfigFault}
use Rattle.dso_config.specs.declared.fault.ConfigFault.TheVariants as fault
use Rattle.dso_config.specs.declared.fault.Spot.{Spot}
use Rattle.dso_config.specs.Entries.{Rules, root_rules, autolock_rules, named_rules, guard_rules, loss_rules, break_rules, root_of, guarded_of, locking_at, locking_fault, trigger_at, trigger_fault}
use Rattle.dso_config.specs.Keys.{text_at, number_at, in_range, form_at, form_fault, number_in, number_fault, first_fault, both, value_fault, unless_found}
use Rattle.dso_config.specs.InRange.{latest_message}
use Rattle.dso_config.specs.Spelling.{pattern_of, grade_of, name_of}
use Rattle.dso_config.proofs.Ranges.{both-parts}

-- nothing is wrong exactly where something is said
pub record IsExact {A : Type 0} (value : Option A) (wrong : Option ConfigFault) : Type 0 where
  pub right : (a : A) → value ≡ Some a → wrong ≡ None
  pub there : wrong ≡ None → (a : A) × (value ≡ Some a)

-- the first of two faults is none where neither is there
pub two-none : (a b : Option ConfigFault) → first_fault (a ∷ b ∷ []) ≡ None → (a ≡ None) × (b ≡ None)
two-none None None none = (refl, refl)
two-none None (Some b) none = cc
two-none (Some a) b none = cc

-- what is found has no fault
pub found-right : {A : Type 0} (wrong : ConfigFault) (found : Option A) (a : A) → found ≡ Some a → unless_found wrong found ≡ None
found-right wrong None a is = cc
found-right wrong (Some found) a is = refl

pub found-there : {A : Type 0} (wrong : ConfigFault) (found : Option A) → unless_found wrong found ≡ None → (a : A) × (found ≡ Some a)
found-there wrong None none = cc
found-there wrong (Some found) none = (found, refl)

-- a value of some kind and form
pub value-exact : {X A : Type 0} (spot : Spot) (other : ConfigFault) (form : X → Option A) (value : Option X) → IsExact (option_and_then form value) (value_fault spot other form value)
value-exact spot other form None = record { right = λ a is. cc; there = λ none. cc }
value-exact spot other form (Some x) = record {
  right = λ a is. rw (found-right other (form x) a is);
  there = λ none. found-there other (form x) (two-none None (unless_found other (form x)) none).1;
}

-- what two parts make
pub both-exact : {A B C : Type 0} (make : A → B → C) (a : Option A) (b : Option B) (f g : Option ConfigFault) → IsExact a f → IsExact b g → IsExact (both make a b) (first_fault (f ∷ g ∷ []))
both-exact make a b f g first second = record {
  right = λ c is.
      let parts = both-parts make a b c is in
      rw (first.right parts.0 parts.2, second.right parts.1 parts.3);
  there = λ none.
      let parts = two-none f g none in
      let x = first.there parts.0 in
      let y = second.there parts.1 in
      (make x.0 y.0, rw (x.1, y.1));
}

-- rules by which each table says an entry or is wrong, and never both
pub record AreExact {E : Type 0} (rules : Rules E) : Type 0 where
  pub at : (spot : Spot) (table : Members) → IsExact (rules.entry table) (rules.fault spot table)

-- the text and the number at a key
text-exact : {A : Type 0} (spot : Spot) (other : ConfigFault) (form : List ℕ → Option A) (key : List ℕ) (table : Members)
    → IsExact (form_at form key table) (form_fault spot other form key table)
text-exact spot other form key table = value-exact spot other form (text_at key table)

number-exact : (spot : Spot) (least most : ℕ) (key : List ℕ) (table : Members)
    → IsExact (number_in least most key table) (number_fault spot least most key table)
number-exact spot least most key table = value-exact spot (fault.OutOfRange spot) (in_range least most) (number_at key table)

pub roots-exact : AreExact root_rules
roots-exact = record { at = λ spot table. text-exact spot (fault.BadName spot) root_of (codes "field") table }

locking-exact : (spot : Spot) (table : Members) → IsExact (locking_at table) (locking_fault spot table)
locking-exact spot table =
    both-exact (λ method grade. record { method = method; grade = grade }) _ _ _ _
    (text-exact spot (fault.BadMethodPattern spot) pattern_of (codes "method") table)
    (text-exact spot (fault.OutOfRange spot) grade_of (codes "level") table)

pub autolocks-exact : AreExact autolock_rules
autolocks-exact = record { at = locking-exact }

pub named-exact : AreExact named_rules
named-exact = record {
  at = λ spot table.
      both-exact (λ name locking. record { name = name; method = locking.method; grade = locking.grade }) _ _ _ _
      (text-exact spot (fault.BadName spot) name_of (codes "name") table)
      (locking-exact spot table);
}

pub guards-exact : AreExact guard_rules
guards-exact = record {
  at = λ spot table.
      both-exact (λ fields lock. record { class = fields.0; field = fields.1; lock = lock }) _ _ _ _
      (text-exact spot (fault.BadGuard spot) guarded_of (codes "field") table)
      (text-exact spot (fault.BadGuard spot) name_of (codes "lock") table);
}

trigger-exact : (clients : ℕ) (spot : Spot) (table : Members) → IsExact (trigger_at clients table) (trigger_fault clients spot table)
trigger-exact clients spot table =
    both-exact (λ client after. record { client = client; after = after }) _ _ _ _
    (number-exact spot 1 clients (codes "client") table)
    (number-exact spot 0 latest_message (codes "after") table)

pub losses-exact : (clients : ℕ) → AreExact (loss_rules clients)
losses-exact clients = record { at = trigger-exact clients }

pub breaks-exact : (clients : ℕ) → AreExact (break_rules clients)
breaks-exact clients = record { at = trigger-exact clients }

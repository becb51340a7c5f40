-- What is wrong with a table has a spot there.
use Rattle.std.proofs.Common.{codes, ◌≡◌, ℕ, suc, Bool, true, false, nat_lt, List, [], ◌∷◌, ◌++◌, length, Option, Some, None, refl, ◌<◌, subst}
use Rattle.std.specs.Option.{option_and_then, option_to_list}
use Rattle.toml.specs.Data.{Data, Members, as_array, as_integer, as_table, get_member}
use Rattle.dso_config.specs.declared.fault.ConfigFault.{ConfigFault}
use Rattle.dso_config.specs.declared.fault.ConfigFault.TheVariants as fault
use Rattle.dso_config.specs.declared.fault.Section.TheVariants as section
use Rattle.dso_config.specs.declared.fault.Spot.{Spot}
use Rattle.dso_config.specs.Configuration.{HasSpot, IsFaultOf, too_long, not_toml, in_table, IsToml, most_bytes, top, setting_fault, clients_of, triggers_fault, table_fault}
use Rattle.dso_config.specs.Entries.{Rules, root_rules, root_of, autolock_rules, named_rules, guard_rules, guarded_of, loss_rules, break_rules, locking_fault, trigger_fault}
use Rattle.dso_config.specs.InRange.{latest_message, most_clients, most_entries, most_resident}
use Rattle.dso_config.specs.Keys.{text_at, number_at, in_range, first_fault, has_known_keys, unless, unless_found, value_fault}
use Rattle.dso_config.specs.Sections as sections
use Rattle.dso_config.specs.Sections.{entry_of, is_new, item_fault, items_fault, known_table, listed, section_fault, value_of, whole}
use Rattle.dso_config.specs.Spelling.{pattern_of, grade_of, name_of}

-- a fault that is there has a spot
abbrev AreSpotted : Option ConfigFault → Type 0
AreSpotted None = Unit {0}
AreSpotted (Some wrong) = HasSpot wrong

-- so has the first of them
first-spotted : (a : Option ConfigFault) (rest : List (Option ConfigFault)) → AreSpotted a → AreSpotted (first_fault rest) → AreSpotted (first_fault (a ∷ rest))
first-spotted None rest a others = others
first-spotted (Some wrong) rest a others = a

unless-spotted : (wrong : ConfigFault) (test : Bool) → HasSpot wrong → AreSpotted (unless wrong test)
unless-spotted wrong true spotted = tt
unless-spotted wrong false spotted = spotted

unless_found-spotted : {A : Type 0} (wrong : ConfigFault) (found : Option A) → HasSpot wrong → AreSpotted (unless_found wrong found)
unless_found-spotted wrong None spotted = spotted
unless_found-spotted wrong (Some found) spotted = tt

then-spotted : {A : Type 0} (next : A → Option ConfigFault) (found : Option A) → ((a : A) → AreSpotted (next a)) → AreSpotted (option_and_then next found)
then-spotted next None spotted = tt
then-spotted next (Some found) spotted = spotted found

-- a value's faults
value-spotted : {X A : Type 0} (spot : Spot) (other : ConfigFault) (form : X → Option A) (value : Option X) → HasSpot other → AreSpotted (value_fault spot other form value)
value-spotted spot other form value spotted =
    first-spotted (unless_found (fault.WrongKind spot) value) (unless_found other (option_and_then form value) ∷ [])
    (unless_found-spotted (fault.WrongKind spot) value tt)
    (first-spotted (unless_found other (option_and_then form value)) [] (unless_found-spotted other (option_and_then form value) spotted) tt)

-- those of two keys
two-spotted : (a b : Option ConfigFault) → AreSpotted a → AreSpotted b → AreSpotted (first_fault (a ∷ b ∷ []))
two-spotted a b first second = first-spotted a (b ∷ []) first (first-spotted b [] second tt)

-- the rules of a section tell spots
pub record TellSpots {E : Type 0} (rules : Rules E) : Type 0 where
  pub at : (spot : Spot) (table : Members) → AreSpotted (rules.fault spot table)

roots-spotted : TellSpots root_rules
roots-spotted = record { at = λ spot table. value-spotted spot (fault.BadName spot) root_of (text_at (codes "field") table) tt }

locking-spotted : (spot : Spot) (table : Members) → AreSpotted (locking_fault spot table)
locking-spotted spot table =
    two-spotted _ _
    (value-spotted spot (fault.BadMethodPattern spot) pattern_of (text_at (codes "method") table) tt)
    (value-spotted spot (fault.OutOfRange spot) grade_of (text_at (codes "level") table) tt)

autolocks-spotted : TellSpots autolock_rules
autolocks-spotted = record { at = locking-spotted }

named-spotted : TellSpots named_rules
named-spotted = record {
  at = λ spot table. two-spotted _ _ (value-spotted spot (fault.BadName spot) name_of (text_at (codes "name") table) tt) (locking-spotted spot table);
}

guards-spotted : TellSpots guard_rules
guards-spotted = record {
  at = λ spot table.
      two-spotted _ _
      (value-spotted spot (fault.BadGuard spot) guarded_of (text_at (codes "field") table) tt)
      (value-spotted spot (fault.BadGuard spot) name_of (text_at (codes "lock") table) tt);
}

triggers-spotted : (clients : ℕ) (spot : Spot) (table : Members) → AreSpotted (trigger_fault clients spot table)
triggers-spotted clients spot table =
    two-spotted _ _
    (value-spotted spot (fault.OutOfRange spot) (in_range 1 clients) (number_at (codes "client") table) tt)
    (value-spotted spot (fault.OutOfRange spot) (in_range 0 latest_message) (number_at (codes "after") table) tt)

-- an item's faults
item-spotted : {E : Type 0} (rules : Rules E) → TellSpots rules → (before : List E) (value : Data) → AreSpotted (item_fault rules before value)
item-spotted rules spotted before value =
    let spot : Spot = record { section = rules.section; entry = suc (length before) } in
    let twice = then-spotted (λ entry. unless (fault.Twice spot) (is_new rules before entry)) (entry_of rules value)
    (λ entry. unless-spotted (fault.Twice spot) (is_new rules before entry) tt) in
    let keys = two-spotted _ _ (then-spotted (rules.fault spot) (as_table value) (spotted.at spot)) twice in
    let known = first-spotted _ _ (unless_found-spotted (fault.UnknownKey spot) (known_table rules.section value) tt) keys in
    let a_table = first-spotted _ _ (unless_found-spotted (fault.WrongKind spot) (as_table value) tt) known in
    first-spotted _ _ (unless-spotted (fault.OutOfRange spot) (nat_lt (length before) most_entries) tt) a_table

items-spotted : {E : Type 0} (rules : Rules E) → TellSpots rules → (before : List E) (items : List Data) → AreSpotted (items_fault rules before items)
items-spotted rules spotted before [] = tt
items-spotted rules spotted before (value ∷ rest) =
    two-spotted _ _ (item-spotted rules spotted before value) (items-spotted rules spotted (before ++ option_to_list (entry_of rules value)) rest)

-- a section's faults
section-spotted : {E : Type 0} (rules : Rules E) → TellSpots rules → (value : Option Data) → AreSpotted (sections.value_fault rules value)
section-spotted rules spotted None = tt
section-spotted rules spotted (Some value) =
    two-spotted _ _ (unless_found-spotted (fault.WrongKind (whole rules)) (as_array value) tt)
    (then-spotted (λ items. items_fault rules [] (listed items)) (as_array value) (λ items. items-spotted rules spotted [] (listed items)))

setting-spotted : (most : ℕ) (value : Option Data) → AreSpotted (setting_fault most value)
setting-spotted most None = tt
setting-spotted most (Some value) = value-spotted top (fault.OutOfRange top) (in_range 1 most) (as_integer value) tt

-- a table's faults
table-spotted : (table : Members) → AreSpotted (table_fault table)
table-spotted table =
    let of_clients = λ (clients : ℕ).
    two-spotted _ _
    (section-spotted (loss_rules clients) (record { at = triggers-spotted clients }) (value_of (loss_rules clients) table))
    (section-spotted (break_rules clients) (record { at = triggers-spotted clients }) (value_of (break_rules clients) table)) in
    let triggers = then-spotted (triggers_fault table) (clients_of table) of_clients in
    let guards = two-spotted _ _ (section-spotted guard_rules guards-spotted (value_of guard_rules table)) triggers in
    let named = first-spotted _ _ (section-spotted named_rules named-spotted (value_of named_rules table)) guards in
    let autolocks = first-spotted _ _ (section-spotted autolock_rules autolocks-spotted (value_of autolock_rules table)) named in
    let roots = first-spotted _ _ (section-spotted root_rules roots-spotted (value_of root_rules table)) autolocks in
    let resident = first-spotted _ _ (setting-spotted most_resident (get_member (codes "resident") table)) roots in
    let clients = first-spotted _ _ (setting-spotted most_clients (get_member (codes "clients") table)) resident in
    first-spotted _ _ (unless-spotted (fault.UnknownKey top) (has_known_keys section.Top table) tt) clients

pub spotted : (table : Members) (wrong : ConfigFault) → table_fault table ≡ Some wrong → HasSpot wrong
spotted table wrong is = subst AreSpotted is (table-spotted table)

-- a text is told to be too long or no TOML only where it is
pub too_long-only : (text : List ℕ) → IsFaultOf text fault.TooLong → most_bytes < length text
too_long-only text is = by_form is refl where
  by_form : {wrong : ConfigFault} → IsFaultOf text wrong → wrong ≡ fault.TooLong → most_bytes < length text
  by_form (too_long long) same = long
  by_form (not_toml short none) same = cc
  by_form (in_table wrong table short toml at) same = absurd (subst HasSpot same (spotted table wrong at))

pub not_toml-only : (text : List ℕ) → IsFaultOf text fault.NotToml → (table : Members) → IsToml text table → ⊥
not_toml-only text is = by_form is refl where
  by_form : {wrong : ConfigFault} → IsFaultOf text wrong → wrong ≡ fault.NotToml → (table : Members) → IsToml text table → ⊥
  by_form (too_long long) same = cc
  by_form (not_toml short none) same = none
  by_form (in_table wrong table short toml at) same = absurd (subst HasSpot same (spotted table wrong at))

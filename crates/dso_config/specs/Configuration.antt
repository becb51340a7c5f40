-- What a text says as a configuration, and what is wrong with it.
use Rattle.std.specs.Prelude.{⊤, ◌≡◌, ◌≤◌, ◌<◌, ◌⊎◌, ℕ, List, [], ◌∷◌, length, Option, Some, None, IsTrue, IsUtf8}
use Rattle.std.specs.Prelude.{codes, option_and_then}
use Rattle.toml.specs.Data.{Data, Members, get_member, as_integer}
use Rattle.toml.specs.Parse.{parse_document}
use Rattle.dso_config.specs.declared.config.Config.{Config}
use Rattle.dso_config.specs.declared.fault.ConfigFault.{ConfigFault}
use Rattle.dso_config.specs.declared.fault.ConfigFault.TheVariants as fault
use Rattle.dso_config.specs.declared.fault.Section.TheVariants as section
use Rattle.dso_config.specs.declared.fault.Spot.{Spot}
use Rattle.dso_config.specs.Entries.{root_rules, autolock_rules, named_rules, guard_rules, loss_rules, break_rules}
use Rattle.dso_config.specs.InRange.{most_clients, most_resident}
use Rattle.dso_config.specs.Keys.{has_known_keys, in_range, first_fault, unless, value_fault}
use Rattle.dso_config.specs.Sections.{IsSection, IsSectionOrEmpty, section_fault}

-- the most bytes of a text
abbrev pub most_bytes : ℕ
most_bytes = 1048576

-- the top of the text
abbrev pub top : Spot
top = record { section = section.Top; entry = 0 }

-- the number at a key that may be absent: its default stands for it then
abbrev pub setting : ℕ → ℕ → Option Data → Option ℕ
setting default most None = Some default
setting default most (Some value) = option_and_then (in_range 1 most) (as_integer value)

abbrev pub setting_fault : ℕ → Option Data → Option ConfigFault
setting_fault most None = None
setting_fault most (Some value) = value_fault top (fault.OutOfRange top) (in_range 1 most) (as_integer value)

-- how many clients there are, 1 where the key is absent
abbrev pub clients_of : Members → Option ℕ
clients_of table = setting 1 most_clients (get_member (codes "clients") table)

abbrev pub clients_fault : Members → Option ConfigFault
clients_fault table = setting_fault most_clients (get_member (codes "clients") table)

-- how many objects a client keeps, 4096 where the key is absent
abbrev pub resident_of : Members → Option ℕ
resident_of table = setting 4096 most_resident (get_member (codes "resident") table)

abbrev pub resident_fault : Members → Option ConfigFault
resident_fault table = setting_fault most_resident (get_member (codes "resident") table)

-- the table has no unknown key, and its keys say this configuration
pub record Says (table : Members) (config : Config) : Type 0 where
  pub known : IsTrue (has_known_keys section.Top table)
  pub clients : clients_of table ≡ Some config.clients
  pub resident : resident_of table ≡ Some config.resident
  pub roots : IsSection root_rules table config.roots
  pub autolocks : IsSection autolock_rules table config.autolocks
  pub named : IsSection named_rules table config.named
  pub guards : IsSectionOrEmpty guard_rules table config.guards
  pub losses : IsSectionOrEmpty (loss_rules config.clients) table config.losses
  pub breaks : IsSectionOrEmpty (break_rules config.clients) table config.breaks

-- what is wrong with the sections that name one of so many clients
abbrev pub triggers_fault : Members → ℕ → Option ConfigFault
triggers_fault table clients =
    first_fault (
    section_fault (loss_rules clients) table
    ∷ section_fault (break_rules clients) table
    ∷ [])

-- what is wrong with a table: the first fault, where an unknown key comes first and then the keys in this order
abbrev pub table_fault : Members → Option ConfigFault
table_fault table =
    first_fault (
    unless (fault.UnknownKey top) (has_known_keys section.Top table)
    ∷ clients_fault table
    ∷ resident_fault table
    ∷ section_fault root_rules table
    ∷ section_fault autolock_rules table
    ∷ section_fault named_rules table
    ∷ section_fault guard_rules table
    ∷ option_and_then (triggers_fault table) (clients_of table)
    ∷ [])

-- the text is TOML and reads as this table
pub record IsToml (text : List ℕ) (table : Members) : Type 0 where
  pub is_text : IsUtf8 text
  pub reads : parse_document text ≡ Some table

-- the text says this configuration
pub record IsConfigurationOf (text : List ℕ) (config : Config) : Type 0 where
  pub short : length text ≤ most_bytes
  pub table : Members
  pub toml : IsToml text table
  pub says : Says table config

-- what is wrong with the text: it is too long, or else it is no TOML, or else its table is wrong
pub data IsFaultOf (text : List ℕ) : ConfigFault → Type 0 where
  too_long : most_bytes < length text → IsFaultOf text fault.TooLong
  not_toml : length text ≤ most_bytes → ((table : Members) → IsToml text table → ⊥) → IsFaultOf text fault.NotToml
  in_table : (wrong : ConfigFault) (table : Members)
      → length text ≤ most_bytes
      → IsToml text table
      → table_fault table ≡ Some wrong
      → IsFaultOf text wrong

-- the text says a configuration, or something is wrong with it
abbrev pub HasAnswer : List ℕ → Type 0
HasAnswer text = ((config : Config) × IsConfigurationOf text config) ⊎ ((wrong : ConfigFault) × IsFaultOf text wrong)

-- the fault is told with a spot of the table
abbrev pub HasSpot : ConfigFault → Type 0
HasSpot fault.NotToml = ⊥
HasSpot (fault.UnknownKey spot) = ⊤
HasSpot (fault.WrongKind spot) = ⊤
HasSpot (fault.OutOfRange spot) = ⊤
HasSpot (fault.BadMethodPattern spot) = ⊤
HasSpot (fault.BadGuard spot) = ⊤
HasSpot (fault.Twice spot) = ⊤
HasSpot fault.TooLong = ⊥
HasSpot (fault.BadName spot) = ⊤
HasSpot (fault.NoMemory refused) = ⊥

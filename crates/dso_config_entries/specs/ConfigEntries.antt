-- Which entries of a configuration are for a method, a field, a static field.
use Rattle.std.specs.Prelude.{◌≡◌, List, [], ◌∷◌, ◌++◌, map, Contains, Option, Some, None}
use Rattle.dso_base.specs.declared.lock.Grade.{Grade}
use Rattle.dso_base.specs.declared.lock.Grade.TheVariants as grade
use Rattle.dso_config.specs.declared.config.AutoEntry.{AutoEntry}
use Rattle.dso_config.specs.declared.config.NamedEntry.{NamedEntry}
use Rattle.dso_config.specs.declared.config.GuardEntry.{GuardEntry}
use Rattle.dso_config.specs.declared.config.RootEntry.{RootEntry}
use Rattle.dso_config.specs.declared.config.Config.{Config}
use Rattle.dso_config.specs.declared.pattern.Pattern.{Pattern}
use Rattle.dso_config.specs.declared.pattern.Pattern.TheVariants as pattern
use Rattle.dso_config.specs.InRange.{entries}
use Rattle.dso_config_entries.specs.Words.{Word}
use Rattle.dso_config_entries.specs.LastAndFirst.{LastGives}

-- the pattern is for this method of this class
abbrev pub Matches : Pattern → Word → Word → Type 0
Matches pattern.All class method = Unit {0}
Matches (pattern.Class named) class method = named ≡ class
Matches (pattern.Method named wanted) class method = (named ≡ class) × (wanted ≡ method)

-- the field that an entry names is this one; where it names none, it is for every field
abbrev pub IsForField : Option Word → Word → Type 0
IsForField None field = Unit {0}
IsForField (Some named) field = named ≡ field

-- the guard is for this field of this class
abbrev pub Guards : GuardEntry → Word → Word → Type 0
Guards entry class field = (entry.class ≡ class) × IsForField entry.field field

-- the autolock entries, where these are the sections of autolocks and of named locks: where neither is spoken of,
-- every method locks at write
abbrev pub autolocks : Option (List AutoEntry) → Option (List NamedEntry) → List AutoEntry
autolocks (Some all) named = all
autolocks None (Some all) = []
autolocks None None = record { method = pattern.All; grade = grade.Write } ∷ []

-- the autolock entries of a configuration
abbrev pub autolocks_of : Config → List AutoEntry
autolocks_of config = autolocks config.autolocks config.named

-- the level at which `synchronized` locks in a method: that of the last autolock for it
abbrev pub IsAutolock : Config → Word → Word → Option Grade → Type 0
IsAutolock config class method grade =
    LastGives (λ entry. Matches entry.method class method) (λ entry. entry.grade) (autolocks_of config) grade

-- the static field is a root: it is named as one, or roots are not spoken of
abbrev pub IsRoot : Option (List RootEntry) → Word → Word → Type 0
IsRoot None class field = Unit {0}
IsRoot (Some all) class field = Contains all (record { class = class; field = field })

-- the names of locks as the entries name them: those of named locks, then those of guards
abbrev pub lock_mentions : Config → List Word
lock_mentions config = map (λ entry. entry.name) (entries config.named) ++ map (λ entry. entry.lock) config.guards

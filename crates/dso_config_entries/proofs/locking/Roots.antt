-- Whether entries for roots name a static field.
use Rattle.std.proofs.Common.{◌≡◌, List, All}
use Rattle.dso_config.specs.declared.config.RootEntry.{RootEntry}
use Rattle.dso_config_entries.specs.Words.{Word}

-- no entry names the field
abbrev pub NoneNames : List RootEntry → Word → Word → Type 0
NoneNames roots class field = All (λ root. root ≡ record { class = class; field = field } → ⊥) roots

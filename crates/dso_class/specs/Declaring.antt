-- What a mention that declares a parameter or variable may be wrong in when its name isn't taken.
use Rattle.std.specs.Prelude.{◌≡◌, ◌≤◌, false, List, length, Contains, Some, None}
use Rattle.dso_class.specs.declared.fault.NameKind.{NameKind}
use Rattle.dso_class.specs.declared.fault.NameKind.TheVariants as kind
use Rattle.dso_class.specs.declared.fault.What.TheVariants as what
use Rattle.dso_config_entries.specs.Words.{Word}
use Rattle.dso_class.specs.Limits.{most_vars}
use Rattle.dso_class.specs.Mentions.{Mention, Mentioned}
use Rattle.dso_class.specs.PrecedingMentions.{in_text, in_body, text_in, variable_in, begins_body}
use Rattle.dso_class.specs.NameFaults.{Breaks}
use Rattle.dso_class.specs.TextProgram.{Source}

-- A mention declares a variable of this name, which no variable of the body has; it breaks no rule, unless it is one
-- too many.
pub record IsDeclared (source : Source) (before : List Mention) (here : Mentioned) (name : Word) : Type 0 where
  pub named : variable_in here ≡ Some name
  pub no_text : text_in here ≡ None
  pub no_begin : begins_body here ≡ false
  pub new : Contains (in_text variable_in (in_body before)) name → ⊥
  pub only : (which : NameKind) → Breaks source.config source.ast before here which
      → (most_vars ≤ length (in_text variable_in (in_body before))) × (which ≡ kind.TooMany what.Variables)

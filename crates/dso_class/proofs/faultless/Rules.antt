-- What no fault at a declaration says of what was declared before it.
use Rattle.std.proofs.Common.{◌≡◌, ◌≢◌, ◌∙◌, refl, sym, subst, ◌≤◌, ◌⊎◌, inl, inr, List, [], ◌∷◌, length, Contains, Option, Some, None}
use Rattle.std.specs.List.{cons_option}
use Rattle.std.proofs.lemmas.List.Elements.{Contains-append_left, Contains-append_right, Contains-append_cases}
use Rattle.std.proofs.lemmas.Option.{same_Some}
use Rattle.dso_config.specs.declared.config.Config.{Config}
use Rattle.dso_syntax.specs.declared.tree.Ast.{Ast}
use Rattle.dso_class.specs.declared.fault.NameKind.TheVariants as kind
use Rattle.dso_class.specs.declared.fault.What.TheVariants as what
use Rattle.dso_config_entries.specs.Words.{Word}
use Rattle.dso_class.specs.Limits.{most_classes, most_fields, most_statics, most_methods, most_params, most_vars}
use Rattle.dso_class.specs.Mentions.{Mention, Mentioned, class, field, static, method, parameter}
use Rattle.dso_class.specs.PrecedingMentions.{class_in, member_in, field_in, static_in, method_in, parameter_in, variable_in, in_text, in_class, in_body}
use Rattle.dso_class.specs.Maps.{map_word}
use Rattle.dso_class.specs.NameFaults.{Breaks, map_class, class_twice, many_classes, member_twice, many_fields, many_statics, many_methods, variable_twice, many_params, many_vars}
use Rattle.dso_class.specs.FaultsAmong.{IsFine}

-- with one thing more, or none, a list has what it had
contains_option : {A : Type 0} (found : Option A) (xs : List A) (x : A) → Contains xs x → Contains (cons_option found xs) x
contains_option None xs x there = there
contains_option (Some y) xs x there = Contains-append_right (y ∷ []) xs x there

-- one step: what a sort has is what a wider one has
wider_step : {A : Type 0} (found other : Option A) (xs ys : List A) (x : A) → ((y : A) → found ≡ Some y → other ≡ Some y) → (Contains xs x → Contains ys x)
    → Contains (cons_option found xs) x → Contains (cons_option other ys) x
wider_step None other xs ys x wider later there = contains_option other ys x (later there)
wider_step (Some y) other xs ys x wider later there =
    subst (λ one. Contains (cons_option one ys) x) (sym (wider y refl)) (by (Contains-append_cases (y ∷ []) xs x there))
  where
    by : Contains (y ∷ []) x ⊎ Contains xs x → Contains (y ∷ ys) x
    by (inl here) = Contains-append_left (y ∷ []) ys x here
    by (inr behind) = Contains-append_right (y ∷ []) ys x (later behind)

-- what was mentioned of a sort was mentioned of a wider one
pub contains_wider : {A : Type 0} (one other : Mentioned → Option A) → ((here : Mentioned) (y : A) → one here ≡ Some y → other here ≡ Some y) → (ms : List Mention) (x : A)
    → Contains (in_text one ms) x → Contains (in_text other ms) x
contains_wider one other wider [] x there = there
contains_wider one other wider (m ∷ rest) x there =
    wider_step (one m.what) (other m.what) (in_text one rest) (in_text other rest) x (wider m.what) (contains_wider one other wider rest x) there

-- fields, static fields and methods are members
field_member : (here : Mentioned) (name : Word) → field_in here ≡ Some name → member_in here ≡ Some name
field_member (field other) name is = is
field_member other name is = absurd (cc is)

static_member : (here : Mentioned) (name : Word) → static_in here ≡ Some name → member_in here ≡ Some name
static_member (static other) name is = is
static_member other name is = absurd (cc is)

method_member : (here : Mentioned) (name : Word) → method_in here ≡ Some name → member_in here ≡ Some name
method_member (method other) name is = is
method_member other name is = absurd (cc is)

module _ (config : Config) (ast : Ast) where
  -- a class is new, and there is room for it
  pub class_new : (before : List Mention) (here : Mentioned) (name : Word) → IsFine config ast before here → class_in here ≡ Some name → Contains (in_text class_in before) name → ⊥
  class_new before (class other) name fine is there = fine kind.Twice (class_twice (subst (Contains (in_text class_in before)) (sym (same_Some other name is)) there))
  class_new before other name fine is there = absurd (cc is)

  -- and it isn't called as that of maps
  pub class_no_map : (before : List Mention) (here : Mentioned) (name : Word) → IsFine config ast before here → class_in here ≡ Some name → name ≢ map_word
  class_no_map before (class other) name fine is same = fine kind.Twice (subst (λ word. Breaks config ast before (class word) kind.Twice) (sym (same_Some other name is ∙ same)) map_class)
  class_no_map before other name fine is same = absurd (cc is)

  pub class_room : (before : List Mention) (here : Mentioned) (name : Word) → IsFine config ast before here → class_in here ≡ Some name → most_classes ≤ length (in_text class_in before) → ⊥
  class_room before (class other) name fine is full = fine (kind.TooMany what.Classes) (many_classes full)
  class_room before other name fine is full = absurd (cc is)

  -- a member of a sort is new in its class
  member_new : (sort : Mentioned → Option Word) → ((here : Mentioned) (name : Word) → sort here ≡ Some name → member_in here ≡ Some name)
      → (before : List Mention) (here : Mentioned) (name : Word) → IsFine config ast before here → sort here ≡ Some name → Contains (in_text sort (in_class before)) name → ⊥
  member_new sort of_member before here name fine is there =
      fine kind.Twice (member_twice (of_member here name is) (contains_wider sort member_in of_member (in_class before) name there))

  pub field_new : (before : List Mention) (here : Mentioned) (name : Word) → IsFine config ast before here → field_in here ≡ Some name → Contains (in_text field_in (in_class before)) name → ⊥
  field_new = member_new field_in field_member

  pub static_new : (before : List Mention) (here : Mentioned) (name : Word) → IsFine config ast before here → static_in here ≡ Some name → Contains (in_text static_in (in_class before)) name → ⊥
  static_new = member_new static_in static_member

  pub method_new : (before : List Mention) (here : Mentioned) (name : Word) → IsFine config ast before here → method_in here ≡ Some name → Contains (in_text method_in (in_class before)) name → ⊥
  method_new = member_new method_in method_member

  -- there is room for a field and a method in its class, and for a static field in the text
  pub field_room : (before : List Mention) (here : Mentioned) (name : Word) → IsFine config ast before here → field_in here ≡ Some name → most_fields ≤ length (in_text field_in (in_class before)) → ⊥
  field_room before (field other) name fine is full = fine (kind.TooMany what.Fields) (many_fields full)
  field_room before other name fine is full = absurd (cc is)

  pub method_room : (before : List Mention) (here : Mentioned) (name : Word) → IsFine config ast before here → method_in here ≡ Some name → most_methods ≤ length (in_text method_in (in_class before)) → ⊥
  method_room before (method other) name fine is full = fine (kind.TooMany what.Methods) (many_methods full)
  method_room before other name fine is full = absurd (cc is)

  pub static_room : (before : List Mention) (here : Mentioned) (name : Word) → IsFine config ast before here → static_in here ≡ Some name → most_statics ≤ length (in_text static_in before) → ⊥
  static_room before (static other) name fine is full = fine (kind.TooMany what.Statics) (many_statics full)
  static_room before other name fine is full = absurd (cc is)

  -- a variable is new in its body, and there is room for it; and for a parameter among the parameters
  pub variable_new : (before : List Mention) (here : Mentioned) (name : Word) → IsFine config ast before here → variable_in here ≡ Some name → Contains (in_text variable_in (in_body before)) name → ⊥
  variable_new before here name fine is there = fine kind.Twice (variable_twice is (inr (inr there)))

  pub variable_room : (before : List Mention) (here : Mentioned) (name : Word) → IsFine config ast before here → variable_in here ≡ Some name → most_vars ≤ length (in_text variable_in (in_body before)) → ⊥
  variable_room before here name fine is full = fine (kind.TooMany what.Variables) (many_vars is full)

  pub parameter_room : (before : List Mention) (here : Mentioned) (name : Word) → IsFine config ast before here → parameter_in here ≡ Some name → most_params ≤ length (in_text parameter_in (in_body before)) → ⊥
  parameter_room before (parameter other) name fine is full = fine (kind.TooMany what.Parameters) (many_params full)
  parameter_room before other name fine is full = absurd (cc is)

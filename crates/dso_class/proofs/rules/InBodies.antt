-- Which mentions in a body break no rule, and which fault is told of one that does.
use Rattle.std.proofs.Common.{◌≡◌, ◌⊎◌, inl, inr, ℕ, ◌≤◌, List, reverse, length, Contains, None, refl, sym, subst, arith}
use Rattle.std.proofs.lemmas.Option.{same_Some}
use Rattle.dso_config.specs.declared.config.Config.{Config}
use Rattle.dso_syntax.specs.declared.tree.Ast.{Ast}
use Rattle.dso_class.specs.declared.fault.NameKind.{NameKind}
use Rattle.dso_class.specs.declared.fault.NameKind.TheVariants as kind
use Rattle.dso_class.specs.declared.fault.What.TheVariants as what
use Rattle.dso_config_entries.specs.Words.{Word}
use Rattle.dso_config_entries.specs.LastAndFirst.{LastWith, AreFirsts}
use Rattle.dso_class.specs.Limits.{most_params, most_vars, most_texts}
use Rattle.dso_class.specs.Mentions.{Mention, parameter, variable, synchronized, alone, dotted, called, this, new, call, text}
use Rattle.dso_class.specs.PrecedingMentions.{in_text, in_body, text_in, parameter_in, variable_in}
use Rattle.dso_class.specs.Declarations.{all_statics, class_names}
use Rattle.dso_config_entries.specs.ConfigEntries.{Matches, autolocks_of}
use Rattle.dso_class.specs.NameFaults.{IsClass, IsReachableClass, HasMethod, TakesArguments, IsTaken, Breaks, rank, member_twice, variable_twice, many_vars, many_params, unknown_alone, unknown_dotted, no_static, unknown_called, class_called, this_outside, no_class, no_method, wrong_arguments, many_texts, no_autolock}
use Rattle.dso_class.specs.FaultsAmong.{IsFine, IsFault}
use Rattle.dso_class.proofs.lists.Among.{stable}
use Rattle.dso_class.specs.Declarations.{class_names}

-- a fault is told before itself
pub same_rank : (told other : NameKind) → other ≡ told → rank told ≤ rank other
same_rank told other same = subst (λ which. rank told ≤ rank which) (sym same) (omega arith)

-- how a name by itself breaks a rule
alone_breaks : {config : Config} {ast : Ast} {before : List Mention} {known : List Word} {name : Word} {which : NameKind} → Breaks config ast before (alone known name) which
    → (Contains known name → ⊥) × (which ≡ kind.UnknownVariable)
alone_breaks (member_twice is _) = cc is
alone_breaks (variable_twice is _) = cc is
alone_breaks (many_vars is _) = cc is
alone_breaks (unknown_alone unknown) = (unknown, refl)

-- a name by itself that is known is fine, and one that is not has this fault
pub alone_fine : {config : Config} {ast : Ast} {before : List Mention} {known : List Word} {name : Word} → ((Contains known name → ⊥) → ⊥) → IsFine config ast before (alone known name)
alone_fine there which broken = there (alone_breaks broken).0

pub alone_fault : {config : Config} {ast : Ast} {before : List Mention} {known : List Word} {name : Word} → (Contains known name → ⊥) → IsFault config ast before (alone known name) kind.UnknownVariable
alone_fault unknown = record { breaks = unknown_alone unknown; least = λ other broken. same_rank kind.UnknownVariable other (alone_breaks broken).1 }

-- how a name before a dot breaks a rule
dotted_breaks : {config : Config} {ast : Ast} {before : List Mention} {known : List Word} {name behind : Word} {which : NameKind} → Breaks config ast before (dotted known name behind) which
    → (Contains known name → ⊥) × (((IsClass ast name → ⊥) × (which ≡ kind.UnknownVariable))
    ⊎ (IsClass ast name × (Contains (all_statics ast.items) (record { class = name; field = behind }) → ⊥) × (which ≡ kind.UnknownRoot)))
dotted_breaks (member_twice is _) = cc is
dotted_breaks (variable_twice is _) = cc is
dotted_breaks (many_vars is _) = cc is
dotted_breaks (unknown_dotted unknown none) = (unknown, inl (none, refl))
dotted_breaks (no_static unknown there none) = (unknown, inr (there, none, refl))

-- how a name on which a method is called breaks a rule
called_breaks : {config : Config} {ast : Ast} {before : List Mention} {known : List Word} {name : Word} {which : NameKind} → Breaks config ast before (called known name) which
    → (Contains known name → ⊥) × (((IsClass ast name → ⊥) × (which ≡ kind.UnknownVariable)) ⊎ (IsClass ast name × (which ≡ kind.UnknownRoot)))
called_breaks (member_twice is _) = cc is
called_breaks (variable_twice is _) = cc is
called_breaks (many_vars is _) = cc is
called_breaks (unknown_called unknown none) = (unknown, inl (none, refl))
called_breaks (class_called unknown there) = (unknown, inr (there, refl))

-- how `this` breaks a rule
this_breaks : {config : Config} {ast : Ast} {before : List Mention} {which : NameKind} → Breaks config ast before this which → which ≡ kind.UnknownVariable
this_breaks (member_twice is _) = cc is
this_breaks (variable_twice is _) = cc is
this_breaks (many_vars is _) = cc is
this_breaks this_outside = refl

-- how the class of a new object breaks a rule
new_breaks : {config : Config} {ast : Ast} {before : List Mention} {name : Word} {which : NameKind} → Breaks config ast before (new name) which → (IsReachableClass ast name → ⊥) × (which ≡ kind.UnknownClass)
new_breaks (member_twice is _) = cc is
new_breaks (variable_twice is _) = cc is
new_breaks (many_vars is _) = cc is
new_breaks (no_class none) = (none, refl)

-- how the method of a call breaks a rule
call_breaks : {config : Config} {ast : Ast} {before : List Mention} {name : Word} {count : ℕ} {which : NameKind} → Breaks config ast before (call name count) which
    → ((HasMethod ast name → ⊥) × (which ≡ kind.UnknownMethod)) ⊎ (HasMethod ast name × (TakesArguments ast name count → ⊥) × (which ≡ kind.WrongArguments))
call_breaks (member_twice is _) = cc is
call_breaks (variable_twice is _) = cc is
call_breaks (many_vars is _) = cc is
call_breaks (no_method none) = inl (none, refl)
call_breaks (wrong_arguments some none) = inr (some, none, refl)

-- how a text literal breaks a rule
pub text_breaks : {config : Config} {ast : Ast} {before : List Mention} {content : Word} {which : NameKind} → Breaks config ast before (text content) which
    → (seen : List Word) × AreFirsts (reverse (in_text text_in before)) seen × (most_texts ≤ length seen) × (Contains seen content → ⊥) × (which ≡ kind.TooMany what.Texts)
text_breaks (member_twice is _) = cc is
text_breaks (variable_twice is _) = cc is
text_breaks (many_vars is _) = cc is
text_breaks (many_texts seen firsts many unseen) = (seen, firsts, many, unseen, refl)

-- how a variable breaks a rule
pub variable_breaks : {config : Config} {ast : Ast} {before : List Mention} {name : Word} {which : NameKind} → Breaks config ast before (variable name) which
    → (IsTaken ast before name × (which ≡ kind.Twice)) ⊎ ((most_vars ≤ length (in_text variable_in (in_body before))) × (which ≡ kind.TooMany what.Variables))
variable_breaks (member_twice is _) = cc is
variable_breaks {ast = ast} {before = before} {name = name} (variable_twice {name = other} is taken) = inl (subst (IsTaken ast before) (sym (same_Some name other is)) taken, refl)
variable_breaks (many_vars is many) = inr (many, refl)

-- how a parameter breaks a rule
pub parameter_breaks : {config : Config} {ast : Ast} {before : List Mention} {name : Word} {which : NameKind} → Breaks config ast before (parameter name) which
    → (IsTaken ast before name × (which ≡ kind.Twice)) ⊎ (((most_params ≤ length (in_text parameter_in (in_body before))) × (which ≡ kind.TooMany what.Parameters))
    ⊎ ((most_vars ≤ length (in_text variable_in (in_body before))) × (which ≡ kind.TooMany what.Variables)))
parameter_breaks (member_twice is _) = cc is
parameter_breaks {ast = ast} {before = before} {name = name} (variable_twice {name = other} is taken) = inl (subst (IsTaken ast before) (sym (same_Some name other is)) taken, refl)
parameter_breaks (many_params many) = inr (inl (many, refl))
parameter_breaks (many_vars is many) = inr (inr (many, refl))

-- how `synchronized` breaks a rule
pub synchronized_breaks : {config : Config} {ast : Ast} {before : List Mention} {class method : Word} {which : NameKind} → Breaks config ast before (synchronized class method) which
    → LastWith (λ entry. Matches entry.method class method) (autolocks_of config) None × (which ≡ kind.NoAutolock)
synchronized_breaks (member_twice is _) = cc is
synchronized_breaks (variable_twice is _) = cc is
synchronized_breaks (many_vars is _) = cc is
synchronized_breaks (no_autolock none) = (none, refl)

-- a name before a dot that is known, and a class with the static field, are fine
pub dotted_known : {config : Config} {ast : Ast} {before : List Mention} {known : List Word} {name behind : Word} → ((Contains known name → ⊥) → ⊥) → IsFine config ast before (dotted known name behind)
dotted_known there which broken = there (dotted_breaks broken).0

pub dotted_root : {config : Config} {ast : Ast} {before : List Mention} {known : List Word} {name behind : Word} → ((IsClass ast name → ⊥) → ⊥) → ((Contains (all_statics ast.items) (record { class = name; field = behind }) → ⊥) → ⊥)
    → IsFine config ast before (dotted known name behind)
dotted_root class_there root_there which broken = elim (dotted_breaks broken).1 [
  | inl none ↦ class_there none.0
  | inr some ↦ root_there some.1
]

-- a name before a dot that is no variable and no class; a class without the static field
pub dotted_unknown : {config : Config} {ast : Ast} {before : List Mention} {known : List Word} {name behind : Word} → (Contains known name → ⊥) → (IsClass ast name → ⊥) → IsFault config ast before (dotted known name behind) kind.UnknownVariable
dotted_unknown unknown none = record {
  breaks = unknown_dotted unknown none;
  least = λ other broken. elim (dotted_breaks broken).1 [
    | inl missing ↦ same_rank kind.UnknownVariable other missing.1
    | inr some ↦ absurd (none some.0)
  ];
}

pub dotted_no_static : {config : Config} {ast : Ast} {before : List Mention} {known : List Word} {name behind : Word} → (Contains known name → ⊥) → ((IsClass ast name → ⊥) → ⊥)
    → (Contains (all_statics ast.items) (record { class = name; field = behind }) → ⊥) → IsFault config ast before (dotted known name behind) kind.UnknownRoot
dotted_no_static {ast = ast} {name = name} unknown there none = record {
  breaks = no_static unknown (stable (class_names ast.items) name there) none;
  least = λ other broken. elim (dotted_breaks broken).1 [
    | inl missing ↦ absurd (there missing.0)
    | inr some ↦ same_rank kind.UnknownRoot other some.2
  ];
}

-- a name on which a method is called: a variable; no variable and no class; a class
pub called_fine : {config : Config} {ast : Ast} {before : List Mention} {known : List Word} {name : Word} → ((Contains known name → ⊥) → ⊥) → IsFine config ast before (called known name)
called_fine there which broken = there (called_breaks broken).0

pub called_unknown : {config : Config} {ast : Ast} {before : List Mention} {known : List Word} {name : Word} → (Contains known name → ⊥) → (IsClass ast name → ⊥) → IsFault config ast before (called known name) kind.UnknownVariable
called_unknown unknown none = record {
  breaks = unknown_called unknown none;
  least = λ other broken. elim (called_breaks broken).1 [
    | inl missing ↦ same_rank kind.UnknownVariable other missing.1
    | inr some ↦ absurd (none some.0)
  ];
}

pub called_class : {config : Config} {ast : Ast} {before : List Mention} {known : List Word} {name : Word} → (Contains known name → ⊥) → ((IsClass ast name → ⊥) → ⊥) → IsFault config ast before (called known name) kind.UnknownRoot
called_class {ast = ast} {name = name} unknown there = record {
  breaks = class_called unknown (stable (class_names ast.items) name there);
  least = λ other broken. elim (called_breaks broken).1 [
    | inl missing ↦ absurd (there missing.0)
    | inr some ↦ same_rank kind.UnknownRoot other some.1
  ];
}

-- `this` where it may not stand
pub this_fault : {config : Config} {ast : Ast} {before : List Mention} → IsFault config ast before this kind.UnknownVariable
this_fault = record { breaks = this_outside; least = λ other broken. same_rank kind.UnknownVariable other (this_breaks broken) }

-- the class of a new object is there, or is not
pub new_fine : {config : Config} {ast : Ast} {before : List Mention} {name : Word} → ((IsReachableClass ast name → ⊥) → ⊥) → IsFine config ast before (new name)
new_fine there which broken = there (new_breaks broken).0

pub new_fault : {config : Config} {ast : Ast} {before : List Mention} {name : Word} → (IsReachableClass ast name → ⊥) → IsFault config ast before (new name) kind.UnknownClass
new_fault none = record { breaks = no_class none; least = λ other broken. same_rank kind.UnknownClass other (new_breaks broken).1 }

-- some class has the method with so many arguments; none has it; none has it with so many
pub call_fine : {config : Config} {ast : Ast} {before : List Mention} {name : Word} {count : ℕ} → HasMethod ast name → ((TakesArguments ast name count → ⊥) → ⊥) → IsFine config ast before (call name count)
call_fine some takes which broken = elim (call_breaks broken) [
  | inl missing ↦ missing.0 some
  | inr wrong ↦ takes wrong.1
]

pub call_no_method : {config : Config} {ast : Ast} {before : List Mention} {name : Word} {count : ℕ} → (HasMethod ast name → ⊥) → IsFault config ast before (call name count) kind.UnknownMethod
call_no_method none = record {
  breaks = no_method none;
  least = λ other broken. elim (call_breaks broken) [
    | inl missing ↦ same_rank kind.UnknownMethod other missing.1
    | inr wrong ↦ absurd (none wrong.0)
  ];
}

pub call_wrong : {config : Config} {ast : Ast} {before : List Mention} {name : Word} {count : ℕ} → HasMethod ast name → (TakesArguments ast name count → ⊥) → IsFault config ast before (call name count) kind.WrongArguments
call_wrong some none = record {
  breaks = wrong_arguments some none;
  least = λ other broken. elim (call_breaks broken) [
    | inl missing ↦ absurd (missing.0 some)
    | inr wrong ↦ same_rank kind.WrongArguments other wrong.2
  ];
}

-- Which declarations of classes, members and threads break no rule, and which fault is told of one that does.
use Rattle.std.proofs.Common.{◌≡◌, ◌⊎◌, inl, inr, ◌≤◌, ℤ, List, length, Contains, None, refl, sym, subst, arith}
use Rattle.std.proofs.lemmas.Option.{same_Some}
use Rattle.dso_config.specs.declared.config.Config.{Config}
use Rattle.dso_syntax.specs.declared.tree.Ast.{Ast}
use Rattle.dso_class.specs.declared.fault.NameKind.{NameKind}
use Rattle.dso_class.specs.declared.fault.NameKind.TheVariants as kind
use Rattle.dso_class.specs.declared.fault.What.{What}
use Rattle.dso_class.specs.declared.fault.What.TheVariants as what
use Rattle.dso_config_entries.specs.Words.{Word, thread_word}
use Rattle.dso_config_entries.specs.LastAndFirst.{LastWith}
use Rattle.dso_class.specs.Limits.{most_classes, most_fields, most_statics, most_methods, most_threads}
use Rattle.dso_class.specs.Mentions.{Mention, Mentioned, class, field, static, method, root, synchronized, thread, client}
use Rattle.dso_class.specs.PrecedingMentions.{in_text, in_class, class_in, member_in, field_in, static_in, method_in}
use Rattle.dso_config_entries.specs.ConfigEntries.{Matches, IsRoot, autolocks_of}
use Rattle.dso_class.specs.Maps.{map_word}
use Rattle.dso_class.specs.NameFaults.{Breaks, IsClient, threads_before, rank, thread_class, map_class, class_twice, many_classes, member_twice, many_fields, many_statics, many_methods, no_root, no_autolock, many_threads, no_client, variable_twice, many_vars}
use Rattle.dso_class.specs.FaultsAmong.{IsFine, IsFault}

-- a fault is told before itself
same_rank : (told other : NameKind) → other ≡ told → rank told ≤ rank other
same_rank told other same = subst (λ which. rank told ≤ rank which) (sym same) (omega arith)

-- What is mentioned breaks a rule exactly where its name is taken or there is too much of its sort.
pub record IsDeclared (config : Config) (ast : Ast) (before : List Mention) (here : Mentioned) (Taken Full : Type 0) (sort : What) : Type 0 where
  pub breaks : (which : NameKind) → Breaks config ast before here which → (Taken × (which ≡ kind.Twice)) ⊎ (Full × (which ≡ kind.TooMany sort))
  pub twice : Taken → Breaks config ast before here kind.Twice
  pub many : Full → Breaks config ast before here (kind.TooMany sort)

-- What is mentioned breaks a rule exactly where it may not stand, and the fault is this.
pub record IsAllowed (config : Config) (ast : Ast) (before : List Mention) (here : Mentioned) (Refused : Type 0) (told : NameKind) : Type 0 where
  pub breaks : (which : NameKind) → Breaks config ast before here which → Refused × (which ≡ told)
  pub broken : Refused → Breaks config ast before here told

-- `Twice` is told before all that is too much
twice_first : (sort : What) → rank kind.Twice ≤ rank (kind.TooMany sort)
twice_first what.Classes = omega arith
twice_first what.Fields = omega arith
twice_first what.Statics = omega arith
twice_first what.Methods = omega arith
twice_first what.Parameters = omega arith
twice_first what.Variables = omega arith
twice_first what.Texts = omega arith
twice_first what.Threads = omega arith

module _ {config : Config} {ast : Ast} {before : List Mention} where
  -- what is declared is fine where its name is free and there is room, else one of the two is its fault
  pub declared_fine : {here : Mentioned} {Taken Full : Type 0} {sort : What} → IsDeclared config ast before here Taken Full sort → (Taken → ⊥) → (Full → ⊥) → IsFine config ast before here
  declared_fine rules free room which broken = elim (rules.breaks which broken) [
    | inl twice ↦ free twice.0
    | inr many ↦ room many.0
  ]

  pub declared_twice : {here : Mentioned} {Taken Full : Type 0} {sort : What} → IsDeclared config ast before here Taken Full sort → Taken → IsFault config ast before here kind.Twice
  declared_twice {sort = sort} rules taken = record {
    breaks = rules.twice taken;
    least = λ other broken. elim (rules.breaks other broken) [
      | inl twice ↦ same_rank kind.Twice other twice.1
      | inr many ↦ subst (λ which. rank kind.Twice ≤ rank which) (sym many.1) (twice_first sort)
    ];
  }

  pub declared_many : {here : Mentioned} {Taken Full : Type 0} {sort : What} → IsDeclared config ast before here Taken Full sort → (Taken → ⊥) → Full → IsFault config ast before here (kind.TooMany sort)
  declared_many {sort = sort} rules free full = record {
    breaks = rules.many full;
    least = λ other broken. elim (rules.breaks other broken) [
      | inl twice ↦ absurd (free twice.0)
      | inr many ↦ same_rank (kind.TooMany sort) other many.1
    ];
  }

  -- how the name of a class breaks a rule
  class_breaks : {name : Word} {which : NameKind} → Breaks config ast before (class name) which
      → (((name ≡ thread_word) ⊎ ((name ≡ map_word) ⊎ Contains (in_text class_in before) name)) × (which ≡ kind.Twice)) ⊎ ((most_classes ≤ length (in_text class_in before)) × (which ≡ kind.TooMany what.Classes))
  class_breaks (member_twice is _) = cc is
  class_breaks (variable_twice is _) = cc is
  class_breaks (many_vars is _) = cc is
  class_breaks thread_class = inl (inl refl, refl)
  class_breaks map_class = inl (inr (inl refl), refl)
  class_breaks (class_twice taken) = inl (inr (inr taken), refl)
  class_breaks (many_classes full) = inr (full, refl)

  class_taken : {name : Word} → (name ≡ thread_word) ⊎ ((name ≡ map_word) ⊎ Contains (in_text class_in before) name) → Breaks config ast before (class name) kind.Twice
  class_taken (inl is) = subst (λ word. Breaks config ast before (class word) kind.Twice) (sym is) thread_class
  class_taken (inr (inl is)) = subst (λ word. Breaks config ast before (class word) kind.Twice) (sym is) map_class
  class_taken (inr (inr taken)) = class_twice taken

  pub class_rules : (name : Word) → IsDeclared config ast before (class name) ((name ≡ thread_word) ⊎ ((name ≡ map_word) ⊎ Contains (in_text class_in before) name)) (most_classes ≤ length (in_text class_in before)) what.Classes
  class_rules name = record { breaks = λ which broken. class_breaks broken; twice = class_taken; many = many_classes }

  -- how the name of a field breaks a rule
  field_breaks : {name : Word} {which : NameKind} → Breaks config ast before (field name) which
      → (Contains (in_text member_in (in_class before)) name × (which ≡ kind.Twice)) ⊎ ((most_fields ≤ length (in_text field_in (in_class before))) × (which ≡ kind.TooMany what.Fields))
  field_breaks {name = name} (member_twice {name = other} is taken) = inl (subst (Contains (in_text member_in (in_class before))) (sym (same_Some name other is)) taken, refl)
  field_breaks (variable_twice is _) = cc is
  field_breaks (many_vars is _) = cc is
  field_breaks (many_fields full) = inr (full, refl)

  pub field_rules : (name : Word) → IsDeclared config ast before (field name) (Contains (in_text member_in (in_class before)) name) (most_fields ≤ length (in_text field_in (in_class before))) what.Fields
  field_rules name = record { breaks = λ which broken. field_breaks broken; twice = member_twice refl; many = many_fields }

  -- how the name of a static field breaks a rule
  static_breaks : {name : Word} {which : NameKind} → Breaks config ast before (static name) which
      → (Contains (in_text member_in (in_class before)) name × (which ≡ kind.Twice)) ⊎ ((most_statics ≤ length (in_text static_in before)) × (which ≡ kind.TooMany what.Statics))
  static_breaks {name = name} (member_twice {name = other} is taken) = inl (subst (Contains (in_text member_in (in_class before))) (sym (same_Some name other is)) taken, refl)
  static_breaks (variable_twice is _) = cc is
  static_breaks (many_vars is _) = cc is
  static_breaks (many_statics full) = inr (full, refl)

  pub static_rules : (name : Word) → IsDeclared config ast before (static name) (Contains (in_text member_in (in_class before)) name) (most_statics ≤ length (in_text static_in before)) what.Statics
  static_rules name = record { breaks = λ which broken. static_breaks broken; twice = member_twice refl; many = many_statics }

  -- how the name of a method breaks a rule
  method_breaks : {name : Word} {which : NameKind} → Breaks config ast before (method name) which
      → (Contains (in_text member_in (in_class before)) name × (which ≡ kind.Twice)) ⊎ ((most_methods ≤ length (in_text method_in (in_class before))) × (which ≡ kind.TooMany what.Methods))
  method_breaks {name = name} (member_twice {name = other} is taken) = inl (subst (Contains (in_text member_in (in_class before))) (sym (same_Some name other is)) taken, refl)
  method_breaks (variable_twice is _) = cc is
  method_breaks (many_vars is _) = cc is
  method_breaks (many_methods full) = inr (full, refl)

  pub method_rules : (name : Word) → IsDeclared config ast before (method name) (Contains (in_text member_in (in_class before)) name) (most_methods ≤ length (in_text method_in (in_class before))) what.Methods
  method_rules name = record { breaks = λ which broken. method_breaks broken; twice = member_twice refl; many = many_methods }

  pub allowed_fine : {here : Mentioned} {Refused : Type 0} {told : NameKind} → IsAllowed config ast before here Refused told → (Refused → ⊥) → IsFine config ast before here
  allowed_fine rules allowed which broken = allowed (rules.breaks which broken).0

  pub allowed_fault : {here : Mentioned} {Refused : Type 0} {told : NameKind} → IsAllowed config ast before here Refused told → Refused → IsFault config ast before here told
  allowed_fault {told = told} rules refused = record { breaks = rules.broken refused; least = λ other broken. same_rank told other (rules.breaks other broken).1 }

  -- how the word before a static field breaks a rule
  root_breaks : {class' name : Word} {which : NameKind} → Breaks config ast before (root class' name) which → (IsRoot config.roots class' name → ⊥) × (which ≡ kind.UnknownRoot)
  root_breaks (member_twice is _) = cc is
  root_breaks (variable_twice is _) = cc is
  root_breaks (many_vars is _) = cc is
  root_breaks (no_root none) = (none, refl)

  pub root_rules : (class' name : Word) → IsAllowed config ast before (root class' name) (IsRoot config.roots class' name → ⊥) kind.UnknownRoot
  root_rules class' name = record { breaks = λ which broken. root_breaks broken; broken = no_root }

  -- how the word before a method breaks a rule
  synchronized_breaks : {class' name : Word} {which : NameKind} → Breaks config ast before (synchronized class' name) which
      → LastWith (λ entry. Matches entry.method class' name) (autolocks_of config) None × (which ≡ kind.NoAutolock)
  synchronized_breaks (member_twice is _) = cc is
  synchronized_breaks (variable_twice is _) = cc is
  synchronized_breaks (many_vars is _) = cc is
  synchronized_breaks (no_autolock none) = (none, refl)

  pub synchronized_rules : (class' name : Word) → IsAllowed config ast before (synchronized class' name) (LastWith (λ entry. Matches entry.method class' name) (autolocks_of config) None) kind.NoAutolock
  synchronized_rules class' name = record { breaks = λ which broken. synchronized_breaks broken; broken = no_autolock }

  -- how the word before a thread breaks a rule
  thread_breaks : {number : ℤ} {which : NameKind} → Breaks config ast before (thread number) which → (most_threads ≤ threads_before before number) × (which ≡ kind.TooMany what.Threads)
  thread_breaks (member_twice is _) = cc is
  thread_breaks (variable_twice is _) = cc is
  thread_breaks (many_vars is _) = cc is
  thread_breaks (many_threads full) = (full, refl)

  pub thread_rules : (number : ℤ) → IsAllowed config ast before (thread number) (most_threads ≤ threads_before before number) (kind.TooMany what.Threads)
  thread_rules number = record { breaks = λ which broken. thread_breaks broken; broken = many_threads }

  -- how the number of a thread's client breaks a rule
  client_breaks : {number : ℤ} {which : NameKind} → Breaks config ast before (client number) which → (IsClient config number → ⊥) × (which ≡ kind.NoSuchClient)
  client_breaks (member_twice is _) = cc is
  client_breaks (variable_twice is _) = cc is
  client_breaks (many_vars is _) = cc is
  client_breaks (no_client none) = (none, refl)

  pub client_rules : (number : ℤ) → IsAllowed config ast before (client number) (IsClient config number → ⊥) kind.NoSuchClient
  client_rules number = record { breaks = λ which broken. client_breaks broken; broken = no_client }

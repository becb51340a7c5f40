-- The rules of names that are declared, by what was met before.
use Rattle.std.proofs.Common.{◌≡◌, inl, inr, subst, ℕ, ◌≤◌, arith, List, length, Contains, reverse}
use Rattle.std.proofs.lemmas.List.{length-map, length-reverse}
use Rattle.dso_config.specs.declared.config.Config.{Config}
use Rattle.dso_syntax.specs.declared.tree.Ast.{Ast}
use Rattle.dso_class.specs.declared.class_item.Resolved.{Resolved}
use Rattle.dso_class.specs.declared.fault.What.{What}
use Rattle.dso_class.specs.declared.fault.What.TheVariants as what
use Rattle.dso_class.specs.declared.member.Class.{Class}
use Rattle.dso_config_entries.specs.Words.{Word}
use Rattle.dso_config_entries.specs.BorrowedWords.{words_of}
use Rattle.dso_class.specs.Mentions.{Mention, Mentioned, class, field, static, method}
use Rattle.dso_class.specs.PrecedingMentions.{in_text, in_class, class_in, member_in}
use Rattle.dso_class.specs.TextWalk.{HasMetText, HasMetClass}
use Rattle.dso_class.specs.Heads.{IsClassTaken}
use Rattle.dso_class.proofs.rules.OfDeclarations.{IsDeclared, class_rules, field_rules, static_rules, method_rules}
use Rattle.dso_class.proofs.walks.MetItems.{turned_has, turned_had}

module _ {config : Config} {ast : Ast} {before : List Mention} where
  -- the same rules in other words
  pub same_rules : {here : Mentioned} {Taken Full T F : Type 0} {sort : What} → IsDeclared config ast before here Taken Full sort → (Taken → T) → (T → Taken) → (Full → F) → (F → Full) → IsDeclared config ast before here T F sort
  same_rules rules taken untaken full unfull = record {
    breaks = λ which broken. elim (rules.breaks which broken) [
      | inl twice ↦ inl (taken twice.0, twice.1)
      | inr many ↦ inr (full many.0, many.1)
    ];
    twice = λ t. rules.twice (untaken t);
    many = λ f. rules.many (unfull f);
  }

  -- a field, a static field, a method of a class: by the members and the counts that were met
  pub field_ruled : (name : Word) {class : Class} (count : ℕ) → HasMetClass before class → count ≡ length class.fields → IsDeclared config ast before (field name) (Contains (words_of class.members) name) (64 ≤ count) what.Fields
  field_ruled name {class} count met is =
      same_rules (field_rules name) (turned_has name (in_text member_in (in_class before)) (words_of class.members) met.members) (turned_had name (in_text member_in (in_class before)) (words_of class.members) met.members)
      (λ full. omega (arith, full, met.fields, is)) (λ full. omega (arith, full, met.fields, is))

  pub static_ruled : (name : Word) {class : Class} {resolved : Resolved} → HasMetClass before class → HasMetText before resolved
      → IsDeclared config ast before (static name) (Contains (words_of class.members) name) (16 ≤ resolved.statics) what.Statics
  static_ruled name {class} met text =
      same_rules (static_rules name) (turned_has name (in_text member_in (in_class before)) (words_of class.members) met.members) (turned_had name (in_text member_in (in_class before)) (words_of class.members) met.members)
      (λ full. omega (arith, full, text.statics)) (λ full. omega (arith, full, text.statics))

  pub method_ruled : (name : Word) {class : Class} → HasMetClass before class → IsDeclared config ast before (method name) (Contains (words_of class.members) name) (64 ≤ class.methods) what.Methods
  method_ruled name {class} met =
      same_rules (method_rules name) (turned_has name (in_text member_in (in_class before)) (words_of class.members) met.members) (turned_had name (in_text member_in (in_class before)) (words_of class.members) met.members)
      (λ full. omega (arith, full, met.methods)) (λ full. omega (arith, full, met.methods))

  -- a class, by the classes that were met
  pub class_ruled : (name : Word) {resolved : Resolved} → HasMetText before resolved → IsDeclared config ast before (class name) (IsClassTaken (words_of resolved.names) name) (64 ≤ length resolved.names) what.Classes
  class_ruled name {resolved} met =
      let all = in_text class_in before in
      let long : length (words_of resolved.names) ≡ length (reverse all) = subst (λ names. length (words_of resolved.names) ≡ length names) met.names (omega arith) in
      let there : length (words_of resolved.names) ≡ length resolved.names = length-map resolved.names (λ word. word.now) in
      same_rules (class_rules name)
      (λ taken. elim taken [
        | inl is ↦ inl is
        | inr (inl is) ↦ inr (inl is)
        | inr (inr has) ↦ inr (inr (turned_has name all (words_of resolved.names) met.names has))
      ])
      (λ taken. elim taken [
        | inl is ↦ inl is
        | inr (inl is) ↦ inr (inl is)
        | inr (inr has) ↦ inr (inr (turned_had name all (words_of resolved.names) met.names has))
      ])
      (λ full. omega (arith, full, long, there, length-reverse all)) (λ full. omega (arith, full, long, there, length-reverse all))

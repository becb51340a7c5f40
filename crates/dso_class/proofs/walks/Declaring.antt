-- Parameters, variables and `synchronized`, as the walk judges and numbers them.
use Rattle.std.proofs.Common.{◌≡◌, ◌↔◌, inl, inr, ℕ, ◌<◌, ◌≤◌, arith, Bool, true, false, IsTrue, if◌then◌else◌, List, [], ◌∷◌, ◌++◌, reverse, length, Contains, IsNone, Option, Some, None, Ok, refl, sym, subst, ap, ◌∙◌}
use Rattle.std.specs.Borrow.{Bor}
use Rattle.std.specs.List.{cons_option}
use Rattle.std.specs.Option.{is_some}
use Rattle.std.specs.Str.{bytes_eq}
use Rattle.std.proofs.lemmas.List.{length-append, length-reverse, map-append, reverse-append}
use Rattle.std.proofs.lemmas.List.Elements.{Contains-append_left}
use Rattle.std.proofs.lemmas.Slice.Eq.{bytes_eq-Decides}
use Rattle.dso_config.specs.declared.config.Config.{Config}
use Rattle.dso_syntax.specs.declared.tree.Ast.{Ast}
use Rattle.dso_class.specs.declared.fault.NameKind.{NameKind}
use Rattle.dso_class.specs.declared.fault.NameKind.TheVariants as kind
use Rattle.dso_class.specs.declared.fault.What.TheVariants as what
use Rattle.dso_config_entries.specs.Words.{Word, thread_word}
use Rattle.dso_config_entries.specs.BorrowedWords.{words_of}
use Rattle.dso_config_entries.specs.LastAndFirst.{AreFirsts}
use Rattle.dso_class.specs.Limits.{most_params, most_vars}
use Rattle.dso_config_entries.specs.FirstPlace.{place_of}
use Rattle.dso_class.specs.Mentions.{Mention, Mentioned, Owner, on, parameter, variable}
use Rattle.dso_class.specs.PrecedingMentions.{in_text, in_body, text_in, parameter_in, variable_in}
use Rattle.dso_class.specs.Declaring.{IsDeclared}
use Rattle.dso_class.specs.NameFaults.{IsClass, IsTaken, rank, variable_twice, many_params, many_vars}
use Rattle.dso_class.specs.FaultsAmong.{IsFault}
use Rattle.dso_class.specs.Numbers.{IsNumber}
use Rattle.dso_class.specs.TextProgram.{Source}
use Rattle.dso_class.specs.BodyWalk.{Met, HasMet, IsRight}
use Rattle.dso_class.proofs.rules.InBodies.{same_rank, variable_breaks, parameter_breaks}
use Rattle.dso_class.proofs.lists.Among.{in_reverse, of_reverse, not_none, number_stays, stable}
use Rattle.dso_config_entries.proofs.lists.BorrowedWords.{by_bytes, fresh_where}
use Rattle.dso_class.proofs.walks.Literals.{at_end}
use Rattle.dso_class.proofs.walks.BodyParts.{begins_same, in_body_more}

-- a fault is told before one of a greater rank
before_rank : (told other which : NameKind) → rank told ≤ rank which → other ≡ which → rank told ≤ rank other
before_rank told other which less is = subst (λ kind. rank told ≤ rank kind) (sym is) less

-- a variable whose name is taken
pub variable_taken : {config : Config} {ast : Ast} {before : List Mention} {name : Word} → IsTaken ast before name → IsFault config ast before (variable name) kind.Twice
variable_taken taken = record {
  breaks = variable_twice refl taken;
  least = λ other broken. elim (variable_breaks broken) [
    | inl twice ↦ same_rank kind.Twice other twice.1
    | inr many ↦ before_rank kind.Twice other (kind.TooMany what.Variables) (omega arith) many.1
  ];
}

-- a variable whose name is not taken
pub variable_free : {source : Source} {before : List Mention} {name : Word} → (IsTaken source.ast before name → ⊥) → IsDeclared source before (variable name) name
variable_free free = record {
  named = refl;
  no_text = refl;
  no_begin = refl;
  new = λ there. free (inr (inr there));
  only = λ which broken. elim (variable_breaks broken) [
    | inl twice ↦ absurd (free twice.0)
    | inr many ↦ many
  ];
}

-- a parameter whose name is taken
pub parameter_taken : {config : Config} {ast : Ast} {before : List Mention} {name : Word} → IsTaken ast before name → IsFault config ast before (parameter name) kind.Twice
parameter_taken taken = record {
  breaks = variable_twice refl taken;
  least = λ other broken. elim (parameter_breaks broken) [
    | inl twice ↦ same_rank kind.Twice other twice.1
    | inr (inl many) ↦ before_rank kind.Twice other (kind.TooMany what.Parameters) (omega arith) many.1
    | inr (inr many) ↦ before_rank kind.Twice other (kind.TooMany what.Variables) (omega arith) many.1
  ];
}

-- a parameter that is one too many
pub parameter_many : {config : Config} {ast : Ast} {before : List Mention} {name : Word} → (IsTaken ast before name → ⊥) → most_params ≤ length (in_text parameter_in (in_body before))
    → IsFault config ast before (parameter name) (kind.TooMany what.Parameters)
parameter_many free many = record {
  breaks = many_params many;
  least = λ other broken. elim (parameter_breaks broken) [
    | inl twice ↦ absurd (free twice.0)
    | inr (inl same) ↦ same_rank (kind.TooMany what.Parameters) other same.1
    | inr (inr later) ↦ before_rank (kind.TooMany what.Parameters) other (kind.TooMany what.Variables) (omega arith) later.1
  ];
}

-- a parameter whose name is not taken and that is not one too many
pub parameter_free : {source : Source} {before : List Mention} {name : Word} → (IsTaken source.ast before name → ⊥) → length (in_text parameter_in (in_body before)) < most_params
    → IsDeclared source before (parameter name) name
parameter_free {before = before} free few = record {
  named = refl;
  no_text = refl;
  no_begin = refl;
  new = λ there. free (inr (inr there));
  only = λ which broken. elim (parameter_breaks broken) [
    | inl twice ↦ absurd (free twice.0)
    | inr (inl many) ↦ absurd (omega (arith, few, many.0))
    | inr (inr many) ↦ many
  ];
}

-- as many variables are met as were mentioned
pub count_met : {before : List Mention} {old : Met} → HasMet before old → length old.variables ≡ length (in_text variable_in (in_body before))
count_met {before} has = ap length has.variables ∙ length-reverse (in_text variable_in (in_body before))

-- a name that was not mentioned is not met
pub new_met : {source : Source} {before : List Mention} {old : Met} {here : Mentioned} {name : Word} → HasMet before old → IsDeclared source before here name → Contains old.variables name → ⊥
new_met {before = before} {name = name} has declared there = declared.new (of_reverse (in_text variable_in (in_body before)) name (subst (λ all. Contains all name) has.variables there))

-- one variable too many has its fault
pub declared_many : {source : Source} {before : List Mention} {here : Mentioned} {name : Word} → IsDeclared source before here name → most_vars ≤ length (in_text variable_in (in_body before))
    → IsFault source.config source.ast before here (kind.TooMany what.Variables)
declared_many declared many = record {
  breaks = many_vars declared.named many;
  least = λ other broken. same_rank (kind.TooMany what.Variables) other (declared.only other broken).1;
}

-- a variable behind the others was met
pub declared_met : {source : Source} {before : List Mention} {old : Met} (line : ℕ) {here : Mentioned} {name : Word} → HasMet before old → IsDeclared source before here name → length old.variables < most_vars
    → HasMet (on line here ∷ before) (record { texts = old.texts; variables = old.variables ++ name ∷ []; known = old.known })
declared_met {before = before} {old = old} line {here} {name} has declared few =
    let mentioned = in_text variable_in (in_body before) in
    let more : in_text variable_in (in_body (on line here ∷ before)) ≡ name ∷ mentioned =
    ap (in_text variable_in) (in_body_more (on line here) before declared.no_begin) ∙ ap (λ own. cons_option own mentioned) declared.named in
    record {
      texts = record { firsts = subst (λ own. AreFirsts (reverse (cons_option own (in_text text_in before))) old.texts) (sym declared.no_text) has.texts.firsts; few = has.texts.few };
      variables = ap (λ all. all ++ name ∷ []) has.variables ∙ sym (ap reverse more ∙ reverse-append (name ∷ []) mentioned);
      few_variables = omega (arith, few, length-append old.variables (name ∷ []));
      known = λ word there. Contains-append_left old.variables (name ∷ []) word (has.known word there);
    }

-- a variable that is fine, with its number
pub declared_right : {source : Source} {owner : Owner} {before : List Mention} {old : Met} (line : ℕ) {here : Mentioned} {name : Word} (variables : List Word) (number : ℕ) → HasMet before old
    → IsDeclared source before here name → length old.variables < most_vars → variables ≡ old.variables ++ name ∷ [] → number ≡ length old.variables
    → IsRight source owner before (on line here ∷ []) old (record { texts = old.texts; variables = variables; known = old.known }) (λ n. IsNumber n.variables name number)
declared_right {before = before} {old = old} line {here} {name} variables number has declared few grown counts = record {
  fine = (λ which broken. absurd (omega (arith, few, count_met has, (declared.only which broken).0)), tt);
  met = subst (λ all. HasMet (on line here ∷ before) (record { texts = old.texts; variables = all; known = old.known })) (sym grown) (declared_met line has declared few);
  texts = begins_same old.texts;
  variables = record { rest = name ∷ []; is = grown };
  means = λ words grade goes. number_stays name number goes.variables
      (subst (λ all. IsNumber all name number) (sym grown) (subst (λ place. IsNumber (old.variables ++ name ∷ []) name place) (sym counts) (at_end old.variables name)));
}

-- a word that is put behind others, where it is new
pub grown_where : (is_fresh : Bool) (old new : List (Bor Word)) (word : Bor Word) → (Contains (words_of old) word.now → ⊥) → (IsTrue is_fresh ↔ (place_of by_bytes old word ≡ None))
    → new ≡ (if is_fresh then old ++ word ∷ [] else old) → words_of new ≡ words_of old ++ word.now ∷ []
grown_where true old new word none fresh is = ap words_of is ∙ map-append (λ w. w.now) old (word ∷ [])
grown_where false old new word none fresh is = cc ((fresh_where {E = Unit {0}} (Ok false) old word fresh).1 none)

-- a word is there where its place is found, and only there
pub found_word : (words : List Word) (word : Word) (place : Option ℕ) → (IsNone place ↔ (Contains words word → ⊥)) → is_some place ≡ true → Contains words word
found_word words word None tells some = cc some
found_word words word (Some number) tells some = stable words word (not_none number tells)

pub missing_word : (words : List Word) (word : Word) (place : Option ℕ) → (IsNone place ↔ (Contains words word → ⊥)) → is_some place ≡ false → Contains words word → ⊥
missing_word words word None tells none = tells.0 refl
missing_word words word (Some number) tells none = cc none

pub word_found : (words : List Word) (word : Word) (place : Option ℕ) → (IsNone place ↔ (Contains words word → ⊥)) → Contains words word → is_some place ≡ true
word_found words word None tells there = absurd (tells.0 refl there)
word_found words word (Some number) tells there = refl

-- the name is `Thread`
pub is_thread : (name slice : Word) (tells : Bool) → tells ≡ bytes_eq name slice → slice ≡ thread_word → IsTrue tells ↔ (name ≡ thread_word)
is_thread name slice tells is spelt =
    (λ same. (bytes_eq-Decides name slice).0 (sym is ∙ same) ∙ spelt, λ same. is ∙ (bytes_eq-Decides name slice).1 (same ∙ sym spelt))

-- a name that is neither `Thread` nor a class's is taken where a variable of the body has it
pub taken_by_variable : (ast : Ast) {before : List Mention} {old : Met} (name : Word) (place : Option ℕ) (tells : Bool) → HasMet before old → (name ≡ thread_word → ⊥) → (IsClass ast name → ⊥)
    → (IsNone place ↔ (Contains old.variables name → ⊥)) → tells ≡ is_some place → IsTrue tells ↔ IsTaken ast before name
taken_by_variable ast {before} {old} name place tells has no_thread no_class number is =
    let mentioned = in_text variable_in (in_body before) in (
      λ some. inr (inr (of_reverse mentioned name (subst (λ all. Contains all name) has.variables (found_word old.variables name place number (sym is ∙ some))))),
      λ taken. elim taken [
        | inl thread ↦ absurd (no_thread thread)
        | inr (inl class) ↦ absurd (no_class class)
        | inr (inr there) ↦ is ∙ word_found old.variables name place number (subst (λ all. Contains all name) (sym has.variables) (in_reverse mentioned name there))
      ],
    )

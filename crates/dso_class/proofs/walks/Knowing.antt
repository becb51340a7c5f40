-- Which names are known: a part of the walk may make variables known, and let names be unknown again.
use Rattle.std.proofs.Common.{◌≡◌, ◌↔◌, ◌⊎◌, inl, inr, ℕ, ◌+◌, ◌<◌, ◌≤◌, arith, List, [], ◌∷◌, ◌++◌, reverse, length, take, Contains, Option, Some, None, IsNone, Result, Ok, refl, sym, subst, ap, ◌∙◌, append_assoc}
use Rattle.std.specs.Borrow.{Bor}
use Rattle.std.specs.Option.{option_to_list}
use Rattle.std.proofs.Math.Seq.{take-append_seam}
use Rattle.std.proofs.lemmas.List.{take_all, take-map, take-append-le, length-map, length-append, reverse-append, reverse-reverse}
use Rattle.std.proofs.lemmas.List.Elements.{Contains-push, Contains-push_cases, Contains-append_left, Contains-append_cases}
use Rattle.dso_class.specs.declared.fault.NameFault.{NameFault}
use Rattle.dso_config_entries.specs.Words.{Word}
use Rattle.dso_config_entries.specs.BorrowedWords.{words_of}
use Rattle.dso_class.specs.Limits.{most_vars}
use Rattle.dso_class.specs.Mentions.{Mention, Owner, Step, on, variable}
use Rattle.dso_class.specs.PrecedingMentions.{in_text, in_body, variable_in}
use Rattle.dso_class.specs.FaultsAmong.{behind}
use Rattle.dso_class.specs.Numbers.{Numbers}
use Rattle.dso_class.specs.TextProgram.{Source}
use Rattle.dso_class.specs.StatementWalk.{known_after}
use Rattle.dso_class.specs.BodyWalk.{Begins, Met, HasMet, HasTexts, IsRight, IsWalked}
use Rattle.dso_class.proofs.lists.Among.{in_reverse}
use Rattle.dso_class.proofs.walks.BodyParts.{in_body_more}

-- a part of the walk where other names are known, which are the same
pub at_known : {A : Type 0} {source : Source} {owner : Owner} {before : List Mention} {old now : Met} {Means : Numbers → A → Type 0} {result : Result A NameFault} {known other : List Word}
    (mentions : List Word → List Mention) → known ≡ other → IsWalked source owner before (mentions known) old now Means result → IsWalked source owner before (mentions other) old now Means result
at_known {source = source} {owner} {before} {old} {now} {Means} {result} mentions same walked = subst (λ names. IsWalked source owner before (mentions names) old now Means result) same walked

-- what a list has, one that begins with it has
pub begins_contains : {xs ys : List Word} (name : Word) → Begins xs ys → Contains xs name → Contains ys name
begins_contains {xs} name begins there = subst (λ all. Contains all name) (sym begins.is) (Contains-append_left xs begins.rest name there)

-- a variable that was just declared is one of the variables
pub declared_there : {before : List Mention} {met : Met} (line : ℕ) (name : Word) → HasMet (on line (variable name) ∷ before) met → Contains met.variables name
declared_there {before} {met} line name has =
    let names = in_text variable_in (in_body before) in
    let all : met.variables ≡ reverse (name ∷ names) = has.variables ∙ ap (λ body. reverse (in_text variable_in body)) (in_body_more (on line (variable name)) before refl) in
    subst (λ words. Contains words name) (sym all) (in_reverse (name ∷ names) name (Contains-append_left (name ∷ []) names name (Contains-push [] name)))

-- a name that is known behind one more is that one, or was known
pub known_cases : (name : Word) (known : List Word) (other : Word) → Contains (name ∷ known) other → (name ≡ other) ⊎ Contains known other
known_cases name known other there = elim (Contains-append_cases (name ∷ []) known other there) [
  | inl one ↦ elim (Contains-push_cases [] name other one) [
    | inl nothing ↦ inr (Contains-append_left [] known other nothing)
    | inr same ↦ inl same
  ]
  | inr behind_it ↦ inr behind_it
]

-- what is right stays right where other variables are known
pub with_known : {source : Source} {owner : Owner} {before xs : List Mention} {old now : Met} {Means : Numbers → Type 0} (kept : Met) → kept.texts ≡ now.texts → kept.variables ≡ now.variables
    → ((name : Word) → Contains kept.known name → Contains now.variables name) → IsRight source owner before xs old now Means → IsRight source owner before xs old kept Means
with_known {source} {owner} {before} {xs} {old} {now} kept texts variables known right = record {
  fine = right.fine;
  met = record {
    texts = subst (λ all. HasTexts (behind before xs) all) (sym texts) right.met.texts;
    variables = variables ∙ right.met.variables;
    few_variables = subst (λ all. length all ≤ most_vars) (sym variables) right.met.few_variables;
    known = λ name there. subst (λ all. Contains all name) (sym variables) (known name there);
  };
  texts = subst (Begins old.texts) (sym texts) right.texts;
  variables = subst (Begins old.variables) (sym variables) right.variables;
  means = λ words grade goes. right.means words grade (record {
    no_fault = goes.no_fault;
    texts = subst (λ all. Begins all source.texts) texts goes.texts;
    variables = subst (λ all. Begins all words) variables goes.variables;
    autolock = goes.autolock;
  });
}

-- a part that declared a variable, when it is known
pub learnt : {A : Type 0} {source : Source} {owner : Owner} {before xs : List Mention} {old now : Met} {Means : Numbers → A → Type 0} {value : A} (name : Word) (kept : Met) → kept.texts ≡ now.texts
    → kept.variables ≡ now.variables → kept.known ≡ name ∷ now.known → Contains now.variables name
    → IsWalked source owner before xs old now Means (Ok value) → IsWalked source owner before xs old kept Means (Ok value)
learnt {now = now} name kept texts variables known there walked = record {
  answer = with_known kept texts variables (λ other among. elim (known_cases name now.known other (subst (λ all. Contains all other) known among)) [
    | inl same ↦ subst (Contains now.variables) same there
    | inr before_it ↦ walked.answer.met.known other before_it
  ]) walked.answer;
}

-- a part behind which only those names are known that were known before it
pub forgotten : {A : Type 0} {source : Source} {owner : Owner} {before xs : List Mention} {old now : Met} {Means : Numbers → A → Type 0} {value : A} (kept : Met) → kept.texts ≡ now.texts
    → kept.variables ≡ now.variables → kept.known ≡ old.known → HasMet before old
    → IsWalked source owner before xs old now Means (Ok value) → IsWalked source owner before xs old kept Means (Ok value)
forgotten kept texts variables known has walked = record {
  answer = with_known kept texts variables (λ name there. begins_contains name walked.answer.variables (has.known name (subst (λ all. Contains all name) known there))) walked.answer;
}

-- the names that statements make known, the latest first
front : List Step → List Word
front [] = []
front (a ∷ rest) = front rest ++ a.names

-- the names that are known behind statements are those and the ones that were
front_is : (steps : List Step) (known : List Word) → known_after steps known ≡ front steps ++ known
unfolding front
front_is [] known = refl
front_is (a ∷ rest) known = front_is rest (a.names ++ known) ∙ sym (append_assoc (front rest) a.names known)

-- behind statements the names that were known are still the first ones of the stack
pub stack_grows : (old now : List (Bor Word)) (steps : List Step) → reverse (words_of now) ≡ known_after steps (reverse (words_of old)) → Begins (words_of old) (words_of now)
stack_grows old now steps is = record {
  rest = reverse (front steps);
  is =
      sym (reverse-reverse (words_of now)) ∙ ap reverse (is ∙ front_is steps (reverse (words_of old)))
      ∙ reverse-append (front steps) (reverse (words_of old)) ∙ ap (λ words. words ++ reverse (front steps)) (reverse-reverse (words_of old));
}

-- a stack that begins with another is as high at least
pub stack_higher : (old now : List (Bor Word)) (height : ℕ) → height ≡ length old → Begins (words_of old) (words_of now) → height ≤ length now
stack_higher old now height is begins =
    let long : length now ≡ length old + length begins.rest =
    sym (length-map now (λ word. word.now)) ∙ ap length begins.is ∙ length-append (words_of old) begins.rest ∙ ap (λ n. n + length begins.rest) (length-map old (λ word. word.now)) in
    omega (arith, is, long)

-- and so many of them are those that were known
pub stack_back : (old now : List (Bor Word)) (height : ℕ) → height ≡ length old → Begins (words_of old) (words_of now) → words_of (take height now) ≡ words_of old
stack_back old now height is begins =
    sym (take-map (λ word. word.now) height now) ∙ ap (take height) begins.is
    ∙ ap (λ n. take n (words_of old ++ begins.rest)) (is ∙ sym (length-map old (λ word. word.now))) ∙ take-append_seam (words_of old) begins.rest

-- one name less on the stack
pub popped : {A : Type 0} (height counter : ℕ) (whole known now : List A) (last : Option A) → known ≡ now ++ option_to_list last → (IsNone last ↔ (known ≡ [])) → take height known ≡ take height whole
    → length known + counter ≡ length whole + height → counter < length whole → (take height now ≡ take height whole) × (length now + (counter + 1) ≡ length whole + height)
popped height counter whole known now None parts none same count below =
    let empty : length known ≡ 0 = ap length (none.0 refl) in
    absurd (omega (arith, empty, count, below))
popped height counter whole known now (Some x) parts none same count below =
    let long : length known ≡ length now + 1 = ap length parts ∙ length-append now (x ∷ []) in
    let within : height ≤ length now = omega (arith, long, count, below) in
    (sym (take-append-le height now (x ∷ []) within) ∙ ap (take height) (sym parts) ∙ same, omega (arith, long, count))

-- at last only the first names are left
pub all_popped : {A : Type 0} (height counter : ℕ) (whole now : List A) → take height now ≡ take height whole → length now + counter ≡ length whole + height → length whole ≤ counter → now ≡ take height whole
all_popped height counter whole now same count past = sym (take_all height now (omega (arith, count, past))) ∙ same

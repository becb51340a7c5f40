-- Bodies: their parameters one by one, all their variables, and the level at which they lock.
use Rattle.std.proofs.Common.{◌≡◌, ◌⊎◌, inl, inr, ℕ, ◌+◌, ◌<◌, ◌≤◌, arith, List, [], ◌∷◌, ◌++◌, map, reverse, take, drop, length, get_or, Contains, Option, Some, None, Result, Ok, Err, refl, sym, subst, ap, ◌∙◌, append-nil}
use Rattle.std.specs.Option.{option_map}
use Rattle.std.specs.declared.cmp.Ordering.{Ordering}
use Rattle.std.specs.declared.cmp.Ordering.TheVariants.{Less, Equal, Greater}
use Rattle.std.specs.Ordering.{nat_cmp}
use Rattle.std.specs.Cmp.{tied_itself}
use Rattle.std.specs.Cmp.Lexicographic.{slice_cmp, nat_list_cmp_total}
use Rattle.std.proofs.lemmas.List.{map-append, length-map, length-reverse, length-take-le, reverse-reverse, take-append-drop}
use Rattle.std.proofs.lemmas.List.Elements.{All-cons, All-nil}
use Rattle.std.proofs.lemmas.Map.Lookups.{exact_bytes}
use Rattle.dso_base.specs.declared.lock.Grade.{Grade}
use Rattle.dso_config.specs.declared.config.AutoEntry.{AutoEntry}
use Rattle.dso_config.specs.declared.config.Config.{Config}
use Rattle.dso_config.specs.declared.pattern.Pattern.{Pattern}
use Rattle.dso_config.specs.declared.pattern.Pattern.TheVariants as pattern
use Rattle.dso_syntax.specs.declared.tree.Ident.{Ident}
use Rattle.dso_syntax.specs.declared.tree.StmtTree.{StmtTree}
use Rattle.dso_class.specs.declared.body.Body.{Body}
use Rattle.dso_class.specs.declared.fault.NameFault.{NameFault}
use Rattle.dso_class.specs.declared.fault.NameFault.TheVariants as fault
use Rattle.dso_config_entries.specs.Words.{Word}
use Rattle.dso_config_entries.specs.LastAndFirst.{LastWith, last, nothing}
use Rattle.dso_config_entries.specs.ConfigEntries.{Matches, autolocks_of}
use Rattle.dso_class.specs.Limits.{most_texts, most_vars}
use Rattle.dso_class.specs.Mentions.{Mention, Owner, on, body, parameter}
use Rattle.dso_class.specs.PrecedingMentions.{in_text, in_body, begins_body, parameter_in, variable_in}
use Rattle.dso_class.specs.FaultsAmong.{behind}
use Rattle.dso_class.specs.TextProgram.{Source, IsAutolock, variables_of}
use Rattle.dso_class.specs.BodyWalk.{Begins, Met, HasMet, HasTexts, IsWalked}
use Rattle.dso_class.specs.TextWalk.{AnswersBody, IsBodyRight}
use Rattle.dso_class.specs.Numbers.{Numbers, MeansBlock}
use Rattle.dso_class.specs.Gathered.{capped}
use Rattle.dso_class.proofs.faultless.Counts.{text_reverse}
use Rattle.dso_class.proofs.mentions.Fine.{behind_reverse}
use Rattle.dso_class.proofs.walks.Knowing.{with_known}
use Rattle.dso_class.proofs.walks.Narrowing.{itself}
use Rattle.dso_class.proofs.walks.BodyParts.{begins_same}
use Rattle.dso_config_entries.proofs.lists.Last.{taken}
use Rattle.dso_class.proofs.mentions.OfClasses.{is_of_body, body_no_body, body_of_body, params_of_body}
use Rattle.dso_class.proofs.mentions.OnlyUses.{MentionsPass, part_grows}

-- the mention of a parameter
abbrev pub param : Ident → Mention
param name = on name.line (parameter name.name)

-- a body that just began has met nothing but text literals
pub begun : {before : List Mention} {texts : List Word} → in_body before ≡ [] → HasTexts before texts → HasMet before (record { texts = texts; variables = []; known = [] })
begun {before} fresh texts = record {
  texts = texts;
  variables = ap (λ all. reverse (in_text variable_in all)) (sym fresh);
  few_variables = omega arith;
  known = λ name there. there;
}

-- what was mentioned in a body that began there, from the last to the first
in_body_all : (ms before : List Mention) → in_body before ≡ [] → MentionsPass is_of_body ms → in_body (behind before ms) ≡ reverse ms
in_body_all ms before fresh each =
    part_grows begins_body is_of_body body_no_body ms before each ∙ ap (λ all. behind all ms) fresh ∙ behind_reverse [] ms ∙ append-nil (reverse ms)

-- so its variables are those that it mentions
pub all_variables : (ms before : List Mention) → in_body before ≡ [] → MentionsPass is_of_body ms → reverse (in_text variable_in (in_body (behind before ms))) ≡ in_text variable_in ms
all_variables ms before fresh each = ap (λ all. reverse (in_text variable_in all)) (in_body_all ms before fresh each) ∙ text_reverse variable_in ms

-- the variables that were met of a whole body
pub body_variables : (owner : Owner) (params : List Ident) (trees : List StmtTree) (before : List Mention) {met : Met} → in_body before ≡ [] → HasMet (behind before (body owner params trees)) met
    → met.variables ≡ variables_of owner params trees
body_variables owner params trees before fresh has = has.variables ∙ all_variables (body owner params trees) before fresh (body_of_body owner params trees)

-- the names of parameters are variables and parameters of the body
params_vary : (params : List Ident) → in_text variable_in (map param params) ≡ map (λ name. name.name) params
params_vary [] = refl
params_vary (name ∷ rest) = ap (λ all. name.name ∷ all) (params_vary rest)

params_are : (params : List Ident) → in_text parameter_in (map param params) ≡ map (λ name. name.name) params
params_are [] = refl
params_are (name ∷ rest) = ap (λ all. name.name ∷ all) (params_are rest)

-- the variables that were met of parameters
pub param_variables : (params : List Ident) (before : List Mention) {met : Met} → in_body before ≡ [] → HasMet (behind before (map param params)) met → met.variables ≡ map (λ name. name.name) params
param_variables params before fresh has = has.variables ∙ all_variables (map param params) before fresh (params_of_body params) ∙ params_vary params

-- how many parameters were mentioned
pub params_counted : (params : List Ident) (before : List Mention) → in_body before ≡ [] → length (in_text parameter_in (in_body (behind before (map param params)))) ≡ length params
params_counted params before fresh =
    let all : reverse (in_text parameter_in (in_body (behind before (map param params)))) ≡ map (λ name. name.name) params =
    ap (λ all. reverse (in_text parameter_in all)) (in_body_all (map param params) before fresh (params_of_body params)) ∙ text_reverse parameter_in (map param params) ∙ params_are params in
    ap length (sym (reverse-reverse (in_text parameter_in (in_body (behind before (map param params))))) ∙ ap reverse all)
    ∙ length-reverse (map (λ name. name.name) params) ∙ length-map params (λ name. name.name)

-- one more parameter is mentioned
pub param_more : (params : List Ident) (i : ℕ) (name : Ident) → i < length params → name ≡ get_or params i name → map param (take (i + 1) params) ≡ map param (take i params) ++ param name ∷ []
param_more params i name below is = ap (map param) (taken params i name below is) ∙ map-append param (take i params) (name ∷ [])

-- words are the same or not
same_or : (x y : Word) → (x ≡ y) ⊎ (x ≡ y → ⊥)
same_or x y = by (slice_cmp nat_cmp x y) refl
  where
    differ : (r : Ordering) → slice_cmp nat_cmp x y ≡ r → (r ≡ Equal → ⊥) → x ≡ y → ⊥
    differ r e other same = other (sym e ∙ ap (slice_cmp nat_cmp x) (sym same) ∙ tied_itself nat_list_cmp_total x)

    by : (r : Ordering) → slice_cmp nat_cmp x y ≡ r → (x ≡ y) ⊎ (x ≡ y → ⊥)
    by Equal e = inl (exact_bytes x y e)
    by Less e = inr (differ Less e (λ is. cc is))
    by Greater e = inr (differ Greater e (λ is. cc is))

-- a pattern is for a method or not
matches_or : (one : Pattern) (class method : Word) → Matches one class method ⊎ (Matches one class method → ⊥)
matches_or pattern.All class method = inl tt
matches_or (pattern.Class named) class method = same_or named class
matches_or (pattern.Method named wanted) class method = elim (same_or named class) [
  | inl same ↦ elim (same_or wanted method) [
    | inl alike ↦ inl (same, alike)
    | inr differs ↦ inr (λ both. differs both.1)
  ]
  | inr differs ↦ inr (λ both. differs both.0)
]

-- the last item of a kind, behind one more item
last_behind : {A : Type 0} (P : A → Type 0) (x : A) (xs : List A) (item : Option A) → LastWith P xs item → P x ⊎ (P x → ⊥) → (other : Option A) × LastWith P (x ∷ xs) other
last_behind P x _ _ (last before after y holds later) which = (Some y, last (x ∷ before) after y holds later)
last_behind P x xs _ (nothing none) (inl holds) = (Some x, last [] xs x holds none)
last_behind P x xs _ (nothing none) (inr fails) = (None, nothing (All-cons (λ y. P y → ⊥) x xs fails none))

-- the last entry for a method, or none
last_entry : (class method : Word) (xs : List AutoEntry) → (item : Option AutoEntry) × LastWith (λ entry. Matches entry.method class method) xs item
last_entry class method [] = (None, nothing (All-nil (λ entry. Matches entry.method class method → ⊥)))
last_entry class method (entry ∷ rest) =
    let found = last_entry class method rest in
    last_behind (λ entry. Matches entry.method class method) entry rest found.0 found.1 (matches_or entry.method class method)

-- there is a level at which a method locks, or none
pub autolock_there : (config : Config) (class method : Word) → (grade : Option Grade) × IsAutolock config class method grade
autolock_there config class method =
    let found = last_entry class method (autolocks_of config) in
    (option_map (λ entry. entry.grade) found.0, record { item = found.0; last = found.1; is = refl })

-- the first parameters stand before the others
pub params_part : (params : List Ident) (i : ℕ) → map param params ≡ map param (take i params) ++ map param (drop i params)
params_part params i = ap (map param) (sym (take-append-drop i params)) ∙ map-append param (take i params) (drop i params)

-- how many parameters were mentioned when so many were judged
pub judged_counted : (params : List Ident) (i : ℕ) (before : List Mention) → in_body before ≡ [] → i < length params → length (in_text parameter_in (in_body (behind before (map param (take i params))))) ≡ i
judged_counted params i before fresh below = params_counted (take i params) before fresh ∙ length-take-le i params (omega (arith, below))

-- a body that fails answers so
pub body_fails : {A : Type 0} {source : Source} {owner : Owner} {before : List Mention} {old now : Met} {Both : Numbers → A → Type 0} {result : Result Body NameFault} (params : List Ident) (trees : List StmtTree)
    (texts later : List Word) (refused : NameFault) → result ≡ Err refused → IsWalked source owner before (body owner params trees) old now Both (Err refused) → AnswersBody source owner before params trees texts later result
body_fails {source = source} {owner} {before} params trees texts later (fault.At which line) told walked = subst (AnswersBody source owner before params trees texts later) (sym told) walked.answer
body_fails {source = source} {owner} {before} params trees texts later (fault.NoMemory refusal) told walked = subst (AnswersBody source owner before params trees texts later) (sym told) tt

-- a body whose statements were walked to its end is right
pub body_right : {source : Source} {owner : Owner} {before : List Mention} {old now : Met} (params : List Ident) (trees : List StmtTree) (given : Body) → in_body before ≡ [] → given.vars ≡ length now.variables
    → IsWalked source owner before (body owner params trees) old now (λ n all. MeansBlock n trees all) (Ok given.statements) → IsBodyRight source owner before params trees old.texts now.texts given
body_right {source} {owner} {before} {old} {now} params trees given fresh vars walked =
    let are : now.variables ≡ variables_of owner params trees = body_variables owner params trees before fresh walked.answer.met in
    let level = autolock_there source.config owner.class owner.method in
    record {
      fine = walked.answer.fine;
      texts = walked.answer.met.texts;
      grown = walked.answer.texts;
      means = λ goes. record {
        grade = level.0;
        autolock = level.1;
        all_vars = vars ∙ ap length are;
        means = walked.answer.means (variables_of owner params trees) level.0 (record {
          no_fault = goes.no_fault;
          texts = goes.begins;
          variables = subst (Begins now.variables) are (begins_same now.variables);
          autolock = level.1;
        });
      };
    }

-- parameters that were judged, when they are known
pub params_known : {source : Source} {owner : Owner} {before : List Mention} {old now : Met} (params : List Ident) (kept : Met) → in_body before ≡ [] → kept.texts ≡ now.texts → kept.variables ≡ now.variables
    → kept.known ≡ map (λ name. name.name) params → IsWalked source owner before (map param params) old now (λ n a. Unit {0}) (Ok (tt {0})) → IsWalked source owner before (map param params) old kept (λ n a. Unit {0}) (Ok (tt {0}))
params_known {before = before} params kept fresh texts variables known walked = record {
  answer = with_known kept texts variables
      (λ name there. subst (λ all. Contains all name) (known ∙ sym (param_variables params before fresh walked.answer.met)) there) walked.answer;
}

-- the number of variables fits
pub variables_fit : (words : List Word) (count given : ℕ) → length words ≤ most_vars → count ≡ length words → given ≡ capped count → given ≡ length words
variables_fit words count given few counts narrowed = itself count given (subst (λ n. n < most_texts) (sym counts) (omega (arith, few))) narrowed ∙ counts

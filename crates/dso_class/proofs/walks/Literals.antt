-- Text literals as the walk judges and numbers them.
use Rattle.std.proofs.Common.{◌≡◌, ℕ, ◌<◌, ◌≤◌, arith, append-nil, List, [], ◌∷◌, ◌++◌, reverse, length, Contains, slice_get, Some, refl, sym, subst, ap, ◌∙◌}
use Rattle.std.proofs.lemmas.List.{reverse-append, reverse-reverse}
use Rattle.dso_config.specs.declared.config.Config.{Config}
use Rattle.dso_syntax.specs.declared.tree.Ast.{Ast}
use Rattle.dso_class.specs.declared.fault.NameKind.TheVariants as kind
use Rattle.dso_class.specs.declared.fault.What.TheVariants as what
use Rattle.dso_config_entries.specs.Words.{Word}
use Rattle.dso_config_entries.specs.LastAndFirst.{AreFirsts, empty, again, fresh}
use Rattle.dso_class.specs.Limits.{most_texts}
use Rattle.dso_class.specs.Mentions.{Mention, Owner, on, text}
use Rattle.dso_class.specs.PrecedingMentions.{in_text, text_in, variable_in}
use Rattle.dso_class.specs.NameFaults.{many_texts}
use Rattle.dso_class.specs.FaultsAmong.{IsFine, IsFault}
use Rattle.dso_class.specs.Numbers.{IsNumber}
use Rattle.dso_class.specs.TextProgram.{Source}
use Rattle.dso_class.specs.BodyWalk.{Begins, Met, HasMet, IsRight}
use Rattle.dso_class.proofs.rules.InBodies.{text_breaks, same_rank}
use Rattle.dso_class.proofs.lists.Among.{number_stays}
use Rattle.dso_class.proofs.walks.BodyParts.{in_body_more}

-- a list with a last item is not empty, and two such lists are the same in their parts
not_snoc : (xs : List Word) (x : Word) → ◌≡◌ {A = List Word} [] (xs ++ x ∷ []) → ⊥
not_snoc [] x is = cc is
not_snoc (y ∷ xs) x is = cc is

same_snoc : (xs ys : List Word) (x y : Word) → xs ++ x ∷ [] ≡ ys ++ y ∷ [] → (xs ≡ ys) × (x ≡ y)
same_snoc xs ys x y is =
    let turned : ◌≡◌ {A = List Word} (x ∷ reverse xs) (y ∷ reverse ys) = sym (reverse-append xs (x ∷ [])) ∙ ap reverse is ∙ reverse-append ys (y ∷ []) in
    let rest : reverse xs ≡ reverse ys = cc turned in
    let last : x ≡ y = cc turned in
    (sym (reverse-reverse xs) ∙ ap reverse rest ∙ reverse-reverse ys, last)

-- the first ones of a list are one list
pub unique : {xs ys a b : List Word} → AreFirsts xs a → AreFirsts ys b → xs ≡ ys → a ≡ b
unique empty empty is = refl
unique empty (again {xs = ys} {x = y} before there) is = absurd (not_snoc ys y is)
unique empty (fresh {xs = ys} {x = y} before new) is = absurd (not_snoc ys y is)
unique (again {xs = xs} {x = x} before there) empty is = absurd (not_snoc xs x (sym is))
unique (fresh {xs = xs} {x = x} before new) empty is = absurd (not_snoc xs x (sym is))
unique (again {xs = xs} {x = x} before there) (again {xs = ys} {x = y} other that) is = unique before other (same_snoc xs ys x y is).0
unique (again {xs = xs} {firsts = a} {x = x} before there) (fresh {xs = ys} {firsts = b} {x = y} other new) is =
    let parts = same_snoc xs ys x y is in
    absurd (new (subst (Contains b) parts.1 (subst (λ all. Contains all x) (unique before other parts.0) there)))
unique (fresh {xs = xs} {firsts = a} {x = x} before new) (again {xs = ys} {firsts = b} {x = y} other that) is =
    let parts = same_snoc xs ys x y is in
    absurd (new (subst (Contains a) (sym parts.1) (subst (λ all. Contains all y) (sym (unique before other parts.0)) that)))
unique (fresh {xs = xs} {x = x} before new) (fresh {xs = ys} {firsts = b} {x = y} other that) is =
    let parts = same_snoc xs ys x y is in
    ap (λ all. all ++ x ∷ []) (unique before other parts.0) ∙ ap (λ last. b ++ last ∷ []) parts.1

-- the last item of a list stands at the length of the others
pub at_end : (xs : List Word) (x : Word) → slice_get (xs ++ x ∷ []) (length xs) ≡ Some x
at_end [] x = refl
at_end (y ∷ xs) x = at_end xs x

-- a text literal that was met is fine, and so is one where few were met
pub text_met : {config : Config} {ast : Ast} {before : List Mention} {content : Word} {texts : List Word} → AreFirsts (reverse (in_text text_in before)) texts → Contains texts content → IsFine config ast before (text content)
text_met {content = content} firsts there which broken =
    let told = text_breaks broken in
    told.3 (subst (λ all. Contains all content) (unique firsts told.1 refl) there)

pub text_few : {config : Config} {ast : Ast} {before : List Mention} {content : Word} {texts : List Word} → AreFirsts (reverse (in_text text_in before)) texts → length texts < most_texts → IsFine config ast before (text content)
text_few {texts = texts} firsts few which broken =
    let told = text_breaks broken in
    let many : most_texts ≤ length texts = subst (λ all. most_texts ≤ length all) (sym (unique firsts told.1 refl)) told.2 in
    absurd (omega (arith, many, few))

-- one too many has its fault
pub text_fault : {config : Config} {ast : Ast} {before : List Mention} {content : Word} {texts : List Word} → AreFirsts (reverse (in_text text_in before)) texts → most_texts ≤ length texts → (Contains texts content → ⊥)
    → IsFault config ast before (text content) (kind.TooMany what.Texts)
text_fault {texts = texts} firsts many new = record { breaks = many_texts texts firsts many new; least = λ other broken. same_rank (kind.TooMany what.Texts) other (text_breaks broken).4 }

-- a text literal that is fine, with the texts behind it and its number
pub text_right : {source : Source} {owner : Owner} {before : List Mention} {old : Met} (line : ℕ) (content : Word) (texts : List Word) (number : ℕ) → HasMet before old → length texts ≤ most_texts
    → AreFirsts (reverse (in_text text_in before) ++ content ∷ []) texts → IsFine source.config source.ast before (text content) → Begins old.texts texts → IsNumber texts content number
    → IsRight source owner before (on line (text content) ∷ []) old (record { texts = texts; variables = old.variables; known = old.known }) (λ n. IsNumber n.texts content number)
text_right {before = before} {old = old} line content texts number has few firsts fine begins is_number = record {
  fine = (fine, tt);
  met = record {
    texts = record { firsts = subst (λ all. AreFirsts all texts) (sym (reverse-append (content ∷ []) (in_text text_in before))) firsts; few = few };
    variables = has.variables ∙ ap reverse (sym (ap (in_text variable_in) (in_body_more (on line (text content)) before refl)));
    few_variables = has.few_variables;
    known = has.known;
  };
  texts = begins;
  variables = record { rest = []; is = sym (append-nil old.variables) };
  means = λ words grade goes. number_stays content number goes.texts is_number;
}

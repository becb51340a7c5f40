-- A class in numbers: its name, and its members behind it.
use Rattle.std.proofs.Common.{◌≡◌, refl, sym, ap, ◌∙◌, subst, ℕ, ◌+◌, ◌<◌, ◌≤◌, arith, List, [], ◌∷◌, ◌++◌, length, reverse, flat_map, append-nil}
use Rattle.std.proofs.lemmas.List.{length-map, length_push}
use Rattle.std.specs.Borrow.{Bor}
use Rattle.std.specs.List.{AllZip}
use Rattle.dso_base.specs.declared.shape.ClassShape.{ClassShape}
use Rattle.dso_syntax.specs.declared.tree.Ident.{Ident}
use Rattle.dso_syntax.specs.declared.tree.Item.TheVariants as item
use Rattle.dso_syntax.specs.declared.tree.Member.{Member}
use Rattle.dso_class.specs.declared.class_item.Resolved.{Resolved}
use Rattle.dso_class.specs.declared.fault.NameFault.{NameFault}
use Rattle.dso_class.specs.declared.fault.What.TheVariants as what
use Rattle.dso_class.specs.declared.member.Class.{Class}
use Rattle.dso_config_entries.specs.Words.{Word}
use Rattle.dso_config_entries.specs.BorrowedWords.{words_of}
use Rattle.dso_class.specs.Mentions.{Mention, on, of_item, of_member}
use Rattle.dso_class.specs.Mentions as mention
use Rattle.dso_class.specs.PrecedingMentions.{in_text, class_in, member_in, field_in, method_in, begins_class}
use Rattle.dso_class.specs.Declarations.{ClassTree, methods_of, fields_of}
use Rattle.dso_class.specs.FaultsAmong.{IsFine}
use Rattle.dso_class.specs.TextProgram.{Source, AreCounted, IsClass, IsField, IsMethod, IsThread}
use Rattle.dso_class.specs.BodyWalk.{Begins}
use Rattle.dso_class.specs.Heads.{IsClassTaken, IsRefused}
use Rattle.dso_class.specs.TextWalk.{IsToldOf, HasMetText, HasMetClass, AreMembersRight, AreItemsRight}
use Rattle.dso_class.proofs.rules.OfDeclarations.{declared_fine}
use Rattle.dso_class.proofs.rules.ComposingItems.{told_front, told_behind, told_refused}
use Rattle.dso_class.proofs.walks.MemberItems.{zip_append, none_behind}
use Rattle.dso_class.proofs.walks.MetItems.{turned_more}
use Rattle.dso_class.proofs.mentions.OnlyUses.{part_begins}
use Rattle.dso_class.proofs.rules.MetBefore.{class_ruled}

-- the mention of a class's name
abbrev pub named_on : Ident → Mention
named_on name = on name.line (mention.class name.name)

-- a name more is one more
pub one_name_more : (old new : List (Bor Word)) (name : Word) → words_of new ≡ words_of old ++ name ∷ [] → length new ≡ length old + 1
one_name_more old new name named =
    let now : length (words_of new) ≡ length (words_of old) + 1 = ap length named ∙ length_push (words_of old) name in
    omega (arith, now, length-map old (λ word. word.now), length-map new (λ word. word.now))

-- the name of a class is met, and by the class nothing yet
pub text_met_class : (before : List Mention) (name : Ident) {resolved : Resolved} (names : List (Bor Word)) → HasMetText before resolved → words_of names ≡ words_of resolved.names ++ name.name ∷ []
    → HasMetText (named_on name ∷ before) (record resolved { names = names })
text_met_class before name {resolved} names met named = record {
  names = turned_more name.name (in_text class_in before) (name.name ∷ in_text class_in before) (words_of resolved.names) (words_of names) refl met.names named;
  statics = met.statics;
  texts = record { firsts = met.texts.firsts; few = met.texts.few };
  threads = met.threads;
}

pub class_met_nothing : (before : List Mention) (name : Ident) (class : Class) → class.members ≡ [] → class.fields ≡ [] → class.methods ≡ 0 → HasMetClass (named_on name ∷ before) class
class_met_nothing before name class no_member no_field no_method =
    let empty = part_begins begins_class (named_on name) before refl in
    record {
      members = ap words_of no_member ∙ ap (λ part. reverse (in_text member_in part)) (sym empty);
      fields = ap length no_field ∙ ap (λ part. length (in_text field_in part)) (sym empty);
      methods = no_method ∙ ap (λ part. length (in_text method_in part)) (sym empty);
    }

-- the name of a class that is refused
pub told_of_name : (source : Source) (before : List Mention) (line : ℕ) (name : Ident) (members : List Member) {resolved : Resolved} (e : NameFault) → HasMetText before resolved
    → IsRefused (IsClassTaken (words_of resolved.names) name.name) (64 ≤ length resolved.names) what.Classes name.line e → IsToldOf source before (of_item (item.Class line name members)) e
told_of_name source before line name members e met refused =
    told_front source before (named_on name ∷ []) (flat_map (of_member name.name) members) e (told_refused source before name.line (mention.class name.name) e (class_ruled name.name met) refused)

-- the name of a class that isn't
pub name_fine : (source : Source) (before : List Mention) (name : Ident) {resolved : Resolved} → HasMetText before resolved → (IsClassTaken (words_of resolved.names) name.name → ⊥) → length resolved.names < 64
    → IsFine source.config source.ast before (mention.class name.name)
name_fine source before name met free few = declared_fine (class_ruled name.name met) free (λ full. omega (arith, few, full))

-- what is told of the members
pub told_of_members : (source : Source) (before : List Mention) (line : ℕ) (name : Ident) (members : List Member) (e : NameFault) → IsFine source.config source.ast before (mention.class name.name)
    → IsToldOf source (named_on name ∷ before) (flat_map (of_member name.name) members) e → IsToldOf source before (of_item (item.Class line name members)) e
told_of_members source before line name members e fine told = told_behind source before (named_on name ∷ []) (flat_map (of_member name.name) members) e (fine, tt) told

-- a class is there in numbers
pub class_right : (source : Source) (before : List Mention) (line : ℕ) (name : Ident) (members : List Member) (old named walked : Resolved) (class now : Class) (classes : List ClassShape)
    → named ≡ record old { names = named.names } → words_of named.names ≡ words_of old.names ++ name.name ∷ [] → class.name.now ≡ name.name → class.number ≡ length old.names → class.fields ≡ []
    → IsFine source.config source.ast before (mention.class name.name)
    → AreMembersRight source (named_on name ∷ before) (flat_map (of_member name.name) members) members named walked class now
    → classes ≡ walked.classes ++ record { fields = now.fields } ∷ []
    → AreItemsRight source before (of_item (item.Class line name members)) (item.Class line name members ∷ []) old (record walked { classes = classes })
class_right source before line name members old named walked class now classes kept named_more spelt number no_field fine right pushed =
    let tree : ClassTree = record { name = name.name; members = members } in
    let shape : ClassShape = record { fields = now.fields } in
    let new : Resolved = record walked { classes = classes } in
    record {
      fine = (fine, right.fine);
      met = record { names = right.met.names; statics = right.met.statics; texts = right.met.texts; threads = right.met.threads };
      grown = subst (λ texts. Begins (words_of texts) (words_of walked.texts)) (ap (λ r. r.texts) kept) right.grown;
      counted = λ counts. subst AreCounted (sym (right.bodies ∙ ap (λ r. r.bodies) kept)) counts;
      more = ap length right.names ∙ one_name_more old.names named.names name.name named_more;
      means = λ goes.
          let adds = right.means goes in
          let fields : AllZip (IsField source name.name) (fields_of members) now.fields =
          subst (λ word. AllZip (IsField source word) (fields_of members) now.fields) spelt (adds.fields [] (subst (λ shapes. AllZip (IsField source class.name.now) [] shapes) (sym no_field) tt)) in
          record {
            classes = λ trees all.
                subst (λ shapes. AllZip (IsClass source) (trees ++ tree ∷ []) shapes) (sym (pushed ∙ ap (λ shapes. shapes ++ shape ∷ []) (right.classes ∙ ap (λ r. r.classes) kept)))
                (zip_append (IsClass source) trees old.classes (tree ∷ []) (shape ∷ []) all (record { fields = fields }, tt));
            methods = λ trees all.
                subst (λ more. AllZip (IsMethod source) (trees ++ more) walked.methods) (sym (append-nil (methods_of (length old.names) name.name members)))
                (subst (λ word. AllZip (IsMethod source) (trees ++ methods_of (length old.names) word members) walked.methods) spelt
                (subst (λ n. AllZip (IsMethod source) (trees ++ methods_of n class.name.now members) walked.methods) number
                (adds.methods trees (subst (λ methods. AllZip (IsMethod source) trees methods) (sym (ap (λ r. r.methods) kept)) all))));
            threads = λ trees all.
                none_behind (IsThread source) trees walked.bodies (subst (λ bodies. AllZip (IsThread source) trees bodies) (sym (right.bodies ∙ ap (λ r. r.bodies) kept)) all);
          };
    }

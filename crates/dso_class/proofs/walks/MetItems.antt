-- What was met of the mentions before, as one mention more is met.
use Rattle.std.proofs.Common.{◌≡◌, refl, sym, ap, ◌∙◌, subst, ℕ, ◌+◌, arith, false, List, [], ◌∷◌, ◌++◌, reverse, length, Contains, Option}
use Rattle.std.specs.Borrow.{Bor}
use Rattle.std.specs.List.{cons_option}
use Rattle.std.proofs.lemmas.List.{reverse-append, length_push}
use Rattle.std.proofs.lemmas.List.Sorted.{IsPermutation-reverse, IsPermutation-sym, Contains-permutation}
use Rattle.dso_base.specs.declared.shape.FieldShape.{FieldShape}
use Rattle.dso_class.specs.declared.class_item.Resolved.{Resolved}
use Rattle.dso_class.specs.declared.member.Class.{Class}
use Rattle.dso_config_entries.specs.Words.{Word}
use Rattle.dso_config_entries.specs.BorrowedWords.{words_of}
use Rattle.dso_config_entries.specs.LastAndFirst.{AreFirsts}
use Rattle.dso_class.specs.Mentions.{Mention, Mentioned, on, field, static, method, root, synchronized}
use Rattle.dso_class.specs.PrecedingMentions.{in_text, in_class, class_in, static_in, thread_in, text_in, member_in, field_in, method_in, begins_class}
use Rattle.dso_class.specs.TextWalk.{HasMetText, HasMetClass}
use Rattle.dso_class.proofs.mentions.OnlyUses.{part_goes_on}

-- what was mentioned of a sort in a class, with one mention more
pub class_more : {A : Type 0} (sort : Mentioned → Option A) (m : Mention) (before : List Mention) → begins_class m.what ≡ false → in_text sort (in_class (m ∷ before)) ≡ cons_option (sort m.what) (in_text sort (in_class before))
class_more sort m before goes = ap (in_text sort) (part_goes_on begins_class m before goes)

-- one thing more, behind those that were there
pub turned_more : {A : Type 0} (x : A) (xs now old new : List A) → now ≡ x ∷ xs → old ≡ reverse xs → new ≡ old ++ x ∷ [] → new ≡ reverse now
turned_more x xs now old new more was is = is ∙ ap (λ front. front ++ x ∷ []) was ∙ sym (reverse-append (x ∷ []) xs) ∙ ap reverse (sym more)

-- one thing more is counted
pub counted_more : {A : Type 0} (x : A) (xs now : List A) (old new : ℕ) → now ≡ x ∷ xs → old ≡ length xs → new ≡ old + 1 → new ≡ length now
counted_more x xs now old new more was is = let longer : length now ≡ length (x ∷ xs) = ap length more in omega (arith, was, is, longer)

-- what was turned has what was there
pub turned_has : {A : Type 0} (x : A) (xs ys : List A) → ys ≡ reverse xs → Contains xs x → Contains ys x
turned_has x xs ys is there = subst (λ zs. Contains zs x) (sym is) (Contains-permutation xs (reverse xs) x (IsPermutation-reverse xs) there)

pub turned_had : {A : Type 0} (x : A) (xs ys : List A) → ys ≡ reverse xs → Contains ys x → Contains xs x
turned_had x xs ys is there = Contains-permutation (reverse xs) xs x (IsPermutation-sym xs (reverse xs) (IsPermutation-reverse xs)) (subst (λ zs. Contains zs x) is there)

-- the same is met behind other mentions with the same classes, static fields, text literals and threads
pub text_met : {before now : List Mention} {resolved : Resolved} → HasMetText before resolved → in_text class_in now ≡ in_text class_in before → in_text static_in now ≡ in_text static_in before
    → in_text text_in now ≡ in_text text_in before → in_text thread_in now ≡ in_text thread_in before → HasMetText now resolved
text_met {resolved = resolved} met classes statics texts threads = record {
  names = met.names ∙ ap reverse (sym classes);
  statics = met.statics ∙ ap length (sym statics);
  texts = record { firsts = subst (λ found. AreFirsts (reverse found) (words_of resolved.texts)) (sym texts) met.texts.firsts; few = met.texts.few };
  threads = met.threads ∙ ap reverse (sym threads);
}

module _ (before : List Mention) where
  -- a field is met, by the text and by its class
  pub text_met_field : (line : ℕ) (name : Word) {resolved : Resolved} → HasMetText before resolved → HasMetText (on line (field name) ∷ before) resolved
  text_met_field line name met = text_met met refl refl refl refl

  pub class_met_field : (line : ℕ) (name : Word) {class : Class} (members : List (Bor Word)) (fields : List FieldShape) (shape : FieldShape) → HasMetClass before class
      → words_of members ≡ words_of class.members ++ name ∷ [] → fields ≡ class.fields ++ shape ∷ [] → HasMetClass (on line (field name) ∷ before) (record class { members = members; fields = fields })
  class_met_field line name {class} members fields shape met named pushed =
      let m = on line (field name) in
      let longer : length fields ≡ length class.fields + 1 = ap length pushed ∙ length_push class.fields shape in
      record {
        members = turned_more name (in_text member_in (in_class before)) (in_text member_in (in_class (m ∷ before))) (words_of class.members) (words_of members) (class_more member_in m before refl) met.members named;
        fields = counted_more name (in_text field_in (in_class before)) (in_text field_in (in_class (m ∷ before))) (length class.fields) (length fields) (class_more field_in m before refl) met.fields longer;
        methods = met.methods ∙ ap length (sym (class_more method_in m before refl));
      }

  -- the word before a static field is met, and its name
  pub text_met_root : (line : ℕ) (class name : Word) {resolved : Resolved} → HasMetText before resolved → HasMetText (on line (root class name) ∷ before) resolved
  text_met_root line class name met = text_met met refl refl refl refl

  pub class_met_root : (line : ℕ) (word name : Word) {class : Class} → HasMetClass before class → HasMetClass (on line (root word name) ∷ before) class
  class_met_root line word name met =
      let m = on line (root word name) in
      record {
        members = met.members ∙ ap reverse (sym (class_more member_in m before refl));
        fields = met.fields ∙ ap length (sym (class_more field_in m before refl));
        methods = met.methods ∙ ap length (sym (class_more method_in m before refl));
      }

  pub text_met_static : (line : ℕ) (name : Word) {resolved : Resolved} (statics : ℕ) → HasMetText before resolved → statics ≡ resolved.statics + 1 → HasMetText (on line (static name) ∷ before) (record resolved { statics = statics })
  text_met_static line name {resolved} statics met more =
      record { names = met.names; statics = counted_more name (in_text static_in before) (name ∷ in_text static_in before) resolved.statics statics refl met.statics more; texts = record { firsts = met.texts.firsts; few = met.texts.few }; threads = met.threads }

  pub class_met_static : (line : ℕ) (name : Word) {class : Class} (members : List (Bor Word)) → HasMetClass before class → words_of members ≡ words_of class.members ++ name ∷ []
      → HasMetClass (on line (static name) ∷ before) (record class { members = members })
  class_met_static line name {class} members met named =
      let m = on line (static name) in
      record {
        members = turned_more name (in_text member_in (in_class before)) (in_text member_in (in_class (m ∷ before))) (words_of class.members) (words_of members) (class_more member_in m before refl) met.members named;
        fields = met.fields ∙ ap length (sym (class_more field_in m before refl));
        methods = met.methods ∙ ap length (sym (class_more method_in m before refl));
      }

  -- the word before a method is met, and its name
  pub text_met_synchronized : (line : ℕ) (class name : Word) {resolved : Resolved} → HasMetText before resolved → HasMetText (on line (synchronized class name) ∷ before) resolved
  text_met_synchronized line class name met = text_met met refl refl refl refl

  pub class_met_synchronized : (line : ℕ) (word name : Word) {class : Class} → HasMetClass before class → HasMetClass (on line (synchronized word name) ∷ before) class
  class_met_synchronized line word name met =
      let m = on line (synchronized word name) in
      record {
        members = met.members ∙ ap reverse (sym (class_more member_in m before refl));
        fields = met.fields ∙ ap length (sym (class_more field_in m before refl));
        methods = met.methods ∙ ap length (sym (class_more method_in m before refl));
      }

  pub text_met_method : (line : ℕ) (name : Word) {resolved : Resolved} → HasMetText before resolved → HasMetText (on line (method name) ∷ before) resolved
  text_met_method line name met = text_met met refl refl refl refl

  pub class_met_method : (line : ℕ) (name : Word) {class : Class} (members : List (Bor Word)) (methods : ℕ) → HasMetClass before class → words_of members ≡ words_of class.members ++ name ∷ [] → methods ≡ class.methods + 1
      → HasMetClass (on line (method name) ∷ before) (record class { members = members; methods = methods })
  class_met_method line name {class} members methods met named more =
      let m = on line (method name) in
      record {
        members = turned_more name (in_text member_in (in_class before)) (in_text member_in (in_class (m ∷ before))) (words_of class.members) (words_of members) (class_more member_in m before refl) met.members named;
        fields = met.fields ∙ ap length (sym (class_more field_in m before refl));
        methods = counted_more name (in_text method_in (in_class before)) (in_text method_in (in_class (m ∷ before))) class.methods methods (class_more method_in m before refl) met.methods more;
      }

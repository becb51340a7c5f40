-- How walks over members, and over classes and threads, go on.
use Rattle.std.proofs.Common.{◌≡◌, refl, sym, ap, ◌∙◌, subst, ℕ, ◌+◌, ◌<◌, ◌≤◌, suc, arith, ℤ, List, [], ◌∷◌, ◌++◌, take, drop, get_or, length, flat_map, Result, Ok, Err, append_assoc, append-nil, take-append-drop}
use Rattle.std.proofs.lemmas.Grind.{flat_map-append}
use Rattle.std.proofs.lemmas.List.{take_all, length-append}
use Rattle.std.specs.List.{AllZip}
use Rattle.dso_syntax.specs.declared.tree.Item.{Item}
use Rattle.dso_syntax.specs.declared.tree.Item.TheVariants as item
use Rattle.dso_syntax.specs.declared.tree.Member.{Member}
use Rattle.dso_syntax.specs.declared.tree.StmtTree.{StmtTree}
use Rattle.dso_class.specs.declared.class_item.Resolved.{Resolved}
use Rattle.dso_class.specs.declared.class_item.Setting.{Setting}
use Rattle.dso_class.specs.declared.fault.NameFault.{NameFault}
use Rattle.dso_class.specs.declared.member.Class.{Class}
use Rattle.dso_config_entries.specs.Words.{Word}
use Rattle.dso_config_entries.specs.BorrowedWords.{words_of}
use Rattle.dso_class.specs.Mentions.{Mention, of_item, of_member}
use Rattle.dso_class.proofs.gathering.Items.{fields_append, methods_append}
use Rattle.dso_class.specs.Declarations.{ClassTree, ThreadTree, classes_of, fields_of, methods_of, methods_from, threads_of}
use Rattle.dso_class.specs.FaultsAmong.{behind, AreFine}
use Rattle.dso_class.specs.TextProgram.{Source, IsClass, IsField, IsMethod, IsThread}
use Rattle.dso_class.specs.BodyWalk.{Begins}
use Rattle.dso_class.specs.TextWalk.{GoesOnFrom, IsToldOf, IsSetting, HasMetText, HasMetClass, AddsItems, AddsMembers, AreItemsRight, AreMembersRight, WalksItems, WalksMembers}
use Rattle.dso_class.proofs.gathering.ClassNames.{classes_append}
use Rattle.dso_class.proofs.mentions.Fine.{behind_append, fine_both}
use Rattle.dso_class.proofs.rules.ComposingItems.{told_front, told_behind}
use Rattle.dso_config_entries.proofs.lists.Last.{taken}

-- a list that begins with a list begins with what that begins with
pub begins_both : {A : Type 0} (xs ys zs : List A) → Begins xs ys → Begins ys zs → Begins xs zs
begins_both xs ys zs one other = record { rest = one.rest ++ other.rest; is = other.is ∙ ap (λ front. front ++ other.rest) one.is ∙ append_assoc xs one.rest other.rest }

-- what goes on from texts goes on from those with which they begin
pub goes_on_earlier : (source : Source) (old new : List Word) → Begins old new → GoesOnFrom source new → GoesOnFrom source old
goes_on_earlier source old new begins goes = record { no_fault = goes.no_fault; begins = begins_both old new source.texts begins goes.begins }

-- a list is its front, the item that is next, and the rest
pub front_and_rest : {A : Type 0} (xs : List A) (i : ℕ) (x : A) → i < length xs → x ≡ get_or xs i x → xs ≡ take i xs ++ x ∷ drop (i + 1) xs
front_and_rest xs i x below is =
    sym (take-append-drop (i + 1) xs) ∙ ap (λ front. front ++ drop (i + 1) xs) (taken xs i x below is) ∙ append_assoc (take i xs) (x ∷ []) (drop (i + 1) xs)

-- what an item's mentions tell, behind a front that is fine, is told of the whole
pub told_within : {A : Type 0} (source : Source) (before : List Mention) (f : A → List Mention) (xs : List A) (i : ℕ) (x : A) (e : NameFault) → i < length xs → x ≡ get_or xs i x
    → AreFine source.config source.ast before (flat_map f (take i xs)) → IsToldOf source (behind before (flat_map f (take i xs))) (f x) e → IsToldOf source before (flat_map f xs) e
told_within source before f xs i x e below is fine told =
    let front = take i xs in
    let rest = drop (i + 1) xs in
    let whole : flat_map f xs ≡ flat_map f front ++ (f x ++ flat_map f rest) = ap (flat_map f) (front_and_rest xs i x below is) ∙ flat_map-append f front (x ∷ rest) in
    subst (λ ms. IsToldOf source before ms e) (sym whole)
    (told_behind source before (flat_map f front) (f x ++ flat_map f rest) e fine (told_front source (behind before (flat_map f front)) (f x) (flat_map f rest) e told))

-- the mentions of a front with one item more
pub mentions_more : {A : Type 0} (f : A → List Mention) (xs : List A) (i : ℕ) (x : A) → i < length xs → x ≡ get_or xs i x → flat_map f (take (i + 1) xs) ≡ flat_map f (take i xs) ++ f x
mentions_more f xs i x below is =
    ap (flat_map f) (taken xs i x below is) ∙ flat_map-append f (take i xs) (x ∷ []) ∙ ap (λ last. flat_map f (take i xs) ++ last) (append-nil (f x))

-- members behind members are there
pub members_both : (source : Source) (before ms more : List Mention) (xs ys : List Member) (old mid new : Resolved) (class between now : Class)
    → AreMembersRight source before ms xs old mid class between → AreMembersRight source (behind before ms) more ys mid new between now
    → AreMembersRight source before (ms ++ more) (xs ++ ys) old new class now
members_both source before ms more xs ys old mid new class between now one other =
    let word = class.name.now in
    let all = AllZip (IsField source word) in
    record {
      fine = fine_both source.config source.ast before ms more one.fine other.fine;
      met = subst (λ later. HasMetText later new) (sym (behind_append before ms more)) other.met;
      class_met = subst (λ later. HasMetClass later now) (sym (behind_append before ms more)) other.class_met;
      grown = begins_both (words_of old.texts) (words_of mid.texts) (words_of new.texts) one.grown other.grown;
      name = other.name ∙ one.name;
      number = other.number ∙ one.number;
      names = other.names ∙ one.names;
      classes = other.classes ∙ one.classes;
      bodies = other.bodies ∙ one.bodies;
      means = λ goes.
          let first = one.means (goes_on_earlier source (words_of mid.texts) (words_of new.texts) other.grown goes) in
          let further : AddsMembers source word class.number ys mid new between now =
          subst (λ (name : Word). AddsMembers source name class.number ys mid new between now) one.name
          (subst (λ (number : ℕ). AddsMembers source between.name.now number ys mid new between now) one.number (other.means goes)) in
          record {
            fields = λ trees both.
                subst (λ zs. AllZip (IsField source word) zs now.fields) (append_assoc trees (fields_of xs) (fields_of ys) ∙ ap (λ zs. trees ++ zs) (sym (fields_append xs ys)))
                (further.fields (trees ++ fields_of xs) (first.fields trees both));
            methods = λ trees both.
                subst (λ zs. AllZip (IsMethod source) zs new.methods)
                (append_assoc trees (methods_of class.number word xs) (methods_of class.number word ys) ∙ ap (λ zs. trees ++ zs) (sym (methods_append class.number word xs ys)))
                (further.methods (trees ++ methods_of class.number word xs) (first.methods trees both));
          };
    }

-- no member yet
pub members_none : (setting : Setting) (members : List Member) (resolved : Resolved) (class : Class) → WalksMembers setting (λ name. flat_map (of_member name) (take 0 members)) (take 0 members) resolved resolved class class (Ok tt)
members_none setting members resolved class source before set met class_met = record {
  fine = tt;
  met = met;
  class_met = class_met;
  grown = record { rest = []; is = sym (append-nil (words_of resolved.texts)) };
  name = refl;
  number = refl;
  names = refl;
  classes = refl;
  bodies = refl;
  means = λ goes. record {
    fields = λ trees both. subst (λ zs. AllZip (IsField source class.name.now) zs class.fields) (sym (append-nil trees)) both;
    methods = λ trees both. subst (λ zs. AllZip (IsMethod source) zs resolved.methods) (sym (append-nil trees)) both;
  };
}

module _ (setting : Setting) (members : List Member) (i : ℕ) (one : Member) (old mid new : Resolved) (class between now : Class) (below : i < length members) (is : one ≡ get_or members i one)
    (so_far : WalksMembers setting (λ name. flat_map (of_member name) (take i members)) (take i members) old mid class between (Ok tt)) where
  -- one member more
  pub members_more : WalksMembers setting (λ name. of_member name one) (one ∷ []) mid new between now (Ok tt)
      → WalksMembers setting (λ name. flat_map (of_member name) (take (i + 1) members)) (take (i + 1) members) old new class now (Ok tt)
  members_more next source before set met class_met =
      let f = of_member class.name.now in
      let ms = flat_map f (take i members) in
      let front = so_far source before set met class_met in
      let last : AreMembersRight source (behind before ms) (f one) (one ∷ []) mid new between now =
      subst (λ name. AreMembersRight source (behind before ms) (of_member name one) (one ∷ []) mid new between now) front.name (next source (behind before ms) set front.met front.class_met) in
      subst (λ all. AreMembersRight source before all (take (i + 1) members) old new class now) (sym (mentions_more f members i one below is))
      (subst (λ all. AreMembersRight source before (ms ++ f one) all old new class now) (sym (taken members i one below is))
      (members_both source before ms (f one) (take i members) (one ∷ []) old mid new class between now front last))

  -- a member that is faulty, or for which there was no memory
  pub members_end : (e : NameFault) → WalksMembers setting (λ name. of_member name one) (one ∷ []) mid new between now (Err e)
      → (source : Source) (before : List Mention) → IsSetting source setting → HasMetText before old → HasMetClass before class → IsToldOf source before (flat_map (of_member class.name.now) members) e
  members_end e next source before set met class_met =
      let f = of_member class.name.now in
      let ms = flat_map f (take i members) in
      let front = so_far source before set met class_met in
      told_within source before f members i one e below is front.fine
      (subst (λ name. IsToldOf source (behind before ms) (of_member name one) e) front.name (next source (behind before ms) set front.met front.class_met))

-- all members
pub members_all : (setting : Setting) (members : List Member) (i : ℕ) (old new : Resolved) (class now : Class) → length members ≤ i
    → WalksMembers setting (λ name. flat_map (of_member name) (take i members)) (take i members) old new class now (Ok tt) → WalksMembers setting (λ name. flat_map (of_member name) members) members old new class now (Ok tt)
members_all setting members i old new class now all so_far =
    subst (λ xs. WalksMembers setting (λ name. flat_map (of_member name) xs) xs old new class now (Ok tt)) (take_all i members all) so_far

-- the methods and the threads of two lists of items, and how many classes there are
pub methods_from_append : (number : ℕ) (xs ys : List ClassTree) → methods_from number (xs ++ ys) ≡ methods_from number xs ++ methods_from (number + length xs) ys
methods_from_append number [] ys = let none : number ≡ number + 0 = omega arith in ap (λ n. methods_from n ys) none
methods_from_append number (x ∷ xs) ys =
    let next : suc number + length xs ≡ number + suc (length xs) = omega arith in
    ap (λ all. methods_of number x.name x.members ++ all) (methods_from_append (suc number) xs ys ∙ ap (λ n. methods_from (suc number) xs ++ methods_from n ys) next)
    ∙ sym (append_assoc (methods_of number x.name x.members) (methods_from (suc number) xs) (methods_from (number + suc (length xs)) ys))

pub threads_append : (xs ys : List Item) → threads_of (xs ++ ys) ≡ threads_of xs ++ threads_of ys
threads_append [] ys = refl
threads_append (item.Class line name members ∷ rest) ys = threads_append rest ys
threads_append (item.Thread line number number_line statements ∷ rest) ys = ap (λ (all : List ThreadTree). record { client = number; statements = statements } ∷ all) (threads_append rest ys)

-- items behind items are there
pub items_both : (source : Source) (before ms more : List Mention) (xs ys : List Item) (old mid new : Resolved)
    → AreItemsRight source before ms xs old mid → AreItemsRight source (behind before ms) more ys mid new → AreItemsRight source before (ms ++ more) (xs ++ ys) old new
items_both source before ms more xs ys old mid new one other =
    let first = classes_of xs in
    let second = classes_of ys in
    let number = length old.names in
    record {
      fine = fine_both source.config source.ast before ms more one.fine other.fine;
      met = subst (λ later. HasMetText later new) (sym (behind_append before ms more)) other.met;
      grown = begins_both (words_of old.texts) (words_of mid.texts) (words_of new.texts) one.grown other.grown;
      counted = λ counts. other.counted (one.counted counts);
      more =
          let both : length (classes_of (xs ++ ys)) ≡ length first + length second = ap length (classes_append xs ys) ∙ length-append first second in
          omega (arith, one.more, other.more, both);
      means = λ goes.
          let front = one.means (goes_on_earlier source (words_of mid.texts) (words_of new.texts) other.grown goes) in
          let rest : AddsItems source (number + length first) ys mid new = subst (λ (n : ℕ). AddsItems source n ys mid new) one.more (other.means goes) in
          record {
            classes = λ trees both.
                subst (λ zs. AllZip (IsClass source) zs new.classes) (append_assoc trees first second ∙ ap (λ zs. trees ++ zs) (sym (classes_append xs ys)))
                (rest.classes (trees ++ first) (front.classes trees both));
            methods = λ trees both.
                subst (λ zs. AllZip (IsMethod source) zs new.methods)
                (append_assoc trees (methods_from number first) (methods_from (number + length first) second)
                ∙ ap (λ zs. trees ++ zs) (sym (ap (methods_from number) (classes_append xs ys) ∙ methods_from_append number first second)))
                (rest.methods (trees ++ methods_from number first) (front.methods trees both));
            threads = λ trees both.
                subst (λ zs. AllZip (IsThread source) zs new.bodies) (append_assoc trees (threads_of xs) (threads_of ys) ∙ ap (λ zs. trees ++ zs) (sym (threads_append xs ys)))
                (rest.threads (trees ++ threads_of xs) (front.threads trees both));
          };
    }

module _ (setting : Setting) (items : List Item) (i : ℕ) (one : Item) (old mid new : Resolved) (below : i < length items) (is : one ≡ get_or items i one)
    (so_far : WalksItems setting (flat_map of_item (take i items)) (take i items) old mid (Ok tt)) where
  -- one item more
  pub items_more : WalksItems setting (of_item one) (one ∷ []) mid new (Ok tt) → WalksItems setting (flat_map of_item (take (i + 1) items)) (take (i + 1) items) old new (Ok tt)
  items_more next source before set met =
      let ms = flat_map of_item (take i items) in
      let front = so_far source before set met in
      subst (λ all. AreItemsRight source before all (take (i + 1) items) old new) (sym (mentions_more of_item items i one below is))
      (subst (λ all. AreItemsRight source before (ms ++ of_item one) all old new) (sym (taken items i one below is))
      (items_both source before ms (of_item one) (take i items) (one ∷ []) old mid new front (next source (behind before ms) set front.met)))

  -- an item that is faulty, or for which there was no memory
  pub items_end : (e : NameFault) → WalksItems setting (of_item one) (one ∷ []) mid new (Err e)
      → (source : Source) (before : List Mention) → IsSetting source setting → HasMetText before old → IsToldOf source before (flat_map of_item items) e
  items_end e next source before set met =
      let front = so_far source before set met in
      told_within source before of_item items i one e below is front.fine (next source (behind before (flat_map of_item (take i items))) set front.met)

-- all items
pub items_all : (setting : Setting) (items : List Item) (i : ℕ) (old new : Resolved) → length items ≤ i
    → WalksItems setting (flat_map of_item (take i items)) (take i items) old new (Ok tt) → WalksItems setting (flat_map of_item items) items old new (Ok tt)
items_all setting items i old new all so_far = subst (λ xs. WalksItems setting (flat_map of_item xs) xs old new (Ok tt)) (take_all i items all) so_far

-- a walk over an item is that over the same item
pub same_item : (setting : Setting) (old new : Resolved) (result : Result (Unit {0}) NameFault) (one other : Item) → one ≡ other → WalksItems setting (of_item other) (other ∷ []) old new result → WalksItems setting (of_item one) (one ∷ []) old new result
same_item setting old new result one other is walks = subst (λ x. WalksItems setting (of_item x) (x ∷ []) old new result) (sym is) walks

-- a thread with the same number and statements is the same
pub same_thread : (line : ℕ) (number other : ℤ) (number_line : ℕ) (statements others : List StmtTree) → number ≡ other → statements ≡ others
    → item.Thread line number number_line statements ≡ item.Thread line other number_line others
same_thread line number other number_line statements others same_number same_statements =
    ap (λ n. item.Thread line n number_line statements) same_number ∙ ap (item.Thread line other number_line) same_statements

-- Words and static fields of a list that grows at its end.
use Rattle.std.proofs.Common.{◌≡◌, ℕ, ◌+◌, ◌<◌, sym, ap, ◌∙◌, List, [], ◌∷◌, ◌++◌, map, flat_map, take, get_or, length, append-nil, append_assoc}
use Rattle.std.proofs.lemmas.List.{map-append}
use Rattle.std.proofs.lemmas.Grind.{flat_map-append}
use Rattle.dso_config.specs.declared.config.RootEntry.{RootEntry}
use Rattle.dso_syntax.specs.declared.tree.Item.{Item}
use Rattle.dso_syntax.specs.declared.tree.Member.{Member}
use Rattle.dso_config_entries.specs.Words.{Word}
use Rattle.dso_class.specs.Declarations.{classes_of, statics_of, all_statics}
use Rattle.dso_class.specs.Gathered.{named_fields}
use Rattle.dso_class.proofs.gathering.Items.{statics_append}
use Rattle.dso_class.specs.Symbols.{field_words}
use Rattle.dso_class.proofs.gathering.ClassNames.{classes_append}
use Rattle.dso_config_entries.proofs.lists.Last.{taken}

-- ---- lists

-- what a list gives, with one item more
pub more : {A B : Type 0} (f : List A → List B) (joins : (xs ys : List A) → f (xs ++ ys) ≡ f xs ++ f ys) (xs : List A) (i : ℕ) (x : A) (here : List B) → i < length xs → x ≡ get_or xs i x → f (x ∷ []) ≡ here
    → f (take (i + 1) xs) ≡ f (take i xs) ++ here
more f joins xs i x here below is gives = ap f (taken xs i x below is) ∙ joins (take i xs) (x ∷ []) ∙ ap (λ one. f (take i xs) ++ one) gives

-- a list that got what one item more gives
pub pushed : {A B : Type 0} (f : List A → List B) (joins : (xs ys : List A) → f (xs ++ ys) ≡ f xs ++ f ys) (xs : List A) (i : ℕ) (x : A) (old new here : List B) → i < length xs → x ≡ get_or xs i x → f (x ∷ []) ≡ here
    → old ≡ f (take i xs) → new ≡ old ++ here → new ≡ f (take (i + 1) xs)
pushed f joins xs i x old new here below is gives before added = added ∙ ap (λ front. front ++ here) before ∙ sym (more f joins xs i x here below is gives)

-- a list that stays where the item gives nothing
pub stays : {A B : Type 0} (f : List A → List B) (joins : (xs ys : List A) → f (xs ++ ys) ≡ f xs ++ f ys) (xs : List A) (i : ℕ) (x : A) (old new : List B) → i < length xs → x ≡ get_or xs i x → f (x ∷ []) ≡ []
    → old ≡ f (take i xs) → new ≡ old → new ≡ f (take (i + 1) xs)
stays f joins xs i x old new below is gives before same = same ∙ before ∙ sym (append-nil (f (take i xs))) ∙ sym (more f joins xs i x [] below is gives)

-- ---- names

-- the names of the fields of each class of two lists
pub field_words_append : (xs ys : List Item) → field_words (xs ++ ys) ≡ field_words xs ++ field_words ys
field_words_append xs ys =
    ap (map (λ class. named_fields class.members)) (classes_append xs ys) ∙ map-append (λ class. named_fields class.members) (classes_of xs) (classes_of ys)

-- static fields behind others, with those of one member more
pub static_pushed : (class : Word) (xs : List Member) (i : ℕ) (x : Member) (initial old new here : List RootEntry) → i < length xs → x ≡ get_or xs i x → statics_of class (x ∷ []) ≡ here
    → old ≡ initial ++ statics_of class (take i xs) → new ≡ old ++ here → new ≡ initial ++ statics_of class (take (i + 1) xs)
static_pushed class xs i x initial old new here below is gives before added =
    added ∙ ap (λ front. front ++ here) before ∙ append_assoc initial (statics_of class (take i xs)) here ∙ ap (λ rest. initial ++ rest) (sym (more (statics_of class) (statics_append class) xs i x here below is gives))

-- and with a member that is none
pub static_stays : (class : Word) (xs : List Member) (i : ℕ) (x : Member) (initial old new : List RootEntry) → i < length xs → x ≡ get_or xs i x → statics_of class (x ∷ []) ≡ []
    → old ≡ initial ++ statics_of class (take i xs) → new ≡ old → new ≡ initial ++ statics_of class (take (i + 1) xs)
static_stays class xs i x initial old new below is gives before same =
    static_pushed class xs i x initial old new [] below is gives before (same ∙ sym (append-nil old))

-- the static fields of all classes, of two lists of items
pub all_statics_append : (xs ys : List Item) → all_statics (xs ++ ys) ≡ all_statics xs ++ all_statics ys
all_statics_append xs ys =
    ap (flat_map (λ class. statics_of class.name class.members)) (classes_append xs ys) ∙ flat_map-append (λ class. statics_of class.name class.members) (classes_of xs) (classes_of ys)

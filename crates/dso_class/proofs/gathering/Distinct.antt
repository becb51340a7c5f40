-- What a text without a fault has in its tables: things that differ, few of them, methods by rising class.
use Rattle.std.proofs.Common.{ℕ, suc, ◌≡◌, ◌≢◌, ◌+◌, ◌*◌, ◌<◌, ◌≤◌, ◌^◌, arith, refl, sym, ◌∙◌, ap, subst, inl, inr, List, [], ◌∷◌, ◌++◌, map, flat_map, length, All, AllPairs, Contains}
use Rattle.std.proofs.lemmas.List.{length-append, length-map}
use Rattle.std.proofs.lemmas.List.Elements.{All-nil, All-cons, All-append, All-weaker, All-contains, All-head, All-tail, All-map, Contains-append_cases, Contains-push}
use Rattle.std.proofs.lemmas.List.Kept.{AllPairs-cons}
use Rattle.dso_config.specs.declared.config.Config.{Config}
use Rattle.dso_config.specs.declared.config.RootEntry.{RootEntry}
use Rattle.dso_syntax.specs.declared.tree.Ast.{Ast}
use Rattle.dso_syntax.specs.declared.tree.Member.{Member}
use Rattle.dso_syntax.specs.declared.tree.Member.TheVariants as member
use Rattle.dso_config_entries.specs.Words.{Word}
use Rattle.dso_config_entries.specs.LastAndFirst.{AreFirsts, empty, again, fresh}
use Rattle.dso_class.specs.Declarations.{ClassTree, MethodTree, classes_of, fields_of, methods_of, methods_from, statics_of, all_methods, all_statics}
use Rattle.dso_class.specs.Gathered.{named_fields, all_fields}
use Rattle.dso_class.proofs.faultless.Text.{IsCleanClass, IsCleanText}
use Rattle.dso_class.proofs.lists.NumberedItems.{first_pairs, later_pairs, append_pairs, the_only}
use Rattle.dso_class.proofs.gathering.Callees.{AreFew, Rises, DoRise}
use Rattle.dso_config_entries.proofs.lists.Places.{nowhere}

-- the front of a list all of which something holds of
all_front : {A : Type 0} (P : A → Type 0) (xs ys : List A) → All P (xs ++ ys) → All P xs
all_front P [] ys each = All-nil P
all_front P (x ∷ xs) ys each = All-cons P x xs (All-head P x (xs ++ ys) each) (all_front P xs ys (All-tail P x (xs ++ ys) each))

-- the front of a list of pairs, and its last item with each before it
pairs_front : {A : Type 0} (R : A → A → Type 0) (xs ys : List A) → AllPairs R (xs ++ ys) → AllPairs R xs
pairs_front R [] ys pairs = λ i j d before within. absurd (omega arith)
pairs_front R (x ∷ xs) ys pairs = AllPairs-cons R x xs (all_front (R x) xs ys (first_pairs R x (xs ++ ys) pairs)) (pairs_front R xs ys (later_pairs R x (xs ++ ys) pairs))

pairs_last : {A : Type 0} (R : A → A → Type 0) (xs : List A) (x y : A) → AllPairs R (xs ++ x ∷ []) → Contains xs y → R y x
pairs_last R [] x y pairs there = absurd (nowhere y there)
pairs_last R (z ∷ zs) x y pairs there = elim (Contains-append_cases (z ∷ []) zs y there) [
  | inl first ↦ subst (λ w. R w x) (the_only z y first) (All-contains (R z) (zs ++ x ∷ []) x (first_pairs R z (zs ++ x ∷ []) pairs) (Contains-push zs x))
  | inr rest ↦ pairs_last R zs x y (later_pairs R z (zs ++ x ∷ []) pairs) rest
]

-- the first ones of a list of different things are the list
pub firsts_same : {A : Type 0} (xs firsts : List A) → AreFirsts xs firsts → AllPairs (λ x y. x ≢ y) xs → firsts ≡ xs
firsts_same _ _ empty differ = refl
firsts_same _ firsts (again {xs = xs} {x = x} before has) differ =
    let same = firsts_same xs firsts before (pairs_front (λ x y. x ≢ y) xs (x ∷ []) differ) in
    absurd (pairs_last (λ x y. x ≢ y) xs x x differ (subst (λ all. Contains all x) same has) refl)
firsts_same _ _ (fresh {xs = xs} {firsts = firsts} {x = x} before missing) differ =
    ap (λ all. all ++ x ∷ []) (firsts_same xs firsts before (pairs_front (λ x y. x ≢ y) xs (x ∷ []) differ))

-- pairs of what is made of each item
pub map_pairs : {A B : Type 0} (f : A → B) (R : B → B → Type 0) (xs : List A) → AllPairs (λ x y. R (f x) (f y)) xs → AllPairs R (map f xs)
map_pairs f R [] pairs = λ i j d before within. absurd (omega arith)
map_pairs f R (x ∷ xs) pairs = AllPairs-cons R (f x) (map f xs) (All-map (R (f x)) f xs (first_pairs (λ x y. R (f x) (f y)) x xs pairs)) (map_pairs f R xs (later_pairs (λ x y. R (f x) (f y)) x xs pairs))

-- weaker pairs
pub weaker_pairs : {A : Type 0} (R S : A → A → Type 0) → ((x y : A) → R x y → S x y) → (xs : List A) → AllPairs R xs → AllPairs S xs
weaker_pairs R S weaker xs pairs i j d before within = weaker _ _ (pairs i j d before within)

-- the number of a method's class is this one, or one of so many from this one on
abbrev pub OfClass : ℕ → MethodTree → Type 0
OfClass number method = method.number ≡ number

abbrev pub OfClasses : ℕ → ℕ → MethodTree → Type 0
OfClasses number count method = (number ≤ method.number) × (method.number < number + count)

-- the methods of a class have its number
number_of_class : (number : ℕ) (class : Word) (members : List Member) → All (OfClass number) (methods_of number class members)
number_of_class number class [] = All-nil (OfClass number)
number_of_class number class (member.Field line kind name ∷ rest) = number_of_class number class rest
number_of_class number class (member.Static line name ∷ rest) = number_of_class number class rest
number_of_class number class (member.Method line synced name params statements ∷ rest) =
    let method : MethodTree = record { number = number; class = class; synced = synced; name = name.name; params = params; statements = statements } in
    let same : method.number ≡ number = refl in
    All-cons (OfClass number) method (methods_of number class rest) same (number_of_class number class rest)

-- the first of some classes, and the later ones
of_first : (number count : ℕ) (method : MethodTree) → OfClass number method → OfClasses number (suc count) method
of_first number count method is = (omega arith, omega arith)

of_later : (number count : ℕ) (method : MethodTree) → OfClasses (suc number) count method → OfClasses number (suc count) method
of_later number count method within = (omega (arith, within.0), omega (arith, within.1))

-- the methods of classes have the numbers of these
pub numbers_of_classes : (number : ℕ) (classes : List ClassTree) → All (OfClasses number (length classes)) (methods_from number classes)
numbers_of_classes number [] = All-nil (OfClasses number 0)
numbers_of_classes number (class ∷ rest) =
    let here = OfClass number in
    let all = OfClasses number (suc (length rest)) in
    All-append all (methods_of number class.name class.members) (methods_from (suc number) rest)
    (All-weaker here all (of_first number (length rest)) (methods_of number class.name class.members) (number_of_class number class.name class.members))
    (All-weaker (OfClasses (suc number) (length rest)) all (of_later number (length rest)) (methods_from (suc number) rest) (numbers_of_classes (suc number) rest))

-- methods of one name are by rising class, where those of a class differ
pub methods_rise : (number : ℕ) (classes : List ClassTree) → All IsCleanClass classes → DoRise (methods_from number classes)
methods_rise number [] clean = λ i j d before within. absurd (omega arith)
methods_rise number (class ∷ rest) clean =
    let here = All-head IsCleanClass class rest clean in
    append_pairs Rises (methods_of number class.name class.members) (methods_from (suc number) rest)
    (weaker_pairs (λ method other. method.name ≢ other.name) Rises (λ method other apart same. absurd (apart same)) (methods_of number class.name class.members) (here.methods_differ number))
    (methods_rise (suc number) rest (All-tail IsCleanClass class rest clean))
    (λ method other there behind same.
    let first = All-contains (OfClass number) (methods_of number class.name class.members) method (number_of_class number class.name class.members) there in
    let second = All-contains (OfClasses (suc number) (length rest)) (methods_from (suc number) rest) other (numbers_of_classes (suc number) rest) behind in
    omega (arith, first, second.0))

-- methods that aren't of one class and one name
abbrev pub AreApart : MethodTree → MethodTree → Type 0
AreApart method other = (method.number ≡ other.number) × (method.name ≡ other.name) → ⊥

-- methods of which the later is of a later class, where they have one name, are apart
rising_apart : (method other : MethodTree) → Rises method other → AreApart method other
rising_apart method other rises same =
    let later = rises same.1 in
    let class = same.0 in
    absurd (omega arith)

-- how many methods there are at most
pub methods_few : (number : ℕ) (classes : List ClassTree) → All IsCleanClass classes → length (methods_from number classes) ≤ 64 * length classes
methods_few number [] clean = omega arith
methods_few number (class ∷ rest) clean =
    let here = All-head IsCleanClass class rest clean in
    let few = here.few_methods number in
    let others = methods_few (suc number) rest (All-tail IsCleanClass class rest clean) in
    omega (arith, length-append (methods_of number class.name class.members) (methods_from (suc number) rest))

-- the static fields of a class have its name
pub class_of_statics : (class : Word) (members : List Member) → All (λ static. static.class ≡ class) (statics_of class members)
class_of_statics class [] = All-nil (λ static. static.class ≡ class)
class_of_statics class (member.Field line kind name ∷ rest) = class_of_statics class rest
class_of_statics class (member.Static line name ∷ rest) =
    let static : RootEntry = record { class = class; field = name.name } in
    let same : static.class ≡ class = refl in
    All-cons (λ static. static.class ≡ class) static (statics_of class rest) same (class_of_statics class rest)
class_of_statics class (member.Method line synced name params statements ∷ rest) = class_of_statics class rest

-- the static fields of classes of other names have other classes
statics_apart : (name : Word) (classes : List ClassTree) → All (λ other. name ≢ other) (map (λ class. class.name) classes)
    → All (λ static. name ≢ static.class) (flat_map (λ class. statics_of class.name class.members) classes)
statics_apart name [] apart = All-nil (λ static. name ≢ static.class)
statics_apart name (class ∷ rest) apart =
    let other = All-head (λ other. name ≢ other) class.name (map (λ class. class.name) rest) apart in
    All-append (λ static. name ≢ static.class) (statics_of class.name class.members) (flat_map (λ class. statics_of class.name class.members) rest)
    (All-weaker (λ static. static.class ≡ class.name) (λ static. name ≢ static.class) (λ static of same. other (same ∙ of)) (statics_of class.name class.members) (class_of_statics class.name class.members))
    (statics_apart name rest (All-tail (λ other. name ≢ other) class.name (map (λ class. class.name) rest) apart))

-- the static fields of all classes differ, where those of each do and the classes do
statics_differ : (classes : List ClassTree) → All IsCleanClass classes → AllPairs (λ name other. name ≢ other) (map (λ class. class.name) classes)
    → AllPairs (λ static other. static ≢ other) (flat_map (λ class. statics_of class.name class.members) classes)
statics_differ [] clean differ = λ i j d before within. absurd (omega arith)
statics_differ (class ∷ rest) clean differ =
    let here = All-head IsCleanClass class rest clean in
    let names = map (λ class. class.name) rest in
    append_pairs (λ static other. static ≢ other) (statics_of class.name class.members) (flat_map (λ class. statics_of class.name class.members) rest)
    (weaker_pairs (λ static other. static.field ≢ other.field) (λ static other. static ≢ other) (λ static other apart same. apart (ap (λ entry. entry.field) same))
    (statics_of class.name class.members) here.statics_differ)
    (statics_differ rest (All-tail IsCleanClass class rest clean) (later_pairs (λ name other. name ≢ other) class.name names differ))
    (λ static other there behind same.
    let first = All-contains (λ static. static.class ≡ class.name) (statics_of class.name class.members) static (class_of_statics class.name class.members) there in
    let second = All-contains (λ static. class.name ≢ static.class) (flat_map (λ class. statics_of class.name class.members) rest) other
    (statics_apart class.name rest (first_pairs (λ name other. name ≢ other) class.name names differ)) behind in
    second (sym first ∙ ap (λ entry. entry.class) same))

-- the tables of a text without a fault
module _ (config : Config) (ast : Ast) (clean : IsCleanText config ast) where
  few_classes : length (classes_of ast.items) ≤ 64
  few_classes = omega (arith, length-map (classes_of ast.items) (λ class. class.name), clean.few_classes)

  pub few_methods : AreFew (all_methods ast.items)
  few_methods =
      let few = few_classes in
      record {
        few = omega (arith, methods_few 0 (classes_of ast.items) clean.classes);
        classes = All-weaker (OfClasses 0 (length (classes_of ast.items))) (λ method. method.number < 2 ^ 32) (λ method within. omega (arith, within.1)) (all_methods ast.items) (numbers_of_classes 0 (classes_of ast.items));
      }

  pub rise : DoRise (all_methods ast.items)
  rise = methods_rise 0 (classes_of ast.items) clean.classes

  -- two methods of one class number and one name stand at one place
  pub all_methods_differ : AllPairs AreApart (all_methods ast.items)
  all_methods_differ = weaker_pairs Rises AreApart rising_apart (all_methods ast.items) rise

  pub few_fields : length (all_fields ast.items) ≤ 2 ^ 32
  few_fields =
      let few = few_classes in
      omega (arith, length-map (classes_of ast.items) (λ class. named_fields class.members))

  pub each_few_fields : All (λ row. length row ≤ 2 ^ 32) (all_fields ast.items)
  each_few_fields =
      All-map (λ row. length row ≤ 2 ^ 32) (λ class. named_fields class.members) (classes_of ast.items)
      (All-weaker IsCleanClass (λ class. length (named_fields class.members) ≤ 2 ^ 32) (λ class is. omega (arith, is.few_fields, length-map (fields_of class.members) (λ field. field.name))) (classes_of ast.items) clean.classes)

  pub fields_differ : All (AllPairs (λ field other. field ≢ other)) (all_fields ast.items)
  fields_differ =
      All-map (AllPairs (λ field other. field ≢ other)) (λ class. named_fields class.members) (classes_of ast.items)
      (All-weaker IsCleanClass (λ class. AllPairs (λ field other. field ≢ other) (named_fields class.members)) (λ class is. map_pairs (λ field. field.name) (λ field other. field ≢ other) (fields_of class.members) is.fields_differ) (classes_of ast.items) clean.classes)

  pub all_statics_differ : AllPairs (λ static other. static ≢ other) (all_statics ast.items)
  all_statics_differ = statics_differ (classes_of ast.items) clean.classes clean.classes_differ

-- The classes that a new object may be of, and the methods that a call may reach: those of the text, and those of maps.
use Rattle.std.proofs.Common.{ℕ, ◌≡◌, ◌≢◌, ◌↔◌, ◌⊎◌, inl, inr, ◌<◌, ◌≤◌, ◌+◌, ◌^◌, Bool, true, false, cond, codes, arith, refl, sym, ◌∙◌, ap, subst, List, [], ◌∷◌, ◌++◌, length, All, AllPairs, Contains, Option, Some, None, IfSome}
use Rattle.std.proofs.lemmas.List.{length-append, length-map}
use Rattle.std.proofs.lemmas.List.Elements.{All-nil, All-cons, All-append, All-contains, All-weaker, Contains-append_left, Contains-append_right, Contains-append_cases, Contains-push}
use Rattle.std.proofs.lemmas.List.Kept.{AllPairs-cons}
use Rattle.std.proofs.lemmas.Slice.Eq.{bytes_eq-Decides}
use Rattle.std.specs.Str.{bytes_eq}
use Rattle.dso_config.specs.declared.config.Config.{Config}
use Rattle.dso_syntax.specs.declared.tree.Ast.{Ast}
use Rattle.dso_config_entries.specs.Words.{Word}
use Rattle.dso_config_entries.specs.LastAndFirst.{AreFirsts}
use Rattle.dso_class.specs.Declarations.{MethodTree, classes_of, class_names, all_methods}
use Rattle.dso_class.specs.Gathered.{capped}
use Rattle.dso_class.specs.Maps.{map_word, makes_map, map_methods, reachable_classes, reachable_methods}
use Rattle.dso_class.specs.NameFaults.{IsClass, IsReachableClass}
use Rattle.dso_class.specs.Numbers.{IsNumber}
use Rattle.dso_class.proofs.faultless.Text.{IsCleanText}
use Rattle.dso_class.proofs.gathering.Callees.{AreFew, Rises, DoRise}
use Rattle.dso_class.proofs.gathering.Distinct.{few_methods, firsts_same, methods_few, numbers_of_classes, rise, OfClasses}
use Rattle.dso_class.proofs.gathering.FieldsAndMethods.{capped_small}
use Rattle.dso_class.proofs.lists.Among.{stays}
use Rattle.dso_class.proofs.maps.MapRows.{get_of, has_of, size_of, put_of, remove_of}
use Rattle.dso_class.proofs.lists.Joined.{at_end}
use Rattle.dso_class.proofs.lists.NumberedItems.{append_pairs, the_only}
use Rattle.dso_config_entries.proofs.lists.Places.{nowhere}

-- ---- classes

-- what is behind the classes of the text is that of maps
behind_text : (makes : Bool) (name : Word) → Contains (cond makes (map_word ∷ []) []) name → (makes ≡ true) × (name ≡ map_word)
behind_text true name there = (refl, sym (the_only map_word name there))
behind_text false name there = absurd (nowhere name there)

-- a new object may be of a class of the text
pub of_text : (ast : Ast) (name : Word) → IsClass ast name → IsReachableClass ast name
of_text ast name there = Contains-append_left (class_names ast.items) (cond (makes_map ast) (map_word ∷ []) []) name there

-- and of that of maps where the text makes one
pub of_maps : (ast : Ast) (name : Word) → makes_map ast ≡ true → name ≡ map_word → IsReachableClass ast name
of_maps ast name makes is =
    subst (λ word. IsReachableClass ast word) (sym is)
    (subst (λ b. Contains (class_names ast.items ++ cond b (map_word ∷ []) []) map_word) (sym makes)
    (Contains-append_right (class_names ast.items) (map_word ∷ []) map_word (Contains-push [] map_word)))

-- and of no other
pub of_either : (ast : Ast) (name : Word) → IsReachableClass ast name → IsClass ast name ⊎ ((makes_map ast ≡ true) × (name ≡ map_word))
of_either ast name there = elim (Contains-append_cases (class_names ast.items) (cond (makes_map ast) (map_word ∷ []) []) name there) [
  | inl text ↦ inl text
  | inr map ↦ inr (behind_text (makes_map ast) name map)
]

-- a class that isn't that of maps, or where the text makes none, is missing where the text has none
pub missing_class : {N : Type 0} (ast : Ast) (name : Word) → ((makes_map ast ≡ true) × (name ≡ map_word) → ⊥) → N ↔ (IsClass ast name → ⊥) → N ↔ (IsReachableClass ast name → ⊥)
missing_class ast name other tells = (
  λ none there. elim (of_either ast name there) [
    | inl text ↦ tells.0 none text
    | inr map ↦ other map
  ],
  λ fails. tells.1 (λ text. fails (of_text ast name text)),
)

-- a class of the text keeps its number
pub text_number : (ast : Ast) (name : Word) (number : ℕ) → IsNumber (class_names ast.items) name number → IsNumber (reachable_classes ast) name number
text_number ast name number is = stays (class_names ast.items) (cond (makes_map ast) (map_word ∷ []) []) name number is

pub number_or_none : (ast : Ast) (name : Word) (number : Option ℕ) → IfSome number (λ number. IsNumber (class_names ast.items) name number) → IfSome number (λ number. IsNumber (reachable_classes ast) name number)
number_or_none ast name None is = tt
number_or_none ast name (Some number) is = text_number ast name number is

module _ (config : Config) (ast : Ast) (clean : IsCleanText config ast) where
  -- the class of maps is behind those of the text
  pub map_number : (name : Word) (words : List Word) (count number : ℕ) → makes_map ast ≡ true → name ≡ map_word → AreFirsts (class_names ast.items) words → count ≡ length words → number ≡ capped count
      → IsNumber (reachable_classes ast) name number
  map_number name words count number makes is firsts counts given =
      let same = firsts_same (class_names ast.items) words firsts clean.classes_differ in
      let long : count ≡ length (class_names ast.items) = counts ∙ ap length same in
      let small : count < 2 ^ 32 = omega (arith, long, clean.few_classes) in
      subst (λ n. IsNumber (reachable_classes ast) name n) (sym (given ∙ capped_small count small ∙ long))
      (subst (λ word. IsNumber (reachable_classes ast) word (length (class_names ast.items))) (sym is)
      (subst (λ b. IsNumber (class_names ast.items ++ cond b (map_word ∷ []) []) map_word (length (class_names ast.items))) (sym makes) (at_end (class_names ast.items) map_word)))

  -- all classes differ
  pub reachable_differ : AllPairs (λ one other. one ≢ other) (reachable_classes ast)
  reachable_differ =
      append_pairs (λ one other. one ≢ other) (class_names ast.items) (cond (makes_map ast) (map_word ∷ []) []) clean.classes_differ (single (makes_map ast))
      (λ x y there behind same. All-contains (λ name. name ≢ map_word) (class_names ast.items) x clean.no_map_class there (same ∙ (behind_text (makes_map ast) y behind).1))
    where
      single : (makes : Bool) → AllPairs (λ one other. one ≢ other) (cond makes (map_word ∷ []) [])
      single true i j d before within = absurd (omega (arith, before, within))
      single false i j d before within = absurd (omega (arith, within))

-- ---- methods

-- two words that the test tells apart are different
apart : (one other : Word) → bytes_eq one other ≡ false → one ≡ other → ⊥
apart one other differ same = cc (sym differ ∙ (bytes_eq-Decides one other).1 same)

-- the methods of maps have different names
map_methods_rise : (number : ℕ) → DoRise (map_methods number)
map_methods_rise number =
    AllPairs-cons Rises (get_of number) (has_of number ∷ size_of number ∷ put_of number ∷ remove_of number ∷ [])
    (All-cons (Rises (get_of number)) (has_of number) (size_of number ∷ put_of number ∷ remove_of number ∷ []) (λ same. absurd (apart (codes "get") (codes "has") refl same)) (All-cons (Rises (get_of number)) (size_of number) (put_of number ∷ remove_of number ∷ []) (λ same. absurd (apart (codes "get") (codes "size") refl same)) (All-cons (Rises (get_of number)) (put_of number) (remove_of number ∷ []) (λ same. absurd (apart (codes "get") (codes "put") refl same)) (All-cons (Rises (get_of number)) (remove_of number) ([]) (λ same. absurd (apart (codes "get") (codes "remove") refl same)) (All-nil (Rises (get_of number)))))))
    (AllPairs-cons Rises (has_of number) (size_of number ∷ put_of number ∷ remove_of number ∷ [])
    (All-cons (Rises (has_of number)) (size_of number) (put_of number ∷ remove_of number ∷ []) (λ same. absurd (apart (codes "has") (codes "size") refl same)) (All-cons (Rises (has_of number)) (put_of number) (remove_of number ∷ []) (λ same. absurd (apart (codes "has") (codes "put") refl same)) (All-cons (Rises (has_of number)) (remove_of number) ([]) (λ same. absurd (apart (codes "has") (codes "remove") refl same)) (All-nil (Rises (has_of number))))))
    (AllPairs-cons Rises (size_of number) (put_of number ∷ remove_of number ∷ [])
    (All-cons (Rises (size_of number)) (put_of number) (remove_of number ∷ []) (λ same. absurd (apart (codes "size") (codes "put") refl same)) (All-cons (Rises (size_of number)) (remove_of number) ([]) (λ same. absurd (apart (codes "size") (codes "remove") refl same)) (All-nil (Rises (size_of number)))))
    (AllPairs-cons Rises (put_of number) (remove_of number ∷ [])
    (All-cons (Rises (put_of number)) (remove_of number) ([]) (λ same. absurd (apart (codes "put") (codes "remove") refl same)) (All-nil (Rises (put_of number))))
    (AllPairs-cons Rises (remove_of number) ([])
    (All-nil (Rises (remove_of number)))
    (λ i j d before within. absurd (omega (arith, within)))))))

-- they are of the class of this number
abbrev pub OfMaps : ℕ → MethodTree → Type 0
OfMaps number method = method.number ≡ number

pub of_map_class : (number : ℕ) → All (OfMaps number) (map_methods number)
of_map_class number =
    All-cons (OfMaps number) (get_of number) (has_of number ∷ size_of number ∷ put_of number ∷ remove_of number ∷ []) refl (All-cons (OfMaps number) (has_of number) (size_of number ∷ put_of number ∷ remove_of number ∷ []) refl (All-cons (OfMaps number) (size_of number) (put_of number ∷ remove_of number ∷ []) refl (All-cons (OfMaps number) (put_of number) (remove_of number ∷ []) refl (All-cons (OfMaps number) (remove_of number) ([]) refl (All-nil (OfMaps number))))))

-- so where they are there
of_maps_there : (makes : Bool) (number : ℕ) → All (OfMaps number) (cond makes (map_methods number) [])
of_maps_there true number = of_map_class number
of_maps_there false number = All-nil (OfMaps number)

rise_there : (makes : Bool) (number : ℕ) → DoRise (cond makes (map_methods number) [])
rise_there true number = map_methods_rise number
rise_there false number = λ i j d before within. absurd (omega (arith, within))

few_there : (makes : Bool) (number : ℕ) → length (cond makes (map_methods number) []) ≤ 5
few_there true number = omega arith
few_there false number = omega arith

module _ (config : Config) (ast : Ast) (clean : IsCleanText config ast) where
  -- the class of maps comes behind so many
  classes_long : length (class_names ast.items) ≡ length (classes_of ast.items)
  classes_long = length-map (classes_of ast.items) (λ class. class.name)

  -- the numbers of the classes and methods that a call may reach are small
  pub few_reachable : AreFew (reachable_methods ast)
  few_reachable =
      let number = length (class_names ast.items) in
      let maps = cond (makes_map ast) (map_methods number) [] in
      let few = clean.few_classes in
      record {
        few = omega (arith, length-append (all_methods ast.items) maps, methods_few 0 (classes_of ast.items) clean.classes, few_there (makes_map ast) number, classes_long, few);
        classes = All-append (λ method. method.number < 2 ^ 32) (all_methods ast.items) maps (few_methods config ast clean).classes
            (All-weaker (OfMaps number) (λ method. method.number < 2 ^ 32) (λ method is. omega (arith, is, few)) maps (of_maps_there (makes_map ast) number));
      }

  -- those of one name are by rising class
  pub reachable_rise : DoRise (reachable_methods ast)
  reachable_rise =
      let number = length (class_names ast.items) in
      let maps = cond (makes_map ast) (map_methods number) [] in
      append_pairs Rises (all_methods ast.items) maps (rise config ast clean) (rise_there (makes_map ast) number)
      (λ method other there behind same.
      let first = All-contains (OfClasses 0 (length (classes_of ast.items))) (all_methods ast.items) method (numbers_of_classes 0 (classes_of ast.items)) there in
      let second = All-contains (OfMaps number) maps other (of_maps_there (makes_map ast) number) behind in
      omega (arith, first.1, second, classes_long))

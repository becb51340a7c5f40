-- Numbers of what a text declares are those of something in its code.
use Rattle.std.proofs.Common.{◌≡◌, ◌≢◌, ℕ, zero, suc, ◌+◌, ◌<◌, Bool, true, false, cond, eqb, inl, inr, refl, sym, ap, ◌∙◌, subst, arith, List, [], ◌∷◌, ◌++◌, map, length, slice_get, Some, All, AllPairs, Contains, option_map}
use Rattle.std.specs.List.{AllZip}
use Rattle.std.proofs.lemmas.List.{length-append, length-map}
use Rattle.std.proofs.lemmas.List.Elements.{All-weaker, All-contains_itself}
use Rattle.std.proofs.lemmas.Option.{slice_get_within, slice_get-map, none-some, same_Some}
use Rattle.dso_base.specs.declared.shape.ClassShape.{ClassShape}
use Rattle.dso_base.specs.declared.value.ClassId.TheVariants.{Plain}
use Rattle.dso_base.specs.Shape as base
use Rattle.dso_map.specs.MapClass.{map_fields, map_size, is_map}
use Rattle.dso_machine.specs.declared.code.Code.{Code}
use Rattle.dso_machine.specs.declared.tree.FieldRef.{FieldRef}
use Rattle.dso_machine.specs.Sound.{ArePlaces, IsCallee, AreCallees, map_arguments}
use Rattle.dso_config_entries.specs.Words.{Word}
use Rattle.dso_class.specs.Declarations.{ClassTree, MethodTree, classes_of, fields_of, class_names, all_statics, all_methods}
use Rattle.dso_class.specs.Maps.{map_word, makes_map, map_methods, map_shapes, reachable_classes, reachable_methods}
use Rattle.dso_class.specs.Numbers.{IsNumber, HasField, HasMethod, AreThePairs, IsFieldRef}
use Rattle.dso_class.specs.TextProgram.{Source, field_names, IsClass, IsField, IsMethod, IsCode}
use Rattle.dso_class.proofs.lists.Joined.{Stands, at_end, in_first, stands}
use Rattle.dso_class.proofs.lists.SideBySide.{all_at, zip_length, zip_at}
use Rattle.dso_class.proofs.maps.MapFields.{map_fields_long}
use Rattle.dso_class.proofs.maps.Reachable.{of_map_class}

-- the pairs of numbers differ in their first numbers
pairs_differ : (P : ℕ → ℕ → Type 0) (pairs : List (ℕ × ℕ)) → AreThePairs P pairs → AllPairs (λ pair other. pair.0 ≢ other.0) pairs
pairs_differ P pairs are i j d before within same = absurd (omega (arith, are.rising i j d before within, same))

-- each pair is one with which P holds
pairs_hold : (P : ℕ → ℕ → Type 0) (pairs : List (ℕ × ℕ)) → AreThePairs P pairs → All (λ pair. P pair.0 pair.1) pairs
pairs_hold P pairs are = All-weaker (Contains pairs) (λ pair. P pair.0 pair.1) (λ pair there. (are.listed pair.0 pair.1).0 there) pairs (All-contains_itself pairs)

-- the names of a class's fields
abbrev pub row_of : ClassTree → List Word
row_of class = map (λ field. field.name) (fields_of class.members)

module _ (source : Source) where
  -- a class has as many fields in its shape as in the text
  pub fields_long : (class : ClassTree) (shape : ClassShape) → IsClass source class shape → length (fields_of class.members) ≡ length shape.fields
  fields_long class shape is = zip_length (IsField source class.name) (fields_of class.members) shape.fields is.fields

  -- and as many names
  pub names_long : (class : ClassTree) (shape : ClassShape) → IsClass source class shape → length (row_of class) ≡ length shape.fields
  names_long class shape is = length-map (fields_of class.members) (λ field. field.name) ∙ fields_long class shape is

  -- a row of names is as long as the fields of the shape of its number
  row_long : (classes : List ClassTree) (shapes : List ClassShape) (number : ℕ) (row : List Word) → AllZip (IsClass source) classes shapes → slice_get (map row_of classes) number ≡ Some row
      → length row ≡ length (base.fields_of (slice_get shapes number))
  row_long [] shapes number row both is = absurd (none-some row is)
  row_long (class ∷ classes) [] number row both is = absurd both
  row_long (class ∷ classes) (shape ∷ shapes) zero row both is = ap length (sym (same_Some (row_of class) row is)) ∙ names_long class shape both.0
  row_long (class ∷ classes) (shape ∷ shapes) (suc number) row both is = row_long classes shapes number row both.1 is

-- ---- maps

-- as many names as shapes are behind those of the text
pub as_many_maps : (makes : Bool) → length (cond makes (map_word ∷ []) []) ≡ length (map_shapes makes)
as_many_maps true = refl
as_many_maps false = refl

-- a method that is behind those of the text is one of maps: they are made, it is of their class, and takes as many
-- arguments as it should
map_method_at : (makes : Bool) (class place : ℕ) (method : MethodTree) → slice_get (cond makes (map_methods class) []) place ≡ Some method
    → (makes ≡ true) × (method.number ≡ class) × (slice_get map_arguments place ≡ Some (length method.params))
map_method_at true class place method is = (
  refl,
  all_at (λ (method : MethodTree). method.number ≡ class) (map_methods class) place method (of_map_class class) is,
  slice_get-map (λ (method : MethodTree). length method.params) (map_methods class) place ∙ ap (option_map (λ (method : MethodTree). length method.params)) is,
)
map_method_at false class place method is = absurd (none-some method is)

module _ (source : Source) (code : Code) (is : IsCode source code) where
  -- a class of the text has its place in the shape
  pub text_class : (class : ℕ) → class < length is.shapes → slice_get code.shape.classes class ≡ slice_get is.shapes class
  text_class class below = ap (λ shapes. slice_get shapes class) is.all_classes ∙ in_first is.shapes (map_shapes (makes_map source.ast)) class below

  -- the text has as many classes as they are
  pub text_long : length (classes_of source.ast.items) ≡ length is.shapes
  text_long = zip_length (IsClass source) (classes_of source.ast.items) is.shapes is.classes

  names_as_many : length (class_names source.ast.items) ≡ length is.shapes
  names_as_many = length-map (classes_of source.ast.items) (λ class. class.name) ∙ text_long

  -- there are as many classes in the shape as a new object may be of
  pub reach_long : length (reachable_classes source.ast) ≡ length code.shape.classes
  reach_long =
      let words = cond (makes_map source.ast) (map_word ∷ []) [] in
      let shapes = map_shapes (makes_map source.ast) in
      let all : length code.shape.classes ≡ length (is.shapes ++ shapes) = ap length is.all_classes in
      omega (arith, length-append (class_names source.ast.items) words, length-append is.shapes shapes, as_many_maps (makes_map source.ast), names_as_many, all)

  -- a field's class is one of the text
  class_below : (name : Word) (class number : ℕ) → HasField (field_names source) name class number → class < length is.shapes
  class_below name class number has =
      let below = slice_get_within (field_names source) class has.row has.of_class in
      omega (arith, below, length-map (classes_of source.ast.items) row_of, text_long)

  -- a field's number is one of the shape
  field_there : (name : Word) (class number : ℕ) → HasField (field_names source) name class number → base.HasField code.shape (Plain class) number
  field_there name class number has =
      subst (λ n. number < n)
      (row_long source (classes_of source.ast.items) is.shapes class has.row is.classes has.of_class ∙ ap (λ shape. length (base.fields_of shape)) (sym (text_class class (class_below name class number has))))
      (slice_get_within has.row number name has.of_field)

  -- the places of a field name are there, where no class of the text is that of maps
  pub places_sound : ((class : ℕ) → class < length is.shapes → is_map code.shape class ≡ false) → (name : Word) (f : FieldRef) → IsFieldRef (field_names source) name f → ArePlaces code.shape f.places
  places_sound no_map name f ref = record {
    there = All-weaker (λ place. HasField (field_names source) name place.0 place.1) (λ place. base.HasField code.shape (Plain place.0) place.1) (λ place has. field_there name place.0 place.1 has) f.places
        (pairs_hold (HasField (field_names source) name) f.places ref.places);
    of_no_map = All-weaker (λ place. HasField (field_names source) name place.0 place.1) (λ place. is_map code.shape place.0 ≡ false) (λ place has. no_map place.0 (class_below name place.0 place.1 has)) f.places
        (pairs_hold (HasField (field_names source) name) f.places ref.places);
    differ = pairs_differ (HasField (field_names source) name) f.places ref.places;
  }

  -- the class behind those of the text is that of maps, where they are made
  map_there : makes_map source.ast ≡ true → is_map code.shape (length (class_names source.ast.items)) ≡ true
  map_there makes =
      let shapes : code.shape.classes ≡ is.shapes ++ record { fields = map_fields } ∷ [] = is.all_classes ∙ ap (λ b. is.shapes ++ map_shapes b) makes in
      let at : slice_get code.shape.classes (length (class_names source.ast.items)) ≡ Some (record { fields = map_fields }) =
      ap (slice_get code.shape.classes) names_as_many ∙ ap (λ all. slice_get all (length is.shapes)) shapes ∙ at_end is.shapes (record { fields = map_fields }) in
      ap (λ shape. eqb (length (base.fields_of shape)) map_size) at ∙ ap (λ n. eqb n map_size) map_fields_long

  -- a method's number is one of the code, or that of a method of maps
  callee_stands : (name : Word) (count : ℕ) (callee : ℕ × ℕ) (has : HasMethod (reachable_methods source.ast) name count callee.0 callee.1)
      → Stands (all_methods source.ast.items) (cond (makes_map source.ast) (map_methods (length (class_names source.ast.items))) []) callee.1 has.declared → IsCallee code count callee
  callee_stands name count callee has (Stands.before at) =
      let found = zip_at (IsMethod source) (all_methods source.ast.items) code.methods callee.1 has.declared is.methods at in
      inl (record { method = found.0; there = found.1; class = found.2.of_class ∙ has.of_class; params = found.2.all_params ∙ has.takes })
  callee_stands name count callee has (Stands.behind place at here) =
      let class = length (class_names source.ast.items) in
      let found = map_method_at (makes_map source.ast) class place has.declared here in
      inr (record {
        class = subst (λ number. is_map code.shape number ≡ true) (sym found.1 ∙ has.of_class) (map_there found.0);
        place = place;
        number = at ∙ ap (λ n. n + place) (zip_length (IsMethod source) (all_methods source.ast.items) code.methods is.methods);
        params = found.2 ∙ ap Some has.takes;
      })

  callee_there : (name : Word) (count : ℕ) (callee : ℕ × ℕ) → HasMethod (reachable_methods source.ast) name count callee.0 callee.1 → IsCallee code count callee
  callee_there name count callee has =
      callee_stands name count callee has
      (stands (all_methods source.ast.items) (cond (makes_map source.ast) (map_methods (length (class_names source.ast.items))) []) callee.1 has.declared has.of_method)

  -- the methods of a name and number of arguments are there
  pub callees_sound : (name : Word) (count : ℕ) (callees : List (ℕ × ℕ)) → AreThePairs (HasMethod (reachable_methods source.ast) name count) callees → AreCallees code count callees
  callees_sound name count callees are = record {
    there = All-weaker (λ callee. HasMethod (reachable_methods source.ast) name count callee.0 callee.1) (IsCallee code count) (λ callee has. callee_there name count callee has) callees
        (pairs_hold (HasMethod (reachable_methods source.ast) name count) callees are);
    differ = pairs_differ (HasMethod (reachable_methods source.ast) name count) callees are;
  }

  -- what has a number is as far in the list
  pub class_there : (name : Word) (i : ℕ) → IsNumber (reachable_classes source.ast) name i → i < length code.shape.classes
  class_there name i at = subst (λ n. i < n) reach_long (slice_get_within (reachable_classes source.ast) i name at)

  -- the number of a static field is that of a root
  pub root_there : (i : ℕ) {root : _} → IsNumber (all_statics source.ast.items) root i → i < code.shape.roots
  root_there i {root} at = subst (λ n. i < n) (sym is.roots) (slice_get_within (all_statics source.ast.items) i root at)

  -- the number of a text literal is one of the shape
  pub text_there : (content : Word) (i : ℕ) → IsNumber source.texts content i → i < code.shape.texts
  text_there content i at = subst (λ n. i < n) (sym is.texts) (slice_get_within source.texts i content at)

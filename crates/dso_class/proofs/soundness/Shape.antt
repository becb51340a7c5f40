-- The shape of a faultless text's code, and its methods' numbers, are within the limits.
use Rattle.std.proofs.Common.{◌≡◌, ◌∙◌, refl, sym, ap, subst, eqb, Bool, true, false, ℕ, suc, ◌+◌, ◌*◌, ◌≤◌, ◌<◌, arith, List, [], ◌∷◌, ◌++◌, map, length, slice_get, Option, Some, IfSome, All}
use Rattle.std.proofs.lemmas.Bool.{eqb-true}
use Rattle.std.proofs.lemmas.List.{length-append, length-map}
use Rattle.std.proofs.lemmas.List.Elements.{All-nil, All-cons, All-head, All-tail, All-append}
use Rattle.std.proofs.lemmas.Option.{slice_get_within}
use Rattle.dso_base.specs.declared.lock.Grade.{Grade}
use Rattle.dso_base.specs.declared.shape.ClassShape.{ClassShape}
use Rattle.dso_base.specs.declared.shape.FieldShape.{FieldShape}
use Rattle.dso_base.specs.declared.shape.Guard.{Guard}
use Rattle.dso_config.specs.declared.config.Config.{Config}
use Rattle.dso_config.specs.InRange.{IsInRange, entries}
use Rattle.dso_machine.specs.declared.code.Code.{Code}
use Rattle.dso_base.specs.Shape as base
use Rattle.dso_map.specs.MapClass.{map_fields, map_size, is_map}
use Rattle.dso_machine.specs.Sound as machine
use Rattle.dso_syntax.specs.declared.tree.Ident.{Ident}
use Rattle.dso_syntax.specs.declared.tree.Member.{Member}
use Rattle.dso_syntax.specs.declared.tree.Member.TheVariants as member
use Rattle.dso_config_entries.specs.Words.{Word}
use Rattle.dso_config_entries.specs.LastAndFirst.{AreFirsts, empty, again, fresh}
use Rattle.dso_class.specs.Mentions.{Mention, on, parameter}
use Rattle.dso_class.specs.PrecedingMentions.{variable_in, in_text}
use Rattle.dso_class.specs.Declarations.{ClassTree, FieldTree, classes_of, fields_of, methods_of, methods_from}
use Rattle.dso_config_entries.specs.ConfigEntries.{lock_mentions}
use Rattle.dso_class.specs.TextProgram.{Source, roots_of, IsField, IsClass, IsGuard, IsNamedLock, IsCode}
use Rattle.dso_class.proofs.faultless.Text.{IsCleanClass}
use Rattle.dso_class.specs.Maps.{makes_map, map_shapes}
use Rattle.dso_class.proofs.lists.SideBySide.{zip_length, zip_all, all_at, stands_at}
use Rattle.dso_class.proofs.maps.MapFields.{maps_sound}
use Rattle.dso_class.proofs.soundness.Numbers.{text_class}

-- ---- lengths

-- the first of each item are no more than the items
pub firsts_fewer : {A : Type 0} {xs firsts : List A} → AreFirsts xs firsts → length firsts ≤ length xs
firsts_fewer empty = omega arith
firsts_fewer (again {xs = xs} {x = x} before there) = let fewer = firsts_fewer before in omega (arith, fewer, length-append xs (x ∷ []))
firsts_fewer (fresh {xs = xs} {firsts = firsts} {x = x} before missing) = let fewer = firsts_fewer before in omega (arith, fewer, length-append xs (x ∷ []), length-append firsts (x ∷ []))

-- the locks of a configuration in range are few
pub few_lock_names : (config : Config) (locks : List Word) → IsInRange config → AreFirsts (lock_mentions config) locks → length locks ≤ 2048
few_lock_names config locks fits firsts =
    let named : List Word = map (λ entry. entry.name) (entries config.named) in
    let guards : List Word = map (λ entry. entry.lock) config.guards in
    let all : length (lock_mentions config) ≡ length named + length guards = length-append named guards in
    let some : length named ≡ length (entries config.named) = length-map (entries config.named) (λ entry. entry.name) in
    let others : length guards ≡ length config.guards = length-map config.guards (λ entry. entry.lock) in
    omega (arith, firsts_fewer firsts, all, some, others, fits.few_named, fits.few_guards)

-- the methods of classes are at most 64 times as many
pub few_methods_from : (number : ℕ) (classes : List ClassTree) → All IsCleanClass classes → length (methods_from number classes) ≤ length classes * 64
few_methods_from number [] clean = omega arith
few_methods_from number (class ∷ rest) clean =
    let here = (All-head IsCleanClass class rest clean).few_methods number in
    let behind = few_methods_from (suc number) rest (All-tail IsCleanClass class rest clean) in
    omega (arith, here, behind, length-append (methods_of number class.name class.members) (methods_from (suc number) rest))

-- the methods of a class have its number
numbered_alike : (number : ℕ) (class : Word) (members : List Member) (limit : ℕ) → number < limit → All (λ method. method.number < limit) (methods_of number class members)
numbered_alike number class [] limit below = All-nil (λ method. method.number < limit)
numbered_alike number class (member.Field line kind name ∷ rest) limit below = numbered_alike number class rest limit below
numbered_alike number class (member.Static line name ∷ rest) limit below = numbered_alike number class rest limit below
numbered_alike number class (member.Method line synced name params statements ∷ rest) limit below =
    All-cons (λ method. method.number < limit) _ (methods_of number class rest) below (numbered_alike number class rest limit below)

-- a method's class is one of the text's
pub numbers_below : (number : ℕ) (classes : List ClassTree) (limit : ℕ) → number + length classes ≤ limit → All (λ method. method.number < limit) (methods_from number classes)
numbers_below number [] limit below = All-nil (λ method. method.number < limit)
numbers_below number (class ∷ rest) limit below =
    All-append (λ method. method.number < limit) (methods_of number class.name class.members) (methods_from (suc number) rest)
    (numbered_alike number class.name class.members limit (omega (arith, below))) (numbers_below (suc number) rest limit (omega (arith, below)))

-- the parameters are among the variables
pub params_among : (params : List Ident) (rest : List Mention) → length params ≤ length (in_text variable_in (map (λ name. on name.line (parameter name.name)) params ++ rest))
params_among [] rest = omega arith
params_among (name ∷ names) rest = omega (arith, params_among names rest)

-- ---- guards and locks

module _ (source : Source) (code : Code) (is : IsCode source code) where
  -- a lock's number is behind the roots' and below the number of names
  lock_there : (number : ℕ) (name : Word) → slice_get source.locks number ≡ Some name → roots_of source + number < code.shape.names
  lock_there number name at = omega (arith, is.locks, slice_get_within source.locks number name at)

  -- the lock of a guard is there
  pub guard_sound : (class field : Word) (given : Guard) → IsGuard source class field given → machine.IsGuard code.shape given
  guard_sound class field _ (IsGuard.named number entry latest at) = lock_there number entry.lock at
  guard_sound class field _ (IsGuard.own none) = tt

  -- a method's named lock is there, and no root's own
  pub lock_sound : (class method : Word) (given : Option (ℕ × Grade)) → IsNamedLock source class method given → IfSome given (machine.IsMethodLock code.shape)
  lock_sound class method _ (IsNamedLock.named number entry latest at) = record { no_root = omega (arith, is.roots); there = lock_there number entry.name at }
  lock_sound class method _ (IsNamedLock.nothing none) = tt

  -- the fields of a class are few, and their guards are there
  field_sound : (class : Word) (field : FieldTree) (shape : FieldShape) → IsField source class field shape → machine.IsGuard code.shape shape.guard
  field_sound class field shape of = guard_sound class field.name shape.guard of.guarded

  -- a class has few fields, and their guards are there
  class_sound : (class : ClassTree) (shape : ClassShape) → IsClass source class shape → IsCleanClass class → machine.IsSoundClass code.shape shape
  class_sound class shape of clean = record {
    few_fields = omega (arith, clean.few_fields, zip_length (IsField source class.name) (fields_of class.members) shape.fields of.fields);
    as_map = λ same. absurd (omega (arith, same, clean.few_fields, zip_length (IsField source class.name) (fields_of class.members) shape.fields of.fields));
    guards = zip_all (IsField source class.name) (λ field. Unit {0}) (λ field. machine.IsGuard code.shape field.guard) (fields_of class.members) shape.fields (λ field shape of_field _. field_sound class.name field shape of_field) of.fields
        (λ k d within. tt);
  }

  -- a class of a text has fewer fields than a map
  few_of_class : (class : ClassTree) (shape : ClassShape) → IsClass source class shape → IsCleanClass class → length shape.fields < map_size
  few_of_class class shape of clean = omega (arith, clean.few_fields, zip_length (IsField source class.name) (fields_of class.members) shape.fields of.fields)

  not_as_many : (n : ℕ) (b : Bool) → n < map_size → eqb n map_size ≡ b → eqb n map_size ≡ false
  not_as_many n true few is = absurd (omega (arith, few, eqb-true n map_size is))
  not_as_many n false few is = is

  -- so none of them is that of maps
  pub no_map : All IsCleanClass (classes_of source.ast.items) → (class : ℕ) → class < length is.shapes → is_map code.shape class ≡ false
  no_map clean class below =
      let at = stands_at is.shapes class below in
      let few : length at.0.fields < map_size =
      all_at (λ one. length one.fields < map_size) is.shapes class at.0
      (zip_all (IsClass source) IsCleanClass (λ one. length one.fields < map_size) (classes_of source.ast.items) is.shapes few_of_class is.classes clean) at.1 in
      ap (λ shape. eqb (length (base.fields_of shape)) map_size) (text_class source code is class below ∙ at.1) ∙ not_as_many (length at.0.fields) (eqb (length at.0.fields) map_size) few refl

  -- the class of maps is sound, where it is there
  maps_there : (makes : Bool) → All (machine.IsSoundClass code.shape) (map_shapes makes)
  maps_there true = All-cons (machine.IsSoundClass code.shape) (record { fields = map_fields }) [] (maps_sound code.shape) (All-nil (machine.IsSoundClass code.shape))
  maps_there false = All-nil (machine.IsSoundClass code.shape)

  -- the shapes of all classes are within the limits
  pub classes_sound : All IsCleanClass (classes_of source.ast.items) → All (machine.IsSoundClass code.shape) code.shape.classes
  classes_sound clean =
      subst (All (machine.IsSoundClass code.shape)) (sym is.all_classes)
      (All-append (machine.IsSoundClass code.shape) is.shapes (map_shapes (makes_map source.ast))
      (zip_all (IsClass source) IsCleanClass (machine.IsSoundClass code.shape) (classes_of source.ast.items) is.shapes class_sound is.classes clean) (maps_there (makes_map source.ast)))

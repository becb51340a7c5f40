-- Single mentions, as the walk judges them: each is a number, or has its fault.
use Rattle.std.proofs.Common.{ℕ, List, [], ◌∷◌, Contains, Ok, Err, refl}
use Rattle.dso_class.specs.declared.fault.NameKind.TheVariants as kind
use Rattle.dso_class.specs.declared.fault.NameFault.TheVariants as fault
use Rattle.dso_config_entries.specs.Words.{Word}
use Rattle.dso_class.specs.Mentions.{Mention, Owner, on, alone, dotted, called, new, call}
use Rattle.dso_class.specs.Numbers.{Numbers, IsNumber}
use Rattle.dso_class.specs.TextProgram.{Source}
use Rattle.dso_class.specs.BodyWalk.{Met, HasMet, IsWalked}
use Rattle.dso_class.specs.NameFaults.{IsClass, IsReachableClass, HasMethod, TakesArguments}
use Rattle.dso_class.specs.Declarations.{all_statics}
use Rattle.dso_class.specs.Maps.{reachable_classes, reachable_methods}
use Rattle.dso_class.specs.Numbers as numbers
use Rattle.dso_class.specs.NameFaults.{HasNoFault}
use Rattle.dso_class.specs.BodyWalk.{HeadMeans}
use Rattle.dso_class.specs.declared.uses.Head.TheVariants as head
use Rattle.dso_class.proofs.rules.InBodies.{alone_fine, alone_fault, dotted_known, dotted_root, called_fine, new_fine, call_fine}
use Rattle.dso_class.proofs.lists.Among.{number_stays}
use Rattle.dso_class.proofs.walks.BodyParts.{made, right_alone, failed_alone}

-- a name by itself that is known
pub alone_found : {source : Source} {owner : Owner} {before : List Mention} {old : Met} (line number : ℕ) (name : Word) → HasMet before old
    → ((Contains old.known name → ⊥) → ⊥) → IsNumber old.variables name number
    → IsWalked source owner before (on line (alone old.known name) ∷ []) old old (λ n number. IsNumber n.variables name number) (Ok number)
alone_found {old = old} line number name has there is_number =
    made (λ n number. IsNumber n.variables name number) (Ok number) number refl
    (right_alone line (alone old.known name) (λ n. IsNumber n.variables name number) refl refl refl has (alone_fine there) (λ words grade goes. number_stays name number goes.variables is_number))

-- a name by itself that is not known
pub alone_unknown : {source : Source} {owner : Owner} {before : List Mention} {old : Met} (line : ℕ) (name : Word) → (Contains old.known name → ⊥)
    → IsWalked source owner before (on line (alone old.known name) ∷ []) old old (λ n number. IsNumber n.variables name number) (Err (fault.At kind.UnknownVariable line))
alone_unknown {old = old} line name unknown = failed_alone line (alone old.known name) kind.UnknownVariable (λ n number. IsNumber n.variables name number) (alone_fault unknown)

-- a name on which a method is called, that is known
pub called_found : {source : Source} {owner : Owner} {before : List Mention} {old : Met} (line number : ℕ) (name : Word) → HasMet before old
    → ((Contains old.known name → ⊥) → ⊥) → IsNumber old.variables name number
    → IsWalked source owner before (on line (called old.known name) ∷ []) old old (λ n number. IsNumber n.variables name number) (Ok number)
called_found {old = old} line number name has there is_number =
    made (λ n number. IsNumber n.variables name number) (Ok number) number refl
    (right_alone line (called old.known name) (λ n. IsNumber n.variables name number) refl refl refl has (called_fine there) (λ words grade goes. number_stays name number goes.variables is_number))

-- a name before a dot that is known
pub dotted_found : {source : Source} {owner : Owner} {before : List Mention} {old : Met} (line number : ℕ) (name behind : Word) → HasMet before old
    → ((Contains old.known name → ⊥) → ⊥) → IsNumber old.variables name number
    → IsWalked source owner before (on line (dotted old.known name behind) ∷ []) old old (HeadMeans name behind) (Ok (head.Variable number))
dotted_found {old = old} line number name behind has there is_number = record {
  answer =
      right_alone line (dotted old.known name behind) (λ n. IsNumber n.variables name number) refl refl refl has (dotted_known there) (λ words grade goes. number_stays name number goes.variables is_number);
}

-- a class before a dot and a static field of it
pub dotted_at_root : {source : Source} {owner : Owner} {before : List Mention} {old : Met} (line number : ℕ) (name behind : Word) → HasMet before old
    → ((IsClass source.ast name → ⊥) → ⊥) → ((Contains (all_statics source.ast.items) (record { class = name; field = behind }) → ⊥) → ⊥)
    → (HasNoFault source.config source.ast → IsNumber (all_statics source.ast.items) (record { class = name; field = behind }) number)
    → IsWalked source owner before (on line (dotted old.known name behind) ∷ []) old old (HeadMeans name behind) (Ok (head.Root number))
dotted_at_root {old = old} line number name behind has class_there root_there is_number = record {
  answer =
      right_alone line (dotted old.known name behind) (λ n. IsNumber n.roots (record { class = name; field = behind }) number) refl refl refl has (dotted_root class_there root_there) (λ words grade goes. is_number goes.no_fault);
}

-- a new object of a class that is there
pub new_found : {source : Source} {owner : Owner} {before : List Mention} {old : Met} (line number : ℕ) (name : Word) → HasMet before old → ((IsReachableClass source.ast name → ⊥) → ⊥)
    → (HasNoFault source.config source.ast → IsNumber (reachable_classes source.ast) name number)
    → IsWalked source owner before (on line (new name) ∷ []) old old (λ n number. IsNumber n.classes name number) (Ok number)
new_found line number name has there is_number = record {
  answer =
      right_alone line (new name) (λ n. IsNumber n.classes name number) refl refl refl has (new_fine there) (λ words grade goes. is_number goes.no_fault);
}

-- a call of methods that are there
pub call_found : {source : Source} {owner : Owner} {before : List Mention} {old : Met} (line count : ℕ) (name : Word) (all : List (ℕ × ℕ)) → HasMet before old → HasMethod source.ast name
    → ((TakesArguments source.ast name count → ⊥) → ⊥) → (HasNoFault source.config source.ast → numbers.AreThePairs (numbers.HasMethod (reachable_methods source.ast) name count) all)
    → IsWalked source owner before (on line (call name count) ∷ []) old old (λ n all. numbers.AreThePairs (numbers.HasMethod n.methods name count) all) (Ok all)
call_found line count name all has some takes pairs = record {
  answer =
      right_alone line (call name count) (λ n. numbers.AreThePairs (numbers.HasMethod n.methods name count) all) refl refl refl has (call_fine some takes) (λ words grade goes. pairs goes.no_fault);
}

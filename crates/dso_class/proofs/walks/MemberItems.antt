-- A member of a class in numbers: a field, and a static field.
use Rattle.std.proofs.Common.{◌≡◌, refl, sym, subst, ℕ, ◌+◌, ◌<◌, ◌≤◌, arith, List, [], ◌∷◌, ◌++◌, length, Contains, append-nil}
use Rattle.std.specs.Borrow.{Bor}
use Rattle.std.specs.List.{AllZip}
use Rattle.dso_base.specs.declared.value.Kind.{Kind}
use Rattle.dso_base.specs.declared.shape.FieldShape.{FieldShape}
use Rattle.dso_base.specs.declared.shape.Guard.{Guard}
use Rattle.dso_syntax.specs.declared.tree.Ident.{Ident}
use Rattle.dso_syntax.specs.declared.tree.Member.TheVariants as member
use Rattle.dso_class.specs.declared.class_item.Resolved.{Resolved}
use Rattle.dso_class.specs.declared.class_item.Setting.{Setting}
use Rattle.dso_class.specs.declared.member.Class.{Class}
use Rattle.dso_config_entries.specs.Words.{Word}
use Rattle.dso_config_entries.specs.BorrowedWords.{words_of}
use Rattle.dso_class.specs.Mentions.{Mention, on, field, static, root}
use Rattle.dso_class.specs.Declarations.{FieldTree}
use Rattle.dso_config_entries.specs.ConfigEntries.{IsRoot}
use Rattle.dso_class.specs.TextProgram.{Source, roots_of, IsField, IsGuard, IsMethod}
use Rattle.dso_class.specs.BodyWalk.{Begins}
use Rattle.dso_class.specs.declared.fault.NameFault.{NameFault}
use Rattle.dso_class.specs.declared.fault.NameFault.TheVariants as fault
use Rattle.dso_class.specs.declared.fault.NameKind.TheVariants as kind
use Rattle.dso_class.specs.declared.fault.What.TheVariants as what
use Rattle.dso_class.specs.Heads.{IsRefused}
use Rattle.dso_class.specs.TextWalk.{IsSetting, IsToldOf, HasMetText, HasMetClass, AreMembersRight}
use Rattle.dso_class.proofs.rules.OfDeclarations.{declared_fine, allowed_fine, allowed_fault, root_rules}
use Rattle.dso_class.proofs.rules.ComposingItems.{told_front, told_behind, told_alone, told_refused}
use Rattle.dso_class.proofs.walks.MetItems.{text_met_field, class_met_field, text_met_root, class_met_root, text_met_static, class_met_static}
use Rattle.dso_class.proofs.rules.MetBefore.{field_ruled, static_ruled}

-- lists side by side, behind lists side by side
pub zip_append : {A B : Type 0} (R : A → B → Type 0) (xs : List A) (ys : List B) (us : List A) (vs : List B) → AllZip R xs ys → AllZip R us vs → AllZip R (xs ++ us) (ys ++ vs)
zip_append R [] [] us vs one other = other
zip_append R [] (y ∷ ys) us vs one other = absurd one
zip_append R (x ∷ xs) [] us vs one other = absurd one
zip_append R (x ∷ xs) (y ∷ ys) us vs one other = (one.0, zip_append R xs ys us vs one.1 other)

-- a list begins with itself
pub begins_itself : {A : Type 0} (xs : List A) → Begins xs xs
begins_itself xs = record { rest = []; is = sym (append-nil xs) }

-- nothing is behind
pub none_behind : {A B : Type 0} (R : A → B → Type 0) (xs : List A) (ys : List B) → AllZip R xs ys → AllZip R (xs ++ []) ys
none_behind R xs ys both = subst (λ zs. AllZip R zs ys) (sym (append-nil xs)) both

-- a field is there in numbers
pub field_right : (source : Source) (setting : Setting) (before : List Mention) (resolved : Resolved) (class : Class) (name : Ident) (line : ℕ) (kind : Kind) (count : ℕ) (members : List (Bor Word)) (fields : List FieldShape) (guard : Guard)
    → IsSetting source setting → HasMetText before resolved → HasMetClass before class → count ≡ length class.fields
    → (Contains (words_of class.members) name.name → ⊥) → count < 64 → words_of members ≡ words_of class.members ++ name.name ∷ [] → fields ≡ class.fields ++ record { kind = kind; guard = guard } ∷ []
    → ((source : Source) → source.config ≡ setting.config.now → source.locks ≡ words_of setting.locks.now → roots_of source ≡ setting.roots → IsGuard source class.name.now name.name guard)
    → AreMembersRight source before (on name.line (field name.name) ∷ []) (member.Field line kind name ∷ []) resolved resolved class (record class { members = members; fields = fields })
field_right source setting before resolved class name line kind count members fields guard set met class_met counts fresh few named pushed guarded =
    let tree : FieldTree = record { name = name.name; kind = kind } in
    let shape : FieldShape = record { kind = kind; guard = guard } in
    record {
      fine = (declared_fine (field_ruled name.name count class_met counts) fresh (λ full. omega (arith, few, full)), tt);
      met = text_met_field before name.line name.name met;
      class_met = class_met_field before name.line name.name members fields shape class_met named pushed;
      grown = begins_itself (words_of resolved.texts);
      name = refl;
      number = refl;
      names = refl;
      classes = refl;
      bodies = refl;
      means = λ goes. record {
        fields = λ trees all.
            subst (λ shapes. AllZip (IsField source class.name.now) (trees ++ tree ∷ []) shapes) (sym pushed)
            (zip_append (IsField source class.name.now) trees class.fields (tree ∷ []) (shape ∷ []) all (record { kind = refl; guarded = guarded source set.config set.locks (set.roots goes.no_fault) }, tt));
        methods = λ trees all. none_behind (IsMethod source) trees resolved.methods all;
      };
    }

-- a static field is there
pub static_right : (source : Source) (setting : Setting) (before : List Mention) (resolved : Resolved) (class : Class) (name : Ident) (line : ℕ) (members : List (Bor Word)) (statics : ℕ)
    → IsSetting source setting → HasMetText before resolved → HasMetClass before class → IsRoot setting.config.now.roots class.name.now name.name
    → (Contains (words_of class.members) name.name → ⊥) → resolved.statics < 16 → words_of members ≡ words_of class.members ++ name.name ∷ [] → statics ≡ resolved.statics + 1
    → AreMembersRight source before (on line (root class.name.now name.name) ∷ on name.line (static name.name) ∷ []) (member.Static line name ∷ []) resolved (record resolved { statics = statics }) class (record class { members = members })
static_right source setting before resolved class name line members statics set met class_met is_root fresh few named more =
    let at = on line (root class.name.now name.name) in
    let there = text_met_root before line class.name.now name.name met in
    let class_there = class_met_root before line class.name.now name.name class_met in
    let is : IsRoot source.config.roots class.name.now name.name = subst (λ config. IsRoot config.roots class.name.now name.name) (sym set.config) is_root in
    record {
      fine = (allowed_fine (root_rules class.name.now name.name) (λ refused. refused is), (declared_fine (static_ruled name.name class_there there) fresh (λ full. omega (arith, few, full)), tt));
      met = text_met_static (at ∷ before) name.line name.name statics there more;
      class_met = class_met_static (at ∷ before) name.line name.name members class_there named;
      grown = begins_itself (words_of resolved.texts);
      name = refl;
      number = refl;
      names = refl;
      classes = refl;
      bodies = refl;
      means = λ goes. record {
        fields = λ trees all. none_behind (IsField source class.name.now) trees class.fields all;
        methods = λ trees all. none_behind (IsMethod source) trees resolved.methods all;
      };
    }

-- a static field that is no root, and one whose name is refused
pub not_root : (source : Source) (setting : Setting) (before : List Mention) (class : Class) (name : Ident) (line : ℕ) → IsSetting source setting → (IsRoot setting.config.now.roots class.name.now name.name → ⊥)
    → IsToldOf source before (on line (root class.name.now name.name) ∷ on name.line (static name.name) ∷ []) (fault.At kind.UnknownRoot line)
not_root source setting before class name line set none =
    let refused : IsRoot source.config.roots class.name.now name.name → ⊥ = subst (λ config. IsRoot config.roots class.name.now name.name → ⊥) (sym set.config) none in
    told_front source before (on line (root class.name.now name.name) ∷ []) (on name.line (static name.name) ∷ []) (fault.At kind.UnknownRoot line)
    (told_alone source before line (root class.name.now name.name) kind.UnknownRoot (allowed_fault (root_rules class.name.now name.name) refused))

pub static_refused : (source : Source) (setting : Setting) (before : List Mention) (resolved : Resolved) (class : Class) (name : Ident) (line : ℕ)
    → IsSetting source setting → HasMetText before resolved → HasMetClass before class → IsRoot setting.config.now.roots class.name.now name.name
    → (e : NameFault) → IsRefused (Contains (words_of class.members) name.name) (16 ≤ resolved.statics) what.Statics name.line e
    → IsToldOf source before (on line (root class.name.now name.name) ∷ on name.line (static name.name) ∷ []) e
static_refused source setting before resolved class name line set met class_met is_root e refused =
    let at = on line (root class.name.now name.name) in
    let is : IsRoot source.config.roots class.name.now name.name = subst (λ config. IsRoot config.roots class.name.now name.name) (sym set.config) is_root in
    told_behind source before (at ∷ []) (on name.line (static name.name) ∷ []) e (allowed_fine (root_rules class.name.now name.name) (λ refused. refused is), tt)
    (told_refused source (at ∷ before) name.line (static name.name) e (static_ruled name.name (class_met_root before line class.name.now name.name class_met) (text_met_root before line class.name.now name.name met)) refused)

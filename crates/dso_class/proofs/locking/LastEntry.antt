-- One item alone is the last of its kind, and one level alone is that of an autolock.
use Rattle.std.proofs.Common.{◌≡◌, List, [], ◌∷◌, ◌++◌, All, Option, Some, None, option_map, refl, sym, subst, ap, ◌∙◌}
use Rattle.std.proofs.lemmas.List.Elements.{All-head, All-tail}
use Rattle.dso_base.specs.declared.lock.Grade.{Grade}
use Rattle.dso_config.specs.declared.config.Config.{Config}
use Rattle.dso_syntax.specs.declared.tree.Ast.{Ast}
use Rattle.dso_class.specs.declared.fault.NameKind.TheVariants as kind
use Rattle.dso_config_entries.specs.Words.{Word}
use Rattle.dso_config_entries.specs.LastAndFirst.{LastWith, last, nothing, LastGives}
use Rattle.dso_class.specs.Mentions.{Mention, synchronized}
use Rattle.dso_class.specs.NameFaults.{no_autolock}
use Rattle.dso_class.specs.FaultsAmong.{IsFine, IsFault}
use Rattle.dso_class.specs.TextProgram.{IsAutolock}
use Rattle.dso_class.proofs.rules.InBodies.{same_rank, synchronized_breaks}

-- what holds of all items holds of one in the middle
at_middle : {A : Type 0} (P : A → Type 0) (xs : List A) (y : A) (ys : List A) → All P (xs ++ y ∷ ys) → P y
at_middle P [] y ys all = All-head P y ys all
at_middle P (x ∷ xs) y ys all = at_middle P xs y ys (All-tail P x (xs ++ y ∷ ys) all)

-- the last items of one list are one
same_last : {A : Type 0} (P : A → Type 0) (before other after behind : List A) (x y : A) → before ++ x ∷ after ≡ other ++ y ∷ behind → P x → P y → All (λ z. P z → ⊥) after → All (λ z. P z → ⊥) behind → x ≡ y
same_last P [] [] after behind x y same holds too none nor = cc same
same_last P [] (z ∷ other) after behind x y same holds too none nor =
    let rest : after ≡ other ++ y ∷ behind = cc same in
    absurd (at_middle (λ z. P z → ⊥) other y behind (subst (All (λ z. P z → ⊥)) rest none) too)
same_last P (z ∷ before) [] after behind x y same holds too none nor =
    let rest : behind ≡ before ++ x ∷ after = cc same in
    absurd (at_middle (λ z. P z → ⊥) before x after (subst (All (λ z. P z → ⊥)) rest nor) holds)
same_last P (z ∷ before) (w ∷ other) after behind x y same holds too none nor =
    let rest : before ++ x ∷ after ≡ other ++ y ∷ behind = cc same in
    same_last P before other after behind x y rest holds too none nor

-- one item is the last, or none is
pub last_unique : {A : Type 0} {P : A → Type 0} {xs ys : List A} {one other : Option A} → LastWith P xs one → LastWith P ys other → xs ≡ ys → one ≡ other
last_unique {P = P} (last before after x holds none) (last other behind y too nor) same = ap Some (same_last P before other after behind x y same holds too none nor)
last_unique {P = P} (last before after x holds none) (nothing nor) same = absurd (at_middle (λ z. P z → ⊥) before x after (subst (All (λ z. P z → ⊥)) (sym same) nor) holds)
last_unique {P = P} (nothing nor) (last before after x holds none) same = absurd (at_middle (λ z. P z → ⊥) before x after (subst (All (λ z. P z → ⊥)) same nor) holds)
last_unique (nothing none) (nothing nor) same = refl

-- the last item gives one value
pub gives_unique : {A B : Type 0} {P : A → Type 0} {f : A → B} {xs : List A} {one other : Option B} → LastGives P f xs one → LastGives P f xs other → one ≡ other
gives_unique {f = f} first second = first.is ∙ ap (option_map f) (last_unique first.last second.last refl) ∙ sym second.is

-- nothing is given where no item is the last
none_given : {A B : Type 0} (P : A → Type 0) (f : A → B) (xs : List A) (item : Option A) → LastWith P xs item → ◌≡◌ {A = Option B} None (option_map f item) → LastWith P xs None
none_given P f xs None none is = none
none_given P f xs (Some x) some is = cc is

pub gives_none : {A B : Type 0} {P : A → Type 0} {f : A → B} {xs : List A} → LastGives P f xs None → LastWith P xs None
gives_none {P = P} {f} {xs} given = none_given P f xs given.item given.last given.is

-- a method with an autolock has one level
pub autolock_unique : (config : Config) (class method : Word) {one other : Option Grade} → IsAutolock config class method one → IsAutolock config class method other → one ≡ other
autolock_unique config class method first second = gives_unique first second

-- `synchronized` is fine where an autolock is for the method, and has its fault where none is
pub synchronized_fine : {config : Config} {ast : Ast} {before : List Mention} {class method : Word} {grade : Grade} → IsAutolock config class method (Some grade) → IsFine config ast before (synchronized class method)
synchronized_fine given which broken =
    let none = (synchronized_breaks broken).0 in
    cc (gives_unique given (record { item = None; last = none; is = refl }))

pub synchronized_fault : {config : Config} {ast : Ast} {before : List Mention} {class method : Word} → IsAutolock config class method None → IsFault config ast before (synchronized class method) kind.NoAutolock
synchronized_fault given = record { breaks = no_autolock (gives_none given); least = λ other broken. same_rank kind.NoAutolock other (synchronized_breaks broken).1 }

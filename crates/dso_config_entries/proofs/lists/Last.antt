-- The last item with which something holds, as a list grows at its end.
use Rattle.std.proofs.Common.{◌≡◌, ℕ, suc, ◌+◌, ◌<◌, ◌≤◌, arith, List, [], ◌∷◌, ◌++◌, length, take, get_or, Option, Some, None, refl, sym, subst, ap, ◌∙◌, append_assoc}
use Rattle.std.proofs.Math.Seq.{take-suc}
use Rattle.std.proofs.lemmas.List.{take_all}
use Rattle.std.proofs.lemmas.List.Elements.{All-nil, All-push}
use Rattle.dso_base.specs.declared.lock.Grade.{Grade}
use Rattle.dso_base.specs.declared.lock.Grade.TheVariants as grade
use Rattle.dso_config.specs.declared.config.AutoEntry.{AutoEntry}
use Rattle.dso_config.specs.declared.config.GuardEntry.{GuardEntry}
use Rattle.dso_config.specs.declared.config.NamedEntry.{NamedEntry}
use Rattle.dso_config.specs.declared.config.Config.{Config}
use Rattle.dso_config.specs.declared.pattern.Pattern.TheVariants as pattern
use Rattle.dso_config_entries.specs.Words.{Word}
use Rattle.dso_config_entries.specs.ConfigEntries.{Matches, Guards, IsAutolock, autolocks, autolocks_of}
use Rattle.dso_config_entries.specs.LastAndFirst.{LastWith, last, nothing, LastGives}

-- a last item is last in a longer list where the new one is not of its kind
pub kept : {A : Type 0} (P : A → Type 0) (xs : List A) (x : A) (item : Option A) → LastWith P xs item → (P x → ⊥) → LastWith P (xs ++ x ∷ []) item
kept P _ x _ (last before after y holds later) fails =
    subst (λ whole. LastWith P whole (Some y)) (sym (append_assoc before (y ∷ after) (x ∷ []))) (last before (after ++ x ∷ []) y holds (All-push (λ y. P y → ⊥) after x later fails))
kept P xs x _ (nothing none) fails = nothing (All-push (λ y. P y → ⊥) xs x none fails)

-- no item of the empty list gives anything
pub gives_empty : {A B : Type 0} (P : A → Type 0) (f : A → B) → LastGives P f [] None
gives_empty P f = record { item = None; last = nothing (All-nil (λ y. P y → ⊥)); is = refl }

-- an item of its kind is the last
pub gives_new : {A B : Type 0} (P : A → Type 0) (f : A → B) (xs : List A) (x : A) → P x → LastGives P f (xs ++ x ∷ []) (Some (f x))
gives_new P f xs x holds = record { item = Some x; last = last xs [] x holds (All-nil (λ y. P y → ⊥)); is = refl }

-- an item of another kind changes nothing
pub gives_kept : {A B : Type 0} (P : A → Type 0) (f : A → B) (xs : List A) (x : A) (given : Option B) → LastGives P f xs given → (P x → ⊥) → LastGives P f (xs ++ x ∷ []) given
gives_kept P f xs x given before fails = record { item = before.item; last = kept P xs x before.item before.last fails; is = before.is }

-- the front of a list with one more item
pub taken : {A : Type 0} (xs : List A) (i : ℕ) (x : A) → i < length xs → x ≡ get_or xs i x → take (i + 1) xs ≡ take i xs ++ x ∷ []
taken xs i x below is =
    let later : i + 1 ≡ suc i = omega arith in
    ap (λ n. take n xs) later ∙ take-suc xs i x below ∙ ap (λ y. take i xs ++ y ∷ []) (sym is)

-- one more item of its kind, and one of another kind
pub taken_new : {A B : Type 0} (P : A → Type 0) (f : A → B) (xs : List A) (i : ℕ) (x : A) → i < length xs → x ≡ get_or xs i x → P x → LastGives P f (take (i + 1) xs) (Some (f x))
taken_new P f xs i x below is holds = subst (λ front. LastGives P f front (Some (f x))) (sym (taken xs i x below is)) (gives_new P f (take i xs) x holds)

pub taken_kept : {A B : Type 0} (P : A → Type 0) (f : A → B) (xs : List A) (i : ℕ) (x : A) (given : Option B) → i < length xs → x ≡ get_or xs i x →
    LastGives P f (take i xs) given → (P x → ⊥) → LastGives P f (take (i + 1) xs) given
taken_kept P f xs i x given below is before fails = subst (λ front. LastGives P f front given) (sym (taken xs i x below is)) (gives_kept P f (take i xs) x given before fails)

-- the whole list
pub taken_all : {A B : Type 0} (P : A → Type 0) (f : A → B) (xs : List A) (i : ℕ) (given : Option B) → length xs ≤ i → LastGives P f (take i xs) given → LastGives P f xs given
taken_all P f xs i given all = subst (λ front. LastGives P f front given) (take_all i xs all)

-- the autolocks where they are spoken of, where only named locks are, and where neither is
pub locks_spoken : (config : Config) (all : List AutoEntry) → config.autolocks ≡ Some all → autolocks_of config ≡ all
locks_spoken config all is = ap (λ own. autolocks own config.named) is

pub locks_named : (config : Config) (all : List NamedEntry) → config.autolocks ≡ None → config.named ≡ Some all → autolocks_of config ≡ []
locks_named config all none is = ap (λ own. autolocks own config.named) none ∙ ap (autolocks None) is

pub locks_default : (config : Config) → config.autolocks ≡ None → config.named ≡ None → autolocks_of config ≡ record { method = pattern.All; grade = grade.Write } ∷ []
locks_default config none unnamed = ap (λ own. autolocks own config.named) none ∙ ap (autolocks None) unnamed

-- what each of them makes of a method
pub autolock_spoken : (config : Config) (class method : Word) (all : List AutoEntry) (given : Option Grade) → config.autolocks ≡ Some all
    → LastGives (λ entry. Matches entry.method class method) (λ entry. entry.grade) all given → IsAutolock config class method given
autolock_spoken config class method all given is = subst (λ all. LastGives (λ entry. Matches entry.method class method) (λ entry. entry.grade) all given) (sym (locks_spoken config all is))

pub autolock_named : (config : Config) (class method : Word) (all : List NamedEntry) → config.autolocks ≡ None → config.named ≡ Some all → IsAutolock config class method None
autolock_named config class method all none is =
    subst (λ all. LastGives (λ entry. Matches entry.method class method) (λ entry. entry.grade) all None) (sym (locks_named config all none is))
    (gives_empty (λ (entry : AutoEntry). Matches entry.method class method) (λ entry. entry.grade))

pub autolock_default : (config : Config) (class method : Word) → config.autolocks ≡ None → config.named ≡ None → IsAutolock config class method (Some grade.Write)
autolock_default config class method none unnamed =
    subst (λ all. LastGives (λ entry. Matches entry.method class method) (λ entry. entry.grade) all (Some grade.Write)) (sym (locks_default config none unnamed))
    (gives_new (λ (entry : AutoEntry). Matches entry.method class method) (λ entry. entry.grade) [] (record { method = pattern.All; grade = grade.Write }) tt)

-- the last entry of these for the method gives this level
abbrev pub Gives : List AutoEntry → Word → Word → Option Grade → Type 0
Gives all class method given = LastGives (λ entry. Matches entry.method class method) (λ entry. entry.grade) all given

-- the last item of no item, of one item more, of all items
pub last_new : {A : Type 0} (P : A → Type 0) (xs : List A) (i : ℕ) (x : A) → i < length xs → x ≡ get_or xs i x → P x → LastWith P (take (i + 1) xs) (Some x)
last_new P xs i x below is holds = subst (λ front. LastWith P front (Some x)) (sym (taken xs i x below is)) (last (take i xs) [] x holds (All-nil (λ y. P y → ⊥)))

pub last_kept : {A : Type 0} (P : A → Type 0) (xs : List A) (i : ℕ) (x : A) (item : Option A) → i < length xs → x ≡ get_or xs i x → LastWith P (take i xs) item → (P x → ⊥)
    → LastWith P (take (i + 1) xs) item
last_kept P xs i x item below is before fails = subst (λ front. LastWith P front item) (sym (taken xs i x below is)) (kept P (take i xs) x item before fails)

pub last_of_all : {A : Type 0} (P : A → Type 0) (xs : List A) (i : ℕ) (item : Option A) → length xs ≤ i → LastWith P (take i xs) item → LastWith P xs item
last_of_all P xs i item all = subst (λ front. LastWith P front item) (take_all i xs all)

-- the lock's entry for a method, and the guard for a field
abbrev pub IsNamed : List NamedEntry → Word → Word → Option NamedEntry → Type 0
IsNamed all class method item = LastWith (λ entry. Matches entry.method class method) all item

abbrev pub IsGuarded : List GuardEntry → Word → Word → Option GuardEntry → Type 0
IsGuarded all class field item = LastWith (λ entry. Guards entry class field) all item

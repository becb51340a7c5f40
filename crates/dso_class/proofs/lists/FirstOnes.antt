-- What is found among the first ones of a list, and what number it has.
use Rattle.std.proofs.Common.{ℕ, ◌≡◌, ◌≢◌, ◌↔◌, ◌<◌, ◌≤◌, ◌^◌, arith, sym, subst, ◌∙◌, inl, inr, Some, List, [], ◌∷◌, ◌++◌, length, AllPairs, Contains, slice_get}
use Rattle.std.proofs.lemmas.List.Elements.{Contains-append_left, Contains-push, Contains-push_cases}
use Rattle.std.proofs.lemmas.Option.{slice_get_within}
use Rattle.dso_class.specs.Gathered.{capped}
use Rattle.dso_config_entries.specs.LastAndFirst.{AreFirsts, empty, again, fresh}
use Rattle.dso_class.proofs.gathering.Distinct.{firsts_same}
use Rattle.dso_class.proofs.gathering.FieldsAndMethods.{capped_small}
use Rattle.dso_class.proofs.locking.LockNumbers.{firsts_have}

-- each of the first ones is there
pub firsts_from : {A : Type 0} (xs : List A) (firsts : List A) (x : A) → AreFirsts xs firsts → Contains firsts x → Contains xs x
firsts_from _ _ x empty there = there
firsts_from _ firsts x (again {xs = xs} {x = y} before has) there = Contains-append_left xs (y ∷ []) x (firsts_from xs firsts x before there)
firsts_from _ _ x (fresh {xs = xs} {firsts = firsts} {x = y} before missing) there = elim (Contains-push_cases firsts y x there) [
  | inl earlier ↦ Contains-append_left xs (y ∷ []) x (firsts_from xs firsts x before earlier)
  | inr same ↦ subst (Contains (xs ++ y ∷ [])) same (Contains-push xs y)
]

-- what is missing among the first ones is missing
pub missing : {A N : Type 0} (xs : List A) (firsts : List A) (x : A) → AreFirsts xs firsts → N ↔ (Contains firsts x → ⊥) → N ↔ (Contains xs x → ⊥)
missing xs firsts x are tells = (λ none there. tells.0 none (firsts_have xs firsts x are there), λ fails. tells.1 (λ there. fails (firsts_from xs firsts x are there)))

-- the number of a thing among the first ones is its number, where things differ and are few
pub numbered : {A : Type 0} (xs : List A) (firsts : List A) (x : A) (place number : ℕ) → AreFirsts xs firsts → AllPairs (λ y z. y ≢ z) xs → length xs ≤ 2 ^ 32
    → slice_get firsts place ≡ Some x → number ≡ capped place → slice_get xs number ≡ Some x
numbered xs firsts x place number are differ few stands is =
    let same = firsts_same xs firsts are differ in
    let there : slice_get xs place ≡ Some x = subst (λ all. slice_get all place ≡ Some x) same stands in
    let within = slice_get_within xs place x there in
    let small : place < 2 ^ 32 = omega arith in
    subst (λ n. slice_get xs n ≡ Some x) (sym (is ∙ capped_small place small)) there

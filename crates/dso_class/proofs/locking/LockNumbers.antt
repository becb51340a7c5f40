-- The lock of each entry has a number.
use Rattle.std.proofs.Common.{◌≡◌, ℕ, ◌+◌, sym, subst, ap, ◌∙◌, inl, inr, Option, Some, None, option_map, option_copied, List, [], ◌∷◌, ◌++◌, map, Contains}
use Rattle.std.proofs.lemmas.List.Elements.{Contains-append_left, Contains-append_right, Contains-push, Contains-push_cases}
use Rattle.std.proofs.lemmas.Option.{slice_get-map, slice_get-get_or}
use Rattle.std.specs.Borrow.{Bor}
use Rattle.dso_config_entries.specs.LastAndFirst.{AreFirsts, empty, again, fresh, LastWith, last}
use Rattle.dso_config_entries.specs.Words.{Word}
use Rattle.dso_base.specs.declared.shape.Guard.TheVariants as guard
use Rattle.dso_config.specs.declared.config.Config.{Config}
use Rattle.dso_config.specs.declared.config.GuardEntry.{GuardEntry}
use Rattle.dso_config.specs.declared.config.NamedEntry.{NamedEntry}
use Rattle.dso_config.specs.InRange.{entries}
use Rattle.dso_config_entries.specs.ConfigEntries.{lock_mentions}
use Rattle.dso_config_entries.specs.LockNumbers.{IsLockNumber}
use Rattle.dso_class.specs.Numbers.{IsNumber}
use Rattle.dso_class.specs.TextProgram.{Source, roots_of, IsNamedLock, IsGuard, named, nothing, own}
use Rattle.dso_config_entries.proofs.lists.Last.{IsNamed, IsGuarded}
use Rattle.dso_config_entries.proofs.lists.Places.{nowhere, stands_there}

-- the first ones have each item
pub firsts_have : {A : Type 0} (xs : List A) (firsts : List A) (x : A) → AreFirsts xs firsts → Contains xs x → Contains firsts x
firsts_have _ _ x empty there = absurd (nowhere x there)
firsts_have _ firsts x (again {xs = xs} {x = y} before has) there = elim (Contains-push_cases xs y x there) [
  | inl earlier ↦ firsts_have xs firsts x before earlier
  | inr same ↦ subst (Contains firsts) same has
]
firsts_have _ _ x (fresh {xs = xs} {firsts = firsts} {x = y} before missing) there = elim (Contains-push_cases xs y x there) [
  | inl earlier ↦ Contains-append_left firsts (y ∷ []) x (firsts_have xs firsts x before earlier)
  | inr same ↦ subst (Contains (firsts ++ y ∷ [])) same (Contains-push firsts y)
]

-- the last item of its kind is there
pub last_there : {A : Type 0} (P : A → Type 0) (xs : List A) (x : A) → LastWith P xs (Some x) → Contains xs x
last_there P _ x (last before after _ holds later) = Contains-append_right before (x ∷ after) x (Contains-append_left (x ∷ []) after x (Contains-push [] x))

-- what is made of an item that is there, is there
pub contains_map : {A B : Type 0} (f : A → B) (xs : List A) (x : A) → Contains xs x → Contains (map f xs) (f x)
contains_map f xs x there = stands_there (map f xs) (f x) there.0 (slice_get-map f xs there.0 ∙ ap (option_map f) (slice_get-get_or xs there.0 x there.1 ∙ ap Some there.2))

-- the last item in a slice that holds a list
pub lent_last : {A : Type 0} (P : A → Type 0) (all slice : List A) (found : Option (Bor A)) (item : Option (Bor A)) → slice ≡ all → found ≡ item
    → LastWith P slice (option_copied found) → LastWith P all (option_copied item)
lent_last P all slice found item spelt is holds =
    subst (λ xs. LastWith P xs (option_copied item)) spelt (subst (λ which. LastWith P slice (option_copied which)) is holds)

-- the names of entries are among those of the locks
pub guard_there : (config : Config) (locks : List Word) (class field : Word) (entry : GuardEntry) → AreFirsts (lock_mentions config) locks → IsGuarded config.guards class field (Some entry) → Contains locks entry.lock
guard_there config locks class field entry firsts is =
    firsts_have (lock_mentions config) locks entry.lock firsts
    (Contains-append_right (map (λ e. e.name) (entries config.named)) (map (λ e. e.lock) config.guards) entry.lock
    (contains_map (λ e. e.lock) config.guards entry (last_there _ config.guards entry is)))

pub named_there : (config : Config) (locks : List Word) (class method : Word) (entry : NamedEntry) → AreFirsts (lock_mentions config) locks → IsNamed (entries config.named) class method (Some entry) → Contains locks entry.name
named_there config locks class method entry firsts is =
    firsts_have (lock_mentions config) locks entry.name firsts
    (Contains-append_left (map (λ e. e.name) (entries config.named)) (map (λ e. e.lock) config.guards) entry.name
    (contains_map (λ e. e.name) (entries config.named) entry (last_there _ (entries config.named) entry is)))

module _ (source : Source) (config : Config) (locks : List Word) (roots : ℕ) (of_config : source.config ≡ config) (of_locks : source.locks ≡ locks) (of_roots : roots_of source ≡ roots) where
  -- the number of a lock, in the words of the source
  number_in : (name : Word) (lock : ℕ) → (is : IsLockNumber locks roots name lock) → roots_of source + is.number ≡ lock
  number_in name lock is = ap (λ r. r + is.number) of_roots ∙ sym is.behind_roots

  -- guards and named locks by their numbers
  pub guard_named : (class field : Word) (entry : GuardEntry) (lock : ℕ) → IsGuarded config.guards class field (Some entry) → IsLockNumber locks roots entry.lock lock → IsGuard source class field (guard.Name lock)
  guard_named class field entry lock latest is =
      subst (λ n. IsGuard source class field (guard.Name n)) (number_in entry.lock lock is)
      (named is.number entry (subst (λ c. IsGuarded c.guards class field (Some entry)) (sym of_config) latest) (subst (λ all. IsNumber all entry.lock is.number) (sym of_locks) is.of_name))

  pub guard_own : (class field : Word) → IsGuarded config.guards class field None → IsGuard source class field guard.Own
  guard_own class field none = own (subst (λ c. IsGuarded c.guards class field None) (sym of_config) none)

  pub lock_named : (class method : Word) (entry : NamedEntry) (lock : ℕ) → IsNamed (entries config.named) class method (Some entry) → IsLockNumber locks roots entry.name lock
      → IsNamedLock source class method (Some (lock, entry.grade))
  lock_named class method entry lock latest is =
      subst (λ n. IsNamedLock source class method (Some (n, entry.grade))) (number_in entry.name lock is)
      (named is.number entry (subst (λ c. IsNamed (entries c.named) class method (Some entry)) (sym of_config) latest) (subst (λ all. IsNumber all entry.name is.number) (sym of_locks) is.of_name))

  pub lock_none : (class method : Word) → IsNamed (entries config.named) class method None → IsNamedLock source class method None
  lock_none class method none = nothing (subst (λ c. IsNamed (entries c.named) class method None) (sym of_config) none)

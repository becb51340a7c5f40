-- What holds of each item, under more tests and in lists made of others.
use Rattle.std.proofs.Common.{List, [], ◌∷◌, map, flat_map}
use Rattle.std.specs.List.{AllByRecursion}
use Rattle.dso_server.proofs.lists.Lists.{each_append, each_before, each_behind}

-- a weaker fact
pub each_weaker : {X : Type 0} (P Q : X → Type 0) → ((x : X) → P x → Q x) → (xs : List X) → AllByRecursion P xs → AllByRecursion Q xs
each_weaker P Q weaker [] all = tt
each_weaker P Q weaker (x ∷ xs) all = (weaker x all.0, each_weaker P Q weaker xs all.1)

-- two facts at once
pub each_both : {X : Type 0} (P Q : X → Type 0) (xs : List X) → AllByRecursion P xs → AllByRecursion Q xs → AllByRecursion (λ x. P x × Q x) xs
each_both P Q [] first second = tt
each_both P Q (x ∷ xs) first second = ((first.0, second.0), each_both P Q xs first.1 second.1)

module _ {X Y : Type 0} (P : Y → Type 0) where
  -- lists one behind the other
  pub each_flat : (f : X → List Y) (xs : List X) → AllByRecursion (λ x. AllByRecursion P (f x)) xs → AllByRecursion P (flat_map f xs)
  each_flat f [] all = tt
  each_flat f (x ∷ xs) all = each_append P (f x) (flat_map f xs) all.0 (each_flat f xs all.1)

  pub each_list : (f : X → List Y) (xs : List X) → AllByRecursion P (flat_map f xs) → AllByRecursion (λ x. AllByRecursion P (f x)) xs
  each_list f [] all = tt
  each_list f (x ∷ xs) all = (each_before P (f x) (flat_map f xs) all, each_list f xs (each_behind P (f x) (flat_map f xs) all))

  -- what is made of each
  pub each_made : (f : X → Y) (xs : List X) → AllByRecursion (λ x. P (f x)) xs → AllByRecursion P (map f xs)
  each_made f [] all = tt
  each_made f (x ∷ xs) all = (all.0, each_made f xs all.1)

  pub each_maker : (f : X → Y) (xs : List X) → AllByRecursion P (map f xs) → AllByRecursion (λ x. P (f x)) xs
  each_maker f [] all = tt
  each_maker f (x ∷ xs) all = (all.0, each_maker f xs all.1)

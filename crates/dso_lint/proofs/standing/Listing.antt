-- Lists of what stands in others: one behind the other, and what they have.
use Rattle.std.proofs.Common.{◌≡◌, ◌⊎◌, inl, inr, refl, List, [], ◌∷◌, ◌++◌, sym, subst, ap, ◌∙◌, append_assoc, append-nil}
use Rattle.std.specs.Prelude.{Contains}
use Rattle.std.specs.Borrow.{Bor}
use Rattle.std.proofs.lemmas.List.Elements.{All-nil, All-cons, All-append, All-weaker, Contains-append_left, Contains-append_right, Contains-push}
use Rattle.dso_lint.specs.Lists.{Lists, Adds}

module _ {X : Type 0} where
  pub lists_none : (P : X → Type 0) → ((x : X) → P x → ⊥) → Lists P []
  lists_none P never = record { only = All-nil (λ (item : Bor X). P item.now); all = λ x is. absurd (never x is) }

  pub lists_one : (item : Bor X) → Lists (λ x. item.now ≡ x) (item ∷ [])
  lists_one item = record {
    only = All-cons (λ (one : Bor X). item.now ≡ one.now) item [] refl (All-nil (λ (one : Bor X). item.now ≡ one.now));
    all = λ x is. (item, Contains-push [] item, is);
  }

  pub lists_both : (P Q : X → Type 0) (a b : List (Bor X)) → Lists P a → Lists Q b → Lists (λ x. P x ⊎ Q x) (a ++ b)
  lists_both P Q a b first second = record {
    only = All-append (λ (item : Bor X). P item.now ⊎ Q item.now) a b
        (All-weaker (λ (item : Bor X). P item.now) (λ (item : Bor X). P item.now ⊎ Q item.now) (λ item is. inl is) a first.only)
        (All-weaker (λ (item : Bor X). Q item.now) (λ (item : Bor X). P item.now ⊎ Q item.now) (λ item is. inr is) b second.only);
    all = found;
  }
    where
      found : (x : X) → P x ⊎ Q x → (item : Bor X) × Contains (a ++ b) item × (item.now ≡ x)
      found x (inl is) = let at = first.all x is in (at.0, Contains-append_left a b at.0 at.1, at.2)
      found x (inr is) = let at = second.all x is in (at.0, Contains-append_right a b at.0 at.1, at.2)

  pub lists_as : (P Q : X → Type 0) (list : List (Bor X)) → ((x : X) → P x → Q x) → ((x : X) → Q x → P x) → Lists P list → Lists Q list
  lists_as P Q list so back lists = record {
    only = All-weaker (λ (item : Bor X). P item.now) (λ (item : Bor X). Q item.now) (λ item is. so item.now is) list lists.only;
    all = λ x is. lists.all x (back x is);
  }

  -- ---- what is added

  pub adds_none : (P : X → Type 0) (old : List (Bor X)) → ((x : X) → P x → ⊥) → Adds P old old
  adds_none P old never = record { added = []; lists = lists_none P never; behind = sym (append-nil old) }

  pub adds_one : (old new : List (Bor X)) (item : Bor X) → new ≡ old ++ item ∷ [] → Adds (λ x. item.now ≡ x) old new
  adds_one old new item is = record { added = item ∷ []; lists = lists_one item; behind = is }

  pub adds_both : (P Q : X → Type 0) (old mid new : List (Bor X)) → Adds P old mid → Adds Q mid new → Adds (λ x. P x ⊎ Q x) old new
  adds_both P Q old mid new a b = record {
    added = a.added ++ b.added;
    lists = lists_both P Q a.added b.added a.lists b.lists;
    behind = b.behind ∙ ap (λ xs. xs ++ b.added) a.behind ∙ append_assoc old a.added b.added;
  }

  pub adds_as : (P Q : X → Type 0) (old new : List (Bor X)) → ((x : X) → P x → Q x) → ((x : X) → Q x → P x) → Adds P old new → Adds Q old new
  adds_as P Q old new so back a = record { added = a.added; lists = lists_as P Q a.added so back a.lists; behind = a.behind }

  pub adds_to_none : (P : X → Type 0) (new : List (Bor X)) → Adds P [] new → Lists P new
  adds_to_none P new a = subst (Lists P) (sym a.behind) a.lists

  pub adds_to_empty : (P : X → Type 0) (old new : List (Bor X)) → old ≡ [] → Adds P old new → Lists P new
  adds_to_empty P old new none a = adds_to_none P new (subst (λ xs. Adds P xs new) none a)

-- What is published of a value, by the search for what is found from it.
use Rattle.std.proofs.Common.{ℕ, ◌≡◌, ◌↔◌, ◌⊎◌, inl, inr, refl, sym, ◌∙◌, ap, subst, Bool, true, false, cond, eqb, ◌||◌, is_some, IsTrue, Option, Some, List, [], ◌∷◌, ◌++◌, map}
use Rattle.std.proofs.lemmas.Bool.{eqb-true}
use Rattle.std.proofs.lemmas.List.{append-nil}
use Rattle.std.proofs.lemmas.List.Folds.{list_any-append}
use Rattle.std.specs.Ordering.{nat_cmp}
use Rattle.std.specs.BTreeSet.{BTreeSet, contains}
use Rattle.dso_base.specs.declared.record.Body.{Body}
use Rattle.dso_base.specs.declared.value.Value.{Value}
use Rattle.dso_base.specs.declared.value.Value.TheVariants as value
use Rattle.dso_base.specs.Block.{body_in, has_reference, body_names, is_published}
use Rattle.dso_base.specs.Reach.{Reached}
use Rattle.dso_lookup.specs.Reaching.{IsListed}
use Rattle.dso_lookup.specs.Search.{is_listed}
use Rattle.dso_lookup.proofs.Reaching.{reach_tells}
use Rattle.dso_lookup.proofs.Tests.{same_tests}
use Rattle.dso_change.specs.Hands.{with_references}

-- one test, or one more, or others
regrouped : (a b c : Bool) → ((a || (b || false)) || c) ≡ (a || (b || c))
regrouped true b c = refl
regrouped false true c = refl
regrouped false false c = refl

-- nothing more
or_false : (a : Bool) → a ≡ (a || false)
or_false true = refl
or_false false = refl

-- the list of references has exactly the objects that the values name, behind those before
pub references_listed : (values : List Value) (objects : List ℕ) (o : ℕ) → is_listed o (with_references values objects) ≡ (is_listed o objects || has_reference o values)
references_listed [] objects o = or_false (is_listed o objects)
references_listed (value.Ref n ∷ values) objects o = references_listed values (objects ++ n ∷ []) o ∙ ap (λ b. b || has_reference o values) (list_any-append (λ x. eqb x o) objects (n ∷ [])) ∙ regrouped (is_listed o objects) (eqb n o) (has_reference o values)
references_listed (value.Null ∷ values) objects o = references_listed values (objects ++ []) o ∙ ap (λ xs. is_listed o xs || has_reference o values) (append-nil objects)
references_listed (value.Long n ∷ values) objects o = references_listed values (objects ++ []) o ∙ ap (λ xs. is_listed o xs || has_reference o values) (append-nil objects)
references_listed (value.Bool b ∷ values) objects o = references_listed values (objects ++ []) o ∙ ap (λ xs. is_listed o xs || has_reference o values) (append-nil objects)
references_listed (value.Text n ∷ values) objects o = references_listed values (objects ++ []) o ∙ ap (λ xs. is_listed o xs || has_reference o values) (append-nil objects)

-- a private object is one of the private objects
listed_among : (bodies : List Body) (o : ℕ) → is_some (body_in o bodies) ≡ true → IsListed o (map (λ body. body.object) bodies)
listed_among [] o e = absurd (cc e)
listed_among (body ∷ bodies) o e = by (eqb body.object o) refl (listed_among bodies o) e
  where
    by : (b : Bool) → eqb body.object o ≡ b → (is_some (body_in o bodies) ≡ true → IsListed o (map (λ x. x.object) bodies)) → is_some (cond b (Some body) (body_in o bodies)) ≡ true
        → (o ≡ body.object) ⊎ IsListed o (map (λ x. x.object) bodies)
    by true is rest there = inl (sym (eqb-true body.object o is))
    by false is rest there = inr (rest there)

-- the set of what is found from a value, through bodies that are the private objects', has exactly what the value publishes
pub found_is_published : (table : ℕ → Option Body) (privates : List Body) (v : Value) (found : BTreeSet ℕ) → table ≡ (λ o. body_in o privates)
    → ((o : ℕ) → IsTrue (contains nat_cmp found o) ↔ Reached (λ a. is_some (table a)) (λ a b. body_names (table a) b) v o) → (o : ℕ) → contains nat_cmp found o ≡ is_published privates v o
found_is_published table privates v found same reached o =
    let told = subst (λ (bodies : ℕ → Option Body). (q : ℕ) → IsTrue (contains nat_cmp found q) ↔ Reached (λ a. is_some (bodies a)) (λ a b. body_names (bodies a) b) v q) same reached in
    let tells = reach_tells (λ a. is_some (body_in a privates)) (λ a b. body_names (body_in a privates) b) (map (λ body. body.object) privates) v o (listed_among privates) in
    same_tests (contains nat_cmp found o) (is_published privates v o) (λ h. tells.1 ((told o).0 h)) (λ h. (told o).1 (tells.0 h))

-- What messages carry of classes and fields, and what a client's copies and the server's graph have of them.
use Rattle.std.specs.List.{AllByRecursion}
use Rattle.std.proofs.Common.{ℕ, ◌≡◌, refl, sym, ◌∙◌, subst, Bool, true, false, cond, eqb, Option, Some, None, List, [], ◌∷◌, length, slice_get}
use Rattle.dso_base.specs.declared.message.Down.{Down}
use Rattle.dso_base.specs.declared.message.Down.TheVariants as down
use Rattle.dso_base.specs.declared.message.Up.{Up}
use Rattle.dso_base.specs.declared.message.Up.TheVariants as up
use Rattle.dso_base.specs.declared.record.Body.{Body}
use Rattle.dso_base.specs.declared.record.Set.{Set}
use Rattle.dso_base.specs.declared.value.ClassId.{ClassId}
use Rattle.dso_base.specs.declared.value.Value.{Value}
use Rattle.dso_plain.proofs.keys.SameKeys.{same_number}
use Rattle.dso_lookup.proofs.Tests.{both}
use Rattle.dso_law.specs.Copies.{is_set_of, value_by_body, value_by_bodies, value_by_set, value_by_sets, value_by_taken, value_by_sent, class_by_bodies, class_by_taken, class_by_sent}
use Rattle.dso_law.specs.Store.{body_with, body_by_news, body_by_sets, body_by}
use Rattle.dso_legal.specs.Agreement.{after}
use Rattle.dso_legal.proofs.fitting.InHand.{BodyHas, SetHas, body_set}

-- a reading keeps what each of the messages keeps
pub kept_after : {M S : Type 0} (P : S → Type 0) (Q : M → Type 0) (step : M → S → S) → ((m : M) (s : S) → Q m → P s → P (step m s)) → (ms : List M) (s : S) → AllByRecursion Q ms → P s → P (after step ms s)
kept_after P Q step keeps [] s all h = h
kept_after P Q step keeps (m ∷ ms) s all h = kept_after P Q step keeps ms (step m s) all.1 (keeps m s all.0 h)

module _ (C : ℕ → ClassId → ℕ → Type 0) (F : ℕ → ℕ → Value → Type 0) (V O : Value → Type 0) where
  -- so of what a record carries, and of an object and changes
  abbrev pub UpHas : Up → Type 0
  UpHas (up.Commit txn) = AllByRecursion (BodyHas C F V O) txn.news × AllByRecursion (SetHas C F V O) txn.sets × AllByRecursion O txn.outs
  UpHas m = Unit {0}

  abbrev pub DownHas : Down → Type 0
  DownHas (down.Object body) = BodyHas C F V O body
  DownHas (down.Changes sets) = AllByRecursion (SetHas C F V O) sets
  DownHas m = Unit {0}

  -- ---- copies

  -- the class that is held, if one is
  abbrev pub ClassHas : ℕ → Option (ClassId × ℕ) → Type 0
  ClassHas o None = Unit {0}
  ClassHas o (Some class) = C o class.0 class.1

  -- the value that is held, if one is
  abbrev pub ValueHas : ℕ → ℕ → Option Value → Type 0
  ValueHas o f None = Unit {0}
  ValueHas o f (Some v) = F o f v

  class_of_bodies : (o : ℕ) (bodies : List Body) (before : Option (ClassId × ℕ)) → AllByRecursion (BodyHas C F V O) bodies → ClassHas o before → ClassHas o (class_by_bodies o bodies before)
  class_of_bodies o [] before all h = h
  class_of_bodies o (body ∷ bodies) before all h = class_of_bodies o bodies (cond (eqb body.object o) (Some (body.class, length body.values)) before) all.1 (by (eqb body.object o) refl)
    where
      by : (b : Bool) → eqb body.object o ≡ b → ClassHas o (cond b (Some (body.class, length body.values)) before)
      by true is = subst (λ n. C n body.class (length body.values)) (same_number body.object o is) all.0.class
      by false is = h

  value_of_body : (o f : ℕ) (body : Body) (before : Option Value) → BodyHas C F V O body → ValueHas o f before → ValueHas o f (value_by_body o f before body)
  value_of_body o f body before has h = by (eqb body.object o) refl
    where
      there : (v : Option Value) → slice_get body.values f ≡ v → eqb body.object o ≡ true → ValueHas o f v
      there None at is = tt
      there (Some v) at is = subst (λ n. F n f v) (same_number body.object o is) (has.values f v at)

      by : (b : Bool) → eqb body.object o ≡ b → ValueHas o f (cond b (slice_get body.values f) before)
      by true is = there (slice_get body.values f) refl is
      by false is = h

  value_of_bodies : (o f : ℕ) (bodies : List Body) (before : Option Value) → AllByRecursion (BodyHas C F V O) bodies → ValueHas o f before → ValueHas o f (value_by_bodies o f bodies before)
  value_of_bodies o f [] before all h = h
  value_of_bodies o f (body ∷ bodies) before all h = value_of_bodies o f bodies (value_by_body o f before body) all.1 (value_of_body o f body before all.0 h)

  value_of_set : (o f : ℕ) (set : Set) (before : Option Value) → SetHas C F V O set → ValueHas o f before → ValueHas o f (value_by_set o f before set)
  value_of_set o f set before has h = by (is_set_of o f set) refl
    where
      by : (b : Bool) → is_set_of o f set ≡ b → ValueHas o f (cond b (Some set.value) before)
      by true is =
          let its = both (eqb set.object o) (eqb set.field f) is in
          subst (λ n. F o n set.value) (same_number set.field f its.1) (subst (λ n. F n set.field set.value) (same_number set.object o its.0) has)
      by false is = h

  pub value_of_sets : (o f : ℕ) (sets : List Set) (before : Option Value) → AllByRecursion (SetHas C F V O) sets → ValueHas o f before → ValueHas o f (value_by_sets o f sets before)
  value_of_sets o f [] before all h = h
  value_of_sets o f (set ∷ sets) before all h = value_of_sets o f sets (value_by_set o f before set) all.1 (value_of_set o f set before all.0 h)

  -- a message that the client takes
  pub class_taken : (o : ℕ) (m : Down) (before : Option (ClassId × ℕ)) → DownHas m → ClassHas o before → ClassHas o (class_by_taken o m before)
  class_taken o (down.Object body) before has h = class_of_bodies o (body ∷ []) before (has, tt) h
  class_taken o m before has h = h

  pub value_taken : (o f : ℕ) (m : Down) (before : Option Value) → DownHas m → ValueHas o f before → ValueHas o f (value_by_taken o f m before)
  value_taken o f (down.Object body) before has h = value_of_body o f body before has h
  value_taken o f (down.Changes sets) before has h = value_of_sets o f sets before has h
  value_taken o f m before has h = h

  -- and one that it sends
  pub class_sent : (o : ℕ) (m : Up) (before : Option (ClassId × ℕ)) → UpHas m → ClassHas o before → ClassHas o (class_by_sent o m before)
  class_sent o (up.Commit txn) before has h = class_of_bodies o txn.news before has.0 h
  class_sent o m before has h = h

  pub value_sent : (o f : ℕ) (m : Up) (before : Option Value) → UpHas m → ValueHas o f before → ValueHas o f (value_by_sent o f m before)
  value_sent o f (up.Commit txn) before has h = value_of_sets o f txn.sets (value_by_bodies o f txn.news before) has.1 (value_of_bodies o f txn.news before has.0 h)
  value_sent o f m before has h = h

  -- ---- the graph

  -- the body of the object that is stored, if one is
  abbrev pub StoredHas : ℕ → Option Body → Type 0
  StoredHas o None = Unit {0}
  StoredHas o (Some body) = (body.object ≡ o) × BodyHas C F V O body

  stored_by_news : (o : ℕ) (bodies : List Body) (before : Option Body) → AllByRecursion (BodyHas C F V O) bodies → StoredHas o before → StoredHas o (body_by_news o bodies before)
  stored_by_news o [] before all h = h
  stored_by_news o (body ∷ bodies) before all h = stored_by_news o bodies (cond (eqb body.object o) (Some body) before) all.1 (by (eqb body.object o) refl)
    where
      by : (b : Bool) → eqb body.object o ≡ b → StoredHas o (cond b (Some body) before)
      by true is = (same_number body.object o is, all.0)
      by false is = h

  stored_with : (o : ℕ) (set : Set) (before : Option Body) → SetHas C F V O set → eqb set.object o ≡ true → StoredHas o before → StoredHas o (body_with set before)
  stored_with o set None has is h = tt
  stored_with o set (Some body) has is h = (h.0, body_set C F V O set.field set.value body h.1 (subst (λ n. F n set.field set.value) (same_number set.object o is ∙ sym h.0) has))

  stored_by_sets : (o : ℕ) (sets : List Set) (before : Option Body) → AllByRecursion (SetHas C F V O) sets → StoredHas o before → StoredHas o (body_by_sets o sets before)
  stored_by_sets o [] before all h = h
  stored_by_sets o (set ∷ sets) before all h = stored_by_sets o sets (cond (eqb set.object o) (body_with set before) before) all.1 (by (eqb set.object o) refl)
    where
      by : (b : Bool) → eqb set.object o ≡ b → StoredHas o (cond b (body_with set before) before)
      by true is = stored_with o set before all.0 is h
      by false is = h

  -- a message that the server takes
  pub stored_taken : (o c : ℕ) (m : Up) (before : Option Body) → UpHas m → StoredHas o before → StoredHas o (body_by o c m before)
  stored_taken o c (up.Commit txn) before has h = stored_by_sets o txn.sets (body_by_news o txn.news before) has.1 (stored_by_news o txn.news before has.0 h)
  stored_taken o c m before has h = h

-- What comes fits the shape, since classes are kept and values are fine.
use Rattle.std.specs.List.{list_any, AllByRecursion}
use Rattle.std.specs.Prelude.{flat_map}
use Rattle.std.proofs.Common.{ℕ, suc, ◌+◌, ◌<◌, ◌≤◌, ◌≡◌, ◌≢◌, inl, inr, refl, sym, ◌∙◌, ap, subst, Bool, true, false, eqb, ◌&&◌, ◌||◌, Option, Some, None, List, [], ◌∷◌, map, length, slice_get, arith}
use Rattle.dso_base.specs.declared.journal.Entry.{Entry}
use Rattle.dso_base.specs.declared.journal.Node.TheVariants.{Server, Client}
use Rattle.dso_base.specs.declared.lock.ThreadId.{ThreadId}
use Rattle.dso_base.specs.declared.message.Down.{Down}
use Rattle.dso_base.specs.declared.message.Down.TheVariants as down
use Rattle.dso_base.specs.declared.message.Up.{Up}
use Rattle.dso_base.specs.declared.message.Up.TheVariants as up
use Rattle.dso_base.specs.declared.record.Body.{Body}
use Rattle.dso_base.specs.declared.record.Set.{Set}
use Rattle.dso_base.specs.declared.record.Txn.{Txn}
use Rattle.dso_base.specs.declared.request.Event.{Event}
use Rattle.dso_base.specs.declared.request.Request.{Request}
use Rattle.dso_base.specs.declared.shape.Shape.{Shape}
use Rattle.dso_base.specs.declared.value.ClassId.{ClassId}
use Rattle.dso_base.specs.declared.value.ClassId.TheVariants.{Roots}
use Rattle.dso_base.specs.declared.value.Value.{Value}
use Rattle.dso_base.specs.declared.value.Value.TheVariants as value
use Rattle.dso_base.specs.Shape.{kind_of}
use Rattle.dso_base.specs.Value.{Fits}
use Rattle.dso_plain.specs.Possible.{CanBeMade}
use Rattle.dso_law.specs.Settings.{Settings}
use Rattle.dso_law.specs.Entries.{entries_of}
use Rattle.dso_law.specs.Channels.{up_in_flight, down_in_flight}
use Rattle.dso_law.specs.Copies.{class_held}
use Rattle.dso_law.specs.FitsDown.{FitFrom, FitsShape, FitsClass, FitsChange}
use Rattle.dso_law.specs.FitsUp.{IsPrinted, IsLiteral, stored_values}
use Rattle.dso_law.specs.ServerReadings.{Batch, batches_given, counted, is_in_batch, is_given}
use Rattle.dso_law.specs.Store.{stored}
use Rattle.dso_legal.specs.ClassesKept.{class_made}
use Rattle.dso_legal.specs.Lawful.{AllFollow}
use Rattle.dso_legal.specs.NewsAreNew.{IsUnknown, PublishesUnknown}
use Rattle.dso_legal.specs.SoundProgram.{AsksSoundly, GivesKnownTexts}
use Rattle.dso_legal.specs.ValuesFine.{FitsField}
use Rattle.dso_legal.specs.ValuesFit.{IsShapedNews, FitsStoredField, FitsValues, ValuesFitUp, ValuesFitDown, ValuesFit}
use Rattle.dso_legal.specs.WithinShape.{StaysWithinShape}
use Rattle.dso_legal.proofs.ids.GivenOnce.{in_turn}
use Rattle.dso_legal.proofs.ids.MadeOnce.{made_once}
use Rattle.dso_legal.proofs.records.NewsAreNew.{news_unknown}
use Rattle.dso_legal.proofs.fitting.InHand.{SetHas, each_of_two, each_so}
use Rattle.dso_legal.proofs.fitting.Messages.{ClassHas, StoredHas}
use Rattle.dso_legal.proofs.fitting.ClassesMade.{class_known, given_from_one}
use Rattle.dso_legal.proofs.fitting.Carried.{C, BodyNow, UpNow, DownNow, AllHave, first_of}
use Rattle.dso_legal.proofs.fitting.HeldWhole.{resident_classed}
use Rattle.dso_legal.proofs.fitting.RepliesThere.{place_below}
use Rattle.dso_legal.proofs.fitting.Values.{same_pair, F, V, roots_stay, made_as, all_fine, sizes}

-- ---- lists of values

-- what holds of the value at each place holds of each value
pub all_values : (P : Value → Type 0) (values : List Value) → ((f : ℕ) (v : Value) → slice_get values f ≡ Some v → P v) → AllByRecursion P values
all_values P [] h = tt
all_values P (v ∷ values) h = (h 0 v refl, all_values P values (λ f w is. h (suc f) w is))

pub all_flat : (P : Value → Type 0) (bodies : List Body) → AllByRecursion (λ body. AllByRecursion P body.values) bodies → AllByRecursion P (flat_map (λ body. body.values) bodies)
all_flat P [] h = tt
all_flat P (body ∷ bodies) h = each_of_two P body.values (flat_map (λ body. body.values) bodies) h.0 (all_flat P bodies h.1)

pub all_set : (P : Value → Type 0) (sets : List Set) → AllByRecursion (λ set. P set.value) sets → AllByRecursion P (map (λ set. set.value) sets)
all_set P [] h = tt
all_set P (set ∷ sets) h = (h.0, all_set P sets h.1)

-- each value fits the kind of its field, from the first on
fit_from : (shape : Shape) (class : ClassId) (k : ℕ) (values : List Value) → ((f : ℕ) (v : Value) → slice_get values f ≡ Some v → Fits (kind_of shape class (k + f)) v) → FitFrom shape class k values
fit_from shape class k [] h = tt
fit_from shape class k (v ∷ values) h = (
  subst (λ n. Fits (kind_of shape class n) v) (none_added k) (h 0 v refl),
  fit_from shape class (suc k) values (λ f w is. subst (λ n. Fits (kind_of shape class n) w) (one_later k f) (h (suc f) w is)),
)
  where
    none_added : (k : ℕ) → k + 0 ≡ k
    none_added k = omega arith

    one_later : (k f : ℕ) → k + suc f ≡ suc k + f
    one_later k f = omega arith

-- an id that was given to a client was given out
pub given_out : (c o : ℕ) (given : List Batch) → list_any (λ batch. eqb batch.client c && is_in_batch o batch) given ≡ true → list_any (is_in_batch o) given ≡ true
given_out c o [] is = absurd (cc is)
given_out c o (batch ∷ given) is = by (eqb batch.client c) (is_in_batch o batch) is (given_out c o given)
  where
    by : (a b : Bool) → ((a && b) || list_any (λ batch. eqb batch.client c && is_in_batch o batch) given) ≡ true → (list_any (λ batch. eqb batch.client c && is_in_batch o batch) given ≡ true → list_any (is_in_batch o) given ≡ true)
        → (b || list_any (is_in_batch o) given) ≡ true
    by a true is later = refl
    by true false is later = later is
    by false false is later = later is

module _ (p : Settings) (next : ThreadId → List Event → Option Request) (sound : AsksSoundly p.shape next) (known : GivesKnownTexts p.shape next) (within : StaysWithinShape p.shape next) (es : List Entry) (follow : AllFollow p next es) where
  have : AllHave p next (F p next) (V p next) (V p next) es
  have = all_fine p next sound known within es follow

  abbrev server : List Entry
  server = counted (entries_of Server es)

  -- ---- bodies

  -- a class that is told is the one that the object was made with
  one_class : (o : ℕ) (class other : ClassId) (size n : ℕ) → class_made p.shape o es ≡ Some (class, size) → class_made p.shape o es ≡ Some (other, n) → (class ≡ other) × (size ≡ n)
  one_class o class other size n is as_well = same_pair (class, size) (other, n) (sym is ∙ as_well)

  shaped : (body : Body) → BodyNow p next (F p next) (V p next) (V p next) es body → FitsShape p.shape body
  shaped body h = (
    sizes p next sound known within es follow body.object body.class (length body.values) h.class,
    fit_from p.shape body.class 0 body.values (λ f v is.
        let field : FitsField p.shape es body.object f v = h.values f v is in
        let same = one_class body.object field.class body.class field.size (length body.values) field.made h.class in
        let at : f ≡ 0 + f = omega arith in
        subst (λ n. Fits (kind_of p.shape body.class n) v) at (subst (λ class. Fits (kind_of p.shape class f) v) same.0 field.fits)),
  )

  -- it is of the roots exactly where it is object 0
  roots_only : (body : Body) → BodyNow p next (F p next) (V p next) (V p next) es body → body.class ≡ Roots → body.object ≡ 0
  roots_only body h is = elim (made_as p next sound known within es follow body.object body.class (length body.values) h.class) [
    | inl first ↦ first.0
    | inr made ↦ absurd (subst (λ class. CanBeMade p.shape class (length body.values)) is made)
  ]

  zero_roots : (body : Body) → BodyNow p next (F p next) (V p next) (V p next) es body → body.object ≡ 0 → body.class ≡ Roots
  zero_roots body h is = (one_class body.object body.class Roots (length body.values) p.shape.roots h.class (ap (λ n. class_made p.shape n es) is ∙ roots_stay p next es follow)).0

  -- a set of an object of this class
  set_fits : (set : Set) (class : ClassId) (size : ℕ) → SetHas (C p next (F p next) (V p next) (V p next) es) (F p next es) (V p next es) (V p next es) set → class_made p.shape set.object es ≡ Some (class, size)
      → (set.field < size) × Fits (kind_of p.shape class set.field) set.value
  set_fits set class size h made =
      let same = one_class set.object h.class class h.size size h.made made in (
        subst (λ n. set.field < n) same.1 (place_below p h.class h.size set.field (sizes p next sound known within es follow set.object h.class h.size h.made) h.there),
        subst (λ class. Fits (kind_of p.shape class set.field) set.value) same.0 h.fits,
      )

  -- ---- values

  literal : (v : Value) → V p next es v → IsLiteral p v
  literal (value.Text t) h = h
  literal v h = tt

  printed : (v : Value) → V p next es v → IsPrinted server v
  printed (value.Ref o) h = by (class_made p.shape o es) refl
    where
      by : (class : Option (ClassId × ℕ)) → class_made p.shape o es ≡ class → is_given o server ≡ true
      by None is = absurd (h.1 is)
      by (Some class) is = elim (class_known p.shape o p next es follow class is) [
        | inl first ↦ absurd (h.0 first.0)
        | inr made ↦ given_out made.client o (batches_given server) ((made_once p next es follow).given made.client o made.is)
      ]
  printed v h = tt

  -- ---- messages

  module _ (c : ℕ) where
    news_shaped : (bodies : List Body) → AllByRecursion (BodyNow p next (F p next) (V p next) (V p next) es) bodies → AllByRecursion (IsUnknown p c server) bodies → AllByRecursion (IsShapedNews p.shape) bodies
    news_shaped [] h unknown = tt
    news_shaped (body ∷ bodies) h unknown = ((λ is. none_is_zero (given_from_one c body.object (batches_given server) (in_turn p next es follow) unknown.0.given) (roots_only body h.0 is), shaped body h.0), news_shaped bodies h.1 unknown.1)
      where
        none_is_zero : {n : ℕ} → 1 ≤ n → n ≡ 0 → ⊥
        none_is_zero le zero_is = omega (arith, le, zero_is)

    stored_fits : (set : Set) → SetHas (C p next (F p next) (V p next) (V p next) es) (F p next es) (V p next es) (V p next es) set → FitsStoredField p.shape server set
    stored_fits set h body is = set_fits set body.class (length body.values) h (by (stored p.shape set.object server) (have.graph set.object) is)
      where
        by : (at : Option Body) → StoredHas (C p next (F p next) (V p next) (V p next) es) (F p next es) (V p next es) (V p next es) set.object at → at ≡ Some body → class_made p.shape set.object es ≡ Some (body.class, length body.values)
        by None there is = absurd (cc is)
        by (Some at) there is =
            let same : at ≡ body = cc is in
            subst (λ (x : Body). class_made p.shape set.object es ≡ Some (x.class, length x.values)) same (ap (λ n. class_made p.shape n es) (sym there.0) ∙ there.1.class)

    record_fits : (txn : Txn) → UpNow p next (F p next) (V p next) (V p next) es (up.Commit txn) → AllByRecursion (IsUnknown p c server) txn.news → FitsValues p server txn
    record_fits txn h unknown = record {
      news = news_shaped txn.news h.0 unknown;
      sets = each_so (SetHas (C p next (F p next) (V p next) (V p next) es) (F p next es) (V p next es) (V p next es)) (FitsStoredField p.shape server) stored_fits txn.sets h.1;
      printed = each_so (V p next es) (IsPrinted server) printed txn.outs h.2;
      texts = each_of_two (IsLiteral p) (stored_values txn) txn.outs
          (each_of_two (IsLiteral p) (flat_map (λ body. body.values) txn.news) (map (λ set. set.value) txn.sets)
          (all_flat (IsLiteral p) txn.news (each_so (BodyNow p next (F p next) (V p next) (V p next) es) (λ body. AllByRecursion (IsLiteral p) body.values)
          (λ body has. all_values (IsLiteral p) body.values (λ f v is. literal v (has.values f v is).fine)) txn.news h.0))
          (all_set (IsLiteral p) txn.sets (each_so (SetHas (C p next (F p next) (V p next) (V p next) es) (F p next es) (V p next es) (V p next es)) (λ set. IsLiteral p set.value) (λ set has. literal set.value has.fine) txn.sets h.1)))
          (each_so (V p next es) (IsLiteral p) literal txn.outs h.2);
    }

    up_fits : (m : Up) → UpNow p next (F p next) (V p next) (V p next) es m → PublishesUnknown p c m server → ValuesFitUp p server m
    up_fits (up.Commit txn) h unknown = record_fits txn h unknown
    up_fits m h unknown = tt

    change_fits : (set : Set) → SetHas (C p next (F p next) (V p next) (V p next) es) (F p next es) (V p next es) (V p next es) set → FitsChange p.shape (entries_of (Client c) es) set
    change_fits set h resident = by (class_held set.object (entries_of (Client c) es)) ((have.clients c).copies.class set.object) (resident_classed set.object (entries_of (Client c) es) resident)
      where
        by : (class : Option (ClassId × ℕ)) → ClassHas (C p next (F p next) (V p next) (V p next) es) (F p next es) (V p next es) (V p next es) set.object class → class ≢ None → FitsClass p.shape set class
        by None has there = there refl
        by (Some class) has there = set_fits set class.0 class.1 h has

    down_fits : (m : Down) → DownNow p next (F p next) (V p next) (V p next) es m → ValuesFitDown p (entries_of (Client c) es) m
    down_fits (down.Object body) h = ((roots_only body h, zero_roots body h), shaped body h)
    down_fits (down.Changes sets) h = each_so (SetHas (C p next (F p next) (V p next) (V p next) es) (F p next es) (V p next es) (V p next es)) (FitsChange p.shape (entries_of (Client c) es)) change_fits sets h
    down_fits m h = tt

pub values_fit : ValuesFit
values_fit p next sound known within es follow c = record {
  ups = λ m first. up_fits p next sound known within es follow c m
      (first_of (UpNow p next (F p next) (V p next) (V p next) es) m (up_in_flight c es) first ((all_fine p next sound known within es follow).clients c).up) (news_unknown p next es follow c m first);
  downs = λ m first. down_fits p next sound known within es follow c m
      (first_of (DownNow p next (F p next) (V p next) (V p next) es) m (down_in_flight c es) first ((all_fine p next sound known within es follow).clients c).down);
}

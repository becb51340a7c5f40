-- What a thread saw of an object's class stays so, and an act outside of calls touches no map.
use Rattle.std.proofs.Common.{ℕ, ◌≡◌, ◌≢◌, inl, inr, refl, sym, ap, subst, ◌∙◌, Bool, true, false, cond, eqb, Option, Some, None, List}
use Rattle.std.proofs.lemmas.Bool.{eq-eqb}
use Rattle.dso_base.specs.declared.lock.ThreadId.{ThreadId}
use Rattle.dso_base.specs.declared.request.Event.{Event}
use Rattle.dso_base.specs.declared.request.Reply.{Reply}
use Rattle.dso_base.specs.declared.request.Reply.TheVariants.{Done, Made, Seen}
use Rattle.dso_base.specs.declared.request.Request.{Request}
use Rattle.dso_base.specs.declared.request.Request.TheVariants.{New, Look, Put}
use Rattle.dso_base.specs.declared.shape.Shape.{Shape}
use Rattle.dso_base.specs.declared.value.ClassId.{ClassId}
use Rattle.dso_base.specs.declared.value.ClassId.TheVariants.{Plain, Array, Roots}
use Rattle.dso_base.specs.declared.value.Value.{Value}
use Rattle.dso_lookup.specs.Maps.{or_old}
use Rattle.dso_map.specs.Contents.{Content}
use Rattle.dso_map.specs.Fields.{place_of}
use Rattle.dso_map.specs.MapClass.{is_map}
use Rattle.dso_plain.specs.State.{Object, PlainState, is_shared}
use Rattle.dso_plain.specs.Possible.{IsOf, AnswersRequest}
use Rattle.dso_plain.specs.After.{apply, change_of, opening_field, new_object}
use Rattle.dso_plain.proofs.keys.SameKeys.{same_number, number_self}
use Rattle.dso_machine.specs.MapCalls.{IsOfMaps, TellsClass, Saw, IsNoMap, IsApart}
use Rattle.dso_legal.specs.HeapMaps.{IsMapObject, IsMap}
use Rattle.dso_legal.specs.MapHistory.{no_content}
use Rattle.dso_legal.proofs.maps.Opening.{MapsHaveFields, new_body, new_sound, new_holds, new_heap}
use Rattle.dso_legal.proofs.maps.Stays.{class_at, StaysAt, put_class, act_stays}

-- objects of one class
same_class : (shape : Shape) (x y : Option Object) → class_at x ≡ class_at y → IsMapObject shape x → IsMapObject shape y
same_class shape None y same is = absurd is
same_class shape (Some x) None same is = absurd (cc same)
same_class shape (Some x) (Some y) same is =
    let one : x.class ≡ y.class = cc same in
    subst (IsOfMaps shape) one is

-- an object of a class that is there
pub class_there : (shape : Shape) (x : Option Object) (class : ClassId) → class_at x ≡ Some class → IsMapObject shape x → IsOfMaps shape class
class_there shape None class is map = absurd map
class_there shape (Some x) class is map =
    let one : x.class ≡ class = cc is in
    subst (IsOfMaps shape) one map

-- an object of the class of maps is a map
pub map_there : (shape : Shape) (x : Option Object) (class : ℕ) → is_map shape class ≡ true → class_at x ≡ Some (Plain class) → IsMapObject shape x
map_there shape None class is there = absurd (cc there)
map_there shape (Some x) class is there =
    let one : x.class ≡ Plain class = cc there in
    subst (IsOfMaps shape) (sym one) is

-- a map whose fields stay
pub map_stays : (o : ℕ) (m : Content) (s r : PlainState) → ((f : ℕ) → r.heap (o, f) ≡ s.heap (o, f)) → IsMap o m s → IsMap o m r
map_stays o m s r stays map = record {
  body = map.body;
  has = λ f there. stays (place_of f) ∙ map.has f there;
  sound = map.sound;
  holds = map.holds;
}

-- the objects that are maps hold these
abbrev pub MapsStand : Shape → (ℕ → Content) → PlainState → Type 0
MapsStand shape m s = (o : ℕ) → IsMapObject shape (s.objects o) → IsMap o (m o) s

-- an object that isn't there has no content
abbrev pub NoneIsEmpty : (ℕ → Content) → PlainState → Type 0
NoneIsEmpty m s = (o : ℕ) → s.objects o ≡ None → m o ≡ no_content

-- an object that stays is a map as before
pub still_map : (shape : Shape) (o : ℕ) (m : Content) (s r : PlainState) → StaysAt o s r → (IsMapObject shape (s.objects o) → IsMap o m s) → IsMapObject shape (r.objects o) → IsMap o m r
still_map shape o m s r stays map is = map_stays o m s r stays.heap (map (same_class shape (r.objects o) (s.objects o) stays.class is))

-- what is seen is so
seen_class : (class : ClassId) (n : ℕ) (x : Option Object) → IsOf class n x → class_at x ≡ Some class
seen_class class n None is = absurd is
seen_class class n (Some object) is = ap Some is.0

module _ (shape : Shape) (t : ThreadId) (s : PlainState) where
  -- An act keeps the class of each object that is there.
  pub class_kept : (x : ℕ) (class : ClassId) (q : Request) (r : Reply) (woken : Option ThreadId) → AnswersRequest shape t q r s → class_at (s.objects x) ≡ Some class
      → class_at ((apply (change_of shape t q r woken s) s).objects x) ≡ Some class
  class_kept x class (New made n) (Made o) woken answers is = (act_stays shape t s x (New made n) (Made o) woken (λ same. fresh (subst (λ y. s.objects y ≡ None) (sym same) answers.1))).class ∙ is
    where
      fresh : s.objects x ≡ None → ⊥
      fresh none = absurd (cc (sym is ∙ ap class_at none))
  class_kept x class (New made n) r woken answers is = is
  class_kept x class (Put o f v) Done woken answers is = put_class shape t s x o f v (is_shared (s.objects o)) ∙ is
  class_kept x class (Put o f v) r woken answers is = is
  class_kept x class q r woken answers is = (act_stays shape t s x q r woken tt).class ∙ is

  -- so an object that isn't there after it wasn't there before it
  pub none_before : (x : ℕ) (q : Request) (r : Reply) (woken : Option ThreadId) → AnswersRequest shape t q r s → (apply (change_of shape t q r woken s) s).objects x ≡ None → s.objects x ≡ None
  none_before x q r woken answers none = by (s.objects x) refl
    where
      by : (object : Option Object) → s.objects x ≡ object → s.objects x ≡ None
      by None is = is
      by (Some object) is = absurd (cc (sym (class_kept x object.class q r woken answers (ap class_at is)) ∙ ap class_at none))

  -- what a reply tells of a class is so
  told_class : (o : ℕ) (class : ClassId) (q : Request) (r : Reply) → AnswersRequest shape t q r s → TellsClass o class q r → class_at (s.objects o) ≡ Some class
  told_class o class (Look looked) (Seen seen n) answers tells = subst (λ x. class_at (s.objects x) ≡ Some class) tells.0 (seen_class seen n (s.objects looked) answers.1 ∙ ap Some tells.1)
  told_class o class q r answers tells = absurd tells

  -- and stays so
  pub tells_so : (o : ℕ) (class : ClassId) (q : Request) (r : Reply) (woken : Option ThreadId) → AnswersRequest shape t q r s → TellsClass o class q r → class_at ((apply (change_of shape t q r woken s) s).objects o) ≡ Some class
  tells_so o class q r woken answers tells = class_kept o class q r woken answers (told_class o class q r answers tells)

  -- ---- an act outside of calls

  -- an object that is no map
  no_map : (before : List Event) → class_at (s.objects 0) ≡ Some Roots → ((o : ℕ) (class : ClassId) → Saw o class before → class_at (s.objects o) ≡ Some class)
      → (o x : ℕ) → IsNoMap shape before o → IsMapObject shape (s.objects x) → x ≢ o
  no_map before roots saw o x (inl zero_is) map same =
      class_there shape (s.objects 0) Roots roots (subst (λ y. IsMapObject shape (s.objects y)) (same ∙ zero_is) map)
  no_map before roots saw o x (inr seen) map same =
      seen.2 (class_there shape (s.objects o) seen.0 (saw o seen.0 seen.1) (subst (λ y. IsMapObject shape (s.objects y)) same map))

  -- a new object
  new_map : MapsHaveFields shape → (class : ClassId) (n o : ℕ) (woken : Option ThreadId) → AnswersRequest shape t (New class n) (Made o) s → IsOfMaps shape class → IsMap o no_content (apply (change_of shape t (New class n) (Made o) woken s) s)
  new_map have (Plain number) n o woken answers is = record {
    body = new_body;
    has = λ f there. ap (λ b. or_old (cond b (Some (opening_field shape (Plain number) n (place_of f))) None) (s.heap (o, place_of f))) (number_self o) ∙ new_heap shape have number n is answers.2 f there;
    sound = new_sound;
    holds = new_holds;
  }
  new_map have (Array k) n o woken answers is = absurd is
  new_map have Roots n o woken answers is = absurd is

  made_class : (class : ClassId) (n o : ℕ) (b : Bool) → b ≡ true → IsMapObject shape (or_old (cond b (Some (Some (new_object t class n))) None) (s.objects o)) → IsOfMaps shape class
  made_class class n o true is map = map
  made_class class n o false is map = absurd (cc is)

  module _ (have : MapsHaveFields shape) (m : ℕ → Content) (empty : NoneIsEmpty m s) (stand : MapsStand shape m s) where
    -- after a new object
    stand_new : (class : ClassId) (n o : ℕ) (woken : Option ThreadId) → AnswersRequest shape t (New class n) (Made o) s → MapsStand shape m (apply (change_of shape t (New class n) (Made o) woken s) s)
    stand_new class n o woken answers x = by (eqb x o) refl
      where
        r : PlainState
        r = apply (change_of shape t (New class n) (Made o) woken s) s

        by : (b : Bool) → eqb x o ≡ b → IsMapObject shape (r.objects x) → IsMap x (m x) r
        by true same = subst (λ y. IsMapObject shape (r.objects y) → IsMap y (m y) r) (sym (same_number x o same))
            (λ map. subst (λ c. IsMap o c r) (sym (empty o answers.1)) (new_map have class n o woken answers (made_class class n o (eqb o o) (number_self o) map)))
        by false other = still_map shape x (m x) s r (act_stays shape t s x (New class n) (Made o) woken (λ same. absurd (cc (sym other ∙ eq-eqb x o same)))) (stand x)

    -- after an act that touches no map
    module _ (before : List Event) (roots : class_at (s.objects 0) ≡ Some Roots) (saw : (o : ℕ) (class : ClassId) → Saw o class before → class_at (s.objects o) ≡ Some class) where
      stand_put : (o f : ℕ) (v : Value) (woken : Option ThreadId) → IsNoMap shape before o → MapsStand shape m (apply (change_of shape t (Put o f v) Done woken s) s)
      stand_put o f v woken apart x map =
          let was : IsMapObject shape (s.objects x) = same_class shape _ (s.objects x) (put_class shape t s x o f v (is_shared (s.objects o))) map in
          map_stays x (m x) s _ (act_stays shape t s x (Put o f v) Done woken (no_map before roots saw o x apart was)).heap (stand x was)

      -- The maps stand after it.
      pub apart_stands : (q : Request) (r : Reply) (woken : Option ThreadId) → IsApart shape before q → AnswersRequest shape t q r s → MapsStand shape m (apply (change_of shape t q r woken s) s)
      apart_stands (New class n) (Made o) woken apart answers = stand_new class n o woken answers
      apart_stands (New class n) r woken apart answers = stand
      apart_stands (Put o f v) Done woken apart answers = stand_put o f v woken apart
      apart_stands (Put o f v) r woken apart answers = stand
      apart_stands q r woken apart answers = λ x. still_map shape x (m x) s (apply (change_of shape t q r woken s) s) (act_stays shape t s x q r woken tt) (stand x)

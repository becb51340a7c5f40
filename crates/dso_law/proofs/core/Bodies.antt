-- The body held of an object tells what the readings tell of it.
use Rattle.std.proofs.Common.{ℕ, zero, suc, ◌<◌, ◌≡◌, ◌≢◌, inl, inr, refl, sym, ◌∙◌, ap, Bool, true, false, cond, eqb, ◌||◌, ◌&&◌, is_some, subst, Option, Some, None, List, [], ◌∷◌, length, slice_get, slice_set, arith}
use Rattle.std.proofs.lemmas.Bool.Decides.{eqb_tells}
use Rattle.dso_base.specs.declared.journal.Entry.{Entry}
use Rattle.dso_base.specs.declared.journal.Input.{Input}
use Rattle.dso_base.specs.declared.journal.Input.TheVariants as input
use Rattle.dso_base.specs.declared.journal.Sent.{Sent}
use Rattle.dso_base.specs.declared.journal.Sent.TheVariants.{ToServer, ToClient}
use Rattle.dso_base.specs.declared.message.Down.{Down}
use Rattle.dso_base.specs.declared.message.Down.TheVariants as down
use Rattle.dso_base.specs.declared.message.Up.{Up}
use Rattle.dso_base.specs.declared.message.Up.TheVariants as up
use Rattle.dso_base.specs.declared.record.Body.{Body}
use Rattle.dso_base.specs.declared.record.Set.{Set}
use Rattle.dso_base.specs.declared.value.ClassId.{ClassId}
use Rattle.dso_base.specs.declared.value.Value.{Value}
use Rattle.dso_law.specs.Entries.{by_taken_down, by_sent_up}
use Rattle.dso_law.specs.Copies.{is_among, is_resident, resident_by_taken, resident_by_sent, unless_flushed, value_by_body, value_by_bodies, value_by_set, value_by_sets, value_by_taken, value_by_sent, value_held, class_by_bodies, class_by_taken, class_by_sent, class_held}
use Rattle.dso_law.specs.Store.{body_by_news, body_with, body_by_sets}
use Rattle.dso_law.specs.HeldBody.{body_by_taken, body_by_sent, body_by_flush, held_body}
use Rattle.dso_law.specs.CoreLaws.{BodiesAreHeld}

-- a list keeps its length as one of its values is set
same_length : (values : List Value) (g : ℕ) (v : Value) → length (slice_set values g v) ≡ length values
same_length [] g v = refl
same_length (first ∷ values) zero v = refl
same_length (first ∷ values) (suc g) v = ap suc (same_length values g v)

-- the value set is read in its field
at_place : (values : List Value) (g : ℕ) (v : Value) → g < length values → slice_get (slice_set values g v) g ≡ Some v
at_place [] g v less = absurd (omega (arith, less))
at_place (first ∷ values) zero v less = refl
at_place (first ∷ values) (suc g) v less = at_place values g v (omega (arith, less))

-- and each other as before
elsewhere : (values : List Value) (g f : ℕ) (v : Value) → g ≢ f → slice_get (slice_set values g v) f ≡ slice_get values f
elsewhere [] g f v differ = refl
elsewhere (first ∷ values) zero zero v differ = absurd (differ refl)
elsewhere (first ∷ values) zero (suc f) v differ = refl
elsewhere (first ∷ values) (suc g) zero v differ = refl
elsewhere (first ∷ values) (suc g) (suc f) v differ = elsewhere values g f v (λ same. differ (ap suc same))

field_set : (values : List Value) (g f : ℕ) (v : Value) → f < length values → slice_get (slice_set values g v) f ≡ cond (eqb g f) (Some v) (slice_get values f)
field_set values g f v less = elim (eqb_tells g f) [
  | inl h ↦ ap (λ k. slice_get (slice_set values k v) f) h.1 ∙ at_place values f v less ∙ ap (λ t. cond t (Some v) (slice_get values f)) (sym h.0)
  | inr h ↦ elsewhere values g f v h.1 ∙ ap (λ t. cond t (Some v) (slice_get values f)) (sym h.0)
]

-- one of several, or before: of the first, or of those behind it
first_or_behind : (here behind before : Bool) → cond (here || behind) true before ≡ cond behind true (cond here true before)
first_or_behind true true before = refl
first_or_behind true false before = refl
first_or_behind false behind before = refl

module _ (o : ℕ) where
  -- what a body says: it is there, it has this class and size, and its values are those held below that size
  record Says (body : Body) (resident : Bool) (class : Option (ClassId × ℕ)) (value : ℕ → Option Value) : Type 0 where
    there : resident ≡ true
    classed : class ≡ Some (body.class, length body.values)
    valued : (f : ℕ) → f < length body.values → value f ≡ slice_get body.values f

  -- and where there is none, the object isn't resident
  abbrev Alike : Option Body → Bool → Option (ClassId × ℕ) → (ℕ → Option Value) → Type 0
  Alike None resident class value = resident ≡ false
  Alike (Some body) resident class value = Says body resident class value

  -- a body says what it is
  says_itself : (body : Body) → Says body true (Some (body.class, length body.values)) (λ f. slice_get body.values f)
  says_itself body = record { there = refl; classed = refl; valued = λ f less. refl }

  -- ---- one more body

  alike_body : (body : Body) (b : Option Body) (resident : Bool) (class : Option (ClassId × ℕ)) (value : ℕ → Option Value) → Alike b resident class value
      → Alike (cond (eqb body.object o) (Some body) b) (cond (eqb body.object o) true resident) (cond (eqb body.object o) (Some (body.class, length body.values)) class) (λ f. value_by_body o f (value f) body)
  alike_body body b resident class value h = by (eqb body.object o)
    where
      by : (here : Bool) → Alike (cond here (Some body) b) (cond here true resident) (cond here (Some (body.class, length body.values)) class) (λ f. cond here (slice_get body.values f) (value f))
      by true = says_itself body
      by false = h

  alike_bodies : (bodies : List Body) (b : Option Body) (resident : Bool) (class : Option (ClassId × ℕ)) (value : ℕ → Option Value) → Alike b resident class value
      → Alike (body_by_news o bodies b) (cond (is_among o bodies) true resident) (class_by_bodies o bodies class) (λ f. value_by_bodies o f bodies (value f))
  alike_bodies [] b resident class value h = h
  alike_bodies (body ∷ bodies) b resident class value h = rw (first_or_behind (eqb body.object o) (is_among o bodies) resident)
      (alike_bodies bodies (cond (eqb body.object o) (Some body) b) (cond (eqb body.object o) true resident) (cond (eqb body.object o) (Some (body.class, length body.values)) class)
      (λ f. value_by_body o f (value f) body) (alike_body body b resident class value h))

  -- ---- one more set

  -- of a body that is there
  set_says : (set : Set) (body : Body) (resident : Bool) (class : Option (ClassId × ℕ)) (value : ℕ → Option Value) → Says body resident class value
      → Says (record body { values = slice_set body.values set.field set.value }) resident class (λ f. cond (eqb set.field f) (Some set.value) (value f))
  set_says set body resident class value h = record {
    there = h.there;
    classed = h.classed ∙ ap (λ n. Some (body.class, n)) (sym (same_length body.values set.field set.value));
    valued = λ f less. let within : f < length body.values = rw (sym (same_length body.values set.field set.value)) less in
        ap (λ old. cond (eqb set.field f) (Some set.value) old) (h.valued f within) ∙ sym (field_set body.values set.field f set.value within);
  }

  alike_with : (set : Set) (b : Option Body) (resident : Bool) (class : Option (ClassId × ℕ)) (value : ℕ → Option Value) → Alike b resident class value
      → Alike (body_with set b) resident class (λ f. cond (eqb set.field f) (Some set.value) (value f))
  alike_with set None resident class value h = h
  alike_with set (Some body) resident class value h = set_says set body resident class value h

  alike_set : (set : Set) (b : Option Body) (resident : Bool) (class : Option (ClassId × ℕ)) (value : ℕ → Option Value) → Alike b resident class value
      → Alike (cond (eqb set.object o) (body_with set b) b) resident class (λ f. value_by_set o f (value f) set)
  alike_set set b resident class value h = by (eqb set.object o)
    where
      by : (here : Bool) → Alike (cond here (body_with set b) b) resident class (λ f. cond (here && eqb set.field f) (Some set.value) (value f))
      by true = alike_with set b resident class value h
      by false = h

  alike_sets : (sets : List Set) (b : Option Body) (resident : Bool) (class : Option (ClassId × ℕ)) (value : ℕ → Option Value) → Alike b resident class value
      → Alike (body_by_sets o sets b) resident class (λ f. value_by_sets o f sets (value f))
  alike_sets [] b resident class value h = h
  alike_sets (set ∷ sets) b resident class value h = alike_sets sets (cond (eqb set.object o) (body_with set b) b) resident class (λ f. value_by_set o f (value f) set) (alike_set set b resident class value h)

  -- ---- one more entry

  alike_taken : (m : Down) (b : Option Body) (resident : Bool) (class : Option (ClassId × ℕ)) (value : ℕ → Option Value) → Alike b resident class value
      → Alike (body_by_taken o m b) (resident_by_taken o m resident) (class_by_taken o m class) (λ f. value_by_taken o f m (value f))
  alike_taken (down.Object body) b resident class value h = alike_body body b resident class value h
  alike_taken (down.Changes sets) b resident class value h = alike_sets sets b resident class value h
  alike_taken m b resident class value h = h

  alike_input : (i : Input) (b : Option Body) (resident : Bool) (class : Option (ClassId × ℕ)) (value : ℕ → Option Value) → Alike b resident class value
      → Alike (by_taken_down (body_by_taken o) i b) (by_taken_down (resident_by_taken o) i resident) (by_taken_down (class_by_taken o) i class) (λ f. by_taken_down (value_by_taken o f) i (value f))
  alike_input (input.TookDown m) b resident class value h = alike_taken m b resident class value h
  alike_input i b resident class value h = h

  alike_said : (m : Up) (b : Option Body) (resident : Bool) (class : Option (ClassId × ℕ)) (value : ℕ → Option Value) → Alike b resident class value
      → Alike (body_by_sent o m b) (resident_by_sent o m resident) (class_by_sent o m class) (λ f. value_by_sent o f m (value f))
  alike_said (up.Commit txn) b resident class value h = alike_sets txn.sets (body_by_news o txn.news b) (cond (is_among o txn.news) true resident) (class_by_bodies o txn.news class)
      (λ f. value_by_bodies o f txn.news (value f)) (alike_bodies txn.news b resident class value h)
  alike_said m b resident class value h = h

  alike_sent : (sent : List Sent) (b : Option Body) (resident : Bool) (class : Option (ClassId × ℕ)) (value : ℕ → Option Value) → Alike b resident class value
      → Alike (by_sent_up (body_by_sent o) sent b) (by_sent_up (resident_by_sent o) sent resident) (by_sent_up (class_by_sent o) sent class) (λ f. by_sent_up (value_by_sent o f) sent (value f))
  alike_sent [] b resident class value h = h
  alike_sent (ToServer m ∷ sent) b resident class value h = alike_sent sent (body_by_sent o m b) (resident_by_sent o m resident) (class_by_sent o m class) (λ f. value_by_sent o f m (value f)) (alike_said m b resident class value h)
  alike_sent (ToClient c m ∷ sent) b resident class value h = alike_sent sent b resident class value h

  alike_flush : (i : Input) (b : Option Body) (resident : Bool) (class : Option (ClassId × ℕ)) (value : ℕ → Option Value) → Alike b resident class value
      → Alike (body_by_flush o i b) (unless_flushed o i resident) class value
  alike_flush (input.Flush x) b resident class value h = by (eqb x o)
    where
      by : (here : Bool) → Alike (cond here None b) (cond here false resident) class value
      by true = refl
      by false = h
  alike_flush i b resident class value h = h

  alike : (es : List Entry) → Alike (held_body o es) (is_resident o es) (class_held o es) (λ f. value_held o f es)
  alike [] = refl
  alike (e ∷ es) = alike_flush e.input (by_sent_up (body_by_sent o) e.sent (by_taken_down (body_by_taken o) e.input (held_body o es)))
      (by_sent_up (resident_by_sent o) e.sent (by_taken_down (resident_by_taken o) e.input (is_resident o es))) (class_held o (e ∷ es)) (λ f. value_held o f (e ∷ es))
      (alike_sent e.sent (by_taken_down (body_by_taken o) e.input (held_body o es)) (by_taken_down (resident_by_taken o) e.input (is_resident o es))
      (by_taken_down (class_by_taken o) e.input (class_held o es)) (λ f. by_taken_down (value_by_taken o f) e.input (value_held o f es))
      (alike_input e.input (held_body o es) (is_resident o es) (class_held o es) (λ f. value_held o f es) (alike es)))

  -- ---- what it tells

  -- it is there exactly where the object is resident
  resident_so : (b : Option Body) (resident : Bool) (class : Option (ClassId × ℕ)) (value : ℕ → Option Value) → Alike b resident class value → is_some b ≡ resident
  resident_so None resident class value h = sym h
  resident_so (Some body) resident class value h = sym h.there

  -- what a body that is there says
  says : (b : Option Body) (body : Body) (resident : Bool) (class : Option (ClassId × ℕ)) (value : ℕ → Option Value) → Alike b resident class value → b ≡ Some body → Says body resident class value
  says b body resident class value h is = subst (λ b. Alike b resident class value) is h

-- Whatever the entries are, the body held tells residency, class and copies.
pub bodies_are_held : BodiesAreHeld
bodies_are_held o es = record {
  resident = resident_so o (held_body o es) (is_resident o es) (class_held o es) (λ f. value_held o f es) (alike o es);
  class = λ body is. (said body is).classed;
  fields = λ body f is less. ap (λ b. cond b (value_held o f es) None) (said body is).there ∙ (said body is).valued f less;
}
  where
    said : (body : Body) → held_body o es ≡ Some body → Says o body (is_resident o es) (class_held o es) (λ f. value_held o f es)
    said body is = says o (held_body o es) body (is_resident o es) (class_held o es) (λ f. value_held o f es) (alike o es) is

-- A client's copies are whole: of a resident object it has the class, and a value for each field below the size. Of any entries.
use Rattle.std.proofs.Common.{ℕ, zero, suc, ◌<◌, ◌≡◌, ◌≢◌, refl, subst, Bool, true, false, cond, eqb, ◌||◌, Option, Some, None, List, [], ◌∷◌, length, slice_get, arith}
use Rattle.dso_base.specs.declared.journal.Entry.{Entry}
use Rattle.dso_base.specs.declared.journal.Input.{Input}
use Rattle.dso_base.specs.declared.journal.Input.TheVariants as input
use Rattle.dso_base.specs.declared.journal.Sent.{Sent}
use Rattle.dso_base.specs.declared.journal.Sent.TheVariants.{ToServer, ToClient}
use Rattle.dso_base.specs.declared.message.Down.{Down}
use Rattle.dso_base.specs.declared.message.Down.TheVariants as down
use Rattle.dso_base.specs.declared.message.Up.{Up}
use Rattle.dso_base.specs.declared.message.Up.TheVariants as up
use Rattle.dso_base.specs.declared.record.Body.{Body}
use Rattle.dso_base.specs.declared.record.Set.{Set}
use Rattle.dso_base.specs.declared.value.ClassId.{ClassId}
use Rattle.dso_base.specs.declared.value.Value.{Value}
use Rattle.dso_law.specs.Entries.{by_taken_down, by_sent_up}
use Rattle.dso_law.specs.Copies.{is_among, is_resident, resident_by_taken, resident_by_sent, unless_flushed, is_set_of, value_by_body, value_by_bodies, value_by_set, value_by_sets, value_by_taken, value_by_sent, value_held, class_by_bodies, class_by_taken, class_by_sent, class_held}

-- a value of a list within its length
pub value_within : (values : List Value) (f : ℕ) → f < length values → slice_get values f ≢ None
value_within [] f less = absurd (omega (arith, less))
value_within (v ∷ values) zero less = λ none. cc none
value_within (v ∷ values) (suc f) less = value_within values f (omega (arith, less))

-- where one was held, sets leave one
pub still_set : (o f : ℕ) (sets : List Set) (v : Option Value) → v ≢ None → value_by_sets o f sets v ≢ None
still_set o f [] v there = there
still_set o f (set ∷ sets) v there = still_set o f sets (value_by_set o f v set) (by (is_set_of o f set))
  where
    by : (b : Bool) → cond b (Some set.value) v ≢ None
    by true = λ none. cc none
    by false = there

module _ (o : ℕ) where
  -- a value is held for each field below the size, if a class is held
  abbrev Whole : Option (ClassId × ℕ) → (ℕ → Option Value) → Type 0
  Whole None value = Unit {0}
  Whole (Some class) value = (f : ℕ) → f < class.1 → value f ≢ None

  -- where a test holds, a class is held
  abbrev Classed : Bool → Option (ClassId × ℕ) → Type 0
  Classed b class = b ≡ true → class ≢ None

  whole_body : (body : Body) (class : Option (ClassId × ℕ)) (value : ℕ → Option Value) → Whole class value
      → Whole (cond (eqb body.object o) (Some (body.class, length body.values)) class) (λ f. value_by_body o f (value f) body)
  whole_body body class value h = by (eqb body.object o)
    where
      by : (b : Bool) → Whole (cond b (Some (body.class, length body.values)) class) (λ f. cond b (slice_get body.values f) (value f))
      by true = λ f less. value_within body.values f less
      by false = h

  whole_bodies : (bodies : List Body) (class : Option (ClassId × ℕ)) (value : ℕ → Option Value) → Whole class value → Whole (class_by_bodies o bodies class) (λ f. value_by_bodies o f bodies (value f))
  whole_bodies [] class value h = h
  whole_bodies (body ∷ bodies) class value h = whole_bodies bodies (cond (eqb body.object o) (Some (body.class, length body.values)) class) (λ f. value_by_body o f (value f) body) (whole_body body class value h)

  whole_sets : (sets : List Set) (class : Option (ClassId × ℕ)) (value : ℕ → Option Value) → Whole class value → Whole class (λ f. value_by_sets o f sets (value f))
  whole_sets sets None value h = tt
  whole_sets sets (Some class) value h = λ f less. still_set o f sets (value f) (h f less)

  whole_taken : (m : Down) (class : Option (ClassId × ℕ)) (value : ℕ → Option Value) → Whole class value → Whole (class_by_taken o m class) (λ f. value_by_taken o f m (value f))
  whole_taken (down.Object body) class value h = whole_body body class value h
  whole_taken (down.Changes sets) class value h = whole_sets sets class value h
  whole_taken m class value h = h

  whole_said : (m : Up) (class : Option (ClassId × ℕ)) (value : ℕ → Option Value) → Whole class value → Whole (class_by_sent o m class) (λ f. value_by_sent o f m (value f))
  whole_said (up.Commit txn) class value h = whole_sets txn.sets (class_by_bodies o txn.news class) (λ f. value_by_bodies o f txn.news (value f)) (whole_bodies txn.news class value h)
  whole_said m class value h = h

  whole_sent : (sent : List Sent) (class : Option (ClassId × ℕ)) (value : ℕ → Option Value) → Whole class value → Whole (by_sent_up (class_by_sent o) sent class) (λ f. by_sent_up (value_by_sent o f) sent (value f))
  whole_sent [] class value h = h
  whole_sent (ToServer m ∷ sent) class value h = whole_sent sent (class_by_sent o m class) (λ f. value_by_sent o f m (value f)) (whole_said m class value h)
  whole_sent (ToClient c m ∷ sent) class value h = whole_sent sent class value h

  whole_input : (i : Input) (class : Option (ClassId × ℕ)) (value : ℕ → Option Value) → Whole class value → Whole (by_taken_down (class_by_taken o) i class) (λ f. by_taken_down (value_by_taken o f) i (value f))
  whole_input (input.TookDown m) class value h = whole_taken m class value h
  whole_input i class value h = h

  whole : (own : List Entry) → Whole (class_held o own) (λ f. value_held o f own)
  whole [] = tt
  whole (e ∷ own) = whole_sent e.sent (by_taken_down (class_by_taken o) e.input (class_held o own)) (λ f. by_taken_down (value_by_taken o f) e.input (value_held o f own))
      (whole_input e.input (class_held o own) (λ f. value_held o f own) (whole own))

  -- ---- residency

  -- bodies leave a class that is held
  still_classed : (bodies : List Body) (class : Option (ClassId × ℕ)) → class ≢ None → class_by_bodies o bodies class ≢ None
  still_classed [] class there = there
  still_classed (body ∷ bodies) class there = still_classed bodies (cond (eqb body.object o) (Some (body.class, length body.values)) class) (by (eqb body.object o))
    where
      by : (b : Bool) → cond b (Some (body.class, length body.values)) class ≢ None
      by true = λ none. cc none
      by false = there

  -- and give one where one of them is of the object
  among_classed : (bodies : List Body) (class : Option (ClassId × ℕ)) → is_among o bodies ≡ true → class_by_bodies o bodies class ≢ None
  among_classed [] class is = absurd (cc is)
  among_classed (body ∷ bodies) class is = by (eqb body.object o) is
      (still_classed bodies (Some (body.class, length body.values)) (λ none. cc none)) (among_classed bodies class)
    where
      by : (b : Bool) → (b || is_among o bodies) ≡ true → class_by_bodies o bodies (Some (body.class, length body.values)) ≢ None → (is_among o bodies ≡ true → class_by_bodies o bodies class ≢ None)
          → class_by_bodies o bodies (cond b (Some (body.class, length body.values)) class) ≢ None
      by true is here later = here
      by false is here later = later is

  classed_bodies : (bodies : List Body) (b : Bool) (class : Option (ClassId × ℕ)) → Classed b class → Classed (cond (is_among o bodies) true b) (class_by_bodies o bodies class)
  classed_bodies bodies b class h = by (is_among o bodies) refl
    where
      by : (there : Bool) → is_among o bodies ≡ there → Classed (cond there true b) (class_by_bodies o bodies class)
      by true is = λ yes_is. among_classed bodies class is
      by false is = λ before. still_classed bodies class (h before)

  classed_taken : (m : Down) (b : Bool) (class : Option (ClassId × ℕ)) → Classed b class → Classed (resident_by_taken o m b) (class_by_taken o m class)
  classed_taken (down.Object body) b class h = by (eqb body.object o)
    where
      by : (there : Bool) → Classed (cond there true b) (cond there (Some (body.class, length body.values)) class)
      by true = λ yes_is none. cc none
      by false = h
  classed_taken m b class h = h

  classed_said : (m : Up) (b : Bool) (class : Option (ClassId × ℕ)) → Classed b class → Classed (resident_by_sent o m b) (class_by_sent o m class)
  classed_said (up.Commit txn) b class h = classed_bodies txn.news b class h
  classed_said m b class h = h

  classed_sent : (sent : List Sent) (b : Bool) (class : Option (ClassId × ℕ)) → Classed b class → Classed (by_sent_up (resident_by_sent o) sent b) (by_sent_up (class_by_sent o) sent class)
  classed_sent [] b class h = h
  classed_sent (ToServer m ∷ sent) b class h = classed_sent sent (resident_by_sent o m b) (class_by_sent o m class) (classed_said m b class h)
  classed_sent (ToClient c m ∷ sent) b class h = classed_sent sent b class h

  classed_input : (i : Input) (b : Bool) (class : Option (ClassId × ℕ)) → Classed b class → Classed (by_taken_down (resident_by_taken o) i b) (by_taken_down (class_by_taken o) i class)
  classed_input (input.TookDown m) b class h = classed_taken m b class h
  classed_input i b class h = h

  classed_flush : (i : Input) (b : Bool) (class : Option (ClassId × ℕ)) → Classed b class → Classed (unless_flushed o i b) class
  classed_flush (input.Flush x) b class h = by (eqb x o)
    where
      by : (here : Bool) → Classed (cond here false b) class
      by true = λ never. absurd (cc never)
      by false = h
  classed_flush i b class h = h

  -- A resident object has a class,
  pub resident_classed : (own : List Entry) → is_resident o own ≡ true → class_held o own ≢ None
  resident_classed [] is = absurd (cc is)
  resident_classed (e ∷ own) is = classed_flush e.input (by_sent_up (resident_by_sent o) e.sent (by_taken_down (resident_by_taken o) e.input (is_resident o own))) (class_held o (e ∷ own))
      (classed_sent e.sent (by_taken_down (resident_by_taken o) e.input (is_resident o own)) (by_taken_down (class_by_taken o) e.input (class_held o own))
      (classed_input e.input (is_resident o own) (class_held o own) (resident_classed own))) is

  -- and what has a class has a value for each field below its size.
  pub field_held : (own : List Entry) (class : ClassId × ℕ) (f : ℕ) → class_held o own ≡ Some class → f < class.1 → value_held o f own ≢ None
  field_held own class f is less = subst (λ class. Whole class (λ f. value_held o f own)) is (whole own) f less

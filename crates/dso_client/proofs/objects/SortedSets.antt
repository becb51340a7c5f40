-- The sets of a thread's work rise, so each field has one of them.
use Rattle.std.proofs.Common.{ℕ, ◌≡◌, refl, sym, ◌∙◌, ap, subst, Bool, true, false, cond, eqb, ltb, ◌&&◌, ◌||◌, is_some, Option, Some, List, [], ◌∷◌, find, arith}
use Rattle.std.proofs.lemmas.Bool.Decides.{nat_tests}
use Rattle.std.specs.Option.{option_map}
use Rattle.dso_base.specs.declared.lock.ThreadId.{ThreadId}
use Rattle.dso_base.specs.declared.journal.Entry.{Entry}
use Rattle.dso_base.specs.declared.record.Set.{Set}
use Rattle.dso_base.specs.declared.request.Event.{Event}
use Rattle.dso_base.specs.declared.request.Event.TheVariants.{Act, Lost}
use Rattle.dso_base.specs.declared.request.Reply.{Reply}
use Rattle.dso_base.specs.declared.request.Reply.TheVariants.{Done, Made}
use Rattle.dso_base.specs.declared.request.Request.{Request}
use Rattle.dso_base.specs.declared.request.Request.TheVariants.{New, Put, Notify, NotifyAll, Print}
use Rattle.dso_base.specs.declared.shape.Shape.{Shape}
use Rattle.dso_base.specs.declared.value.Value.{Value}
use Rattle.dso_base.specs.Block.{Work, body_in, with_value, is_same_field, is_field_before, insert_set, publish, put_shared, put, work_by, worked, start}
use Rattle.dso_plain.proofs.keys.SameKeys.{same_number}
use Rattle.dso_lookup.proofs.Tests.{both}
use Rattle.dso_law.specs.Copies.{is_set_of, value_by_set, value_by_sets}
use Rattle.dso_law.specs.FitsUp.{Rises}
use Rattle.dso_law.specs.Threads.{or_else, open_block, privates_before, work_of}
use Rattle.dso_txn.specs.InHand.{put_value}

behind : (x : Set) (sets : List Set) → Rises is_field_before (x ∷ sets) → Rises is_field_before sets
behind x [] h = tt
behind x (y ∷ sets) h = h.1

-- what neither is the same nor comes before comes after
place_after : (a b f g : ℕ) → (eqb a b && eqb f g) ≡ false → (ltb a b || (eqb a b && ltb f g)) ≡ false → (ltb b a || (eqb b a && ltb g f)) ≡ true
place_after a b f g other late = grind (arith, nat_tests)

-- a set of the same field stands where the other does
same_place : (a b : Set) → is_same_field a b ≡ true → (c : Set) → is_field_before b c ≡ true → is_field_before a c ≡ true
same_place a b same c e =
    let it = both (eqb a.object b.object) (eqb a.field b.field) same in
    subst (λ o. (ltb o c.object || (eqb o c.object && ltb a.field c.field)) ≡ true) (sym (same_number a.object b.object it.0))
    (subst (λ f. (ltb b.object c.object || (eqb b.object c.object && ltb f c.field)) ≡ true) (sym (same_number a.field b.field it.1)) e)

set_under : (x set : Set) (sets : List Set) → is_field_before x set ≡ true → Rises is_field_before (x ∷ sets) → Rises is_field_before (insert_set set sets) → Rises is_field_before (x ∷ insert_set set sets)
set_under x set [] le h g = (le, tt)
set_under x set (y ∷ sets) le h g = by (is_same_field set y) (is_field_before set y) g
  where
    by : (s b : Bool) → Rises is_field_before (cond s (set ∷ sets) (cond b (set ∷ y ∷ sets) (y ∷ insert_set set sets))) → Rises is_field_before (x ∷ cond s (set ∷ sets) (cond b (set ∷ y ∷ sets) (y ∷ insert_set set sets)))
    by true b rise = (le, rise)
    by false true rise = (le, rise)
    by false false rise = (h.0, rise)

-- a set instead of one of the same field
set_instead : (set first : Set) (sets : List Set) → is_same_field set first ≡ true → Rises is_field_before (first ∷ sets) → Rises is_field_before (set ∷ sets)
set_instead set first [] same h = tt
set_instead set first (y ∷ sets) same h = (same_place set first same y h.0, h.1)

set_rises : (set : Set) (sets : List Set) → Rises is_field_before sets → Rises is_field_before (insert_set set sets)
set_rises set [] h = tt
set_rises set (first ∷ sets) h = by (is_same_field set first) (is_field_before set first) refl refl (set_rises set sets (behind first sets h))
  where
    by : (s b : Bool) → is_same_field set first ≡ s → is_field_before set first ≡ b → Rises is_field_before (insert_set set sets)
        → Rises is_field_before (cond s (set ∷ sets) (cond b (set ∷ first ∷ sets) (first ∷ insert_set set sets)))
    by true b same e rise = set_instead set first sets same h
    by false true same e rise = (e, h)
    by false false same e rise = set_under first set sets (place_after set.object first.object set.field first.field same e) h rise

shared_rises : (x f : ℕ) (v : Value) (work : Work) → Rises is_field_before work.sets → Rises is_field_before (put_shared x f v work).sets
shared_rises x f v work h = by (is_some (body_in x work.news))
  where
    by : (b : Bool) → Rises is_field_before (cond b (record work { news = with_value x f v work.news }) (record work { sets = insert_set (record { object = x; field = f; value = v }) work.sets })).sets
    by true = h
    by false = set_rises (record { object = x; field = f; value = v }) work.sets h

put_rises : (x f : ℕ) (v : Value) (work : Work) → Rises is_field_before work.sets → Rises is_field_before (put x f v work).sets
put_rises x f v work h = by (is_some (body_in x work.privates))
  where
    by : (b : Bool) → Rises is_field_before (cond b (record work { privates = with_value x f v work.privates }) (publish v (put_shared x f v work))).sets
    by true = h
    by false = shared_rises x f v work h

act_rises : (shape : Shape) (request : Request) (reply : Reply) (woken : Option ThreadId) (work : Work) → Rises is_field_before work.sets → Rises is_field_before (work_by shape request reply woken work).sets
act_rises shape (New class n) (Made x) woken work h = h
act_rises shape (New class n) reply woken work h = h
act_rises shape (Put x f v) Done woken work h = put_rises x f v work h
act_rises shape (Put x f v) reply woken work h = h
act_rises shape (Notify l) Done woken work h = h
act_rises shape (Notify l) reply woken work h = h
act_rises shape (NotifyAll l) Done woken work h = h
act_rises shape (NotifyAll l) reply woken work h = h
act_rises shape (Print v) Done woken work h = h
act_rises shape (Print v) reply woken work h = h
act_rises shape request reply woken work h = h

events_rise : (shape : Shape) (events : List Event) (work : Work) → Rises is_field_before work.sets → Rises is_field_before (worked shape events work).sets
events_rise shape [] work h = h
events_rise shape (Act t request reply woken ∷ events) work h = events_rise shape events (work_by shape request reply woken work) (act_rises shape request reply woken work h)
events_rise shape (Lost c ∷ events) work h = events_rise shape events work h

-- the sets that a thread has in hand rise
pub sets_rise : (shape : Shape) (t : ThreadId) (es : List Entry) → Rises is_field_before (work_of shape t es).sets
sets_rise shape t es = events_rise shape (open_block t es) (start (privates_before shape t es)) tt

module _ (o f : ℕ) where
  -- the set is of a field behind this one
  abbrev is_past : Set → Bool
  is_past set = ltb o set.object || (eqb o set.object && ltb f set.field)

  past_on : (a g b h : ℕ) → (ltb o a || (eqb o a && ltb f g)) ≡ true → (ltb a b || (eqb a b && ltb g h)) ≡ true → (ltb o b || (eqb o b && ltb f h)) ≡ true
  past_on a g b h past before = grind (arith, nat_tests)

  past_here : (a g b h : ℕ) → (eqb a o && eqb g f) ≡ true → (ltb a b || (eqb a b && ltb g h)) ≡ true → (ltb o b || (eqb o b && ltb f h)) ≡ true
  past_here a g b h here before = grind (arith, nat_tests)

  past_isnt : (a g : ℕ) → (ltb o a || (eqb o a && ltb f g)) ≡ true → (eqb a o && eqb g f) ≡ false
  past_isnt a g past = grind (arith, nat_tests)

  -- a set behind tells nothing of the field
  past_one : (before : Option Value) (set : Set) → is_past set ≡ true → value_by_set o f before set ≡ before
  past_one before set past = ap (λ b. cond b (Some set.value) before) (past_isnt set.object set.field past)

  past_all : (before : Option Value) (x : Set) (sets : List Set) → is_past x ≡ true → Rises is_field_before (x ∷ sets) → value_by_sets o f sets before ≡ before
  past_all before x [] past h = refl
  past_all before x (y ∷ sets) past h =
      let it : is_past y ≡ true = past_on x.object x.field y.object y.field past h.0 in
      ap (λ v. value_by_sets o f sets v) (past_one before y it) ∙ past_all before y sets it h.1

  past_first : (before : Option Value) (x : Set) (sets : List Set) → is_set_of o f x ≡ true → Rises is_field_before (x ∷ sets) → value_by_sets o f sets before ≡ before
  past_first before x [] here h = refl
  past_first before x (y ∷ sets) here h =
      let it : is_past y ≡ true = past_here x.object x.field y.object y.field here h.0 in
      ap (λ v. value_by_sets o f sets v) (past_one before y it) ∙ past_all before y sets it h.1

  -- where sets rise, the one of a field is the last of it
  pub value_last : (before : Option Value) (sets : List Set) → Rises is_field_before sets → value_by_sets o f sets before ≡ or_else (put_value o f sets) before
  value_last before [] h = refl
  value_last before (x ∷ sets) h = by (is_set_of o f x) refl (value_last before sets (behind x sets h))
    where
      by : (b : Bool) → is_set_of o f x ≡ b → value_by_sets o f sets before ≡ or_else (put_value o f sets) before
          → value_by_sets o f sets (cond b (Some x.value) before) ≡ or_else (option_map (λ set. set.value) (cond b (Some x) (find (is_set_of o f) sets))) before
      by true is rest = past_first (Some x.value) x sets is h
      by false is rest = rest

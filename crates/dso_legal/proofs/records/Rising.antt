-- The news and the sets of a thread's work rise, whatever its events are.
use Rattle.std.proofs.Common.{ℕ, ◌+◌, ◌<◌, ◌≤◌, ◌≡◌, refl, sym, subst, Bool, true, false, cond, not, eqb, ltb, ◌&&◌, ◌||◌, is_some, Option, List, [], ◌∷◌, arith}
use Rattle.std.specs.Prelude.{filter, slice_set}
use Rattle.std.proofs.lemmas.Bool.Decides.{nat_tests}
use Rattle.dso_base.specs.declared.lock.ThreadId.{ThreadId}
use Rattle.dso_base.specs.declared.record.Body.{Body}
use Rattle.dso_base.specs.declared.record.Set.{Set}
use Rattle.dso_base.specs.declared.request.Event.{Event}
use Rattle.dso_base.specs.declared.request.Event.TheVariants.{Act, Lost}
use Rattle.dso_base.specs.declared.request.Reply.{Reply}
use Rattle.dso_base.specs.declared.request.Reply.TheVariants.{Done, Made}
use Rattle.dso_base.specs.declared.request.Request.{Request}
use Rattle.dso_base.specs.declared.request.Request.TheVariants.{New, Put, Notify, NotifyAll, Print}
use Rattle.dso_base.specs.declared.shape.Shape.{Shape}
use Rattle.dso_base.specs.declared.value.Value.{Value}
use Rattle.dso_base.specs.Block.{Work, body_in, with_value, is_published, insert_body, insert_bodies, is_same_field, is_field_before, insert_set, publish, put_shared, put, work_by, work_after, worked}
use Rattle.dso_plain.proofs.keys.SameKeys.{same_number, number_self}
use Rattle.dso_lookup.proofs.Tests.{both}
use Rattle.dso_law.specs.FitsUp.{Rises}
use Rattle.dso_legal.specs.OwnObjects.{count_bodies}

-- the first body is of no greater object
abbrev pub is_upto : Body → Body → Bool
is_upto a b = not (ltb b.object a.object)

-- what rises behind the first does
behind : {X : Type 0} (before : X → X → Bool) (x : X) (xs : List X) → Rises before (x ∷ xs) → Rises before xs
behind before x [] h = tt
behind before x (y ∷ xs) h = h.1

-- of two numbers one isn't less
one_way : (a b : ℕ) → ltb a b ≡ true → not (ltb b a) ≡ true
one_way a b e = by (ltb b a) refl
  where
    never : ltb a b ≡ true → ltb b a ≡ true → ⊥
    never x y =
        let less : a < b = grind (arith, nat_tests) in
        let more : b < a = grind (arith, nat_tests) in
        omega (arith, less, more)

    by : (t : Bool) → ltb b a ≡ t → not t ≡ true
    by true is = absurd (never e is)
    by false is = refl

not_false : (b : Bool) → b ≡ false → not b ≡ true
not_false true e = absurd (cc e)
not_false false e = refl

-- a body put in its place, behind one that is upto it
body_under : (x body : Body) (bodies : List Body) → is_upto x body ≡ true → Rises is_upto (x ∷ bodies) → Rises is_upto (insert_body body bodies) → Rises is_upto (x ∷ insert_body body bodies)
body_under x body [] le h g = (le, tt)
body_under x body (y ∷ bodies) le h g = by (ltb body.object y.object) g
  where
    by : (b : Bool) → Rises is_upto (cond b (body ∷ y ∷ bodies) (y ∷ insert_body body bodies)) → Rises is_upto (x ∷ cond b (body ∷ y ∷ bodies) (y ∷ insert_body body bodies))
    by true rise = (le, rise)
    by false rise = (h.0, rise)

body_rises : (body : Body) (bodies : List Body) → Rises is_upto bodies → Rises is_upto (insert_body body bodies)
body_rises body [] h = tt
body_rises body (first ∷ bodies) h = by (ltb body.object first.object) refl (body_rises body bodies (behind is_upto first bodies h))
  where
    by : (b : Bool) → ltb body.object first.object ≡ b → Rises is_upto (insert_body body bodies) → Rises is_upto (cond b (body ∷ first ∷ bodies) (first ∷ insert_body body bodies))
    by true e rise = (one_way body.object first.object e, h)
    by false e rise = body_under first body bodies (not_false (ltb body.object first.object) e) h rise

bodies_rise : (bodies news : List Body) → Rises is_upto news → Rises is_upto (insert_bodies bodies news)
bodies_rise [] news h = h
bodies_rise (body ∷ bodies) news h = body_rises body (insert_bodies bodies news) (bodies_rise bodies news h)

-- a value in a field changes no id
valued_rise : (x f : ℕ) (v : Value) (bodies : List Body) → Rises is_upto bodies → Rises is_upto (with_value x f v bodies)
valued_rise x f v [] h = tt
valued_rise x f v (a ∷ []) h = tt
valued_rise x f v (a ∷ b ∷ bodies) h = (by (eqb a.object x) (eqb b.object x), valued_rise x f v (b ∷ bodies) h.1)
  where
    by : (s t : Bool) → is_upto (cond s (record a { values = slice_set a.values f v }) a) (cond t (record b { values = slice_set b.values f v }) b) ≡ true
    by true true = h.0
    by true false = h.0
    by false true = h.0
    by false false = h.0

-- what neither is the same nor comes before comes after
place_after : (a b f g : ℕ) → (eqb a b && eqb f g) ≡ false → (ltb a b || (eqb a b && ltb f g)) ≡ false → (ltb b a || (eqb b a && ltb g f)) ≡ true
place_after a b f g other late = grind (arith, nat_tests)

-- a set of the same field stands where the other does
same_place : (a b : Set) → is_same_field a b ≡ true → (c : Set) → is_field_before b c ≡ true → is_field_before a c ≡ true
same_place a b same c e =
    let it = both (eqb a.object b.object) (eqb a.field b.field) same in
    subst (λ o. (ltb o c.object || (eqb o c.object && ltb a.field c.field)) ≡ true) (sym (same_number a.object b.object it.0))
    (subst (λ f. (ltb b.object c.object || (eqb b.object c.object && ltb f c.field)) ≡ true) (sym (same_number a.field b.field it.1)) e)

set_under : (x set : Set) (sets : List Set) → is_field_before x set ≡ true → Rises is_field_before (x ∷ sets) → Rises is_field_before (insert_set set sets) → Rises is_field_before (x ∷ insert_set set sets)
set_under x set [] le h g = (le, tt)
set_under x set (y ∷ sets) le h g = by (is_same_field set y) (is_field_before set y) g
  where
    by : (s b : Bool) → Rises is_field_before (cond s (set ∷ sets) (cond b (set ∷ y ∷ sets) (y ∷ insert_set set sets))) → Rises is_field_before (x ∷ cond s (set ∷ sets) (cond b (set ∷ y ∷ sets) (y ∷ insert_set set sets)))
    by true b rise = (le, rise)
    by false true rise = (le, rise)
    by false false rise = (h.0, rise)

-- a set instead of one of the same field
set_instead : (set first : Set) (sets : List Set) → is_same_field set first ≡ true → Rises is_field_before (first ∷ sets) → Rises is_field_before (set ∷ sets)
set_instead set first [] same h = tt
set_instead set first (y ∷ sets) same h = (same_place set first same y h.0, h.1)

set_rises : (set : Set) (sets : List Set) → Rises is_field_before sets → Rises is_field_before (insert_set set sets)
set_rises set [] h = tt
set_rises set (first ∷ sets) h = by (is_same_field set first) (is_field_before set first) refl refl (set_rises set sets (behind is_field_before first sets h))
  where
    by : (s b : Bool) → is_same_field set first ≡ s → is_field_before set first ≡ b → Rises is_field_before (insert_set set sets)
        → Rises is_field_before (cond s (set ∷ sets) (cond b (set ∷ first ∷ sets) (first ∷ insert_set set sets)))
    by true b same e rise = set_instead set first sets same h
    by false true same e rise = (e, h)
    by false false same e rise = set_under first set sets (place_after set.object first.object set.field first.field same e) h rise

-- the news and the sets of the work rise
pub record WorkRises (work : Work) : Type 0 where
  pub news : Rises is_upto work.news
  pub sets : Rises is_field_before work.sets

publish_rises : (v : Value) (work : Work) → WorkRises work → WorkRises (publish v work)
publish_rises v work h = record { news = bodies_rise (filter (λ body. is_published work.privates v body.object) work.privates) work.news h.news; sets = h.sets }

shared_rises : (x f : ℕ) (v : Value) (work : Work) → WorkRises work → WorkRises (put_shared x f v work)
shared_rises x f v work h = by (is_some (body_in x work.news))
  where
    by : (b : Bool) → WorkRises (cond b (record work { news = with_value x f v work.news }) (record work { sets = insert_set (record { object = x; field = f; value = v }) work.sets }))
    by true = record { news = valued_rise x f v work.news h.news; sets = h.sets }
    by false = record { news = h.news; sets = set_rises (record { object = x; field = f; value = v }) work.sets h.sets }

put_rises : (x f : ℕ) (v : Value) (work : Work) → WorkRises work → WorkRises (put x f v work)
put_rises x f v work h = by (is_some (body_in x work.privates))
  where
    by : (b : Bool) → WorkRises (cond b (record work { privates = with_value x f v work.privates }) (publish v (put_shared x f v work)))
    by true = record { news = h.news; sets = h.sets }
    by false = publish_rises v (put_shared x f v work) (shared_rises x f v work h)

act_rises : (shape : Shape) (request : Request) (reply : Reply) (woken : Option ThreadId) (work : Work) → WorkRises work → WorkRises (work_by shape request reply woken work)
act_rises shape (New class n) (Made x) woken work h = record { news = h.news; sets = h.sets }
act_rises shape (Put x f v) Done woken work h = put_rises x f v work h
act_rises shape (Print v) Done woken work h = record { news = h.news; sets = h.sets }
act_rises shape (Notify l) Done woken work h = record { news = h.news; sets = h.sets }
act_rises shape (NotifyAll l) Done woken work h = record { news = h.news; sets = h.sets }
act_rises shape request reply woken work h = h

event_rises : (shape : Shape) (event : Event) (work : Work) → WorkRises work → WorkRises (work_after shape event work)
event_rises shape (Act thread request reply woken) work h = act_rises shape request reply woken work h
event_rises shape (Lost client) work h = h

-- after any events
pub work_rises : (shape : Shape) (events : List Event) (work : Work) → WorkRises work → WorkRises (worked shape events work)
work_rises shape [] work h = h
work_rises shape (event ∷ events) work h = work_rises shape events (work_after shape event work) (event_rises shape event work h)

-- bodies that rise, each of which stands once, rise by their ids
neither_less : (a b : ℕ) → ltb a b ≡ false → not (ltb b a) ≡ true → a ≡ b
neither_less a b e f = by (ltb b a) refl f
  where
    by : (t : Bool) → ltb b a ≡ t → not t ≡ true → a ≡ b
    by true is g = absurd (cc g)
    by false is g =
        let most : b ≤ a = grind (arith, nat_tests) in
        let least : a ≤ b = grind (arith, nat_tests) in
        omega (arith, most, least)

two_are_many : (n : ℕ) → 1 + (1 + n) ≤ 1 → ⊥
two_are_many n le = omega (arith, le)

rest_fits : (a n : ℕ) → a + n ≤ 1 → n ≤ 1
rest_fits a n le = omega (arith, le)

pub ids_rise : (bodies : List Body) → Rises is_upto bodies → ((o : ℕ) → count_bodies o bodies ≤ 1) → Rises (λ a b. ltb a.object b.object) bodies
ids_rise [] h few = tt
ids_rise (a ∷ []) h few = tt
ids_rise (a ∷ b ∷ bodies) h few = (
  by (ltb a.object b.object) refl,
  ids_rise (b ∷ bodies) h.1 (λ o. rest_fits (cond (eqb a.object o) 1 0) (count_bodies o (b ∷ bodies)) (few o)),
)
  where
    twice : a.object ≡ b.object → ⊥
    twice same =
        two_are_many (count_bodies b.object bodies)
        (subst (λ t. cond t 1 0 + (1 + count_bodies b.object bodies) ≤ 1) (subst (λ n. eqb n b.object ≡ true) (sym same) (number_self b.object))
        (subst (λ t. cond (eqb a.object b.object) 1 0 + (cond t 1 0 + count_bodies b.object bodies) ≤ 1) (number_self b.object) (few b.object)))

    by : (t : Bool) → ltb a.object b.object ≡ t → t ≡ true
    by true is = refl
    by false is = absurd (twice (neither_less a.object b.object is h.0))

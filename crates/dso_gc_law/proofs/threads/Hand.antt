-- What a thread has in hand names objects: what follows of all that it names follows of each part of it, and an act
-- adds only what its event names.
use Rattle.std.specs.List.{list_any, AllByRecursion}
use Rattle.std.proofs.Common.{ℕ, zero, suc, ◌≡◌, refl, sym, ◌∙◌, subst, Bool, true, false, cond, eqb, ◌||◌, is_some}
use Rattle.std.proofs.Common.{Option, Some, List, [], ◌∷◌, slice_get}
use Rattle.std.proofs.lemmas.List.Folds.{list_any-append}
use Rattle.dso_base.specs.declared.lock.ThreadId.{ThreadId}
use Rattle.dso_base.specs.declared.record.Body.{Body}
use Rattle.dso_base.specs.declared.record.Choice.{Choice}
use Rattle.dso_base.specs.declared.record.Choice.TheVariants.{All}
use Rattle.dso_base.specs.declared.record.Note.{Note}
use Rattle.dso_base.specs.declared.record.Set.{Set}
use Rattle.dso_base.specs.declared.lock.LockName.{LockName}
use Rattle.dso_base.specs.declared.request.Reply.{Reply}
use Rattle.dso_base.specs.declared.request.Reply.TheVariants.{Done, Made}
use Rattle.dso_base.specs.declared.request.Request.{Request}
use Rattle.dso_base.specs.declared.request.Request.TheVariants.{New, Put, Notify, NotifyAll, Print}
use Rattle.dso_base.specs.declared.shape.Shape.{Shape}
use Rattle.dso_base.specs.declared.value.ClassId.{ClassId}
use Rattle.dso_base.specs.declared.value.Kind.{Kind}
use Rattle.dso_base.specs.declared.value.Kind.TheVariants as kind
use Rattle.dso_base.specs.declared.value.Value.{Value}
use Rattle.dso_base.specs.declared.value.Value.TheVariants as value
use Rattle.dso_base.specs.Block.{Work, start, body_in, opening_value, has_reference, with_value, insert_set, put_shared}
use Rattle.dso_base.specs.Block.{publish, put, choice_of, noted, work_by}
use Rattle.dso_base.specs.Shape.{kind_of}
use Rattle.dso_base.specs.Naming.{lock_names, body_with_names, set_names, note_names, request_names, reply_names}
use Rattle.dso_base.specs.Naming.{work_names}
use Rattle.dso_legal.proofs.fitting.InHand.{BodyHas, SetHas, WorkHas, ActHas, each_so, act_has}
use Rattle.dso_legal.proofs.fitting.NamesInHand.{left_so, right_so, either_so}

-- what follows where one of a list passes a test follows of each of them,
module _ {X : Type 0} (test : X → Bool) (K : Type 0) where
  pub to_each : (xs : List X) → (list_any test xs ≡ true → K) → AllByRecursion (λ x. test x ≡ true → K) xs
  to_each [] h = tt
  to_each (x ∷ xs) h = (
    (λ is. h (left_so (test x) (list_any test xs) is)),
    to_each xs (λ is. h (right_so (test x) (list_any test xs) is)),
  )

  -- and back
  pub from_each : (xs : List X) → AllByRecursion (λ x. test x ≡ true → K) xs → list_any test xs ≡ true → K
  from_each [] h is = absurd (cc is)
  from_each (x ∷ xs) h is = either_so (test x) (list_any test xs) h.0 (from_each xs h.1) is

-- what follows where one of five tests holds, of each of them
pub record OfFive (K : Type 0) (a b c d e : Bool) : Type 0 where
  pub first : a ≡ true → K
  pub second : b ≡ true → K
  pub third : c ≡ true → K
  pub fourth : d ≡ true → K
  pub fifth : e ≡ true → K

-- it follows of each of the five,
pub to_five : (K : Type 0) (a b c d e : Bool) → ((a || (b || (c || (d || e)))) ≡ true → K) → OfFive K a b c d e
to_five K a b c d e h = record {
  first = λ is. h (left_so a (b || (c || (d || e))) is);
  second = λ is. h (in_first (left_so b (c || (d || e)) is));
  third = λ is. h (in_second (left_so c (d || e) is));
  fourth = λ is. h (in_second (right_so c (d || e) (left_so d e is)));
  fifth = λ is. h (in_second (right_so c (d || e) (right_so d e is)));
}
  where
    in_first : (b || (c || (d || e))) ≡ true → (a || (b || (c || (d || e)))) ≡ true
    in_first is = right_so a (b || (c || (d || e))) is

    in_second : (c || (d || e)) ≡ true → (a || (b || (c || (d || e)))) ≡ true
    in_second is = in_first (right_so b (c || (d || e)) is)

-- and back
pub from_five : (K : Type 0) (a b c d e : Bool) → OfFive K a b c d e → (a || (b || (c || (d || e)))) ≡ true → K
from_five K a b c d e h = either_so a (b || (c || (d || e))) h.first (either_so b (c || (d || e)) h.second
    (either_so c (d || e) h.third (either_so d e h.fourth h.fifth)))

-- ---- values

module _ (o : ℕ) where
  -- the first value names the object, or one behind it
  pub first_value : (v : Value) (values : List Value)
      → has_reference o (v ∷ values) ≡ (has_reference o (v ∷ []) || has_reference o values)
  first_value (value.Ref named) values = by (eqb named o)
    where
      by : (b : Bool) → (b || has_reference o values) ≡ ((b || false) || has_reference o values)
      by true = refl
      by false = refl
  first_value value.Null values = refl
  first_value (value.Long n) values = refl
  first_value (value.Bool b) values = refl
  first_value (value.Text n) values = refl

  -- a value of the list that names the object
  pub at_place : (values : List Value) (f : ℕ) (v : Value) → slice_get values f ≡ Some v
      → has_reference o (v ∷ []) ≡ true → has_reference o values ≡ true
  at_place [] f v at names = absurd (cc at)
  at_place (w ∷ values) zero v at names =
      let same : w ≡ v = cc at in
      first_value w values ∙ left_so (has_reference o (w ∷ [])) (has_reference o values)
      (subst (λ x. has_reference o (x ∷ []) ≡ true) (sym same) names)
  at_place (w ∷ values) (suc f) v at names = first_value w values
      ∙ right_so (has_reference o (w ∷ [])) (has_reference o values) (at_place values f v at names)

  -- an opening value names nothing
  opens_silent : {K : Type 0} (kind : Kind) → has_reference o (opening_value kind ∷ []) ≡ true → K
  opens_silent kind.Long names = absurd (cc names)
  opens_silent kind.Bool names = absurd (cc names)
  opens_silent kind.Text names = absurd (cc names)
  opens_silent kind.Ref names = absurd (cc names)

module _ (o : ℕ) (K : Type 0) where
  -- K follows where the number is the object's,
  abbrev pub IfIs : ℕ → Type 0
  IfIs x = eqb x o ≡ true → K

  -- and where the value names it
  abbrev pub IfNames : Value → Type 0
  IfNames v = has_reference o (v ∷ []) ≡ true → K

  -- so of an object of any class,
  abbrev pub OfObject : ℕ → ClassId → ℕ → Type 0
  OfObject x class n = IfIs x

  -- and of a field's object and the value in it
  abbrev pub OfField : ℕ → ℕ → Value → Type 0
  OfField x f v = IfIs x × IfNames v

  -- so of a body,
  abbrev pub BodyTells : Body → Type 0
  BodyTells body = BodyHas OfObject OfField IfNames IfNames body

  -- of a set,
  abbrev pub SetTells : Set → Type 0
  SetTells set = SetHas OfObject OfField IfNames IfNames set

  -- and of the work in hand, but for its notifications
  abbrev pub WorkTells : Work → Type 0
  WorkTells work = WorkHas OfObject OfField IfNames IfNames work

  -- ---- of a list of values

  -- where one of the list names the object, so does one value of it,
  values_to : (values : List Value) → (has_reference o values ≡ true → K) → AllByRecursion IfNames values
  values_to [] h = tt
  values_to (v ∷ values) h = (
    (λ names. h (first_value o v values ∙ left_so (has_reference o (v ∷ [])) (has_reference o values) names)),
    values_to values (λ names. h (first_value o v values
        ∙ right_so (has_reference o (v ∷ [])) (has_reference o values) names)),
  )

  -- and back
  values_from : (values : List Value) → AllByRecursion IfNames values → has_reference o values ≡ true → K
  values_from [] h names = absurd (cc names)
  values_from (v ∷ values) h names = either_so (has_reference o (v ∷ [])) (has_reference o values) h.0
      (values_from values h.1) (sym (first_value o v values) ∙ names)

  -- so by their places
  places_from : (values : List Value) → ((f : ℕ) (v : Value) → slice_get values f ≡ Some v → IfNames v)
      → has_reference o values ≡ true → K
  places_from [] h names = absurd (cc names)
  places_from (v ∷ values) h names = either_so (has_reference o (v ∷ [])) (has_reference o values) (h 0 v refl)
      (places_from values (λ f w at. h (suc f) w at)) (sym (first_value o v values) ∙ names)

  -- ---- of a body and of a set

  -- what follows where the body names the object follows of its object and each of its values,
  body_to : (body : Body) → (body_with_names body o ≡ true → K) → BodyTells body
  body_to body h = record {
    class = λ is. h (left_so (eqb body.object o) (has_reference o body.values) is);
    values = λ f v at. (
      (λ is. h (left_so (eqb body.object o) (has_reference o body.values) is)),
      (λ names. h (right_so (eqb body.object o) (has_reference o body.values) (at_place o body.values f v at names))),
    );
  }

  -- and back
  body_from : (body : Body) → BodyTells body → body_with_names body o ≡ true → K
  body_from body h = either_so (eqb body.object o) (has_reference o body.values) h.class
      (places_from body.values (λ f v at. (h.values f v at).1))

  -- so of a set,
  set_to : (set : Set) → (set_names set o ≡ true → K) → SetTells set
  set_to set h = (
    (λ is. h (left_so (eqb set.object o) (has_reference o (set.value ∷ [])) is)),
    (λ names. h (right_so (eqb set.object o) (has_reference o (set.value ∷ [])) names)),
  )

  -- and back
  set_from : (set : Set) → SetTells set → set_names set o ≡ true → K
  set_from set h = either_so (eqb set.object o) (has_reference o (set.value ∷ [])) h.0 h.1

  -- ---- of what is in hand

  -- K follows where the work names the object
  abbrev pub HandTells : Work → Type 0
  HandTells work = work_names work o ≡ true → K

  -- and where a notification does
  abbrev NotesTell : List Note → Type 0
  NotesTell notes = list_any (λ note. note_names note o) notes ≡ true → K

  -- the five parts of the work
  abbrev Parts : Work → Type 0
  Parts work = OfFive K (list_any (λ body. body_with_names body o) work.privates)
      (list_any (λ body. body_with_names body o) work.news) (list_any (λ set. set_names set o) work.sets)
      (has_reference o work.outs) (list_any (λ note. note_names note o) work.notes)

  -- it follows of each part,
  parts_of : (work : Work) → HandTells work → Parts work
  parts_of work h = to_five K (list_any (λ body. body_with_names body o) work.privates)
      (list_any (λ body. body_with_names body o) work.news) (list_any (λ set. set_names set o) work.sets)
      (has_reference o work.outs) (list_any (λ note. note_names note o) work.notes) h

  -- and back
  of_parts : (work : Work) → Parts work → HandTells work
  of_parts work parts = from_five K (list_any (λ body. body_with_names body o) work.privates)
      (list_any (λ body. body_with_names body o) work.news) (list_any (λ set. set_names set o) work.sets)
      (has_reference o work.outs) (list_any (λ note. note_names note o) work.notes) parts

  -- so of bodies,
  bodies_to : (bodies : List Body) → (list_any (λ body. body_with_names body o) bodies ≡ true → K)
      → AllByRecursion BodyTells bodies
  bodies_to bodies h = each_so (λ body. body_with_names body o ≡ true → K) BodyTells body_to bodies
      (to_each (λ body. body_with_names body o) K bodies h)

  -- and back
  bodies_from : (bodies : List Body) → AllByRecursion BodyTells bodies
      → list_any (λ body. body_with_names body o) bodies ≡ true → K
  bodies_from bodies h = from_each (λ body. body_with_names body o) K bodies
      (each_so BodyTells (λ body. body_with_names body o ≡ true → K) body_from bodies h)

  -- it follows of each body, set and printed value,
  pub hand_to : (work : Work) → HandTells work → WorkTells work
  hand_to work h =
      let parts : Parts work = parts_of work h in
      record {
        privates = bodies_to work.privates parts.first;
        news = bodies_to work.news parts.second;
        sets = each_so (λ set. set_names set o ≡ true → K) SetTells set_to work.sets
            (to_each (λ set. set_names set o) K work.sets parts.third);
        outs = values_to work.outs parts.fourth;
      }

  -- and back, with the notifications
  hand_from : (work : Work) → WorkTells work → NotesTell work.notes → HandTells work
  hand_from work h notes = of_parts work (record {
    first = bodies_from work.privates h.privates;
    second = bodies_from work.news h.news;
    third = from_each (λ set. set_names set o) K work.sets
        (each_so SetTells (λ set. set_names set o ≡ true → K) set_from work.sets h.sets);
    fourth = values_from work.outs h.outs;
    fifth = notes;
  })

  -- the private objects alone
  pub start_tells : (work : Work) → HandTells work → HandTells (start work.privates)
  start_tells work h = of_parts (start work.privates) (record {
    first = (parts_of work h).first;
    second = λ never. absurd (cc never);
    third = λ never. absurd (cc never);
    fourth = λ never. absurd (cc never);
    fifth = λ never. absurd (cc never);
  })

  -- ---- an act

  -- what it brings
  brings : (shape : Shape) (request : Request) (reply : Reply) → (request_names request o ≡ true → K)
      → (reply_names reply o ≡ true → K) → ActHas OfObject OfField IfNames IfNames shape request reply
  brings shape (New class n) (Made x) q r = (r, λ f less. (r, opens_silent o (kind_of shape class f)))
  brings shape (Put x f v) Done q r = (
    (λ is. q (left_so (eqb x o) (has_reference o (v ∷ [])) is)),
    (λ names. q (right_so (eqb x o) (has_reference o (v ∷ [])) names)),
  )
  brings shape (Print v) Done q r = q
  brings shape request reply q r = tt

  -- a put leaves the notifications
  put_notes : (x f : ℕ) (v : Value) (work : Work) → NotesTell work.notes → NotesTell (put x f v work).notes
  put_notes x f v work h = by (is_some (body_in x work.privates)) (shared (is_some (body_in x work.news)))
    where
      shared : (b : Bool) → NotesTell (publish v (cond b (record work { news = with_value x f v work.news })
          (record work { sets = insert_set (record { object = x; field = f; value = v }) work.sets }))).notes
      shared true = h
      shared false = h

      by : (b : Bool) → NotesTell (publish v (put_shared x f v work)).notes
          → NotesTell (cond b (record work { privates = with_value x f v work.privates })
          (publish v (put_shared x f v work))).notes
      by true later = h
      by false later = later

  -- one notification more
  noted_tells : (l : LockName) (choice : Choice) (work : Work) → (lock_names l o ≡ true → K) → NotesTell work.notes
      → NotesTell (noted l choice work).notes
  noted_tells l choice work q h is = either_so (list_any (λ note. note_names note o) work.notes)
      (lock_names l o || false) h (either_so (lock_names l o) false q (λ never. absurd (cc never)))
      (sym (list_any-append (λ note. note_names note o) work.notes (record { lock = l; choice = choice } ∷ [])) ∙ is)

  -- an act adds only those of its request
  act_notes : (shape : Shape) (request : Request) (reply : Reply) (woken : Option ThreadId) (work : Work)
      → (request_names request o ≡ true → K) → NotesTell work.notes
      → NotesTell (work_by shape request reply woken work).notes
  act_notes shape (New class n) (Made x) woken work q h = h
  act_notes shape (Put x f v) Done woken work q h = put_notes x f v work h
  act_notes shape (Print v) Done woken work q h = h
  act_notes shape (Notify l) Done woken work q h = noted_tells l (choice_of woken) work q h
  act_notes shape (NotifyAll l) Done woken work q h = noted_tells l All work q h
  act_notes shape request reply woken work q h = h

  -- What follows of what the work names and of what the event names follows of what the work names after the event.
  pub act_tells : (shape : Shape) (request : Request) (reply : Reply) (woken : Option ThreadId) (work : Work)
      → (request_names request o ≡ true → K) → (reply_names reply o ≡ true → K) → HandTells work
      → HandTells (work_by shape request reply woken work)
  act_tells shape request reply woken work q r h = hand_from (work_by shape request reply woken work)
      (act_has OfObject OfField IfNames IfNames shape request reply woken work (hand_to work h)
      (brings shape request reply q r))
      (act_notes shape request reply woken work q (parts_of work h).fifth)

-- What a block sets, it touched the guard of at Write.
use Rattle.std.specs.List.{list_any}
use Rattle.std.proofs.Common.{ℕ, ◌≡◌, ◌⊎◌, inl, inr, refl, sym, ◌∙◌, ap, subst, Bool, true, false, cond, eqb, ◌&&◌, ◌||◌, is_some, Option, Some, List, [], ◌∷◌}
use Rattle.dso_base.specs.Block.{Work, body_in, insert_set, is_same_field, is_field_before, with_value, publish, put, work_by, worked}
use Rattle.dso_base.specs.declared.lock.Level.TheVariants.{Write}
use Rattle.dso_base.specs.declared.lock.ThreadId.{ThreadId}
use Rattle.dso_base.specs.declared.record.Set.{Set}
use Rattle.dso_base.specs.declared.request.Event.{Event}
use Rattle.dso_base.specs.declared.request.Event.TheVariants.{Act, Lost}
use Rattle.dso_base.specs.declared.request.Reply.{Reply}
use Rattle.dso_base.specs.declared.request.Reply.TheVariants.{Done, Made}
use Rattle.dso_base.specs.declared.request.Request.{Request}
use Rattle.dso_base.specs.declared.request.Request.TheVariants.{New, Look, Put, Notify, NotifyAll, Print}
use Rattle.dso_base.specs.declared.shape.Shape.{Shape}
use Rattle.dso_base.specs.declared.value.Value.{Value}
use Rattle.dso_plain.specs.After.{after}
use Rattle.dso_plain.specs.History.{RunsButMarks}
use Rattle.dso_plain.specs.Possible.{MayButMarks, MayPut, AnswersRequest, AnswersPut}
use Rattle.dso_plain.specs.State.{PlainState, IsShared, guard_in, guard_of_object, level_of}
use Rattle.dso_plain.specs.Touches.{AreActsOf, TouchesIn}
use Rattle.dso_plain.proofs.keys.SameKeys.{same_number}
use Rattle.dso_lookup.proofs.Tests.{both}
use Rattle.dso_law.specs.Copies.{is_set_of}
use Rattle.dso_legal.proofs.copies.FieldMoves.{apart}
use Rattle.dso_legal.proofs.objects.WorksTell.{Goes, act_goes}

-- a set that comes into its place is the only one that wasn't there
inserted_set : (o f : ℕ) (set : Set) (sets : List Set) → list_any (is_set_of o f) (insert_set set sets) ≡ true → (list_any (is_set_of o f) sets ≡ true) ⊎ (is_set_of o f set ≡ true)
inserted_set o f set [] is = inr (alone (is_set_of o f set) is)
  where
    alone : (b : Bool) → (b || false) ≡ true → b ≡ true
    alone true e = refl
    alone false e = absurd (cc e)
inserted_set o f set (first ∷ rest) is = by (is_same_field set first) (is_field_before set first) (inserted_set o f set rest) is
  where
    in_front : (a b c : Bool) → (a || (b || c)) ≡ true → ((b || c) ≡ true) ⊎ (a ≡ true)
    in_front true b c e = inr refl
    in_front false b c e = inl e

    instead : (a b c : Bool) → (a || c) ≡ true → ((b || c) ≡ true) ⊎ (a ≡ true)
    instead true b c e = inr refl
    instead false true c e = inl refl
    instead false false c e = inl e

    behind : (a b c d : Bool) → (b || d) ≡ true → (d ≡ true → (c ≡ true) ⊎ (a ≡ true)) → ((b || c) ≡ true) ⊎ (a ≡ true)
    behind a true c d e later = inl refl
    behind a false c d e later = later e

    by : (same before : Bool) → (list_any (is_set_of o f) (insert_set set rest) ≡ true → (list_any (is_set_of o f) rest ≡ true) ⊎ (is_set_of o f set ≡ true))
        → list_any (is_set_of o f) (cond same (set ∷ rest) (cond before (set ∷ first ∷ rest) (first ∷ insert_set set rest))) ≡ true → (list_any (is_set_of o f) (first ∷ rest) ≡ true) ⊎ (is_set_of o f set ≡ true)
    by true before later e = instead (is_set_of o f set) (is_set_of o f first) (list_any (is_set_of o f) rest) e
    by false true later e = in_front (is_set_of o f set) (is_set_of o f first) (list_any (is_set_of o f) rest) e
    by false false later e = behind (is_set_of o f set) (is_set_of o f first) (list_any (is_set_of o f) rest) (list_any (is_set_of o f) (insert_set set rest)) e later

-- The act is a put into the field of an object that the thread hasn't in hand.
pub record SetsNow (o f : ℕ) (work : Work) (request : Request) (reply : Reply) : Type 0 where
  pub value : Value
  pub request_is : request ≡ Put o f value
  pub reply_is : reply ≡ Done
  pub not_private : is_some (body_in o work.privates) ≡ false
  pub not_new : is_some (body_in o work.news) ≡ false

-- a put sets at most its own field
put_sets : (o f x g : ℕ) (v : Value) (work : Work) → list_any (is_set_of o f) (put x g v work).sets ≡ true → (list_any (is_set_of o f) work.sets ≡ true) ⊎ SetsNow o f work (Put x g v) Done
put_sets o f x g v work is = by (is_some (body_in x work.privates)) (is_some (body_in x work.news)) refl refl is
  where
    set : Set
    set = record { object = x; field = g; value = v }

    from : is_some (body_in x work.privates) ≡ false → is_some (body_in x work.news) ≡ false → (list_any (is_set_of o f) work.sets ≡ true) ⊎ ((eqb x o && eqb g f) ≡ true) → (list_any (is_set_of o f) work.sets ≡ true) ⊎ SetsNow o f work (Put x g v) Done
    from apart_of new (inl before) = inl before
    from apart_of new (inr now) =
        let object : x ≡ o = same_number x o (both (eqb x o) (eqb g f) now).0 in
        let field : g ≡ f = same_number g f (both (eqb x o) (eqb g f) now).1 in
        inr (record {
          value = v;
          request_is = ap (λ n. Put n g v) object ∙ ap (λ n. Put o n v) field;
          reply_is = refl;
          not_private = ap (λ n. is_some (body_in n work.privates)) (sym object) ∙ apart_of;
          not_new = ap (λ n. is_some (body_in n work.news)) (sym object) ∙ new;
        })

    by : (a b : Bool) → is_some (body_in x work.privates) ≡ a → is_some (body_in x work.news) ≡ b
        → list_any (is_set_of o f) (cond a (record work { privates = with_value x g v work.privates }) (publish v (cond b (record work { news = with_value x g v work.news }) (record work { sets = insert_set (record { object = x; field = g; value = v }) work.sets })))).sets ≡ true
        → (list_any (is_set_of o f) work.sets ≡ true) ⊎ SetsNow o f work (Put x g v) Done
    by true b own new e = inl e
    by false true own new e = inl e
    by false false own new e = from own new (inserted_set o f (record { object = x; field = g; value = v }) work.sets e)

-- and every other act none
act_sets : (shape : Shape) (o f : ℕ) (request : Request) (reply : Reply) (woken : Option ThreadId) (work : Work) → list_any (is_set_of o f) (work_by shape request reply woken work).sets ≡ true
    → (list_any (is_set_of o f) work.sets ≡ true) ⊎ SetsNow o f work request reply
act_sets shape o f (Put x g v) Done woken work is = put_sets o f x g v work is
act_sets shape o f (New class n) (Made made) woken work is = inl is
act_sets shape o f (Look x) reply woken work is = inl is
act_sets shape o f (Print v) Done woken work is = inl is
act_sets shape o f (Notify l) Done woken work is = inl is
act_sets shape o f (NotifyAll l) Done woken work is = inl is
act_sets shape o f request reply woken work is = inl is

module _ (shape : Shape) (t : ThreadId) (o f : ℕ) where
  -- a put sets a field under its guard
  set_now : (before s : PlainState) (work : Work) (request : Request) (reply : Reply) (woken : Option ThreadId) → Goes t work before s → MayButMarks shape (Act t request reply woken) s → SetsNow o f work request reply
      → level_of (s.monitors (guard_in shape before o f, t)) ≡ Some Write
  set_now before s work request reply woken goes may now = by answers.1
    where
      answers : AnswersPut shape t o f Done s
      answers = subst (λ r. AnswersRequest shape t (Put o f now.value) r s) now.reply_is (subst (λ q. AnswersRequest shape t q reply s) now.request_is may.answers)

      by : MayPut shape t o f Done s → level_of (s.monitors (guard_in shape before o f, t)) ≡ Some Write
      by (inl own) = absurd (apart (goes.tells.all o own) now.not_private)
      by (inr held) = subst (λ object. level_of (s.monitors (guard_of_object shape object o f, t)) ≡ Some Write) (same (goes.tells.shared o held.0)) held.1
        where
          same : IsShared o before ⊎ (is_some (body_in o work.news) ≡ true) → s.objects o ≡ before.objects o
          same (inl common) = goes.tells.left_object o common
          same (inr new) = absurd (apart new now.not_new)

  -- What a run of the thread's acts sets anew, it touches the guard of at Write.
  pub sets_touched : (events : List Event) (work : Work) (before s : PlainState) → AreActsOf t events → RunsButMarks shape events s → Goes t work before s → list_any (is_set_of o f) (worked shape events work).sets ≡ true
      → (list_any (is_set_of o f) work.sets ≡ true) ⊎ TouchesIn shape events s (guard_in shape before o f) Write
  sets_touched [] work before s acts runs goes is = inl is
  sets_touched (Lost client ∷ events) work before s acts runs goes is = absurd acts.0
  sets_touched (Act u request reply woken ∷ events) work before s acts runs goes is =
      first u acts.0 (sets_touched events (work_by shape request reply woken work) before (after shape (Act u request reply woken) s) acts.1 runs.1 (goes_by u acts.0 runs.0) is)
    where
      goes_by : (w : ThreadId) → w ≡ t → MayButMarks shape (Act w request reply woken) s → Goes t (work_by shape request reply woken work) before (after shape (Act w request reply woken) s)
      goes_by w same may = subst (λ z. Goes t (work_by shape request reply woken work) before (after shape (Act z request reply woken) s)) (sym same) (act_goes shape t work before s goes request reply woken (subst (λ z. MayButMarks shape (Act z request reply woken) s) same may))

      held : (w : ThreadId) → w ≡ t → level_of (s.monitors (guard_in shape before o f, t)) ≡ Some Write → level_of (s.monitors (guard_in shape before o f, w)) ≡ Some Write
      held w same level = subst (λ z. level_of (s.monitors (guard_in shape before o f, z)) ≡ Some Write) (sym same) level

      by : (w : ThreadId) → w ≡ t → MayButMarks shape (Act w request reply woken) s → (list_any (is_set_of o f) work.sets ≡ true) ⊎ SetsNow o f work request reply
          → (list_any (is_set_of o f) work.sets ≡ true) ⊎ TouchesIn shape (Act w request reply woken ∷ events) s (guard_in shape before o f) Write
      by w same may (inl before_it) = inl before_it
      by w same may (inr now) = inr (inl (inl (held w same (set_now before s work request reply woken goes (subst (λ z. MayButMarks shape (Act z request reply woken) s) same may) now))))

      first : (w : ThreadId) → w ≡ t → (list_any (is_set_of o f) (work_by shape request reply woken work).sets ≡ true) ⊎ TouchesIn shape events (after shape (Act u request reply woken) s) (guard_in shape before o f) Write
          → (list_any (is_set_of o f) work.sets ≡ true) ⊎ TouchesIn shape (Act u request reply woken ∷ events) s (guard_in shape before o f) Write
      first w same (inl set) = by u acts.0 runs.0 (act_sets shape o f request reply woken work set)
      first w same (inr touch) = inr (inr touch)

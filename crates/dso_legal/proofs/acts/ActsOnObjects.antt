-- What a client answers about objects, the one heap allows: New, Look, Get and Put.
use Rattle.std.proofs.Common.{ℕ, ◌<◌, ◌≡◌, ◌≢◌, ◌⊎◌, inl, inr, refl, sym, ◌∙◌, ap, subst, Bool, true, false, cond, eqb, ltb, ◌||◌, is_some, Option, Some, None, List, [], ◌∷◌, length, arith}
use Rattle.std.specs.Prelude.{slice_get, option_map}
use Rattle.std.proofs.lemmas.Bool.{ltb-true}
use Rattle.dso_base.specs.declared.journal.Entry.{Entry}
use Rattle.dso_base.specs.declared.lock.Level.{Level}
use Rattle.dso_base.specs.declared.lock.Level.TheVariants.{Read, Write}
use Rattle.dso_base.specs.declared.lock.LockName.{LockName}
use Rattle.dso_base.specs.declared.lock.ThreadId.{ThreadId}
use Rattle.dso_base.specs.declared.record.Body.{Body}
use Rattle.dso_base.specs.declared.request.Reply.{Reply}
use Rattle.dso_base.specs.declared.request.Reply.TheVariants.{Done, Made, Seen, Val}
use Rattle.dso_base.specs.declared.shape.Shape.{Shape}
use Rattle.dso_base.specs.declared.value.ClassId.{ClassId}
use Rattle.dso_base.specs.declared.value.Value.{Value}
use Rattle.dso_base.specs.Block.{Work, body_in}
use Rattle.dso_base.specs.Shape.{guard_of}
use Rattle.dso_plain.specs.KeyTests.{is_lock}
use Rattle.dso_plain.specs.State.{Object, Hold, PlainState, IsPrivate, IsShared, size_of, level_of, guard_of_object, hold_on_guard}
use Rattle.dso_plain.specs.Past.{newest}
use Rattle.dso_plain.specs.Possible.{CanBeMade, IsOf, StandsFrom, AnswersNew, AnswersLook, AnswersGet, MayPut, AnswersPut}
use Rattle.dso_plain.proofs.keys.SameKeys.{same_number}
use Rattle.dso_law.specs.Settings.{Settings}
use Rattle.dso_law.specs.Copies.{is_resident, class_held}
use Rattle.dso_law.specs.RequestNeeds.{Need, NeedsObject, unless, first_unmet, hold_level, look_need, access_need}
use Rattle.dso_law.specs.Records.{next_id}
use Rattle.dso_law.specs.Replies.{class_of_body, class_known, value_seen, value_in, put_reply, put_answer, answer_put}
use Rattle.dso_law.specs.Threads.{Held, own, or_else, work_of, is_private, locks_of, hold_of, hold_in}
use Rattle.dso_legal.specs.Views.{IsReadable, Sees}
use Rattle.dso_legal.specs.Works.{HasBody, TellsWork}
use Rattle.dso_legal.proofs.leases.LeaseSteps.{if_true, unless_true}
use Rattle.dso_legal.proofs.leases.Queues.{lock_self}

-- a need that is met
pub met : (b : Bool) (need : Need) → unless b need ≡ None → b ≡ true
met true need e = refl
met false need e = absurd (cc e)

-- both needs are met
pub both_met : (a b : Option Need) → first_unmet a b ≡ None → (a ≡ None) × (b ≡ None)
both_met None b e = (refl, e)
both_met (Some need) b e = absurd (cc e)

-- a mapped option that is there
pub mapped : {A B : Type 0} (f : A → B) (x : Option A) (y : B) → option_map f x ≡ Some y → (a : A) × (x ≡ Some a) × (f a ≡ y)
mapped f None y e = absurd (cc e)
mapped f (Some a) y e = (a, refl, cc e)

-- the body that is found is the object's
pub body_object : (o : ℕ) (bodies : List Body) (body : Body) → body_in o bodies ≡ Some body → body.object ≡ o
body_object o [] body e = absurd (cc e)
body_object o (first ∷ rest) body e = by (eqb first.object o) refl e (body_object o rest body)
  where
    by : (b : Bool) → eqb first.object o ≡ b → cond b (Some first) (body_in o rest) ≡ Some body → (body_in o rest ≡ Some body → body.object ≡ o) → body.object ≡ o
    by true is f later = let same : first ≡ body = cc f in subst (λ (x : Body). x.object ≡ o) same (same_number first.object o is)
    by false is f later = later f

-- the state has the object, of the body's class and size, with its values
pub record HasOwn (o : ℕ) (body : Body) (s : PlainState) : Type 0 where
  pub class : IsOf body.class (length body.values) (s.objects o)
  pub values : (f : ℕ) → s.heap (o, f) ≡ slice_get body.values f

-- so where the body is the object's
has_own : (o : ℕ) (body : Body) (s : PlainState) → body.object ≡ o → HasBody body s → HasOwn o body s
has_own o body s e h = record {
  class = subst (λ x. IsOf body.class (length body.values) (s.objects x)) e h.class;
  values = λ f. subst (λ x. s.heap (x, f) ≡ slice_get body.values f) e (h.values f);
}

-- Whose an object is: the thread's own, published in its block, or neither.
pub data Whose (shape : Shape) (t : ThreadId) (o : ℕ) (client : List Entry) (s : PlainState) : Type 0 where
  mine : (body : Body) → own shape t o client ≡ Some body → is_private shape t o client ≡ true → IsPrivate t o s → HasOwn o body s → Whose shape t o client s
  published : (body : Body) → own shape t o client ≡ Some body → is_private shape t o client ≡ false → IsShared o s → HasOwn o body s → Whose shape t o client s
  others : own shape t o client ≡ None → is_private shape t o client ≡ false → Whose shape t o client s

module _ (shape : Shape) (t : ThreadId) (o : ℕ) (client : List Entry) (start_state s : PlainState) (tells : TellsWork t (work_of shape t client) start_state s) where
  abbrev work : Work
  work = work_of shape t client

  whose_by : (a b : Option Body) → body_in o work.privates ≡ a → body_in o work.news ≡ b → Whose shape t o client s
  whose_by (Some body) b is then =
      let h = tells.privates.each o body is in
      mine body (ap (λ x. or_else x (body_in o work.news)) is) (ap (λ x. is_some x) is) h.0 (has_own o body s (body_object o work.privates body is) h.1)
  whose_by None (Some body) is then =
      let h = tells.news o body then in
      published body (ap (λ x. or_else x (body_in o work.news)) is ∙ then) (ap (λ x. is_some x) is) h.0 (has_own o body s (body_object o work.news body then) h.1)
  whose_by None None is then = others (ap (λ x. or_else x (body_in o work.news)) is ∙ then) (ap (λ x. is_some x) is)

  -- it is one of the three
  pub whose : Whose shape t o client s
  whose = whose_by (body_in o work.privates) (body_in o work.news) refl refl

-- either of two tests holds, where the other fails
pub other_holds : (a b : Bool) → (a || b) ≡ true → a ≡ false → b ≡ true
other_holds true b e f = absurd (cc f)
other_holds false b e f = e

-- an object of a class is there
pub size_is : (class : ClassId) (n : ℕ) (object : Option Object) → IsOf class n object → size_of object ≡ n
size_is class n None h = absurd h
size_is class n (Some object) h = h.1

-- and its fields are guarded by what the class says
pub guard_is : (shape : Shape) (class : ClassId) (n o f : ℕ) (object : Option Object) → IsOf class n object → guard_of_object shape object o f ≡ guard_of shape class o f
guard_is shape class n o f None h = absurd h
guard_is shape class n o f (Some object) h = ap (λ x. guard_of shape x o f) h.0

-- the newest of a past stands in it from any place in it on
stands_newest : (place : ℕ) (v : Value) (past : List Value) → newest past ≡ Some v → place < length past → StandsFrom place v past
stands_newest place v [] e lt = absurd (cc e)
stands_newest place v (x ∷ older) e lt = inl (omega (arith, lt), sym (cc e))

-- where a hold is None it is None, else it is there
by_hold : {P : Type 0} (hold : Option Hold) → (hold ≡ None → P) → (hold ≢ None → P) → P
by_hold None none some = none refl
by_hold (Some hold) none some = some (λ e. absurd (cc e))

-- the levels of a hold, named twice
pub level_is : (hold : Option Hold) → hold_level hold ≡ level_of hold
level_is None = refl
level_is (Some hold) = refl

-- where there is no level there is no hold
no_level : (hold : Option Hold) → level_of hold ≡ None → hold ≡ None
no_level None e = refl
no_level (Some hold) e = absurd (cc e)

module _ (p : Settings) (t : ThreadId) (client : List Entry) (start_state s : PlainState) (sees : Sees p t client start_state s) where
  abbrev whose_is : (o : ℕ) → Whose p.shape t o client s
  whose_is o = whose p.shape t o client start_state s sees.work

  -- New
  pub may_make : (class : ClassId) (n : ℕ) (reply : Reply) → CanBeMade p.shape class n → option_map Made (next_id client) ≡ Some reply → AnswersNew p.shape class n reply s
  may_make class n reply can e =
      let it = mapped Made (next_id client) reply e in
      let new = sees.fresh it.0 it.1 in
      subst (λ r. AnswersNew p.shape class n r s) it.2 (new.0, new.1, can)

  -- an object that is needed and isn't the thread's own is resident
  pub is_there : (next : _) (o : ℕ) → look_need p t.client next t o client ≡ None → own p.shape t o client ≡ None → is_resident o client ≡ true
  is_there next o e none = other_holds (is_some (own p.shape t o client)) (is_resident o client) (met (is_some (own p.shape t o client) || is_resident o client) (NeedsObject o) e) (ap (λ x. is_some x) none)

  -- The class that the thread knows is that of an object that it may look at: its own, or a shared one that is not its own.
  pub record Knows (o : ℕ) (class : ClassId × ℕ) : Type 0 where
    pub class_is : IsOf class.0 class.1 (s.objects o)
    pub known : ((is_private p.shape t o client ≡ true) × IsPrivate t o s) ⊎ ((is_private p.shape t o client ≡ false) × IsShared o s)

  module _ (o : ℕ) (class : ClassId × ℕ) (there : own p.shape t o client ≡ None → is_resident o client ≡ true) (e : class_known p t o client ≡ Some class) where
    -- of an object with a body in hand
    of_body : (body : Body) → own p.shape t o client ≡ Some body → HasOwn o body s → IsOf class.0 class.1 (s.objects o)
    of_body body is h =
        let same : class_of_body body ≡ class = cc (sym (ap (λ x. or_else (option_map class_of_body x) (class_held o client)) is) ∙ e) in
        subst (λ (x : ClassId × ℕ). IsOf x.0 x.1 (s.objects o)) same h.class

    knows_by : Whose p.shape t o client s → Knows o class
    knows_by (mine body is private own h) = record { class_is = of_body body is h; known = inl (private, own) }
    knows_by (published body is private shared h) = record { class_is = of_body body is h; known = inr (private, shared) }
    knows_by (others none private) =
        let copy = sees.copies o none (there none) in
        record {
          class_is = copy.class class (sym (ap (λ x. or_else (option_map class_of_body x) (class_held o client)) none) ∙ e);
          known = inr (private, copy.shared);
        }

    pub knows : Knows o class
    knows = knows_by (whose_is o)

  -- Look
  may_look_as : (o : ℕ) (class : ClassId × ℕ) → Knows o class → AnswersLook t o (Seen class.0 class.1) s
  may_look_as o class k = elim k.known [
    | inl own ↦ (inl own.1, k.class_is)
    | inr shared ↦ (inr shared.1, k.class_is)
  ]

  pub may_look : (next : _) (o : ℕ) (reply : Reply) → look_need p t.client next t o client ≡ None → option_map (λ class. Seen class.0 class.1) (class_known p t o client) ≡ Some reply → AnswersLook t o reply s
  may_look next o reply need e =
      let it = mapped (λ (class : ClassId × ℕ). Seen class.0 class.1) (class_known p t o client) reply e in
      subst (λ r. AnswersLook t o r s) it.2 (may_look_as o it.0 (knows o it.0 (is_there next o need) it.1))

  -- Get of a shared object whose value in the heap is read
  read_heap : (o f : ℕ) (v : Value) → IsShared o s → s.heap (o, f) ≡ Some v → AnswersGet p.shape t o f (Val v) s
  read_heap o f v shared is = by_hold (hold_on_guard p.shape t o f s)
      (λ none. inr (inr (
        shared,
        none,
        stands_newest (s.seen (t, o, f)) v (s.past (o, f)) (sees.past.newest_is_heap o f shared ∙ is)
            (sees.past.seen_in_past t o f shared (ltb-true f (size_of (s.objects o)) (sym (sees.past.fields o f) ∙ ap (λ x. is_some x) is))),
      )))
      (λ some. inr (inl (shared, some, is)))

  -- Get of a shared object of which the copy is read
  read_copy : (o f : ℕ) (v : Value) → IsReadable p.shape t o f v s → AnswersGet p.shape t o f (Val v) s
  read_copy o f v h = by_hold (hold_on_guard p.shape t o f s)
      (λ none. inr (inr (h.shared, none, h.unguarded none)))
      (λ some. inr (inl (h.shared, some, h.guarded some)))

  -- Get of a value, by whose the object is
  may_read_as : (next : _) (o f : ℕ) (v : Value) → look_need p t.client next t o client ≡ None → value_in p (own p.shape t o client) f (value_seen p t o f client) ≡ Some v
      → Whose p.shape t o client s → AnswersGet p.shape t o f (Val v) s
  may_read_as next o f v need e (mine body is private own h) = inl (own, h.values f ∙ sym (ap (λ x. value_in p x f (value_seen p t o f client)) is) ∙ e)
  may_read_as next o f v need e (published body is private shared h) = read_heap o f v shared (h.values f ∙ sym (ap (λ x. value_in p x f (value_seen p t o f client)) is) ∙ e)
  may_read_as next o f v need e (others none private) =
      read_copy o f v ((sees.copies o none (is_there next o need none)).values f v (sym (ap (λ x. value_in p x f (value_seen p t o f client)) none) ∙ e))

  -- Get
  pub may_read : (next : _) (o f : ℕ) (reply : Reply) → access_need p t.client next t o client ≡ None → option_map Val (value_in p (own p.shape t o client) f (value_seen p t o f client)) ≡ Some reply → AnswersGet p.shape t o f reply s
  may_read next o f reply need e =
      let it = mapped Val (value_in p (own p.shape t o client) f (value_seen p t o f client)) reply e in
      subst (λ r. AnswersGet p.shape t o f r s) it.2 (may_read_as next o f it.0 (both_met (look_need p t.client next t o client) _ need).0 it.1 (whose_is o))

  -- the level at which the guard of a field is held
  guard_level : (o f : ℕ) (class : ClassId × ℕ) → IsOf class.0 class.1 (s.objects o) → level_of (hold_on_guard p.shape t o f s) ≡ hold_level (hold_of t (guard_of p.shape class.0 o f) client)
  guard_level o f class is = ap (λ l. level_of (s.monitors (l, t))) (guard_is p.shape class.0 class.1 o f (s.objects o) is)
      ∙ ap (λ x. level_of x) (sees.holds.own.holds (guard_of p.shape class.0 o f))
      ∙ sym (level_is (hold_of t (guard_of p.shape class.0 o f) client))

  -- the answer to a Put into a shared object, by the level of the guard and the holds
  may_put_so : (o f : ℕ) (level : Option Level) (holds : List Held) → IsShared o s → level_of (hold_on_guard p.shape t o f s) ≡ level → ((l : LockName) → s.monitors (l, t) ≡ hold_in l holds) → MayPut p.shape t o f (put_reply level holds) s
  may_put_so o f (Some Write) holds shared is held = inr (shared, is)
  may_put_so o f (Some Read) holds shared is held = (shared, is)
  may_put_so o f None [] shared is held = (shared, held)
  may_put_so o f None (first ∷ rest) shared is held = (shared, (first.lock, λ none. absurd (cc (sym (held first.lock ∙ if_true (is_lock first.lock first.lock) (Some first.hold) (hold_in first.lock rest) (lock_self first.lock)) ∙ none))), no_level (hold_on_guard p.shape t o f s) is)

  -- the answer to a Put, by whose the object is
  may_put_as : (o f : ℕ) (class : ClassId × ℕ) → Knows o class → MayPut p.shape t o f (put_answer p t o f class.0 client) s
  may_put_as o f class k = elim k.known [
    | inl own ↦ subst (λ r. MayPut p.shape t o f r s) (sym (if_true (is_private p.shape t o client) Done (put_reply (hold_level (hold_of t (guard_of p.shape class.0 o f) client)) (locks_of t client).holds) own.0)) (inl own.1)
    | inr shared ↦ subst (λ r. MayPut p.shape t o f r s) (sym (unless_true (is_private p.shape t o client) Done (put_reply (hold_level (hold_of t (guard_of p.shape class.0 o f) client)) (locks_of t client).holds) shared.0))
        (may_put_so o f (hold_level (hold_of t (guard_of p.shape class.0 o f) client)) (locks_of t client).holds shared.1 (guard_level o f class k.class_is) sees.holds.own.holds)
  ]

  -- Put into an object of a class
  may_put_in : (o f : ℕ) (reply : Reply) (class : ClassId × ℕ) (b : Bool) → Knows o class → ltb f class.1 ≡ b → cond b (Some (put_answer p t o f class.0 client)) None ≡ Some reply → AnswersPut p.shape t o f reply s
  may_put_in o f reply class true k is e = (subst (λ n. f < n) (sym (size_is class.0 class.1 (s.objects o) k.class_is)) (ltb-true f class.1 is), subst (λ r. MayPut p.shape t o f r s) (cc e) (may_put_as o f class k))
  may_put_in o f reply class false k is e = absurd (cc e)

  -- Put into what the thread knows of the object
  may_put_known : (next : _) (o f : ℕ) (reply : Reply) (class : Option (ClassId × ℕ)) → look_need p t.client next t o client ≡ None → class_known p t o client ≡ class → answer_put p t o f class client ≡ Some reply → AnswersPut p.shape t o f reply s
  may_put_known next o f reply None need is e = absurd (cc e)
  may_put_known next o f reply (Some class) need is e = may_put_in o f reply class (ltb f class.1) (knows o class (is_there next o need) is) refl e

  -- Put
  pub may_put : (next : _) (o f : ℕ) (reply : Reply) → access_need p t.client next t o client ≡ None → answer_put p t o f (class_known p t o client) client ≡ Some reply → AnswersPut p.shape t o f reply s
  may_put next o f reply need e = may_put_known next o f reply (class_known p t o client) (both_met (look_need p t.client next t o client) _ need).0 refl e

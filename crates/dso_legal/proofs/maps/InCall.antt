-- The acts of a thread inside a call of a map go by the map's body.
use Rattle.std.proofs.Common.{ℕ, ◌≡◌, ◌≢◌, ◌⊎◌, inl, inr, refl, sym, ap, subst, ◌∙◌, Bool, true, false, cond, eqb, ◌&&◌, Option, Some, None}
use Rattle.std.specs.Prelude.{is_none}
use Rattle.std.proofs.lemmas.Bool.{eq-eqb, true≢false}
use Rattle.dso_base.specs.declared.lock.Level.TheVariants.{Read, Write}
use Rattle.dso_base.specs.declared.lock.LockName.TheVariants.{Mon}
use Rattle.dso_base.specs.declared.lock.ThreadId.{ThreadId}
use Rattle.dso_base.specs.declared.request.Fault.TheVariants.{UnlockedSharedObject, WrongLock, ReadOnly}
use Rattle.dso_base.specs.declared.request.Reply.{Reply}
use Rattle.dso_base.specs.declared.request.Reply.TheVariants.{Done, Val, Refused}
use Rattle.dso_base.specs.declared.request.Request.{Request}
use Rattle.dso_base.specs.declared.request.Request.TheVariants.{Get, Put}
use Rattle.dso_base.specs.declared.shape.Shape.{Shape}
use Rattle.dso_base.specs.declared.value.Value.{Value}
use Rattle.dso_lookup.specs.Maps.{or_old}
use Rattle.dso_map.specs.declared.map_op.MapOp.{MapOp}
use Rattle.dso_map.specs.Bodies.{MapBody, is_field, set, left_by, given_by}
use Rattle.dso_map.specs.Calls.{request_of, accepts, after_reply}
use Rattle.dso_map.specs.Contents.{Content, Holds, Meets}
use Rattle.dso_map.specs.Fields.{MapField, IsMapField, place_of, field_takes}
use Rattle.dso_map.specs.Fields.MapField.{Touched, Key, Held, Size}
use Rattle.dso_map.specs.KeptMaps.{PutsObject, KeepsMap}
use Rattle.dso_map.specs.SoundMap.{IsSoundMap}
use Rattle.dso_map.specs.Talk.{Talk, talk}
use Rattle.dso_map.specs.Talk.Talk.{Gets, Puts, Ends}
use Rattle.dso_map.specs.Within.{StaysWithin}
use Rattle.dso_map.proofs.Calls.{keeps}
use Rattle.dso_plain.specs.State.{Object, Hold, PlainState, is_shared, level_of, hold_on_guard, guard_of_object}
use Rattle.dso_plain.specs.Possible.{AnswersGet, AnswersPut, AnswersRequest, MayPut}
use Rattle.dso_plain.specs.After.{apply, change_of, read, read_shared, put, published, shared}
use Rattle.dso_machine.specs.MapCalls.{IsOfMaps}
use Rattle.dso_legal.specs.HeapMaps.{HasBody, IsMap}
use Rattle.dso_legal.proofs.maps.Asking.{OnlyAsks}
use Rattle.dso_legal.proofs.maps.Opening.{MapsHaveFields, own_guard}
use Rattle.dso_legal.proofs.maps.Places.{place_test}
use Rattle.dso_legal.proofs.maps.Stays.{StaysAt, read_stays, act_stays}

-- How the thread has the map: the object is its own; or it is shared, and the thread holds its monitor, at Write where
-- the talk may put.
abbrev pub HasMap : ThreadId → Talk → Object → Option Hold → Type 0
HasMap t rest object hold = (object.owner ≡ Some t)
    ⊎ ((object.owner ≡ None) × ((held : Hold) × (hold ≡ Some held) × (OnlyAsks rest ⊎ (held.level ≡ Write))))

-- Inside a call, of which this much is left: the thread has the map, whose fields have the values of a body; and what is
-- left makes of it what the whole call makes of the sound body that the call began with.
pub record InCall (shape : Shape) (t : ThreadId) (o : ℕ) (call : MapOp) (rest : Talk) (m : Content) (s : PlainState) : Type 0 where
  pub object : Object
  pub is : s.objects o ≡ Some object
  pub class : IsOfMaps shape object.class
  pub ready : HasMap t rest object (s.monitors (Mon o, t))
  pub first : MapBody
  pub sound : IsSoundMap first
  pub holds : Holds first m
  pub body : MapBody
  pub has : HasBody o body s
  pub kinds : (f : MapField) → IsMapField f → field_takes f (body f) ≡ true
  pub left : left_by rest body ≡ left_by (talk call) first
  pub given : given_by rest body ≡ given_by (talk call) first
  pub within : StaysWithin rest
  pub real : PutsObject call

-- ---- the end

-- At its end the call has met the table.
pub call_done : (shape : Shape) (t : ThreadId) (o : ℕ) (call : MapOp) (v : Value) (m : Content) (s : PlainState) → InCall shape t o call (Ends v) m s
    → (n : Content) × Meets call v m n × IsMap o n s
call_done shape t o call v m s now =
    let kept : KeepsMap call now.first = keeps call now.first now.real now.sound in
    let met : (n : Content) × Holds (left_by (talk call) now.first) n × Meets call (given_by (talk call) now.first) m n = kept.meets m now.holds in (
      met.0,
      subst (λ r. Meets call r m met.0) (sym now.given) met.2,
      record {
        body = now.body;
        has = now.has;
        sound = subst IsSoundMap (sym now.left) kept.sound;
        holds = subst (λ b. Holds b met.0) (sym now.left) met.1;
      },
    )

-- ---- what the thread has

-- a talk that goes on only asks where the whole does
asks_on : (f : MapField) (then : Value → Talk) (v : Value) → OnlyAsks (Gets f then) → OnlyAsks (then v)
asks_on f then v asks = asks v

-- what an owner tells
own_private : (t : ThreadId) (object : Object) → object.owner ≡ Some t → is_shared (Some object) ≡ false
own_private t object own = ap is_none own

module _ (shape : Shape) (have : MapsHaveFields shape) (t : ThreadId) (o : ℕ) (call : MapOp) (m : Content) (s : PlainState) where
  -- the monitor guards the fields
  guard_is : (rest : Talk) (now : InCall shape t o call rest m s) (f : MapField) → IsMapField f → hold_on_guard shape t o (place_of f) s ≡ s.monitors (Mon o, t)
  guard_is rest now f there = ap (λ l. s.monitors (l, t)) (ap (λ x. guard_of_object shape x o (place_of f)) now.is ∙ own_guard shape have now.object.class now.class o f there)

  -- a shared object isn't one's own
  no_own : (rest : Talk) (now : InCall shape t o call rest m s) → is_shared (s.objects o) ≡ true → now.object.owner ≡ Some t → ⊥
  no_own rest now here own = true≢false (sym here ∙ ap is_shared now.is ∙ own_private t now.object own)

  -- a value that is read is the heap's
  value_read : (rest : Talk) (now : InCall shape t o call rest m s) (f : MapField) → IsMapField f → (v : Value) → AnswersGet shape t o (place_of f) (Val v) s → s.heap (o, place_of f) ≡ Some v
  value_read rest now f there v (inl own) = own.1
  value_read rest now f there v (inr (inl guarded)) = guarded.2
  value_read rest now f there v (inr (inr unguarded)) = by now.ready
    where
      by : HasMap t rest now.object (s.monitors (Mon o, t)) → s.heap (o, place_of f) ≡ Some v
      by (inl own) = absurd (no_own rest now unguarded.0 own)
      by (inr held) = absurd (cc (sym held.1.1 ∙ sym (guard_is rest now f there) ∙ unguarded.1))

  -- what the thread holds of a shared map into which it puts
  held_at_write : (f : MapField) (v : Value) (then : Talk) (now : InCall shape t o call (Puts f v then) m s) → is_shared (s.objects o) ≡ true → (held : Hold) × (s.monitors (Mon o, t) ≡ Some held) × (held.level ≡ Write)
  held_at_write f v then now here = by now.ready
    where
      level : (held : Hold) → OnlyAsks (Puts f v then) ⊎ (held.level ≡ Write) → held.level ≡ Write
      level held (inl asks) = absurd asks
      level held (inr write) = write

      by : HasMap t (Puts f v then) now.object (s.monitors (Mon o, t)) → (held : Hold) × (s.monitors (Mon o, t) ≡ Some held) × (held.level ≡ Write)
      by (inl own) = absurd (no_own (Puts f v then) now here own)
      by (inr shared) = (shared.1.0, shared.1.1, level shared.1.0 shared.1.2)

  -- it isn't refused
  not_refused : (f : MapField) (v : Value) (then : Talk) (now : InCall shape t o call (Puts f v then) m s) → IsMapField f → (r : Reply) → MayPut shape t o (place_of f) r s → r ≡ Done
  not_refused f v then now there Done may = refl
  not_refused f v then now there (Refused UnlockedSharedObject) may =
      let held = held_at_write f v then now may.0 in
      absurd (cc (sym held.1 ∙ may.1 (Mon o)))
  not_refused f v then now there (Refused ReadOnly) may =
      let held = held_at_write f v then now may.0 in
      let level : Some Write ≡ Some Read = ap Some (sym held.2) ∙ ap level_of (sym held.1 ∙ sym (guard_is (Puts f v then) now f there)) ∙ may.1 in
      absurd (cc level)
  not_refused f v then now there (Refused WrongLock) may =
      let held = held_at_write f v then now may.0 in
      absurd (cc (sym held.1 ∙ sym (guard_is (Puts f v then) now f there) ∙ may.2))
  not_refused f v then now there r may = absurd may

  -- ---- a read

  -- a read leaves the monitors and the object
  pub record LeavesMine (r : PlainState) : Type 0 where
    pub objects : r.objects o ≡ s.objects o
    pub monitors : r.monitors (Mon o, t) ≡ s.monitors (Mon o, t)

  read_leaves_held : (f : ℕ) (hold : Option Hold) → LeavesMine (apply (read_shared t o f hold s) s)
  read_leaves_held f None = record { objects = refl; monitors = refl }
  read_leaves_held f (Some hold) = record { objects = refl; monitors = refl }

  read_leaves : (f : ℕ) (b : Bool) → LeavesMine (apply (read shape t o f b s) s)
  read_leaves f true = read_leaves_held f (hold_on_guard shape t o f s)
  read_leaves f false = record { objects = refl; monitors = refl }

  -- the thread has the map as before
  has_still : (rest later : Talk) (object : Object) (before after : Option Hold) → after ≡ before → (OnlyAsks rest → OnlyAsks later) → HasMap t rest object before → HasMap t later object after
  has_still rest later object before after same on (inl own) = inl own
  has_still rest later object before after same on (inr held) = inr (held.0, (held.1.0, same ∙ held.1.1, by held.1.2))
    where
      by : OnlyAsks rest ⊎ (held.1.0.level ≡ Write) → OnlyAsks later ⊎ (held.1.0.level ≡ Write)
      by (inl asks) = inl (on asks)
      by (inr write) = inr write

  -- what is read, and what follows it
  abbrev pub Follows : Talk → Reply → PlainState → Type 0
  Follows rest r after = (accepts rest r ≡ true) × InCall shape t o call (after_reply rest r) m after

  read_on : (f : MapField) (then : Value → Talk) (now : InCall shape t o call (Gets f then) m s) (v : Value) → now.body f ≡ v → (r : PlainState) → LeavesMine r → StaysAt o s r → Follows (Gets f then) (Val v) r
  read_on f then now v same r leaves stays = (
    subst (λ w. field_takes f w ≡ true) same (now.kinds f now.within.0),
    record {
      object = now.object;
      is = leaves.objects ∙ now.is;
      class = now.class;
      ready = has_still (Gets f then) (then v) now.object (s.monitors (Mon o, t)) (r.monitors (Mon o, t)) leaves.monitors (asks_on f then v) now.ready;
      first = now.first;
      sound = now.sound;
      holds = now.holds;
      body = now.body;
      has = λ g there. stays.heap (place_of g) ∙ now.has g there;
      kinds = now.kinds;
      left = subst (λ w. left_by (then w) now.body ≡ left_by (talk call) now.first) same now.left;
      given = subst (λ w. given_by (then w) now.body ≡ given_by (talk call) now.first) same now.given;
      within = now.within.1 v;
      real = now.real;
    },
  )

  -- A read inside the call is answered by the body.
  pub reads : (f : MapField) (then : Value → Talk) (now : InCall shape t o call (Gets f then) m s) (r : Reply) (woken : Option ThreadId) → AnswersGet shape t o (place_of f) r s
      → Follows (Gets f then) r (apply (change_of shape t (Get o (place_of f)) r woken s) s)
  reads f then now (Val v) woken answers =
      let told : Some (now.body f) ≡ Some v = sym (now.has f now.within.0) ∙ value_read (Gets f then) now f now.within.0 v answers in
      read_on f then now v (cc told) (apply (read shape t o (place_of f) (is_shared (s.objects o)) s) s) (read_leaves (place_of f) (is_shared (s.objects o))) (read_stays shape t s o o (place_of f) (is_shared (s.objects o)))
  reads f then now r woken answers = absurd answers

  -- ---- a put

  -- a shared object that is published again
  put_objects : (rest : Talk) (now : InCall shape t o call rest m s) (p : ℕ) (v : Value) (b : Bool) → is_shared (s.objects o) ≡ b → (apply (put t o p v b s) s).objects o ≡ s.objects o
  put_objects rest now p v false is = refl
  put_objects rest now p v true is = by (published t v s o) now.ready
    where
      by : (found : Bool) → HasMap t rest now.object (s.monitors (Mon o, t)) → or_old (cond found (Some (shared (s.objects o))) None) (s.objects o) ≡ s.objects o
      by false ready = refl
      by true (inl own) = absurd (no_own rest now is own)
      by true (inr held) = ap shared now.is ∙ ap (λ owner. Some (record { class = now.object.class; size = now.object.size; owner = owner })) (sym held.0) ∙ sym now.is

  put_monitors : (p : ℕ) (v : Value) (b : Bool) → (apply (put t o p v b s) s).monitors (Mon o, t) ≡ s.monitors (Mon o, t)
  put_monitors p v false = refl
  put_monitors p v true = refl

  put_at : (p q : ℕ) (v : Value) (b : Bool) → (apply (put t o p v b s) s).heap (o, q) ≡ or_old (cond (eqb o o && eqb q p) (Some (Some v)) None) (s.heap (o, q))
  put_at p q v false = refl
  put_at p q v true = refl

  -- the body with what is written
  put_body : (f : MapField) (v : Value) (b : MapBody) (way : Bool) → IsMapField f → HasBody o b s → HasBody o (set f v b) (apply (put t o (place_of f) v way s) s)
  put_body f v b way there has g g_there = put_at (place_of f) (place_of g) v way
      ∙ ap (λ x. or_old (cond (x && eqb (place_of g) (place_of f)) (Some (Some v)) None) (s.heap (o, place_of g))) (eq-eqb o o refl)
      ∙ ap (λ x. or_old (cond x (Some (Some v)) None) (s.heap (o, place_of g))) (place_test f g there g_there) ∙ by (is_field f g)
    where
      by : (x : Bool) → or_old (cond x (Some (Some v)) None) (s.heap (o, place_of g)) ≡ Some (cond x v (b g))
      by true = refl
      by false = has g g_there

  -- its fields are of their kinds
  takes_same : (f g : MapField) (v : Value) → is_field f g ≡ true → field_takes f v ≡ true → field_takes g v ≡ true
  takes_same (Touched i) (Touched j) v same takes = takes
  takes_same (Key i) (Key j) v same takes = takes
  takes_same (Held i) (Held j) v same takes = takes
  takes_same Size Size v same takes = takes
  takes_same f g v same takes = absurd (cc same)

  put_kinds : (f : MapField) (v : Value) (b : MapBody) → field_takes f v ≡ true → ((g : MapField) → IsMapField g → field_takes g (b g) ≡ true) → (g : MapField) → IsMapField g → field_takes g (set f v b g) ≡ true
  put_kinds f v b takes kinds g there = by (is_field f g) refl
    where
      by : (x : Bool) → is_field f g ≡ x → field_takes g (cond x v (b g)) ≡ true
      by true same = takes_same f g v same takes
      by false other = kinds g there

  -- A put inside the call is done.
  pub puts : (f : MapField) (v : Value) (then : Talk) (now : InCall shape t o call (Puts f v then) m s) (r : Reply) (woken : Option ThreadId) → AnswersPut shape t o (place_of f) r s
      → Follows (Puts f v then) r (apply (change_of shape t (Put o (place_of f) v) r woken s) s)
  puts f v then now r woken answers = subst (λ x. Follows (Puts f v then) x (apply (change_of shape t (Put o (place_of f) v) x woken s) s)) (sym (not_refused f v then now now.within.0 r answers.1))
      (let way : Bool = is_shared (s.objects o) in (
        refl,
        record {
          object = now.object;
          is = put_objects (Puts f v then) now (place_of f) v way refl ∙ now.is;
          class = now.class;
          ready = has_still (Puts f v then) then now.object (s.monitors (Mon o, t)) _ (put_monitors (place_of f) v way) (λ asks. absurd asks) now.ready;
          first = now.first;
          sound = now.sound;
          holds = now.holds;
          body = set f v now.body;
          has = put_body f v now.body way now.within.0 now.has;
          kinds = put_kinds f v now.body now.within.1 now.kinds;
          left = now.left;
          given = now.given;
          within = now.within.2;
          real = now.real;
        },
      ))

  -- ---- any act

  -- What the call asks is answered as the call takes it, and the call goes on.
  pub asked : (rest : Talk) (now : InCall shape t o call rest m s) (q : Request) (r : Reply) (woken : Option ThreadId) → request_of o rest ≡ Some q → AnswersRequest shape t q r s
      → Follows rest r (apply (change_of shape t q r woken s) s)
  asked (Gets f then) now q r woken is answers =
      let here : Get o (place_of f) ≡ q = cc is in
      subst (λ p. AnswersRequest shape t p r s → Follows (Gets f then) r (apply (change_of shape t p r woken s) s)) here (reads f then now r woken) answers
  asked (Puts f v then) now q r woken is answers =
      let here : Put o (place_of f) v ≡ q = cc is in
      subst (λ p. AnswersRequest shape t p r s → Follows (Puts f v then) r (apply (change_of shape t p r woken s) s)) here (puts f v then now r woken) answers
  asked (Ends v) now q r woken is answers = absurd (cc is)

  -- It leaves all other objects.
  pub asked_beside : (rest : Talk) (q : Request) (r : Reply) (woken : Option ThreadId) → request_of o rest ≡ Some q → (x : ℕ) → x ≢ o → StaysAt x s (apply (change_of shape t q r woken s) s)
  asked_beside (Gets f then) q r woken is x other =
      let here : Get o (place_of f) ≡ q = cc is in
      subst (λ p. StaysAt x s (apply (change_of shape t p r woken s) s)) here (act_stays shape t s x (Get o (place_of f)) r woken tt)
  asked_beside (Puts f v then) q r woken is x other =
      let here : Put o (place_of f) v ≡ q = cc is in
      subst (λ p. StaysAt x s (apply (change_of shape t p r woken s) s)) here (act_stays shape t s x (Put o (place_of f) v) r woken other)
  asked_beside (Ends v) q r woken is x other = absurd (cc is)

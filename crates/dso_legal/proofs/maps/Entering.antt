-- A call begins: its thread has the map, by the entry of the monitor, or since the object is its own.
use Rattle.std.proofs.Common.{ℕ, suc, ◌≡◌, ◌⊎◌, inl, inr, refl, sym, ap, subst, ◌∙◌, true, cond, eqb, Option, Some, None}
use Rattle.std.specs.Prelude.{is_none}
use Rattle.std.proofs.lemmas.Bool.{and_from}
use Rattle.dso_base.specs.declared.lock.Level.{Level}
use Rattle.dso_base.specs.declared.lock.Level.TheVariants.{Read, Write}
use Rattle.dso_base.specs.declared.lock.LockName.TheVariants.{Mon}
use Rattle.dso_base.specs.declared.lock.ThreadId.{ThreadId}
use Rattle.dso_base.specs.declared.request.Reply.TheVariants.{Done, Local}
use Rattle.dso_base.specs.declared.shape.Shape.{Shape}
use Rattle.dso_base.specs.declared.value.ClassId.TheVariants.{Plain}
use Rattle.dso_base.specs.Following.{is_thread}
use Rattle.dso_lookup.specs.Maps.{or_old}
use Rattle.dso_map.specs.declared.map_op.MapOp.{MapOp}
use Rattle.dso_map.specs.declared.map_op.MapOp.TheVariants as op
use Rattle.dso_map.specs.Contents.{Content}
use Rattle.dso_map.specs.KeptMaps.{PutsObject}
use Rattle.dso_map.specs.MapClass.{is_map}
use Rattle.dso_map.specs.Talk.{talk}
use Rattle.dso_map.proofs.Within.{talk_within}
use Rattle.dso_plain.specs.State.{Object, Hold, PlainState, is_owner, is_private_to, is_shared}
use Rattle.dso_plain.specs.Possible.{AnswersEnter, IsUpgrade}
use Rattle.dso_plain.specs.After.{apply, change_of, entered}
use Rattle.dso_plain.specs.KeyTests.{is_place}
use Rattle.dso_plain.proofs.keys.SameKeys.{number_self, same_thread, thread_self}
use Rattle.dso_machine.specs.MapCalls.{IsOfMaps, entry_of}
use Rattle.dso_machine.specs.Maps.{grade_of}
use Rattle.dso_machine.specs.Outcome as outcome
use Rattle.dso_legal.specs.HeapMaps.{IsMap}
use Rattle.dso_legal.proofs.maps.Asking.{OnlyAsks, questions_ask}
use Rattle.dso_legal.proofs.maps.InCall.{HasMap, InCall}
use Rattle.dso_legal.proofs.maps.Stays.{class_at}

-- a level that isn't Read
not_read : (level : Level) → (Some level ≡ Some Read → ⊥) → level ≡ Write
not_read Write other = refl
not_read Read other = absurd (other refl)

-- how a lock is held after an entry
abbrev HeldSo : MapOp → Option Hold → Type 0
HeldSo call after = (held : Hold) × (after ≡ Some held) × (OnlyAsks (talk call) ⊎ (held.level ≡ Write))

-- a question's entry
held_asking : (call : MapOp) → OnlyAsks (talk call) → (hold : Option Hold) → HeldSo call (entered Read hold)
held_asking call asks None = (record { level = Read; count = 1 }, refl, inl asks)
held_asking call asks (Some hold) = (record { level = hold.level; count = suc hold.count }, refl, inl asks)

-- an entry at Write
held_writing : (call : MapOp) → (hold : Option Hold) → (IsUpgrade Write hold → ⊥) → HeldSo call (entered Write hold)
held_writing call None other = (record { level = Write; count = 1 }, refl, inr refl)
held_writing call (Some hold) other = (record { level = hold.level; count = suc hold.count }, refl, inr (not_read hold.level other))

held_after : (call : MapOp) (hold : Option Hold) → (IsUpgrade (outcome.level_of (grade_of call)) hold → ⊥) → HeldSo call (entered (outcome.level_of (grade_of call)) hold)
held_after (op.Get k) hold other = held_asking (op.Get k) (questions_ask (op.Get k) tt) hold
held_after (op.Has k) hold other = held_asking (op.Has k) (questions_ask (op.Has k) tt) hold
held_after op.Size hold other = held_asking op.Size (questions_ask op.Size tt) hold
held_after (op.Put k o) hold other = held_writing (op.Put k o) hold other
held_after (op.Remove k) hold other = held_writing (op.Remove k) hold other

-- who owns an object
shared_owner : (x : Option Object) (object : Object) → x ≡ Some object → is_shared x ≡ true → object.owner ≡ None
shared_owner x object is shared = by object.owner (sym (ap is_shared is) ∙ shared)
  where
    by : (owner : Option ThreadId) → is_none owner ≡ true → owner ≡ None
    by None none = refl
    by (Some t) none = absurd (cc none)

private_owner : (t : ThreadId) (x : Option Object) (object : Object) → x ≡ Some object → is_private_to t x ≡ true → object.owner ≡ Some t
private_owner t x object is mine = by object.owner (sym (ap (is_private_to t) is) ∙ mine)
  where
    by : (owner : Option ThreadId) → is_owner t owner ≡ true → owner ≡ Some t
    by None own = absurd (cc own)
    by (Some u) own = ap Some (same_thread t u own)

module _ (shape : Shape) (t : ThreadId) (o : ℕ) (call : MapOp) (m : Content) (s : PlainState) (class : ℕ) (is : is_map shape class ≡ true)
    (map : IsMap o m s) (real : PutsObject call) where
  -- the object that is there
  found : (x : Option Object) → class_at x ≡ Some (Plain class) → (object : Object) × (x ≡ Some object) × (object.class ≡ Plain class)
  found None there = absurd (cc there)
  found (Some object) there = (object, refl, cc there)

  -- the call begins with the map's body
  call_starts : (r : PlainState) (object : Object) → s.objects o ≡ Some object → object.class ≡ Plain class → r.objects o ≡ s.objects o → ((f : ℕ) → r.heap (o, f) ≡ s.heap (o, f))
      → HasMap t (talk call) object (r.monitors (Mon o, t)) → InCall shape t o call (talk call) m r
  call_starts r object there class_is objects heap ready = record {
    object = object;
    is = objects ∙ there;
    class = subst (IsOfMaps shape) (sym class_is) is;
    ready = ready;
    first = map.body;
    sound = map.sound;
    holds = map.holds;
    body = map.body;
    has = λ f f_there. heap _ ∙ map.has f f_there;
    kinds = map.sound.kinds;
    left = refl;
    given = refl;
    within = talk_within call real;
    real = real;
  }

  -- the monitor after its entry
  monitor_after : (after : Option Hold) → or_old (cond (is_place (Mon o) t (Mon o, t)) (Some after) None) (s.monitors (Mon o, t)) ≡ after
  monitor_after after = ap (λ b. or_old (cond b (Some after) None) (s.monitors (Mon o, t))) (and_from (eqb o o) (is_thread t t) (number_self o) (thread_self t))

  -- A call whose entry is done has the map,
  pub entered_call : (woken : Option ThreadId) → class_at (s.objects o) ≡ Some (Plain class) → AnswersEnter t (Mon o) (outcome.level_of (grade_of call)) Done s
      → InCall shape t o call (talk call) m (apply (change_of shape t (entry_of o call) Done woken s) s)
  entered_call woken there answers =
      let it = found (s.objects o) there in
      let level : Level = outcome.level_of (grade_of call) in
      let held = held_after call (s.monitors (Mon o, t)) answers.1 in
      call_starts (apply (change_of shape t (entry_of o call) Done woken s) s) it.0 it.1 it.2 refl (λ f. refl)
      (inr (shared_owner (s.objects o) it.0 it.1 answers.0.0, (held.0, monitor_after (entered level (s.monitors (Mon o, t))) ∙ held.1, held.2)))

  -- and one of an object of its own.
  pub passed_call : (woken : Option ThreadId) → class_at (s.objects o) ≡ Some (Plain class) → AnswersEnter t (Mon o) (outcome.level_of (grade_of call)) Local s
      → InCall shape t o call (talk call) m (apply (change_of shape t (entry_of o call) Local woken s) s)
  passed_call woken there answers =
      let it = found (s.objects o) there in
      call_starts (apply (change_of shape t (entry_of o call) Local woken s) s) it.0 it.1 it.2 refl (λ f. refl) (inl (private_owner t (s.objects o) it.0 it.1 answers))

-- The table once a thread asked for what it lacks.
use Rattle.std.proofs.Common.{◌≡◌, ℕ, refl, sym, ◌∙◌, ap, Bool, true, false, cond, eqb, ◌&&◌, ◌||◌, is_some, Option, Some, None, subst, ◌≤◌, List}
use Rattle.std.proofs.lemmas.Bool.{eqb-true}
use Rattle.std.specs.BTreeMap.{is_at}
use Rattle.std.specs.Cmp.{unsigned_tied}
use Rattle.std.specs.Ordering.{nat_cmp}
use Rattle.dso_base.specs.declared.lock.Level.{Level}
use Rattle.dso_base.specs.declared.lock.LockName.{LockName}
use Rattle.dso_base.specs.declared.lock.LockName.TheVariants.{Name}
use Rattle.dso_base.specs.declared.lock.ThreadId.{ThreadId}
use Rattle.dso_base.specs.declared.message.Up.TheVariants as up
use Rattle.dso_base.specs.declared.record.Body.{Body}
use Rattle.dso_lookup.specs.Maps.{or_old}
use Rattle.dso_lookup.specs.Orders.{thread_order}
use Rattle.dso_plain.proofs.keys.TableOrders.{thread_at}
use Rattle.dso_law.specs.ClientStep.{wants_object}
use Rattle.dso_law.specs.Copies.{is_resident, is_object_asked}
use Rattle.dso_law.specs.HeldBody.{held_body}
use Rattle.dso_law.proofs.client.ClientLaws.{lock_either_way}
use Rattle.dso_law.proofs.core.Bodies.{bodies_are_held}
use Rattle.dso_table.specs.declared.slot.ObjectStanding.{ObjectStanding}
use Rattle.dso_table.specs.declared.slot.ObjectStanding.TheVariants.{Asked, Resident}
use Rattle.dso_law.specs.Records.{records}
use Rattle.dso_table.specs.declared.tables.ObjectTables.{ObjectTables}
use Rattle.dso_table.specs.States as states
use Rattle.dso_table.specs.States.{State, body_of, is_asked, is_absent, acted}
use Rattle.dso_table.specs.ObjectTables.{state_in}
use Rattle.dso_client.specs.AskedActs.{asked}
use Rattle.dso_client.specs.RunPoints.{RunPoint}
use Rattle.dso_client.specs.TableStands.{TableTells}
use Rattle.dso_client.proofs.flushed.Flushed.{at_number}

-- the wants without those of a thread
dropped : (a b want note : Bool) → note ≡ (a && want) → or_old (cond (a && b) (Some false) None) note ≡ (a && cond b false want)
dropped true true want note e = refl
dropped true false want note e = e
dropped false b want note e = e

-- and with one more of it
noted : (a b here want note : Bool) → note ≡ (a && cond b false want) → or_old (cond ((a && b) && here) (Some true) None) note ≡ (a && cond b (here || false) want)
noted true true true want note e = refl
noted true true false want note e = e
noted true false here want note e = e
noted false b here want note e = e

-- an object that is neither resident nor asked for is absent
absent_so : (standing : Option ObjectStanding) → body_of standing ≡ None → is_asked standing ≡ false → is_absent standing ≡ true
absent_so None e f = refl
absent_so (Some Asked) e f = absurd (cc f)
absent_so (Some (Resident body)) e f = absurd (cc e)

none_there : (body : Option Body) → is_some body ≡ false → body ≡ None
none_there None e = refl
none_there (Some body) e = absurd (cc e)

module _ (clock : ℕ) (at : RunPoint) (t : ThreadId) (mine : t.client ≡ at.client) (old : ObjectTables) (used : List ℕ) (h : TableTells at used old) where
  -- whether a thread is the one that acts
  pub same : (u : ThreadId) → is_at (thread_order t) u ≡ (eqb u.client at.client && eqb t.index u.index)
  same u = thread_at t u ∙ (ap (λ c. eqb u.client c && eqb u.index t.index) mine ∙ ap (λ b. eqb u.client at.client && b) (lock_either_way (Name t.index) (Name u.index)))

  -- what the thread wanted before it wants no more
  pub unwanted : (u : ThreadId) (x : ℕ) → (acted t (state_in old)).wanted (u, x) ≡ (eqb u.client at.client && cond (eqb t.index u.index) false (wants_object x u.index at.entries))
  unwanted u x = ap (λ b. or_old (cond b (Some false) None) ((state_in old).wanted (u, x))) (same u)
      ∙ dropped (eqb u.client at.client) (eqb t.index u.index) (wants_object x u.index at.entries) ((state_in old).wanted (u, x)) (h.wanted u x)

  -- ids are asked for
  pub ids_asked : (new : ObjectTables) → state_in new ≡ acted t (state_in old) → TableTells (asked clock t.index up.IdAsk at) used new
  ids_asked new is = record {
    bodies = λ x. ap (λ (s : State). body_of (s.standing x)) is ∙ h.bodies x;
    asked = λ x. ap (λ (s : State). is_asked (s.standing x)) is ∙ h.asked x;
    marks = λ x. ap (λ (s : State). s.marks x) is ∙ h.marks x;
    opened = λ u x. ap (λ (s : State). s.opened (u, x)) is ∙ h.opened u x;
    wanted = λ u x. ap (λ (s : State). s.wanted (u, x)) is ∙ unwanted u x;
    room = ap (λ (s : State). s.limit) is ∙ h.room;
    count = ap (λ (s : State). s.residents) is ∙ h.count;
    acked = subst (λ n. n ≤ records at.entries) (sym (ap (λ (s : State). s.acked) is)) h.acked;
    order = ap (λ (s : State). s.used) is ∙ h.order;
  }

  -- a lock is asked for
  pub lease_asked : (l : LockName) (level : Level) (new : ObjectTables) → state_in new ≡ acted t (state_in old) → TableTells (asked clock t.index (up.Request l level) at) used new
  lease_asked l level new is = record {
    bodies = λ x. ap (λ (s : State). body_of (s.standing x)) is ∙ h.bodies x;
    asked = λ x. ap (λ (s : State). is_asked (s.standing x)) is ∙ h.asked x;
    marks = λ x. ap (λ (s : State). s.marks x) is ∙ h.marks x;
    opened = λ u x. ap (λ (s : State). s.opened (u, x)) is ∙ h.opened u x;
    wanted = λ u x. ap (λ (s : State). s.wanted (u, x)) is ∙ unwanted u x;
    room = ap (λ (s : State). s.limit) is ∙ h.room;
    count = ap (λ (s : State). s.residents) is ∙ h.count;
    acked = subst (λ n. n ≤ records at.entries) (sym (ap (λ (s : State). s.acked) is)) h.acked;
    order = ap (λ (s : State). s.used) is ∙ h.order;
  }

  module _ (o : ℕ) (away : is_resident o at.entries ≡ false) where
    not_held : held_body o at.entries ≡ None
    not_held = none_there (held_body o at.entries) ((bodies_are_held o at.entries).resident ∙ away)

    pub absent : is_object_asked o at.entries ≡ false → is_absent ((state_in old).standing o) ≡ true
    absent unasked = absent_so ((state_in old).standing o) (h.bodies o ∙ not_held) (h.asked o ∙ unasked)

    -- an object is asked for
    pub object_asked : (new : ObjectTables) → state_in new ≡ states.asked o t (acted t (state_in old)) → TableTells (asked clock t.index (up.Fault o) at) used new
    object_asked new is = record {
      bodies = λ x. ap (λ (s : State). body_of (s.standing x)) is ∙ (ap body_of (at_number o (Some Asked) (state_in old).standing x) ∙ bodies x (eqb o x) refl);
      asked = λ x. ap (λ (s : State). is_asked (s.standing x)) is ∙ (ap is_asked (at_number o (Some Asked) (state_in old).standing x) ∙ asks x (eqb o x));
      marks = λ x. ap (λ (s : State). s.marks x) is ∙ h.marks x;
      opened = λ u x. ap (λ (s : State). s.opened (u, x)) is ∙ h.opened u x;
      wanted = λ u x. ap (λ (s : State). s.wanted (u, x)) is ∙ wanted u x;
      room = ap (λ (s : State). s.limit) is ∙ h.room;
      count = ap (λ (s : State). s.residents) is ∙ h.count;
      acked = subst (λ n. n ≤ records at.entries) (sym (ap (λ (s : State). s.acked) is)) h.acked;
      order = ap (λ (s : State). s.used) is ∙ h.order;
    }
      where
        bodies : (x : ℕ) (b : Bool) → eqb o x ≡ b → body_of (cond b (Some Asked) ((state_in old).standing x)) ≡ held_body x at.entries
        bodies x true e = sym not_held ∙ ap (λ n. held_body n at.entries) (eqb-true o x e)
        bodies x false e = h.bodies x

        asks : (x : ℕ) (b : Bool) → is_asked (cond b (Some Asked) ((state_in old).standing x)) ≡ cond b true (is_object_asked x at.entries)
        asks x true = refl
        asks x false = h.asked x

        wanted : (u : ThreadId) (x : ℕ) → (states.asked o t (acted t (state_in old))).wanted (u, x) ≡ (eqb u.client at.client && cond (eqb t.index u.index) (eqb o x || false) (wants_object x u.index at.entries))
        wanted u x = ap (λ b. or_old (cond (b && is_at (nat_cmp o) x) (Some true) None) ((acted t (state_in old)).wanted (u, x))) (same u)
            ∙ (ap (λ b. or_old (cond ((eqb u.client at.client && eqb t.index u.index) && b) (Some true) None) ((acted t (state_in old)).wanted (u, x))) (unsigned_tied o x)
            ∙ noted (eqb u.client at.client) (eqb t.index u.index) (eqb o x) (wants_object x u.index at.entries) ((acted t (state_in old)).wanted (u, x)) (unwanted u x))

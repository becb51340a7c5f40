-- An object that was taken.
use Rattle.std.proofs.Common.{◌≡◌, ℕ, suc, ◌+◌, refl, sym, ◌∙◌, ap, arith, Bool, true, false, cond, eqb, is_some, Some, None, subst, ◌≤◌}
use Rattle.dso_base.specs.declared.message.Down.TheVariants as down
use Rattle.dso_base.specs.declared.record.Body.{Body}
use Rattle.dso_law.specs.Copies.{is_object_asked}
use Rattle.dso_law.specs.HeldBody.{held_body}
use Rattle.dso_law.specs.ResidentCount.{presence, resident_count}
use Rattle.dso_law.proofs.core.Bodies.{bodies_are_held}
use Rattle.dso_law.proofs.core.Counts.{residents_are_counted}
use Rattle.dso_table.specs.declared.slot.ObjectStanding.TheVariants.{Resident}
use Rattle.dso_law.specs.Records.{records}
use Rattle.dso_table.specs.declared.tables.ObjectTables.{ObjectTables}
use Rattle.dso_table.specs.States as states
use Rattle.dso_table.specs.States.{State, body_of, is_asked, put}
use Rattle.dso_table.specs.ObjectTables.{state_in}
use Rattle.dso_client.specs.MessageEffects.{heard}
use Rattle.dso_client.specs.RunPoints.{RunPoint}
use Rattle.dso_client.specs.TableStands.{TableStands}
use Rattle.dso_client.proofs.flushed.Flushed.{at_number}

-- one more, where it wasn't there
pub counted : (b : Bool) (n : ℕ) → n + cond b 0 1 ≡ cond b n (suc n)
counted true n = omega arith
counted false n = omega arith

pub object_heard : (clock : ℕ) (at : RunPoint) (body : Body) (old new : ObjectTables) → TableStands at old → state_in new ≡ put body None (state_in old)
    → TableStands (heard clock (down.Object body) at) new
object_heard clock at body old new h is = record {
  bodies = λ x. ap (λ (s : State). body_of (s.standing x)) is ∙ (ap body_of (at_number body.object (Some (Resident body)) (state_in old).standing x) ∙ bodies x (eqb body.object x));
  asked = λ x. ap (λ (s : State). is_asked (s.standing x)) is ∙ (ap is_asked (at_number body.object (Some (Resident body)) (state_in old).standing x) ∙ asked x (eqb body.object x));
  marks = λ x. ap (λ (s : State). s.marks x) is ∙ h.marks x;
  opened = λ t x. ap (λ (s : State). s.opened (t, x)) is ∙ h.opened t x;
  wanted = λ t x. ap (λ (s : State). s.wanted (t, x)) is ∙ h.wanted t x;
  room = ap (λ (s : State). s.limit) is ∙ h.room;
  count = ap (λ (s : State). s.residents) is ∙ (ap (λ n. n + cond (states.is_resident ((state_in old).standing body.object)) 0 1) h.count
      ∙ (ap (λ b. resident_count at.entries + cond b 0 1) there ∙ counted ((presence at.entries).has body.object) (resident_count at.entries)));
  acked = subst (λ n. n ≤ records at.entries) (sym (ap (λ (s : State). s.acked) is)) h.acked;
  order = ap (λ (s : State). s.used) is ∙ h.order;
}
  where
    there : states.is_resident ((state_in old).standing body.object) ≡ (presence at.entries).has body.object
    there = ap is_some (h.bodies body.object) ∙ ((bodies_are_held body.object at.entries).resident ∙ sym ((residents_are_counted at.entries).has body.object))

    bodies : (x : ℕ) (b : Bool) → body_of (cond b (Some (Resident body)) ((state_in old).standing x)) ≡ cond b (Some body) (held_body x at.entries)
    bodies x true = refl
    bodies x false = h.bodies x

    asked : (x : ℕ) (b : Bool) → is_asked (cond b (Some (Resident body)) ((state_in old).standing x)) ≡ cond b false (is_object_asked x at.entries)
    asked x true = refl
    asked x false = h.asked x

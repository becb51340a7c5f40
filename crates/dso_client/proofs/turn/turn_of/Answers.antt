use Rattle.std.proofs.Common.{◌≡◌, ℕ, refl, false}
use Rattle.dso_base.specs.declared.request.Request.{Request}
use Rattle.dso_base.specs.declared.request.Request.TheVariants.{New, Look, Get, Put}
use Rattle.dso_base.specs.declared.value.ClassId.{ClassId}
use Rattle.dso_base.specs.declared.value.Value.{Value}
use Rattle.dso_client.specs.Turns.{is_of_object}
use Rattle.dso_client.proofs.turn.turn_of.Goals as goal

pub returns-in-New-clause-turn : goal.returns-in-New-clause-turn
returns-in-New-clause-turn c = λ at h context sizes shape. rw c.in-New.is (c.new_turn.ensures.turn at c.args.context.now.id c.in-New.field-0 c.in-New.field-1 h)

pub returns-in-New-clause-listed : goal.returns-in-New-clause-listed
returns-in-New-clause-listed c = rw c.in-New.is (c.new_turn.ensures.listed c.in-New.field-0 c.in-New.field-1)

pub returns-in-Put-clause-turn : goal.returns-in-Put-clause-turn
returns-in-Put-clause-turn c = λ at h context sizes shape. rw c.in-Put.is (c.put_turn.ensures.turn at c.in-Put.field-2 h context shape)

pub returns-in-Put-clause-listed : goal.returns-in-Put-clause-listed
returns-in-Put-clause-listed c = rw c.in-Put.is (c.put_turn.ensures.listed c.in-Put.field-2)

-- a request that is none of these
other_kind : (r : Request) → ((class : ClassId) (n : ℕ) → r ≡ New class n → ⊥) → ((o : ℕ) → r ≡ Look o → ⊥) → ((o f : ℕ) → r ≡ Get o f → ⊥) → ((o f : ℕ) (v : Value) → r ≡ Put o f v → ⊥)
    → is_of_object r ≡ false
other_kind (New class n) new look get put = absurd (new class n refl)
other_kind (Look o) new look get put = absurd (look o refl)
other_kind (Get o f) new look get put = absurd (get o f refl)
other_kind (Put o f v) new look get put = absurd (put o f v refl)
other_kind r new look get put = refl

pub returns-in_default : goal.returns-in_default
returns-in_default c =
    let other = other_kind c.args.request c.in_default.not-New c.in_default.not-Look c.in_default.not-Get c.in_default.not-Put in
    record {
      turn = λ at h context sizes shape. c.other_turn.ensures.turn at h context other;
      listed = c.other_turn.ensures.listed other;
    }

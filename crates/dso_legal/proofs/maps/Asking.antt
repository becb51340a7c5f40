-- A call that only asks puts nothing, whatever it is answered.
use Rattle.std.proofs.Common.{ℕ, zero, suc, Bool, true, false, Option, None, Some}
use Rattle.dso_base.specs.declared.value.Value.{Value}
use Rattle.dso_map.specs.declared.map_op.MapOp.{MapOp}
use Rattle.dso_map.specs.declared.map_op.MapOp.TheVariants as op
use Rattle.dso_map.specs.KeptMaps.{IsQuestion}
use Rattle.dso_map.specs.Talk.{Talk, slot_of, key_of, is_true, is_long, either, by_value, missing, wants_hole, hole_at, noting, along, talk}
use Rattle.dso_map.specs.Talk.Talk.{Gets, Puts, Ends}
use Rattle.dso_map.specs.Fields.{slots}

-- whatever is answered, the talk puts nothing
abbrev pub OnlyAsks : Talk → Type 0
OnlyAsks (Gets f then) = (v : Value) → OnlyAsks (then v)
OnlyAsks (Puts f v then) = ⊥
OnlyAsks (Ends v) = Unit {0}

either_asks : (b : Bool) (x y : Talk) → OnlyAsks x → OnlyAsks y → OnlyAsks (either b x y)
either_asks true x y first second = first
either_asks false x y first second = second

value_asks : (call : MapOp) (i : ℕ) (v : Value) → IsQuestion call → OnlyAsks (by_value call i v)
value_asks (op.Get k) i v is = tt
value_asks (op.Has k) i v is = tt
value_asks op.Size i v is = tt
value_asks (op.Put k o) i v is = absurd is
value_asks (op.Remove k) i v is = absurd is

missing_asks : (call : MapOp) (end hole : Option ℕ) → IsQuestion call → OnlyAsks (missing call end hole)
missing_asks (op.Get k) end hole is = tt
missing_asks (op.Has k) end hole is = tt
missing_asks op.Size end hole is = tt
missing_asks (op.Put k o) end hole is = absurd is
missing_asks (op.Remove k) end hole is = absurd is

noting_asks : (b : Bool) (i : ℕ) (hole : Option ℕ) (then : Option ℕ → Talk) → ((next : Option ℕ) → OnlyAsks (then next)) → OnlyAsks (noting b i hole then)
noting_asks true i hole then all = λ v. all (hole_at i v)
noting_asks false i hole then all = all hole

along_asks : (call : MapOp) (left d : ℕ) (hole : Option ℕ) → IsQuestion call → OnlyAsks (along call left d hole)
along_asks call zero d hole is = missing_asks call None hole is
along_asks call (suc left) d hole is = λ touched. either_asks (is_true touched) _ _
    (λ key. either_asks (is_long (key_of call) key) _ _ (λ v. value_asks call (slot_of (key_of call) d) v is)
    (noting_asks (wants_hole call hole) (slot_of (key_of call) d) hole _ (λ next. along_asks call left (suc d) next is)))
    (missing_asks call (Some (slot_of (key_of call) d)) hole is)

-- So a question puts nothing.
pub questions_ask : (call : MapOp) → IsQuestion call → OnlyAsks (talk call)
questions_ask (op.Get k) is = along_asks (op.Get k) slots 0 None is
questions_ask (op.Has k) is = along_asks (op.Has k) slots 0 None is
questions_ask op.Size is = λ v. tt
questions_ask (op.Put k o) is = absurd is
questions_ask (op.Remove k) is = absurd is

-- What a call of a clustered map means: what it asks of the map's fields, under the map's monitor, and what it gives.
use Rattle.std.specs.Prelude.{ℕ, List, [], ◌∷◌, Option, None, Some}
use Rattle.dso_base.specs.declared.lock.Grade.{Grade}
use Rattle.dso_base.specs.declared.lock.Grade.TheVariants as grade
use Rattle.dso_base.specs.declared.lock.LockName.TheVariants.{Mon}
use Rattle.dso_base.specs.declared.request.Fault.TheVariants.{BadValue}
use Rattle.dso_base.specs.declared.request.Reply.{Reply}
use Rattle.dso_base.specs.declared.value.Value.{Value}
use Rattle.dso_base.specs.declared.value.Value.TheVariants as value
use Rattle.dso_map.specs.declared.map_op.MapOp.{MapOp}
use Rattle.dso_map.specs.declared.map_op.MapOp.TheVariants as op
use Rattle.dso_map.specs.Fields.{MapField, place_of, field_takes}
use Rattle.dso_map.specs.Talk.{Talk, talk}
use Rattle.dso_map.specs.Talk.Talk.{Gets, Puts, Ends}
use Rattle.dso_machine.specs.Outcome.{Gives, Fails, Meaning, choose, on_value, get, put, got, done, unwanted}
use Rattle.dso_machine.specs.Outcome.{holding, under}

-- a value that was read of a map's field: of another kind it is none that is wanted
abbrev pub told_value : MapField → (Value → Meaning) → Value → Meaning
told_value f m v at = choose (field_takes f v) (m v) (Fails BadValue) at

-- what a map's talk asks of the object, and what it gives
abbrev pub told : ℕ → Talk → Meaning
told object (Gets f then) at = on_value (told_value f (λ v. told object (then v))) (get object (place_of f) at)
told object (Puts f v then) at = on_value (λ x. told object then) (put object (place_of f) v at)
told object (Ends v) at = Gives v at

-- what a map's talk makes of the reply to what it asks
abbrev pub told_reply : ℕ → Talk → Reply → Meaning
told_reply object (Gets f then) r at = on_value (told_value f (λ v. told object (then v))) (got r at)
told_reply object (Puts f v then) r at = on_value (λ x. told object then) (done r at)
told_reply object (Ends v) r at = unwanted r at

-- at which grade a call takes the map's monitor
abbrev pub grade_of : MapOp → Grade
grade_of (op.Put k o) = grade.Write
grade_of (op.Remove k) = grade.Write
grade_of call = grade.Read

-- A call of a map with these arguments, under the map's monitor, if they are of the right kinds. It holds the map and
-- the arguments to its end.
abbrev pub call_map : ℕ → List Value → Option MapOp → Meaning
call_map object args None at = Fails BadValue at
call_map object args (Some call) at =
    holding (value.Ref object ∷ args) (under (Mon object) (grade_of call) (told object (talk call))) at

-- the arguments of a call
abbrev pub args_of : MapOp → List Value
args_of (op.Get k) = value.Long k ∷ []
args_of (op.Has k) = value.Long k ∷ []
args_of op.Size = []
args_of (op.Put k o) = value.Long k ∷ value.Ref o ∷ []
args_of (op.Remove k) = value.Long k ∷ []

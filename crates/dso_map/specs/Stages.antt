-- What a call still asks, by the stage that it has come to.
use Rattle.std.specs.Prelude.{ℕ, suc, ◌-◌, true, Option}
use Rattle.dso_base.specs.declared.value.Value.TheVariants as value
use Rattle.dso_map.specs.declared.map_op.MapOp.{MapOp}
use Rattle.dso_map.specs.declared.stage.Stage.{Stage}
use Rattle.dso_map.specs.declared.stage.Stage.TheVariants as stage
use Rattle.dso_map.specs.Fields.MapField.{Touched, Key, Held, Size}
use Rattle.dso_map.specs.Talk.{Talk, slot_of, key_of, is_null, is_long, more, less, either}
use Rattle.dso_map.specs.Talk.{resizes, fills, found, wants_hole, noting, hole_at, along}
use Rattle.dso_map.specs.Talk.Talk.{Gets, Puts, Ends}

-- what is left of a path behind so many slots and one more
abbrev pub left_behind : MapOp → ℕ → Option ℕ → Talk
left_behind op d hole = along op (255 - d) (suc d) hole

-- what is still asked at a stage
abbrev pub talk_at : MapOp → Stage → Talk
talk_at op (stage.Touched d hole) = along op (suc (255 - d)) d hole
talk_at op (stage.Key d hole) = Gets (Key (slot_of (key_of op) d)) (λ key. either (is_long (key_of op) key)
    (found op (slot_of (key_of op) d))
    (noting (wants_hole op hole) (slot_of (key_of op) d) hole (left_behind op d)))
talk_at op (stage.Hole d) =
    Gets (Held (slot_of (key_of op) d)) (λ v. left_behind op d (hole_at (slot_of (key_of op) d) v))
talk_at op (stage.Held i) = found op i
talk_at op (stage.Touch i o) = Puts (Touched i) (value.Bool true) (fills i (key_of op) o)
talk_at op (stage.Write i o) = fills i (key_of op) o
talk_at op (stage.Fill i o) = Puts (Held i) (value.Ref o) (resizes more)
talk_at op (stage.Change i o v) =
    Puts (Held i) (value.Ref o) (either (is_null v) (resizes more) (Ends (value.Bool true)))
talk_at op (stage.Empty i) = Puts (Held i) value.Null (resizes less)
talk_at op stage.Count = Gets Size (λ v. Ends v)
talk_at op stage.Grow = resizes more
talk_at op stage.Shrink = resizes less
talk_at op (stage.Resize n) = Puts Size (value.Long n) (Ends (value.Bool true))
talk_at op (stage.Ended v) = Ends v

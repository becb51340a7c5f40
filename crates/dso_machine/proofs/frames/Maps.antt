-- A call of a map holds only what is known: the map and the arguments are held all the while, and what it puts or gives is one of
-- them, or was told by the last reply.
use Rattle.std.proofs.Common.{◌≡◌, refl, ℕ, zero, suc, Bool, true, false, List, [], ◌∷◌, ◌++◌, Option, None, Some}
use Rattle.std.specs.Prelude.{ℤ}
use Rattle.dso_base.specs.declared.lock.Grade.{Grade}
use Rattle.dso_base.specs.declared.lock.LockName.TheVariants.{Mon}
use Rattle.dso_base.specs.declared.request.Fault.TheVariants.{BadValue}
use Rattle.dso_base.specs.declared.request.Reply.{Reply}
use Rattle.dso_base.specs.declared.request.Reply.TheVariants.{Done, Local, Val, Refused}
use Rattle.dso_base.specs.declared.request.Request.TheVariants as request
use Rattle.dso_base.specs.declared.value.Value.{Value}
use Rattle.dso_base.specs.declared.value.Value.TheVariants as value
use Rattle.dso_map.specs.declared.map_op.MapOp.{MapOp}
use Rattle.dso_map.specs.declared.map_op.MapOp.TheVariants as op
use Rattle.dso_map.specs.Fields.{MapField, place_of, field_takes}
use Rattle.dso_map.specs.Talk.{Talk, talk, along, missing, by_value, fills, resizes, either, noting, wants_hole, hole_at, slot_of, key_of, is_true, is_long, is_null, more, less}
use Rattle.dso_map.specs.Talk.Talk.{Gets, Puts, Ends}
use Rattle.dso_machine.specs.Maps.{told, told_value, call_map, grade_of, args_of}
use Rattle.dso_machine.specs.Outcome.{State, Gives, Fails, Meaning, choose, on_value, got, done, entered, leave, level_of, under}
use Rattle.dso_machine.specs.Unwinding.{with_replies}
use Rattle.dso_machine.proofs.frames.Held.{Objects, IsOne, IsOf, AreOf, Within, told_by, Stands, HoldsOnly, Part, Lasting, lasting_known, part_lasting, part_fails, while_held, asked_with}
use Rattle.dso_machine.proofs.frames.Parts.{left_end, part_unwanted}

-- ---- what a talk puts and gives

-- Whatever replies come, a talk puts and gives values that are of those that are held, or of the last ones told: what was told before
-- the last reply is held no longer.
abbrev pub TalksOf : List Value → List Value → Talk → Type 0
TalksOf vs ws (Gets f then) = (v : Value) → TalksOf vs (v ∷ []) (then v)
TalksOf vs ws (Puts f w then) = ((k : Objects) → AreOf k vs → AreOf k ws → IsOf k w) × TalksOf vs [] then
TalksOf vs ws (Ends w) = (k : Objects) → AreOf k vs → AreOf k ws → IsOf k w

talks_either : (vs ws : List Value) (b : Bool) (x y : Talk) → TalksOf vs ws x → TalksOf vs ws y → TalksOf vs ws (either b x y)
talks_either vs ws true x y one other = one
talks_either vs ws false x y one other = other

talks_resizes : (vs ws : List Value) (f : Value → Value) → ((v : Value) (k : Objects) → IsOf k (f v)) → TalksOf vs ws (resizes f)
talks_resizes vs ws f plain = λ n. ((λ k all last. plain n k), (λ k all last. tt))

module _ (call : MapOp) (vs : List Value) (its : (k : Objects) → AreOf k vs → AreOf k (args_of call)) where
  abbrev Its : MapOp → Type 0
  Its o = (k : Objects) → AreOf k vs → AreOf k (args_of o)

  talks_fills : (ws : List Value) (i : ℕ) (x : ℤ) (o : ℕ) → ((k : Objects) → AreOf k vs → IsOne k o) → TalksOf vs ws (fills i x o)
  talks_fills ws i x o one = ((λ k all last. tt), ((λ k all last. one k all), talks_resizes vs [] more (λ v k. tt)))

  talks_missing : (c : MapOp) → Its c → (ws : List Value) (end hole : Option ℕ) → TalksOf vs ws (missing c end hole)
  talks_missing (op.Put x o) has ws (Some i) hole = ((λ k all last. tt), talks_fills [] i x o (λ k all. (has k all).1.0))
  talks_missing (op.Put x o) has ws None (Some i) = talks_fills ws i x o (λ k all. (has k all).1.0)
  talks_missing (op.Put x o) has ws None None = λ k all last. tt
  talks_missing (op.Get x) has ws end hole = λ k all last. tt
  talks_missing (op.Has x) has ws end hole = λ k all last. tt
  talks_missing (op.Remove x) has ws end hole = λ k all last. tt
  talks_missing op.Size has ws end hole = λ k all last. tt

  talks_value : (c : MapOp) → Its c → (i : ℕ) (v : Value) → TalksOf vs (v ∷ []) (by_value c i v)
  talks_value (op.Get x) has i v = λ k all last. last.0
  talks_value (op.Has x) has i v = λ k all last. tt
  talks_value (op.Put x o) has i v = ((λ k all last. (has k all).1.0), talks_either vs [] (is_null v) (resizes more) (Ends (value.Bool true)) (talks_resizes vs [] more (λ w k. tt)) (λ k all last. tt))
  talks_value (op.Remove x) has i v = talks_either vs (v ∷ []) (is_null v) (Ends (value.Bool false)) _ (λ k all last. tt) ((λ k all last. tt), talks_resizes vs [] less (λ w k. tt))
  talks_value op.Size has i v = λ k all last. last.0

  talks_noting : (b : Bool) (ws : List Value) (i : ℕ) (hole : Option ℕ) (then : Option ℕ → Talk) → ((us : List Value) (next : Option ℕ) → TalksOf vs us (then next)) → TalksOf vs ws (noting b i hole then)
  talks_noting true ws i hole then talks = λ v. talks (v ∷ []) (hole_at i v)
  talks_noting false ws i hole then talks = talks ws hole

  talks_along : (left d : ℕ) (hole : Option ℕ) (ws : List Value) → TalksOf vs ws (along call left d hole)
  talks_along zero d hole ws = talks_missing call its ws None hole
  talks_along (suc left) d hole ws = λ touched. talks_either vs (touched ∷ []) (is_true touched) _ _
      (λ key. talks_either vs (key ∷ []) (is_long (key_of call) key) _ _ (λ v. talks_value call its (slot_of (key_of call) d) v)
      (talks_noting (wants_hole call hole) (key ∷ []) (slot_of (key_of call) d) hole (λ next. along call left (suc d) next) (λ us next. talks_along left (suc d) next us)))
      (talks_missing call its (touched ∷ []) (Some (slot_of (key_of call) d)) hole)

-- all that a call asks
talks_of : (call : MapOp) (vs : List Value) → ((k : Objects) → AreOf k vs → AreOf k (args_of call)) → TalksOf vs [] (talk call)
talks_of op.Size vs its = λ v k all last. last.0
talks_of (op.Get x) vs its = talks_along (op.Get x) vs its _ 0 None []
talks_of (op.Has x) vs its = talks_along (op.Has x) vs its _ 0 None []
talks_of (op.Put x o) vs its = talks_along (op.Put x o) vs its _ 0 None []
talks_of (op.Remove x) vs its = talks_along (op.Remove x) vs its _ 0 None []

-- ---- what is held while a talk goes on

-- after a write
put_heard : (m : Meaning) (kept : List Value) (k : Objects) (u : State) → Stands k kept u.environment → HoldsOnly kept k (λ rs. m (with_replies rs u)) → (r : Reply)
    → HoldsOnly kept k (λ rs. on_value (λ x. m) (done r (with_replies rs u)))
put_heard m kept k u st part Done = part
put_heard m kept k u st part (Refused fault) = HoldsOnly.ends (Fails fault u) (λ rs. refl) st
put_heard m kept k u st part r = HoldsOnly.ends (Fails BadValue u) (λ rs. refl) st

-- after a read
chosen : (m : Meaning) (kept : List Value) (k : Objects) (u : State) → Stands k kept u.environment → HoldsOnly kept k (λ rs. m (with_replies rs u)) → (b : Bool)
    → HoldsOnly kept k (λ rs. choose b m (Fails BadValue) (with_replies rs u))
chosen m kept k u st part true = part
chosen m kept k u st part false = HoldsOnly.ends (Fails BadValue u) (λ rs. refl) st

got_heard : (f : MapField) (m : Value → Meaning) (ws kept : List Value) (k : Objects) (u : State) → Stands k kept u.environment
    → ((v : Value) → AreOf k (v ∷ []) → HoldsOnly kept k (λ rs. m v (with_replies rs u))) → (r : Reply) → AreOf k (told_by r ++ ws)
    → HoldsOnly kept k (λ rs. on_value (told_value f m) (got r (with_replies rs u)))
got_heard f m ws kept k u st part (Val v) all = chosen (m v) kept k u st (part v (all.0, tt)) (field_takes f v)
got_heard f m ws kept k u st part (Refused fault) all = HoldsOnly.ends (Fails fault u) (λ rs. refl) st
got_heard f m ws kept k u st part r all = HoldsOnly.ends (Fails BadValue u) (λ rs. refl) st

module _ (vs : List Value) (object : ℕ) (its : (k : Objects) → AreOf k vs → IsOne k object) where
  -- a talk with the map, while it and the arguments are held
  holds_told : (t : Talk) (ws : List Value) → TalksOf vs ws t → (known : Objects) (kept : List Value) (u : State) → Stands known kept u.environment → Within vs kept → AreOf known ws
      → HoldsOnly kept known (λ rs. told object t (with_replies rs u))
  holds_told (Ends w) ws talks known kept u st within last = HoldsOnly.ends (Gives w u) (λ rs. refl) (talks known (lasting_known vs kept known u.environment st within) last, st)
  holds_told (Puts f w then) ws talks known kept u st within last =
      let all : AreOf known vs = lasting_known vs kept known u.environment st within in
      asked_with known kept [] (request.Put object (place_of f) w) u (λ rs. told object (Puts f w then) (with_replies rs u)) st (its known all, (talks.0 known all last, tt)) refl
      (λ r k stands heard. put_heard (told object then) kept k (record u { moves = 0 }) stands (holds_told then [] talks.1 k kept (record u { moves = 0 }) stands within tt) r)
  holds_told (Gets f then) ws talks known kept u st within last =
      asked_with known kept [] (request.Get object (place_of f)) u (λ rs. told object (Gets f then) (with_replies rs u)) st (its known (lasting_known vs kept known u.environment st within), tt) refl
      (λ r k stands heard. got_heard f (λ v. told object (then v)) (value.Ref object ∷ []) kept k (record u { moves = 0 }) stands
      (λ v read. holds_told (then v) (v ∷ []) (talks v) k kept (record u { moves = 0 }) stands within read) r heard)

  -- the same under the map's monitor
  lasting_under : (grade : Grade) (m : Meaning) → Lasting vs m → Lasting vs (under (Mon object) grade m)
  lasting_under grade m part = record {
    from = λ known kept u st within. asked_with known kept [] (request.Enter (Mon object) (level_of grade)) u (λ rs. under (Mon object) grade m (with_replies rs u)) st
        (its known (lasting_known vs kept known u.environment st within), tt) refl (λ r k stands heard. locked kept k (record u { moves = 0 }) stands within r);
  }
    where
      locked : (kept : List Value) (k : Objects) (u : State) → Stands k kept u.environment → Within vs kept → (r : Reply) → HoldsOnly kept k (λ rs. entered (Mon object) grade m r (with_replies rs u))
      locked kept k u st within Done = while_held (leave (Mon object) grade) (record { wants = λ q env. refl; stopped = refl; over = refl }) (value.Ref object ∷ []) m k kept u st
          (its k (lasting_known vs kept k u.environment st within), tt) (λ more w inside held standing. part.from k more w standing (λ o e. inside o (within o e))) (left_end (Mon object) grade kept)
      locked kept k u st within Local = while_held (λ o. o) (record { wants = λ q env. refl; stopped = refl; over = refl }) (value.Ref object ∷ []) m k kept u st
          (its k (lasting_known vs kept k u.environment st within), tt) (λ more w inside held standing. part.from k more w standing (λ o e. inside o (within o e))) (λ j e end known. HoldsOnly.ends e (λ rs. refl) end)
      locked kept k u st within r = (part_unwanted [] r).from k kept u st tt

-- a call of a map, of which the arguments are those of the operation
pub part_call_map : (object : ℕ) (args : List Value) (call : Option MapOp) → ((c : MapOp) → call ≡ Some c → (k : Objects) → AreOf k args → AreOf k (args_of c)) → Part (value.Ref object ∷ args) (call_map object args call)
part_call_map object args None its = part_fails (value.Ref object ∷ args) BadValue
part_call_map object args (Some call) its = part_lasting (value.Ref object ∷ args) (under (Mon object) (grade_of call) (told object (talk call)))
    (lasting_under (value.Ref object ∷ args) object (λ k all. all.0) (grade_of call) (told object (talk call)) (record {
      from = λ known kept u st within. holds_told (value.Ref object ∷ args) object (λ k all. all.0) (talk call) [] (talks_of call (value.Ref object ∷ args) (λ k all. its call refl k all.1)) known kept u st within tt;
    }))

-- A call of a map keeps to what may be asked.
use Rattle.std.proofs.Common.{◌≡◌, refl, sym, ap, subst, ◌∙◌, inl, inr, ℕ, zero, suc, Bool, true, false, List, [], ◌∷◌, Option, None, Some}
use Rattle.std.specs.Prelude.{slice_get}
use Rattle.std.proofs.lemmas.Option.{slice_get_within}
use Rattle.dso_base.specs.declared.lock.LockName.TheVariants.{Mon}
use Rattle.dso_base.specs.declared.request.Fault.{Fault}
use Rattle.dso_base.specs.declared.request.Fault.TheVariants.{BadValue}
use Rattle.dso_base.specs.declared.request.Reply.{Reply}
use Rattle.dso_base.specs.declared.request.Reply.TheVariants.{Done, Val, Local, Refused}
use Rattle.dso_base.specs.declared.request.Request.{Request}
use Rattle.dso_base.specs.declared.request.Request.TheVariants as request
use Rattle.dso_base.specs.declared.shape.Shape.{Shape}
use Rattle.dso_base.specs.declared.value.ClassId.TheVariants.{Plain}
use Rattle.dso_base.specs.declared.value.Value.{Value}
use Rattle.dso_base.specs.declared.value.Value.TheVariants as value
use Rattle.dso_base.specs.Shape.{HasField, fields_at, kind_at, kind_of}
use Rattle.dso_base.specs.Value.{Fits}
use Rattle.dso_map.specs.declared.map_op.MapOp.{MapOp}
use Rattle.dso_map.specs.declared.map_op.MapOp.TheVariants as op
use Rattle.dso_map.specs.Calls.{accepts, after_reply, map_op}
use Rattle.dso_map.specs.Fields.{MapField, IsMapField, place_of, field_kind, field_takes}
use Rattle.dso_map.specs.KeptMaps.{PutsObject}
use Rattle.dso_map.specs.MapClass.{own_field, map_fields, is_map}
use Rattle.dso_map.specs.Talk.{Talk, talk}
use Rattle.dso_map.specs.Talk.Talk.{Gets, Puts, Ends}
use Rattle.dso_map.specs.Within.{StaysWithin}
use Rattle.dso_map.proofs.FieldKinds.{takes_kind}
use Rattle.dso_map.proofs.Known.{IsOwn, OrTold, Tells, talk_tells}
use Rattle.dso_map.proofs.MapClass.{map_field_is}
use Rattle.dso_map.proofs.Within.{talk_within}
use Rattle.dso_machine.specs.Maps.{told, told_value, grade_of, call_map}
use Rattle.dso_machine.specs.MapCalls.{entry_of}
use Rattle.dso_machine.specs.Outcome.{Environment, State, Outcome, Wants, Gives, Fails, Meaning, choose, on_value, with_outer, restored, done, got, level_of, leave, entered, under}
use Rattle.dso_machine.specs.Unwinding.{with_replies}
use Rattle.dso_machine.proofs.protocol.Protocol.{KnowsValue, Keeper}
use Rattle.dso_machine.proofs.protocol.Parts.{Obeys, InCall, KnowsAll, KnowsEnvironment, Kept, Fine, More, Part, value_later, all_later, environment_later, more_same, part_fails, part_holding}
use Rattle.dso_machine.proofs.protocol.Requests.{read_value}
use Rattle.dso_machine.proofs.protocol.Locks.{asked_at, after_exit, kept_outside, leaves_at_end}

-- the class of this number is that of maps
abbrev pub IsMapAt : Shape → ℕ → Type 0
IsMapAt shape class = fields_at shape class ≡ map_fields

-- so it has a map's fields,
field_is : (shape : Shape) (class : ℕ) (f : MapField) → IsMapAt shape class → IsMapField f → slice_get (fields_at shape class) (place_of f) ≡ Some (own_field (field_kind f))
field_is shape class f is there = ap (λ fields. slice_get fields (place_of f)) is ∙ map_field_is f there

pub field_there : (shape : Shape) (class : ℕ) (f : MapField) → IsMapAt shape class → IsMapField f → HasField shape (Plain class) (place_of f)
field_there shape class f is there = slice_get_within (fields_at shape class) (place_of f) (own_field (field_kind f)) (field_is shape class f is there)

-- which take values of their kinds
pub field_fits : (shape : Shape) (class : ℕ) (f : MapField) (v : Value) → IsMapAt shape class → IsMapField f → field_takes f v ≡ true → Fits (kind_of shape (Plain class) (place_of f)) v
field_fits shape class f v is there takes = subst (λ k. Fits k v) (sym (ap kind_at (field_is shape class f is there))) ((takes_kind f v).0 takes)

-- a call with arguments of the right kinds puts an object that isn't object 0
pub puts_object : (place : ℕ) (args : List Value) (call : MapOp) → map_op place args ≡ Some call → PutsObject call
puts_object (suc (suc (suc zero))) (value.Long k ∷ value.Ref (suc o) ∷ []) call is =
    let same : op.Put k (suc o) ≡ call = cc is in
    subst PutsObject same (λ none. cc none)
puts_object zero (value.Long k ∷ []) call is = let same : op.Get k ≡ call = cc is in subst PutsObject same tt
puts_object (suc zero) (value.Long k ∷ []) call is = let same : op.Has k ≡ call = cc is in subst PutsObject same tt
puts_object (suc (suc zero)) [] call is = let same : op.Size ≡ call = cc is in subst PutsObject same tt
puts_object (suc (suc (suc (suc zero)))) (value.Long k ∷ []) call is = let same : op.Remove k ≡ call = cc is in subst PutsObject same tt
puts_object place args call is = absurd (cc is)

-- all of the call's own values are known
abbrev KnowsOwn : (ℕ → Type 0) → (ℕ → Type 0) → MapOp → Type 0
KnowsOwn has_text knows call = (v : Value) → IsOwn call v → KnowsValue has_text knows v

-- where it puts nothing, or an object that is known
none_put : (has_text knows : ℕ → Type 0) (call : MapOp) → ((object : ℕ) → IsOwn call (value.Ref object) → knows object) → KnowsOwn has_text knows call
none_put has_text knows call puts (value.Ref object) own = puts object own
none_put has_text knows call puts (value.Text t) own = absurd own
none_put has_text knows call puts value.Null own = tt
none_put has_text knows call puts (value.Long n) own = tt
none_put has_text knows call puts (value.Bool b) own = tt

-- as its arguments are
pub own_known : (has_text knows : ℕ → Type 0) (place : ℕ) (args : List Value) (call : MapOp) → map_op place args ≡ Some call → KnowsAll has_text knows args → KnowsOwn has_text knows call
own_known has_text knows (suc (suc (suc zero))) (value.Long k ∷ value.Ref (suc o) ∷ []) call is known =
    let same : op.Put k (suc o) ≡ call = cc is in
    subst (KnowsOwn has_text knows) same (none_put has_text knows (op.Put k (suc o)) (λ object own. subst knows (sym own) known.1.0))
own_known has_text knows zero (value.Long k ∷ []) call is known = let same : op.Get k ≡ call = cc is in subst (KnowsOwn has_text knows) same (none_put has_text knows (op.Get k) (λ object own. absurd own))
own_known has_text knows (suc zero) (value.Long k ∷ []) call is known = let same : op.Has k ≡ call = cc is in subst (KnowsOwn has_text knows) same (none_put has_text knows (op.Has k) (λ object own. absurd own))
own_known has_text knows (suc (suc zero)) [] call is known = let same : op.Size ≡ call = cc is in subst (KnowsOwn has_text knows) same (none_put has_text knows op.Size (λ object own. absurd own))
own_known has_text knows (suc (suc (suc (suc zero)))) (value.Long k ∷ []) call is known = let same : op.Remove k ≡ call = cc is in subst (KnowsOwn has_text knows) same (none_put has_text knows (op.Remove k) (λ object own. absurd own))
own_known has_text knows place args call is known = absurd (cc is)

module _ {shape : Shape} (k : Keeper shape) where
  -- such values are known at the point
  abbrev pub AllKnown : (Value → Type 0) → k.Point → Type 0
  AllKnown P g = (v : Value) → P v → KnowsValue k.HasText (k.Knows g) v

  -- and at a later one, and so is a value that was told
  pub told_known : (P : Value → Type 0) (g h : k.Point) (told : Value) → More k g h → AllKnown P g → KnowsValue k.HasText (k.Knows h) told → AllKnown (OrTold P told) h
  told_known P g h told more known told_is v (inl same) = subst (KnowsValue k.HasText (k.Knows h)) (sym same) told_is
  told_known P g h told more known told_is v (inr is) = value_later k g h more.knows v (known v is)

  -- What a talk asks of an object that was seen to be a map, and what is made of its end: at its value that is as said of a call's
  -- end, at a fault it keeps to what may be asked.
  module _ (Q : Outcome → k.Point → Type 0) (f : Outcome → Outcome) (stays : (q : Request) (env : Environment) → f (Wants q env) ≡ Wants q env) (i : k.Point) (locked : Bool) (object class size : ℕ)
      (map : IsMapAt shape class) (known : k.Knows i object) (looked : k.Looked i object (Plain class) size)
      (at_end : (v : Value) (h : k.Point) (u : State) → Kept k i h v u.environment → InCall k Q object (Ends v) locked h (λ rs. f (Gives v (with_replies rs u))))
      (at_fault : (fault : Fault) (h : k.Point) (u : State) → k.Same i h → Obeys k Q h (λ rs. f (Fails fault (with_replies rs u)))) where
    -- a reply that the talk doesn't take is a fault, of which a read value is one if it is of another kind
    refused : (fld : MapField) (m : Value → Meaning) (h : k.Point) (u : State) (v : Value) → k.Same i h → field_takes fld v ≡ false → Obeys k Q h (λ rs. f (told_value fld m v (with_replies rs u)))
    refused fld m h u v same refuses = subst (λ b. Obeys k Q h (λ rs. f (choose b (m v) (Fails BadValue) (with_replies rs u)))) (sym refuses) (at_fault BadValue h u same)

    -- what follows at a later point where such values are known
    abbrev Follows : (Value → Type 0) → Talk → Type 0
    Follows P rest = (h : k.Point) (u : State) → k.Awake h → k.Same i h → KnowsEnvironment k h u.environment → AllKnown P h → InCall k Q object rest locked h (λ rs. f (told object rest (with_replies rs u)))

    -- after a read value that the field takes
    after_get : (P : Value → Type 0) (h : k.Point) (u : State) (fld : MapField) (then : Value → Talk) → ((v : Value) → Follows (OrTold P v) (then v)) → (r : Reply) → k.Awake h → k.Same i h
        → KnowsEnvironment k h u.environment → AllKnown P h → k.IsReply h (request.Get object (place_of fld)) r → accepts (Gets fld then) r ≡ true
        → InCall k Q object (after_reply (Gets fld then) r) locked (k.after (request.Get object (place_of fld)) r h) (λ rs. f (on_value (told_value fld (λ v. told object (then v))) (got r (with_replies rs (asked_at u)))))
    after_get P h u fld then further (Val v) awake same environment all comes takes =
        let q = request.Get object (place_of fld) in
        let next : k.Point = k.after q (Val v) h in
        let still : k.Same h next = k.plain_same h q (Val v) awake refl comes in
        let more : More k h next = more_same k h next awake still in
        subst (λ b. InCall k Q object (then v) locked next (λ rs. f (choose b (told object (then v)) (Fails BadValue) (with_replies rs (asked_at u))))) (sym takes)
        (further v next (asked_at u) more.awake (k.same_then i h next same still) (environment_later k h next more.knows u.environment environment) (told_known P h next v more all (read_value k h q v comes)))
    after_get P h u fld then further r awake same environment all comes takes = absurd (k.listed h (request.Get object (place_of fld)) r comes)

    -- and after a value that it doesn't take
    other_get : (h : k.Point) (u : State) (fld : MapField) (then : Value → Talk) (r : Reply) → k.Awake h → k.Same i h → k.IsReply h (request.Get object (place_of fld)) r
        → accepts (Gets fld then) r ≡ false
        → Obeys k Q (k.after (request.Get object (place_of fld)) r h) (λ rs. f (on_value (told_value fld (λ v. told object (then v))) (got r (with_replies rs (asked_at u)))))
    other_get h u fld then (Val v) awake same comes refuses =
        let q = request.Get object (place_of fld) in
        refused fld (λ w. told object (then w)) (k.after q (Val v) h) (asked_at u) v (k.same_then i h (k.after q (Val v) h) same (k.plain_same h q (Val v) awake refl comes)) refuses
    other_get h u fld then r awake same comes refuses = absurd (k.listed h (request.Get object (place_of fld)) r comes)

    -- after a value was written
    after_put : (P : Value → Type 0) (h : k.Point) (u : State) (fld : MapField) (v : Value) (then : Talk) → Follows P then → (r : Reply) → k.Awake h → k.Same i h → KnowsEnvironment k h u.environment
        → AllKnown P h → k.IsReply h (request.Put object (place_of fld) v) r → accepts (Puts fld v then) r ≡ true
        → InCall k Q object (after_reply (Puts fld v then) r) locked (k.after (request.Put object (place_of fld) v) r h) (λ rs. f (on_value (λ x. told object then) (done r (with_replies rs (asked_at u)))))
    after_put P h u fld v then further Done awake same environment all comes takes =
        let q = request.Put object (place_of fld) v in
        let next : k.Point = k.after q Done h in
        let still : k.Same h next = k.plain_same h q Done awake refl comes in
        let more : More k h next = more_same k h next awake still in
        further next (asked_at u) more.awake (k.same_then i h next same still) (environment_later k h next more.knows u.environment environment) (λ w is. value_later k h next more.knows w (all w is))
    after_put P h u fld v then further r awake same environment all comes takes = absurd (cc takes)

    -- and after a refusal
    other_put : (h : k.Point) (u : State) (fld : MapField) (v : Value) (then : Talk) (r : Reply) → k.Awake h → k.Same i h → k.IsReply h (request.Put object (place_of fld) v) r
        → accepts (Puts fld v then) r ≡ false
        → Obeys k Q (k.after (request.Put object (place_of fld) v) r h) (λ rs. f (on_value (λ x. told object then) (done r (with_replies rs (asked_at u)))))
    other_put h u fld v then (Refused fault) awake same comes refuses =
        let q = request.Put object (place_of fld) v in
        at_fault fault (k.after q (Refused fault) h) (asked_at u) (k.same_then i h (k.after q (Refused fault) h) same (k.plain_same h q (Refused fault) awake refl comes))
    other_put h u fld v then Done awake same comes refuses = absurd (cc refuses)
    other_put h u fld v then r awake same comes refuses = absurd (k.listed h (request.Put object (place_of fld) v) r comes)

    in_told : (P : Value → Type 0) (talk : Talk) → StaysWithin talk → Tells P talk → Follows P talk
    in_told P (Gets fld then) within tells h u awake same environment all = InCall.goes (request.Get object (place_of fld)) refl (stays (request.Get object (place_of fld)) _)
        (k.get_asked h object (place_of fld) (Plain class) size awake (k.same_knows i h same object known) (k.same_looked i h same object (Plain class) size looked) (field_there shape class fld map within.0))
        (λ r comes takes. after_get P h u fld then (λ v. in_told (OrTold P v) (then v) (within.1 v) (tells v)) r awake same environment all comes takes)
        (λ r comes refuses. other_get h u fld then r awake same comes refuses)
    in_told P (Puts fld v then) within tells h u awake same environment all = InCall.goes (request.Put object (place_of fld) v) refl (stays (request.Put object (place_of fld) v) _)
        (k.put_asked h object (place_of fld) v (Plain class) size awake (k.same_knows i h same object known) (all v tells.0) (k.same_looked i h same object (Plain class) size looked)
        (field_there shape class fld map within.0) (field_fits shape class fld v map within.0 within.1))
        (λ r comes takes. after_put P h u fld v then (in_told P then within.2 tells.1) r awake same environment all comes takes) (λ r comes refuses. other_put h u fld v then r awake same comes refuses)
    in_told P (Ends v) within tells h u awake same environment all = at_end v h u (record { same = same; value = all v tells; environment = environment })

  -- A call of an object that was seen to be a map, under the map's monitor.
  module _ (g : k.Point) (object class size : ℕ) (call : MapOp) (map : is_map shape class ≡ true) (is_at : IsMapAt shape class) (object_known : k.Knows g object)
      (looked : k.Looked g object (Plain class) size) (puts : PutsObject call) (own : KnowsOwn k.HasText (k.Knows g) call) (u : State) (awake : k.Awake g) (environment : KnowsEnvironment k g u.environment) where
    -- what is held inside
    abbrev held : List Value
    held = value.Ref object ∷ u.environment.outer

    -- the state inside
    abbrev inner : State
    inner = with_outer held (asked_at u)

    -- what the talk asks, at the point after a reply to the entry with which nothing less is known
    inside_told : (Q : Outcome → k.Point → Type 0) (f : Outcome → Outcome) → ((q : Request) (env : Environment) → f (Wants q env) ≡ Wants q env) → (i : k.Point) (locked : Bool) → More k g i
        → ((v : Value) (h : k.Point) (w : State) → Kept k i h v w.environment → InCall k Q object (Ends v) locked h (λ rs. f (Gives v (with_replies rs w))))
        → ((fault : Fault) (h : k.Point) (w : State) → k.Same i h → Obeys k Q h (λ rs. f (Fails fault (with_replies rs w))))
        → InCall k Q object (talk call) locked i (λ rs. f (told object (talk call) (with_replies rs inner)))
    inside_told Q f stays i locked more at_end at_fault =
        in_told Q f stays i locked object class size is_at (more.knows object object_known) (more.looked object (Plain class) size looked) at_end at_fault
        (KnowsValue k.HasText (k.Knows i)) (talk call) (talk_within call puts) (talk_tells call (KnowsValue k.HasText (k.Knows i)) (λ v is. value_later k g i more.knows v (own v is))) i inner more.awake (k.same_itself i)
        (record { this = value_later k g i more.knows u.environment.this environment.this; vars = all_later k g i more.knows u.environment.vars environment.vars })
        (λ v is. is)

    -- where the monitor was entered, it is left at the end
    module _ (enters : k.IsReply g (entry_of object call) Done) where
      abbrev entered_at : k.Point
      entered_at = k.after (entry_of object call) Done g

      inside_ends : (v : Value) (h : k.Point) (w : State) → Kept k entered_at h v w.environment
          → InCall k (Fine k g) object (Ends v) true h (λ rs. leave (Mon object) (grade_of call) (restored u.environment.outer (Gives v (with_replies rs w))))
      inside_ends v h w kept =
          let out : State = with_outer u.environment.outer w in
          let kept_out : Kept k entered_at h v out.environment = record { same = kept.same; value = kept.value; environment = record { this = kept.environment.this; vars = kept.environment.vars } } in
          InCall.leaves refl (k.exit_asked g h (Mon object) (level_of (grade_of call)) awake enters kept.same)
          (after_exit k g (Mon object) (grade_of call) awake enters (Fine k g) (v ∷ []) (Gives v) h out kept.same
          (λ i same knows. Obeys.ends (Gives v (asked_at out)) (λ rs. refl) (kept_outside k g (Mon object) (grade_of call) awake enters h v out kept_out i same knows)))

      inside_fails : (fault : Fault) (h : k.Point) (w : State) → k.Same entered_at h
          → Obeys k (Fine k g) h (λ rs. leave (Mon object) (grade_of call) (restored u.environment.outer (Fails fault (with_replies rs w))))
      inside_fails fault h w same = leaves_at_end k g (Mon object) (grade_of call) awake enters (Fails fault (with_outer u.environment.outer w)) h same

      goes_inside : InCall k (Fine k g) object (talk call) true entered_at (λ rs. entered (Mon object) (grade_of call) (told object (talk call)) Done (with_replies rs (asked_at u)))
      goes_inside = inside_told (Fine k g) (λ o. leave (Mon object) (grade_of call) (restored u.environment.outer o)) (λ q env. refl) entered_at true
          (record { awake = k.enter_awake g (Mon object) (level_of (grade_of call)) awake enters; knows = k.still_known g (entry_of object call) Done; looked = k.still_looked g (entry_of object call) Done })
          inside_ends inside_fails

    -- where it wasn't, the call ends with its talk
    module _ (passes : k.IsReply g (entry_of object call) Local) where
      abbrev passed_at : k.Point
      passed_at = k.after (entry_of object call) Local g

      passes_same : k.Same g passed_at
      passes_same = k.enter_same g (Mon object) (level_of (grade_of call)) Local awake passes (λ e. cc e)

      beside_ends : (v : Value) (h : k.Point) (w : State) → Kept k passed_at h v w.environment → InCall k (Fine k g) object (Ends v) false h (λ rs. restored u.environment.outer (Gives v (with_replies rs w)))
      beside_ends v h w kept = InCall.over (Obeys.ends (Gives v (with_outer u.environment.outer w)) (λ rs. refl)
          (record { same = k.same_then g passed_at h passes_same kept.same; value = kept.value; environment = record { this = kept.environment.this; vars = kept.environment.vars } }))

      beside_fails : (fault : Fault) (h : k.Point) (w : State) → k.Same passed_at h → Obeys k (Fine k g) h (λ rs. restored u.environment.outer (Fails fault (with_replies rs w)))
      beside_fails fault h w same = Obeys.ends (Fails fault (with_outer u.environment.outer w)) (λ rs. refl) (k.same_then g passed_at h passes_same same)

      goes_beside : InCall k (Fine k g) object (talk call) false passed_at (λ rs. entered (Mon object) (grade_of call) (told object (talk call)) Local (with_replies rs (asked_at u)))
      goes_beside = inside_told (Fine k g) (restored u.environment.outer) (λ q env. refl) passed_at false (more_same k g passed_at awake passes_same) beside_ends beside_fails

    -- any other reply is a fault
    not_entered : (r : Reply) → (r ≡ Done → ⊥) → (r ≡ Local → ⊥) → k.IsReply g (entry_of object call) r
        → Obeys k (Fine k g) (k.after (entry_of object call) r g) (λ rs. entered (Mon object) (grade_of call) (told object (talk call)) r (with_replies rs (asked_at u)))
    not_entered Done one two comes = absurd (one refl)
    not_entered Local one two comes = absurd (two refl)
    not_entered (Refused fault) one two comes = Obeys.ends (Fails fault (asked_at u)) (λ rs. refl) (k.enter_same g (Mon object) (level_of (grade_of call)) (Refused fault) awake comes (λ e. cc e))
    not_entered r one two comes = absurd (k.listed g (entry_of object call) r comes)

    keeps_called : Obeys k (Fine k g) g (λ rs. under (Mon object) (grade_of call) (told object (talk call)) (with_replies rs u))
    keeps_called = Obeys.calls object call class size looked map refl (k.enter_asked g (Mon object) (level_of (grade_of call)) awake object_known tt) goes_inside goes_beside not_entered

  -- a call of an object that was seen to be a map keeps to what may be asked
  pub part_call_map : (g : k.Point) (object class size place : ℕ) (args : List Value) (call : Option MapOp) → map_op place args ≡ call → is_map shape class ≡ true → IsMapAt shape class → k.Knows g object
      → KnowsAll k.HasText (k.Knows g) args → k.Looked g object (Plain class) size → Part k g (call_map object args call)
  part_call_map g object class size place args None is map is_at known args_known looked = part_fails k g BadValue
  part_call_map g object class size place args (Some call) is map is_at known args_known looked = record {
    from = (part_holding k g (value.Ref object ∷ args) (under (Mon object) (grade_of call) (told object (talk call))) (record {
      from = λ h u more environment. keeps_called h object class size call map is_at (more.knows object known) (more.looked object (Plain class) size looked) (puts_object place args call is)
          (λ v own. value_later k g h more.knows v (own_known k.HasText (k.Knows g) place args call is args_known v own)) u more.awake environment;
    })).from;
  }

-- Calls of maps.
use Rattle.std.proofs.Common.{◌≡◌, inl, inr, refl, ℕ, Bool, true, false, eqb, ◌||◌, ◌&&◌, List, [], ◌∷◌, Option, None, Some, subst, sym, ap, ◌∙◌}
use Rattle.std.specs.Prelude.{slice_get}
use Rattle.dso_base.specs.declared.lock.Grade.{Grade}
use Rattle.dso_base.specs.declared.lock.LockName.TheVariants.{Mon}
use Rattle.dso_base.specs.declared.request.Fault.TheVariants.{BadValue}
use Rattle.dso_base.specs.declared.request.Reply.{Reply}
use Rattle.dso_base.specs.declared.request.Reply.TheVariants.{Done, Made, Seen, Val, Local, Refused}
use Rattle.dso_base.specs.declared.request.Request.TheVariants as request
use Rattle.dso_base.specs.declared.shape.Shape.{Shape}
use Rattle.dso_base.specs.declared.value.ClassId.TheVariants.{Plain}
use Rattle.dso_base.specs.declared.value.Value.{Value}
use Rattle.dso_base.specs.declared.value.Value.TheVariants as value
use Rattle.dso_base.specs.Shape.{guard_of, lock_of}
use Rattle.dso_map.specs.declared.map_op.MapOp.{MapOp}
use Rattle.dso_map.specs.Calls.{map_op}
use Rattle.dso_map.specs.Fields.{MapField, IsMapField, place_of, field_takes}
use Rattle.dso_map.specs.Talk.{Talk, talk}
use Rattle.dso_map.proofs.MapClass.{map_field_is}
use Rattle.dso_machine.specs.Maps.{told, told_value, grade_of, call_map}
use Rattle.dso_machine.specs.Outcome.{State, Fails, get, put, level_of, under}
use Rattle.dso_machine.specs.Unwinding.{with_replies}
use Rattle.dso_machine.proofs.protocol.Maps.{IsMapAt, puts_object}
use Rattle.dso_lint.specs.Access.{writes}
use Rattle.dso_lint_law.proofs.parts.Views.{View, viewed, own_stored, Held, Guarded, NotRead, Later, later_itself, later_then, held_later}
use Rattle.dso_lint_law.proofs.parts.Parts.{Obeys, Around, Stands, Any, SharedIf, Fine, Part, part_gives, part_fails, part_value, part_holding, part_choose, part_tell}
use Rattle.dso_lint_law.proofs.parts.Locks.{lock_self, Enters, keeps_under}
use Rattle.dso_lint_law.proofs.parts.Entries.{in_block, AreHolds, enters_monitor, held_now}
use Rattle.dso_lint_law.proofs.parts.Accesses.{any_still, weaker_held, later_put, part_getting}
use Rattle.dso_lint_law.proofs.parts.Talks.{Touches, call_touches}

module _ (shape : Shape) (class object : ℕ) (map : IsMapAt shape class) where
  -- a map's fields are guarded by its monitor
  field_guard : (f : MapField) → IsMapField f → guard_of shape (Plain class) object (place_of f) ≡ Mon object
  field_guard f there = ap (λ field. lock_of field object) (ap (λ fields. slice_get fields (place_of f)) map ∙ map_field_is f there)

  -- the monitor is held, or the map is the thread's own
  by_monitor : (g : View) (f : MapField) (write : Bool) → IsMapField f → g.class object ≡ Some (Plain class) → Held g (Mon object) write → Guarded shape g object (place_of f) write
  by_monitor g f write there seen held = inr (Plain class, seen, subst (λ l. Held g l write) (sym (field_guard f there)) held)

  -- What a talk asks, from a view: its fields may be read, and written where it may write; and writing them leaves the rest.
  module _ (d : Around) (may : Bool) (g : View) (guarded : (h : View) (f : MapField) (write : Bool) → Later d.quiet g h → IsMapField f → (write ≡ true → may ≡ true) → Guarded shape h object (place_of f) write)
      (kept : (h : View) (f : MapField) (v : Value) (r : Reply) → Later d.quiet g h → Later d.quiet h (viewed (request.Put object (place_of f) v) r h)) where
    part_told : {rest : Talk} → Touches may rest → (h : View) → Later d.quiet g h → Part shape d Any h (told object rest)
    part_told (Touches.reading {f = f} {then = then} there more) h later = part_value shape d (SharedIf false) Any h (told_value f (λ v. told object (then v))) (get object (place_of f))
        (part_getting shape d false h [] object (place_of f) (λ i this vars further stands. guarded i f false (later_then d.quiet g h i later further) there (λ w. absurd (cc w))) (λ t. absurd (cc t)))
        (λ v i further said. part_choose shape d Any i (field_takes f v) (told object (then v)) (Fails BadValue) (λ takes. part_told (more v) i (later_then d.quiet g h i later further)) (part_fails shape d Any i BadValue))
    part_told (Touches.writing {f = f} {v = v} {then = then} allowed there more) h later = part_value shape d Any Any h (λ x. told object then) (put object (place_of f) v)
        (part_tell shape d h (request.Put object (place_of f) v) (λ i this vars further stands. guarded i f true (later_then d.quiet g h i later further) there (λ w. allowed))
        (λ i r further comes. kept i f v r (later_then d.quiet g h i later further)))
        (λ x i further said. part_told more i (later_then d.quiet g h i later further))
    part_told (Touches.ending {v = v}) h later = part_gives shape d Any h v (λ i further. tt)

-- what is stored in an own object leaves the own objects
own_stays : (h : View) (o : ℕ) (v : Value) (p : ℕ) → h.own o ≡ true → h.own p ≡ true → own_stored o v h.own p ≡ true
own_stays h o (value.Ref q) p mine is = ap (λ b. b && h.own p) mine ∙ is
own_stays h o value.Null p mine is = is
own_stays h o (value.Long n) p mine is = is
own_stays h o (value.Bool b) p mine is = is
own_stays h o (value.Text t) p mine is = is

later_own_put : (h : View) (o f : ℕ) (v : Value) (r : Reply) → h.own o ≡ true → Later (Unit {0}) h (viewed (request.Put o f v) r h)
later_own_put h o f v Done mine = record { holds = λ l. refl; class = λ p x is. is; shared = λ p is. is; own = λ q p is. own_stays h o v p mine is }
later_own_put h o f v (Made p) mine = later_itself (Unit {0}) h
later_own_put h o f v (Val x) mine = later_itself (Unit {0}) h
later_own_put h o f v (Seen class n) mine = later_itself (Unit {0}) h
later_own_put h o f v Local mine = later_itself (Unit {0}) h
later_own_put h o f v (Refused fault) mine = later_itself (Unit {0}) h

-- the holds inside are those outside
same_holds : (shape : Shape) (c : Around) (h : View) (u : State) (o : ℕ) (grade : Grade) (quiet : Type 0) → (c.quiet → quiet) → AreHolds shape c u.environment o grade quiet c.holds
same_holds shape c h u o grade quiet quieter = record { each = λ v x there. inl there; quieter = quieter }

module _ (shape : Shape) (c : Around) (loud : c.quiet → ⊥) where
  -- a call of an object that was seen to be a map, from a view
  module _ (class object : ℕ) (map : IsMapAt shape class) (h : View) (u : State) (stands : Stands shape c h u.environment) (seen : h.class object ≡ Some (Plain class)) (call : MapOp) (may : writes (grade_of call) ≡ true → c.monitors)
      (touches : Touches (writes (grade_of call)) (talk call)) where
    abbrev within : Around
    within = in_block c c.holds c.quiet ⊥

    abbrev beside : Around
    beside = in_block c c.holds (Unit {0}) ⊥

    abbrev grade : Grade
    grade = grade_of call

    free : writes grade ≡ true → NotRead h (Mon object)
    free w = stands.free.monitors (may w) object

    enters : Enters shape within beside h u.environment (Mon object) grade
    enters = record {
      safe = (enters_monitor shape c h u.environment stands object grade c.quiet ⊥ c.holds (same_holds shape c h u object grade c.quiet (λ q. q)) may (λ no_way. absurd no_way) (λ no_way. absurd no_way)).safe;
      done = (enters_monitor shape c h u.environment stands object grade c.quiet ⊥ c.holds (same_holds shape c h u object grade c.quiet (λ q. q)) may (λ no_way. absurd no_way) (λ no_way. absurd no_way)).done;
      own = (enters_monitor shape c h u.environment stands object grade (Unit {0}) ⊥ c.holds (same_holds shape c h u object grade (Unit {0}) (λ q. tt)) may (λ no_way. absurd no_way) (λ no_way. absurd no_way)).own;
    }

    abbrev in_it : View
    in_it = viewed (request.Enter (Mon object) (level_of grade)) Done h

    abbrev by_it : View
    by_it = viewed (request.Enter (Mon object) (level_of grade)) Local h

    own_now : (eqb object object || h.own object) ≡ true
    own_now = by (eqb object object) (lock_self (Mon object))
      where
        by : (b : Bool) → b ≡ true → (b || h.own object) ≡ true
        by true is = refl
        by false is = absurd (cc is)

    keeps_call : Obeys shape (Fine shape c Any h u.environment) h (λ rs. under (Mon object) grade (told object (talk call)) (with_replies rs u))
    keeps_call = keeps_under shape c within beside (record { clean = λ v is. is; holds = λ v x there. there; quiet = λ q. q }) (record { clean = λ v is. is; holds = λ v x there. there; quiet = λ q. tt })
        Any Any any_still [] h u stands (Mon object) grade (told object (talk call)) enters
        (part_told shape class object map within (writes grade) in_it
        (λ i f write later there less. by_monitor shape class object map i f write there (later.class object (Plain class) seen) (weaker_held i (Mon object) (writes grade) write less (held_later c.quiet in_it i later (Mon object) (writes grade) (held_now shape h (Mon object) grade free))))
        (λ i f v r later. later_put c.quiet i object (place_of f) v r (λ quiet. absurd (loud quiet))) touches in_it (later_itself c.quiet in_it))
        (part_told shape class object map beside (writes grade) by_it
        (λ i f write later there less. inl (later.own tt object own_now))
        (λ i f v r later. later_own_put i object (place_of f) v r (later.own tt object own_now)) touches by_it (later_itself (Unit {0}) by_it))

  -- a call of an object that was seen to be a map
  pub part_call_map : (g : View) (class object place : ℕ) (args : List Value) (call : Option MapOp) → map_op place args ≡ call → IsMapAt shape class → g.class object ≡ Some (Plain class)
      → ((it : MapOp) → call ≡ Some it → writes (grade_of it) ≡ true → c.monitors) → Part shape c Any g (call_map object args call)
  part_call_map g class object place args None is map seen may = part_fails shape c Any g BadValue
  part_call_map g class object place args (Some call) is map seen may = part_holding shape c Any g (value.Ref object ∷ args) (under (Mon object) (grade_of call) (told object (talk call))) (record {
    from = λ h u later stands. keeps_call class object map h u stands (later.class object (Plain class) seen) call (may call refl) (call_touches call (puts_object place args call is));
  })

-- Sound statements keep to what may be asked.
use Rattle.std.proofs.Common.{◌≡◌, refl, inl, ℕ, zero, suc, ◌<◌, ◌≤◌, ◌≢◌, arith, Bool, true, false, not, eqb, List, [], ◌∷◌, map, Option, None, Some, sym, ap, ◌∙◌}
use Rattle.std.proofs.lemmas.Bool.{eq-eqb}
use Rattle.std.specs.Prelude.{ℤ, pos}
use Rattle.dso_base.specs.declared.lock.Grade.{Grade}
use Rattle.dso_base.specs.declared.lock.Grade.TheVariants as grade
use Rattle.dso_base.specs.declared.lock.LockName.TheVariants.{Mon, Name}
use Rattle.dso_base.specs.declared.request.Fault.TheVariants.{NoSuchField, BadValue, BadIndex}
use Rattle.dso_base.specs.declared.request.Request.TheVariants as request
use Rattle.dso_base.specs.declared.shape.Shape.{Shape}
use Rattle.dso_base.specs.declared.value.ClassId.{ClassId}
use Rattle.dso_base.specs.declared.value.ClassId.TheVariants.{Plain, Array}
use Rattle.dso_base.specs.declared.value.Kind.{Kind}
use Rattle.dso_base.specs.declared.value.Kind.TheVariants as kind
use Rattle.dso_base.specs.declared.value.Value.{Value}
use Rattle.dso_base.specs.declared.value.Value.TheVariants as value
use Rattle.dso_base.specs.Shape.{HasField, kind_of}
use Rattle.dso_base.specs.Value.{Fits}
use Rattle.dso_map.specs.MapClass.{is_map}
use Rattle.dso_machine.specs.declared.code.Code.{Code}
use Rattle.dso_machine.specs.declared.tree.Expr.{Expr}
use Rattle.dso_machine.specs.declared.tree.FieldRef.{FieldRef}
use Rattle.dso_machine.specs.declared.tree.Stmt.{Stmt}
use Rattle.dso_machine.specs.Calls.{lookup, MethodMeanings}
use Rattle.dso_machine.specs.Expressions.{within, expr}
use Rattle.dso_machine.specs.Outcome.{Gives, Leaves, Fails, Meaning, on_value, on_next, on_next_beside, holding, tell, getting, put, looking, on_object, moving, under}
use Rattle.dso_machine.specs.Sound.{Scope, ArePlaces, SoundExpr, SoundStmt, SoundBlock}
use Rattle.dso_machine.specs.Statements.{assign, put_fitting, put_field_at, put_field_in, put_field, put_element_at, put_element_in, put_element, bind_null, bind, put_root, sync, wait, on_count, timed_wait, seq, branch, turn, spun, stmt}
use Rattle.dso_machine.specs.Values.{takes}
use Rattle.dso_machine.proofs.forms.Equations.{stmt_Assign, stmt_PutField, stmt_PutElem, stmt_PutRoot, stmt_Eval, stmt_If, stmt_While, stmt_Sync, stmt_Wait, stmt_TimedWait, stmt_Notify, stmt_NotifyAll, stmt_Print, stmt_Return}
use Rattle.dso_machine.proofs.protocol.Protocol.{KnowsValue, HasPlace, Keeper}
use Rattle.dso_machine.proofs.protocol.Parts.{IsNoMapAt, no_map_later, Obeys, More, Part, value_later, part_later, part_gives, part_leaves, part_fails, part_stopped, part_value, part_holding, part_choose}
use Rattle.dso_machine.proofs.protocol.Requests.{part_tell, part_getting, part_looking, part_object, part_moving}
use Rattle.dso_machine.proofs.protocol.Locks.{part_under, part_under_with, part_wait}
use Rattle.dso_machine.proofs.protocol.Calls.{Bodies}
use Rattle.dso_machine.proofs.protocol.Expressions.{places_there, places_of_no_map, no_map_of, array_no_map, within_below, known_set, part_as, part_expr}

-- ---- kinds

-- an object whose number isn't 0
no_zero : (object : ℕ) → not (eqb object 0) ≡ true → object ≢ 0
no_zero object is same = cc (sym is ∙ ap not (eq-eqb object 0 same))

-- a value that a field of this kind takes fits it
takes_fits : (k : Kind) (v : Value) → takes k v ≡ true → Fits k v
takes_fits kind.Long (value.Long n) is = tt
takes_fits kind.Bool (value.Bool b) is = tt
takes_fits kind.Text (value.Text t) is = tt
takes_fits kind.Text value.Null is = tt
takes_fits kind.Ref (value.Ref object) is = no_zero object is
takes_fits kind.Ref value.Null is = tt
takes_fits k v is = absurd (cc is)

module _ {shape : Shape} (k : Keeper shape) where
  -- ---- what is written

  -- a variable is given a value that is known
  part_assign : (g : k.Point) (i : ℕ) (v : Value) → KnowsValue k.HasText (k.Knows g) v → Part k g (assign i v)
  part_assign g i v known = record {
    from = λ h u more environment. Obeys.ends (assign i v u) (λ rs. refl) (record {
      same = k.same_itself h;
      value = tt;
      environment = record { this = environment.this; vars = known_set k.HasText (k.Knows h) u.environment.vars i v environment.vars (value_later k g h more.knows v known) };
    });
  }

  -- a field or an element is,
  part_put : (g : k.Point) (object place : ℕ) (v : Value) (class : ClassId) (size : ℕ) → k.Knows g object → KnowsValue k.HasText (k.Knows g) v
      → k.Looked g object class size → HasPlace shape class size place → IsNoMapAt k g object → Fits (kind_of shape class place) v → Part k g (put object place v)
  part_put g object place v class size known v_known looked there other fits = part_tell k g (request.Put object place v) refl
      (λ h more. (
        k.put_asked h object place v class size more.awake (more.knows object known) (value_later k g h more.knows v v_known) (more.looked object class size looked) there fits,
        no_map_later k g h object more other,
      ))

  -- if it takes the value
  part_put_fitting : (g : k.Point) (object place : ℕ) (v : Value) (class : ClassId) (size : ℕ) → k.Knows g object → KnowsValue k.HasText (k.Knows g) v
      → k.Looked g object class size → HasPlace shape class size place → IsNoMapAt k g object → Part k g (put_fitting (kind_of shape class place) object place v)
  part_put_fitting g object place v class size known v_known looked there other = part_choose k g (takes (kind_of shape class place) v) (put object place v) (Fails BadValue)
      (λ takes_it. part_put g object place v class size known v_known looked there other (takes_fits (kind_of shape class place) v takes_it)) (part_fails k g BadValue)

  -- a field that was found is given a value,
  part_put_field_at : (g : k.Point) (class object : ℕ) (v : Value) (size : ℕ) (place : Option ℕ) → k.Knows g object → KnowsValue k.HasText (k.Knows g) v
      → k.Looked g object (Plain class) size → ((p : ℕ) → place ≡ Some p → HasField shape (Plain class) p × (is_map shape class ≡ false)) → Part k g (put_field_at shape class object v place)
  part_put_field_at g class object v size None known v_known looked there = part_fails k g NoSuchField
  part_put_field_at g class object v size (Some place) known v_known looked there = part_put_fitting g object place v (Plain class) size known v_known looked (there place refl).0 (no_map_of k g object class size looked (there place refl).1)

  -- in an object of this class,
  part_put_field_in : (g : k.Point) (f : FieldRef) (v : Value) (object : ℕ) (class : ClassId) (size : ℕ) → ArePlaces shape f.places → k.Knows g object → KnowsValue k.HasText (k.Knows g) v
      → k.Looked g object class size → Part k g (put_field_in shape f v object class size)
  part_put_field_in g f v object (Plain class) size places known v_known looked = part_put_field_at g class object v size (lookup f.places class) known v_known looked
      (λ p found. (places_there shape f.places class p places.there found, places_of_no_map shape f.places class p places.of_no_map found))
  part_put_field_in g f v object class size places known v_known looked = part_fails k g NoSuchField

  -- or of a value
  part_put_field : (g : k.Point) (f : FieldRef) (x v : Value) → ArePlaces shape f.places → KnowsValue k.HasText (k.Knows g) x → KnowsValue k.HasText (k.Knows g) v → Part k g (put_field shape f x v)
  part_put_field g f x v places known v_known = part_object k g (λ object. looking (v ∷ []) (put_field_in shape f v object) object) x known
      (λ object object_known. part_looking k g (v ∷ []) (put_field_in shape f v object) object object_known
      (λ h more class size looked. part_put_field_in h f v object class size places (more.knows object object_known) (value_later k g h more.knows v v_known) looked))

  -- an element that was found is given a value,
  part_put_element_at : (g : k.Point) (kind : Kind) (object : ℕ) (v : Value) (size : ℕ) (place : Option ℕ) → k.Knows g object → KnowsValue k.HasText (k.Knows g) v
      → k.Looked g object (Array kind) size → ((p : ℕ) → place ≡ Some p → p < size) → Part k g (put_element_at kind object v place)
  part_put_element_at g kind object v size None known v_known looked there = part_fails k g BadIndex
  part_put_element_at g kind object v size (Some place) known v_known looked there = part_put_fitting g object place v (Array kind) size known v_known looked (there place refl) (array_no_map k g object kind size looked)

  -- in an object of this class,
  part_put_element_in : (g : k.Point) (i : ℤ) (v : Value) (object : ℕ) (class : ClassId) (size : ℕ) → k.Knows g object → KnowsValue k.HasText (k.Knows g) v
      → k.Looked g object class size → Part k g (put_element_in i v object class size)
  part_put_element_in g i v object (Array kind) size known v_known looked = part_put_element_at g kind object v size (within i size) known v_known looked (within_below i size)
  part_put_element_in g i v object class size known v_known looked = part_fails k g BadValue

  -- or of a value
  part_put_element : (g : k.Point) (x i v : Value) → KnowsValue k.HasText (k.Knows g) x → KnowsValue k.HasText (k.Knows g) v → Part k g (put_element x i v)
  part_put_element g x (value.Long i) v known v_known = part_object k g (λ object. looking (v ∷ []) (put_element_in i v object) object) x known
      (λ object object_known. part_looking k g (v ∷ []) (put_element_in i v object) object object_known
      (λ h more class size looked. part_put_element_in h i v object class size (more.knows object object_known) (value_later k g h more.knows v v_known) looked))
  part_put_element g x i v known v_known = part_object k g (λ object. Fails BadValue) x known (λ object object_known. part_fails k g BadValue)

  -- a root that isn't bound is given a value,
  part_bind_null : (g : k.Point) (r : ℕ) (v bound : Value) → r < shape.roots → Fits kind.Ref v → KnowsValue k.HasText (k.Knows g) v → Part k g (bind_null r v bound)
  part_bind_null g r v value.Null there fits known = part_tell k g (request.Put 0 r v) refl (λ h more. (k.put_root_asked h r v more.awake (value_later k g h more.knows v known) there fits, inl refl))
  part_bind_null g r v bound there fits known = part_gives k g value.Null tt

  -- under its lock,
  part_bind : (g : k.Point) (r : ℕ) (v : Value) → r < shape.roots → shape.roots ≤ shape.names → Fits kind.Ref v → KnowsValue k.HasText (k.Knows g) v → Part k g (bind r v)
  part_bind g r v there locks fits known = part_under_with k g (v ∷ []) (Name r) grade.Write (λ at. on_value (bind_null r v) (getting (v ∷ []) 0 r at)) tt (omega (arith, there, locks))
      (part_value k g (bind_null r v) (getting (v ∷ []) 0 r) (part_getting k g (v ∷ []) 0 r (λ h more. k.get_root_asked h r more.awake there) (inl refl)) (λ bound h more bound_known. part_bind_null h r v bound there fits (value_later k g h more.knows v known)))

  -- if it takes the value
  part_put_root : (g : k.Point) (r : ℕ) (v : Value) → r < shape.roots → shape.roots ≤ shape.names → KnowsValue k.HasText (k.Knows g) v → Part k g (put_root r v)
  part_put_root g r v there locks known = part_choose k g (takes kind.Ref v) (bind r v) (Fails BadValue) (λ takes_it. part_bind g r v there locks (takes_fits kind.Ref v takes_it) known) (part_fails k g BadValue)

  -- ---- monitors

  -- a part under the monitor of a value
  part_sync : (g : k.Point) (grade : Grade) (m : Meaning) (x : Value) → KnowsValue k.HasText (k.Knows g) x → Part k g m → Part k g (sync grade m x)
  part_sync g grade m x known part = part_object k g (λ object. under (Mon object) grade m) x known (λ object object_known. part_under k g (Mon object) grade m object_known tt part)

  -- a wait for as many ticks as a value says
  part_count : (g : k.Point) (f : ℕ → Meaning) (v : Value) → ((n : ℕ) → Part k g (f n)) → Part k g (on_count f v)
  part_count g f (value.Long (pos n)) part = record { from = λ h u more environment. (part n).from h u more environment }
  part_count g f v part = record { from = λ h u more environment. (part_fails k g BadValue).from h u more environment }

  -- on the monitor of another one
  part_timed_wait : (g : k.Point) (x v : Value) → KnowsValue k.HasText (k.Knows g) x → Part k g (timed_wait x v)
  part_timed_wait g x v known = part_object k g (λ object. on_count (λ n. wait n (Mon object)) v) x known
      (λ object object_known. part_count g (λ n. wait n (Mon object)) v (λ n. part_wait k n g object object_known))

  -- ---- what is run

  -- one way or the other
  part_branch : (g : k.Point) (a b : Meaning) (v : Value) → Part k g a → Part k g b → Part k g (branch a b v)
  part_branch g a b (value.Bool true) part rest = record { from = λ h u more environment. part.from h u more environment }
  part_branch g a b (value.Bool false) part rest = record { from = λ h u more environment. rest.from h u more environment }
  part_branch g a b v part rest = part_fails k g BadValue

  -- a loop after its condition
  part_turn : (g : k.Point) (again body : Meaning) (v : Value) → Part k g again → Part k g body → Part k g (turn again body v)
  part_turn g again body v part rest = part_branch g (λ at. on_value (λ v. again) (body at)) (Gives value.Null) v
      (part_value k g (λ v. again) body rest (λ v h more known. part_later k g h again more part)) (part_gives k g value.Null tt)

  -- a loop whose condition and body keep to what may be asked from every point
  part_spun : (test body : Meaning) → ((g : k.Point) → Part k g test) → ((g : k.Point) → Part k g body) → (turns : ℕ) (g : k.Point) → Part k g (spun test body turns)
  part_spun test body tests bodies zero g = part_stopped k g
  part_spun test body tests bodies (suc turns) g = part_value k g (turn (moving (spun test body turns)) body) test (tests g)
      (λ v h more known. part_turn h (moving (spun test body turns)) body v (part_moving k h (spun test body turns) (part_spun test body tests bodies turns h)) (bodies h))

-- ---- all forms

module _ (c : Code) (k : Keeper c.shape) (ways : MethodMeanings) (methods : Bodies k c ways) (n count : ℕ) (in_method : Bool) where
  -- what the statements may name
  abbrev scope : Scope
  scope = record { code = c; vars = count; in_method = in_method }

  -- a sound expression, and then what is made of its value
  part_of : {a : Expr} → SoundExpr scope a → (f : Value → Meaning) (g : k.Point) → ((v : Value) (h : k.Point) → More k g h → KnowsValue k.HasText (k.Knows h) v → Part k h (f v)) → Part k g (λ at. on_value f (expr c ways a at))
  part_of {a} sound f g then = part_value k g f (expr c ways a) (part_expr c k ways methods count in_method sound g) then

  -- the same, while these values are held
  part_beside : {a : Expr} → SoundExpr scope a → (vs : List Value) (f : Value → Meaning) (g : k.Point) → ((v : Value) (h : k.Point) → More k g h → KnowsValue k.HasText (k.Knows h) v → Part k h (f v)) → Part k g (λ at. on_value f (holding vs (expr c ways a) at))
  part_beside {a} sound vs f g then = part_value k g f (holding vs (expr c ways a)) (part_holding k g vs (expr c ways a) (part_expr c k ways methods count in_method sound g)) then

  -- a part that asks for the monitor of an object keeps to what may be asked
  part_of_monitor : {a : Expr} → SoundExpr scope a → (f : ℕ → Meaning) → ((g : k.Point) (object : ℕ) → k.Knows g object → Part k g (f object)) → (g : k.Point) → Part k g (λ at. on_value (on_object f) (expr c ways a at))
  part_of_monitor sound f then g = part_of sound (on_object f) g (λ v h more known. part_object k h f v known (λ object object_known. then h object object_known))

  mutual
    -- a sound statement
    pub part_stmt : {room : ℕ} {a : Stmt} → SoundStmt scope room a → (g : k.Point) → Part k g (stmt c ways n a)
    part_stmt (SoundStmt.assign {i = i} {a = a} there one) g = part_as k g _ _ (stmt_Assign c ways n i a) (part_of one (assign i) g (λ v h more known. part_assign k h i v known))
    part_stmt (SoundStmt.put_field {a = a} {b = b} {f = f} one places other) g = part_as k g _ _ (stmt_PutField c ways n a f b)
        (part_of one (on_next (put_field c.shape f) (expr c ways b)) g
        (λ x h more known. part_beside other (x ∷ []) (put_field c.shape f x) h (λ v i further v_known. part_put_field k i f x v places (value_later k h i further.knows x known) v_known)))
    part_stmt (SoundStmt.put_element {a = a} {b = b} {c = d} one index other) g = part_as k g _ _ (stmt_PutElem c ways n a b d)
        (part_of one (on_next (λ x. on_next_beside (x ∷ []) (put_element x) (expr c ways d)) (expr c ways b)) g
        (λ x h more known. part_beside index (x ∷ []) (on_next_beside (x ∷ []) (put_element x) (expr c ways d)) h
        (λ at i further at_known. part_beside other (x ∷ at ∷ []) (put_element x at) i
        (λ v j last v_known. part_put_element k j x at v (value_later k i j last.knows x (value_later k h i further.knows x known)) v_known))))
    part_stmt (SoundStmt.put_root {r = r} {a = a} there one) g = part_as k g _ _ (stmt_PutRoot c ways n r a) (part_of one (put_root r) g (λ v h more known. part_put_root k h r v there methods.roots known))
    part_stmt (SoundStmt.evaluate {a = a} one) g = part_as k g _ _ (stmt_Eval c ways n a) (part_expr c k ways methods count in_method one g)
    part_stmt (SoundStmt.conditional {a = a} {all = all} {others = others} one some rest) g = part_as k g _ _ (stmt_If c ways n a all others)
        (part_of one (branch (seq (map (stmt c ways n) all)) (seq (map (stmt c ways n) others))) g (λ v h more known. part_branch k h _ _ v (part_block some h) (part_block rest h)))
    part_stmt (SoundStmt.loop {a = a} {all = all} one some) g = part_as k g _ _ (stmt_While c ways n a all)
        (part_moving k g (spun (expr c ways a) (seq (map (stmt c ways n) all)) n)
        (part_spun k (expr c ways a) (seq (map (stmt c ways n) all)) (part_expr c k ways methods count in_method one) (part_block some) n g))
    part_stmt (SoundStmt.locked {a = a} {grade = grade} {all = all} one some) g = part_as k g _ _ (stmt_Sync c ways n a grade all)
        (part_of one (sync grade (seq (map (stmt c ways n) all))) g (λ x h more known. part_sync k h grade _ x known (part_block some h)))
    part_stmt (SoundStmt.wait {a = a} one) g = part_as k g _ _ (stmt_Wait c ways n a) (part_of_monitor one (λ object. wait 0 (Mon object)) (part_wait k 0) g)
    part_stmt (SoundStmt.timed_wait {a = a} {b = b} one other) g = part_as k g _ _ (stmt_TimedWait c ways n a b)
        (part_of one (on_next timed_wait (expr c ways b)) g (λ x h more known. part_beside other (x ∷ []) (timed_wait x) h (λ v i further v_known. part_timed_wait k i x v (value_later k h i further.knows x known))))
    part_stmt (SoundStmt.notify {a = a} one) g = part_as k g _ _ (stmt_Notify c ways n a) (part_of_monitor one (λ object. tell (request.Notify (Mon object)))
        (λ h object known. part_tell k h (request.Notify (Mon object)) refl (λ i more. (k.notify_asked i object more.awake (more.knows object known), tt))) g)
    part_stmt (SoundStmt.notify_all {a = a} one) g = part_as k g _ _ (stmt_NotifyAll c ways n a) (part_of_monitor one (λ object. tell (request.NotifyAll (Mon object)))
        (λ h object known. part_tell k h (request.NotifyAll (Mon object)) refl (λ i more. (k.notify_all_asked i object more.awake (more.knows object known), tt))) g)
    part_stmt (SoundStmt.print {a = a} one) g = part_as k g _ _ (stmt_Print c ways n a) (part_of one (λ v. tell (request.Print v)) g
        (λ v h more known. part_tell k h (request.Print v) refl (λ i further. (k.print_asked i v further.awake (value_later k h i further.knows v known), tt))))
    part_stmt SoundStmt.leave g = part_as k g _ _ (stmt_Return c ways n None) (part_leaves k g value.Null tt)
    part_stmt (SoundStmt.answer {a = a} one) g = part_as k g _ _ (stmt_Return c ways n (Some a)) (part_of one Leaves g (λ v h more known. part_leaves k h v known))

    -- so each of a block, one after the other
    pub part_block : {room : ℕ} {all : List Stmt} → SoundBlock scope room all → (g : k.Point) → Part k g (seq (map (stmt c ways n) all))
    part_block SoundBlock.done g = part_gives k g value.Null tt
    part_block (SoundBlock.next {a = a} {rest = rest} one others) g = part_value k g (λ v. seq (map (stmt c ways n) rest)) (stmt c ways n a) (part_stmt one g) (λ v h more known. part_block others h)

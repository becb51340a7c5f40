-- Guarded reads and writes: of fields, elements and roots.
use Rattle.std.proofs.Common.{◌≡◌, inl, inr, refl, ℕ, Bool, true, false, cond, eqb, ◌||◌, ◌&&◌, List, [], ◌∷◌, Option, None, Some, subst, sym, ap, ◌∙◌}
use Rattle.std.specs.Prelude.{pos, slice_get}
use Rattle.std.proofs.lemmas.Bool.{eq-eqb, eqb-true}
use Rattle.dso_base.specs.declared.lock.Grade.{Grade}
use Rattle.dso_base.specs.declared.lock.Grade.TheVariants as at_grade
use Rattle.dso_base.specs.declared.lock.LockName.{LockName}
use Rattle.dso_base.specs.declared.lock.LockName.TheVariants.{Mon, Name}
use Rattle.dso_base.specs.declared.request.Fault.TheVariants.{NoSuchField, BadValue, BadIndex}
use Rattle.dso_base.specs.declared.request.Reply.{Reply}
use Rattle.dso_base.specs.declared.request.Reply.TheVariants.{Done, Made, Seen, Val, Local, Refused}
use Rattle.dso_base.specs.declared.request.Request.TheVariants as request
use Rattle.dso_base.specs.declared.shape.FieldShape.{FieldShape}
use Rattle.dso_base.specs.declared.shape.Guard.{Guard}
use Rattle.dso_base.specs.declared.shape.Guard.TheVariants as guard
use Rattle.dso_base.specs.declared.shape.Shape.{Shape}
use Rattle.dso_base.specs.declared.value.ClassId.{ClassId}
use Rattle.dso_base.specs.declared.value.ClassId.TheVariants.{Plain, Array, Roots}
use Rattle.dso_base.specs.declared.value.Kind.{Kind}
use Rattle.dso_base.specs.declared.value.Kind.TheVariants as kind
use Rattle.dso_base.specs.declared.value.Value.{Value}
use Rattle.dso_base.specs.declared.value.Value.TheVariants as value
use Rattle.dso_base.specs.Shape.{guard_of, fields_at, kind_of, lock_of}
use Rattle.dso_machine.specs.declared.tree.FieldRef.{FieldRef}
use Rattle.dso_machine.specs.Calls.{lookup}
use Rattle.dso_machine.specs.Expressions.{field_at, field_in, field_of, within, element_at, element_in, element_of, root}
use Rattle.dso_machine.specs.Outcome.{Gives, Fails, Meaning, on_value, got, seen, getting, get, put, looking, look, under_with}
use Rattle.dso_machine.specs.Statements.{put_field_at, put_field_in, put_field, put_element_at, put_element_in, put_element, bind_null, bind, put_root}
use Rattle.dso_machine.specs.Values.{takes}
use Rattle.dso_lint.specs.Access.{writes, ByGuard}
use Rattle.dso_lint_law.proofs.parts.Views.{View, viewed, shared_read, own_stored, MayCome, Held, Guarded, shared_later, Later, later_itself, later_then, Shared, Covered, Covers, covers_later}
use Rattle.dso_lint_law.proofs.parts.Parts.{Var, Around, StandsAt, Said, Any, SharedIf, Part, part_gives, part_fails, part_value, part_choose, part_ask, part_unwanted, part_tell, part_object}
use Rattle.dso_lint_law.proofs.parts.Locks.{or_right, SaysStill, still_shared, Inside, keeps_under}
use Rattle.dso_lint_law.proofs.parts.Entries.{under_lock, enters_name}

-- the variable is locked around so
abbrev pub Locked : Around → Var → Bool → Type 0
Locked c v write = (grade : Grade) × c.holds v grade × (write ≡ true → writes grade ≡ true)

-- the named lock that is held around is this one, so
abbrev pub Named : Around → Bool → ℕ → Type 0
Named c write n = (grade : Grade) × (c.named ≡ Some (n, grade)) × (write ≡ true → writes grade ≡ true)

-- each class that has the field has a guard that is held around
pub record FieldGuarded (shape : Shape) (c : Around) (v : Var) (f : FieldRef) (write : Bool) : Type 0 where
  pub all : (class place : ℕ) → lookup f.places class ≡ Some place → ByGuard (Locked c v write) (Named c write) (slice_get (fields_at shape class) place)

-- the value has all the holds of the variable
abbrev pub HasHolds : Around → Var → Said
HasHolds c v g x = (grade : Grade) → c.holds v grade → Covers c.quiet g x (writes grade)

pub holds_later : (c : Around) (v : Var) (g h : View) (x : Value) → Later c.quiet g h → HasHolds c v g x → HasHolds c v h x
holds_later c v g h x later has grade there = covers_later c.quiet g h later x (writes grade) (has grade there)

pub weaker_held : (g : View) (l : LockName) (w write : Bool) → (write ≡ true → w ≡ true) → Held g l w → Held g l write
weaker_held g l w write less held = record { hold = held.hold; there = held.there; allows = λ is. held.allows (less is) }

-- a value that a field takes is a reference only where the field's kind is that of references
pub takes_no_reference : (k : Kind) (z : Value) → takes k z ≡ true → (k ≡ kind.Ref → ⊥) → (p : ℕ) → z ≡ value.Ref p → ⊥
takes_no_reference kind.Long z takes_it other p is = cc (sym takes_it ∙ ap (takes kind.Long) is)
takes_no_reference kind.Bool z takes_it other p is = cc (sym takes_it ∙ ap (takes kind.Bool) is)
takes_no_reference kind.Text z takes_it other p is = cc (sym takes_it ∙ ap (takes kind.Text) is)
takes_no_reference kind.Ref z takes_it other p is = other refl

-- reading leaves the locks
pub later_get : (quiet : Type 0) (g : View) (o f : ℕ) (r : Reply) → Later quiet g (viewed (request.Get o f) r g)
later_get quiet g o f (Val v) = record { holds = λ l. refl; class = λ p x is. is; shared = λ p is. grows v p is; own = λ q p is. is }
  where
    grows : (v : Value) (p : ℕ) → g.shared p ≡ true → shared_read o v g.shared p ≡ true
    grows (value.Ref n) p is = or_right (eqb p n && g.shared o) (g.shared p) is
    grows value.Null p is = is
    grows (value.Long n) p is = is
    grows (value.Bool b) p is = is
    grows (value.Text t) p is = is
later_get quiet g o f Done = later_itself quiet g
later_get quiet g o f (Made p) = later_itself quiet g
later_get quiet g o f (Seen class n) = later_itself quiet g
later_get quiet g o f Local = later_itself quiet g
later_get quiet g o f (Refused fault) = later_itself quiet g

-- what is read from a shared object is shared
pub shared_got : (g : View) (o f : ℕ) (v : Value) → g.shared o ≡ true → Shared (viewed (request.Get o f) (Val v) g) v
shared_got g o f (value.Ref n) is = by (eqb n n) (g.shared o) (eq-eqb n n refl) is
  where
    by : (a b : Bool) → a ≡ true → b ≡ true → ((a && b) || g.shared n) ≡ true
    by true true x y = refl
    by false b x y = absurd (cc x)
    by true false x y = absurd (cc y)
shared_got g o f value.Null is = tt
shared_got g o f (value.Long n) is = tt
shared_got g o f (value.Bool b) is = tt
shared_got g o f (value.Text t) is = tt

-- writing what is no reference leaves the objects
own_still : (h : View) (o : ℕ) (x : Value) (p : ℕ) → ((q : ℕ) → x ≡ value.Ref q → ⊥) → h.own p ≡ true → own_stored o x h.own p ≡ true
own_still h o (value.Ref q) p no_ref is = absurd (no_ref q refl)
own_still h o value.Null p no_ref is = is
own_still h o (value.Long n) p no_ref is = is
own_still h o (value.Bool b) p no_ref is = is
own_still h o (value.Text t) p no_ref is = is

pub later_put : (quiet : Type 0) (h : View) (o f : ℕ) (v : Value) (r : Reply) → (quiet → (p : ℕ) → v ≡ value.Ref p → ⊥) → Later quiet h (viewed (request.Put o f v) r h)
later_put quiet h o f v Done unpublished = record { holds = λ l. refl; class = λ p x is. is; shared = λ p is. is; own = λ q p is. own_still h o v p (unpublished q) is }
later_put quiet h o f v (Made p) unpublished = later_itself quiet h
later_put quiet h o f v (Val x) unpublished = later_itself quiet h
later_put quiet h o f v (Seen class n) unpublished = later_itself quiet h
later_put quiet h o f v Local unpublished = later_itself quiet h
later_put quiet h o f v (Refused fault) unpublished = later_itself quiet h

-- an object that is looked at stays of its class
same_class : (h : View) (o : ℕ) (class : ClassId) (b : Bool) (p : ℕ) (x : ClassId) → eqb p o ≡ b → ((other : ClassId) → h.class o ≡ Some other → other ≡ class) → h.class p ≡ Some x → cond b (Some class) (h.class p) ≡ Some x
same_class h o class true p x is sees was = ap Some (sym (sees x (subst (λ q. h.class q ≡ Some x) (eqb-true p o is) was)))
same_class h o class false p x is sees was = was

module _ (shape : Shape) (c : Around) where
  -- an object whose monitor guards the field
  by_own : (g : View) (v : Var) (o : ℕ) (f : ℕ) (class : ClassId) (write : Bool) → g.class o ≡ Some class → guard_of shape class o f ≡ Mon o → HasHolds c v g (value.Ref o) → Locked c v write → Guarded shape g o f write
  by_own g v o f class write seen is has locked = by (has locked.0 locked.1)
    where
      by : Covers c.quiet g (value.Ref o) (writes locked.0) → Guarded shape g o f write
      by covers = at covers.2
        where
          same : covers.0 ≡ o
          same = cc (sym covers.1)

          at : Covered c.quiet g covers.0 (writes locked.0) → Guarded shape g o f write
          at (inl held) = inr (class, seen, subst (λ l. Held g l write) (sym is) (weaker_held g (Mon o) (writes locked.0) write locked.2 (subst (λ p. Held g (Mon p) (writes locked.0)) same held)))
          at (inr own) = inl (subst (λ p. g.own p ≡ true) same own.1)

  -- the named lock that is held around guards it
  by_name : (g : View) (o : ℕ) (f n : ℕ) (class : ClassId) (write : Bool) (this : Value) (vars : List Value) → g.class o ≡ Some class → guard_of shape class o f ≡ Name n → StandsAt shape c g this vars → Named c write n → Guarded shape g o f write
  by_name g o f n class write this vars seen is stands named = inr (class, seen, subst (λ l. Held g l write) (sym is) (weaker_held g (Name n) (writes named.0) write named.2 (stands.named n named.0 named.1)))

  -- a field of an object that the variable holds is guarded
  field_guarded : (g : View) (v : Var) (f : FieldRef) (write : Bool) (o class place : ℕ) (this : Value) (vars : List Value) → FieldGuarded shape c v f write → lookup f.places class ≡ Some place → g.class o ≡ Some (Plain class)
      → HasHolds c v g (value.Ref o) → StandsAt shape c g this vars → Guarded shape g o place write
  field_guarded g v f write o class place this vars guarded found seen has stands = by (slice_get (fields_at shape class) place) refl (guarded.all class place found)
    where
      by : (field : Option FieldShape) → slice_get (fields_at shape class) place ≡ field → ByGuard (Locked c v write) (Named c write) field → Guarded shape g o place write
      by None is locked = by_own g v o place (Plain class) write seen (ap (λ field. lock_of field o) is) has locked
      by (Some field) is rule = chosen field.guard refl rule
        where
          chosen : (x : Guard) → field.guard ≡ x → ByGuard (Locked c v write) (Named c write) (Some (record { kind = field.kind; guard = x })) → Guarded shape g o place write
          chosen guard.Own same locked = by_own g v o place (Plain class) write seen (ap (λ field. lock_of field o) is ∙ ap (λ x. lock_of (Some (record { kind = field.kind; guard = x })) o) same) has locked
          chosen (guard.Name n) same named = by_name g o place n (Plain class) write this vars seen (ap (λ field. lock_of field o) is ∙ ap (λ x. lock_of (Some (record { kind = field.kind; guard = x })) o) same) stands named

  -- ---- requests

  -- a guarded field is read
  pub part_getting : (b : Bool) (g : View) (vs : List Value) (o f : ℕ) → ((h : View) (this : Value) (vars : List Value) → Later c.quiet g h → StandsAt shape c h this vars → Guarded shape h o f false) → (b ≡ true → g.shared o ≡ true) → Part shape c (SharedIf b) g (getting vs o f)
  part_getting b g vs o f guarded shared = part_ask shape c (SharedIf b) g vs (request.Get o f) got guarded (λ h r later comes. later_get c.quiet h o f r) answered
    where
      answered : (h : View) (r : Reply) → Later c.quiet g h → MayCome h (request.Get o f) r → Part shape c (SharedIf b) (viewed (request.Get o f) r h) (got r)
      answered h (Val v) later comes = record {
        from = λ i u further stands. (part_gives shape c (SharedIf b) (viewed (request.Get o f) (Val v) h) v
            (λ j last is. shared_later c.quiet (viewed (request.Get o f) (Val v) h) j last v (shared_got h o f v (later.shared o (shared is))))).from i u further stands;
      }
      answered h r later comes = record { from = λ i u further stands. (part_unwanted shape c (SharedIf b) (viewed (request.Get o f) r h) r).from i u further stands }

  -- a guarded field is written, with no reference where nothing is published
  pub part_put : (g : View) (o f : ℕ) (v : Value) → ((h : View) (this : Value) (vars : List Value) → Later c.quiet g h → StandsAt shape c h this vars → Guarded shape h o f true) → (c.quiet → (p : ℕ) → v ≡ value.Ref p → ⊥) → Part shape c Any g (put o f v)
  part_put g o f v guarded unpublished = part_tell shape c g (request.Put o f v) guarded (λ h r later comes. later_put c.quiet h o f v r unpublished)

  -- an object is looked at, and is then of the class that was seen
  pub part_looking : (P : Said) (g : View) (vs : List Value) (f : ClassId → ℕ → Meaning) (o : ℕ) → ((h : View) → Later c.quiet g h → (class : ClassId) (size : ℕ) → h.class o ≡ Some class → Part shape c P h (f class size)) → Part shape c P g (looking vs f o)
  part_looking P g vs f o part = part_ask shape c P g vs (request.Look o) (seen f) (λ h this vars later stands. tt) kept answered
    where
      kept : (h : View) (r : Reply) → Later c.quiet g h → MayCome h (request.Look o) r → Later c.quiet h (viewed (request.Look o) r h)
      kept h (Seen class n) later comes = record { holds = λ l. refl; class = λ p x is. same_class h o class (eqb p o) p x refl comes.sees is; shared = λ p is. is; own = λ q p is. is }
      kept h r later comes = absurd comes.listed

      now : (h : View) (class : ClassId) → cond (eqb o o) (Some class) (h.class o) ≡ Some class
      now h class = ap (λ b. cond b (Some class) (h.class o)) (eq-eqb o o refl)

      answered : (h : View) (r : Reply) → Later c.quiet g h → MayCome h (request.Look o) r → Part shape c P (viewed (request.Look o) r h) (seen f r)
      answered h (Seen class n) later comes = record {
        from = λ i u further stands. (part (viewed (request.Look o) (Seen class n) h)
            (later_then c.quiet g h _ later (kept h (Seen class n) later comes)) class n (now h class)).from i u further stands;
      }
      answered h r later comes = absurd comes.listed

  -- ---- fields

  -- a field of a variable's object is read
  pub part_field : (b : Bool) (g : View) (v : Var) (f : FieldRef) (x : Value) → FieldGuarded shape c v f false → HasHolds c v g x → SharedIf b g x → Part shape c (SharedIf b) g (field_of f x)
  part_field b g v f x guarded has said = part_object shape c (SharedIf b) g (λ o. look (field_in f o) o) x (λ o is. part_looking (SharedIf b) g [] (field_in f o) o
      (λ h later class size seen_class. in_class h o (λ grade there. subst (λ y. Covers c.quiet h y (writes grade)) is (covers_later c.quiet g h later x (writes grade) (has grade there)))
      (λ t. later.shared o (subst (Shared g) is (said t))) class size seen_class))
    where
      at_place : (h : View) (o : ℕ) (class : ℕ) (place : Option ℕ) → lookup f.places class ≡ place → HasHolds c v h (value.Ref o) → (b ≡ true → h.shared o ≡ true) → h.class o ≡ Some (Plain class) → Part shape c (SharedIf b) h (field_at o place)
      at_place h o class None found has_now shared seen_class = part_fails shape c (SharedIf b) h NoSuchField
      at_place h o class (Some place) found has_now shared seen_class = part_getting b h [] o place
          (λ i this vars later stands. field_guarded i v f false o class place this vars guarded found (later.class o (Plain class) seen_class) (holds_later c v h i (value.Ref o) later has_now) stands) shared

      in_class : (h : View) (o : ℕ) → HasHolds c v h (value.Ref o) → (b ≡ true → h.shared o ≡ true) → (class : ClassId) (size : ℕ) → h.class o ≡ Some class → Part shape c (SharedIf b) h (field_in f o class size)
      in_class h o has_now shared (Plain class) size seen_class = at_place h o class (lookup f.places class) refl has_now shared seen_class
      in_class h o has_now shared (Array k) size seen_class = part_choose shape c (SharedIf b) h f.length (Gives (value.Long (pos size))) (Fails NoSuchField) (λ is. part_gives shape c (SharedIf b) h (value.Long (pos size)) (λ i later t. tt)) (part_fails shape c (SharedIf b) h NoSuchField)
      in_class h o has_now shared Roots size seen_class = part_fails shape c (SharedIf b) h NoSuchField

  -- a field of a variable's object is written; where nothing is published it isn't one of kind ref
  pub part_put_field : (g : View) (v : Var) (f : FieldRef) (x y : Value) → FieldGuarded shape c v f true → (c.quiet → (class place : ℕ) → lookup f.places class ≡ Some place → kind_of shape (Plain class) place ≡ kind.Ref → ⊥)
      → HasHolds c v g x → Part shape c Any g (put_field shape f x y)
  part_put_field g v f x y guarded unpublished has = part_object shape c Any g (λ o. looking (y ∷ []) (put_field_in shape f y o) o) x (λ o is. part_looking Any g (y ∷ []) (put_field_in shape f y o) o
      (λ h later class size seen_class. in_class h o (λ grade there. subst (λ z. Covers c.quiet h z (writes grade)) is (covers_later c.quiet g h later x (writes grade) (has grade there))) class size seen_class))
    where
      at_place : (h : View) (o : ℕ) (class : ℕ) (place : Option ℕ) → lookup f.places class ≡ place → HasHolds c v h (value.Ref o) → h.class o ≡ Some (Plain class) → Part shape c Any h (put_field_at shape class o y place)
      at_place h o class None found has_now seen_class = part_fails shape c Any h NoSuchField
      at_place h o class (Some place) found has_now seen_class = part_choose shape c Any h (takes (kind_of shape (Plain class) place) y) (put o place y) (Fails BadValue)
          (λ takes_it. part_put h o place y
          (λ i this vars later stands. field_guarded i v f true o class place this vars guarded found (later.class o (Plain class) seen_class) (holds_later c v h i (value.Ref o) later has_now) stands)
          (λ quiet. takes_no_reference (kind_of shape (Plain class) place) y takes_it (unpublished quiet class place found)))
          (part_fails shape c Any h BadValue)

      in_class : (h : View) (o : ℕ) → HasHolds c v h (value.Ref o) → (class : ClassId) (size : ℕ) → h.class o ≡ Some class → Part shape c Any h (put_field_in shape f y o class size)
      in_class h o has_now (Plain class) size seen_class = at_place h o class (lookup f.places class) refl has_now seen_class
      in_class h o has_now (Array k) size seen_class = part_fails shape c Any h NoSuchField
      in_class h o has_now Roots size seen_class = part_fails shape c Any h NoSuchField

  -- ---- elements

  -- an element of a variable's array is guarded
  element_guarded : (g : View) (v : Var) (write : Bool) (o : ℕ) (k : Kind) (place : ℕ) → Locked c v write → g.class o ≡ Some (Array k) → HasHolds c v g (value.Ref o) → Guarded shape g o place write
  element_guarded g v write o k place locked seen_class has = by_own g v o place (Array k) write seen_class refl has locked

  -- an element of a variable's array is read
  pub part_element : (b : Bool) (g : View) (v : Var) (x i : Value) → Locked c v false → HasHolds c v g x → SharedIf b g x → Part shape c (SharedIf b) g (element_of x i)
  part_element b g v x (value.Long n) locked has said = part_object shape c (SharedIf b) g (λ o. look (element_in n o) o) x (λ o is. part_looking (SharedIf b) g [] (element_in n o) o
      (λ h later class size seen_class. in_class h o (λ grade there. subst (λ y. Covers c.quiet h y (writes grade)) is (covers_later c.quiet g h later x (writes grade) (has grade there)))
      (λ t. later.shared o (subst (Shared g) is (said t))) class size seen_class))
    where
      at_place : (h : View) (o : ℕ) (k : Kind) (place : Option ℕ) → HasHolds c v h (value.Ref o) → (b ≡ true → h.shared o ≡ true) → h.class o ≡ Some (Array k) → Part shape c (SharedIf b) h (element_at o place)
      at_place h o k None has_now shared seen_class = part_fails shape c (SharedIf b) h BadIndex
      at_place h o k (Some place) has_now shared seen_class = part_getting b h [] o place
          (λ j this vars later stands. element_guarded j v false o k place locked (later.class o (Array k) seen_class) (holds_later c v h j (value.Ref o) later has_now)) shared

      in_class : (h : View) (o : ℕ) → HasHolds c v h (value.Ref o) → (b ≡ true → h.shared o ≡ true) → (class : ClassId) (size : ℕ) → h.class o ≡ Some class → Part shape c (SharedIf b) h (element_in n o class size)
      in_class h o has_now shared (Array k) size seen_class = at_place h o k (within n size) has_now shared seen_class
      in_class h o has_now shared (Plain class) size seen_class = part_fails shape c (SharedIf b) h BadValue
      in_class h o has_now shared Roots size seen_class = part_fails shape c (SharedIf b) h BadValue
  part_element b g v x i locked has said = part_object shape c (SharedIf b) g (λ o. Fails BadValue) x (λ o is. part_fails shape c (SharedIf b) g BadValue)

  -- an element of a variable's array is written, where something may be published
  pub part_put_element : (g : View) (v : Var) (x i y : Value) → Locked c v true → (c.quiet → ⊥) → HasHolds c v g x → Part shape c Any g (put_element x i y)
  part_put_element g v x (value.Long n) y locked loud has = part_object shape c Any g (λ o. looking (y ∷ []) (put_element_in n y o) o) x (λ o is. part_looking Any g (y ∷ []) (put_element_in n y o) o
      (λ h later class size seen_class. in_class h o (λ grade there. subst (λ z. Covers c.quiet h z (writes grade)) is (covers_later c.quiet g h later x (writes grade) (has grade there))) class size seen_class))
    where
      at_place : (h : View) (o : ℕ) (k : Kind) (place : Option ℕ) → HasHolds c v h (value.Ref o) → h.class o ≡ Some (Array k) → Part shape c Any h (put_element_at k o y place)
      at_place h o k None has_now seen_class = part_fails shape c Any h BadIndex
      at_place h o k (Some place) has_now seen_class = part_choose shape c Any h (takes k y) (put o place y) (Fails BadValue)
          (λ takes_it. part_put h o place y
          (λ j this vars later stands. element_guarded j v true o k place locked (later.class o (Array k) seen_class) (holds_later c v h j (value.Ref o) later has_now))
          (λ quiet. absurd (loud quiet)))
          (part_fails shape c Any h BadValue)

      in_class : (h : View) (o : ℕ) → HasHolds c v h (value.Ref o) → (class : ClassId) (size : ℕ) → h.class o ≡ Some class → Part shape c Any h (put_element_in n y o class size)
      in_class h o has_now (Array k) size seen_class = at_place h o k (within n size) has_now seen_class
      in_class h o has_now (Plain class) size seen_class = part_fails shape c Any h BadValue
      in_class h o has_now Roots size seen_class = part_fails shape c Any h BadValue
  part_put_element g v x i y locked loud has = part_object shape c Any g (λ o. Fails BadValue) x (λ o is. part_fails shape c Any g BadValue)

-- ---- named locks and roots

-- what is said of a value by a test stays said
pub shared_if_still : (b : Bool) → SaysStill (SharedIf b) (SharedIf b)
shared_if_still b h i v more said is = still_shared h i v more (said is)

pub any_still : SaysStill Any Any
any_still h i v more said = tt

-- the other names that may be wanted at Write
abbrev pub Others : Around → ℕ → ℕ → Type 0
Others c n k = (k ≡ n → ⊥) × c.names k

module _ (shape : Shape) (c : Around) where
  -- a part under a named lock
  pub part_under_lock : (P : Said) → SaysStill P P → (g : View) (vs : List Value) (n : ℕ) (grade : Grade) (names : ℕ → Type 0) → (writes grade ≡ true → c.names n) → ((k : ℕ) → names k → c.names k) → (names n → writes grade ≡ true) → (m : Meaning)
      → ((i : View) → Part shape (under_lock c n grade names) P i m) → Part shape c P g (under_with vs (Name n) grade m)
  part_under_lock P stays g vs n grade names may fewer only_writes m part = record {
    from = λ h u later stands. keeps_under shape c d d within within P P stays vs h u stands (Name n) grade m (enters_name shape c h u.environment stands n grade may names fewer only_writes) (part _) (part _);
  }
    where
      d : Around
      d = under_lock c n grade names

      within : Inside c d
      within = record { clean = λ v is. is; holds = λ v x there. there; quiet = λ q. q }

  -- a root's field is guarded under its lock
  root_guarded : (r : ℕ) (grade : Grade) (write : Bool) → (write ≡ true → writes grade ≡ true) → (h : View) (this : Value) (vars : List Value) → StandsAt shape (under_lock c r grade (Others c r)) h this vars → Guarded shape h 0 r write
  root_guarded r grade write less h this vars stands = inr (Roots, stands.roots.class, weaker_held h (Name r) (writes grade) write less (stands.named r grade refl))

  -- a root is read: what it holds is shared
  pub part_root : (g : View) (r : ℕ) → Part shape c (SharedIf true) g (root r)
  part_root g r = part_under_lock (SharedIf true) (shared_if_still true) g [] r at_grade.Read (Others c r) (λ w. absurd (cc w)) (λ k other. other.1) (λ other. absurd (other.0 refl)) (get 0 r)
      (λ i. record {
        from = λ h u later stands. (part_getting shape (under_lock c r at_grade.Read (Others c r)) true h [] 0 r (λ j this vars further standing. root_guarded r at_grade.Read false (λ w. absurd (cc w)) j this vars standing) (λ t. stands.roots.shared)).from
            h u (later_itself c.quiet h) stands;
      })

  -- a root is bound, where something may be published
  part_bind_null : (d : Around) (g : View) (r : ℕ) (v bound : Value) → ((h : View) (this : Value) (vars : List Value) → StandsAt shape d h this vars → Guarded shape h 0 r true) → (d.quiet → ⊥) → Part shape d Any g (bind_null r v bound)
  part_bind_null d g r v value.Null guarded loud = part_put shape d g 0 r v (λ h this vars later stands. guarded h this vars stands) (λ quiet. absurd (loud quiet))
  part_bind_null d g r v (value.Ref o) guarded loud = part_gives shape d Any g value.Null (λ h later. tt)
  part_bind_null d g r v (value.Long n) guarded loud = part_gives shape d Any g value.Null (λ h later. tt)
  part_bind_null d g r v (value.Bool b) guarded loud = part_gives shape d Any g value.Null (λ h later. tt)
  part_bind_null d g r v (value.Text t) guarded loud = part_gives shape d Any g value.Null (λ h later. tt)

  part_bind : (g : View) (r : ℕ) (v : Value) → c.names r → (c.quiet → ⊥) → Part shape c Any g (bind r v)
  part_bind g r v may loud = part_under_lock Any any_still g (v ∷ []) r at_grade.Write (Others c r) (λ w. may) (λ k other. other.1) (λ other. refl) (λ at. on_value (bind_null r v) (getting (v ∷ []) 0 r at))
      (λ i. part_value shape d (SharedIf false) Any i (bind_null r v) (getting (v ∷ []) 0 r)
      (part_getting shape d false i (v ∷ []) 0 r (λ j this vars further standing. root_guarded r at_grade.Write false (λ w. refl) j this vars standing) (λ t. absurd (cc t)))
      (λ bound h later said. part_bind_null d h r v bound (root_guarded r at_grade.Write true (λ w. refl)) loud))
    where
      d : Around
      d = under_lock c r at_grade.Write (Others c r)

  pub part_put_root : (g : View) (r : ℕ) (v : Value) → c.names r → (c.quiet → ⊥) → Part shape c Any g (put_root r v)
  part_put_root g r v may loud = part_choose shape c Any g (takes kind.Ref v) (bind r v) (Fails BadValue) (λ takes_it. part_bind g r v may loud) (part_fails shape c Any g BadValue)

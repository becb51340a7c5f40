-- Statements of bodies that keep the rules are safe.
use Rattle.std.proofs.Common.{◌≡◌, ◌⊎◌, inl, inr, refl, ℕ, zero, suc, Bool, true, List, [], ◌∷◌, map, None, Some, subst, sym, ap, ◌∙◌}
use Rattle.std.specs.Prelude.{Contains, slice_index_or, slice_set}
use Rattle.dso_base.specs.declared.lock.Grade.{Grade}
use Rattle.dso_base.specs.declared.lock.LockName.TheVariants.{Mon}
use Rattle.dso_base.specs.declared.request.Fault.TheVariants.{BadValue, NullPointer}
use Rattle.dso_base.specs.declared.request.Request.TheVariants as request
use Rattle.dso_base.specs.declared.shape.Shape.{Shape}
use Rattle.dso_base.specs.declared.value.ClassId.TheVariants.{Plain}
use Rattle.dso_base.specs.declared.value.Kind.TheVariants as kind
use Rattle.dso_base.specs.declared.value.Value.{Value}
use Rattle.dso_base.specs.declared.value.Value.TheVariants as value
use Rattle.dso_base.specs.Shape.{kind_of}
use Rattle.dso_machine.specs.declared.code.Code.{Code}
use Rattle.dso_machine.specs.declared.tree.Expr.{Expr}
use Rattle.dso_machine.specs.declared.tree.Expr.TheVariants as x
use Rattle.dso_machine.specs.declared.tree.FieldRef.{FieldRef}
use Rattle.dso_machine.specs.declared.tree.Stmt.{Stmt}
use Rattle.dso_machine.specs.declared.tree.Stmt.TheVariants as s
use Rattle.dso_machine.specs.Calls.{MethodMeanings, lookup}
use Rattle.dso_machine.specs.Expressions.{expr}
use Rattle.dso_machine.specs.Outcome.{Environment, State, Leaves, Fails, Meaning, on_value, on_next, on_next_beside, on_object, holding, tell, under}
use Rattle.dso_machine.specs.Sound.{Scope, SoundExpr, SoundStmt, SoundBlock, IsSoundCode}
use Rattle.dso_machine.specs.Statements.{assign, put_field, put_element, put_root, sync, wait, timed_wait, seq, branch, spun, stmt}
use Rattle.dso_machine.specs.Unwinding.{with_replies}
use Rattle.dso_machine.proofs.forms.Equations.{expr_Var, expr_This}
use Rattle.dso_machine.proofs.forms.Equations.{stmt_Assign, stmt_PutField, stmt_PutElem, stmt_PutRoot, stmt_Eval, stmt_If, stmt_While, stmt_Sync, stmt_Wait, stmt_TimedWait, stmt_Notify, stmt_NotifyAll, stmt_Print, stmt_Return}
use Rattle.dso_lint.specs.declared.answer.Place.{Place}
use Rattle.dso_lint.specs.Routines.{Routine, IsAt}
use Rattle.dso_lint.specs.Sites.{Site}
use Rattle.dso_lint.specs.Trees.{evaluated}
use Rattle.dso_lint.specs.Clean.{Choice, KeepsRules, is_clean}
use Rattle.dso_lint.specs.Access.{writes, IsLocked, IsGuarded, Makes}
use Rattle.dso_lint.specs.Upgrades.{MayWriteMonitor, NeverUpgrades}
use Rattle.dso_lint.specs.Verdict.{Passes}
use Rattle.dso_lint.proofs.standing.Trees.{head_there, later_there}
use Rattle.dso_lint.proofs.standing.Trees.{does_Assign, does_PutField, does_PutElem, does_PutRoot, does_Eval, does_If, does_While, does_Sync, does_Wait, does_TimedWait, does_Notify, does_NotifyAll, does_Print, does_Return}
use Rattle.dso_lint_law.proofs.parts.Views.{View, later_itself, later_then, Shared, shared_later, Covers}
use Rattle.dso_lint_law.proofs.parts.Parts.{Obeys, Var, value_in, value_of, Around, Stands, StandsAt, Any, SharedIf, Fine, Part, part_weaker, part_value, part_holding, part_gives, part_leaves, part_tell, part_object, part_moving}
use Rattle.dso_lint_law.proofs.parts.Locks.{Inside, Enters, keeps_under}
use Rattle.dso_lint_law.proofs.parts.Entries.{enters_monitor}
use Rattle.dso_lint_law.proofs.parts.Accesses.{FieldGuarded, holds_later, any_still, Locked, part_put_field, part_put_element, part_put_root}
use Rattle.dso_lint_law.proofs.parts.Waits.{part_wait, part_timed_wait}
use Rattle.dso_lint_law.proofs.bodies.Rules.{expr_of, variable_of, contains_found, monitors_more, HeldBy, QuietBy, around, site_of, holds_in_block, locked_around, field_around, unassigned}
use Rattle.dso_lint_law.proofs.bodies.Methods.{not_false}
use Rattle.dso_lint_law.proofs.bodies.Placed.{Placed, PlacedOne, placed_first, placed_rest, one_in_body, one_in_site, one_in_block, placed_all, placed_others, placed_loop, placed_locked, site_in_block, in_own}
use Rattle.dso_lint_law.proofs.bodies.Calls.{Bodies}
use Rattle.dso_lint_law.proofs.bodies.Bodies.{part_as, part_branch, part_spun, Of, part_var, guarded, part_expr}

-- two variables that are one expression are one
one_var : (v w : Var) → expr_of v ≡ expr_of w → w ≡ v
one_var Var.This Var.This is = refl
one_var (Var.Numbered i) (Var.Numbered k) is =
    let same : i ≡ k = cc is in
    ap Var.Numbered (sym same)
one_var Var.This (Var.Numbered k) is = absurd (cc is)
one_var (Var.Numbered i) Var.This is = absurd (cc is)

-- a sound expression is a variable or none
abbrev IsVarOrNone : Expr → Type 0
IsVarOrNone e = ((v : Var) × (e ≡ expr_of v)) ⊎ ((w : Var) → e ≡ expr_of w → ⊥)

no_var : (e : Expr) → (e ≡ x.This → ⊥) → ((i : ℕ) → e ≡ x.Var i → ⊥) → (w : Var) → e ≡ expr_of w → ⊥
no_var e no_this none Var.This is = no_this is
no_var e no_this none (Var.Numbered i) is = none i is

var_or_none : (scope : Scope) {e : Expr} → SoundExpr scope e → IsVarOrNone e
var_or_none scope (SoundExpr.variable {i = i} there) = inl (Var.Numbered i, refl)
var_or_none scope (SoundExpr.this there) = inl (Var.This, refl)
var_or_none scope (SoundExpr.constant {v = v} literal) = inr (no_var (x.Const v) (λ is. cc is) (λ i is. cc is))
var_or_none scope (SoundExpr.root {r = r} there) = inr (no_var (x.Root r) (λ is. cc is) (λ i is. cc is))
var_or_none scope (SoundExpr.field {a = a} {f = f} inner places) = inr (no_var (x.Field a f) (λ is. cc is) (λ i is. cc is))
var_or_none scope (SoundExpr.element {a = a} {b = b} inner index) = inr (no_var (x.Elem a b) (λ is. cc is) (λ i is. cc is))
var_or_none scope (SoundExpr.call {a = a} {callees = callees} {args = args} inner are rest) = inr (no_var (x.Call a callees args) (λ is. cc is) (λ i is. cc is))
var_or_none scope (SoundExpr.object {c = class} there) = inr (no_var (x.NewObject class) (λ is. cc is) (λ i is. cc is))
var_or_none scope (SoundExpr.array {k = k} {a = a} inner) = inr (no_var (x.NewArray k a) (λ is. cc is) (λ i is. cc is))
var_or_none scope (SoundExpr.unary {o = o} {a = a} is inner) = inr (no_var (x.Unary o a) (λ is. cc is) (λ i is. cc is))
var_or_none scope (SoundExpr.binary {o = o} {a = a} {b = b} is inner other) = inr (no_var (x.Binary o a b) (λ is. cc is) (λ i is. cc is))

-- ---- variables

module _ (shape : Shape) (c : Around) where
  -- a variable is given a value
  part_assign : (b : Bool) (i : ℕ) (y : Value) (g : View) → (c.clean (Var.Numbered i) ≡ true → b ≡ true) → ((grade : Grade) → c.holds (Var.Numbered i) grade → ⊥) → SharedIf b g y → Part shape c Any g (assign i y)
  part_assign b i y g clean unlocked said = record {
    from = λ h u later stands. Obeys.ends (assign i y u) (λ rs. refl) (
      later_itself c.quiet h,
      tt,
      record {
        this_is = stands.this_is;
        clean = λ v is. cleans h u.environment.this u.environment.vars v is stands (λ t. shared_later c.quiet g h later y (said t));
        holds = λ v grade there. subst (λ z. Covers c.quiet h z (writes grade)) (sym (same u.environment.this u.environment.vars v grade there)) (stands.holds v grade there);
        named = stands.named;
        free = stands.free;
        roots = stands.roots;
      },
      record { same_this = refl; same = same u.environment.this u.environment.vars },
    );
  }
    where
      at_set : (vs : List Value) (i k : ℕ) (P : Value → Type 0) → (k ≡ i → P y) → P (slice_index_or vs k value.Null) → P (slice_index_or (slice_set vs i y) k value.Null)
      at_set [] i k P now was = was
      at_set (v ∷ vs) zero zero P now was = now refl
      at_set (v ∷ vs) zero (suc k) P now was = was
      at_set (v ∷ vs) (suc i) zero P now was = was
      at_set (v ∷ vs) (suc i) (suc k) P now was = at_set vs i k P (λ e. now (ap suc e)) was

      cleans : (h : View) (this : Value) (vars : List Value) (v : Var) → c.clean v ≡ true → StandsAt shape c h this vars → (b ≡ true → Shared h y) → Shared h (value_in this (slice_set vars i y) v)
      cleans h this vars Var.This is stands now = stands.clean Var.This is
      cleans h this vars (Var.Numbered k) is stands now = at_set vars i k (Shared h) (λ e. now (clean (subst (λ z. c.clean (Var.Numbered z) ≡ true) e is))) (stands.clean (Var.Numbered k) is)

      same : (this : Value) (vars : List Value) (v : Var) (grade : Grade) → c.holds v grade → value_in this (slice_set vars i y) v ≡ value_in this vars v
      same this vars Var.This grade there = refl
      same this vars (Var.Numbered k) grade there = at_set vars i k (λ z. z ≡ slice_index_or vars k value.Null) (λ e. absurd (unlocked grade (subst (λ z. c.holds (Var.Numbered z) grade) e there))) refl

-- ---- all forms

module _ (code : Code) (sound : IsSoundCode code) (choice : Choice) (rules : KeepsRules code choice) (passes : (at : Place) → Passes code choice at) (ways : MethodMeanings) (bodies : Bodies code choice rules passes ways) (n : ℕ)
    (at : Place) (body : Routine) (is_at : IsAt code at body) (this : Value → Type 0) (count : ℕ) (in_method : Bool) where
  abbrev shape : Shape
  shape = code.shape

  abbrev scope : Scope
  scope = record { code = code; vars = count; in_method = in_method }

  abbrev around_at : List Site → List Stmt → Around
  around_at sites block = around code choice at body this sites block

  never : NeverUpgrades code body
  never = (passes at).upgrade body is_at

  -- an expression of a statement is safe
  safe : {sites : List Site} {block : List Stmt} {a : Stmt} {e : Expr} (one : PlacedOne body sites block a) (list : List Expr) → SoundExpr scope e → evaluated a ≡ list → Contains list e → (g : View)
      → Part shape (around_at sites block) (SharedIf (is_clean (choice at) e)) g (expr code ways e)
  safe {sites} {block} {a} {e} one list fine is there g = part_expr code sound choice rules passes ways bodies at body is_at this count in_method sites block a one fine (in_own a e list is there) g

  safe_any : {sites : List Site} {block : List Stmt} {a : Stmt} {e : Expr} (one : PlacedOne body sites block a) (list : List Expr) → SoundExpr scope e → evaluated a ≡ list → Contains list e → (g : View)
      → Part shape (around_at sites block) Any g (expr code ways e)
  safe_any {sites} {block} {a} {e} one list fine is there g = part_weaker shape (around_at sites block) (SharedIf (is_clean (choice at) e)) Any g (expr code ways e) (λ h v said. tt) (safe one list fine is there g)

  -- ---- sites

  module _ (sites : List Site) (block : List Stmt) (e : Expr) (grade : Grade) (all : List Stmt) (one : PlacedOne body sites block (s.Sync e grade all)) (m : Meaning)
      (part : (g : View) → Part shape (around_at (site_of code choice at body e grade all ∷ sites) all) Any g m) where
    abbrev c : Around
    c = around_at sites block

    abbrev new : Site
    new = site_of code choice at body e grade all

    abbrev d : Around
    d = around_at (new ∷ sites) all

    within : Inside c d
    within = record {
      clean = λ v is. is;
      holds = λ v y held. record { site = held.site; there = later_there new sites held.site held.there; holds = held.holds; at_grade = held.at_grade };
      quiet = λ q. record { site = q.site; there = later_there new sites q.site q.there; quiet = q.quiet };
    }

    -- the entry of an object's monitor, which the locked variable, if it is one, holds
    entry : (h : View) (a : Environment) → Stands shape c h a → (o : ℕ) → ((w : Var) → e ≡ expr_of w → value_of a w ≡ value.Ref o) → Enters shape d d h a (Mon o) grade
    entry h a stands o locks = enters_monitor shape c h a stands o grade (QuietBy code choice at body (new ∷ sites)) (MayWriteMonitor code all) (HeldBy code choice at body (new ∷ sites))
        (holds_in_block code choice at body this e grade all sites block a o locks)
        (λ w. inl (record { lock = e; grade = grade; all = all; stands = one_in_block one; allows = w }))
        (monitors_more code all block (site_in_block e grade all one))
        (λ may. not_false (writes grade) (λ reads. never.statements e grade all (one_in_body one) reads may))

    -- under the monitor of an object
    keeps_site : (h : View) (u : State) → Stands shape c h u.environment → (o : ℕ) → ((w : Var) → e ≡ expr_of w → value_of u.environment w ≡ value.Ref o) → Obeys shape (Fine shape c Any h u.environment) h (λ rs. under (Mon o) grade m (with_replies rs u))
    keeps_site h u stands o locks = keeps_under shape c d d within within Any Any any_still [] h u stands (Mon o) grade m (entry h u.environment stands o locks) (part _) (part _)

    -- a variable is locked
    module _ (v : Var) (is : e ≡ expr_of v) where
      read : (w : Var) → ◌≡◌ {A = Meaning} (λ u. on_value (sync grade m) (expr code ways (expr_of w) u)) (λ u. sync grade m (value_of u.environment w) u)
      read Var.This = λ i u. on_value (sync grade m) (expr_This code ways i u)
      read (Var.Numbered k) = λ i u. on_value (sync grade m) (expr_Var code ways k i u)

      by_value : (h : View) (u : State) → Stands shape c h u.environment → (y : Value) → value_of u.environment v ≡ y → Obeys shape (Fine shape c Any h u.environment) h (λ rs. sync grade m y (with_replies rs u))
      by_value h u stands (value.Ref o) at_v = keeps_site h u stands o (λ w locked. ap (value_of u.environment) (one_var v w (sym is ∙ locked)) ∙ at_v)
      by_value h u stands value.Null at_v = Obeys.ends (Fails NullPointer u) (λ rs. refl) (later_itself c.quiet h)
      by_value h u stands (value.Long k) at_v = Obeys.ends (Fails BadValue u) (λ rs. refl) (later_itself c.quiet h)
      by_value h u stands (value.Bool k) at_v = Obeys.ends (Fails BadValue u) (λ rs. refl) (later_itself c.quiet h)
      by_value h u stands (value.Text k) at_v = Obeys.ends (Fails BadValue u) (λ rs. refl) (later_itself c.quiet h)

      part_sync_var : (g : View) → Part shape c Any g (λ u. on_value (sync grade m) (expr code ways (expr_of v) u))
      part_sync_var g = part_as shape c Any g _ _ (read v) (record { from = λ h u later stands. by_value h u stands (value_of u.environment v) refl })

    -- what is locked is no variable
    part_sync_other : ((w : Var) → e ≡ expr_of w → ⊥) → SoundExpr scope e → (g : View) → Part shape c Any g (λ u. on_value (sync grade m) (expr code ways e u))
    part_sync_other none fine g = part_value shape c Any Any g (sync grade m) (expr code ways e) (safe_any one (e ∷ []) fine (does_Sync e grade all) (head_there e []) g)
        (λ v h later said. part_object shape c Any h (λ o. under (Mon o) grade m) v (λ o is. record { from = λ i u further stands. keeps_site i u stands o (λ w locked. absurd (none w locked)) }))

    part_site : IsVarOrNone e → SoundExpr scope e → (g : View) → Part shape c Any g (λ u. on_value (sync grade m) (expr code ways e u))
    part_site (inl (v, is)) fine g = subst (λ y. Part shape c Any g (λ u. on_value (sync grade m) (expr code ways y u))) (sym is) (part_sync_var v is g)
    part_site (inr none) fine g = part_sync_other none fine g

  -- ---- writes

  module _ (sites : List Site) (block : List Stmt) where
    abbrev around_here : Around
    around_here = around_at sites block

    -- a field of a variable is written
    part_written : (e d : Expr) (f : FieldRef) (one : PlacedOne body sites block (s.PutField e f d)) (v : Var) → e ≡ expr_of v → ((g : View) → Part shape around_here Any g (expr code ways d)) → (g : View) → Part shape around_here Any g (stmt code ways n (s.PutField e f d))
    part_written e d f one v is value_part g = part_as shape around_here Any g _ _ (stmt_PutField code ways n e f d)
        (part_value shape around_here (Of around_here v) Any g (on_next (put_field shape f) (expr code ways d)) (expr code ways e) (subst (λ y. Part shape around_here (Of around_here v) g (expr code ways y)) (sym is) (part_var code ways around_here v g))
        (λ y h later said. part_value shape around_here Any Any h (put_field shape f y) (holding (y ∷ []) (expr code ways d)) (part_holding shape around_here Any h (y ∷ []) (expr code ways d) (value_part h))
        (λ z i further any. part_put_field shape around_here i v f y z fields unpublished (holds_later around_here v h i y further said.1))))
      where
        fields : FieldGuarded shape around_here v f true
        fields = field_around code choice at body this v f sites block true
            (subst (λ y. IsGuarded shape (choice at) body.named y (Some f) true sites) is (guarded code sound choice rules passes ways bodies at body is_at this count in_method sites block (s.PutField e f d) one (record { object = e; field = Some f; write = true }) (Makes.writes_field e f d)))

        unpublished : QuietBy code choice at body sites → (class place : ℕ) → lookup f.places class ≡ Some place → kind_of shape (Plain class) place ≡ kind.Ref → ⊥
        unpublished q class place found ref = q.quiet.no_reference e d f (one_in_site one q.site q.there) ((class, place), contains_found f.places class place found, ref)

    -- an element of one
    part_set : (e i d : Expr) (one : PlacedOne body sites block (s.PutElem e i d)) (v : Var) → e ≡ expr_of v → ((g : View) → Part shape around_here Any g (expr code ways i)) → ((g : View) → Part shape around_here Any g (expr code ways d))
        → (g : View) → Part shape around_here Any g (stmt code ways n (s.PutElem e i d))
    part_set e i d one v is index_part value_part g = part_as shape around_here Any g _ _ (stmt_PutElem code ways n e i d)
        (part_value shape around_here (Of around_here v) Any g (on_next (λ x. on_next_beside (x ∷ []) (put_element x) (expr code ways d)) (expr code ways i)) (expr code ways e)
        (subst (λ y. Part shape around_here (Of around_here v) g (expr code ways y)) (sym is) (part_var code ways around_here v g))
        (λ y h later said. part_value shape around_here Any Any h (on_next_beside (y ∷ []) (put_element y) (expr code ways d)) (holding (y ∷ []) (expr code ways i)) (part_holding shape around_here Any h (y ∷ []) (expr code ways i) (index_part h))
        (λ k j further any. part_value shape around_here Any Any j (put_element y k) (holding (y ∷ k ∷ []) (expr code ways d)) (part_holding shape around_here Any j (y ∷ k ∷ []) (expr code ways d) (value_part j))
        (λ z l last any_too. part_put_element shape around_here l v y k z locked loud (holds_later around_here v h l y (later_then around_here.quiet h j l further last) said.1)))))
      where
        locked : Locked around_here v true
        locked = locked_around code choice at body this v sites block true
            (subst (λ y. IsLocked shape (choice at) y true sites) is (guarded code sound choice rules passes ways bodies at body is_at this count in_method sites block (s.PutElem e i d) one (record { object = e; field = None; write = true }) (Makes.writes_element e i d)))

        loud : QuietBy code choice at body sites → ⊥
        loud q = q.quiet.no_element e i d (one_in_site one q.site q.there)

  -- a part that asks something of an object
  part_of_object : (c : Around) (e : Expr) (f : ℕ → Meaning) → ((g : View) → Part shape c Any g (expr code ways e)) → ((g : View) (o : ℕ) → Part shape c Any g (f o)) → (g : View) → Part shape c Any g (λ u. on_value (on_object f) (expr code ways e u))
  part_of_object c e f part then g = part_value shape c Any Any g (on_object f) (expr code ways e) (part g) (λ v h later said. part_object shape c Any h f v (λ o is. then h o))

  mutual
    -- a sound statement is safe
    part_stmt : {room : ℕ} {a : Stmt} {sites : List Site} {block : List Stmt} → SoundStmt scope room a → PlacedOne body sites block a → (g : View) → Part shape (around_at sites block) Any g (stmt code ways n a)
    part_stmt {sites = sites} {block = block} (SoundStmt.assign {i = i} {a = e} there fine) one g = part_as shape (around_at sites block) Any g _ _ (stmt_Assign code ways n i e)
        (part_value shape (around_at sites block) (SharedIf (is_clean (choice at) e)) Any g (assign i) (expr code ways e) (safe one (e ∷ []) fine (does_Assign i e) (head_there e []) g)
        (λ y h later said. part_assign shape (around_at sites block) (is_clean (choice at) e) i y h (λ chosen. rules.assigned at body i e is_at (one_in_body one) chosen) (λ grade held. unassigned code choice at body sites i e grade (one_in_site one) held) said))
    part_stmt {sites = sites} {block = block} (SoundStmt.put_field {a = e} {b = d} {f = f} fine places other) one g =
        let writes_it : IsGuarded shape (choice at) body.named e (Some f) true sites = guarded code sound choice rules passes ways bodies at body is_at this count in_method sites block (s.PutField e f d) one (record { object = e; field = Some f; write = true }) (Makes.writes_field e f d) in
        part_written sites block e d f one (variable_of e writes_it.0).0 (variable_of e writes_it.0).1 (safe_any one (e ∷ d ∷ []) other (does_PutField e f d) (later_there e (d ∷ []) d (head_there d []))) g
    part_stmt {sites = sites} {block = block} (SoundStmt.put_element {a = e} {b = i} {c = d} fine index other) one g =
        let writes_it : IsLocked shape (choice at) e true sites = guarded code sound choice rules passes ways bodies at body is_at this count in_method sites block (s.PutElem e i d) one (record { object = e; field = None; write = true }) (Makes.writes_element e i d) in
        part_set sites block e i d one (variable_of e writes_it.holds.is_variable).0 (variable_of e writes_it.holds.is_variable).1 (safe_any one (e ∷ i ∷ d ∷ []) index (does_PutElem e i d) (later_there e (i ∷ d ∷ []) i (head_there i (d ∷ []))))
        (safe_any one (e ∷ i ∷ d ∷ []) other (does_PutElem e i d) (later_there e (i ∷ d ∷ []) d (later_there i (d ∷ []) d (head_there d [])))) g
    part_stmt {sites = sites} {block = block} (SoundStmt.put_root {r = r} {a = e} there fine) one g = part_as shape (around_at sites block) Any g _ _ (stmt_PutRoot code ways n r e)
        (part_value shape (around_at sites block) Any Any g (put_root r) (expr code ways e) (safe_any one (e ∷ []) fine (does_PutRoot r e) (head_there e []) g)
        (λ v h later said. part_put_root shape (around_at sites block) h r v (inl there) (λ q. q.quiet.no_root r e (one_in_site one q.site q.there))))
    part_stmt {sites = sites} {block = block} (SoundStmt.evaluate {a = e} fine) one g = part_as shape (around_at sites block) Any g _ _ (stmt_Eval code ways n e) (safe_any one (e ∷ []) fine (does_Eval e) (head_there e []) g)
    part_stmt {sites = sites} {block = block} (SoundStmt.conditional {a = e} {all = all} {others = others} fine some rest) one g = part_as shape (around_at sites block) Any g _ _ (stmt_If code ways n e all others)
        (part_value shape (around_at sites block) Any Any g (branch (seq (map (stmt code ways n) all)) (seq (map (stmt code ways n) others))) (expr code ways e) (safe_any one (e ∷ []) fine (does_If e all others) (head_there e []) g)
        (λ v h later said. part_branch shape (around_at sites block) h _ _ v (part_block some (placed_all e all others one) h) (part_block rest (placed_others e all others one) h)))
    part_stmt {sites = sites} {block = block} (SoundStmt.loop {a = e} {all = all} fine some) one g = part_as shape (around_at sites block) Any g _ _ (stmt_While code ways n e all)
        (part_moving shape (around_at sites block) Any g (spun (expr code ways e) (seq (map (stmt code ways n) all)) n)
        (part_spun shape (around_at sites block) (expr code ways e) (seq (map (stmt code ways n) all)) (safe_any one (e ∷ []) fine (does_While e all) (head_there e [])) (part_block some (placed_loop e all one)) n g))
    part_stmt {sites = sites} {block = block} (SoundStmt.locked {a = e} {grade = grade} {all = all} fine some) one g = part_as shape (around_at sites block) Any g _ _ (stmt_Sync code ways n e grade all)
        (part_site sites block e grade all one (seq (map (stmt code ways n) all)) (part_block some (placed_locked e grade all one)) (var_or_none scope fine) fine g)
    part_stmt {sites = sites} {block = block} (SoundStmt.wait {a = e} fine) one g = part_as shape (around_at sites block) Any g _ _ (stmt_Wait code ways n e)
        (part_of_object (around_at sites block) e (λ o. wait 0 (Mon o)) (safe_any one (e ∷ []) fine (does_Wait e) (head_there e [])) (λ h o. part_wait shape (around_at sites block) h 0 (Mon o)) g)
    part_stmt {sites = sites} {block = block} (SoundStmt.timed_wait {a = e} {b = d} fine other) one g = part_as shape (around_at sites block) Any g _ _ (stmt_TimedWait code ways n e d)
        (part_value shape (around_at sites block) Any Any g (on_next timed_wait (expr code ways d)) (expr code ways e) (safe_any one (e ∷ d ∷ []) fine (does_TimedWait e d) (head_there e (d ∷ [])) g)
        (λ y h later said. part_value shape (around_at sites block) Any Any h (timed_wait y) (holding (y ∷ []) (expr code ways d)) (part_holding shape (around_at sites block) Any h (y ∷ []) (expr code ways d) (safe_any one (e ∷ d ∷ []) other (does_TimedWait e d) (later_there e (d ∷ []) d (head_there d [])) h))
        (λ z i further any. part_timed_wait shape (around_at sites block) i y z)))
    part_stmt {sites = sites} {block = block} (SoundStmt.notify {a = e} fine) one g = part_as shape (around_at sites block) Any g _ _ (stmt_Notify code ways n e)
        (part_of_object (around_at sites block) e (λ o. tell (request.Notify (Mon o))) (safe_any one (e ∷ []) fine (does_Notify e) (head_there e []))
        (λ h o. part_tell shape (around_at sites block) h (request.Notify (Mon o)) (λ i this vars later stands. tt) (λ i r later comes. later_itself _ i)) g)
    part_stmt {sites = sites} {block = block} (SoundStmt.notify_all {a = e} fine) one g = part_as shape (around_at sites block) Any g _ _ (stmt_NotifyAll code ways n e)
        (part_of_object (around_at sites block) e (λ o. tell (request.NotifyAll (Mon o))) (safe_any one (e ∷ []) fine (does_NotifyAll e) (head_there e []))
        (λ h o. part_tell shape (around_at sites block) h (request.NotifyAll (Mon o)) (λ i this vars later stands. tt) (λ i r later comes. later_itself _ i)) g)
    part_stmt {sites = sites} {block = block} (SoundStmt.print {a = e} fine) one g = part_as shape (around_at sites block) Any g _ _ (stmt_Print code ways n e)
        (part_value shape (around_at sites block) Any Any g (λ v. tell (request.Print v)) (expr code ways e) (safe_any one (e ∷ []) fine (does_Print e) (head_there e []) g)
        (λ v h later said. part_tell shape (around_at sites block) h (request.Print v) (λ i this vars later stands. tt) (λ i r later comes. later_itself _ i)))
    part_stmt {sites = sites} {block = block} SoundStmt.leave one g = part_as shape (around_at sites block) Any g _ _ (stmt_Return code ways n None) (part_leaves shape (around_at sites block) Any g value.Null)
    part_stmt {sites = sites} {block = block} (SoundStmt.answer {a = e} fine) one g = part_as shape (around_at sites block) Any g _ _ (stmt_Return code ways n (Some e))
        (part_value shape (around_at sites block) Any Any g Leaves (expr code ways e) (safe_any one (e ∷ []) fine (does_Return e) (head_there e []) g) (λ v h later said. part_leaves shape (around_at sites block) Any h v))

    -- so each of a block, one after the other
    pub part_block : {room : ℕ} {all : List Stmt} {sites : List Site} {block : List Stmt} → SoundBlock scope room all → Placed body sites block all → (g : View) → Part shape (around_at sites block) Any g (seq (map (stmt code ways n) all))
    part_block {sites = sites} {block = block} SoundBlock.done placed g = part_gives shape (around_at sites block) Any g value.Null (λ h later. tt)
    part_block {sites = sites} {block = block} (SoundBlock.next {a = a} {rest = rest} fine others) placed g = part_value shape (around_at sites block) Any Any g (λ v. seq (map (stmt code ways n) rest)) (stmt code ways n a) (part_stmt fine (placed_first placed) g)
        (λ v h later said. part_block others (placed_rest placed) h)

-- What the rules say is around a place, and what a site and an access take from it.
use Rattle.std.proofs.Common.{◌≡◌, ◌⊎◌, inl, inr, refl, ℕ, ◌<◌, eqb, cond, Bool, true, false, All, List, [], ◌∷◌, Option, None, Some, subst, sym, ap, ◌∙◌}
use Rattle.std.specs.Prelude.{Contains, slice_get}
use Rattle.std.proofs.lemmas.Bool.{eqb-true}
use Rattle.std.proofs.lemmas.List.Elements.{All-head, All-tail}
use Rattle.dso_base.specs.declared.lock.Grade.{Grade}
use Rattle.dso_base.specs.declared.shape.FieldShape.{FieldShape}
use Rattle.dso_base.specs.declared.shape.Guard.{Guard}
use Rattle.dso_base.specs.declared.shape.Guard.TheVariants as guard
use Rattle.dso_base.specs.declared.value.Kind.{Kind}
use Rattle.dso_base.specs.declared.value.Value.{Value}
use Rattle.dso_base.specs.declared.value.Value.TheVariants as value
use Rattle.dso_base.specs.Shape.{fields_at}
use Rattle.dso_machine.specs.declared.code.Code.{Code}
use Rattle.dso_machine.specs.declared.tree.Expr.{Expr}
use Rattle.dso_machine.specs.declared.tree.Expr.TheFolds.{fold-roll-Expr}
use Rattle.dso_machine.specs.declared.tree.Expr.TheOpen as ef
use Rattle.dso_machine.specs.declared.tree.Expr.TheVariants as x
use Rattle.dso_machine.specs.declared.tree.FieldRef.{FieldRef}
use Rattle.dso_machine.specs.declared.tree.Stmt.{Stmt}
use Rattle.dso_machine.specs.declared.tree.Stmt.TheVariants as s
use Rattle.dso_machine.specs.Calls.{lookup}
use Rattle.dso_machine.specs.Outcome.{Environment}
use Rattle.dso_lint.specs.declared.answer.Place.{Place}
use Rattle.dso_lint.specs.Routines.{Routine}
use Rattle.dso_lint.specs.Trees.{StandsIn, Uses}
use Rattle.dso_lint.specs.Sites.{Site}
use Rattle.dso_lint.specs.Clean.{Chosen, Choice, clean_step, is_clean, IsClean}
use Rattle.dso_lint.specs.Access.{IsQuiet, IsVariable, HoldsWell, IsLocked, IsNamed, ByLock, ByGuard, IsGuarded}
use Rattle.dso_lint.specs.Upgrades.{Calls, LeadsTo, MayWriteMonitor, MayWriteName}
use Rattle.dso_lint.proofs.standing.Trees.{head_there, later_there, cons_cases}
use Rattle.dso_lint_law.proofs.parts.Parts.{Var, value_of, Around}
use Rattle.dso_lint_law.proofs.parts.Entries.{AreHolds}
use Rattle.dso_lint_law.proofs.parts.Accesses.{Locked, Named, FieldGuarded}

-- a variable as an expression
abbrev pub expr_of : Var → Expr
expr_of Var.This = x.This
expr_of (Var.Numbered i) = x.Var i

-- a variable of the rules is one of these
pub variable_of : (a : Expr) → IsVariable a → (v : Var) × (a ≡ expr_of v)
variable_of _ (IsVariable.variable i) = (Var.Numbered i, refl)
variable_of _ IsVariable.this = (Var.This, refl)

-- ---- what is clean, form by form

module _ (chosen : Chosen) where
  pub clean_Var : (i : ℕ) → is_clean chosen (x.Var i) ≡ chosen.variable i
  clean_Var i = ap (is_clean chosen) (sym (x.rolls-Var i)) ∙ fold-roll-Expr Bool (clean_step chosen) (ef.Var i)

  pub clean_This : is_clean chosen x.This ≡ chosen.this
  clean_This = ap (is_clean chosen) (sym x.rolls-This) ∙ fold-roll-Expr Bool (clean_step chosen) ef.This

  pub clean_Field : (a : Expr) (f : FieldRef) → is_clean chosen (x.Field a f) ≡ is_clean chosen a
  clean_Field a f = ap (is_clean chosen) (sym (x.rolls-Field a f)) ∙ fold-roll-Expr Bool (clean_step chosen) (ef.Field a f)

  pub clean_Elem : (a b : Expr) → is_clean chosen (x.Elem a b) ≡ is_clean chosen a
  clean_Elem a b = ap (is_clean chosen) (sym (x.rolls-Elem a b)) ∙ fold-roll-Expr Bool (clean_step chosen) (ef.Elem a b)

  pub clean_Call : (a : Expr) (callees : List (ℕ × ℕ)) (args : List Expr) → is_clean chosen (x.Call a callees args) ≡ false
  clean_Call a callees args = ap (is_clean chosen) (sym (x.rolls-Call a callees args)) ∙ fold-roll-Expr Bool (clean_step chosen) (ef.Call a callees args)

  pub clean_NewObject : (class : ℕ) → is_clean chosen (x.NewObject class) ≡ false
  clean_NewObject class = ap (is_clean chosen) (sym (x.rolls-NewObject class)) ∙ fold-roll-Expr Bool (clean_step chosen) (ef.NewObject class)

  pub clean_NewArray : (k : Kind) (a : Expr) → is_clean chosen (x.NewArray k a) ≡ false
  clean_NewArray k a = ap (is_clean chosen) (sym (x.rolls-NewArray k a)) ∙ fold-roll-Expr Bool (clean_step chosen) (ef.NewArray k a)

-- ---- lists

-- what holds of all places holds of the one that is found
found_of : (P : ℕ × ℕ → Type 0) (class first place : ℕ) (others : Option ℕ) (b : Bool) (p : ℕ) → eqb first class ≡ b → P (first, place) → (others ≡ Some p → P (class, p)) → cond b (Some place) others ≡ Some p → P (class, p)
found_of P class first place others true p is here rest found =
    let same : place ≡ p = cc found in
    subst (λ q. P (class, q)) same (subst (λ c. P (c, place)) (eqb-true first class is) here)
found_of P class first place others false p is here rest found = rest found

pub all_found : (P : ℕ × ℕ → Type 0) (places : List (ℕ × ℕ)) (class p : ℕ) → All P places → lookup places class ≡ Some p → P (class, p)
all_found P [] class p all found = absurd (cc found)
all_found P (place ∷ places) class p all found = found_of P class place.0 place.1 (lookup places class) (eqb place.0 class) p refl (All-head P place places all) (all_found P places class p (All-tail P place places all)) found

-- a place that is found is one of the list
pub contains_found : (places : List (ℕ × ℕ)) (class p : ℕ) → lookup places class ≡ Some p → Contains places (class, p)
contains_found [] class p found = absurd (cc found)
contains_found (place ∷ places) class p found = by (lookup places class) (contains_found places class p) (eqb place.0 class) refl found
  where
    by : (others : Option ℕ) → (others ≡ Some p → Contains places (class, p)) → (b : Bool) → eqb place.0 class ≡ b → cond b (Some place.1) others ≡ Some p → Contains (place ∷ places) (class, p)
    by others later true is here =
        let same : place.1 ≡ p = cc here in
        let one : place ≡ (class, p) = λ i. (eqb-true place.0 class is i, same i) in
        subst (Contains (place ∷ places)) one (head_there place places)
    by others later false is rest = later_there place places (class, p) (later rest)

-- what a guard asks by weaker words
by_more : (own other : Type 0) (named more : ℕ → Type 0) → (own → other) → ((n : ℕ) → named n → more n) → (field : Option FieldShape) → ByGuard own named field → ByGuard other more field
by_more own other named more so also None is = so is
by_more own other named more so also (Some field) is = by field.guard is
  where
    by : (g : Guard) → ByLock own named g → ByLock other more g
    by guard.Own is = so is
    by (guard.Name n) is = also n is

-- ---- calls lead on

-- where more stands, calls lead to no less
uses_more : (block other : List Stmt) (e : Expr) → ((b : Stmt) → StandsIn b block → StandsIn b other) → Uses block e → Uses other e
uses_more block other e more uses = record { statement = uses.statement; stands = more uses.statement uses.stands; evaluates = uses.evaluates }

calls_more : (block other : List Stmt) (m : ℕ) → ((b : Stmt) → StandsIn b block → StandsIn b other) → Calls block m → Calls other m
calls_more block other m more calls = record { receiver = calls.receiver; callees = calls.callees; args = calls.args; class = calls.class; uses = uses_more block other _ more calls.uses; may = calls.may }

leads_more : (code : Code) (m : ℕ) (block other : List Stmt) → ((b : Stmt) → StandsIn b block → StandsIn b other) → LeadsTo code m block → LeadsTo code m other
leads_more code m block other more (LeadsTo.calls c) = LeadsTo.calls (calls_more block other m more c)
leads_more code m block other more (LeadsTo.onward k c is leads) = LeadsTo.onward k (calls_more block other k more c) is leads

pub monitors_more : (code : Code) (block other : List Stmt) → ((b : Stmt) → StandsIn b block → StandsIn b other) → MayWriteMonitor code block → MayWriteMonitor code other
monitors_more code block other more (inl site) = inl (record { lock = site.lock; grade = site.grade; all = site.all; stands = more (s.Sync site.lock site.grade site.all) site.stands; allows = site.allows })
monitors_more code block other more (inr (m, leads, writer)) = inr (m, leads_more code m block other more leads, writer)

module _ (code : Code) (choice : Choice) (at : Place) (body : Routine) where
  -- the clean variables
  abbrev pub chosen_var : Var → Bool
  chosen_var Var.This = (choice at).this
  chosen_var (Var.Numbered i) = (choice at).variable i

  -- one of the sites holds the variable well, at this grade
  pub record HeldBy (sites : List Site) (v : Var) (grade : Grade) : Type 0 where
    pub site : Site
    pub there : Contains sites site
    pub holds : HoldsWell code.shape (choice at) (expr_of v) site
    pub at_grade : site.grade ≡ grade

  -- one of the sites publishes nothing
  pub record QuietBy (sites : List Site) : Type 0 where
    pub site : Site
    pub there : Contains sites site
    pub quiet : IsQuiet code.shape site.block

  -- a named lock that may be wanted at Write in the body: a root's own, or one that calls lead to
  abbrev pub Names : ℕ → Type 0
  Names n = (n < code.shape.roots) ⊎ MayWriteName code n body.statements

  -- what is around a place with these sites, in this block
  abbrev pub around : (Value → Type 0) → List Site → List Stmt → Around
  around this sites block = record { this = this; clean = chosen_var; holds = HeldBy sites; quiet = QuietBy sites; named = body.named; monitors = MayWriteMonitor code block; names = Names }

  -- a clean variable is a chosen one
  pub chosen_is : (v : Var) → is_clean (choice at) (expr_of v) ≡ chosen_var v
  chosen_is Var.This = clean_This (choice at)
  chosen_is (Var.Numbered i) = clean_Var (choice at) i

  -- a site more
  abbrev pub site_of : Expr → Grade → List Stmt → Site
  site_of lock grade all = record { lock = lock; grade = grade; block = all }

  -- The holds in the block of a site: its own, where it is a good one, and those around.
  pub holds_in_block : (this : Value → Type 0) (lock : Expr) (grade : Grade) (all : List Stmt) (sites : List Site) (block : List Stmt) (a : Environment) (o : ℕ) → ((w : Var) → lock ≡ expr_of w → value_of a w ≡ value.Ref o)
      → AreHolds code.shape (around this sites block) a o grade (QuietBy (site_of lock grade all ∷ sites)) (HeldBy (site_of lock grade all ∷ sites))
  holds_in_block this lock grade all sites block a o locks = record { each = each; quieter = λ q. record { site = q.site; there = later_there new sites q.site q.there; quiet = q.quiet } }
    where
      new : Site
      new = site_of lock grade all

      each : (w : Var) (y : Grade) → HeldBy (new ∷ sites) w y → HeldBy sites w y ⊎ ((y ≡ grade) × (value_of a w ≡ value.Ref o) × ((chosen_var w ≡ true) ⊎ QuietBy (new ∷ sites)))
      each w y held = by (cons_cases new sites held.site held.there)
        where
          good : IsClean (choice at) (expr_of w) ⊎ IsQuiet code.shape held.site.block → (chosen_var w ≡ true) ⊎ QuietBy (new ∷ sites)
          good (inl clean) = inl (sym (chosen_is w) ∙ clean)
          good (inr quiet) = inr (record { site = held.site; there = held.there; quiet = quiet })

          by : (new ≡ held.site) ⊎ Contains sites held.site → HeldBy sites w y ⊎ ((y ≡ grade) × (value_of a w ≡ value.Ref o) × ((chosen_var w ≡ true) ⊎ QuietBy (new ∷ sites)))
          by (inr old) = inl (record { site = held.site; there = old; holds = held.holds; at_grade = held.at_grade })
          by (inl it) = inr (sym held.at_grade ∙ ap (λ (q : Site). q.grade) (sym it), locks w (ap (λ (q : Site). q.lock) it ∙ held.holds.locks), good held.holds.good)

  -- an access that the rule guards is guarded by what is around
  pub locked_around : (this : Value → Type 0) (v : Var) (sites : List Site) (block : List Stmt) (write : Bool) → IsLocked code.shape (choice at) (expr_of v) write sites → Locked (around this sites block) v write
  locked_around this v sites block write locked = (locked.site.grade, record { site = locked.site; there = locked.around; holds = locked.holds; at_grade = refl }, locked.allows)

  named_around : (this : Value → Type 0) (sites : List Site) (block : List Stmt) (write : Bool) (n : ℕ) → IsNamed body.named write n → Named (around this sites block) write n
  named_around this sites block write n named = (named.grade, named.is, named.allows)

  pub field_around : (this : Value → Type 0) (v : Var) (f : FieldRef) (sites : List Site) (block : List Stmt) (write : Bool) → IsGuarded code.shape (choice at) body.named (expr_of v) (Some f) write sites
      → FieldGuarded code.shape (around this sites block) v f write
  field_around this v f sites block write guarded = record {
    all = λ class place found. by_more (IsLocked code.shape (choice at) (expr_of v) write sites) (Locked (around this sites block) v write) (IsNamed body.named write) (Named (around this sites block) write)
        (locked_around this v sites block write) (named_around this sites block write) (slice_get (fields_at code.shape class) place)
        (all_found (λ place. ByGuard (IsLocked code.shape (choice at) (expr_of v) write sites) (IsNamed body.named write) (slice_get (fields_at code.shape place.0) place.1)) f.places class place guarded.1 found);
  }

  -- a variable that is locked around isn't assigned in the block of its site
  pub unassigned : (sites : List Site) (i : ℕ) (a : Expr) (grade : Grade) → ((site : Site) → Contains sites site → StandsIn (s.Assign i a) site.block) → HeldBy sites (Var.Numbered i) grade → ⊥
  unassigned sites i a grade stands held = held.holds.stays i a refl (stands held.site held.there)

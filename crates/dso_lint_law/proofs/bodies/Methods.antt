-- A method that is called: its environment, its named lock, its monitor, its body.
use Rattle.std.proofs.Common.{◌≡◌, ◌⊎◌, inl, inr, refl, ℕ, zero, suc, ◌-◌, ◌≤◌, ◌<◌, arith, Bool, true, false, List, [], ◌∷◌, ◌++◌, length, Option, None, Some, subst, sym, ap, ◌∙◌}
use Rattle.std.specs.Prelude.{replicate, slice_get, slice_index_or, IfSome}
use Rattle.dso_base.specs.declared.lock.Grade.{Grade}
use Rattle.dso_base.specs.declared.lock.LockName.TheVariants.{Mon}
use Rattle.dso_base.specs.declared.shape.Shape.{Shape}
use Rattle.dso_base.specs.declared.value.Value.{Value}
use Rattle.dso_base.specs.declared.value.Value.TheVariants as value
use Rattle.dso_machine.specs.declared.code.Code.{Code}
use Rattle.dso_machine.specs.declared.code.Method.{Method}
use Rattle.dso_machine.specs.declared.tree.Expr.TheVariants as x
use Rattle.dso_machine.specs.Calls.{variables, back_in, callee, in_callee, under_name, under_monitor, run_method, MethodMeanings}
use Rattle.dso_machine.specs.Outcome.{Environment, Outcome, Wants, Gives, Leaves, Fails, Hears, Over, Stopped, Meaning, moving}
use Rattle.dso_machine.specs.Sound.{IsMethodLock}
use Rattle.dso_machine.proofs.protocol.Parts.{refilled}
use Rattle.dso_lint.specs.declared.answer.Place.{Place}
use Rattle.dso_lint.specs.declared.answer.Place.TheVariants as place
use Rattle.dso_lint.specs.Routines.{Routine, of_method, IsAt}
use Rattle.dso_lint.specs.Sites.{Site, own_sites, whole_site}
use Rattle.dso_lint.specs.Clean.{Choice, KeepsRules}
use Rattle.dso_lint.specs.Access.{writes}
use Rattle.dso_lint.specs.Upgrades.{LocksForWrite, TakesForWrite, IsWriter, MayWriteMonitor, MayWriteName, NeverUpgrades}
use Rattle.dso_lint.specs.Verdict.{Passes}
use Rattle.dso_lint.proofs.standing.Trees.{none_there}
use Rattle.dso_lint_law.proofs.parts.Views.{View, Shared, Later, later_itself, later_any}
use Rattle.dso_lint_law.proofs.parts.Parts.{Obeys, keeps_on, Var, value_in, value_of, Around, keeps_itself, Stands, StandsAt, stands_later, Any, Fine, Part, part_moving}
use Rattle.dso_lint_law.proofs.parts.Locks.{Inside, part_inside, Enters, keeps_under}
use Rattle.dso_lint_law.proofs.parts.Entries.{AreHolds, enters_monitor}
use Rattle.dso_lint_law.proofs.parts.Accesses.{any_still, part_under_lock}
use Rattle.dso_lint_law.proofs.bodies.Rules.{expr_of, HeldBy, QuietBy, Names, chosen_var, around, site_of, holds_in_block}

-- the body of a method, as the rules see it
abbrev pub body_of_method : Method → Routine
body_of_method m = record { statements = m.body; params = m.params; named = m.named; synced = m.synced }

-- what isn't false is true
pub not_false : (b : Bool) → (b ≡ false → ⊥) → b ≡ true
not_false true other = refl
not_false false other = absurd (other refl)

-- so many values behind which there are nulls: those are no objects
pub nulls_shared : (g : View) (args : List Value) (count i : ℕ) → length args ≤ i → Shared g (slice_index_or (args ++ replicate count value.Null) i value.Null)
nulls_shared g [] zero i le = tt
nulls_shared g [] (suc count) zero le = tt
nulls_shared g [] (suc count) (suc i) le = nulls_shared g [] count i (omega arith)
nulls_shared g (v ∷ args) count zero le = absurd (omega (arith, le))
nulls_shared g (v ∷ args) count (suc i) le = nulls_shared g args count i (omega (arith, le))

-- the environment of a method, in a part of another one, in which something may be published
module _ (shape : Shape) (c d : Around) (loud : c.quiet → ⊥) where
  later_loud : (g h : View) → Later d.quiet g h → Later c.quiet g h
  later_loud g h later = later_any c.quiet d.quiet g h (λ q. absurd (loud q)) later

  -- at its end the environment of the caller is the thread's again
  back_at_end : (h : View) (caller inner : Environment) → Stands shape c h caller → (e : Outcome) (i : View) → Fine shape d Any h inner e i → Obeys shape (Fine shape c Any h caller) i (λ rs. back_in caller (refilled rs e))
  back_at_end h caller inner stands (Gives v u) i fine = Obeys.ends (Gives value.Null (record u { environment = caller })) (λ rs. refl)
      (later_loud h i fine.0, tt, stands_later shape c h i caller.this caller.vars (later_loud h i fine.0) stands, keeps_itself c caller)
  back_at_end h caller inner stands (Leaves v u) i fine = Obeys.ends (Gives v (record u { environment = caller })) (λ rs. refl)
      (later_loud h i fine, tt, stands_later shape c h i caller.this caller.vars (later_loud h i fine) stands, keeps_itself c caller)
  back_at_end h caller inner stands (Fails fault u) i fine = Obeys.ends (Fails fault (record u { environment = caller })) (λ rs. refl) (later_loud h i fine)
  back_at_end h caller inner stands Stopped i fine = Obeys.ends Stopped (λ rs. refl) tt
  back_at_end h caller inner stands (Wants q env) i fine = absurd fine
  back_at_end h caller inner stands (Hears r u) i fine = absurd fine
  back_at_end h caller inner stands Over i fine = absurd fine

  pub part_callee : (g : View) (this : Value) (vars : List Value) (m : Meaning) → ((h : View) (caller_this : Value) (caller_vars : List Value) → Later c.quiet g h → StandsAt shape c h caller_this caller_vars → StandsAt shape d h this vars)
      → ((h : View) → Part shape d Any h m) → Part shape c Any g (in_callee this vars m)
  part_callee g this vars m stands part = record {
    from = λ h u later standing.
        let inner : Environment = callee this vars u.environment in
        keeps_on shape (Fine shape d Any h inner) (Fine shape c Any h u.environment) (back_in u.environment) (λ q env. refl)
        ((part h).from h (record u { environment = inner }) (later_itself d.quiet h) (stands h u.environment.this u.environment.vars later standing))
        (back_at_end h u.environment inner standing);
  }

module _ (code : Code) (choice : Choice) (rules : KeepsRules code choice) (passes : (at : Place) → Passes code choice at) (m : ℕ) (method : Method) (found : slice_get code.methods m ≡ Some method) where
  abbrev at : Place
  at = place.Method (suc m)

  abbrev body : Routine
  body = body_of_method method

  is_at : IsAt code at body
  is_at = ap of_method found

  never : NeverUpgrades code body
  never = (passes at).upgrade body is_at

  -- where the method, its locks among it, may want a monitor at Write, and a named lock
  abbrev pub MethodMonitors : Type 0
  MethodMonitors = IsWriter code m ⊎ MayWriteMonitor code body.statements

  abbrev pub MethodNames : ℕ → Type 0
  MethodNames n = (n < code.shape.roots) ⊎ (TakesForWrite n method.named ⊎ MayWriteName code n body.statements)

  -- what is around before the method's locks, around its named lock, and around its body
  abbrev pub before_locks : ℕ → Around
  before_locks o = record { this = λ v. v ≡ value.Ref o; clean = chosen_var code choice at body; holds = λ v y. ⊥; quiet = ⊥; named = None; monitors = MethodMonitors; names = MethodNames }

  abbrev under_its_name : Option (ℕ × Grade) → ℕ → Around
  under_its_name named o = record { this = λ v. v ≡ value.Ref o; clean = chosen_var code choice at body; holds = λ v y. ⊥; quiet = ⊥; named = named; monitors = MethodMonitors; names = Names code choice at body }

  abbrev pub in_body : List Site → ℕ → Around
  in_body sites o = around code choice at body (λ v. v ≡ value.Ref o) sites body.statements

  -- ---- its monitor

  -- it takes none
  part_unsynced : (o : ℕ) (g : View) (rest : Meaning) → ((i : View) → Part code.shape (in_body [] o) Any i rest) → Part code.shape (under_its_name method.named o) Any g rest
  part_unsynced o g rest part = part_inside code.shape (under_its_name method.named o) (in_body [] o) (record { clean = λ v is. is; holds = λ v y there. absurd there; quiet = λ q. absurd q }) Any Any any_still g rest
      (λ h this vars later stands. record {
        this_is = stands.this_is;
        clean = stands.clean;
        holds = λ v y held. absurd (none_there held.site held.there);
        named = stands.named;
        free = record { counts = stands.free.counts; monitors = λ may. stands.free.monitors (inr may); names = stands.free.names };
        roots = stands.roots;
      })
      (λ h later. part h)

  -- it takes it at this grade
  module _ (grade : Grade) (synced : method.synced ≡ Some grade) (o : ℕ) where
    abbrev own_site : List Site
    own_site = site_of code choice at body x.This grade body.statements ∷ []

    only_this : (v : Var) → x.This ≡ expr_of v → v ≡ Var.This
    only_this Var.This is = refl
    only_this (Var.Numbered i) is = absurd (cc is)

    own_holds : (a : Environment) → a.this ≡ value.Ref o → AreHolds code.shape (under_its_name method.named o) a o grade (QuietBy code choice at body own_site) (HeldBy code choice at body own_site)
    own_holds a this_is = record {
      each = λ v y held. by v y ((holds_in_block code choice at body (λ v. v ≡ value.Ref o) x.This grade body.statements [] body.statements a o (λ w is. ap (value_of a) (only_this w is) ∙ this_is)).each v y held);
      quieter = λ q. absurd q;
    }
      where
        by : (v : Var) (y : Grade) → HeldBy code choice at body [] v y ⊎ ((y ≡ grade) × (value_of a v ≡ value.Ref o) × ((chosen_var code choice at body v ≡ true) ⊎ QuietBy code choice at body own_site))
            → ⊥ ⊎ ((y ≡ grade) × (value_of a v ≡ value.Ref o) × ((chosen_var code choice at body v ≡ true) ⊎ QuietBy code choice at body own_site))
        by v y (inl held) = absurd (none_there held.site held.there)
        by v y (inr own) = inr own

    is_writer : writes grade ≡ true → MethodMonitors
    is_writer w = inl (inr (inr (body, is_at, inr (subst LocksForWrite (sym synced) w))))

    entry : (h : View) (a : Environment) → Stands code.shape (under_its_name method.named o) h a → Enters code.shape (in_body own_site o) (in_body own_site o) h a (Mon o) grade
    entry h a stands = enters_monitor code.shape (under_its_name method.named o) h a stands o grade (QuietBy code choice at body own_site) (MayWriteMonitor code body.statements) (HeldBy code choice at body own_site)
        (own_holds a stands.this_is) is_writer (λ may. inr may) (λ may. not_false (writes grade) (λ reads. never.whole grade synced reads may))

    part_synced : (g : View) (rest : Meaning) → ((i : View) → Part code.shape (in_body own_site o) Any i rest) → Part code.shape (under_its_name method.named o) Any g (under_monitor (Some grade) o rest)
    part_synced g rest part = record {
      from = λ h u later stands. keeps_under code.shape (under_its_name method.named o) (in_body own_site o) (in_body own_site o) within within Any Any any_still [] h u stands (Mon o) grade rest (entry h u.environment stands) (part _) (part _);
    }
      where
        within : Inside (under_its_name method.named o) (in_body own_site o)
        within = record { clean = λ v is. is; holds = λ v y there. absurd there; quiet = λ q. absurd q }

  part_monitor : (synced : Option Grade) → method.synced ≡ synced → (o : ℕ) (g : View) (rest : Meaning) → ((i : View) → Part code.shape (in_body (own_sites body) o) Any i rest) → Part code.shape (under_its_name method.named o) Any g (under_monitor synced o rest)
  part_monitor None is o g rest part = part_unsynced o g rest (λ i. subst (λ s. Part code.shape (in_body (whole_site s body.statements) o) Any i rest) is (part i))
  part_monitor (Some grade) is o g rest part = part_synced grade is o g rest (λ i. subst (λ s. Part code.shape (in_body (whole_site s body.statements) o) Any i rest) is (part i))

  -- ---- its named lock

  fewer : (n : ℕ) → Names code choice at body n → MethodNames n
  fewer n (inl below) = inl below
  fewer n (inr may) = inr (inr may)

  part_named : (named : Option (ℕ × Grade)) → method.named ≡ named → IfSome method.named (IsMethodLock code.shape) → (o : ℕ) (g : View) (rest : Meaning) → ((i : View) → Part code.shape (under_its_name method.named o) Any i rest)
      → Part code.shape (before_locks o) Any g (under_name named rest)
  part_named None is fine o g rest part = part_inside code.shape (before_locks o) (under_its_name method.named o) (record { clean = λ v c. c; holds = λ v y there. there; quiet = λ q. q }) Any Any any_still g rest
      (λ h this vars later stands. record {
        this_is = stands.this_is;
        clean = stands.clean;
        holds = stands.holds;
        named = λ n grade there. absurd (cc (sym is ∙ there));
        free = record { counts = stands.free.counts; monitors = stands.free.monitors; names = λ n may. stands.free.names n (fewer n may) };
        roots = stands.roots;
      })
      (λ h later. part h)
  part_named (Some (n, grade)) is fine o g rest part = part_under_lock code.shape (before_locks o) Any any_still g [] n grade (Names code choice at body) (λ w. inr (inl (subst (TakesForWrite n) (sym is) (refl, w)))) fewer only rest
      (λ i. subst (λ named. Part code.shape (under_its_name named o) Any i rest) is (part i))
    where
      lock_is : IsMethodLock code.shape (n, grade)
      lock_is = subst (λ named. IfSome named (IsMethodLock code.shape)) is fine

      only : Names code choice at body n → writes grade ≡ true
      only (inl below) =
          let above : code.shape.roots ≤ n = lock_is.no_root in
          absurd (omega (arith, below, above))
      only (inr may) = not_false (writes grade) (λ reads. never.name n grade is reads may)

  -- ---- the whole method

  module _ (c : Around) (loud : c.quiet → ⊥) (monitors : MethodMonitors → c.monitors) (names : (n : ℕ) → MethodNames n → c.names n) where
    -- what stands before the method's locks, with arguments for its parameters
    stands_before : (h : View) (this : Value) (vars : List Value) (o : ℕ) (args : List Value) → method.params ≡ length args → ((choice at).this ≡ true → Shared h (value.Ref o)) → StandsAt code.shape c h this vars
        → StandsAt code.shape (before_locks o) h (value.Ref o) (variables method.vars args)
    stands_before h this vars o args params receiver stands = record {
      this_is = refl;
      clean = by;
      holds = λ v y there. absurd there;
      named = λ n grade is. absurd (cc is);
      free = record { counts = stands.free.counts; monitors = λ may. stands.free.monitors (monitors may); names = λ n may. stands.free.names n (names n may) };
      roots = stands.roots;
    }
      where
        behind : (i : ℕ) → (choice at).variable i ≡ true → length args ≤ i
        behind i chosen = no_less (length args) i (λ less. cc (sym chosen ∙ rules.params at body i is_at (subst (λ n. i < n) (sym params) less)))
          where
            no_less : (n k : ℕ) → (k < n → ⊥) → n ≤ k
            no_less n k other = omega (arith, other)

        by : (v : Var) → chosen_var code choice at body v ≡ true → Shared h (value_in (value.Ref o) (variables method.vars args) v)
        by Var.This chosen = receiver chosen
        by (Var.Numbered i) chosen = nulls_shared h args (method.vars - length args) i (behind i chosen)

    -- the method, where its body is safe
    pub part_run : (ways : MethodMeanings) (g : View) (o : ℕ) (args : List Value) → IfSome method.named (IsMethodLock code.shape) → method.params ≡ length args → ((choice at).this ≡ true → Shared g (value.Ref o))
        → ((i : View) → Part code.shape (in_body (own_sites body) o) Any i (ways m)) → Part code.shape c Any g (run_method ways m method o args)
    part_run ways g o args fine params receiver part = part_callee code.shape c (before_locks o) loud g (value.Ref o) (variables method.vars args) _
        (λ h this vars later stands. stands_before h this vars o args params (λ chosen. later.shared o (receiver chosen)) stands)
        (λ h. part_named method.named refl fine o h (under_monitor method.synced o (moving (ways m)))
        (λ i. part_monitor method.synced refl o i (moving (ways m)) (λ j. part_moving code.shape (in_body (own_sites body) o) Any j (ways m) (part j))))

-- Sites at Read from which a lock may be taken at Write, and the upgrade rule.
use Rattle.std.proofs.Common.{◌≡◌, inl, inr, refl, false, List, sym, subst, ap, ◌∙◌}
use Rattle.std.specs.Prelude.{Option, None, Some}
use Rattle.dso_base.specs.declared.lock.Grade.{Grade}
use Rattle.dso_machine.specs.declared.code.Code.{Code}
use Rattle.dso_machine.specs.declared.tree.Expr.{Expr}
use Rattle.dso_machine.specs.declared.tree.Stmt.{Stmt, Stmt-F, out-Stmt, out-roll-Stmt}
use Rattle.dso_machine.specs.declared.tree.Stmt.TheOpen as sf
use Rattle.dso_machine.specs.declared.tree.Stmt.TheVariants as s
use Rattle.dso_lint.specs.Access.{writes}
use Rattle.dso_lint.specs.Routines.{Routine}
use Rattle.dso_lint.specs.Trees.{StandsIn}
use Rattle.dso_lint.specs.Upgrades.{MayWriteMonitor, NeverUpgrades}
use Rattle.dso_lint.specs.Upgrading.{UpgradesAt, UpgradesName, UpgradesSite, UpgradesWhole}

-- a `synchronized` statement has one grade and one block
abbrev grade_and_block : Stmt-F Stmt → Option (Grade × List Stmt)
grade_and_block (sf.Sync a grade all) = Some (grade, all)
grade_and_block other = None

pub sync_same : (a b : Expr) (g h : Grade) (xs ys : List Stmt) → s.Sync a g xs ≡ s.Sync b h ys → (g ≡ h) × (xs ≡ ys)
sync_same a b g h xs ys is =
    let out : out-Stmt (s.Sync a g xs) ≡ sf.Sync a g xs = ap out-Stmt (sym (s.rolls-Sync a g xs)) ∙ out-roll-Stmt (sf.Sync a g xs) in
    let other : out-Stmt (s.Sync b h ys) ≡ sf.Sync b h ys = ap out-Stmt (sym (s.rolls-Sync b h ys)) ∙ out-roll-Stmt (sf.Sync b h ys) in
    let both : grade_and_block (sf.Sync a g xs) ≡ grade_and_block (sf.Sync b h ys) = ap grade_and_block (sym out ∙ ap out-Stmt is ∙ other) in
    let first : Grade × List Stmt = (g, xs) in
    let second : Grade × List Stmt = (h, ys) in
    let same : first ≡ second = cc both in
    (ap (λ (p : Grade × List Stmt). p.0) same, ap (λ (p : Grade × List Stmt). p.1) same)

module _ (code : Code) where
  pub site_upgrades : (a : Stmt) (lock : Expr) (grade : Grade) (all : List Stmt) → a ≡ s.Sync lock grade all → writes grade ≡ false → MayWriteMonitor code all → UpgradesAt code a
  site_upgrades a lock grade all is reads may = record { lock = lock; grade = grade; all = all; is = is; reads = reads; may = may }

  pub upgrades_site : (a : Stmt) (lock : Expr) (grade : Grade) (all : List Stmt) → a ≡ s.Sync lock grade all → UpgradesAt code a → (writes grade ≡ false) × MayWriteMonitor code all
  upgrades_site a lock grade all is up =
      let same = sync_same up.lock lock up.grade grade up.all all (sym up.is ∙ is) in
      (ap writes (sym same.0) ∙ up.reads, subst (MayWriteMonitor code) same.1 up.may)

  -- the rule holds where no site of the body upgrades, nor its own, nor its named lock
  pub never : (body : Routine) → ((a : Stmt) → StandsIn a body.statements → UpgradesAt code a → ⊥) → (UpgradesWhole code body → ⊥) → (UpgradesName code body → ⊥) → NeverUpgrades code body
  never body sites whole name = record {
    statements = λ lock grade all stands reads may. sites (s.Sync lock grade all) stands (site_upgrades (s.Sync lock grade all) lock grade all refl reads may);
    whole = λ grade is reads may. whole (record { grade = grade; is = is; reads = reads; may = may });
    name = λ lock grade is reads may. name (record { lock = lock; grade = grade; is = is; reads = reads; may = may });
  }

  pub never_at : (body : Routine) (a : Stmt) → NeverUpgrades code body → StandsIn a body.statements → UpgradesAt code a → ⊥
  never_at body a rule stands up = rule.statements up.lock up.grade up.all (subst (λ (b : Stmt). StandsIn b body.statements) up.is stands) up.reads up.may

  pub never_whole : (body : Routine) → NeverUpgrades code body → UpgradesWhole code body → ⊥
  never_whole body rule up = rule.whole up.grade up.is up.reads up.may

  pub never_name : (body : Routine) → NeverUpgrades code body → UpgradesName code body → ⊥
  never_name body rule up = rule.name up.lock up.grade up.is up.reads up.may

  -- the same where neither the sites of the body nor its own are told apart
  pub never_of : (body : Routine) → (UpgradesSite code body → ⊥) → (UpgradesName code body → ⊥) → NeverUpgrades code body
  never_of body site name = never body (λ a stands up. site (inl (a, stands, up))) (λ up. site (inr up)) name

  pub never_site : (body : Routine) → NeverUpgrades code body → UpgradesSite code body → ⊥
  never_site body rule (inl up) = never_at body up.0 rule up.1 up.2
  never_site body rule (inr up) = never_whole body rule up

-- What the lock checker answers.
use Rattle.std.specs.Prelude.{◌<◌}
use Rattle.dso_machine.specs.declared.code.Code.{Code}
use Rattle.dso_lint.specs.declared.answer.Lint.{Lint}
use Rattle.dso_lint.specs.declared.answer.Lint.TheVariants.{Yes, No}
use Rattle.dso_lint.specs.declared.answer.Place.{Place}
use Rattle.dso_lint.specs.declared.answer.Place.TheVariants.{Method, Thread}
use Rattle.dso_lint.specs.declared.answer.Why.{Why}
use Rattle.dso_lint.specs.declared.answer.Why.TheVariants as why
use Rattle.dso_lint.specs.Routines.{Routine, IsAt}
use Rattle.dso_lint.specs.Clean.{Choice, IsCleanChoice}
use Rattle.dso_lint.specs.Access.{KeepsAccess}
use Rattle.dso_lint.specs.Upgrades.{NeverUpgrades}

-- the first place stands before the second: methods before threads, each in their order
abbrev pub IsBefore : Place → Place → Type 0
IsBefore (Method k) (Method m) = k < m
IsBefore (Method k) (Thread m) = Unit {0}
IsBefore (Thread k) (Method m) = ⊥
IsBefore (Thread k) (Thread m) = k < m

module _ (code : Code) (choice : Choice) where
  -- the access rule holds at the place, and the upgrade rule does
  abbrev pub KeepsAccessAt : Place → Type 0
  KeepsAccessAt at = (body : Routine) → IsAt code at body → KeepsAccess code.shape (choice at) body

  abbrev pub NeverUpgradesAt : Place → Type 0
  NeverUpgradesAt at = (body : Routine) → IsAt code at body → NeverUpgrades code body

  -- both rules hold at the place
  pub record Passes (at : Place) : Type 0 where
    pub access : KeepsAccessAt at
    pub upgrade : NeverUpgradesAt at

  -- why the place fails: the access rule doesn't hold there; or it does, and the upgrade rule doesn't
  abbrev pub Fails : Place → Why → Type 0
  Fails at why.Access = KeepsAccessAt at → ⊥
  Fails at why.Upgrade = KeepsAccessAt at × (NeverUpgradesAt at → ⊥)

  -- Yes where both rules hold everywhere, else the first place that fails, and why
  abbrev pub Tells : Lint → Type 0
  Tells Yes = (at : Place) → Passes at
  Tells (No at reason) = Fails at reason × ((other : Place) → IsBefore other at → Passes other)

-- The answer is right of the code, by its clean variables.
pub record IsVerdict (code : Code) (answer : Lint) : Type 0 where
  pub choice : Choice
  pub clean : IsCleanChoice code choice
  pub tells : Tells code choice answer

use Rattle.std.proofs.Common.{◌≡◌, ℕ, get_or, sym, subst, ap, ◌∙◌}
use Rattle.std.specs.Prelude.{Some}
use Rattle.std.proofs.lemmas.List.{get_or_read}
use Rattle.dso_base.specs.declared.lock.Grade.{Grade}
use Rattle.dso_lint.specs.declared.tables.Named.{Named}
use Rattle.dso_lint.specs.Access.{writes}
use Rattle.dso_lint.specs.Lists.{Lists}
use Rattle.dso_lint.specs.Tables.{AreTakers}
use Rattle.dso_lint.specs.Trees.{Uses}
use Rattle.dso_lint.specs.Upgrades.{MayWriteName}
use Rattle.dso_lint.proofs.upgrading.Writers.{may_takers, takers_may}
use Rattle.dso_lint.proofs.upgrades.upgrades_name.Goals as goal

-- the lock that is taken, and its grade
same_lock : (taken other : ℕ × Grade) → Some taken ≡ Some other → (taken.0 ≡ other.0) × (taken.1 ≡ other.1)
same_lock taken other same = let one : taken ≡ other = cc same in (ap (λ (t : ℕ × Grade). t.0) one, ap (λ (t : ℕ × Grade). t.1) one)

pub returns-in-None-clause-is : goal.returns-in-None-clause-is
returns-in-None-clause-is c code routine listed same are is = (λ q. absurd (cc q), λ up. absurd (cc (sym c.in-None.is ∙ is.named ∙ up.is)))

pub returns-then-writes-clause-is : goal.returns-then-writes-clause-is
returns-then-writes-clause-is c code routine listed same are is = (
  λ q. absurd (cc q),
  λ up.
      let one = same_lock (c.in-Some.lock, c.in-Some.grade) (up.lock, up.grade) (sym c.in-Some.is ∙ is.named ∙ up.is) in
      absurd (cc (sym up.reads ∙ ap writes (sym one.1) ∙ sym c.writes.ensures ∙ c.if-writes.true)),
)

pub returns-in_ok-place-in-Some-clause-is : goal.returns-in_ok-place-in-Some-clause-is
returns-in_ok-place-in-Some-clause-is c code routine listed same are is =
    let block = routine.statements in
    let lock = c.in-Some.lock in
    let place = c.in_ok-place-in-Some.place in
    let tables = c.table.new.self in
    let at = c.in_ok-place-in-Some.ensures.place in
    let right = c.in_ok-place-in-Some.ensures.right code listed same are in
    let one = c.index.result.now in
    let is_one : one ≡ get_or tables.names.items place one = get_or_read tables.names.items place one at.there c.index.ensures one in
    let lock_is : one.lock ≡ lock = ap (λ (named : Named). named.lock) is_one ∙ at.lock_is one in
    let mine : AreTakers code one.lock one.leading.items = subst (λ (named : Named). AreTakers code named.lock named.leading.items) (sym is_one) (right.names place one at.there) in
    let takers : AreTakers code lock one.leading.items = subst (λ n. AreTakers code n one.leading.items) lock_is mine in
    let marked : AreTakers code lock c.as_slice-leading.result.now = subst (AreTakers code lock) (sym c.as_slice-leading.ensures.value) takers in
    let lists : Lists (Uses block) c.as_slice.result.now = subst (Lists (Uses block)) (sym c.as_slice.ensures.value) is.expressions in
    let calls = c.calls_marked.ensures block lists in (
      λ q. record {
        lock = lock;
        grade = c.in-Some.grade;
        is = sym is.named ∙ c.in-Some.is;
        reads = sym c.writes.ensures ∙ c.if-writes.false;
        may = takers_may code block c.as_slice-leading.result.now lock marked (calls.0 q);
      },
      λ up.
          let one_lock = same_lock (lock, c.in-Some.grade) (up.lock, up.grade) (sym c.in-Some.is ∙ is.named ∙ up.is) in
          let may : MayWriteName code lock block = subst (λ n. MayWriteName code n block) (sym one_lock.0) up.may in
          calls.1 (may_takers code block c.as_slice-leading.result.now lock marked may),
    )

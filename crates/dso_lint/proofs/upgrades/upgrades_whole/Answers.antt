use Rattle.std.proofs.Common.{◌≡◌, sym, ap, ◌∙◌}
use Rattle.std.specs.Prelude.{Some}
use Rattle.dso_lint.specs.Access.{writes}
use Rattle.dso_lint.proofs.upgrades.upgrades_whole.Goals as goal

pub returns-in-None : goal.returns-in-None
returns-in-None c code routine are is = (λ q. absurd (cc q), λ up. absurd (cc (sym c.in-None.is ∙ is.synced ∙ up.is)))

pub returns-then-writes : goal.returns-then-writes
returns-then-writes c code routine are is = (
  λ q. absurd (cc q),
  λ up.
      let one : Some c.in-Some.grade ≡ Some up.grade = sym c.in-Some.is ∙ is.synced ∙ up.is in
      let grade : c.in-Some.grade ≡ up.grade = cc one in
      absurd (cc (sym up.reads ∙ ap writes (sym grade) ∙ sym c.writes.ensures ∙ c.if-writes.true)),
)

pub returns-else-writes : goal.returns-else-writes
returns-else-writes c code routine are is =
    let so = c.may_write.ensures code routine are is in (
      λ q. record { grade = c.in-Some.grade; is = sym is.synced ∙ c.in-Some.is; reads = sym c.writes.ensures ∙ c.if-writes.false; may = so.0 q },
      λ up. so.1 up.may,
    )

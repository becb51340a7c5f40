use Rattle.std.proofs.Common.{◌≡◌, sym, ◌∙◌, ap, subst, ◌&&◌, is_some, Some}
use Rattle.dso_base.specs.declared.lock.LockName.{LockName}
use Rattle.dso_law.specs.Closing.{is_lease_due}
use Rattle.dso_law.specs.Leases.{leased}
use Rattle.dso_client.specs.MessageEffects.{heard}
use Rattle.dso_client.specs.TakenMessages.{Settles}
use Rattle.dso_client.proofs.due.Returned.{none_settles}
use Rattle.dso_client.proofs.due_lease.settle.Goals as goal

-- what is there is one thing
one : (a b : LockName) → Some a ≡ Some b → a ≡ b
one a b e = cc e

pub returns-else-is_lease_due-clause-settles : goal.returns-else-is_lease_due-clause-settles
returns-else-is_lease_due-clause-settles c = λ clock m at h quiet facts touches.
    let old = c.args.kept.now in
    let mid = (heard clock m at).entries in
    subst (λ items. Settles clock m at items old) (sym c.new.ensures.items)
    (none_settles clock m at old h quiet (λ l e.
    ap (λ k. is_some (leased k mid) && is_lease_due at.settings at.client at.next k mid) (one l c.in-Some.lock (sym e ∙ (touches ∙ c.in-Some.is))) ∙ sym (c.if-is_lease_due.ensures (heard clock m at) h facts.holdless)))

pub returns-in-None-clause-settles : goal.returns-in-None-clause-settles
returns-in-None-clause-settles c = λ clock m at h quiet facts touches.
    subst (λ items. Settles clock m at items c.args.kept.now) (sym c.new-in-None.ensures.items)
    (none_settles clock m at c.args.kept.now h quiet (λ l e. absurd (cc (sym e ∙ (touches ∙ c.in-None.is)))))

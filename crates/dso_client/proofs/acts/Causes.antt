-- Why a thread waits whose request has a reply once its needs are met: for a need that isn't met.
use Rattle.std.proofs.Common.{◌≡◌, refl, sym, ◌∙◌, ap, subst, Option, Some, None}
use Rattle.dso_base.specs.declared.lock.ThreadId.{ThreadId}
use Rattle.dso_base.specs.declared.request.Request.{Request}
use Rattle.dso_law.specs.ClientStep.{can_do}
use Rattle.dso_law.specs.RequestNeeds.{Need, unmet}
use Rattle.dso_client.specs.declared.cause.Cause.{Cause}
use Rattle.dso_client.specs.RunPoints.{RunPoint}
use Rattle.dso_client.specs.Turns.{IsAnswerable, IsCause, IsOfNeed, Waits}

pub exact_cause : (at : RunPoint) (t : ThreadId) (request : Request) (told : Cause) → Waits at t request told → IsAnswerable at t request → IsOfNeed at t request told
exact_cause at t request told w answerable = by (unmet at.settings at.client at.next t request at.entries) refl
  where
    by : (need : Option Need) → unmet at.settings at.client at.next t request at.entries ≡ need → IsOfNeed at t request told
    by None e = absurd (cc (sym (answerable e) ∙ (sym (ap (λ need. can_do at.settings t request need at.entries) e) ∙ w.closed)))
    by (Some need) e = record { need = need; lacks = e; names = subst (λ n. IsCause at t request n told) e w.of_need }

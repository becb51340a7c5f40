-- The request that is out, where a reply is listed.
use Rattle.std.proofs.Common.{◌≡◌, refl, sym, subst, Option, Some, None}
use Rattle.dso_base.specs.declared.request.Reply.{Reply}
use Rattle.dso_base.specs.declared.request.Request.{Request}
use Rattle.dso_base.specs.Following.{IsListedFor}

-- there is one
pub listed_for : (next : Option Request) (reply : Reply) → IsListedFor next reply → (request : Request) × (next ≡ Some request)
listed_for None reply l = absurd l
listed_for (Some request) reply l = (request, refl)

pub listed_still : (next out : Option Request) (reply : Reply) → ((request : Request) → next ≡ Some request → out ≡ Some request) → IsListedFor next reply → IsListedFor out reply
listed_still None out reply same l = absurd l
listed_still (Some request) out reply same l = subst (λ r. IsListedFor r reply) (sym (same request refl)) l

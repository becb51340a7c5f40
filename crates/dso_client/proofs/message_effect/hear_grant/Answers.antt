use Rattle.std.proofs.Common.{◌≡◌, refl, ◌∙◌, Some}
use Rattle.dso_lease.specs.Leases.{standing_in, with_standing, granted_at}
use Rattle.dso_client.proofs.heard.Locks.{grant_asked, grant_heard, on_true}
use Rattle.dso_client.proofs.message_effect.hear_grant.Goals as goal

pub returns-clause-heard : goal.returns-clause-heard
returns-clause-heard c = λ clock at h facts asked.
    let l = c.args.lock in
    let old = c.args.lock_state.now in
    let new = record old { leases = c.granted.new.self; lists = c.take.new.map } in
    grant_heard clock at l old h c.args.level new refl
    (on_true c.granted.result (standing_in new.leases ≡ with_standing l (Some (granted_at c.args.level)) (standing_in old.leases))
    (c.granted.ensures.asked ∙ grant_asked clock at l old h (facts.apart l) asked) c.granted.ensures.leased) c.take.ensures.gone

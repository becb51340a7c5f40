use Rattle.std.proofs.Common.{refl, ◌∙◌, ap, ◌++◌, [], ◌∷◌}
use Rattle.dso_client.proofs.due.Returned.{one_settles}
use Rattle.dso_client.proofs.due_lease.settle_one.Goals as goal

pub returns-clause-settles : goal.returns-clause-settles
returns-clause-settles c = λ clock m at h quiet facts touches is.
    let old = c.args.kept.now in
    one_settles clock m at c.args.lock old (record old { lock_state = c.give_back.new.lock_state }) c.push.new.self.items h quiet facts touches is
    (c.in_ok-push.ensures.items ∙ (ap (λ items. items ++ c.give_back.result ∷ []) c.new-sent.ensures.items ∙ ap (λ m. m ∷ []) c.give_back.ensures.message)) refl
    c.give_back.ensures.holds c.give_back.ensures.given_up c.give_back.ensures.unlisted

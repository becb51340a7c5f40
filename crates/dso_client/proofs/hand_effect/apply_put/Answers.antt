use Rattle.std.proofs.Common.{◌≡◌, sym, ◌∙◌, ap, is_some, true, false}
use Rattle.std.proofs.lemmas.Result.{on_ok_weaker}
use Rattle.dso_change.specs.Hands.{hand_of}
use Rattle.dso_change.proofs.HandChanges.{private_put, shared_put}
use Rattle.dso_txn.specs.InHand.{bodies_in}
use Rattle.dso_client.proofs.objects.Found.{copied_there}
use Rattle.dso_client.proofs.hand_effect.apply_put.Goals as goal

pub returns-then-is_some-clause-work : goal.returns-then-is_some-clause-work
returns-then-is_some-clause-work c = λ work once same.
    let context = c.args.context.now in
    let set = c.args.set in
    let there : is_some (bodies_in context.privates set.object) ≡ true = ap is_some (sym c.get.ensures) ∙ (sym (copied_there c.get.result) ∙ (sym c.is_some.ensures ∙ c.if-is_some.true)) in
    private_put context.privates.bodies context.block.draft work same c.set.new.self.bodies set.object set.field set.value there c.set.ensures.written

pub returns-clause-work : goal.returns-clause-work
returns-clause-work c =
    let context = c.args.context.now in
    let set = c.args.set in
    let none : is_some (bodies_in context.privates set.object) ≡ false = ap is_some (sym c.get.ensures) ∙ (sym (copied_there c.get.result) ∙ (sym c.is_some.ensures ∙ c.if-is_some.false)) in
    on_ok_weaker c.put.result (λ puts. λ work once same. puts work once same ∙ ap (λ w. hand_of w) (shared_put context.privates.bodies context.block.draft work same set.object set.field set.value none)) c.put.ensures.work

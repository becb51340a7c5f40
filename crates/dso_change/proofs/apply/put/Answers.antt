use Rattle.std.proofs.Common.{◌∙◌, sym, ap}
use Rattle.std.proofs.lemmas.Result.{on_ok_weaker}
use Rattle.dso_change.specs.Hands.{hand_of}
use Rattle.dso_change.proofs.HandChanges.{private_put, shared_put}
use Rattle.dso_change.proofs.apply.put.Goals as goal

pub returns-then-contains_key : goal.returns-then-contains_key
returns-then-contains_key c = λ work once same. private_put c.args.privates.now c.args.draft.now work same c.set_in.new.bodies c.args.set.object c.args.set.field c.args.set.value (sym c.contains_key.ensures ∙ c.if-contains_key.true) c.set_in.ensures.written

pub returns-else-contains_key : goal.returns-else-contains_key
returns-else-contains_key c = on_ok_weaker c.put.result (λ puts work once same. puts work once same ∙ ap (λ w. hand_of w) (shared_put c.args.privates.now c.args.draft.now work same c.args.set.object c.args.set.field c.args.set.value (sym c.contains_key.ensures ∙ c.if-contains_key.false))) c.put.ensures

use Rattle.std.proofs.Common.{◌∙◌, sym}
use Rattle.std.proofs.lemmas.Result.{on_ok_weaker}
use Rattle.dso_change.proofs.HandChanges.{new_put, set_put}
use Rattle.dso_change.proofs.draft.put_shared.Goals as goal

pub returns-then-contains_key : goal.returns-then-contains_key
returns-then-contains_key c = λ privates work same. new_put privates c.args.draft.now work same c.set_in.new.bodies c.args.set.object c.args.set.field c.args.set.value (sym c.contains_key.ensures ∙ c.if-contains_key.true) c.set_in.ensures.written

pub returns-else-contains_key : goal.returns-else-contains_key
returns-else-contains_key c = on_ok_weaker c.insert_set.result (λ puts privates work same. set_put privates c.args.draft.now work same c.insert_set.new.sets c.args.set.object c.args.set.field c.args.set.value (sym c.contains_key.ensures ∙ c.if-contains_key.false) puts) c.insert_set.ensures.ok

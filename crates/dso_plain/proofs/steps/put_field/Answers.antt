use Rattle.std.proofs.Common.{rules, sym, subst, ◌≡◌, Bool, OnOk}
use Rattle.dso_plain.specs.After as After
use Rattle.dso_plain.specs.State.{IsShared}
use Rattle.dso_plain.specs.HeapTables.{state_of}
use Rattle.dso_plain.proofs.steps.put_field.Goals as goal

pub returns-then-is_none-clause-state : goal.returns-then-is_none-clause-state
returns-then-is_none-clause-state c =
    let e : IsShared c.args.set.object (state_of c.args.tables.now) = search rules in
    subst (λ (b : Bool). OnOk c.put_shared.result (state_of c.put_shared.new.tables ≡ After.apply (After.put c.args.thread c.args.set.object c.args.set.field c.args.set.value b (state_of c.args.tables.now)) (state_of c.args.tables.now))) (sym e) c.put_shared.ensures.state

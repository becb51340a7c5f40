use Rattle.std.proofs.Common.{ap, is_some, Ok, Err, Result, OnOk, OnErr}
use Rattle.std.specs.Ordering.{nat_cmp}
use Rattle.dso_base.specs.declared.no_memory.NoMemory.{NoMemory}
use Rattle.dso_lookup.specs.Orders.{thread_order}
use Rattle.dso_lookup.specs.Rows.{is_at_pair}
use Rattle.dso_table.proofs.objects.StateChanges.{note_added}
use Rattle.dso_table.proofs.notes.add.Goals as goal

-- what follows from one follows from the other
on_ok : {P Q : Type 0} (r : Result (Unit {0}) NoMemory) → (P → Q) → OnOk r P → OnOk r Q
on_ok (Ok x) f p = f p
on_ok (Err e) f p = tt

-- so on an error
on_err : {P Q : Type 0} (r : Result (Unit {0}) NoMemory) → (P → Q) → OnErr r P → OnErr r Q
on_err (Ok x) f p = tt
on_err (Err e) f p = f p

pub returns-clause-ok : goal.returns-clause-ok
returns-clause-ok c = on_ok c.insert_in.result (λ e. note_added (is_at_pair thread_order nat_cmp c.args.thread c.args.object) _ _ e) c.insert_in.ensures.ok

pub returns-clause-err : goal.returns-clause-err
returns-clause-err c = on_err c.insert_in.result (λ e. ap (λ f. λ key. is_some (f key)) e) c.insert_in.ensures.err

use Rattle.std.proofs.Common.{rules, ◌≡◌, ◌∙◌, sym, ap, []}
use Rattle.dso_law.specs.ServerWaiters.{without_client}
use Rattle.dso_lookup.specs.Orders.{lock_order}
use Rattle.dso_lookup.proofs.MapChanges.{changed_by, emptied}
use Rattle.dso_legal.specs.JournalPassTables.{waiters_in}
use Rattle.dso_legal.proofs.journal_pass.WaiterTables.{nothing_in, leaves_first, leaves_next, leaves_last}
use Rattle.dso_legal.proofs.waiters.lose.Goals as goal

pub loop-lock-init : goal.loop-lock-init
loop-lock-init c =
    let none : c.replace-before.new.dest.entries ≡ [] = search rules in
    leaves_first c.args.client c.replace-before.result c.replace-before.new.dest (nothing_in c.replace-before.new.dest none)

pub loop-lock-preserved : goal.loop-lock-preserved
loop-lock-preserved c =
    let left : c.from_vec.result ≡ without_client c.args.client c.in-Some.list = search rules in
    leaves_next c.args.client c.loop-lock.before c.pop_first.new.self c.loop-lock.waiters c.put.new.map c.in-Some.lock c.in-Some.list c.from_vec.result (sym c.in-Some.ensures.value) left (changed_by lock_order c.loop-lock.before c.pop_first.new.self c.in-Some.lock _ c.in-Some.ensures.updates) c.in_ok-put.ensures ∙ c.loop-lock.invariant

pub returns : goal.returns
returns c = leaves_last c.args.client c.loop-lock.before c.loop-lock.waiters (emptied lock_order c.loop-lock.before (λ h. absurd (cc (c.in_default.ensures.variant.1 h)))) ∙ (c.loop-lock.invariant ∙ ap (λ table. λ l. without_client c.args.client (waiters_in table l)) c.replace-before.ensures.value)

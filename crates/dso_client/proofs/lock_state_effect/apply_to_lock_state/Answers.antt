use Rattle.std.proofs.Common.{◌≡◌, ℕ}
use Rattle.dso_law.specs.Threads.{locks_of}
use Rattle.dso_client.specs.ActEffects.{ListsStand, applied}
use Rattle.dso_client.specs.LockStateStands.{LockStateStands}
use Rattle.dso_client.specs.RunPoints.{RunPoint}
use Rattle.dso_client.specs.RunFacts.{RunFacts}
use Rattle.dso_client.specs.Turns.{AnswersNext}
use Rattle.dso_client.proofs.replies.Outcomes.{on_ok}
use Rattle.dso_client.proofs.lock_state_effect.apply_to_lock_state.Goals as goal

pub returns-clause-stands : goal.returns-clause-stands
returns-clause-stands c =
    let act = c.args.act in
    let old = c.args.lock_state.now in
    let new = record old { holds = c.apply_to_holds.new.holds; leases = c.apply_to_leases.new.leases; lists = c.apply_to_lists.new.lists } in
    on_ok c.apply_to_lists.result ((clock : ℕ) (at : RunPoint) → ListsStand at old.lists → ListsStand (applied clock act at) new.lists)
    ((clock : ℕ) (at : RunPoint) → LockStateStands at old → RunFacts at → c.args.waiting ≡ (locks_of act.thread at.entries).waiting → AnswersNext at act.thread act.request act.reply act.woken
    → LockStateStands (applied clock act at) new)
    (λ lists. λ clock at h facts waits answers. record {
      holds = c.in_ok-apply_to_holds.ensures.stands clock at h.holds facts waits answers;
      leases = c.apply_to_leases.ensures clock at h.leases;
      lists = lists clock at h.lists;
    }) c.apply_to_lists.ensures

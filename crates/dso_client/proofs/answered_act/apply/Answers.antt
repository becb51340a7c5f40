use Rattle.std.proofs.Common.{◌≡◌, ◌≤◌, ℕ, suc, refl, sym, ◌∙◌, ap, subst, arith, Option, Some, None}
use Rattle.std.specs.Option.{option_and_then}
use Rattle.dso_client.specs.declared.thread_context.ThreadContext.{ThreadContext}
use Rattle.dso_client.specs.ThreadActs.{count_again}
use Rattle.dso_client.specs.LockEntries.{count_owed}
use Rattle.dso_client.specs.LockStateStands.{LockStateStands}
use Rattle.dso_client.specs.ContextPlaces.{running, context_in}
use Rattle.dso_client.proofs.contexts.ChangedContexts.{alone_tells}
use Rattle.dso_client.proofs.acts.Bounds.{most_kept, waits_live}
use Rattle.dso_client.proofs.acts.Parts.{stands_applied, applies, waits_so}
use Rattle.dso_client.proofs.answered_act.apply.Goals as goal

pub returns-clause-stands : goal.returns-clause-stands
returns-clause-stands c = λ clock at h.
    let act = c.args.act in
    let shape = c.args.shape.now in
    let old = c.args.kept.now in
    let mid = c.apply_to_objects.new.kept in
    let new = c.apply_to_threads.new.kept in
    let lock_state = c.apply_to_objects.ensures.lock_state in
    stands_applied at shape act old h clock mid new c.in_ok-txn.txn c.in_ok-txn.ensures.alone
    (c.in_ok-txn.ensures.applied clock at (applies at shape act old h c.ending_of-ending.result (c.ending_of-ending.ensures at h.stands.lock_state)))
    c.apply_to_objects.ensures.number lock_state c.apply_to_threads.ensures.contexts
    (c.in_ok-apply_to_threads.ensures.lock_state clock at (subst (LockStateStands at) (sym lock_state) h.stands.lock_state) h.stands.facts (c.waiting_at-waiting.ensures ∙ waits_so at shape act old h) h.answers)
    c.apply_to_threads.ensures.others

pub returns-clause-runs : goal.returns-clause-runs
returns-clause-runs c =
    let mid = c.apply_to_objects.new.kept in
    c.apply_to_threads.ensures.contexts.runs
    ∙ alone_tells running (λ privates block context. refl) c.args.act.thread.index c.args.kept.now.contexts.items mid.contexts.items c.in_ok-txn.ensures.alone

owed_here : (context : Option ThreadContext) → count_owed (option_and_then (λ (context : ThreadContext). context.waiting) context) ≡ count_again context
owed_here None = refl
owed_here (Some context) = refl

pub returns-clause-holds : goal.returns-clause-holds
returns-clause-holds c = λ most h.
    let old = c.args.kept.now in
    let mid = c.apply_to_objects.new.kept in
    let new = c.apply_to_threads.new.kept in
    let index = c.args.act.thread.index in
    let same = alone_tells (λ (context : ThreadContext). context.waiting) (λ privates block context. refl) index old.contexts.items mid.contexts.items c.in_ok-txn.ensures.alone in
    let hm = most_kept old mid (ap (λ lock_state. lock_state.holds) c.apply_to_objects.ensures.lock_state) same most h in
    let owed = subst (λ n. n ≤ most) (sym (ap count_owed c.waiting_at-waiting.ensures ∙ owed_here (context_in old.contexts.items index))) (h.waiting index) in
    let one_more : (n : ℕ) → n ≤ most → n ≤ suc most = λ n less. omega (arith, less) in
    let waits = waits_live mid.lock_state c.args.act most hm.held mid.contexts.items new.contexts.items c.apply_to_threads.ensures.contexts hm.waiting in
    record {
      held = c.in_ok-apply_to_threads.ensures.most most hm.held owed;
      waiting = λ k. one_more (count_again (context_in new.contexts.items k)) (waits k);
    }

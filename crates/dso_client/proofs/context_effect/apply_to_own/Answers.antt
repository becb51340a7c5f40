use Rattle.std.proofs.Common.{sym, ◌∙◌, ap, cond}
use Rattle.dso_base.specs.Following.{is_thread}
use Rattle.dso_plain.proofs.keys.SameKeys.{same_thread, thread_self}
use Rattle.dso_law.specs.Threads.{locks_by, locks_of}
use Rattle.dso_client.proofs.context_effect.apply_to_own.Goals as goal

pub returns-then-eq-clause-waiting : goal.returns-then-eq-clause-waiting
returns-then-eq-clause-waiting c = λ clock at h r.
    let act = c.args.act in
    let t = c.args.context.now.id in
    let es = at.entries in
    let same = same_thread act.thread t (sym c.eq.ensures ∙ c.if-eq.true) in
    let test = ap (λ u. is_thread u act.thread) same ∙ thread_self act.thread in
    c.waiting_after-context.ensures.told at h (r.waiting ∙ ap (λ u. (locks_of u es).waiting) same)
    ∙ (ap (λ u. (locks_by act.request act.reply (locks_of u es)).waiting) (sym same)
    ∙ ap (λ b. (cond b (locks_by act.request act.reply (locks_of t es)) (locks_of t es)).waiting) (sym test))

use Rattle.std.proofs.Common.{◌∙◌, ap, cond}
use Rattle.std.proofs.lemmas.Bool.{both_ways}
use Rattle.dso_base.specs.declared.request.Reply.TheVariants.{Done}
use Rattle.dso_law.specs.Replies.{put_reply}
use Rattle.dso_law.specs.RequestNeeds.{hold_level}
use Rattle.dso_law.specs.Threads.{hold_of, locks_of}
use Rattle.dso_client.proofs.lock_standing.HoldsSome.{listed, unlisted}
use Rattle.dso_client.proofs.reply.put_answer.Goals as goal

pub returns-clause-told : goal.returns-clause-told
returns-clause-told c = λ at stands context.
    let t = c.args.context.now.id in
    let holds = (locks_of t at.entries).holds in
    let some = c.any.ensures in
    c.shared_put.ensures.told holds (λ yes. listed at c.args.lock_state.now t stands (some.0 yes)) (λ no. unlisted at c.args.lock_state.now t stands (λ h. both_ways c.any.result no (some.1 h)))
    ∙ (ap (λ level. put_reply level holds) (c.level_held.ensures at stands)
    ∙ ap (λ b. cond b Done (put_reply (hold_level (hold_of t c.args.guard at.entries)) holds)) (c.if-is_private.ensures at context))

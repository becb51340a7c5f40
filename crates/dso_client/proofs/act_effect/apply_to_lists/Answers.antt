use Rattle.std.proofs.Common.{◌≡◌, ℕ}
use Rattle.dso_base.specs.declared.request.Reply.TheVariants.{Done}
use Rattle.dso_client.specs.ActEffects.{ListsStand, applied}
use Rattle.dso_client.specs.RunPoints.{RunPoint}
use Rattle.dso_client.proofs.replies.Outcomes.{on_ok}
use Rattle.dso_client.proofs.act_effect.apply_to_lists.Goals as goal

pub returns-in-Done : goal.returns-in-Done
returns-in-Done c =
    let old = c.args.lists.now in
    let new = c.done_lists.new.lists in
    on_ok c.done_lists.result ((clock : ℕ) (at : RunPoint) → ListsStand at old → c.args.act.reply ≡ Done → ListsStand (applied clock c.args.act at) new)
    ((clock : ℕ) (at : RunPoint) → ListsStand at old → ListsStand (applied clock c.args.act at) new)
    (λ is. λ clock at h. is clock at h c.in-Done.is) c.done_lists.ensures
